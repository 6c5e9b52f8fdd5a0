-- In a table whose numbers go up from above 0, the first number that applies is the lowest: n is given just if it applies and no
-- lower one does (`first_lowest`), and 0 just if none applies (`first_none`). Of two tables one after the other the first decides
-- where a number of it applies (`first_before`), else the second (`first_after`). Assumes nothing.
use Prim.Native.Nat.{ℕ, ◌≤◌, ◌<◌}
use mathlib.Core.Path.{◌≡◌, refl, sym, ◌∙◌}
use mathlib.Core.Logic.{◌↔◌}
use mathlib.Core.Bool.{Bool, true, false, ◌&&◌, and-false, true≢false, false≢true}
use mathlib.Core.List.{List, [], ◌∷◌, ◌++◌}
use native.Mathlib.Omega.{arith}
use borrow.Author.Tests.{ltb-true, ltb-false, eqb-true, eq-eqb, ne_eqb}
use lib.Dec.{T, eqb, ltb, ltb→lt}
use Rattle.laws.specs.Tables.{first_applying, applies_in, Lowest, ascending}
use Rattle.laws.proofs.Tests.{halves}

-- a number that is at most n is not in a table that starts above n
none_below : (cs : List (ℕ × Bool)) (n m : ℕ) → T (ascending n cs) → m ≤ n → applies_in cs m ≡ false
none_below [] n m up h = refl
none_below (c ∷ cs) n m up h =
    let u = halves (ltb n c.0) (ascending c.0 cs) up in
    let k : n < c.0 = ltb→lt n c.0 u.0 in
    rw (ne_eqb c.0 m (λ e. omega arith)) (none_below cs c.0 m u.1 (omega arith))

-- where the first entry does not apply, the rest decides
passes : (k n : ℕ) → (eqb k n && false) ≡ false
passes k n = and-false (eqb k n)

to : (cs : List (ℕ × Bool)) (low n : ℕ) → T (ascending low cs) → 1 ≤ n → first_applying cs ≡ n → Lowest cs n
to [] low n up h e = absurd (omega arith)
to ((k, true) ∷ cs) low n up h e =
    let u = halves (ltb low k) (ascending k cs) up in
    record {
      applies = rw (eq-eqb k n e) refl;
      none_lower = λ m less. rw (ne_eqb k m (λ f. omega arith)) (none_below cs k m u.1 (omega arith));
    }
to ((k, false) ∷ cs) low n up h e =
    let u = halves (ltb low k) (ascending k cs) up in
    let r = to cs k n u.1 h e in
    record {
      applies = rw (passes k n) r.applies;
      none_lower = λ m less. rw (passes k m) (r.none_lower m less);
    }

from : (cs : List (ℕ × Bool)) (low n : ℕ) → T (ascending low cs) → Lowest cs n → first_applying cs ≡ n
from [] low n up l = absurd (false≢true l.applies)
from ((k, true) ∷ cs) low n up l = go (eqb k n) refl (ltb k n) refl
  where
    -- the first entry applies: were it below n, n would not be the lowest; were it above, n would not be in the table
    go : (t : Bool) → eqb k n ≡ t → (s : Bool) → ltb k n ≡ s → k ≡ n
    go true e s f = eqb-true k n e
    go false e true f =
        let here = rw (eq-eqb k k refl) at (l.none_lower k (ltb-true k n f)) in
        absurd (true≢false here)
    go false e false f =
        let u = halves (ltb low k) (ascending k cs) up in
        let gone = none_below cs k n u.1 (ltb-false k n f) in
        absurd (false≢true (sym gone ∙ (rw e at l.applies)))
from ((k, false) ∷ cs) low n up l =
    let u = halves (ltb low k) (ascending k cs) up in
    from cs k n u.1
    (record {
      applies = rw (passes k n) at l.applies;
      none_lower = λ m less. rw (passes k m) at (l.none_lower m less);
    })

none : (cs : List (ℕ × Bool)) (low : ℕ) → T (ascending low cs) → first_applying cs ≡ 0 → (n : ℕ) → applies_in cs n ≡ false
none [] low up e n = refl
none ((k, true) ∷ cs) low up e n =
    let above : low < k = ltb→lt low k (halves (ltb low k) (ascending k cs) up).0 in
    absurd (omega arith)
none ((k, false) ∷ cs) low up e n =
    let u = halves (ltb low k) (ascending k cs) up in
    rw (passes k n) (none cs k u.1 e n)

free : (cs : List (ℕ × Bool)) → ((n : ℕ) → applies_in cs n ≡ false) → first_applying cs ≡ 0
free [] f = refl
free ((k, true) ∷ cs) f = absurd (true≢false (rw (eq-eqb k k refl) at (f k)))
free ((k, false) ∷ cs) f = free cs (λ n. rw (passes k n) at (f n))

-- ---- the laws
module _ (cs : List (ℕ × Bool)) (up : T (ascending 0 cs)) where
  -- n is given just if it applies and no lower number does
  pub first_lowest : (n : ℕ) → 1 ≤ n → (first_applying cs ≡ n) ↔ Lowest cs n
  first_lowest n h = (to cs 0 n up h, from cs 0 n up)

  -- 0 is given just if none applies
  pub first_none : (first_applying cs ≡ 0) ↔ ((n : ℕ) → applies_in cs n ≡ false)
  first_none = (none cs 0 up, free cs)

-- ---- one table after another
pub first_before : (cs ds : List (ℕ × Bool)) → 0 < first_applying cs → first_applying (cs ++ ds) ≡ first_applying cs
first_before [] ds h = absurd (omega arith)
first_before ((k, true) ∷ cs) ds h = refl
first_before ((k, false) ∷ cs) ds h = first_before cs ds h

after : (cs ds : List (ℕ × Bool)) (low : ℕ) → T (ascending low cs) → first_applying cs ≡ 0
    → first_applying (cs ++ ds) ≡ first_applying ds
after [] ds low up e = refl
after ((k, true) ∷ cs) ds low up e =
    let above : low < k = ltb→lt low k (halves (ltb low k) (ascending k cs) up).0 in
    absurd (omega arith)
after ((k, false) ∷ cs) ds low up e = after cs ds k (halves (ltb low k) (ascending k cs) up).1 e

pub first_after : (cs ds : List (ℕ × Bool)) → T (ascending 0 cs) → first_applying cs ≡ 0
    → first_applying (cs ++ ds) ≡ first_applying ds
first_after cs ds up e = after cs ds 0 up e
