-- Laws of `tally`, `every` and `without`, over any element type: what each says after the list grows, loses or changes an
-- entry. In order: `without`, its length, at a seam, past the end, and in an array (`filled`); `every` of two lists and of parts, after
-- each change, at an entry, and of two tests; `tally` of two lists, after each change, and what it says of the entries; each entry
-- of a part, and of a list of four. `set` at a seam is `set-append_seam` of lib.Seq. Assumes nothing.
use Prim.Native.Nat.{ℕ, zero, suc, ◌+◌, ◌-◌, ◌<◌, ◌≤◌}
use mathlib.Core.Path.{◌≡◌, refl, ap, ◌∙◌}
use mathlib.Core.Bool.{Bool, true, false, cond, not, ◌&&◌}
use mathlib.Core.List.{List, [], ◌∷◌, ◌++◌, append-nil}
use native.Mathlib.Nat.{suc-add}
use native.Mathlib.Omega.{arith}
use lib.Dec.{T}
use lib.ListN.{length, take, drop, get_or, set, replicate, length-append, length-take, length-drop, take-append-drop}
use lib.ListN.{drop_of_length-le}
use lib.Seq.{take-append_seam, drop-append-add, take_all, drop-cons, get_or-take, length-take-le, set_split, take-take}
use Rattle.laws.specs.Lists.{tally, every, last_first, without}
use Rattle.laws.proofs.Tests.{both, halves}

-- what one entry adds to a tally
pub one_le : (t : Bool) → cond t 1 0 ≤ 1
one_le true = omega arith
one_le false = omega arith

pub one_is : (t : Bool) → T t → ◌≡◌ {A = ℕ} (cond t 1 0) 1
one_is true h = refl
one_is false h = absurd h

none_is : (t : Bool) → ◌≡◌ {A = ℕ} (cond t 1 0) 0 → T (not t)
none_is true e = omega arith
none_is false e = tt

module _ {A : Type 0} where
  -- ---- without
  -- the last entry, and then the others
  last_first_lem : (l : List A) (d : A) → 0 < length l → last_first l ≡ get_or l (length l - 1) d ∷ take (length l - 1) l
  last_first_lem l d h =
      let n = length l - 1 in
      let inside : n < length l = omega arith in
      let all : length l ≤ suc n = omega arith in
      rw (drop-cons l n d, drop_of_length-le l {i = suc n})

  -- there is one entry less
  pub length_without : (l : List A) (i : ℕ) → i < length l → length (without i l) + 1 ≡ length l
  length_without l i h = simp (length-append, length-take, length-drop) (omega arith)

  -- the entry at the seam goes
  pub without_split : (before : List A) (x : A) (after : List A)
      → without (length before) (before ++ x ∷ after) ≡ before ++ last_first after
  without_split before x after = rw (take-append_seam, drop-append-add before (x ∷ after) 1)

  -- past the end nothing goes
  pub without_out : (l : List A) (i : ℕ) → length l ≤ i → without i l ≡ l
  without_out l i h =
      let past : length l ≤ i + 1 = omega arith in
      rw (take_all i l, drop_of_length-le l {i = i + 1}, append-nil l)

  -- in an array, whose first entries up to a last one are the list: that one over the entry that goes, and another where it stood
  filled_to : (items : List A) (at last : ℕ) (b d : A) → at ≤ last → last < length items
      → set (set items at (get_or items last d)) last b ≡ without at (take (suc last) items) ++ b ∷ drop (suc last) items
  filled_to [] at last b d h k = absurd (omega arith)
  filled_to (x ∷ items) zero zero b d h k = refl
  filled_to (x ∷ items) zero (suc m) b d h k =
      let inside : m < length items = omega arith in
      let n : length (take (suc m) items) ≡ suc m = length-take-le (suc m) items (omega arith) in
      let some : 0 < length (take (suc m) items) = omega arith in
      let e : suc m - 1 ≡ m = omega arith in
      let last = get_or-take (suc m) items m d (omega arith) in
      let others = take-take m (suc m) items (omega arith) in
      rw (set_split items m b, last_first_lem (take (suc m) items) d, n, e, last, others)
  filled_to (x ∷ items) (suc i) zero b d h k = absurd (omega arith)
  filled_to (x ∷ items) (suc i) (suc m) b d h k =
      rw suc-add (ap (λ (l : List A). x ∷ l) (filled_to items i m b d (omega arith) (omega arith)))

  pub filled : (items : List A) (at len : ℕ) (b d : A) → at < len → len ≤ length items
      → set (set items at (get_or items (len - 1) d)) (len - 1) b ≡ without at (take len items) ++ b ∷ drop len items
  filled items at len b d h k =
      let e : len ≡ suc (len - 1) = omega arith in
      filled_to items at (len - 1) b d (omega arith) (omega arith) ∙ rw (← e)

  -- ---- all
  module _ (test : A → Bool) where
    -- two lists, there and back
    pub every_append : (xs ys : List A) → T (every test xs) → T (every test ys) → T (every test (xs ++ ys))
    every_append [] ys s t = t
    every_append (x ∷ xs) ys s t =
        let h = halves (test x) (every test xs) s in
        both (test x) (every test (xs ++ ys)) h.0 (every_append xs ys h.1 t)

    pub every_parts : (xs ys : List A) → T (every test (xs ++ ys)) → T (every test xs) × T (every test ys)
    every_parts [] ys t = (tt, t)
    every_parts (x ∷ xs) ys t =
        let h = halves (test x) (every test (xs ++ ys)) t in
        let p = every_parts xs ys h.1 in
        (both (test x) (every test xs) h.0 p.0, p.1)

    -- after each change
    pub every_push : (l : List A) (x : A) → T (every test l) → T (test x) → T (every test (l ++ x ∷ []))
    every_push l x s t = every_append l (x ∷ []) s (both (test x) true t tt)

    pub every_put : (l : List A) (i : ℕ) (x : A) → T (every test l) → T (test x) → T (every test (set l i x))
    every_put [] i x s t = tt
    every_put (y ∷ l) zero x s t = both (test x) (every test l) t (halves (test y) (every test l) s).1
    every_put (y ∷ l) (suc i) x s t =
        let h = halves (test y) (every test l) s in
        both (test y) (every test (set l i x)) h.0 (every_put l i x h.1 t)

    -- a part, and the list without one
    pub every_take : (l : List A) (n : ℕ) → T (every test l) → T (every test (take n l))
    every_take l n t = (every_parts (take n l) (drop n l) (rw take-append-drop t)).0

    pub every_drop : (l : List A) (n : ℕ) → T (every test l) → T (every test (drop n l))
    every_drop l n t = (every_parts (take n l) (drop n l) (rw take-append-drop t)).1

    every_last_first : (l : List A) → T (every test l) → T (every test (last_first l))
    every_last_first l t =
        let n = length l - 1 in
        every_append (drop n l) (take n l) (every_drop l n t) (every_take l n t)

    pub every_without : (l : List A) (i : ℕ) → T (every test l) → T (every test (without i l))
    every_without l i t =
        every_append (take i l) (last_first (drop (i + 1) l)) (every_take l i t)
        (every_last_first (drop (i + 1) l) (every_drop l (i + 1) t))

    -- each entry, and copies of one
    pub every_at : (l : List A) (i : ℕ) (d : A) → T (every test l) → i < length l → T (test (get_or l i d))
    every_at [] i d t h = absurd (omega arith)
    every_at (x ∷ l) zero d t h = (halves (test x) (every test l) t).0
    every_at (x ∷ l) (suc i) d t h = every_at l i d (halves (test x) (every test l) t).1 (omega arith)

    -- an entry that is read past the end is the default
    pub every_default : (l : List A) (i : ℕ) (d : A) → T (every test l) → T (test d) → T (test (get_or l i d))
    every_default [] i d t u = u
    every_default (x ∷ l) zero d t u = (halves (test x) (every test l) t).0
    every_default (x ∷ l) (suc i) d t u = every_default l i d (halves (test x) (every test l) t).1 u

    pub every_replicate : (n : ℕ) (x : A) → T (test x) → T (every test (replicate n x))
    every_replicate zero x t = tt
    every_replicate (suc n) x t = both (test x) (every test (replicate n x)) t (every_replicate n x t)

    -- entries that all pass a test which x alone passes are copies of x
    pub every_only : (x : A) → ((y : A) → T (test y) → y ≡ x) → (l : List A) → T (every test l) → l ≡ replicate (length l) x
    every_only x only [] t = refl
    every_only x only (y ∷ l) t =
        let h = halves (test y) (every test l) t in
        let e = only y h.0 in
        let f = every_only x only l h.1 in
        cc

  -- two tests: one that follows from the other, and both at once
  module _ (f g : A → Bool) where
    pub every_mono : (l : List A) → ((x : A) → T (f x) → T (g x)) → T (every f l) → T (every g l)
    every_mono [] m t = tt
    every_mono (x ∷ l) m t =
        let h = halves (f x) (every f l) t in
        both (g x) (every g l) (m x h.0) (every_mono l m h.1)

    pub every_both : (l : List A) → T (every f l) → T (every g l) → T (every (λ x. f x && g x) l)
    every_both [] s t = tt
    every_both (x ∷ l) s t =
        let h = halves (f x) (every f l) s in
        let k = halves (g x) (every g l) t in
        both (f x && g x) (every (λ x. f x && g x) l) (both (f x) (g x) h.0 k.0) (every_both l h.1 k.1)

  -- ---- tally
  module _ (test : A → Bool) where
    pub tally_append : (xs ys : List A) → tally test (xs ++ ys) ≡ tally test xs + tally test ys
    tally_append [] ys = omega arith
    tally_append (x ∷ xs) ys = omega (arith, tally_append xs ys)

    pub tally_push : (l : List A) (x : A) → tally test (l ++ x ∷ []) ≡ tally test l + cond (test x) 1 0
    tally_push l x = omega (arith, tally_append l (x ∷ []))

    -- a change takes away what the old entry added and adds what the new one does
    pub tally_put : (l : List A) (i : ℕ) (x d : A) → i < length l
        → tally test (set l i x) + cond (test (get_or l i d)) 1 0 ≡ tally test l + cond (test x) 1 0
    tally_put [] i x d h = absurd (omega arith)
    tally_put (y ∷ l) zero x d h = omega arith
    tally_put (y ∷ l) (suc i) x d h = omega (arith, tally_put l i x d (omega arith))

    pub tally_last_first : (l : List A) → tally test (last_first l) ≡ tally test l
    tally_last_first l =
        let n = length l - 1 in
        omega (
          arith,
          tally_append (drop n l) (take n l),
          tally_append (take n l) (drop n l),
          ap (tally test) (take-append-drop n l),
        )

    pub tally_without : (l : List A) (i : ℕ) (d : A) → i < length l
        → tally test (without i l) + cond (test (get_or l i d)) 1 0 ≡ tally test l
    tally_without [] i d h = absurd (omega arith)
    tally_without (x ∷ l) zero d h = omega (arith, tally_last_first l)
    tally_without (x ∷ l) (suc i) d h = rw suc-add (omega (arith, tally_without l i d (omega arith)))

    -- from the tally to the entries, and back
    pub tally_le : (l : List A) → tally test l ≤ length l
    tally_le [] = omega arith
    tally_le (x ∷ l) = omega (arith, tally_le l, one_le (test x))

    pub tally_none : (l : List A) → tally test l ≡ 0 → T (every (λ x. not (test x)) l)
    tally_none [] e = tt
    tally_none (x ∷ l) e =
        both (not (test x)) (every (λ x. not (test x)) l) (none_is (test x) (omega arith)) (tally_none l (omega arith))

    pub tally_positive : (l : List A) (i : ℕ) (d : A) → i < length l → T (test (get_or l i d)) → 1 ≤ tally test l
    tally_positive l i d h t = omega (arith, tally_without l i d h, one_is (test (get_or l i d)) t)

  -- ---- entries
  -- what holds of each entry and of the default holds of each entry of a part
  pub each_take : (P : A → Type 0) (d : A) → P d → (n : ℕ) (l : List A) → ((i : ℕ) → P (get_or l i d))
      → (i : ℕ) → P (get_or (take n l) i d)
  each_take P d p zero l each i = p
  each_take P d p (suc n) [] each i = p
  each_take P d p (suc n) (x ∷ l) each zero = each 0
  each_take P d p (suc n) (x ∷ l) each (suc i) = each_take P d p n l (λ j. each (suc j)) i

  -- a list of four is its four entries
  pub four_are : (l : List A) (d : A) → length l ≡ 4 → l ≡ get_or l 0 d ∷ get_or l 1 d ∷ get_or l 2 d ∷ get_or l 3 d ∷ []
  four_are [] d e = absurd (omega arith)
  four_are (w ∷ []) d e = absurd (omega arith)
  four_are (w ∷ x ∷ []) d e = absurd (omega arith)
  four_are (w ∷ x ∷ y ∷ []) d e = absurd (omega arith)
  four_are (w ∷ x ∷ y ∷ z ∷ []) d e = refl
  four_are (w ∷ x ∷ y ∷ z ∷ v ∷ l) d e = absurd (omega arith)
