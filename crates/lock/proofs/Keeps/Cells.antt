-- How the table of steps by shapes is made and read. A cell says of one step that what it leaves is sound where its premises
-- hold; where one fails nothing changes (`settle`). A row lists the steps that may be accepted with their cells, and that
-- every other step fails one of its premises is computed (`others`); `cell_of` then gives the cell of any number.
-- Assumes nothing.
use Rattle.std.specs.Prelude.{Option, Some, None, Err}
use Prim.Native.Nat.{ℕ}
use mathlib.Core.Path.{◌≡◌, refl, sym, subst}
use mathlib.Core.Bool.{Bool, true, false, cond, ◌||◌}
use mathlib.Core.List.{List, [], ◌∷◌}
use borrow.Author.Tests.{ltb-true, ltb-false, eqb-true}
use lib.Dec.{T, eqb, ltb}
use lib.ListN.{get_or, get_or-eq_default}
use Rattle.laws.specs.Lists.{among}
use Rattle.laws.proofs.Tests.{is_true}
use Rattle.laws.proofs.Pick.{each_below, each_below_lem}
use Rattle.kinds.specs.declared.Reader.{Reader}
use Rattle.readers.specs.Listed.{find_in}
use Rattle.readers.proofs.First.{First, found}
use Rattle.page_record.specs.declared.Head.{Head}
use Rattle.soundness.proofs.Facts.{Sound}
use Rattle.requests.specs.declared.{Refusal.Refusal, Request.Request}
use Rattle.requests.specs.Premises.{verdict, Passes}
use Rattle.requests.specs.Requests.{past_last}
use Rattle.requests.proofs.Verdicts.{fails, fails_not}
use Rattle.heads.specs.declared.Decision.{Decision}
use Rattle.heads.specs.Decisions.{Step, settled, is_found, place_of}
use Rattle.steps.specs.Decide.{unknown, steps, sought}
use Rattle.lock.specs.Step.{edited, look_for}

-- ---- a decision
-- what a decision leaves is sound
pub record Kept (l : List Reader) (d : Decision) : Type 0 where
  pub sound : Sound d.head (edited d.edit l)

-- a refusal changes nothing, so the premises may be taken to hold
pub settle : (h : Head) (l : List Reader) (st : Step) (ps : List (Refusal × Bool)) → Sound h l
    → (Passes ps → Sound st.head (edited st.edit l)) → Kept l (settled h st (verdict ps))
settle h l st [] s k = record { sound = k tt }
settle h l st (c ∷ cs) s k = go c.1 k (settle h l st cs s)
  where
    go : (t : Bool) → (T t × Passes cs → Sound st.head (edited st.edit l))
        → ((Passes cs → Sound st.head (edited st.edit l)) → Kept l (settled h st (verdict cs)))
        → Kept l (settled h st (cond t (verdict cs) (Err c.0)))
    go true k rest = rest (λ p. k (tt, p))
    go false k rest = record { sound = s }

-- ---- what is sought
-- what is found stands where it is said to
pub found_first : (l : List Reader) (x : Reader) → T (is_found (find_in l x)) → First l x (place_of (find_in l x))
found_first l x = go (find_in l x) refl
  where
    go : (o : Option ℕ) → find_in l x ≡ o → T (is_found o) → First l x (place_of o)
    go (Some i) e t = found x l i e
    go None e t = absurd t

abbrev pub Finds : List Reader → Option ℕ → Option Reader → Type 0
Finds l found None = Unit {0}
Finds l found (Some x) = T (is_found found) → First l x (place_of found)

pub finds : (l : List Reader) (x : Option Reader) → Finds l (look_for l x) x
unfolding look_for
finds l None = tt
finds l (Some x) = found_first l x

-- ---- a row
module _ (l : List Reader) (q : Request) (found : Option ℕ) (full : Bool) where
  -- the step of a number
  abbrev pub numbered : Head → ℕ → Step
  numbered h n = get_or (steps h q found full) n (unknown h)

  abbrev pub Cell : Head → ℕ → Type 0
  Cell h n =
      Finds l found (get_or (sought q) n None) → Passes (numbered h n).premises
      → Sound (numbered h n).head (edited (numbered h n).edit l)

  abbrev pub Cells : Head → List ℕ → Type 0
  Cells h [] = Unit {0}
  Cells h (n ∷ ns) = Cell h n × Cells h ns

  pub record Row (h : Head) : Type 0 where
    pub numbers : List ℕ
    pub cells : Cells h numbers
    pub others : T (each_below (λ n. among numbers n || fails (numbered h n).premises) past_last)

  cell_among : (h : Head) (n : ℕ) (ns : List ℕ) → Cells h ns → T (among ns n) → Cell h n
  cell_among h n [] c t = absurd t
  cell_among h n (m ∷ ms) c t = go (eqb n m) refl t (cell_among h n ms c.1)
    where
      go : (b : Bool) → eqb n m ≡ b → T (b || among ms n) → (T (among ms n) → Cell h n) → Cell h n
      go true e t rest = subst (λ (k : ℕ). Cell h k) (sym (eqb-true n m e)) c.0
      go false e t rest = rest t

  pub cell_of : (h : Head) → Row h → (n : ℕ) → Cell h n
  cell_of h r n = go (ltb n past_last) refl
    where
      either : (b : Bool) → among r.numbers n ≡ b → T (b || fails (numbered h n).premises) → Cell h n
      either true e t = cell_among h n r.numbers r.cells (is_true e)
      either false e t = λ _ p. absurd (fails_not (numbered h n).premises t p)

      go : (b : Bool) → ltb n past_last ≡ b → Cell h n
      go true e =
          either (among r.numbers n) refl
          (each_below_lem (λ n. among r.numbers n || fails (numbered h n).premises) past_last n r.others (ltb-true n past_last e))
      go false e =
          let u : numbered h n ≡ unknown h = get_or-eq_default (steps h q found full) (unknown h) (ltb-false n past_last e) in
          λ _ p. absurd (subst (λ (st : Step). Passes st.premises) u p).0
