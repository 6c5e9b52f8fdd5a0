-- The words of specs/Lists.antt and specs/Tables.antt by std's, in which chains of iterators say what they answer: `tally` is
-- `count_by` (`tally_is`), and `first_broken` is one more than what `position` finds (`broken_by_position`). Assumes nothing.
use Prim.Native.Nat.{ℕ, ◌+◌}
use mathlib.Core.Path.{◌≡◌, refl, ap, ◌∙◌}
use mathlib.Core.Bool.{Bool, true, false, not, cond}
use mathlib.Core.List.{List, [], ◌∷◌}
use Rattle.std.specs.Prelude.{Option, Some, None, count_by, position}
use Rattle.std.specs.List.{position_from}
use Rattle.std.proofs.lemmas.List.Recursion.{is_sum_by}
use Rattle.std.proofs.lemmas.Iterator.Adapters.{position_from-zero}
use Rattle.laws.specs.Lists.{tally}
use Rattle.laws.specs.Tables.{first_broken}

module _ {A : Type 0} (test : A → Bool) where
  pub tally_is : (l : List A) → tally test l ≡ count_by test l
  tally_is = is_sum_by (tally test) (λ x. cond (test x) 1 0) refl (λ x l. refl)

-- ---- the first test that fails
-- a place, counted from 1; 0 for none
abbrev pub counted_from_1 : Option ℕ → ℕ
counted_from_1 None = 0
counted_from_1 (Some i) = i + 1

broken_from : (n : ℕ) (ts : List Bool) → counted_from_1 (position_from not n ts) ≡ first_broken (n + 1) ts
broken_from n [] = refl
broken_from n (true ∷ ts) = broken_from (n + 1) ts
broken_from n (false ∷ ts) = refl

pub broken_by_position : (ts : List Bool) (o : Option ℕ) → o ≡ position not ts → counted_from_1 o ≡ first_broken 1 ts
broken_by_position ts o e = ap counted_from_1 (e ∙ position_from-zero not ts) ∙ broken_from 0 ts
