-- A test of every flag and column, computed once, holds of each (`at_place`). A flag is told by its number (`flag_told`).
-- Assumes nothing.
use Prim.Native.Nat.{ℕ, ◌<◌}
use mathlib.Core.Path.{◌≡◌, sym, subst, ap, ◌∙◌}
use mathlib.Core.Bool.{Bool}
use lib.Dec.{T, ltb, ltb→lt}
use lib.ListN.{length}
use Rattle.laws.specs.Lists.{every}
use Rattle.laws.proofs.Tests.{halves}
use Rattle.laws.proofs.Lists.{every_default}
use Rattle.laws.proofs.Pick.{each_below, each_below_lem}
use Rattle.kinds.specs.declared.Flag.{Flag}
use Rattle.kinds.specs.Numbers.{flag_number, flags, flag_from}
use Rattle.image.proofs.Back.{flag_back}
use Rattle.table.specs.Table.{columns}

pub flag_told : (f g : Flag) → flag_number f ≡ flag_number g → f ≡ g
flag_told f g e = sym (flag_back f) ∙ ap flag_from e ∙ flag_back g

-- a test that every flag passes
pub each_flag : (test : Flag → Bool) → T (every test flags) → (f : Flag) → T (test f)
unfolding flag_from
each_flag test t f =
    let first = (halves (test Flag.Unmapped) _ t).0 in
    subst (λ (g : Flag). T (test g)) (flag_back f) (every_default test flags (flag_number f) Flag.Unmapped t first)

pub flag_below : (f : Flag) → flag_number f < length flags
flag_below f = ltb→lt (flag_number f) (length flags) (each_flag (λ f. ltb (flag_number f) (length flags)) tt f)

-- a test that every flag passes at every column
pub at_place : (test : Flag → ℕ → Bool) → T (every (λ f. each_below (test f) columns) flags)
    → (f : Flag) (c : ℕ) → c < columns → T (test f c)
at_place test t f c k = each_below_lem (test f) columns c (each_flag (λ f. each_below (test f) columns) t f) k
