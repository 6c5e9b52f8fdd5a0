-- The rows of the table: each has 31 entries (`past_row`), and in the order of the flags they are the array (`array_at`). Assumes nothing.
use Prim.Native.Nat.{ℕ, ◌≤◌}
use mathlib.Core.Path.{◌≡◌, ap, ◌∙◌}
use mathlib.Core.List.{List, map}
use native.Mathlib.Omega.{arith}
use lib.Dec.{eqb, eqb→eq}
use lib.ListN.{length, get_or, get_or-eq_default}
use Rattle.kinds.specs.declared.Flag.{Flag}
use Rattle.std.proofs.lemmas.List.{get_or-map}
use Rattle.kinds.specs.Numbers.{flag_number, flags, flag_from}
use Rattle.image.proofs.Back.{flag_back}
use Rattle.table.specs.Table.{columns, never, entries, entry_at}
use Rattle.table.proofs.Flags.{each_flag, flag_below}

-- past its end a row has nothing
pub past_row : (f : Flag) (c : ℕ) → columns ≤ c → entry_at f c ≡ never
unfolding entry_at
past_row f c k =
    let long = eqb→eq (length (entries f)) columns (each_flag (λ f. eqb (length (entries f)) columns) tt f) in
    get_or-eq_default (entries f) never (omega arith)

-- the rows in the order of the flags' numbers: what the code has
abbrev pub array : List (List ℕ)
array = map entries flags

pub array_at : (f : Flag) (d : List ℕ) → get_or array (flag_number f) d ≡ entries f
unfolding flag_from
array_at f d = get_or-map entries flags (flag_number f) Flag.Unmapped d (flag_below f) ∙ ap entries (flag_back f)
