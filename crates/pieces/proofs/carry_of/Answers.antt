-- The bytes are copied over the first of fifteen zeros.
use Rattle.std.proofs.Common.{ℕ, List, ◌++◌, refl, ap, sym, ◌∙◌, length, drop}
use Rattle.std.proofs.Math.Seq.{take-length}
use lib.ListN.{replicate}
use Rattle.pieces.specs.Carries.{carry_size}
use Rattle.pieces.proofs.Carries.{carried_by}
use Rattle.pieces.proofs.carry_of.Goals as goal

pub returns : goal.returns
returns c =
    let rest = c.args.rest.now in
    carried_by rest _ _ refl
    (ap (λ (z : List ℕ). z ++ drop (length rest) (replicate carry_size 0))
    (c.copy_from_slice.ensures.after ∙ sym (take-length rest)))
