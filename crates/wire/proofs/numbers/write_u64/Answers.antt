-- A digit is stored at its place; then the rest of the number is that of one digit less.
use Rattle.std.proofs.Common.{arith, ◌∙◌, length, length-set}
use Rattle.wire.proofs.Bytes.{stored}
use Rattle.wire.proofs.numbers.write_u64.Goals as goal

pub loop-b-preserved : goal.loop-b-preserved
loop-b-preserved c =
    let l = c.loop-b in
    simp length-set (l.invariant ∙ stored l.b-items l.b-index (omega arith) (length l.b-items) l.rest (omega arith))
