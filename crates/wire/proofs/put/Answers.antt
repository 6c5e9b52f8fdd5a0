-- The line, by the law of its stores.
use Rattle.std.proofs.Common.{◌≤◌, arith, length, le-leb}
use Rattle.kinds.specs.Limits.{line_size}
use Rattle.wire.specs.Buffers.{put_to}
use Rattle.wire.proofs.Stores.{put_line}
use Rattle.wire.proofs.put.Goals as goal

pub returns-clause-bytes : goal.returns-clause-bytes
unfolding put_to
returns-clause-bytes c =
    let a = c.args in
    let h : line_size ≤ length a.buffer.now = omega arith in
    simp (le-leb _ _ h) (put_line a.first a.second a.third a.value a.buffer.now _ _ h c.copy_from_slice.ensures.after c.write_u64.ensures)
