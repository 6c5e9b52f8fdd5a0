-- The whole run is what is done and the run of the bytes that the iterator has left.
use Rattle.std.proofs.Common.{◌≡◌}
use Rattle.std.specs.Iterator.Adapters.{enumerate_source, enumerate_count}
use Rattle.std.specs.Slice.Iter.{chunks_exact_rest, chunks_exact_size}
use Rattle.kinds.specs.Limits.{line_size}
use Rattle.replay.proofs.Loop.{Going}
use Rattle.replay.proofs.run.Given as goal

abbrev pub invariant-loop-i : goal.invariant-loop-i
invariant-loop-i l =
    let chunks = enumerate_source l.i-iterator in
    (chunks_exact_size chunks ≡ line_size)
    × Going l.requests l.initial.answers l.initial.page l.answers l.page (chunks_exact_rest chunks) (enumerate_count l.i-iterator)
