-- What is counted so far and what is still to count are the whole count.
use Rattle.std.proofs.Common.{◌≡◌, ◌+◌, ◌≤◌, drop}
use Rattle.readers.specs.Listed.{count_in, live}
use Rattle.readers.proofs.count_in.Given as goal

abbrev pub invariant-loop-r : goal.invariant-loop-r
invariant-loop-r l =
    (l.n ≤ l.r-index)
    × (l.n + count_in l.bucket.0 l.phase (drop l.r-index l.r-items) ≡ count_in l.bucket.0 l.phase (live l.fn.rs))
