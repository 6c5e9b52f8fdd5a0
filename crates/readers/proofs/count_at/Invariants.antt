-- What is counted so far and what is still to count are the whole count.
use Rattle.std.proofs.Common.{◌≡◌, ◌+◌, ◌≤◌, drop}
use Rattle.readers.specs.Listed.{count_at, live}
use Rattle.readers.proofs.count_at.Given as goal

abbrev pub invariant-loop-r : goal.invariant-loop-r
invariant-loop-r l =
    (l.n ≤ l.r-index)
    × (l.n + count_at l.bucket.0 (drop l.r-index l.r-items) ≡ count_at l.bucket.0 (live l.fn.rs))
