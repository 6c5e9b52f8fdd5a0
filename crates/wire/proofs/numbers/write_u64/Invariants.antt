-- All the digits are those that stand before the place, and those of the rest.
use Rattle.std.proofs.Common.{◌≡◌, ◌-◌, ◌++◌, length, take}
use Rattle.wire.specs.Bytes.{low_bytes}
use Rattle.wire.proofs.numbers.write_u64.Given as goal

abbrev pub invariant-loop-b : goal.invariant-loop-b
invariant-loop-b l =
    low_bytes (length l.b-items) l.v ≡ take l.b-index l.b-items ++ low_bytes (length l.b-items - l.b-index) l.rest
