-- What stands before `done` is what the reader gave, and so many fewer may be read.
use Rattle.std.proofs.Common.{◌≡◌, ◌+◌, ◌-◌, ◌≤◌, length, take}
use Rattle.std.specs.Io.KnownBytes.{Consumes}
use Rattle.std.specs.Io.Take.{take_limit, take_remaining}
use Rattle.drill.proofs.input.read_full.Given as goal

abbrev pub invariant-loop-done : goal.invariant-loop-done
invariant-loop-done g l = record {
  within : l.done ≤ length l.buffer;
  most : take_limit l.input + l.done ≡ take_limit l.initial.input;
  bytes : Consumes (take_remaining g.R.Read.remaining l.initial.input) (take_remaining g.R.Read.remaining l.input) (take l.done l.buffer);
}

abbrev pub decreases-loop-done : goal.decreases-loop-done
decreases-loop-done g l = length l.initial.buffer - l.done
