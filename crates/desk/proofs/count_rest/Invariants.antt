-- A turn counts at most as many bytes as a run takes.
use Rattle.std.proofs.Common.{◌*◌, ◌≤◌}
use Rattle.replay.specs.Reply.{longest}
use Rattle.desk.proofs.count_rest.Given as goal

abbrev pub invariant-loop : goal.invariant-loop
invariant-loop g l = l.counted ≤ l.counter * longest
