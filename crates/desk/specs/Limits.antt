-- How much of its input the program reads. The code's constants of the same names stand in src/main.rt.
use Rattle.std.specs.Prelude.{ℕ, ◌/◌, ◌-◌}
use Rattle.replay.specs.Reply.{longest}

-- how many bytes are read, with those that are kept
abbrev pub most_bytes : ℕ
most_bytes = 1048576

-- how many times as much as a run takes is read on, only to be counted
abbrev pub more : ℕ
more = most_bytes / longest - 1
