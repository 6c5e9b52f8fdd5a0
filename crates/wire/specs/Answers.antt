-- An answer as sixteen bytes. Written into a buffer it is answered by `put_answer` and leaves `put_to (line_of a)`.
use Rattle.std.specs.Prelude.{ℕ, cond, List}
use Rattle.requests.specs.declared.Answer.{Answer}
use Rattle.requests.specs.Answers.{answer_number, withdraws, answer_value}
use Rattle.wire.specs.Bytes.{line_with}

-- byte 0 number, 1 is 1 if a value was withdrawn, 2 to 7 zero, 8 to 15 that value or zero
unfoldable pub line_of : Answer → List ℕ
line_of a = line_with (answer_number a) (cond (withdraws a) 1 0) 0 (answer_value a)
