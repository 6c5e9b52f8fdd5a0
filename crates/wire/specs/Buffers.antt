-- Writing one line into a lent buffer: what is asked of the buffer, what is answered, and what the buffer holds then.
use Rattle.std.specs.Prelude.{ℕ, Result, Ok, Err, Bool, List, [], ◌∷◌, ◌++◌, leb, length, drop}
use Rattle.kinds.specs.Limits.{line_size}
use Rattle.requests.specs.declared.{Refusal.Refusal, Answer.Answer}
use Rattle.requests.specs.Premises.{verdict}

-- number 14
abbrev pub room : List ℕ → Refusal × Bool
room l = (Refusal.NoRoom, leb line_size (length l))

-- accepted where the premises hold, else refused for the first that fails
abbrev pub answer_for : Result (Unit {0}) Refusal → Answer
answer_for (Ok _) = Answer.Accepted
answer_for (Err why) = Answer.Refused why

-- these bytes over the first so many of a buffer, and what stood past them; a refusal leaves the buffer untouched
abbrev pub leaves : ℕ → Result (Unit {0}) Refusal → List ℕ → List ℕ → List ℕ
leaves many (Ok _) bytes l = bytes ++ drop many l
leaves many (Err why) bytes l = l

-- a line that is right in itself: what is answered, and what the buffer holds then
unfoldable pub put_answer : List ℕ → Answer
put_answer l = answer_for (verdict (room l ∷ []))

unfoldable pub put_to : List ℕ → List ℕ → List ℕ
put_to bytes l = leaves line_size (verdict (room l ∷ [])) bytes l
