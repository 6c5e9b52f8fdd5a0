-- The number of each reason, verdict and answer (RULES 4.1), and the value that an answer carries.
use Rattle.std.specs.Prelude.{ℕ, Result, Ok, Err, Bool, true, false}
use Rattle.requests.specs.declared.{Refusal.Refusal, Answer.Answer}

abbrev pub refusal_number : Refusal → ℕ
refusal_number Refusal.Unsound = 1
refusal_number Refusal.UnknownStep = 2
refusal_number Refusal.BadField = 3
refusal_number Refusal.BadBucket = 4
refusal_number Refusal.WrongFlag = 5
refusal_number Refusal.NoHolder = 6
refusal_number Refusal.WrongBucket = 7
refusal_number Refusal.WrongVisited = 8
refusal_number Refusal.OtherCount = 9
refusal_number Refusal.AtCeiling = 10
refusal_number Refusal.ListFull = 11
refusal_number Refusal.NotWhole = 12
refusal_number Refusal.TooMany = 13
refusal_number Refusal.NoRoom = 14
refusal_number Refusal.WrongSize = 15
refusal_number Refusal.NotAnImage = 16
refusal_number Refusal.OtherValue = 17

-- 0 where all that is asked holds
abbrev pub verdict_number : Result (Unit {0}) Refusal → ℕ
verdict_number (Ok _) = 0
verdict_number (Err why) = refusal_number why

-- 0 where it is accepted
abbrev pub answer_number : Answer → ℕ
answer_number Answer.Accepted = 0
answer_number (Answer.Withdrew value) = 0
answer_number (Answer.Refused why) = refusal_number why

-- whether a value was withdrawn, and which (0 where none was)
abbrev pub withdraws : Answer → Bool
withdraws Answer.Accepted = false
withdraws (Answer.Withdrew value) = true
withdraws (Answer.Refused why) = false

abbrev pub answer_value : Answer → ℕ
answer_value Answer.Accepted = 0
answer_value (Answer.Withdrew value) = value
answer_value (Answer.Refused why) = 0
