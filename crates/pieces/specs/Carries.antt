-- What is carried from one piece to the next (RULES 6.1), and how it ends. The code's constant stands in src/lib.rt.
use Rattle.std.specs.Prelude.{ℕ, ◌-◌, Bool, ◌&&◌, List, [], ◌∷◌, ◌++◌, eqb, leb, length, take, drop, replicate}
use Rattle.kinds.specs.Limits.{line_size}
use Rattle.requests.specs.declared.{Refusal.Refusal, Answer.Answer}
use Rattle.requests.specs.Premises.{verdict}
use Rattle.wire.specs.Bytes.{blank}
use Rattle.wire.specs.Buffers.{answer_for}
use Rattle.pieces.specs.declared.Carry.{Carry}

-- the most bytes that are carried: one more is a request
abbrev pub carry_size : ℕ
carry_size = line_size - 1

-- the bytes that it carries
abbrev pub held : Carry → List ℕ
held c = take c.len c.bytes

-- these bytes, carried: zeros up to fifteen
unfoldable pub carry_of : List ℕ → Carry
carry_of l = record { bytes = l ++ replicate (carry_size - length l) 0; len = length l }

-- it carries no more than fifteen bytes, and is zero past those that it carries. (That there are fifteen places always holds in the
-- code: there it is an array.)
unfoldable pub is_valid : Carry → Bool
is_valid c = leb c.len carry_size && blank (drop c.len c.bytes) && eqb (length c.bytes) carry_size

-- it carries nothing, and so is zero
abbrev pub is_empty : Carry → Bool
is_empty c = eqb c.len 0 && is_valid c

-- ---- how it ends
-- number 12
abbrev pub end_premises : Carry → List (Refusal × Bool)
end_premises c = (Refusal.NotWhole, is_empty c) ∷ []

unfoldable pub finish_of : Carry → Answer
finish_of c = answer_for (verdict (end_premises c))
