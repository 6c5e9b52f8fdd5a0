-- What an answer's sixteen bytes tell: all of it. They tell its number, its mark and its value (`line_tells`), these three are
-- all there is to an answer (`answer_is`), and so no two answers have the same bytes (`line_injective`). A refusal isn't taken
-- for what is accepted, since its number is above 0. Assumes nothing.
use Prim.Native.Nat.{ℕ, ◌<◌}
use mathlib.Core.Path.{◌≡◌, refl, ap, ◌∙◌, sym}
use mathlib.Core.Bool.{Bool, cond, true≢false}
use mathlib.Core.List.{List}
use native.Mathlib.Omega.{arith}
use lib.Dec.{eqb}
use lib.ListN.{length, get_or}
use Rattle.laws.proofs.Tests.{byte_back}
use Rattle.kinds.specs.Limits.{line_size}
use Rattle.requests.specs.declared.Answer.{Answer}
use Rattle.requests.specs.Answers.{answer_number, withdraws, answer_value}
use Rattle.requests.proofs.Reasons.{reason_at, reason_told, refusal_above}
use Rattle.wire.specs.Answers.{line_of}
use Rattle.wire.specs.Bytes.{value_at, value_limit, number, part, line_with}
use Rattle.wire.proofs.Bytes.{number_low_bytes}
use Rattle.wire.proofs.Stores.{length_line_with}

pub length_line : (a : Answer) → length (line_of a) ≡ line_size
unfolding line_of
length_line a = length_line_with (answer_number a) (cond (withdraws a) 1 0) 0 (answer_value a)

-- ---- the bytes tell the answer
marks : (s t : Bool) → ◌≡◌ {A = ℕ} (cond s 1 0) (cond t 1 0) → s ≡ t
marks s t e = sym (byte_back s) ∙ ap (λ (n : ℕ). eqb n 1) e ∙ byte_back t

value_line : (a : Answer) → answer_value a < value_limit → number (part value_at line_size (line_of a)) ≡ answer_value a
unfolding line_of line_with
value_line a h = number_low_bytes 8 (answer_value a) h

-- two answers with the same bytes have the same number, the same mark and the same value
pub line_tells : (a b : Answer) → answer_value a < value_limit → answer_value b < value_limit → line_of a ≡ line_of b
    → (answer_number a ≡ answer_number b) × (withdraws a ≡ withdraws b) × (answer_value a ≡ answer_value b)
unfolding line_of line_with
line_tells a b h k e = (
  ap (λ (l : List ℕ). get_or l 0 0) e,
  marks (withdraws a) (withdraws b) (ap (λ (l : List ℕ). get_or l 1 0) e),
  sym (value_line a h) ∙ ap (λ (l : List ℕ). number (part value_at line_size l)) e ∙ value_line b k,
)

-- number, mark and value are all there is to an answer
pub answer_is : (a b : Answer)
    → answer_number a ≡ answer_number b → withdraws a ≡ withdraws b → answer_value a ≡ answer_value b → a ≡ b
answer_is Answer.Accepted Answer.Accepted n m v = refl
answer_is Answer.Accepted (Answer.Withdrew y) n m v = absurd (true≢false (sym m))
answer_is Answer.Accepted (Answer.Refused y) n m v = absurd (omega (arith, refusal_above y))
answer_is (Answer.Withdrew x) Answer.Accepted n m v = absurd (true≢false m)
answer_is (Answer.Withdrew x) (Answer.Withdrew y) n m v = ap Answer.Withdrew v
answer_is (Answer.Withdrew x) (Answer.Refused y) n m v = absurd (true≢false m)
answer_is (Answer.Refused x) Answer.Accepted n m v = absurd (omega (arith, refusal_above x))
answer_is (Answer.Refused x) (Answer.Withdrew y) n m v = absurd (true≢false (sym m))
answer_is (Answer.Refused x) (Answer.Refused y) n m v = ap Answer.Refused (sym (reason_told x) ∙ ap reason_at n ∙ reason_told y)

-- two answers with the same bytes are the same
pub line_injective : (a b : Answer) → answer_value a < value_limit → answer_value b < value_limit → line_of a ≡ line_of b → a ≡ b
line_injective a b h k e = let t = line_tells a b h k e in answer_is a b t.0 t.1 t.2
