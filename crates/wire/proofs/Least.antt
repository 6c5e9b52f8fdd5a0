-- Reading one request and writing one give the first number that applies: of 12, 2, 3 and 4 to the bytes (`read_number`), where 12
-- is given just if they are not sixteen (`read_ragged_number`) and else the others decide (`read_whole`); of 2, 3, 4 and 14 to the
-- request and the buffer (`write_number`). Neither carries a value. Assumes nothing.
use Rattle.std.specs.Prelude.{Result, Ok, Err}
use Prim.Native.Nat.{ℕ, ◌≤◌}
use mathlib.Core.Path.{◌≡◌, refl, sym, ap, ◌∙◌}
use mathlib.Core.Logic.{◌↔◌}
use mathlib.Core.Bool.{Bool, true, false, not, cond, not-not}
use mathlib.Core.List.{List, [], ◌∷◌}
use native.Mathlib.Omega.{arith}
use borrow.Author.Tests.{not-false, eq-eqb, ne_eqb}
use lib.ListN.{length}
use Rattle.laws.specs.Tables.{first_applying}
use Rattle.laws.proofs.Tests.{is_true, not_both}
use Rattle.laws.proofs.Orders.{leb_ltb}
use Rattle.laws.proofs.Tables.{first_before, first_after}
use Rattle.kinds.specs.Limits.{line_size}
use Rattle.requests.specs.declared.{Refusal.Refusal, Request.Request}
use Rattle.requests.specs.Answers.{verdict_number, answer_number, withdraws}
use Rattle.requests.specs.Premises.{verdict}
use Rattle.requests.specs.Requests.{is_step, formal, judged}
use Rattle.requests.specs.Applies.{applies2, applies3, applies4, applying_fields}
use Rattle.requests.proofs.Verdicts.{and_then, verdict_append, failing, verdict_number_lem}
use Rattle.requests.proofs.Reasons.{refusal_above}
use Rattle.requests.proofs.Formed.{step_below}
use Rattle.requests.proofs.Least.{step_known, fields_fit_lem, bucket_fits_lem, judged_number}
use Rattle.wire.specs.Bytes.{zeros_at, value_at, blank, part}
use Rattle.wire.specs.Buffers.{room, answer_for}
use Rattle.wire.specs.Requests.{fields_of, readable, reading_of, reading_number, read_of, writable, wrote_answer}
use Rattle.wire.specs.Applies.{applies12, applies3_in, applying_bytes, applies14, applying_write}

-- ---- reading
reading_number_lem : (q : Request) (v : Result (Unit {0}) Refusal) → reading_number (reading_of q v) ≡ verdict_number v
reading_number_lem q (Ok _) = refl
reading_number_lem q (Err why) = refl

few : (a b c : Bool) → first_applying ((2, a) ∷ (3, b) ∷ (4, c) ∷ []) ≤ 4
few true b c = omega arith
few false true c = omega arith
few false false true = omega arith
few false false false = omega arith

module _ (l : List ℕ) where
  abbrev q : Request
  q = fields_of l

  pub read_number : reading_number (read_of l) ≡ first_applying ((12, applies12 l) ∷ applying_bytes l)
  unfolding read_of
  read_number = reading_number_lem q (verdict (readable l)) ∙ verdict_number_lem (readable l) ∙ go (is_step q.step) refl
    where
      go : (t : Bool) → is_step q.step ≡ t
          → first_applying (failing (readable l)) ≡ first_applying ((12, applies12 l) ∷ applying_bytes l)
      go true e =
          let below = step_below q.step (is_true e) in
          let zeros = not_both (not (applies3 q)) (blank (part zeros_at value_at l)) in
          rw (step_known q, fields_fit_lem q below, bucket_fits_lem q below, zeros) (simp not-not)
      go false e = rw (e, not-false (applies2 q) (sym (step_known q) ∙ e))

  -- of sixteen bytes, the lowest of 2, 3 and 4
  pub read_whole : length l ≡ line_size → reading_number (read_of l) ≡ first_applying (applying_bytes l)
  read_whole h = read_number ∙ rw (eq-eqb (length l) line_size h)

  -- 12 just if they are not sixteen
  pub read_ragged_number : (reading_number (read_of l) ≡ 12) ↔ (length l ≡ line_size → ⊥)
  read_ragged_number = (there, λ h. read_number ∙ rw (ne_eqb (length l) line_size h))
    where
      there : reading_number (read_of l) ≡ 12 → length l ≡ line_size → ⊥
      there e h = omega (arith, read_whole h, few (applies2 q) (applies3_in l) (applies4 q))

-- ---- writing
pub answer_number_lem : (v : Result (Unit {0}) Refusal) → answer_number (answer_for v) ≡ verdict_number v
answer_number_lem (Ok _) = refl
answer_number_lem (Err why) = refl

pub answer_plain : (v : Result (Unit {0}) Refusal) → withdraws (answer_for v) ≡ false
answer_plain (Ok _) = refl
answer_plain (Err why) = refl

room_number : (short : Bool)
    → verdict_number (cond (not short) (Ok tt) (Err Refusal.NoRoom)) ≡ first_applying ((14, short) ∷ [])
room_number true = refl
room_number false = refl

module _ (q : Request) (buffer : List ℕ) where
  -- the fields' number comes first
  fields_first : (v : Result (Unit {0}) Refusal) → judged q ≡ v
      → verdict_number (and_then v (verdict (room buffer ∷ []))) ≡ first_applying (applying_write q buffer)
  fields_first (Ok _) e =
      let none = sym (judged_number q) ∙ ap verdict_number e in
      rw (leb_ltb line_size (length buffer))
      (room_number (applies14 buffer) ∙ sym (first_after (applying_fields q) ((14, applies14 buffer) ∷ []) tt none))
  fields_first (Err why) e =
      let here = sym (judged_number q) ∙ ap verdict_number e in
      sym (first_before (applying_fields q) ((14, applies14 buffer) ∷ []) (omega (arith, here, refusal_above why)) ∙ here)

  pub write_number : answer_number (wrote_answer q buffer) ≡ first_applying (applying_write q buffer)
  unfolding wrote_answer judged
  write_number =
      answer_number_lem (verdict (writable q buffer))
      ∙ ap verdict_number (verdict_append (formal q) (room buffer ∷ []))
      ∙ fields_first (verdict (formal q)) refl

  pub write_plain : withdraws (wrote_answer q buffer) ≡ false
  unfolding wrote_answer
  write_plain = answer_plain (verdict (writable q buffer))
