-- What a lent buffer holds after bytes are written over the first of it: these first, what stood past them as it was, and all of it as
-- it was where the writing is refused. In order: any bytes, a line, a request. Assumes nothing.
use Rattle.std.specs.Prelude.{Result, Ok, Err}
use Prim.Native.Nat.{ℕ, ◌+◌, ◌-◌, ◌<◌, ◌≤◌}
use mathlib.Core.Path.{◌≡◌, refl, ap, ◌∙◌}
use mathlib.Core.List.{List, ◌++◌, append-nil}
use native.Mathlib.Nat.{le_of_eq}
use native.Mathlib.Omega.{arith}
use borrow.Author.Tests.{le-leb, lt-leb}
use borrow.Rule.Slice.PartMut.{mid_of, mid_len}
use lib.ListN.{length, take, drop, length-append, length-drop, drop_of_length-le}
use lib.Seq.{take_at, drop_at}
use Rattle.kinds.specs.Limits.{line_size}
use Rattle.requests.specs.declared.{Refusal.Refusal, Request.Request, Answer.Answer}
use Rattle.requests.specs.Premises.{verdict}
use Rattle.wire.specs.Buffers.{leaves, put_answer, put_to}
use Rattle.wire.specs.Requests.{bytes_of, writable, wrote_answer, wrote_to}
use Rattle.wire.proofs.Premises.{answer_passed, answer_failed}
use Rattle.wire.proofs.Stores.{length_line_with}

-- ---- bytes over the first of a buffer
module _ (many : ℕ) (bytes l : List ℕ) where
  -- what lies past them stays
  pub leaves_past : (v : Result (Unit {0}) Refusal) → (v ≡ Ok tt → length bytes ≡ many) → drop many (leaves many v bytes l) ≡ drop many l
  leaves_past (Ok _) h = drop_at bytes (drop many l) many (h refl)
  leaves_past (Err why) h = refl

  -- the buffer is as long as it was
  pub leaves_long : (v : Result (Unit {0}) Refusal) → (v ≡ Ok tt → (length bytes ≡ many) × (many ≤ length l))
      → length (leaves many v bytes l) ≡ length l
  leaves_long (Ok _) h = let w = h refl in simp (length-append, length-drop) (omega arith)
  leaves_long (Err why) h = refl

  -- one that they fill becomes these bytes
  pub leaves_whole : length l ≡ many → leaves many (Ok tt) bytes l ≡ bytes
  leaves_whole h = ap (λ (r : List ℕ). bytes ++ r) (drop_of_length-le l (le_of_eq h)) ∙ append-nil bytes

-- ---- a line into a buffer
module _ (bytes l : List ℕ) where
  pub put_fits : line_size ≤ length l → (put_answer l ≡ Answer.Accepted) × (put_to bytes l ≡ bytes ++ drop line_size l)
  unfolding put_answer put_to
  put_fits h = simp (le-leb _ _ h) (refl, refl)

  pub put_short : length l < line_size → (put_answer l ≡ Answer.Refused Refusal.NoRoom) × (put_to bytes l ≡ l)
  unfolding put_answer put_to
  put_short h = simp (lt-leb _ _ h) (refl, refl)

  -- a buffer of one line becomes the line
  pub put_whole : length l ≡ line_size → put_to bytes l ≡ bytes
  put_whole h =
      (put_fits (omega arith)).1 ∙ leaves_whole line_size bytes l h

-- so does the part of a buffer that is lent for it
pub put_part : (bytes l : List ℕ) (at : ℕ) → at + line_size ≤ length l → put_to bytes (mid_of at (at + line_size - at) l) ≡ bytes
put_part bytes l at h =
    let width : at + line_size - at ≡ line_size = omega arith in
    put_whole bytes (mid_of at (at + line_size - at) l) (mid_len at (at + line_size) l h ∙ width)

-- ---- a request into a buffer
pub length_bytes : (q : Request) → length (bytes_of q) ≡ line_size
unfolding bytes_of
length_bytes q = length_line_with q.step q.bucket.0 q.clean q.value

module _ (q : Request) (l : List ℕ) where
  -- only the first sixteen bytes change
  pub write_past : drop line_size (wrote_to q l) ≡ drop line_size l
  unfolding wrote_to
  write_past = leaves_past line_size (bytes_of q) l (verdict (writable q l)) (λ e. length_bytes q)

  -- what is refused touches nothing
  pub write_untouched : (why : Refusal) → wrote_answer q l ≡ Answer.Refused why → wrote_to q l ≡ l
  unfolding wrote_answer wrote_to
  write_untouched why e = ap (λ (v : Result (Unit {0}) Refusal). leaves line_size v (bytes_of q) l) (answer_failed (verdict (writable q l)) why e)

  -- what is accepted stands in the first sixteen bytes
  pub write_first : wrote_answer q l ≡ Answer.Accepted → take line_size (wrote_to q l) ≡ bytes_of q
  unfolding wrote_answer wrote_to
  write_first e =
      ap (λ (v : Result (Unit {0}) Refusal). take line_size (leaves line_size v (bytes_of q) l)) (answer_passed (verdict (writable q l)) e)
      ∙ take_at (bytes_of q) (drop line_size l) line_size (length_bytes q)
