-- Reading and writing a request undo each other, and what reading accepts is exactly what writing produces; the sample of
-- RULES 5.1, both ways. Assumes nothing.
use Rattle.std.specs.Prelude.{Ok}
use Prim.Native.Nat.{ℕ, ◌-◌, ◌<◌, ◌≤◌}
use mathlib.Core.Logic.{◌↔◌}
use mathlib.Core.Path.{◌≡◌, refl, ap, ◌∙◌, sym}
use mathlib.Core.Bool.{Bool, true, false}
use mathlib.Core.List.{List, [], ◌∷◌, ◌++◌}
use native.Mathlib.Omega.{arith}
use borrow.Author.Tests.{eqb-true, eqb-false}
use borrow.Rule.Slice.PartMut.{mid_len}
use lib.Dec.{eqb}
use lib.ListN.{length, take, drop, get_or, replicate, take-append-drop, length-take, length-drop}
use lib.Seq.{drop-drop, take_all}
use Rattle.kinds.specs.Limits.{line_size}
use Rattle.requests.specs.declared.Request.{Request}
use Rattle.requests.specs.Requests.{judged}
use Rattle.wire.specs.Bytes.{zeros_at, value_at, value_limit, number, low_bytes, blank, part, line_with, Bytes}
use Rattle.wire.specs.Requests.{InRange, bytes_of, fields_of, reading_of, read_of}
use Rattle.wire.proofs.Bytes.{bytes_take, bytes_drop, zeros_are, number_below, number_low_bytes, low_bytes_number}
use Rattle.wire.proofs.Premises.{read_passed, read_ragged, read_fields, read_marked}

-- ---- write, then read
pub fields_bytes : (q : Request) → q.value < value_limit → fields_of (bytes_of q) ≡ q
unfolding bytes_of line_with
fields_bytes q h =
    ap (λ (v : ℕ). record { step = q.step; bucket = q.bucket; clean = q.clean; value = v }) (number_low_bytes 8 q.value h)

pub write_read : (q : Request) → judged q ≡ Ok tt → q.value < value_limit → read_of (bytes_of q) ≡ Ok q
unfolding bytes_of line_with
write_read q e h =
    sym (read_fields (bytes_of q) refl refl)
    ∙ ap (λ (p : Request). reading_of p (judged p)) (fields_bytes q h)
    ∙ ap (reading_of q) e

-- ---- what an accepted reading tells
pub record Accepted (l : List ℕ) (q : Request) : Type 0 where
  pub whole : length l ≡ line_size
  pub zeros : blank (part zeros_at value_at l) ≡ true
  pub fits : judged q ≡ Ok tt
  pub fields : fields_of l ≡ q

pub accepted : (l : List ℕ) (q : Request) → read_of l ≡ Ok q → Accepted l q
accepted l q e = go (eqb (length l) line_size) (blank (part zeros_at value_at l)) refl refl
  where
    go : (long zeros : Bool) → eqb (length l) line_size ≡ long → blank (part zeros_at value_at l) ≡ zeros → Accepted l q
    go false zeros h z =
        let r = read_ragged l (eqb-false (length l) line_size h) in
        absurd (let z : ◌≡◌ {A = ℕ} 0 1 = cc in omega arith)
    go true false h z =
        let r = read_marked l (eqb-true (length l) line_size h) z in
        absurd (let z : ◌≡◌ {A = ℕ} 0 1 = cc in omega arith)
    go true true h z =
        let w = eqb-true (length l) line_size h in
        let t = read_passed (fields_of l) q (judged (fields_of l)) (read_fields l w z ∙ e) in
        record { whole = w; zeros = z; fits = ap judged (sym t.1) ∙ t.0; fields = t.1 }

-- ---- read, then write
first_three : (l : List ℕ) → zeros_at ≤ length l → l ≡ get_or l 0 0 ∷ get_or l 1 0 ∷ get_or l 2 0 ∷ drop zeros_at l
first_three [] h = absurd (omega arith)
first_three (a ∷ []) h = absurd (omega arith)
first_three (a ∷ b ∷ []) h = absurd (omega arith)
first_three (a ∷ b ∷ c ∷ l) h = refl

module _ (l : List ℕ) (bytes : Bytes l) (whole : length l ≡ line_size) where
  -- the last eight bytes are the digits of the value
  value_bytes_lem : low_bytes 8 (number (part value_at line_size l)) ≡ drop value_at l
  value_bytes_lem =
      let eight : length (drop value_at l) ≡ 8 = length-drop value_at l ∙ (let e : length l - value_at ≡ 8 = omega arith in e) in
      ap (λ (bs : List ℕ). low_bytes 8 (number bs)) (take_all 8 (drop value_at l) (omega arith))
      ∙ ap (λ (n : ℕ). low_bytes n (number (drop value_at l))) (sym eight)
      ∙ low_bytes_number (drop value_at l) (bytes_drop value_at l bytes)

  -- bytes 3 to 7, and those after them
  middle : blank (part zeros_at value_at l) ≡ true → drop zeros_at l ≡ (0 ∷ 0 ∷ 0 ∷ 0 ∷ 0 ∷ []) ++ drop value_at l
  middle z =
      let five = mid_len zeros_at value_at l (omega arith) in
      let zeros : part zeros_at value_at l ≡ 0 ∷ 0 ∷ 0 ∷ 0 ∷ 0 ∷ [] =
      zeros_are (part zeros_at value_at l) z ∙ ap (λ (n : ℕ). replicate n 0) five in
      sym (take-append-drop (value_at - zeros_at) (drop zeros_at l))
      ∙ ap (λ (r : List ℕ). part zeros_at value_at l ++ r) (drop-drop (value_at - zeros_at) zeros_at l)
      ∙ ap (λ (r : List ℕ). r ++ drop value_at l) zeros

  pub bytes_fields : blank (part zeros_at value_at l) ≡ true → bytes_of (fields_of l) ≡ l
  unfolding bytes_of line_with
  bytes_fields z =
      ap (λ (r : List ℕ). (get_or l 0 0 ∷ get_or l 1 0 ∷ get_or l 2 0 ∷ 0 ∷ 0 ∷ 0 ∷ 0 ∷ 0 ∷ []) ++ r) value_bytes_lem
      ∙ ap (λ (r : List ℕ). get_or l 0 0 ∷ get_or l 1 0 ∷ get_or l 2 0 ∷ r) (sym (middle z))
      ∙ sym (first_three l (omega arith))

pub read_write : (l : List ℕ) (q : Request) → Bytes l → read_of l ≡ Ok q → bytes_of q ≡ l
read_write l q bytes e =
    let t = accepted l q e in
    ap bytes_of (sym t.fields) ∙ bytes_fields l bytes t.whole t.zeros

-- ---- what reading accepts is exactly what writing produces
length_taken : (n : ℕ) (l : List ℕ) → length (take n l) ≤ n
length_taken n l = simp length-take (omega arith)

-- the fields of bytes are as wide as the code holds them
pub in_range : (l : List ℕ) → Bytes l → InRange (fields_of l)
in_range l bytes =
    let last = drop value_at l in
    let eight = bytes_take 8 last (bytes_drop value_at l bytes) in
    record { step = bytes 0; bucket = bytes 1; clean = bytes 2; value = number_below 8 (take 8 last) (length_taken 8 last) eight }

pub accepts_written : (l : List ℕ) → Bytes l
    → ((q : Request) × (read_of l ≡ Ok q))
    ↔ ((q : Request) × (judged q ≡ Ok tt) × InRange q × (bytes_of q ≡ l))
accepts_written l bytes = (there, back)
  where
    there : (q : Request) × (read_of l ≡ Ok q)
        → (q : Request) × (judged q ≡ Ok tt) × InRange q × (bytes_of q ≡ l)
    there t =
        let a = accepted l t.0 t.1 in
        (t.0, a.fits, rw (← a.fields) (in_range l bytes), read_write l t.0 bytes t.1)

    back : (q : Request) × (judged q ≡ Ok tt) × InRange q × (bytes_of q ≡ l)
        → (q : Request) × (read_of l ≡ Ok q)
    back t = (t.0, rw (← t.3) (write_read t.0 t.1 t.2.value))

-- ---- the sample of RULES 5.1: step 22 at bucket 1 with value 5
-- nothing rests on it: it shows that the definitions have the places and the order of bytes that are meant
abbrev sample_request : Request
sample_request = record { step = 22; bucket = record { 0 = 1 }; clean = 0; value = 5 }

abbrev sample_bytes : List ℕ
sample_bytes =
    0x16 ∷ 0x01 ∷ 0x00 ∷ 0x00 ∷ 0x00 ∷ 0x00 ∷ 0x00 ∷ 0x00 ∷ 0x05 ∷ 0x00 ∷ 0x00 ∷ 0x00 ∷ 0x00 ∷ 0x00 ∷ 0x00 ∷ 0x00 ∷ []

pub sample_written : bytes_of sample_request ≡ sample_bytes
unfolding bytes_of line_with
sample_written = refl

pub sample_read : read_of sample_bytes ≡ Ok sample_request
unfolding read_of
sample_read = refl
