-- One piece: what is carried and the piece are the bytes at hand, the whole requests among them are answered one after the other, and
-- the rest is carried on. A piece that is refused touches neither the page nor the carry nor the answer buffer.
use Rattle.std.specs.Prelude.{ℕ, Result, Ok, Err, ◌+◌, ◌*◌, ◌/◌, Bool, List, [], ◌∷◌, ◌++◌, leb, length, take, drop}
use Rattle.kinds.specs.Limits.{line_size}
use Rattle.page_record.specs.declared.Page.{Page}
use Rattle.soundness.specs.Soundness.{sound_of}
use Rattle.requests.specs.declared.{Refusal.Refusal, Answer.Answer}
use Rattle.requests.specs.Premises.{verdict}
use Rattle.wire.specs.Buffers.{leaves}
use Rattle.replay.specs.Run.{requests_of, page_after, lines_of}
use Rattle.pieces.specs.declared.{Carry.Carry, Taken.Taken}
use Rattle.pieces.specs.Carries.{held, carry_of, is_valid}

-- the most bytes of a piece
abbrev pub piece_size : ℕ
piece_size = 4096

-- ---- the bytes at hand
-- those that are carried, and then the piece's
abbrev pub at_hand : Carry → List ℕ → List ℕ
at_hand c piece = held c ++ piece

-- the same at the start of a buffer, and what stands past them
abbrev pub joined_in : Carry → List ℕ → List ℕ → List ℕ
joined_in c piece out = at_hand c piece ++ drop (c.len + length piece) out

-- how many of so many bytes belong to whole requests
abbrev pub whole_in : ℕ → ℕ
whole_in n = line_size * (n / line_size)

-- these bytes, and those past them
abbrev pub whole_of : List ℕ → List ℕ
whole_of l = take (whole_in (length l)) l

abbrev pub rest_of : List ℕ → List ℕ
rest_of l = drop (whole_in (length l)) l

-- ---- what is asked of a piece
-- numbers 1, 12, 13 and 14, by how many bytes the piece and the answer space have
abbrev pub piece_premises : Bool → Carry → ℕ → ℕ → List (Refusal × Bool)
piece_premises sound c piece space =
    (Refusal.Unsound, sound)
    ∷ (Refusal.NotWhole, is_valid c)
    ∷ (Refusal.TooMany, leb piece piece_size)
    ∷ (Refusal.NoRoom, leb (whole_in (c.len + piece)) space)
    ∷ []

unfoldable pub piece_verdict : Page → Carry → ℕ → ℕ → Result (Unit {0}) Refusal
piece_verdict page c piece space = verdict (piece_premises (sound_of page) c piece space)

-- ---- what it comes to
-- accepted: the page after the whole requests, the rest to carry, and a line for each request; a refusal leaves page and carry
abbrev pub takes : Page → Carry → List ℕ → Result (Unit {0}) Refusal → Taken
takes page c piece (Ok _) = record {
  answer = Answer.Accepted;
  page = page_after page (requests_of (at_hand c piece));
  carry = carry_of (rest_of (at_hand c piece));
  lines = length (at_hand c piece) / line_size;
}
takes page c piece (Err why) = record { answer = Answer.Refused why; page = page; carry = c; lines = 0 }

unfoldable pub taken_of : Page → Carry → List ℕ → List ℕ → Taken
taken_of page c piece answers = takes page c piece (piece_verdict page c (length piece) (length answers))

-- the lines, and what stood past them; a refusal leaves the buffer
abbrev pub puts : Page → Carry → List ℕ → List ℕ → Result (Unit {0}) Refusal → List ℕ
puts page c piece answers v = leaves (whole_in (length (at_hand c piece))) v (lines_of page (requests_of (at_hand c piece))) answers

unfoldable pub buffer_after : Page → Carry → List ℕ → List ℕ → List ℕ
buffer_after page c piece answers = puts page c piece answers (piece_verdict page c (length piece) (length answers))
