-- Requests in pieces (RULES 6.1): demands 1 to 3, and that it doesn't matter where their bytes are cut. What one piece comes to is
-- `taken_of` and `buffer_after` (pieces), the bytes at hand are `at_hand`; the tables of numbers are `applying_piece` and `applying_end`.
use Rattle.std.specs.Prelude.{ℕ, Option, Ok, suc, ◌-◌, ◌*◌, ◌/◌, ◌%◌, ◌<◌, ◌≤◌, ◌≡◌, ◌↔◌, false, List, [], ◌∷◌, ◌++◌, T, length, take, drop, replicate}
use Rattle.laws.specs.Tables.{applies_in, Lowest}
use Rattle.kinds.specs.Limits.{line_size, most_requests}
use Rattle.page_record.specs.declared.Page.{Page}
use Rattle.page_record.specs.Pages.{fresh_page}
use Rattle.soundness.specs.Soundness.{sound_of}
use Rattle.requests.specs.declared.{Refusal.Refusal, Answer.Answer, Request.Request}
use Rattle.requests.specs.Answers.{answer_number}
use Rattle.lock.specs.Moves.{answer_of}
use Rattle.lock.specs.Allowed.{Allowed}
use Rattle.wire.specs.Answers.{line_of}
use Rattle.wire.specs.Requests.{read_of}
use Rattle.replay.specs.Turns.{turn_of}
use Rattle.replay.specs.Run.{requests_of, page_after, lines_of, line_at, page_at, ran_of, answers_of}
use Rattle.replay.specs.Applies.{applying_line}
use Rattle.pieces.specs.declared.{Carry.Carry, Taken.Taken}
use Rattle.pieces.specs.Carries.{carry_of, is_valid, finish_of}
use Rattle.pieces.specs.Pieces.{piece_size, at_hand, rest_of, piece_verdict, taken_of, buffer_after}
use Rattle.pieces.specs.Applies.{applying_piece, applying_end}
use Rattle.demands.specs.History.{Event, Given, start_of, added, run_history}
use Rattle.demands.specs.Demand3.{Demand3}
use Rattle.demands.specs.Cases.{requests_a}

-- ---- piece after piece, whether they are accepted or not
-- what is kept between two pieces
pub record Between : Type 0 where
  pub page : Page
  pub carry : Carry

-- a piece is given as a run is, its bytes and a buffer for its answers: what it comes to, and what is kept then
abbrev pub taken : Between → Given → Taken
taken s g = taken_of s.page s.carry g.requests g.answers

abbrev pub next : Between → Given → Between
next s g = record { page = (taken s g).page; carry = (taken s g).carry }

abbrev pub after_pieces : Between → List Given → Between
after_pieces s [] = s
after_pieces s (g ∷ gs) = after_pieces (next s g) gs

-- the buffer after a piece, and the lines in it that the piece gave
abbrev pub buffer : Between → Given → List ℕ
buffer s g = buffer_after s.page s.carry g.requests g.answers

abbrev pub lines_given : Between → Given → List ℕ
lines_given s g = take (line_size * (taken s g).lines) (buffer s g)

-- all lines, one after the other
abbrev pub lines_joined : Between → List Given → List ℕ
lines_joined s [] = []
lines_joined s (g ∷ gs) = lines_given s g ++ lines_joined (next s g) gs

-- the history that they make of an earlier one: a piece adds its lines, and one that is refused has none
abbrev pub pieces_history : Between → List Given → List Event → List Event
pieces_history s [] past = past
pieces_history s (g ∷ gs) past =
    pieces_history (next s g) gs
    (added s.page (at_hand s.carry g.requests) past
    (piece_verdict s.page s.carry (length g.requests) (length g.answers)))

-- ---- demand 1: any piece on any page with any carry and any buffer
pub record Demand1Piece (p : Page) (c : Carry) (piece answers : List ℕ) : Type 0 where
  -- n is given just if it is the lowest of 1, 12, 13 and 14 that applies, and it is accepted just if none applies;
  pub given : (n : ℕ) → 1 ≤ n
      → (answer_number (taken_of p c piece answers).answer ≡ n) ↔ Lowest (applying_piece p c piece answers) n
  pub accepted : ((taken_of p c piece answers).answer ≡ Answer.Accepted)
      ↔ ((n : ℕ) → applies_in (applying_piece p c piece answers) n ≡ false)
  -- a refusal touches neither page nor carry nor buffer, and there is no line
  pub untouched : (why : Refusal) → (taken_of p c piece answers).answer ≡ Answer.Refused why
      → (taken_of p c piece answers ≡ record { answer = Answer.Refused why; page = p; carry = c; lines = 0 })
      × (buffer_after p c piece answers ≡ answers)
  -- otherwise there is a line for each whole request at hand, the answer from the page that those before it left,
  pub count : (taken_of p c piece answers).answer ≡ Answer.Accepted
      → (taken_of p c piece answers).lines ≡ length (at_hand c piece) / line_size
  pub lines : (taken_of p c piece answers).answer ≡ Answer.Accepted → (k : ℕ) → k < length (at_hand c piece) / line_size
      → line_at k (buffer_after p c piece answers)
      ≡ line_of (turn_of (page_at k p (at_hand c piece)) (line_at k (at_hand c piece))).answer
  -- whose number n is the lowest that applies to its bytes on that page, and 0 just if none applies;
  pub line : (taken_of p c piece answers).answer ≡ Answer.Accepted → (k : ℕ) → k < length (at_hand c piece) / line_size
      → (n : ℕ) → 1 ≤ n
      → (answer_number (turn_of (page_at k p (at_hand c piece)) (line_at k (at_hand c piece))).answer ≡ n)
      ↔ Lowest (applying_line (page_at k p (at_hand c piece)) (line_at k (at_hand c piece))) n
  pub line_accepted : (taken_of p c piece answers).answer ≡ Answer.Accepted → (k : ℕ) → k < length (at_hand c piece) / line_size
      → (answer_number (turn_of (page_at k p (at_hand c piece)) (line_at k (at_hand c piece))).answer ≡ 0)
      ↔ ((n : ℕ) → applies_in (applying_line (page_at k p (at_hand c piece)) (line_at k (at_hand c piece))) n ≡ false)
  -- each request leaves its page to the next, a refused one the page that it found,
  pub next : (k : ℕ) → k < length (at_hand c piece) / line_size
      → page_at (suc k) p (at_hand c piece) ≡ (turn_of (page_at k p (at_hand c piece)) (line_at k (at_hand c piece))).page
  pub refused_line : (k : ℕ) → k < length (at_hand c piece) / line_size → (why : Refusal)
      → (turn_of (page_at k p (at_hand c piece)) (line_at k (at_hand c piece))).answer ≡ Answer.Refused why
      → page_at (suc k) p (at_hand c piece) ≡ page_at k p (at_hand c piece)
  -- and the piece ends with the page that all of them left, and with the rest carried;
  pub page : (taken_of p c piece answers).answer ≡ Answer.Accepted
      → (taken_of p c piece answers).page ≡ page_at (length (at_hand c piece) / line_size) p (at_hand c piece)
  pub carry : (taken_of p c piece answers).answer ≡ Answer.Accepted
      → (taken_of p c piece answers).carry ≡ carry_of (rest_of (at_hand c piece))
  -- the bytes past the last line stay
  pub past : drop (line_size * (taken_of p c piece answers).lines) (buffer_after p c piece answers)
      ≡ drop (line_size * (taken_of p c piece answers).lines) answers

-- the end of any carry
pub record Demand1Finish (c : Carry) : Type 0 where
  -- 12 just if its length or one of its bytes is not zero, no other number, and accepted just if that does not apply
  pub given : (n : ℕ) → 1 ≤ n → (answer_number (finish_of c) ≡ n) ↔ Lowest (applying_end c) n
  pub accepted : (finish_of c ≡ Answer.Accepted) ↔ ((n : ℕ) → applies_in (applying_end c) n ≡ false)
  -- which is the empty carry, and no other
  pub empty : (finish_of c ≡ Answer.Accepted) ↔ (c ≡ carry_of [])

-- ---- demand 2, line by line: the page that a line is answered from is the one that the requests before it left
abbrev pub Demand2Piece : Type 0
Demand2Piece =
    (p : Page) (c : Carry) (piece : List ℕ) (k : ℕ) (q : Request) → read_of (line_at k (at_hand c piece)) ≡ Ok q
    → (p' : Page) (out : Option ℕ)
    → (turn_of (page_at k p (at_hand c piece)) (line_at k (at_hand c piece)) ≡ record { answer = answer_of out; page = p' })
    ↔ Allowed (page_at k p (at_hand c piece)) q p' out

-- ---- demand 3: from a page, with any carry, after any pieces, refused ones among them
abbrev pub Demand3Pieces : Page → Type 0
Demand3Pieces p =
    (c : Carry) (gs : List Given)
    → Demand3 (start_of p) (after_pieces (record { page = p; carry = c }) gs).page
    (pieces_history (record { page = p; carry = c }) gs [])

-- ---- where the bytes are cut
-- what pieces are taken from: a sound page and a valid carry
pub record Ready (s : Between) : Type 0 where
  pub sound : T (sound_of s.page)
  pub valid : T (is_valid s.carry)

-- each piece is accepted, from what those before it left
abbrev pub AllAccepted : Between → List Given → Type 0
AllAccepted s [] = Unit {0}
AllAccepted s (g ∷ gs) = ((taken s g).answer ≡ Answer.Accepted) × AllAccepted (next s g) gs

-- the bytes of the pieces, and with those that were carried before them
abbrev pub joined : List Given → List ℕ
joined [] = []
joined (g ∷ gs) = g.requests ++ joined gs

abbrev pub all_bytes : Between → List Given → List ℕ
all_bytes s gs = at_hand s.carry (joined gs)

pub record Cutting (s : Between) (gs : List Given) : Type 0 where
  -- the lines are those of the requests one by one, and the page is the one that they leave;
  pub lines : lines_joined s gs ≡ lines_of s.page (requests_of (all_bytes s gs))
  pub page : (after_pieces s gs).page ≡ page_after s.page (requests_of (all_bytes s gs))
  -- what is carried are the last bytes, as many as are left past whole requests, and zeros
  pub carry : (after_pieces s gs).carry
      ≡ carry_of (drop (length (all_bytes s gs) - length (all_bytes s gs) % line_size) (all_bytes s gs))
  -- the history is that of those requests
  pub history : (past : List Event) → pieces_history s gs past ≡ run_history s.page (requests_of (all_bytes s gs)) past
  -- at the end it is accepted just if the bytes are whole requests
  pub finish : (finish_of (after_pieces s gs).carry ≡ Answer.Accepted) ↔ (length (all_bytes s gs) % line_size ≡ 0)
  -- and pieces can be taken from there on
  pub ready : Ready (after_pieces s gs)

-- two cuttings of the same bytes agree, the carry's among them
pub record SameCut (s t : Between) (gs hs : List Given) : Type 0 where
  pub lines : lines_joined s gs ≡ lines_joined t hs
  pub left : after_pieces s gs ≡ after_pieces t hs

-- whole requests and no more: finished, it is 0; and as many as a run takes are as the run of them
abbrev pub begun : Page → Between
begun p = record { page = p; carry = carry_of [] }

pub record WholeRequests (p : Page) (gs : List Given) : Type 0 where
  pub finish : finish_of (after_pieces (begun p) gs).carry ≡ Answer.Accepted
  pub run : (answers : List ℕ) → length (joined gs) / line_size ≤ most_requests → length (joined gs) ≤ length answers
      → (ran_of p (joined gs) answers ≡ record { answer = Answer.Accepted; page = (after_pieces (begun p) gs).page })
      × (answers_of p (joined gs) answers ≡ lines_joined (begun p) gs ++ drop (length (joined gs)) answers)

-- a piece that is refused, wherever it comes, changes nothing
pub record Unchanged (s : Between) (before : List Given) (g : Given) (after : List Given) : Type 0 where
  pub lines : lines_joined s (before ++ g ∷ after) ≡ lines_joined s (before ++ after)
  pub left : after_pieces s (before ++ g ∷ after) ≡ after_pieces s (before ++ after)
  pub history : (past : List Event) → pieces_history s (before ++ g ∷ after) past ≡ pieces_history s (before ++ after) past
  pub answers : buffer (after_pieces s before) g ≡ g.answers

-- pieces within the limit, each with a buffer as long as the longest piece
abbrev pub Within : List Given → Type 0
Within [] = Unit {0}
Within (g ∷ gs) = (length g.requests ≤ piece_size) × (piece_size ≤ length g.answers) × Within gs

-- any bytes, however many, can be cut so: a piece for each
abbrev pub by_byte : List ℕ → List Given
by_byte [] = []
by_byte (b ∷ l) = record { requests = b ∷ []; answers = replicate piece_size 0 } ∷ by_byte l

-- ---- case A in pieces, each with just the space that it needs
abbrev pub piece_with : List ℕ → ℕ → Given
piece_with bytes lines = record { requests = bytes; answers = replicate (line_size * lines) 9 }

-- cut after 20 bytes; and after 20 and 25, where nothing more comes
abbrev pub cut_a : List Given
cut_a = piece_with (take 20 requests_a) 1 ∷ piece_with (drop 20 requests_a) 1 ∷ []

abbrev pub ragged_a : List Given
ragged_a = piece_with (take 20 requests_a) 1 ∷ piece_with (take 5 (drop 20 requests_a)) 0 ∷ []

-- what they leave of a fresh page of 0
abbrev pub fresh_left : List Given → Between
fresh_left = after_pieces (begun (fresh_page 0))
