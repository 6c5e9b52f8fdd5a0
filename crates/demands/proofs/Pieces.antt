-- Requests in pieces, proved. Demand 1: a piece gives the first number that applies to it, and one that is accepted is a run of the whole
-- requests at hand, so its lines are that run's. Demand 2 is that of any line, and demand 3 goes from piece to piece. Where bytes are
-- cut does not matter (`cutting`): a piece's requests and what it leaves, with what comes after, are those of both together. Assumes
-- nothing.
use Rattle.std.specs.Prelude.{Result, Ok, Err}
use Prim.Native.Nat.{ℕ, ◌-◌, ◌*◌, ◌/◌, ◌%◌, ◌<◌, ◌≤◌}
use mathlib.Core.Path.{◌≡◌, refl, sym, ap, subst, ◌∙◌}
use mathlib.Core.List.{List, [], ◌∷◌, ◌++◌, append_assoc, append-nil}
use native.Mathlib.Omega.{arith}
use lib.Dec.{T}
use lib.ListN.{length, take, drop, get_or, length-replicate}
use lib.Seq.{take_at}
use Rattle.laws.proofs.Tests.{to_true, is_true}
use Rattle.laws.proofs.Tables.{first_lowest, first_none}
use Rattle.kinds.specs.Limits.{line_size}
use Rattle.page_record.specs.declared.Page.{Page}
use Rattle.page_record.specs.Pages.{fresh_page}
use Rattle.soundness.specs.Soundness.{sound_of}
use Rattle.soundness.proofs.FreshPage.{fresh_sound}
use Rattle.requests.specs.declared.{Refusal.Refusal, Answer.Answer}
use Rattle.lock.specs.declared.Outcome.{Outcome}
use Rattle.wire.specs.Answers.{line_of}
use Rattle.wire.proofs.Buffers.{leaves_past}
use Rattle.image.specs.Keeping.{restored_from}
use Rattle.image.proofs.Trips.{restored_sound}
use Rattle.replay.specs.Turns.{turn_of}
use Rattle.replay.specs.Run.{requests_of, page_after, lines_of, line_at, page_at, run_verdict, ends, fills, ran_of, answers_of}
use Rattle.replay.specs.Applies.{applying_line}
use Rattle.replay.proofs.Judged.{passed}
use Rattle.replay.proofs.Pages.{refused_turn, run_keeps, request_at, page_append, page_next, page_all}
use Rattle.replay.proofs.Lines.{lines_append}
use Rattle.pieces.specs.declared.{Carry.Carry, Taken.Taken}
use Rattle.pieces.specs.Carries.{carry_size, held, carry_of, is_valid, finish_of}
use Rattle.pieces.specs.Pieces.{piece_size, at_hand, whole_in, whole_of, rest_of, takes, taken_of, puts, buffer_after}
use Rattle.pieces.specs.Applies.{applying_piece, applying_end}
use Rattle.pieces.proofs.Joins.{requests_none, rest_all, length_rest, length_whole, requests_whole, requests_join, rest_join}
use Rattle.pieces.proofs.Carries.{held_carry, valid_carry, valid, length_held, carry_held, ends_empty, ends_so}
use Rattle.pieces.proofs.Judged.{Fits, fits, passes, judged, piece_passed, piece_failed, taken_is, buffer_is}
use Rattle.pieces.proofs.Runs.{length_whole_lines, piece_ran, piece_lines}
use Rattle.pieces.proofs.Least.{piece_number, piece_plain, finish_number, finish_plain}
use Rattle.demands.specs.History.{Event, left, by_line, run_history, Given, lines_in, added}
use Rattle.demands.specs.Pieces.{Between, taken, next, after_pieces, buffer, lines_given, lines_joined, pieces_history}
use Rattle.demands.specs.Pieces.{Demand1Piece, Demand1Finish, Demand2Piece, Demand3Pieces, Ready, AllAccepted, joined, all_bytes}
use Rattle.demands.specs.Pieces.{Cutting, SameCut, begun, WholeRequests, Unchanged, Within, by_byte}
use Rattle.demands.proofs.Demand1.{accepts_none, line_first, demand1_run}
use Rattle.demands.proofs.Demand2.{demand2_run}
use Rattle.demands.proofs.Asked.{line_acts, left_on, happened_on}
use Rattle.demands.proofs.Demand3.{demand3_asked}
use Rattle.demands.proofs.Lines.{lines_left}

-- ---- a piece that is accepted
module _ (p : Page) (c : Carry) (piece answers : List ℕ) (e : (taken_of p c piece answers).answer ≡ Answer.Accepted) where
  abbrev l : List ℕ
  l = at_hand c piece

  fit : Fits p c (length piece) (length answers)
  fit = fits (piece_passed p c piece answers e)

  sound_before : T (sound_of p)
  sound_before = is_true fit.sound

  came : taken_of p c piece answers ≡ takes p c piece (Ok tt)
  came = taken_is p c piece answers (Ok tt) (piece_passed p c piece answers e)

  filled : buffer_after p c piece answers ≡ lines_of p (requests_of l) ++ drop (whole_in (length l)) answers
  filled = buffer_is p c piece answers (Ok tt) (piece_passed p c piece answers e)

  -- its lines are those of the run of its whole requests
  line_of_lem : (k : ℕ) → k < length l / line_size
      → line_at k (buffer_after p c piece answers) ≡ line_of (turn_of (page_at k p l) (line_at k l)).answer
  line_of_lem k h =
      let ran = ap (λ (o : Outcome). o.answer) (piece_ran p c piece answers fit) in
      let in_range : k < length (whole_of l) / line_size = rw length_whole (omega arith) in
      let same : line_at k (whole_of l) ≡ line_at k l =
      sym (request_at (whole_of l) k in_range) ∙ ap (λ (qs : List (List ℕ)). get_or qs k []) (requests_whole l) ∙ request_at l k h in
      ap (line_at k) (filled ∙ sym (piece_lines p c piece answers fit))
      ∙ (demand1_run p (whole_of l) answers).lines ran k in_range
      ∙ ap (λ (qs : List (List ℕ)). line_of (turn_of (page_after p (take k qs)) (line_at k (whole_of l))).answer) (requests_whole l)
      ∙ ap (λ (b : List ℕ). line_of (turn_of (page_at k p l) b).answer) same

-- ---- demand 1
-- the bytes past its lines stay, however it was judged
stays : (p : Page) (c : Carry) (piece answers : List ℕ) (v : Result (Unit {0}) Refusal)
    → drop (line_size * (takes p c piece v).lines) (puts p c piece answers v) ≡ drop (line_size * (takes p c piece v).lines) answers
stays p c piece answers (Ok _) =
    let l = at_hand c piece in
    leaves_past (whole_in (length l)) (lines_of p (requests_of l)) answers (Ok tt) (λ e. length_whole_lines p l)
stays p c piece answers (Err why) = refl

pub demand1_piece : (p : Page) (c : Carry) (piece answers : List ℕ) → Demand1Piece p c piece answers
unfolding taken_of buffer_after
demand1_piece p c piece answers = record {
  given = λ n k. rw (piece_number p c piece answers) (first_lowest (applying_piece p c piece answers) tt n k);
  accepted = accepts_none _ (applying_piece p c piece answers) (piece_plain p c piece answers) (piece_number p c piece answers)
      (first_none (applying_piece p c piece answers) tt);
  untouched = λ why e.
      let v = piece_failed p c piece answers why e in
      (taken_is p c piece answers (Err why) v, buffer_is p c piece answers (Err why) v);
  count = λ e. ap (λ (t : Taken). t.lines) (came p c piece answers e);
  lines = line_of_lem p c piece answers;
  line = λ e k h n j.
      rw (line_first p l (sound_before p c piece answers e) k h) (first_lowest (applying_line (page_at k p l) (line_at k l)) tt n j);
  line_accepted = λ e k h.
      rw (line_first p l (sound_before p c piece answers e) k h) (first_none (applying_line (page_at k p l) (line_at k l)) tt);
  next = page_next p l;
  refused_line = λ k h why e. page_next p l k h ∙ refused_turn (page_at k p l) (line_at k l) why e;
  page = λ e. ap (λ (t : Taken). t.page) (came p c piece answers e) ∙ sym (page_all p l);
  carry = λ e. ap (λ (t : Taken). t.carry) (came p c piece answers e);
  past = stays p c piece answers (judged p c piece answers);
}
  where
    l : List ℕ
    l = at_hand c piece

pub demand1_finish : (c : Carry) → Demand1Finish c
demand1_finish c = record {
  empty = ends_empty c;
  given = λ n k. rw (finish_number c) (first_lowest (applying_end c) tt n k);
  accepted = accepts_none _ (applying_end c) (finish_plain c) (finish_number c) (first_none (applying_end c) tt);
}

-- ---- demand 2
pub demand2_piece : Demand2Piece
demand2_piece p c piece = demand2_run p (at_hand c piece)

-- ---- demand 3
-- a piece leaves the page that its lines leave; one that is refused has none
takes_left : (p : Page) (c : Carry) (piece : List ℕ) (v : Result (Unit {0}) Refusal) → (takes p c piece v).page ≡ left by_line p (lines_in (at_hand c piece) v)
takes_left p c piece (Ok _) = lines_left p (requests_of (at_hand c piece))
takes_left p c piece (Err why) = refl

-- pieces are some lines, one after the other
record Lined (s : Between) (gs : List Given) : Type 0 where
  lines : List (List ℕ)
  page : (after_pieces s gs).page ≡ left by_line s.page lines
  history : (past : List Event) → pieces_history s gs past ≡ run_history s.page lines past

lined : (s : Between) (gs : List Given) → Lined s gs
unfolding taken_of
lined s [] = record { lines = []; page = refl; history = λ past. refl }
lined s (g ∷ gs) =
    let p = s.page in
    let v = judged p s.carry g.requests g.answers in
    let now = lines_in (at_hand s.carry g.requests) v in
    let e = takes_left p s.carry g.requests v in
    let rest = lined (next s g) gs in
    record {
      lines = now ++ rest.lines;
      page = rest.page ∙ left_on by_line rest.lines (next s g).page p now e;
      history = λ past. rest.history (run_history p now past) ∙ happened_on by_line rest.lines (next s g).page p now past e;
    }

-- from any sound page, a fresh one and one that was read among them
pub demand3_pieces_from : (p : Page) → T (sound_of p) → Demand3Pieces p
demand3_pieces_from p sound c gs =
    let t = lined (record { page = p; carry = c }) gs in
    rw (t.page, t.history []) (demand3_asked by_line line_acts p sound t.lines)

pub demand3_pieces : (v : ℕ) → Demand3Pieces (fresh_page v)
demand3_pieces v = demand3_pieces_from (fresh_page v) (fresh_sound v)

pub demand3_pieces_read : (image : List ℕ) → Demand3Pieces (restored_from image).page
demand3_pieces_read image = demand3_pieces_from (restored_from image).page (restored_sound image)

-- ---- one piece after another
-- pieces that take these bytes from this page
record Through (p : Page) (l : List ℕ) (s : Between) (gs : List Given) : Type 0 where
  lines : lines_joined s gs ≡ lines_of p (requests_of l)
  page : (after_pieces s gs).page ≡ page_after p (requests_of l)
  carry : (after_pieces s gs).carry ≡ carry_of (rest_of l)
  history : (past : List Event) → pieces_history s gs past ≡ run_history p (requests_of l) past

module _ (s : Between) (g : Given) (e : (taken s g).answer ≡ Answer.Accepted) where
  abbrev first : List ℕ
  first = at_hand s.carry g.requests

  abbrev p : Page
  p = s.page

  came_so : taken s g ≡ takes p s.carry g.requests (Ok tt)
  came_so = came p s.carry g.requests g.answers e

  lines_so : lines_given s g ≡ lines_of p (requests_of first)
  lines_so =
      let all = lines_of p (requests_of first) in
      ap (λ (t : Taken). take (line_size * t.lines) (buffer s g)) came_so
      ∙ ap (take (whole_in (length first))) (filled p s.carry g.requests g.answers e)
      ∙ take_at all (drop (whole_in (length first)) g.answers) (whole_in (length first)) (length_whole_lines p first)

  held_so : held (next s g).carry ≡ rest_of first
  held_so = ap (λ (t : Taken). held t.carry) came_so ∙ held_carry (rest_of first)

  -- what is kept then is sound and valid
  ready_next : Ready (next s g)
  ready_next =
      let few : length (rest_of first) ≤ carry_size = rw length_rest (omega arith) in
      record {
        sound = subst (λ (t : Taken). T (sound_of t.page)) (sym came_so)
            (run_keeps p (requests_of first) (sound_before p s.carry g.requests g.answers e));
        valid = subst (λ (t : Taken). T (is_valid t.carry)) (sym came_so) (is_true (valid_carry (rest_of first) few));
      }

  -- this piece, and then the others
  through_next : (gs : List Given) → Through (next s g).page (all_bytes (next s g) gs) (next s g) gs
      → Through p (all_bytes s (g ∷ gs)) s (g ∷ gs)
  through_next gs after =
      let more = joined gs in
      let left = rest_of first ++ more in
      let mid = page_after p (requests_of first) in
      let whole : first ++ more ≡ all_bytes s (g ∷ gs) = append_assoc (held s.carry) g.requests more in
      let rest : Through mid left (next s g) gs =
      subst (λ (t : Page). Through t left (next s g) gs) (ap (λ (t : Taken). t.page) came_so)
      (subst (λ (h : List ℕ). Through (next s g).page (h ++ more) (next s g) gs) held_so after) in
      let requests = requests_join first more in
      let told : (past : List Event) → pieces_history s (g ∷ gs) past ≡ run_history p (requests_of (first ++ more)) past =
      λ past.
      ap (λ (v : Result (Unit {0}) Refusal). pieces_history (next s g) gs (added p first past v)) (piece_passed p s.carry g.requests g.answers e)
      ∙ rest.history (run_history p (requests_of first) past)
      ∙ happened_on by_line (requests_of left) mid p (requests_of first) past (lines_left p (requests_of first))
      ∙ ap (λ (qs : List (List ℕ)). run_history p qs past) (sym requests) in
      let here : Through p (first ++ more) s (g ∷ gs) =
      record {
        lines =
            ap (λ (z : List ℕ). z ++ lines_joined (next s g) gs) lines_so
            ∙ ap (λ (z : List ℕ). lines_of p (requests_of first) ++ z) rest.lines
            ∙ sym (lines_append p (requests_of first) (requests_of left))
            ∙ ap (lines_of p) (sym requests);
        page =
            rest.page
            ∙ sym (page_append p (requests_of first) (requests_of left))
            ∙ ap (page_after p) (sym requests);
        carry = rest.carry ∙ ap carry_of (sym (rest_join first more));
        history = told;
      } in
      subst (λ (z : List ℕ). Through p z s (g ∷ gs)) whole here

through : (s : Between) (gs : List Given) → Ready s → AllAccepted s gs → Through s.page (all_bytes s gs) s gs
through s [] ready all =
    let c = s.carry in
    let v = to_true (is_valid c) ready.valid in
    let few : length (held c) < line_size = omega (arith, length_held c v, (valid c v).few) in
    let none = requests_none (held c) few in
    let here : Through s.page (held c) s [] =
    record {
      lines = ap (lines_of s.page) (sym none);
      page = ap (page_after s.page) (sym none);
      carry = sym (ap carry_of (rest_all (held c) few) ∙ carry_held c v);
      history = λ past. ap (λ (qs : List (List ℕ)). run_history s.page qs past) (sym none);
    } in
    subst (λ (z : List ℕ). Through s.page z s []) (sym (append-nil (held c))) here
through s (g ∷ gs) ready all = through_next s g all.0 gs (through (next s g) gs (ready_next s g all.0) all.1)

ready_after : (s : Between) (gs : List Given) → Ready s → AllAccepted s gs → Ready (after_pieces s gs)
ready_after s [] ready all = ready
ready_after s (g ∷ gs) ready all = ready_after (next s g) gs (ready_next s g all.0) all.1

-- ---- where the bytes are cut
pub cutting : (s : Between) (gs : List Given) → Ready s → AllAccepted s gs → Cutting s gs
cutting s gs ready all =
    let l = all_bytes s gs in
    let t = through s gs ready all in
    let last : whole_in (length l) ≡ length l - length l % line_size = omega arith in
    let left = length_rest l in
    let end = ends_so (rest_of l) in
    record {
      lines = t.lines;
      page = t.page;
      carry = t.carry ∙ ap (λ (n : ℕ). carry_of (drop n l)) last;
      history = t.history;
      finish = (
        λ e. sym left ∙ end.0 (sym (ap finish_of t.carry) ∙ e),
        λ e. ap finish_of t.carry ∙ end.1 (left ∙ e),
      );
      ready = ready_after s gs ready all;
    }

-- two cuttings of the same bytes
pub same_cut : (s t : Between) (gs hs : List Given) → Ready s → Ready t → AllAccepted s gs → AllAccepted t hs
    → s.page ≡ t.page → all_bytes s gs ≡ all_bytes t hs → SameCut s t gs hs
same_cut s t gs hs ready ready' one other from l =
    let a = through s gs ready one in
    let b = through t hs ready' other in
    let page = a.page ∙ (λ i. page_after (from i) (requests_of (l i))) ∙ sym b.page in
    let carry = a.carry ∙ ap (λ (z : List ℕ). carry_of (rest_of z)) l ∙ sym b.carry in
    record {
      lines = a.lines ∙ (λ i. lines_of (from i) (requests_of (l i))) ∙ sym b.lines;
      left = λ i. record { page = page i; carry = carry i };
    }

-- whole requests and no more
pub whole_requests : (p : Page) (gs : List Given) → T (sound_of p) → AllAccepted (begun p) gs → length (joined gs) % line_size ≡ 0
    → WholeRequests p gs
unfolding ran_of answers_of
whole_requests p gs sound all whole =
    let l = joined gs in
    let ready : Ready (begun p) = record { sound = sound; valid = is_true (valid_carry [] (omega arith)) } in
    let same : all_bytes (begun p) gs ≡ l = ap (λ (z : List ℕ). z ++ l) (held_carry []) in
    let t = through (begun p) gs ready all in
    record {
      finish = (cutting (begun p) gs ready all).finish.1 (ap (λ (z : List ℕ). length z % line_size) same ∙ whole);
      run = λ answers few room.
          let v : run_verdict p (length l) (length answers) ≡ (Ok tt) =
          passed (record { sound = to_true (sound_of p) sound; whole = whole; few = few; room = omega arith }) in
          let page = t.page ∙ ap (λ (z : List ℕ). page_after p (requests_of z)) same in
          let lines = t.lines ∙ ap (λ (z : List ℕ). lines_of p (requests_of z)) same in (
            ap (ends p l) v ∙ ap (λ (q : Page). record { answer = Answer.Accepted; page = q }) (sym page),
            ap (fills p l answers) v ∙ ap (λ (z : List ℕ). z ++ drop (length l) answers) (sym lines),
          );
    }

-- ---- a piece that is refused
pub refused_between : (s : Between) (before : List Given) (g : Given) (after : List Given) (why : Refusal)
    → (taken (after_pieces s before) g).answer ≡ Answer.Refused why → Unchanged s before g after
refused_between s [] g after why e =
    let p = s.page in
    let v = piece_failed p s.carry g.requests g.answers why e in
    let came = taken_is p s.carry g.requests g.answers (Err why) v in
    let same : next s g ≡ s = ap (λ (t : Taken). record { page = t.page; carry = t.carry }) came in
    record {
      lines =
          ap (λ (t : Taken). take (line_size * t.lines) (buffer s g) ++ lines_joined (next s g) after) came
          ∙ ap (λ (x : Between). lines_joined x after) same;
      left = ap (λ (x : Between). after_pieces x after) same;
      history = λ past.
          ap (λ (w : Result (Unit {0}) Refusal). pieces_history (next s g) after (added p (at_hand s.carry g.requests) past w)) v
          ∙ ap (λ (x : Between). pieces_history x after past) same;
      answers = buffer_is p s.carry g.requests g.answers (Err why) v;
    }
refused_between s (b ∷ before) g after why e =
    let u = refused_between (next s b) before g after why e in
    record {
      lines = ap (λ (z : List ℕ). lines_given s b ++ z) u.lines;
      left = u.left;
      history = λ past.
          let v = judged s.page s.carry b.requests b.answers in
          u.history (added s.page (at_hand s.carry b.requests) past v);
      answers = u.answers;
    }

-- ---- pieces within the limits are never refused
pub never_refused : (s : Between) (gs : List Given) → Ready s → Within gs → AllAccepted s gs
never_refused s [] ready within = tt
never_refused s (g ∷ gs) ready within =
    let c = s.carry in
    let v = to_true (is_valid c) ready.valid in
    let fit : Fits s.page c (length g.requests) (length g.answers) =
    record {
      sound = to_true (sound_of s.page) ready.sound;
      valid = v;
      short = within.0;
      room = omega (arith, (valid c v).few, within.0, within.1);
    } in
    let e : (taken s g).answer ≡ Answer.Accepted =
    ap (λ (t : Taken). t.answer) (taken_is s.page c g.requests g.answers (Ok tt) (passes fit)) in
    (e, never_refused (next s g) gs (ready_next s g e) within.2)

-- so bytes of any length can be taken
pub any_length : (s : Between) (l : List ℕ) → Ready s → AllAccepted s (by_byte l) × (joined (by_byte l) ≡ l)
any_length s l ready = (never_refused s (by_byte l) ready (within l), whole l)
  where
    within : (m : List ℕ) → Within (by_byte m)
    within [] = tt
    within (b ∷ m) = (omega arith, omega (arith, length-replicate {A = ℕ} piece_size 0), within m)

    whole : (m : List ℕ) → joined (by_byte m) ≡ m
    whole [] = refl
    whole (b ∷ m) = ap (λ (z : List ℕ). b ∷ z) (whole m)
