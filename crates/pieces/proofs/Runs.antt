-- A piece that passes is a run of the whole requests at hand, which are so few that the run refuses nothing (`run_passes`): its page and
-- its buffer are the run's (`piece_ran`, `piece_lines`). Assumes nothing.
use Rattle.std.specs.Prelude.{Ok}
use Prim.Native.Nat.{ℕ, ◌+◌, ◌-◌, ◌*◌, ◌/◌, ◌≤◌}
use mathlib.Core.Path.{◌≡◌, sym, ap, ◌∙◌}
use mathlib.Core.List.{List, ◌++◌}
use native.Mathlib.Omega.{arith}
use lib.ListN.{length, take, drop, length-append}
use lib.Seq.{take_at, take-append-le, drop-append-le}
use Rattle.kinds.specs.Limits.{line_size}
use Rattle.page_record.specs.declared.Page.{Page}
use Rattle.requests.specs.declared.Answer.{Answer}
use Rattle.lock.specs.declared.Outcome.{Outcome}
use Rattle.replay.specs.Run.{requests_of, page_after, lines_of, run_verdict, ends, fills, ran_of, answers_of}
use Rattle.replay.proofs.Judged.{passed}
use Rattle.replay.proofs.Pages.{length_requests}
use Rattle.replay.proofs.Lines.{length_lines}
use Rattle.pieces.specs.declared.{Carry.Carry, Taken.Taken}
use Rattle.pieces.specs.Carries.{carry_size, held, carry_of}
use Rattle.pieces.specs.Pieces.{piece_size, at_hand, whole_in, whole_of, rest_of, takes, taken_of, buffer_after}
use Rattle.pieces.proofs.Joins.{length_rest, length_whole, requests_whole}
use Rattle.pieces.proofs.Carries.{valid, length_held}
use Rattle.pieces.proofs.Judged.{Fits, passes, taken_is, buffer_is}

-- at most 256 requests are at hand, as many as the longest piece has
pub few_requests : (n : ℕ) → n ≤ carry_size + piece_size → n / line_size ≤ piece_size / line_size
few_requests n h = omega arith

-- the whole requests have as many bytes of lines as of their own
pub length_whole_lines : (page : Page) (l : List ℕ) → length (lines_of page (requests_of l)) ≡ whole_in (length l)
length_whole_lines page l = length_lines page (requests_of l) ∙ ap (λ (n : ℕ). line_size * n) (length_requests l)

module _ (page : Page) (c : Carry) (piece answers : List ℕ) (a : Fits page c (length piece) (length answers)) where
  abbrev l : List ℕ
  l = at_hand c piece

  at_hand_lem : length l ≡ c.len + length piece
  at_hand_lem = length-append (held c) piece ∙ ap (λ (n : ℕ). n + length piece) (length_held c a.valid)

  pub run_passes : run_verdict page (length (whole_of l)) (length answers) ≡ Ok tt
  run_passes =
      let n = at_hand_lem in
      let w = length_whole l in
      let few = few_requests (length l) (omega (arith, n, a.short, (valid c a.valid).few)) in
      let room : whole_in (length l) ≤ length answers = rw n a.room in
      passed (record {
        sound = a.sound;
        whole = rw w (omega arith);
        few = rw w (omega arith);
        room = rw w (omega arith);
      })

  pub piece_ran : ran_of page (whole_of l) answers ≡ record { answer = Answer.Accepted; page = page_after page (requests_of l) }
  unfolding ran_of
  piece_ran =
      ap (ends page (whole_of l)) run_passes
      ∙ ap (λ (qs : List (List ℕ)). record { answer = Answer.Accepted; page = page_after page qs }) (requests_whole l)

  pub piece_lines : answers_of page (whole_of l) answers ≡ lines_of page (requests_of l) ++ drop (whole_in (length l)) answers
  unfolding answers_of
  piece_lines =
      ap (fills page (whole_of l) answers) run_passes
      ∙ ap (λ (qs : List (List ℕ)). lines_of page qs ++ drop (length (whole_of l)) answers) (requests_whole l)
      ∙ ap (λ (n : ℕ). lines_of page (requests_of l) ++ drop n answers) (length_whole l)

  -- ---- what `take` has in hand: bytes of which the first are those at hand, cut after the whole requests and after the rest
  module _ (all past : List ℕ) (made : all ≡ l ++ past) where
    abbrev end : ℕ
    end = c.len + length piece

    first_part : take (whole_in end) all ≡ whole_of l
    first_part =
        let n = at_hand_lem in
        ap (take (whole_in end)) made
        ∙ take-append-le (whole_in end) l past (omega arith)
        ∙ ap (λ (k : ℕ). take (whole_in k) l) (sym n)

    second_part : take (end - whole_in end) (drop (whole_in end) all) ≡ rest_of l
    second_part =
        let n = at_hand_lem in
        let r = length_rest l in
        let long : length (rest_of l) ≡ end - whole_in end = omega arith in
        ap (λ (z : List ℕ). take (end - whole_in end) (drop (whole_in end) z)) made
        ∙ ap (λ (k : ℕ). take (end - whole_in end) (drop (whole_in k) (l ++ past))) (sym n)
        ∙ ap (take (end - whole_in end)) (drop-append-le (whole_in (length l)) l past (omega arith))
        ∙ take_at (rest_of l) past (end - whole_in end) long

    -- what the run of the first part and the carry of the second come to
    abbrev gives : Outcome → Carry → Taken
    gives ran rest = record { answer = ran.answer; page = ran.page; carry = rest; lines = end / line_size }

    pub taken_by : (ran : Outcome) (rest : Carry) (ys : List ℕ) → ran ≡ ran_of page (take (whole_in end) all) answers
        → ys ≡ answers_of page (take (whole_in end) all) answers
        → rest ≡ carry_of (take (end - whole_in end) (drop (whole_in end) all))
        → (gives ran rest ≡ taken_of page c piece answers) × (ys ≡ buffer_after page c piece answers)
    taken_by ran rest ys r y k =
        let o : ran ≡ record { answer = Answer.Accepted; page = page_after page (requests_of l) } =
        r ∙ ap (λ (z : List ℕ). ran_of page z answers) first_part ∙ piece_ran in
        let left = k ∙ ap carry_of second_part in
        let n = at_hand_lem in
        let came : gives ran rest ≡ takes page c piece (Ok tt) =
        λ i. record { answer = (o i).answer; page = (o i).page; carry = left i; lines = sym n i / line_size } in (
          came ∙ sym (taken_is page c piece answers (Ok tt) (passes a)),
          y
              ∙ ap (λ (z : List ℕ). answers_of page z answers) first_part
              ∙ piece_lines
              ∙ sym (buffer_is page c piece answers (Ok tt) (passes a)),
        )
