-- The worked cases, one computed test over their table; the departures of two of them, and the bytes of case A, as a run and in
-- pieces, each computed. Assumes nothing.
use mathlib.Core.Path.{◌≡◌, refl}
use mathlib.Core.Bool.{◌&&◌}
use mathlib.Core.List.{[], ◌∷◌, ◌++◌}
use lib.Dec.{T}
use lib.ListN.{take, drop, replicate}
use Rattle.kinds.specs.declared.Flag.{Flag}
use Rattle.readers.specs.Listed.{no_readers, pushed, put_at, removed_at}
use Rattle.page_record.specs.Pages.{fresh_page}
use Rattle.soundness.specs.Soundness.{sound_of, lowest_broken}
use Rattle.requests.specs.declared.{Refusal.Refusal, Answer.Answer}
use Rattle.requests.specs.Requests.{judged}
use Rattle.steps.specs.Decide.{decide_of, sought_of}
use Rattle.lock.specs.Step.{step_of, look_for, edited_in}
use Rattle.wire.specs.Answers.{line_of}
use Rattle.wire.specs.Bytes.{line_with}
use Rattle.wire.specs.Requests.{read_of}
use Rattle.replay.specs.Turns.{turn_of}
use Rattle.replay.specs.Run.{run_verdict, ran_of, answers_of}
use Rattle.pieces.specs.Carries.{carry_of, is_valid, finish_of}
use Rattle.pieces.specs.Pieces.{piece_verdict, taken_of, buffer_after}
use Rattle.demands.specs.Cases.{all_hold, worked_cases, case_b, case_k, case_l, departs, requests_a, answers_a}
use Rattle.demands.specs.Cases.{flag_is, stored_is, is_out}
use Rattle.demands.specs.Pieces.{lines_joined, begun, taken, piece_with, cut_a, ragged_a, fresh_left}

-- cases A to H and K to O
pub worked : T (all_hold worked_cases)
unfolding step_of look_for edited_in judged decide_of sought_of sound_of lowest_broken no_readers pushed put_at removed_at fresh_page
worked = tt

-- in K the first 17 leaves bucket 2. No 13 was accepted since the 12, so the second 17 leaves none; and the 30 is by an editor that has
-- none
pub departs_k : departs case_k ≡ 0 ∷ 0 ∷ 1 ∷ 0 ∷ []
unfolding step_of look_for edited_in judged decide_of sought_of sound_of lowest_broken no_readers pushed put_at removed_at fresh_page
departs_k = refl

-- in L the first 25 leaves bucket 1, which the 4 named. A 3 was accepted since, so the second leaves none. The 17 of B leaves bucket 2
pub departs_l : departs (case_b ++ case_l) ≡ 0 ∷ 1 ∷ 1 ∷ 0 ∷ []
unfolding step_of look_for edited_in judged decide_of sought_of sound_of lowest_broken no_readers pushed put_at removed_at fresh_page
departs_l = refl

-- the answer lines of case A, with no byte more
pub worked_bytes : answers_of (fresh_page 0) requests_a (replicate 32 9) ≡ answers_a
unfolding step_of look_for edited_in judged decide_of sought_of sound_of lowest_broken no_readers pushed put_at removed_at fresh_page
    answers_of ran_of run_verdict turn_of read_of line_of line_with
worked_bytes = refl

-- and in pieces: cut after 20 bytes, where 4 are carried, and then nothing, with the record of case A; and after 20 and 25, where 9 bytes
-- are left at the end, and the record that the first request gave stays
pub worked_pieces : (lines_joined (begun (fresh_page 0)) cut_a ≡ answers_a)
    × ((taken (begun (fresh_page 0)) (piece_with (take 20 requests_a) 1)).lines ≡ 1)
    × ((fresh_left (take 1 cut_a)).carry ≡ record { bytes = 17 ∷ replicate 14 0; len = 4 })
    × ((fresh_left cut_a).carry ≡ record { bytes = replicate 15 0; len = 0 })
    × (finish_of (fresh_left cut_a).carry ≡ Answer.Accepted)
    × T (flag_is Flag.Available (fresh_left cut_a).page && stored_is 5 (fresh_left cut_a).page)
    × (lines_joined (begun (fresh_page 0)) ragged_a ≡ 0 ∷ 1 ∷ replicate 14 0)
    × ((taken (fresh_left (take 1 ragged_a)) (piece_with (take 5 (drop 20 requests_a)) 0)).lines ≡ 0)
    × ((fresh_left ragged_a).carry ≡ record { bytes = 17 ∷ replicate 7 0 ++ 5 ∷ replicate 6 0; len = 9 })
    × (finish_of (fresh_left ragged_a).carry ≡ Answer.Refused Refusal.NotWhole)
    × T (flag_is Flag.Loading (fresh_left ragged_a).page && is_out (fresh_left ragged_a).page)
unfolding step_of look_for edited_in judged decide_of sought_of sound_of lowest_broken no_readers pushed put_at removed_at fresh_page
    taken_of buffer_after piece_verdict is_valid carry_of finish_of turn_of read_of line_of line_with
worked_pieces = (refl, refl, refl, refl, refl, tt, refl, refl, refl, refl, tt)
