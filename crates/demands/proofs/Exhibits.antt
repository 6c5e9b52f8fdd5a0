-- The exhibits and the flag premises, each one computed test over its whole table; that 25 to 30 give no number but those that are
-- exhibited (`returns_answer`); and that the premises of `Clean` can be met. Assumes nothing.
use Prim.Native.Nat.{ℕ, ◌+◌, ◌-◌, ◌≤◌}
use mathlib.Core.Path.{◌≡◌, refl, subst}
use mathlib.Core.Bool.{Bool, true, false, not, ◌&&◌}
use mathlib.Core.List.{List, [], ◌∷◌, map}
use native.Mathlib.Omega.{arith}
use lib.Dec.{T}
use Rattle.laws.specs.Lists.{every, among}
use Rattle.laws.specs.Tables.{first_applying}
use Rattle.laws.proofs.Pick.{Below, ◌&◌, pick}
use Rattle.kinds.specs.declared.{Bucket.Bucket, ExcState.ExcState}
use Rattle.kinds.specs.Numbers.{flags, flag_from, storage_from, bucket_from, phase_from, exc_from, loading_from, writeback_from}
use Rattle.readers.specs.Listed.{no_readers, pushed, put_at, removed_at}
use Rattle.page_record.specs.declared.Page.{Page}
use Rattle.page_record.specs.Holders.{is_claim, is_await, is_pending, is_editing, exc_clean}
use Rattle.page_record.specs.Pages.{fresh_page}
use Rattle.soundness.specs.Soundness.{sound_of, lowest_broken}
use Rattle.requests.specs.declared.Request.{Request}
use Rattle.requests.specs.Answers.{answer_number}
use Rattle.requests.specs.Requests.{last_step, judged}
use Rattle.requests.specs.Applies.{applies3}
use Rattle.steps.specs.Decide.{decide_of, sought_of}
use Rattle.lock.specs.Step.{step_of, look_for, edited_in}
use Rattle.lock.specs.Applies.{applies1, applies11, bucket_wrong, value_other, applying}
use Rattle.lock.proofs.Least.{least_number}
use Rattle.wire.specs.Bytes.{line_with}
use Rattle.wire.specs.Requests.{bytes_of, read_of}
use Rattle.replay.specs.Turns.{turn_of}
use Rattle.encoding.specs.Images.{kind_bytes, count_bytes, value_bytes, entries, image_of, lengthened}
use Rattle.decoding.specs.Decoding.{u64_at, exc_from_bytes, head_from, reader_from, readers_from, page_from}
use Rattle.image.specs.Keeping.{known_size, limits_by, is_image, read_verdict, restored_from}
use Rattle.image.specs.Samples.{editing_clean, value}
use Rattle.replay.specs.Run.{run_verdict}
use Rattle.pieces.specs.Carries.{is_valid, finish_of}
use Rattle.pieces.specs.Pieces.{piece_verdict}
use Rattle.demands.specs.Cases.{plain, put}
use Rattle.demands.specs.History.{by_request, by_line}
use Rattle.demands.specs.Clean.{CleanTaking, FirstBack}
use Rattle.demands.specs.Exhibits.{exhibited, shown, holders, every_step_taken, break_each, broken_pages, breaks_alone, over_limits}
use Rattle.demands.specs.Exhibits.{answered, trials, may_answer, every_return_shown, every_put_back_shown, whole_numbers, refuses_rightly}
use Rattle.demands.specs.Exhibits.{piece_numbers, end_numbers}
use Rattle.demands.specs.Exhibits.{premises, resumes, resumed, looked, meanwhile}

-- a sound record for each of the eleven flags
pub flags_exhibited : T (every exhibited flags)
unfolding step_of look_for edited_in judged decide_of sought_of sound_of lowest_broken no_readers pushed put_at removed_at fresh_page
flags_exhibited = tt

-- a sound record for each kind of holder
pub holders_exhibited : T (every shown holders)
unfolding step_of look_for edited_in judged decide_of sought_of sound_of lowest_broken no_readers pushed put_at removed_at fresh_page
holders_exhibited = tt

-- each of the 30 steps is accepted somewhere
pub steps_exhibited : T every_step_taken
unfolding step_of look_for edited_in judged decide_of sought_of sound_of lowest_broken no_readers pushed put_at removed_at fresh_page
steps_exhibited = tt

-- each of the eight rules is broken somewhere, and no other there
pub rules_exhibited : T (break_each 1 broken_pages)
unfolding lowest_broken no_readers fresh_page
rules_exhibited = tt

-- rule 8 alone by a count above 127, and by a length above 256
pub limits_exhibited : T (every (breaks_alone 8) over_limits)
unfolding lowest_broken no_readers fresh_page
limits_exhibited = tt

-- each of the numbers 0 to 11 and 17 is given somewhere
pub numbers_exhibited : T (every answered trials)
unfolding step_of look_for edited_in judged decide_of sought_of sound_of lowest_broken no_readers pushed put_at removed_at fresh_page
numbers_exhibited = tt

-- and 12, 13, 14 and 0 to a run as a whole
pub runs_exhibited : whole_numbers ≡ 12 ∷ 13 ∷ 14 ∷ 0 ∷ 0 ∷ 0 ∷ []
unfolding run_verdict sound_of lowest_broken no_readers fresh_page
runs_exhibited = refl

-- 1, 12, 13, 14 and 0 to a piece, and 0 and 12 at the end
pub pieces_exhibited : (piece_numbers ≡ 1 ∷ 12 ∷ 12 ∷ 13 ∷ 14 ∷ 0 ∷ 0 ∷ 0 ∷ []) × (end_numbers ≡ 0 ∷ 12 ∷ 12 ∷ [])
unfolding piece_verdict is_valid finish_of sound_of lowest_broken no_readers fresh_page
pieces_exhibited = (refl, refl)

-- 25 to 30: each is accepted, and gives each number that it can
pub returns_exhibited : T every_return_shown
unfolding step_of look_for edited_in judged decide_of sought_of sound_of lowest_broken no_readers pushed put_at removed_at fresh_page
returns_exhibited = tt

-- .. and no other: of the table of numbers, by whether the page is unsound, a field is wrong, the holder is there, its bucket is wrong,
-- the list is full, and the value is another than a clean holder keeps
by_holder : (unsound field holder : Bool)
    → T (among (may_answer 25)
    (first_applying
    ((1, unsound) ∷ (2, false) ∷ (3, field) ∷ (4, false) ∷ (5, false) ∷ (6, not holder) ∷ (7, holder && false)
    ∷ (8, holder && false) ∷ (9, holder && false) ∷ (10, false) ∷ (11, false) ∷ (17, holder && false) ∷ [])))
by_holder true field holder = tt
by_holder false true holder = tt
by_holder false false true = tt
by_holder false false false = tt

by_bucket : (unsound field holder bucket full : Bool)
    → T (among (may_answer 26)
    (first_applying
    ((1, unsound) ∷ (2, false) ∷ (3, field) ∷ (4, false) ∷ (5, false) ∷ (6, not holder) ∷ (7, holder && bucket)
    ∷ (8, holder && false) ∷ (9, holder && false) ∷ (10, false) ∷ (11, full) ∷ (17, holder && false) ∷ [])))
by_bucket true field holder bucket full = tt
by_bucket false true holder bucket full = tt
by_bucket false false false bucket full = tt
by_bucket false false true true full = tt
by_bucket false false true false true = tt
by_bucket false false true false false = tt

by_value : (unsound field holder other : Bool)
    → T (among (may_answer 29)
    (first_applying
    ((1, unsound) ∷ (2, false) ∷ (3, field) ∷ (4, false) ∷ (5, false) ∷ (6, not holder) ∷ (7, holder && false)
    ∷ (8, holder && false) ∷ (9, holder && false) ∷ (10, false) ∷ (11, false) ∷ (17, holder && other) ∷ [])))
by_value true field holder other = tt
by_value false true holder other = tt
by_value false false false other = tt
by_value false false true true = tt
by_value false false true false = tt

module _ (p : Page) (b : Bucket) (clean value : ℕ) where
  abbrev asked : ℕ → Request
  asked n = record { step = n; bucket = b; clean = clean; value = value }

  abbrev Answers : ℕ → Type 0
  Answers n = T (among (may_answer n) (first_applying (applying p (asked n))))

  abbrev exc : ExcState
  exc = p.exc_state

  answers : Below 6 (λ k. Answers (25 + k))
  answers =
      by_holder (applies1 p) (applies3 (asked 25)) (is_claim exc)
      & by_bucket (applies1 p) (applies3 (asked 26)) (is_claim exc) (bucket_wrong p 26) (applies11 p (asked 26))
      & by_holder (applies1 p) (applies3 (asked 27)) (is_await exc)
      & by_holder (applies1 p) (applies3 (asked 28)) (is_pending exc)
      & by_value (applies1 p) (applies3 (asked 29)) (is_editing exc) (value_other p 29 value)
      & by_value (applies1 p) (applies3 (asked 30)) (is_editing exc) (value_other p 30 value)
      & tt

pub returns_answer : (p : Page) (q : Request) → 25 ≤ q.step → q.step ≤ last_step
    → T (among (may_answer q.step) (answer_number (step_of p q).answer))
returns_answer p q low high =
    let k = q.step - 25 in
    let is : 25 + k ≡ q.step = omega arith in
    rw (least_number p q)
    (subst (Answers p q.bucket q.clean q.value) is
    (pick 6 (λ (k : ℕ). Answers p q.bucket q.clean q.value (25 + k))
    (answers p q.bucket q.clean q.value) k (omega arith)))

-- a clean editor puts in what it took, and a dirty one any value
pub put_backs_exhibited : T every_put_back_shown
unfolding step_of look_for edited_in judged decide_of sought_of sound_of lowest_broken no_readers pushed put_at removed_at fresh_page
put_backs_exhibited = tt

-- what is asked of a clean taking and of the first that puts the page in can be met, from 8 on,
pub clean_exhibited : CleanTaking by_request looked (plain 8) × FirstBack by_request (step_of looked (plain 8)).page meanwhile (put 10 5)
unfolding step_of look_for edited_in judged decide_of sought_of sound_of lowest_broken no_readers pushed put_at removed_at fresh_page
clean_exhibited = (record { takes = tt; clean = tt }, record { none_before = (tt, (tt, (tt, (tt, (tt, tt))))); back = tt })

-- .. by lines of runs, too
pub clean_lines_exhibited : CleanTaking by_line looked (bytes_of (plain 8))
    × FirstBack by_line (turn_of looked (bytes_of (plain 8))).page (map bytes_of meanwhile) (bytes_of (put 10 5))
unfolding step_of look_for edited_in judged decide_of sought_of sound_of lowest_broken no_readers pushed put_at removed_at fresh_page
    turn_of read_of bytes_of line_with
clean_lines_exhibited = (record { takes = tt; clean = tt }, record { none_before = (tt, (tt, (tt, (tt, (tt, tt))))); back = tt })

-- .. and from an image, short and not
abbrev ReadClean : List ℕ → Type 0
ReadClean l =
    T (is_editing (restored_from l).page.exc_state)
    × T (exc_clean (restored_from l).page.exc_state)
    × FirstBack by_request (restored_from l).page (put 9 6 ∷ []) (put 9 value)

pub clean_read_exhibited : ReadClean editing_clean.bytes × ReadClean (lengthened editing_clean.bytes)
unfolding step_of look_for edited_in judged decide_of sought_of sound_of lowest_broken no_readers pushed put_at removed_at fresh_page
    image_of kind_bytes count_bytes value_bytes entries line_with page_from head_from exc_from_bytes u64_at reader_from readers_from known_size limits_by is_image
    read_verdict
    restored_from flag_from storage_from bucket_from phase_from exc_from loading_from writeback_from
clean_read_exhibited =
    ((tt, tt, record { none_before = (tt, tt); back = tt }), (tt, tt, record { none_before = (tt, tt); back = tt }))

-- each flag premise refuses under just the flags that RULES 3.2 shuts out
pub flags_refused : T (every refuses_rightly premises)
unfolding step_of look_for edited_in judged decide_of sought_of sound_of lowest_broken no_readers pushed put_at removed_at fresh_page
flags_refused = tt

-- pages that were read go on
pub restarts_exhibited : T (every resumes resumed)
unfolding step_of look_for edited_in judged decide_of sought_of sound_of lowest_broken no_readers pushed put_at removed_at fresh_page
    image_of kind_bytes count_bytes value_bytes entries line_with page_from head_from exc_from_bytes u64_at reader_from readers_from known_size limits_by is_image
    read_verdict
    restored_from flag_from storage_from bucket_from phase_from exc_from loading_from writeback_from
restarts_exhibited = tt
