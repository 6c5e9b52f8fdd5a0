-- What shows that no statement is empty: a sound record for each flag and each kind of holder, each step accepted somewhere, each rule
-- broken alone somewhere, pages that were read and go on, each number given somewhere (15 and 16 by the samples of `image`; those of a
-- run and of a piece apart), each number that 25 to 30 can answer by each of them, and what a clean editor and a dirty one may put in.
-- Last, where soundness and demand 3 see nothing, under which flags a flag premise refuses.
use Rattle.std.specs.Prelude.{ℕ, Option, Some, None, Result, zero, suc, ◌+◌, ◌-◌, ◌*◌, Bool, true, false, not, cond, ◌&&◌, List, [], ◌∷◌, ◌++◌, map, eqb, get_or, replicate}
use Rattle.std.specs.Bool.{beq}
use Rattle.laws.specs.Lists.{every, among}
use Rattle.kinds.specs.declared.{Flag.Flag, Count.Count, Phase.Phase, Reader.Reader}
use Rattle.kinds.specs.declared.{ExcState.ExcState, LoadingState.LoadingState}
use Rattle.kinds.specs.Limits.{most_requests, line_size}
use Rattle.kinds.specs.Numbers.{flags, flag_number, exc_number, loading_number, writeback_number, phase_number}
use Rattle.readers.specs.declared.Readers.{Readers}
use Rattle.readers.specs.Listed.{live, listed, no_readers}
use Rattle.page_record.specs.declared.Page.{Page}
use Rattle.page_record.specs.Holders.{has_bucket, exc_bucket, loading_bucket}
use Rattle.page_record.specs.Pages.{head_of, page_of, fresh_page, head_with}
use Rattle.rules.specs.Rules.{every_bucket}
use Rattle.soundness.specs.Soundness.{rules, lowest_broken, sound_of}
use Rattle.requests.specs.declared.Request.{Request}
use Rattle.requests.specs.declared.Refusal.{Refusal}
use Rattle.requests.specs.Answers.{answer_number}
use Rattle.requests.specs.Requests.{last_step}
use Rattle.heads.specs.Setters.{with_number}
use Rattle.lock.specs.Words.{putting_back}
use Rattle.lock.specs.Step.{step_of}
use Rattle.wire.specs.Buffers.{answer_for}
use Rattle.replay.specs.Run.{run_verdict}
use Rattle.pieces.specs.declared.Carry.{Carry}
use Rattle.pieces.specs.Carries.{finish_of}
use Rattle.pieces.specs.Pieces.{piece_size, piece_verdict}
use Rattle.encoding.specs.Images.{lengthened}
use Rattle.image.specs.Keeping.{restored_from}
use Rattle.image.specs.Samples.{claim, editing, editing_clean, counted, loading, prefetch, value, padded, crowd_bytes}
use Rattle.demands.specs.History.{after, history, start_of, departures, last_withdrew}
use Rattle.demands.specs.Cases.{ask, plain, at, put, clean, flag_is, pending_at}

-- ---- a sound record for each flag and each kind of holder
-- every one of these requests is accepted
abbrev pub all_accepted : Page → List Request → Bool
all_accepted p [] = true
all_accepted p (q ∷ qs) = eqb (answer_number (step_of p q).answer) 0 && all_accepted (step_of p q).page qs

-- a loader comes, fills the page and leaves
abbrev pub fills : List Request
fills = plain 11 ∷ at 13 0 ∷ plain 14 ∷ put 17 5 ∷ []

-- the page that these lead to from a fresh record of 0
abbrev pub led : List Request → Page
led requests = after (fresh_page 0) requests

-- requests that lead there to the flag
abbrev pub way_to : Flag → List Request
way_to Flag.Unmapped = []
way_to Flag.Loading = plain 12 ∷ []
way_to Flag.LoadingExcLock = plain 11 ∷ []
way_to Flag.Available = fills
way_to Flag.Claimed = fills ++ plain 3 ∷ []
way_to Flag.Writeback = fills ++ plain 1 ∷ []
way_to Flag.WritebackAndClaimed = fills ++ plain 1 ∷ plain 3 ∷ []
way_to Flag.WritebackAndPendingExcLock = fills ++ plain 1 ∷ plain 3 ∷ plain 5 ∷ []
way_to Flag.PendingExcLock = fills ++ plain 3 ∷ plain 5 ∷ []
way_to Flag.ExcLockClean = fills ++ plain 3 ∷ plain 5 ∷ clean 1 ∷ []
way_to Flag.ExcLockDirty = fills ++ plain 3 ∷ plain 5 ∷ clean 0 ∷ []

abbrev pub page_under : Flag → Page
page_under f = led (way_to f)

-- the way is accepted, and the record is sound and has that flag
abbrev pub exhibited : Flag → Bool
exhibited f = all_accepted (fresh_page 0) (way_to f) && sound_of (page_under f) && flag_is f (page_under f)

-- these requests are accepted, and after them the record is sound and this is so
pub record Exhibit : Type 0 where
  pub requests : List Request
  pub shows : Page → Bool

abbrev pub shown : Exhibit → Bool
shown e = all_accepted (fresh_page 0) e.requests && sound_of (led e.requests) && e.shows (led e.requests)

-- the exclusive holder, the loader and the writeback, by their numbers, and the first two with a bucket or without
abbrev pub editor_is : ℕ → Bool → Page → Bool
editor_is n bucket p = eqb (exc_number p.exc_state) n && beq (has_bucket (exc_bucket p.exc_state)) bucket

abbrev pub loader_is : ℕ → Bool → Page → Bool
loader_is n bucket p = eqb (loading_number p.loading_state) n && beq (has_bucket (loading_bucket p.loading_state)) bucket

abbrev pub archive_is : ℕ → Page → Bool
archive_is n p = eqb (writeback_number p.writeback_state) n

-- there are readers, and all are in the phase of this number
abbrev pub phase_at : ℕ → Page → Bool
phase_at phase p = every (λ (r : Reader). eqb (phase_number r.phase) phase) (live p.readers) && not (eqb p.readers.len 0)

-- a reader at bucket 2 comes through; a claim with its bucket, and one with none
abbrev pub comes_through : List Request
comes_through = fills ++ at 19 2 ∷ at 23 2 ∷ at 24 2 ∷ []

abbrev pub claims_at2 : List Request
claims_at2 = comes_through ++ ask 4 2 0 5 ∷ []

abbrev pub claims_bare : List Request
claims_bare = fills ++ plain 3 ∷ []

-- from a claim on: the editor waits, closes the page as dirty or as clean, looks at every bucket, has the page out
abbrev pub awaits : List Request
awaits = plain 5 ∷ []

abbrev pub closes : List Request
closes = awaits ++ clean 0 ∷ []

abbrev pub looks : List Request
looks = plain 7 ∷ plain 7 ∷ plain 7 ∷ plain 7 ∷ []

abbrev pub looks_clean : List Request
looks_clean = awaits ++ clean 1 ∷ looks

abbrev pub edits : List Request
edits = closes ++ looks ++ plain 8 ∷ []

abbrev pub edits_clean : List Request
edits_clean = looks_clean ++ plain 8 ∷ []

-- every kind of holder, with a bucket and without where it may have none
abbrev pub holders : List Exhibit
holders =
    record { requests = claims_bare; shows = editor_is 1 false }
    ∷ record { requests = claims_at2; shows = editor_is 1 true }
    ∷ record { requests = claims_bare ++ awaits; shows = editor_is 2 false }
    ∷ record { requests = claims_at2 ++ awaits; shows = editor_is 2 true }
    ∷ record { requests = claims_bare ++ closes; shows = editor_is 3 false }
    ∷ record { requests = claims_at2 ++ closes; shows = editor_is 3 true }
    ∷ record { requests = claims_bare ++ edits; shows = editor_is 5 false }
    ∷ record { requests = claims_at2 ++ edits; shows = editor_is 5 true }
    ∷ record { requests = plain 11 ∷ []; shows = loader_is 1 false }
    ∷ record { requests = plain 11 ∷ at 13 1 ∷ []; shows = loader_is 2 true }
    ∷ record { requests = plain 12 ∷ []; shows = loader_is 3 false }
    ∷ record { requests = plain 11 ∷ at 13 1 ∷ plain 14 ∷ []; shows = loader_is 3 true }
    ∷ record { requests = way_to Flag.Writeback; shows = archive_is 1 }
    ∷ record { requests = at 19 1 ∷ []; shows = phase_at 1 }
    ∷ record { requests = fills ++ at 19 1 ∷ at 23 1 ∷ []; shows = phase_at 2 }
    ∷ record { requests = comes_through; shows = phase_at 3 }
    ∷ []

-- ---- each step is accepted somewhere
-- requests that are all accepted from a fresh record of 0; together they take every step
abbrev pub courses : List (List Request)
courses =
    (plain 12 ∷ [])
    ∷ (plain 11 ∷ plain 15 ∷ [])
    ∷ (plain 11 ∷ at 13 3 ∷ plain 14 ∷ put 16 7 ∷ ask 22 3 0 7 ∷ [])
    ∷ (fills ++ at 19 2 ∷ at 20 2 ∷ at 19 2 ∷ at 23 2 ∷ at 21 2 ∷ plain 1 ∷ plain 2 ∷ [])
    ∷ (claims_at2 ++ edits ++ put 9 6 ∷ [])
    ∷ (claims_bare ++ edits ++ at 18 1 ∷ put 10 6 ∷ [])
    ∷ (claims_at2 ++ awaits ++ plain 27 ∷ plain 25 ∷ [])
    ∷ (claims_at2 ++ closes ++ plain 28 ∷ plain 26 ∷ [])
    ∷ (claims_at2 ++ edits ++ put 29 6 ∷ [])
    ∷ (claims_bare ++ edits ++ put 30 6 ∷ [])
    ∷ []

abbrev pub taken : ℕ → Bool
taken n = not (every (λ (course : List Request). every (λ (q : Request). not (eqb q.step n)) course) courses)

-- the numbers from n on, so many
abbrev pub up_from : ℕ → ℕ → List ℕ
up_from n zero = []
up_from n (suc k) = n ∷ up_from (n + 1) k

abbrev pub every_step_taken : Bool
every_step_taken = every (all_accepted (fresh_page 0)) courses && every taken (up_from 1 last_step)

-- ---- pages that readers wait for
-- so many at each bucket
abbrev pub numbered : ℕ → ℕ → ℕ → ℕ → List Count
numbered a b c d = record { 0 = a } ∷ record { 0 = b } ∷ record { 0 = c } ∷ record { 0 = d } ∷ []

abbrev pub waiting : ℕ → ℕ → ℕ → ℕ → List Reader
waiting a b c d = replicate a (pending_at 0) ++ replicate b (pending_at 1) ++ replicate c (pending_at 2) ++ replicate d (pending_at 3)

-- of a fresh page
abbrev pub crowd : ℕ → ℕ → ℕ → ℕ → Page
crowd a b c d = page_of (head_with (Some 0) Flag.Unmapped (numbered a b c d) ExcState.None LoadingState.None None) (listed (waiting a b c d))

-- ---- each rule is broken alone somewhere
-- a page of these parts, with n at bucket 0 and 0 at the others; and one that nobody holds
abbrev pub page_of_parts : Option ℕ → Flag → ℕ → ExcState → LoadingState → Option ℕ → Readers → Page
page_of_parts s f n e l w rs =
    page_of (head_with s f (with_number 0 n (fresh_page 0).ref_counts) e l w) rs

abbrev pub unheld : Option ℕ → Flag → ℕ → Readers → Page
unheld s f n rs = page_of_parts s f n ExcState.None LoadingState.None None rs

-- storage is empty, and nobody has it
abbrev pub lost : Page
lost = unheld None Flag.Unmapped 0 no_readers

abbrev pub one_at : Phase → Reader
one_at phase = record { phase = phase; bucket = record { 0 = 0 } }

-- the lowest broken rule of each is its place, from 1: storage empty and nobody has it; a claim on another value; a writeback
-- of another value; a counted loader without a bucket; a count and no reference; a claim under Available; a reader past the
-- first check under Unmapped; an entry past the length that isn't blank
abbrev pub broken_pages : List Page
broken_pages =
    lost
    ∷ page_of_parts (Some 0) Flag.Claimed 0 (ExcState.Claim None 1) LoadingState.None None no_readers
    ∷ page_of_parts (Some 0) Flag.Writeback 0 ExcState.None LoadingState.None (Some 1) no_readers
    ∷ page_of_parts None Flag.LoadingExcLock 0 ExcState.None (LoadingState.PendingCounted None) None no_readers
    ∷ unheld (Some 0) Flag.Unmapped 1 no_readers
    ∷ page_of_parts (Some 0) Flag.Available 0 (ExcState.Claim None 0) LoadingState.None None no_readers
    ∷ unheld (Some 0) Flag.Unmapped 1 (listed (one_at Phase.Pending2 ∷ []))
    ∷ unheld (Some 0) Flag.Unmapped 0
    (record { items = (listed (one_at Phase.Pending2 ∷ [])).items; len = 0 })
    ∷ []

-- and rule 8 by its numbers: one more at a bucket than may be, each listed; a length above the array's
abbrev pub over_limits : List Page
over_limits =
    crowd 128 0 0 0
    ∷ page_of (head_of (crowd 64 64 64 64)) (record { items = (crowd 64 64 64 64).readers.items; len = 257 })
    ∷ []

-- just this rule is broken
abbrev pub breaks : ℕ → List Bool → Bool
breaks n [] = true
breaks n (t ∷ ts) = beq t (not (eqb n 1)) && breaks (n - 1) ts

abbrev pub breaks_alone : ℕ → Page → Bool
breaks_alone n p = breaks n (rules (head_of p) p.readers) && eqb (lowest_broken p) n

abbrev pub break_each : ℕ → List Page → Bool
break_each n [] = true
break_each n (p ∷ ps) = breaks_alone n p && break_each (n + 1) ps

-- ---- a page that was read goes on
-- the bytes, and whether the page counts as withdrawn then; requests that are all accepted, and how often they depart from each bucket
pub record Resumed : Type 0 where
  pub from : List ℕ
  pub out : Bool
  pub requests : List Request
  pub departs : List ℕ

abbrev pub resumes : Resumed → Bool
resumes r =
    let p = (restored_from r.from).page in
    let told = history p r.requests [] in
    eqb (answer_number (restored_from r.from).answer) 0
    && all_accepted p r.requests
    && beq (last_withdrew (start_of p) []) r.out
    && every (λ b. eqb (departures (start_of p) b told) (get_or r.departs b 0)) every_bucket

-- a loader that was read with a bucket leaves it; one that has none leaves none; a reader that was read leaves its own; a claimant that
-- was read leaves the bucket that it was read with, and the next one its own; an editor that was read without one leaves none, or the
-- one that it got since by an 18, which says nothing of a claimant that comes after it; a clean one puts in the value that was read
abbrev pub resumed : List Resumed
resumed =
    record { from = loading.bytes; out = true; requests = put 17 5 ∷ []; departs = 1 ∷ 0 ∷ 0 ∷ 0 ∷ [] }
    ∷ record { from = counted.bytes; out = true; requests = plain 14 ∷ put 17 5 ∷ []; departs = 0 ∷ 0 ∷ 0 ∷ 1 ∷ [] }
    ∷ record { from = prefetch.bytes; out = true; requests = put 17 5 ∷ []; departs = 0 ∷ 0 ∷ 0 ∷ 0 ∷ [] }
    ∷ record { from = claim.bytes; out = false; requests = ask 22 3 0 value ∷ []; departs = 0 ∷ 0 ∷ 0 ∷ 1 ∷ [] }
    ∷ record { from = editing.bytes; out = true; requests = at 18 1 ∷ put 10 6 ∷ []; departs = 0 ∷ 0 ∷ 0 ∷ 0 ∷ [] }
    ∷ record { from = claim.bytes; out = false; requests = plain 25 ∷ []; departs = 0 ∷ 0 ∷ 1 ∷ 0 ∷ [] }
    ∷ record { from = claim.bytes; out = false; requests = plain 25 ∷ plain 3 ∷ plain 25 ∷ []; departs = 0 ∷ 0 ∷ 1 ∷ 0 ∷ [] }
    ∷ record { from = claim.bytes; out = false; requests = plain 26 ∷ ask 4 3 0 value ∷ plain 25 ∷ []; departs = 0 ∷ 0 ∷ 0 ∷ 1 ∷ [] }
    ∷ record { from = editing.bytes; out = true; requests = put 29 6 ∷ []; departs = 0 ∷ 0 ∷ 0 ∷ 0 ∷ [] }
    ∷ record { from = editing.bytes; out = true; requests = at 18 1 ∷ put 30 6 ∷ []; departs = 0 ∷ 1 ∷ 0 ∷ 0 ∷ [] }
    ∷ record { from = editing.bytes; out = true; requests = at 18 1 ∷ put 29 6 ∷ plain 3 ∷ plain 25 ∷ []; departs = 0 ∷ 1 ∷ 0 ∷ 0 ∷ [] }
    ∷ record { from = editing_clean.bytes; out = true; requests = put 9 value ∷ []; departs = 0 ∷ 0 ∷ 0 ∷ 0 ∷ [] }
    ∷ record { from = editing_clean.bytes; out = true; requests = put 29 value ∷ []; departs = 0 ∷ 1 ∷ 0 ∷ 0 ∷ [] }
    -- the same of images of today's length; a full list, of which one leaves and another comes
    ∷ record { from = lengthened loading.bytes; out = true; requests = put 17 5 ∷ []; departs = 1 ∷ 0 ∷ 0 ∷ 0 ∷ [] }
    ∷ record { from = lengthened editing_clean.bytes; out = true; requests = put 29 value ∷ []; departs = 0 ∷ 1 ∷ 0 ∷ 0 ∷ [] }
    ∷ record { from = crowd_bytes 256 3 (64 ∷ 64 ∷ 64 ∷ 64 ∷ []); out = false; requests = at 20 3 ∷ at 19 0 ∷ []; departs = 0 ∷ 0 ∷ 0 ∷ 1 ∷ [] }
    -- read short at either of the short limits, and then past it
    ∷ record { from = padded (crowd_bytes 31 0 (31 ∷ [])); out = false; requests = at 19 0 ∷ []; departs = 0 ∷ 0 ∷ 0 ∷ 0 ∷ [] }
    ∷ record { from = crowd_bytes 64 3 (16 ∷ 16 ∷ 16 ∷ 16 ∷ []); out = false; requests = at 19 0 ∷ []; departs = 0 ∷ 0 ∷ 0 ∷ 0 ∷ [] }
    ∷ []

-- ---- each number is given somewhere
-- a request on a page, and its number
pub record Trial : Type 0 where
  pub page : Page
  pub request : Request
  pub number : ℕ

abbrev pub answered : Trial → Bool
answered t = eqb (answer_number (step_of t.page t.request).answer) t.number

-- 0 to 11 and 17, in their order; every page but that of 1 is sound
abbrev pub trials : List Trial
trials =
    record { page = crowd 64 64 64 64; request = at 20 3; number = 0 }
    ∷ record { page = lost; request = plain 0; number = 1 }
    ∷ record { page = fresh_page 0; request = at 31 4; number = 2 }
    ∷ record { page = fresh_page 0; request = at 1 1; number = 3 }
    ∷ record { page = fresh_page 0; request = at 13 9; number = 4 }
    ∷ record { page = fresh_page 0; request = plain 1; number = 5 }
    ∷ record { page = fresh_page 0; request = plain 2; number = 6 }
    ∷ record { page = page_under Flag.Loading; request = put 16 5; number = 7 }
    ∷ record { page = page_under Flag.ExcLockClean; request = plain 8; number = 8 }
    ∷ record { page = after (page_under Flag.ExcLockClean) (at 19 0 ∷ []); request = plain 7; number = 9 }
    -- case I: at a bucket there is room for the 127th and not for one more; in the list for the 256th; and 10 comes before 11
    ∷ record { page = crowd 126 0 0 0; request = at 19 0; number = 0 }
    ∷ record { page = crowd 127 0 0 0; request = at 19 0; number = 10 }
    ∷ record { page = crowd 64 64 64 63; request = at 19 3; number = 0 }
    ∷ record { page = crowd 64 64 64 64; request = at 19 0; number = 11 }
    ∷ record { page = crowd 127 127 2 0; request = at 19 0; number = 10 }
    ∷ record { page = crowd 127 127 2 0; request = at 19 3; number = 11 }
    ∷ record { page = led (claims_bare ++ edits_clean); request = put 29 6; number = 17 }
    ∷ []

-- those of a run: 15 bytes; 2,049 requests; one request and 15 bytes for its answer; and one of none, of two and of 2,048 requests
-- is accepted
abbrev pub whole_numbers : List ℕ
whole_numbers =
    map (λ (v : Result (Unit {0}) Refusal). answer_number (answer_for v))
    (run_verdict (fresh_page 0) 15 16
    ∷ run_verdict (fresh_page 0) (line_size * (most_requests + 1)) (line_size * (most_requests + 1))
    ∷ run_verdict (fresh_page 0) 16 15
    ∷ run_verdict (fresh_page 0) 0 0
    ∷ run_verdict (fresh_page 0) 32 32
    ∷ run_verdict (fresh_page 0) (line_size * most_requests) (line_size * most_requests)
    ∷ [])

-- those of a piece: of a page that is not sound, whatever else is wrong; a carry that claims 16 bytes, before a piece of 4,097, and one of
-- length 0 with a byte set; a piece of 4,097; one byte that makes a request whole, and 15 bytes for its answer. With 16 it is accepted, as
-- are one of 4,096 after 15 and one of none
abbrev pub claims : ℕ → ℕ → Carry
claims len first = record { bytes = first ∷ replicate 14 0; len = len }

abbrev pub piece_numbers : List ℕ
piece_numbers =
    map (λ (v : Result (Unit {0}) Refusal). answer_number (answer_for v))
    (piece_verdict lost (claims 16 0) (piece_size + 1) 0
    ∷ piece_verdict (fresh_page 0) (claims 16 0) (piece_size + 1) 0
    ∷ piece_verdict (fresh_page 0) (claims 0 1) 0 0
    ∷ piece_verdict (fresh_page 0) (claims 0 0) (piece_size + 1) 0
    ∷ piece_verdict (fresh_page 0) (claims 15 7) 1 15
    ∷ piece_verdict (fresh_page 0) (claims 15 7) 1 16
    ∷ piece_verdict (fresh_page 0) (claims 15 7) piece_size piece_size
    ∷ piece_verdict (fresh_page 0) (claims 0 0) 0 0
    ∷ [])

-- and of the end: an empty carry; one of length 0 with a byte set; one of length 1 that is zero
abbrev pub end_numbers : List ℕ
end_numbers = map (λ (c : Carry). answer_number (finish_of c)) (claims 0 0 ∷ claims 0 1 ∷ claims 1 0 ∷ [])

-- ---- what is given back
-- a full list, and a claim at bucket 0 beside it
abbrev pub full_claimed : Page
full_claimed =
    page_of
    (head_with (Some 0) Flag.Claimed (numbered 65 64 64 64) (ExcState.Claim (Some (record { 0 = 0 })) 0) LoadingState.None
    None)
    (listed (waiting 64 64 64 64))

-- the numbers that 25 to 30 can answer, and no other (`returns_answer`): they are known steps, take no bucket and ask for no flag
abbrev pub may_answer : ℕ → List ℕ
may_answer n =
    cond (eqb n 26) (0 ∷ 1 ∷ 3 ∷ 6 ∷ 7 ∷ 11 ∷ [])
    (cond (among putting_back n) (0 ∷ 1 ∷ 3 ∷ 6 ∷ 17 ∷ [])
    (0 ∷ 1 ∷ 3 ∷ 6 ∷ []))

-- each of them is accepted, and answers each of these
abbrev pub returns : List Trial
returns =
    record { page = led claims_at2; request = plain 25; number = 0 }
    ∷ record { page = lost; request = plain 25; number = 1 }
    ∷ record { page = led claims_at2; request = at 25 2; number = 3 }
    ∷ record { page = led (claims_at2 ++ awaits); request = plain 25; number = 6 }
    ∷ record { page = led claims_at2; request = plain 26; number = 0 }
    ∷ record { page = lost; request = plain 26; number = 1 }
    ∷ record { page = led claims_at2; request = put 26 5; number = 3 }
    ∷ record { page = led (claims_at2 ++ awaits); request = plain 26; number = 6 }
    ∷ record { page = led claims_bare; request = plain 26; number = 7 }
    ∷ record { page = full_claimed; request = plain 26; number = 11 }
    ∷ record { page = led (claims_bare ++ awaits); request = plain 27; number = 0 }
    ∷ record { page = lost; request = plain 27; number = 1 }
    ∷ record { page = led (claims_bare ++ awaits); request = ask 27 0 1 0; number = 3 }
    ∷ record { page = led (claims_bare ++ closes); request = plain 27; number = 6 }
    ∷ record { page = led (claims_bare ++ closes); request = plain 28; number = 0 }
    ∷ record { page = led (claims_bare ++ looks_clean); request = plain 28; number = 0 }
    ∷ record { page = lost; request = plain 28; number = 1 }
    ∷ record { page = led (claims_bare ++ closes); request = put 28 5; number = 3 }
    ∷ record { page = led (claims_bare ++ edits); request = plain 28; number = 6 }
    ∷ record { page = led (claims_bare ++ edits); request = put 29 6; number = 0 }
    ∷ record { page = lost; request = put 29 6; number = 1 }
    ∷ record { page = led (claims_bare ++ edits); request = ask 29 0 1 6; number = 3 }
    ∷ record { page = led (claims_bare ++ closes); request = put 29 6; number = 6 }
    ∷ record { page = led (claims_bare ++ edits_clean); request = put 29 6; number = 17 }
    ∷ record { page = led (claims_bare ++ edits); request = put 30 6; number = 0 }
    ∷ record { page = lost; request = put 30 6; number = 1 }
    ∷ record { page = led (claims_bare ++ edits); request = ask 30 1 0 6; number = 3 }
    ∷ record { page = fresh_page 0; request = put 30 6; number = 6 }
    ∷ record { page = led (claims_at2 ++ edits_clean); request = put 30 6; number = 17 }
    ∷ []

-- there is a row for this step and this number
abbrev pub row_for : ℕ → ℕ → Bool
row_for n number = not (every (λ (t : Trial). not (eqb t.request.step n && eqb t.number number)) returns)

abbrev pub every_return_shown : Bool
every_return_shown = every answered returns && every (λ n. every (row_for n) (may_answer n)) (up_from 25 6)

-- ---- what is put back
-- a full list of readers that wait, beside a clean editor that has the page out at bucket 0, and keeps 5
abbrev pub full_out : Page
full_out =
    page_of
    (head_with None Flag.ExcLockClean (numbered 65 64 64 64) (ExcState.Obtained (Some (record { 0 = 0 })) true 5)
    LoadingState.None None)
    (listed (waiting 64 64 64 64))

-- a clean editor puts in what it took, 5, and no other value, with a bucket or without, and after 18 gave it one; a dirty one puts in
-- either. 7 and 11 come before 17; the request's own clean is 3, before both
abbrev pub put_backs : List Trial
put_backs =
    record { page = led (claims_at2 ++ edits_clean); request = put 9 5; number = 0 }
    ∷ record { page = led (claims_at2 ++ edits_clean); request = put 9 6; number = 17 }
    ∷ record { page = led (claims_at2 ++ edits_clean); request = ask 9 0 1 6; number = 3 }
    ∷ record { page = led (claims_at2 ++ edits); request = put 9 5; number = 0 }
    ∷ record { page = led (claims_at2 ++ edits); request = put 9 6; number = 0 }
    ∷ record { page = led (claims_bare ++ edits_clean); request = put 9 6; number = 7 }
    ∷ record { page = led (claims_bare ++ edits_clean ++ at 18 1 ∷ []); request = put 9 6; number = 17 }
    ∷ record { page = led (claims_bare ++ edits_clean ++ at 18 1 ∷ []); request = put 9 5; number = 0 }
    ∷ record { page = full_out; request = put 9 6; number = 11 }
    ∷ record { page = full_out; request = put 9 5; number = 11 }
    ∷ record { page = full_out; request = put 29 6; number = 17 }
    ∷ record { page = led (claims_at2 ++ edits_clean); request = put 10 5; number = 0 }
    ∷ record { page = led (claims_at2 ++ edits_clean); request = put 10 6; number = 17 }
    ∷ record { page = led (claims_at2 ++ edits); request = put 10 5; number = 0 }
    ∷ record { page = led (claims_at2 ++ edits); request = put 10 6; number = 0 }
    ∷ record { page = led (claims_bare ++ edits_clean); request = put 10 6; number = 7 }
    ∷ record { page = led (claims_at2 ++ edits_clean); request = put 29 5; number = 0 }
    ∷ record { page = led (claims_bare ++ edits_clean); request = put 29 5; number = 0 }
    ∷ record { page = led (claims_at2 ++ edits_clean); request = put 29 6; number = 17 }
    ∷ record { page = led (claims_at2 ++ edits); request = put 29 5; number = 0 }
    ∷ record { page = led (claims_at2 ++ edits_clean); request = put 30 5; number = 0 }
    ∷ record { page = led (claims_bare ++ edits_clean); request = put 30 6; number = 17 }
    ∷ record { page = led (claims_bare ++ edits); request = put 30 5; number = 0 }
    ∷ []

-- .. and each of these pages is sound
abbrev pub every_put_back_shown : Bool
every_put_back_shown = every answered put_backs && every (λ (t : Trial). sound_of t.page) put_backs

-- a clean editor that has looked at every bucket, and what is asked once it has the page out: other values, a bucket, a reader, a loader's
-- deposit; then it puts in what it took
abbrev pub looked : Page
looked = led (claims_bare ++ looks_clean)

abbrev pub meanwhile : List Request
meanwhile = put 29 6 ∷ at 18 1 ∷ put 9 6 ∷ at 19 3 ∷ put 17 5 ∷ []

-- ---- flag premises
-- a request that is well formed, and the flags under which it is let through; under every other flag the answer is 5
pub record Premise : Type 0 where
  pub request : Request
  pub lets : List ℕ

-- RULES 3.2, by the numbers of the flags
abbrev pub premises : List Premise
premises =
    record { request = plain 1; lets = 3 ∷ [] }
    ∷ record { request = plain 3; lets = 3 ∷ 5 ∷ [] }
    ∷ record { request = ask 4 1 0 5; lets = 3 ∷ 5 ∷ [] }
    ∷ record { request = clean 0; lets = 0 ∷ 1 ∷ 2 ∷ 3 ∷ 4 ∷ 6 ∷ 8 ∷ 9 ∷ 10 ∷ [] }
    ∷ record { request = plain 11; lets = 0 ∷ [] }
    ∷ record { request = plain 12; lets = 0 ∷ [] }
    ∷ record { request = at 23 1; lets = 1 ∷ 3 ∷ 4 ∷ 5 ∷ 6 ∷ [] }
    ∷ record { request = at 24 1; lets = 0 ∷ 2 ∷ 3 ∷ 4 ∷ 5 ∷ 6 ∷ 7 ∷ 8 ∷ 9 ∷ 10 ∷ [] }
    ∷ []

-- 5 is the answer just under the flags that are not listed
abbrev pub refuses_rightly : Premise → Bool
refuses_rightly r =
    every (λ f. beq (eqb (answer_number (step_of (page_under f) r.request).answer) 5) (not (among r.lets (flag_number f)))) flags
