-- The worked cases A to H and K to O of RULES 10 as one table: what each request is answered, and what is said of the record then; the
-- departures of K and L; and case A as the bytes of a run.
use Rattle.std.specs.Prelude.{ℕ, Bool, true, false, not, ◌&&◌, List, [], ◌∷◌, ◌++◌, map, eqb, replicate}
use Rattle.std.specs.Bool.{beq}
use Rattle.laws.specs.Lists.{every}
use Rattle.kinds.specs.declared.{Flag.Flag, Phase.Phase, Reader.Reader}
use Rattle.kinds.specs.Numbers.{flag_number}
use Rattle.readers.specs.Same.{same_reader}
use Rattle.readers.specs.Listed.{live}
use Rattle.page_record.specs.declared.Page.{Page}
use Rattle.page_record.specs.Holders.{is_stored, holds}
use Rattle.page_record.specs.Pages.{number_at, fresh_page}
use Rattle.rules.specs.Rules.{every_bucket}
use Rattle.soundness.specs.Soundness.{sound_of}
use Rattle.requests.specs.declared.{Request.Request, Answer.Answer, Refusal.Refusal}
use Rattle.requests.specs.Answers.{answer_number, withdraws, answer_value}
use Rattle.lock.specs.Step.{step_of}
use Rattle.demands.specs.History.{history, start_of, departures}

-- ---- requests
abbrev pub ask : ℕ → ℕ → ℕ → ℕ → Request
ask step bucket clean value = record { step = step; bucket = record { 0 = bucket }; clean = clean; value = value }

-- a step that takes nothing, a bucket, a value, clean
abbrev pub plain : ℕ → Request
plain step = ask step 0 0 0

abbrev pub at : ℕ → ℕ → Request
at step bucket = ask step bucket 0 0

abbrev pub put : ℕ → ℕ → Request
put step value = ask step 0 0 value

abbrev pub clean : ℕ → Request
clean said = ask 6 0 said 0

-- ---- what is said of the record
abbrev pub flag_is : Flag → Page → Bool
flag_is f p = eqb (flag_number p.flag) (flag_number f)

abbrev pub counts_are : ℕ → ℕ → ℕ → ℕ → Page → Bool
counts_are a b c d p =
    eqb (number_at p.ref_counts 0) a
    && eqb (number_at p.ref_counts 1) b
    && eqb (number_at p.ref_counts 2) c
    && eqb (number_at p.ref_counts 3) d

abbrev pub stored_is : ℕ → Page → Bool
stored_is v p = holds p.storage v

abbrev pub is_out : Page → Bool
is_out p = not (is_stored p.storage)

-- the list has just these readers, in this order
abbrev pub same_readers : List Reader → List Reader → Bool
same_readers [] [] = true
same_readers [] (r ∷ rs) = false
same_readers (r ∷ rs) [] = false
same_readers (r ∷ rs) (x ∷ xs) = same_reader r x && same_readers rs xs

abbrev pub list_is : List Reader → Page → Bool
list_is rs p = same_readers (live p.readers) rs

abbrev pub obtained_at : ℕ → ℕ → Reader
obtained_at b v = record { phase = Phase.Obtained v; bucket = record { 0 = b } }

abbrev pub pending_at : ℕ → Reader
pending_at b = record { phase = Phase.Pending; bucket = record { 0 = b } }

-- ---- a table
-- a request, the answer, and what is said of the record then
pub record Row : Type 0 where
  pub request : Request
  pub answer : Answer
  pub says : List (Page → Bool)

abbrev pub same_answer : Answer → Answer → Bool
same_answer a b = eqb (answer_number a) (answer_number b) && beq (withdraws a) (withdraws b) && eqb (answer_value a) (answer_value b)

abbrev pub say_all : Page → List (Page → Bool) → Bool
say_all p [] = true
say_all p (f ∷ fs) = f p && say_all p fs

-- every row holds, one after the other, and the record stays sound
abbrev pub holds_from : Page → List Row → Bool
holds_from p [] = true
holds_from p (r ∷ rs) =
    same_answer (step_of p r.request).answer r.answer
    && say_all (step_of p r.request).page r.says
    && sound_of (step_of p r.request).page
    && holds_from (step_of p r.request).page rs

-- each case starts from a fresh record of 0
abbrev pub all_hold : List (List Row) → Bool
all_hold cases = every (holds_from (fresh_page 0)) cases

abbrev pub ok : Request → List (Page → Bool) → Row
ok q says = record { request = q; answer = Answer.Accepted; says = says }

abbrev pub out : Request → ℕ → List (Page → Bool) → Row
out q value says = record { request = q; answer = Answer.Withdrew value; says = says }

abbrev pub no : Request → Refusal → Row
no q why = record { request = q; answer = Answer.Refused why; says = [] }

-- ---- the worked cases
abbrev pub case_a : List Row
case_a =
    out (plain 12) 0 (flag_is Flag.Loading ∷ is_out ∷ [])
    ∷ ok (put 17 5) (flag_is Flag.Available ∷ stored_is 5 ∷ counts_are 0 0 0 0 ∷ [])
    ∷ []

-- the same beside a reader: its count stays, at bucket 0 too
abbrev pub case_aBeside : ℕ → (Page → Bool) → List Row
case_aBeside b counts =
    out (plain 12) 0 []
    ∷ ok (at 19 b) (counts ∷ [])
    ∷ ok (put 17 5) (flag_is Flag.Available ∷ stored_is 5 ∷ counts ∷ [])
    ∷ []

-- .. and by a loader that waited first
abbrev pub case_aWaiting : List Row
case_aWaiting =
    out (plain 11) 0 (flag_is Flag.LoadingExcLock ∷ [])
    ∷ ok (plain 15) (flag_is Flag.Loading ∷ [])
    ∷ ok (put 17 7) (flag_is Flag.Available ∷ stored_is 7 ∷ [])
    ∷ []

abbrev pub cases_a : List (List Row)
cases_a = case_a ∷ case_aBeside 1 (counts_are 0 1 0 0) ∷ case_aBeside 0 (counts_are 1 0 0 0) ∷ case_aWaiting ∷ []

abbrev pub case_b : List Row
case_b =
    out (plain 11) 0 (is_out ∷ [])
    ∷ ok (at 13 2) (counts_are 0 0 1 0 ∷ [])
    ∷ ok (plain 14) []
    ∷ ok (at 19 1) (counts_are 0 1 1 0 ∷ [])
    ∷ ok (at 23 1) []
    ∷ no (at 24 1) Refusal.WrongFlag
    ∷ ok (put 17 5) (counts_are 0 1 0 0 ∷ flag_is Flag.Available ∷ stored_is 5 ∷ [])
    ∷ ok (at 24 1) (list_is (obtained_at 1 5 ∷ []) ∷ [])
    ∷ []

abbrev pub case_c : List Row
case_c =
    ok (plain 1) []
    ∷ ok (ask 4 1 0 5) (flag_is Flag.WritebackAndClaimed ∷ list_is [] ∷ [])
    ∷ ok (plain 5) []
    ∷ no (clean 1) Refusal.WrongFlag
    ∷ ok (plain 2) []
    ∷ ok (clean 0) (flag_is Flag.ExcLockDirty ∷ [])
    ∷ []

abbrev pub case_d : List Row
case_d =
    ok (plain 7) []
    ∷ no (plain 8) Refusal.WrongVisited
    ∷ ok (plain 7) []
    ∷ ok (at 19 3) (counts_are 0 1 0 1 ∷ [])
    ∷ no (at 23 3) Refusal.WrongFlag
    ∷ ok (plain 7) []
    ∷ no (plain 7) Refusal.OtherCount
    ∷ ok (at 20 3) []
    ∷ ok (plain 7) []
    ∷ no (plain 7) Refusal.WrongVisited
    ∷ out (plain 8) 5 (is_out ∷ [])
    ∷ []

abbrev pub case_e : List Row
case_e = ok (put 9 6) (flag_is Flag.Available ∷ list_is (obtained_at 1 6 ∷ []) ∷ counts_are 0 1 0 0 ∷ stored_is 6 ∷ []) ∷ []

abbrev pub case_f : List Row
case_f =
    no (at 13 9) Refusal.BadBucket
    ∷ no (at 13 0) Refusal.NoHolder
    ∷ no (at 31 4) Refusal.UnknownStep
    ∷ no (at 1 1) Refusal.BadField
    ∷ []

abbrev pub case_g : List Row
case_g = no (at 19 4) Refusal.BadBucket ∷ ok (at 19 3) (flag_is Flag.Unmapped ∷ counts_are 0 0 0 1 ∷ []) ∷ []

abbrev pub case_h : List Row
case_h = no (at 24 0) Refusal.NoHolder ∷ no (plain 2) Refusal.NoHolder ∷ []

-- from a claim with 5 on: an editor closes the page, clean or not, looks at every bucket, and has the page out
abbrev pub to_out : ℕ → List Row
to_out said =
    ok (plain 5) []
    ∷ ok (clean said) []
    ∷ ok (plain 7) []
    ∷ ok (plain 7) []
    ∷ ok (plain 7) []
    ∷ ok (plain 7) []
    ∷ out (plain 8) 5 (is_out ∷ [])
    ∷ []

-- an editor without a bucket has the page out
abbrev pub to_editor : List Row
to_editor =
    out (plain 11) 0 []
    ∷ ok (at 13 2) (counts_are 0 0 1 0 ∷ [])
    ∷ ok (plain 14) []
    ∷ ok (put 17 5) (counts_are 0 0 0 0 ∷ [])
    ∷ ok (plain 3) []
    ∷ to_out 0

-- it gives the page back as unmapped, and the page is loaded anew
abbrev pub case_k : List Row
case_k =
    to_editor
    ++ ok (put 30 9) (flag_is Flag.Unmapped ∷ stored_is 9 ∷ counts_are 0 0 0 0 ∷ [])
    ∷ out (plain 12) 9 (flag_is Flag.Loading ∷ is_out ∷ [])
    ∷ ok (put 17 1) (flag_is Flag.Available ∷ stored_is 1 ∷ counts_are 0 0 0 0 ∷ [])
    ∷ []

-- the same beside a reader: it stays
abbrev pub case_kBeside : List Row
case_kBeside =
    to_editor
    ++ ok (at 19 3) []
    ∷ ok (put 30 9) (flag_is Flag.Unmapped ∷ stored_is 9 ∷ counts_are 0 0 0 1 ∷ list_is (pending_at 3 ∷ []) ∷ [])
    ∷ []

-- a claim with a bucket is given back, and one without
abbrev pub case_l : List Row
case_l =
    ok (ask 4 1 0 5) (flag_is Flag.Claimed ∷ list_is [] ∷ counts_are 0 1 0 0 ∷ [])
    ∷ ok (plain 25) (flag_is Flag.Available ∷ counts_are 0 0 0 0 ∷ stored_is 5 ∷ [])
    ∷ ok (plain 3) (flag_is Flag.Claimed ∷ [])
    ∷ ok (plain 25) (flag_is Flag.Available ∷ counts_are 0 0 0 0 ∷ [])
    ∷ []

-- .. beside the archive
abbrev pub case_lBeside : List Row
case_lBeside =
    ok (plain 1) []
    ∷ ok (ask 4 1 0 5) (flag_is Flag.WritebackAndClaimed ∷ counts_are 0 1 0 0 ∷ [])
    ∷ ok (plain 25) (flag_is Flag.Writeback ∷ counts_are 0 0 0 0 ∷ [])
    ∷ []

-- back to the claim, beside the archive and without it; then the claimant reads on, and stands last
abbrev pub back_beside : List Row
back_beside =
    ok (plain 1) []
    ∷ ok (ask 4 1 0 5) []
    ∷ ok (plain 5) (flag_is Flag.WritebackAndPendingExcLock ∷ [])
    ∷ ok (plain 27) (flag_is Flag.WritebackAndClaimed ∷ [])
    ∷ []

abbrev pub case_m : List Row
case_m =
    back_beside
    ++ ok (plain 5) []
    ∷ ok (plain 2) (flag_is Flag.PendingExcLock ∷ [])
    ∷ ok (plain 27) (flag_is Flag.Claimed ∷ [])
    ∷ ok (plain 5) []
    ∷ ok (clean 1) (flag_is Flag.ExcLockClean ∷ [])
    ∷ ok (plain 7) []
    ∷ ok (plain 28) (flag_is Flag.Claimed ∷ list_is [] ∷ counts_are 0 1 0 0 ∷ [])
    ∷ ok (at 19 3) []
    ∷ ok (plain 26) (flag_is Flag.Available ∷ list_is (pending_at 3 ∷ obtained_at 1 5 ∷ []) ∷ counts_are 0 1 0 1 ∷ [])
    ∷ []

-- .. while the archive still writes
abbrev pub case_mBeside : List Row
case_mBeside =
    back_beside
    ++ ok (plain 26) (flag_is Flag.Writeback ∷ list_is (obtained_at 1 5 ∷ []) ∷ counts_are 0 1 0 0 ∷ [])
    ∷ ok (plain 2) (flag_is Flag.Available ∷ [])
    ∷ []

-- an editor takes the page at 1
abbrev pub to_taken : ℕ → List Row
to_taken said = ok (ask 4 1 0 5) [] ∷ to_out said

-- a clean one puts in what it took
abbrev pub case_n : List Row
case_n =
    to_taken 1
    ++ no (put 10 6) Refusal.OtherValue
    ∷ no (put 29 6) Refusal.OtherValue
    ∷ no (put 30 6) Refusal.OtherValue
    ∷ no (put 9 6) Refusal.OtherValue
    ∷ ok (put 9 5) (flag_is Flag.Available ∷ stored_is 5 ∷ list_is (obtained_at 1 5 ∷ []) ∷ counts_are 0 1 0 0 ∷ [])
    ∷ []

-- a dirty one the same, or another
abbrev pub case_nSame : List Row
case_nSame = to_taken 0 ++ ok (put 9 5) (flag_is Flag.Available ∷ stored_is 5 ∷ []) ∷ []

abbrev pub case_nOther : List Row
case_nOther = to_taken 0 ++ ok (put 10 6) (flag_is Flag.Claimed ∷ stored_is 6 ∷ []) ∷ []

-- what is kept stays when a bucket comes, and whether it is clean is said anew
abbrev pub case_o : List Row
case_o =
    (ok (ask 22 1 0 5) (counts_are 0 0 0 0 ∷ []) ∷ ok (plain 3) [] ∷ to_out 1)
    ++ (no (put 9 6) Refusal.WrongBucket
    ∷ no (put 29 6) Refusal.OtherValue
    ∷ ok (at 18 2) (counts_are 0 0 1 0 ∷ [])
    ∷ no (put 9 6) Refusal.OtherValue
    ∷ no (put 30 6) Refusal.OtherValue
    ∷ ok (put 10 5) (flag_is Flag.Claimed ∷ stored_is 5 ∷ [])
    ∷ ok (plain 5) []
    ∷ ok (clean 1) []
    ∷ ok (plain 28) []
    ∷ to_out 0)
    ++ ok (put 30 6) (flag_is Flag.Unmapped ∷ stored_is 6 ∷ counts_are 0 0 0 0 ∷ [])
    ∷ []

-- C goes on from B, D from C, E from D; L to O from B
abbrev pub worked_cases : List (List Row)
worked_cases =
    cases_a
    ++ (case_b ++ case_c ++ case_d ++ case_e)
    ∷ case_f
    ∷ case_g
    ∷ case_h
    ∷ case_k
    ∷ case_kBeside
    ∷ (case_b ++ case_l)
    ∷ (case_b ++ case_lBeside)
    ∷ (case_b ++ case_m)
    ∷ (case_b ++ case_mBeside)
    ∷ (case_b ++ case_n)
    ∷ (case_b ++ case_nSame)
    ∷ (case_b ++ case_nOther)
    ∷ (case_b ++ case_o)
    ∷ []

-- ---- how often a case departs from each bucket
abbrev pub departs : List Row → List ℕ
departs rows =
    let told = history (fresh_page 0) (map (λ (r : Row). r.request) rows) [] in
    map (λ b. departures (start_of (fresh_page 0)) b told) every_bucket

-- ---- case A as bytes
-- 12; 17 with the value 5
abbrev pub requests_a : List ℕ
requests_a = 12 ∷ replicate 15 0 ++ 17 ∷ replicate 7 0 ++ 5 ∷ replicate 7 0

-- accepted, the value 0 is handed out; accepted
abbrev pub answers_a : List ℕ
answers_a = 0 ∷ 1 ∷ replicate 30 0
