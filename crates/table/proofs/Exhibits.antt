-- A sound page that accepts a request, for each of the 93 entries that are flags: with at most one reader, at bucket 0, and with the
-- value 0 wherever one is. One computed test shows them all, and that none is missing (`exhibited`). Assumes nothing.
use Rattle.std.specs.Prelude.{Option, Some, None}
use Prim.Native.Nat.{ℕ, ◌<◌}
use mathlib.Core.Path.{◌≡◌, refl}
use mathlib.Core.Bool.{Bool, true, false, cond, ◌&&◌}
use mathlib.Core.List.{List, [], ◌∷◌, map}
use lib.Dec.{T, eqb, eqb→eq}
use Rattle.laws.specs.Lists.{every, among}
use Rattle.laws.proofs.Tests.{and_iff}
use Rattle.laws.proofs.Pick.{each_below}
use Rattle.kinds.specs.declared.{Bucket.Bucket, Count.Count, Flag.Flag, Reader.Reader}
use Rattle.kinds.specs.Limits.{buckets}
use Rattle.kinds.specs.Numbers.{flag_number, flags}
use Rattle.readers.specs.Listed.{listed}
use Rattle.page_record.specs.declared.Page.{Page}
use Rattle.page_record.specs.Pages.{page_of}
use Rattle.page_record.specs.References.{count_all_refs}
use Rattle.rules.specs.Rules.{every_bucket}
use Rattle.soundness.specs.Soundness.{sound_of}
use Rattle.soundness.proofs.Shapes.{Shape, unmapped, waiting, counted, loading, available, claimed, writeback}
use Rattle.soundness.proofs.Shapes.{writeback_claimed, writeback_await, await, pending, editing, head_at}
use Rattle.requests.specs.declared.Request.{Request}
use Rattle.requests.specs.Answers.{answer_number}
use Rattle.requests.specs.Requests.{judged}
use Rattle.steps.specs.Decide.{sought_of, decide_of}
use Rattle.lock.specs.Step.{look_for, step_of}
use Rattle.table.specs.Table.{columns}
use Rattle.table.specs.Next.{Next, next_flag}
use Rattle.table.specs.Entry.{Takes}
use Rattle.table.proofs.Flags.{flag_told, at_place}
use Rattle.table.proofs.Lands.{asked}

abbrev first : Bucket
first = record { 0 = 0 }

abbrev own : Option Bucket
own = Some first

-- an editor's lock: Obtained for 9, 10, 29 and 30, without a bucket for 18; with every bucket visited for 8
abbrev locked : Bool → ℕ → Shape
locked clean c =
    cond (among (9 ∷ 10 ∷ 29 ∷ 30 ∷ []) c) (editing own clean 0)
    (cond (eqb c 18) (editing None clean 0)
    (pending own (record { 0 = cond (eqb c 8) buckets 0 }) clean 0))

-- who holds the page
abbrev held : Flag → ℕ → Shape
held Flag.Unmapped c = unmapped 0
held Flag.Loading c = loading own
held Flag.LoadingExcLock c = cond (eqb c 14) (counted first) waiting
held Flag.Available c = available 0
held Flag.Claimed c = claimed own 0
held Flag.Writeback c = writeback 0
held Flag.WritebackAndClaimed c = writeback_claimed own 0
held Flag.WritebackAndPendingExcLock c = writeback_await own 0
held Flag.PendingExcLock c = await own 0
held Flag.ExcLockClean c = locked true c
held Flag.ExcLockDirty c = locked false c

abbrev pub request : ℕ → Request
request c = asked first 0 c

-- who is listed: the reader that the step looks for
abbrev listing : Option Reader → List Reader
listing None = []
listing (Some x) = x ∷ []

abbrev pub page : Flag → ℕ → Page
page f c =
    let l = listing (sought_of (request c)) in
    let h = head_at (held f c) [] in
    let refs : ℕ → Count = λ b. record { 0 = count_all_refs l h.exc_state h.loading_state b } in
    page_of (head_at (held f c) (map refs every_bucket)) (listed l)

-- ---- the test
abbrev taking : Flag → ℕ → Bool
taking f c =
    sound_of (page f c)
    && eqb (flag_number (page f c).flag) (flag_number f)
    && eqb (answer_number (step_of (page f c) (request c)).answer) 0

abbrev shown : Next → Flag → ℕ → Bool
shown (Next.to g) f c = taking f c
shown Next.nowhere f c = true

all_shown : T (every (λ f. each_below (λ c. shown (next_flag f c) f c) columns) flags)
unfolding next_flag sound_of step_of sought_of judged look_for decide_of
all_shown = tt

pub exhibited : (f : Flag) (c : ℕ) → c < columns → (g : Flag) → next_flag f c ≡ Next.to g → Takes f c (page f c) (request c)
exhibited f c k g e =
    let t = rw e at (at_place (λ f c. shown (next_flag f c) f c) all_shown f c k) in
    let u = simp and_iff at t in
    record {
      sound = u.0.0;
      flag = flag_told (page f c).flag f (eqb→eq _ _ u.0.1);
      asks = record { step = refl; clean = refl };
      accepted = eqb→eq _ 0 u.1;
    }
