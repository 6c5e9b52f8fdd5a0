-- What is decided at each flag and column. At each shape one test over the columns is computed (`at_shape`): where RULES 7.5 has a
-- flag, the step leaves that one; where it has none, the step's first premise that fails is the flag's or the holder's.
-- `decides` reads it for every sound head and its list. Assumes nothing.
use Rattle.std.specs.Prelude.{Option, Result, Ok, Err}
use Prim.Native.Nat.{ℕ, ◌<◌}
use mathlib.Core.Path.{◌≡◌, refl, sym, subst, ap, ◌∙◌}
use mathlib.Core.Bool.{Bool, true, false}
use mathlib.Core.List.{List}
use native.Mathlib.Omega.{arith}
use lib.Dec.{T, eqb, eqb→eq}
use Rattle.laws.proofs.Pick.{each_below, each_below_lem}
use Rattle.kinds.specs.declared.{Bucket.Bucket, Count.Count, Reader.Reader}
use Rattle.kinds.specs.Numbers.{flag_number}
use Rattle.page_record.specs.declared.Head.{Head}
use Rattle.soundness.proofs.Facts.{Sound}
use Rattle.soundness.proofs.Shapes.{Shape, unmapped, waiting, counted, loading, available, claimed, writeback}
use Rattle.soundness.proofs.Shapes.{writeback_claimed, writeback_await, await, pending, editing, head_at, by_shape}
use Rattle.requests.specs.declared.{Refusal.Refusal, Request.Request}
use Rattle.requests.specs.Answers.{refusal_number, verdict_number, answer_number}
use Rattle.requests.specs.Premises.{verdict}
use Rattle.requests.proofs.Reasons.{reason_at, reason_told, refusal_above}
use Rattle.heads.specs.declared.Decision.{Decision}
use Rattle.heads.specs.Decisions.{Step, refused, settled}
use Rattle.steps.specs.Decide.{step_at, sought_of, decide_of}
use Rattle.lock.specs.Step.{look_for}
use Rattle.lock.specs.Applies.{flag_lets}
use Rattle.table.specs.Table.{columns, step_in, clean_in}
use Rattle.table.specs.Next.{Next, next_flag}
use Rattle.table.specs.Entry.{Asks}
use Rattle.table.specs.Engine.{why_never}
use Rattle.table.proofs.Flags.{flag_told}
use Rattle.table.proofs.Stands.{seen, seen_is}

-- ---- one test
-- a flag: the step leaves this one, whatever is asked of it besides. None: its first premise that fails is the flag's or the holder's
abbrev lands_as : Next → Step → Bool → Bool
lands_as (Next.to g) st lets = eqb (flag_number st.head.flag) (flag_number g)
lands_as Next.nowhere st lets = eqb (verdict_number (verdict st.premises)) (refusal_number (why_never lets))

-- a request of a column
abbrev pub asked : Bucket → ℕ → ℕ → Request
asked b v c = record { step = step_in c; bucket = b; clean = clean_in c; value = v }

module _ (b : Bucket) (v : ℕ) (o : Option ℕ) (full : Bool) where
  abbrev lands : Head → ℕ → Bool
  lands h c =
      let q = asked b v c in
      lands_as (next_flag h.flag c) (step_at h q (seen h (sought_of q) o) full) (flag_lets (step_in c) h.flag)

  at_shape : (z : Shape) (cs : List Count) → T (each_below (lands (head_at z cs)) columns)
  unfolding next_flag sought_of
  at_shape (unmapped v) cs = tt
  at_shape waiting cs = tt
  at_shape (counted b) cs = tt
  at_shape (loading m) cs = tt
  at_shape (available v) cs = tt
  at_shape (claimed m v) cs = tt
  at_shape (writeback v) cs = tt
  at_shape (writeback_claimed m v) cs = tt
  at_shape (writeback_await m v) cs = tt
  at_shape (await m v) cs = tt
  at_shape (pending m n true v) cs = tt
  at_shape (pending m n false v) cs = tt
  at_shape (editing m true v) cs = tt
  at_shape (editing m false v) cs = tt

-- ---- what it says of a decision
-- a flag: the head has it where the step is accepted. None: it is refused, with 5 or 6
abbrev pub Decides : Next → Bool → Head → Decision → Type 0
Decides (Next.to g) lets h d = answer_number d.answer ≡ 0 → d.head.flag ≡ g
Decides Next.nowhere lets h d = d ≡ refused h (why_never lets)

-- a reason is told by its number
why_told : (lets : Bool) (why : Refusal) → refusal_number why ≡ refusal_number (why_never lets) → why ≡ why_never lets
why_told lets why e = sym (reason_told why) ∙ ap reason_at e ∙ reason_told (why_never lets)

settles : (next : Next) (lets : Bool) (h : Head) (st : Step) (v : Result (Unit {0}) Refusal)
    → verdict st.premises ≡ v → T (lands_as next st lets) → Decides next lets h (settled h st v)
settles (Next.to g) lets h st (Ok _) e t = λ a. flag_told st.head.flag g (eqb→eq _ _ t)
settles (Next.to g) lets h st (Err why) e t = λ a. absurd (omega (arith, refusal_above why))
settles Next.nowhere lets h st (Ok _) e t =
    let z = ap verdict_number (sym e) ∙ eqb→eq _ _ t in
    absurd (omega (arith, refusal_above (why_never lets)))
settles Next.nowhere lets h st (Err why) e t =
    ap (refused h) (why_told lets why (ap verdict_number (sym e) ∙ eqb→eq _ _ t))

same_request : (q : Request) (n clean : ℕ) → q.step ≡ n → q.clean ≡ clean
    → q ≡ record { step = n; bucket = q.bucket; clean = clean; value = q.value }
same_request q n clean e f = λ i. record { step = e i; bucket = q.bucket; clean = f i; value = q.value }

module _ {h : Head} {l : List Reader} (s : Sound h l) (c : ℕ) (k : c < columns) (full : Bool) where
  abbrev Decided : Head → Request → Type 0
  Decided h q =
      Decides (next_flag h.flag c) (flag_lets q.step h.flag) h (decide_of h q (look_for l (sought_of q)) full)

  at_head : (b : Bucket) (v : ℕ) → Decided h (asked b v c)
  unfolding decide_of
  at_head b v =
      let q = asked b v c in
      let o = look_for l (sought_of q) in
      by_shape (λ (x : Head). Sound x l → Decided x q)
      (λ z cs ok s.
      let x = head_at z cs in
      let lets = flag_lets (step_in c) x.flag in
      let t = each_below_lem (lands b v o full x) columns c (at_shape b v o full z cs) k in
      let u = subst (λ (o : Option ℕ). T (lands_as (next_flag x.flag c) (step_at x q o full) lets)) (seen_is s (sought_of q)) t in
      settles (next_flag x.flag c) lets x (step_at x q o full) (verdict (step_at x q o full).premises) refl u)
      h s.head s

  pub decides : (q : Request) → Asks c q → Decided h q
  decides q a =
      subst (λ (r : Request). Decided h r) (sym (same_request q (step_in c) (clean_in c) a.step a.clean))
      (at_head q.bucket q.value)
