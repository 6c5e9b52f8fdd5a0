-- The table of flags is right (`rule`): one test shows that its rows are what RULES 7.5 has in words (`rows_say`; 93 of them are flags,
-- `ninety_three`), and what the words say holds of every sound page (Lands.antt) and is met by one (Exhibits.antt). No other number
-- would do (`one_entry`). Every well-formed request has a column (`columned`). What can be asked for besides: any step with any clean
-- has an entry that is right, a number that is no step has none, and any clean but 1 is dirty (`step_entry`, `no_step`,
-- `other_clean`). Where an entry says never, the answer is 5 or 6 (`never_number`). So the engine by the table is the step by value
-- (`looked_up_lem`). Assumes nothing.
use Rattle.std.specs.Prelude.{Result, Ok, Err}
use Prim.Native.Nat.{ℕ, ◌-◌, ◌<◌}
use mathlib.Core.Path.{◌≡◌, refl, sym, ap, ◌∙◌}
use mathlib.Core.Bool.{Bool, true, false, not, cond, ◌&&◌, ◌||◌}
use native.Mathlib.Omega.{arith}
use borrow.Author.Tests.{ne_eqb}
use lib.Dec.{T, eqb, ltb, leb, eqb→eq, ltb→lt}
use Rattle.std.specs.List.{flat_map}
use Rattle.laws.specs.Lists.{tally, every}
use Rattle.laws.proofs.Tests.{is_true, to_true, both, and_iff}
use Rattle.laws.proofs.Pick.{each_below, each_below_lem}
use Rattle.kinds.specs.declared.Flag.{Flag}
use Rattle.kinds.specs.Limits.{capacity}
use Rattle.kinds.specs.Numbers.{flag_number, flags, flag_from}
use Rattle.page_record.specs.declared.Page.{Page}
use Rattle.page_record.specs.Pages.{head_of, page_of}
use Rattle.soundness.specs.Soundness.{sound_of}
use Rattle.soundness.proofs.Tested.{facts}
use Rattle.requests.specs.declared.Request.{Request}
use Rattle.requests.specs.declared.Refusal.{Refusal}
use Rattle.requests.specs.Answers.{answer_number}
use Rattle.requests.specs.Requests.{past_last, is_step, takes_clean, formal, judged}
use Rattle.requests.proofs.Verdicts.{passed}
use Rattle.requests.proofs.Reasons.{refusal_above}
use Rattle.requests.proofs.Formed.{step_most, step_below, formed}
use Rattle.heads.specs.Setters.{with_flag}
use Rattle.image.proofs.Back.{flag_back}
use Rattle.lock.specs.declared.Outcome.{Outcome}
use Rattle.lock.specs.Step.{edited_in, refused_by, applied, stepped, step_of}
use Rattle.lock.specs.Applies.{flag_lets}
use Rattle.lock.proofs.Keeps.{unfit_stays}
use Rattle.table.specs.Table.{columns, step_in, clean_in, column_of, never, entry_at, entry_of}
use Rattle.table.specs.Next.{Next, next_number, next_flag}
use Rattle.table.specs.Entry.{Asks, Entry, none, some}
use Rattle.table.specs.Engine.{why_never, marked, taken, looked_up}
use Rattle.table.proofs.Flags.{at_place, flag_below}
use Rattle.table.proofs.Rows.{array, past_row}
use Rattle.table.proofs.Lands.{decides}
use Rattle.table.proofs.Exhibits.{page, request, exhibited}

-- ---- the rows and the words
rows_say : T (every (λ f. each_below (λ c. eqb (entry_at f c) (next_number (next_flag f c))) columns) flags)
unfolding entry_at next_flag
rows_say = tt

entry_says : (f : Flag) (c : ℕ) → c < columns → entry_at f c ≡ next_number (next_flag f c)
entry_says f c k = eqb→eq _ _ (at_place (λ f c. eqb (entry_at f c) (next_number (next_flag f c))) rows_say f c k)

-- so many are flags
pub ninety_three : tally (λ n. not (eqb n never)) (flat_map (λ r. r) array) ≡ 93
ninety_three = refl

-- ---- the words and the step
-- what is accepted is well formed
accepted_fits : (p : Page) (q : Request) → T (sound_of p) → answer_number (step_of p q).answer ≡ 0 → judged q ≡ Ok tt
accepted_fits p q t a = go (judged q) refl
  where
    go : (v : Result (Unit {0}) Refusal) → judged q ≡ v → judged q ≡ Ok tt
    go (Ok _) e = e
    go (Err why) e =
        let z = ap (λ (o : Outcome). answer_number o.answer) (unfit_stays p q why t e) in
        absurd (omega (arith, refusal_above why))

module _ (p : Page) (q : Request) (t : T (sound_of p)) (fit : judged q ≡ Ok tt) where
  step_is : step_of p q ≡ stepped p q (Ok tt)
  unfolding step_of
  step_is = rw (to_true (sound_of p) t, fit)

  module _ (c : ℕ) (k : c < columns) (a : Asks c q) where
    leaves : (g : Flag) → next_flag p.flag c ≡ Next.to g → answer_number (step_of p q).answer ≡ 0 → (step_of p q).page.flag ≡ g
    leaves g e = rw step_is (rw e at (decides (facts p t).parts c k (leb capacity p.readers.len) q a))

    refuses : next_flag p.flag c ≡ Next.nowhere → step_of p q ≡ refused_by p (why_never (flag_lets q.step p.flag))
    unfolding edited_in
    refuses e = step_is ∙ ap (applied p) (rw e at (decides (facts p t).parts c k (leb capacity p.readers.len) q a))

-- ---- the rule
pub rule : (f : Flag) (c : ℕ) → c < columns → Entry f c (entry_at f c)
rule f c k = go (next_flag f c) refl
  where
    here : (n : Next) → next_flag f c ≡ n → (p : Page) → p.flag ≡ f → next_flag p.flag c ≡ n
    here n e p w = ap (λ (f : Flag). next_flag f c) w ∙ e

    go : (n : Next) → next_flag f c ≡ n → Entry f c (entry_at f c)
    go (Next.to g) e =
        some g (page f c) (request c) (entry_says f c k ∙ ap next_number e) (exhibited f c k g e)
        (λ p q s.
        leaves p q s.sound (accepted_fits p q s.sound s.accepted) c k s.asks g (here (Next.to g) e p s.flag)
        s.accepted)
    go Next.nowhere e =
        none (entry_says f c k ∙ ap next_number e)
        (λ p q s.
        let fit = accepted_fits p q s.sound s.accepted in
        let z = refuses p q s.sound fit c k s.asks (here Next.nowhere e p s.flag) in
        let y = ap (λ (o : Outcome). answer_number o.answer) z in
        absurd (omega (arith, y, s.accepted, refusal_above (why_never (flag_lets q.step p.flag)))))

-- no second number meets it
pub one_entry : (f : Flag) (c m n : ℕ) → Entry f c m → Entry f c n → m ≡ n
one_entry f c m n (none e u) (none e' u') = e ∙ sym e'
one_entry f c m n (none e u) (some g p q e' x w) = absurd (u p q x)
one_entry f c m n (some g p q e x w) (none e' u') = absurd (u' p q x)
one_entry f c m n (some g p q e x w) (some g' p' q' e' x' w') = e ∙ ap flag_number (sym (w p q x) ∙ w' p q x) ∙ sym e'

-- ---- every well-formed request has a column
abbrev fits : ℕ → ℕ → Bool
fits n clean =
    let c = column_of n clean in
    cond (is_step n && leb clean (cond (takes_clean n) 1 0)) (ltb c columns && eqb n (step_in c) && eqb clean (clean_in c)) true

all_fit : T (each_below (λ n. each_below (fits n) 2) past_last)
all_fit = tt

pub columned : (q : Request) → judged q ≡ Ok tt
    → (column_of q.step q.clean < columns) × Asks (column_of q.step q.clean) q
unfolding judged
columned q e =
    let n = q.step in
    let p = passed (formal q) e in
    let clean = (simp and_iff at p.1.0).0.1 in
    let below = each_below_lem (λ n. each_below (fits n) 2) past_last n all_fit (step_below n p.0) in
    let t = each_below_lem (fits n) 2 q.clean below (omega (arith, (formed q e).clean)) in
    let most = leb q.clean (cond (takes_clean n) 1 0) in
    let u = rw (to_true (is_step n && most) (both (is_step n) most p.0 clean)) at t in
    let w = simp and_iff at u in
    (ltb→lt _ columns w.0.0, record { step = eqb→eq _ _ w.0.1; clean = eqb→eq _ _ w.1 })

-- ---- whatever is asked for
-- a step's entry is right, whatever its clean
pub step_entry : (f : Flag) (n clean : ℕ) → T (is_step n) → Entry f (column_of n clean) (entry_of f n clean)
step_entry f n clean t =
    rule f (column_of n clean) (rw (to_true (is_step n) t) (near (ltb n 6 || eqb n 6 && eqb clean 1)))
  where
    near : (b : Bool) → cond b (n - 1) n < columns
    near true = omega (arith, step_most n t)
    near false = omega (arith, step_most n t)

-- a number that is no step has none
pub no_step : (f : Flag) (n clean : ℕ) → is_step n ≡ false → entry_of f n clean ≡ never
no_step f n clean e = simp e (past_row f columns (omega arith))

-- any clean but 1 is dirty
pub other_clean : (f : Flag) (n clean : ℕ) → eqb clean 1 ≡ false → entry_of f n clean ≡ entry_of f n 0
other_clean f n clean e = simp e

-- ---- the engine
module _ (p : Page) (q : Request) (t : T (sound_of p)) (fit : judged q ≡ Ok tt) where
  abbrev column : ℕ
  column = column_of q.step q.clean

  abbrev lets : Bool
  lets = flag_lets q.step p.flag

  found_says : entry_of p.flag q.step q.clean ≡ next_number (next_flag p.flag column)
  found_says = entry_says p.flag column (columned q fit).0

  no_flag : (g : Flag) → flag_number g ≡ never → ⊥
  no_flag g e = omega (arith, flag_below g)

  -- what is refused at once is refused with 5 or 6
  pub never_number : entry_of p.flag q.step q.clean ≡ never
      → answer_number (step_of p q).answer ≡ cond (flag_lets q.step p.flag) 6 5
  never_number e = go (next_flag p.flag column) refl
    where
      number : (lets : Bool) → answer_number (refused_by p (why_never lets)).answer ≡ cond lets 6 5
      number true = refl
      number false = refl

      go : (n : Next) → next_flag p.flag column ≡ n → answer_number (step_of p q).answer ≡ cond lets 6 5
      go (Next.to g) w = absurd (no_flag g (ap next_number (sym w) ∙ sym found_says ∙ e))
      go Next.nowhere w = rw (refuses p q t fit column (columned q fit).0 (columned q fit).1 w) (number lets)

  -- a page that has the entry's flag already
  same_flag : (g : Flag) (o : Outcome) → (answer_number o.answer ≡ 0 → o.page.flag ≡ g) → marked (flag_number g) o ≡ o
  same_flag g o k = go (eqb (answer_number o.answer) 0) refl
    where
      go : (t : Bool) → eqb (answer_number o.answer) 0 ≡ t
          → cond t (record { answer = o.answer; page = page_of (with_flag (flag_from (flag_number g)) (head_of o.page)) o.page.readers }) o ≡ o
      go true e =
          let f : flag_from (flag_number g) ≡ o.page.flag = flag_back g ∙ sym (k (eqb→eq _ 0 (is_true e))) in
          rw f refl
      go false e = refl

  pub looked_up_lem : looked_up p q ≡ step_of p q
  unfolding looked_up
  looked_up_lem = go (next_flag p.flag column) refl
    where
      go : (n : Next) → next_flag p.flag column ≡ n → taken (entry_of p.flag q.step q.clean) p q ≡ step_of p q
      go (Next.to g) w =
          rw (found_says, w, ne_eqb (flag_number g) never (no_flag g))
          (ap (marked (flag_number g)) (sym (step_is p q t fit))
          ∙ same_flag g (step_of p q) (leaves p q t fit column (columned q fit).0 (columned q fit).1 g w))
      go Next.nowhere w = rw (found_says, w) (sym (refuses p q t fit column (columned q fit).0 (columned q fit).1 w))
