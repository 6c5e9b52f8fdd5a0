-- The order of the readers is not to be seen: two sound pages that differ in it alone answer every request alike, and what is left is
-- again such two (`order_free`). Over a head and two lists (`decided_alike`): the same reader is found in both or in neither, and what is
-- decided differs in its place alone. Assumes nothing.
pub mod Places
use Rattle.std.specs.Prelude.{Option, Some, None, Result, Ok, Err}
use Prim.Native.Nat.{ℕ}
use mathlib.Core.Path.{◌≡◌, refl, sym, ◌∙◌}
use mathlib.Core.Bool.{Bool, false, not, false≢true}
use mathlib.Core.List.{List}
use native.Mathlib.Omega.{arith}
use lib.Dec.{leb}
use lib.ListN.{length}
use Rattle.laws.specs.Lists.{Rearranged}
use Rattle.laws.proofs.Rearranged.{rearranged_sym, length_same, every_same, push_same, put_same, without_same}
use Rattle.kinds.specs.declared.Reader.{Reader}
use Rattle.kinds.specs.Limits.{capacity}
use Rattle.readers.specs.Same.{same_reader}
use Rattle.readers.specs.Listed.{live, listed, is_at, find_in, blank_reader}
use Rattle.readers.proofs.Bridge.{live_listed}
use Rattle.readers.proofs.First.{First, found, nowhere, find_none}
use Rattle.page_record.specs.declared.{Head.Head, Page.Page}
use Rattle.page_record.specs.Pages.{head_of, page_of}
use Rattle.rules.specs.Rules.{shared_state_valid}
use Rattle.soundness.proofs.Facts.{Sound}
use Rattle.soundness.proofs.Tested.{facts, tested_parts}
use Rattle.requests.specs.declared.Request.{Request}
use Rattle.requests.specs.declared.Refusal.{Refusal}
use Rattle.requests.specs.Requests.{judged}
use Rattle.requests.proofs.Formed.{formed}
use Rattle.heads.specs.declared.{Edit.Edit, Decision.Decision}
use Rattle.steps.specs.Decide.{decide_of, sought_of}
use Rattle.lock.specs.Step.{edited, look_for, decided_on, step_of}
use Rattle.lock.specs.Order.{Alike, AnsweredAlike}
use Rattle.lock.proofs.Keeps.{outcome_of, step_listed, unfit_stays}
use Rattle.lock.proofs.Keeps.Rows.{keeps}
use Rattle.lock.proofs.Order.Places.{at_place, moved_to, place_alone, no_place}

-- ---- the same reader, found in both lists or in neither
data BothFind (l l' : List Reader) : Option ℕ → Option ℕ → Type 0 where
  neither : BothFind l l' None None
  each : (x : Reader) (i j : ℕ) → First l x i → First l' x j → BothFind l l' (Some i) (Some j)

-- who is absent from the one is absent from the other
absent_same : (l l' : List Reader) → Rearranged l l' → (x : Reader) → find_in l x ≡ None → find_in l' x ≡ None
absent_same l l' same x e = find_none x l' (every_same same (λ r. not (same_reader r x)) (nowhere x l e))

-- a place is not nowhere
unplace : (i : ℕ) → Some i ≡ None → ⊥
unplace i e = let z : ◌≡◌ {A = ℕ} 0 1 = cc in omega arith

-- what is decided of one head on two lists: the answers and the heads left are the same, and so are the readers left, but for their order
record DecidedAlike (l l' : List Reader) (d d' : Decision) : Type 0 where
  pub answer : d.answer ≡ d'.answer
  pub head : d.head ≡ d'.head
  pub readers : Rearranged (edited d.edit l) (edited d'.edit l')

module _ (l l' : List Reader) (same : Rearranged l l') where
  both_look : (x : Option Reader) → BothFind l l' (look_for l x) (look_for l' x)
  unfolding look_for
  both_look None = BothFind.neither
  both_look (Some x) = go (find_in l x) refl (find_in l' x) refl
    where
      go : (o : Option ℕ) → find_in l x ≡ o → (o' : Option ℕ) → find_in l' x ≡ o' → BothFind l l' o o'
      go None e None e' = BothFind.neither
      go (Some i) e (Some j) e' = BothFind.each x i j (found x l i e) (found x l' j e')
      go None e (Some j) e' = absurd (unplace j (sym e' ∙ absent_same l l' same x e))
      go (Some i) e None e' = absurd (unplace i (sym e ∙ absent_same l' l (rearranged_sym same) x e'))

  -- ---- an edit of both: at no place, and at the place of one reader
  unplaced : (e : Edit) → at_place e ≡ false → Rearranged (edited e l) (edited e l')
  unplaced Edit.Keep t = same
  unplaced (Edit.Push r) t = push_same same r
  unplaced (Edit.Put i r) t = absurd (false≢true (sym t))
  unplaced (Edit.Remove i) t = absurd (false≢true (sym t))

  at_places : (x : Reader) (i j : ℕ) → First l x i → First l' x j → (e : Edit) → Rearranged (edited (moved_to i e) l) (edited (moved_to j e) l')
  at_places x i j f g Edit.Keep = same
  at_places x i j f g (Edit.Push r) = push_same same r
  at_places x i j f g (Edit.Put _ r) = put_same same i j blank_reader f.inside g.inside (f.equal ∙ sym g.equal) r
  at_places x i j f g (Edit.Remove _) = without_same same i j blank_reader f.inside g.inside (f.equal ∙ sym g.equal)

  -- ---- what is decided
  module _ (h : Head) (q : Request) where
    on_found : (full : Bool) (o o' : Option ℕ) → BothFind l l' o o' → DecidedAlike l l' (decide_of h q o full) (decide_of h q o' full)
    on_found full _ _ BothFind.neither =
        let d = decide_of h q None full in
        record { answer = refl; head = refl; readers = unplaced d.edit (no_place h q full) }
    on_found full _ _ (BothFind.each x i j f g) =
        let d = decide_of h q (Some 0) full in
        rw (place_alone h q full i, place_alone h q full j)
        record { answer = refl; head = refl; readers = at_places x i j f g d.edit }

    decided_alike : DecidedAlike l l' (decided_on h l q) (decided_on h l' q)
    decided_alike =
        rw (length_same same)
        (on_found (leb capacity (length l')) (look_for l (sought_of q)) (look_for l' (sought_of q)) (both_look (sought_of q)))

-- ---- soundness does not see the order either
sound_same : (h : Head) (l l' : List Reader) → Rearranged l l' → Sound h l → Sound h l'
sound_same h l l' same s = record {
  head = s.head;
  four = s.four;
  counts = λ b k. omega (arith, s.counts b k, same.tallies (is_at b));
  readers = every_same same (shared_state_valid h) s.readers;
  few = s.few;
  room = omega (arith, s.room, length_same same);
}

-- ---- over pages
-- one head with two lists: where it is sound with the one, these are such two pages
pub alike_of : (h : Head) (l l' : List Reader) → Rearranged l l' → Sound h l → Alike (page_of h (listed l)) (page_of h (listed l'))
alike_of h l l' same s = record {
  sound = tested_parts h l s;
  sound' = tested_parts h l' (sound_same h l l' same s);
  head = refl;
  readers = rw (live_listed l, live_listed l') same;
}

pub order_free : (p p' : Page) → Alike p p' → (q : Request) → AnsweredAlike (step_of p q) (step_of p' q)
order_free p p' two q = go (judged q) refl
  where
    go : (v : Result (Unit {0}) Refusal) → judged q ≡ v → AnsweredAlike (step_of p q) (step_of p' q)
    go (Ok _) e =
        let h = head_of p in
        let l = live p.readers in
        let l' = live p'.readers in
        let d = decided_on h l q in
        let d' = decided_on h l' q in
        let other : step_of p' q ≡ outcome_of l' d' = rw two.head (step_listed q e p' two.sound') in
        let a = decided_alike l l' two.readers h q in
        let s = (keeps h l q (formed q e).bucket (facts p two.sound).parts).sound in
        rw (step_listed q e p two.sound, other, ← a.head)
        record { answer = a.answer; page = alike_of d.head (edited d.edit l) (edited d'.edit l') a.readers s }
    go (Err why) e =
        rw (unfit_stays p q why two.sound e, unfit_stays p' q why two.sound' e) record { answer = refl; page = two }
