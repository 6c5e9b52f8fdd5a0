-- What both halves of the theorem use: what it is to be accepted (`Accepts`); what step 7 expects, in the relation's words
-- (`Expects`); the list taken apart at the first equal reader (`find_first`, `split`); the counts after one is set (`is_set`).
-- The flags are in Flags.antt. Assumes nothing.
use Rattle.std.specs.Prelude.{Option, Some, None}
use Prim.Native.Nat.{ℕ, ◌+◌, ◌<◌}
use mathlib.Core.Path.{◌≡◌, refl, sym, ap, ◌∙◌}
use mathlib.Core.Logic.{◌⊎◌, inl, inr, ◌≢◌}
use mathlib.Core.Bool.{Bool, true, false, not, cond}
use mathlib.Core.List.{List, [], ◌∷◌, ◌++◌}
use native.Mathlib.Omega.{arith}
use borrow.Author.Tests.{eqb-true, eqb-false, eq-eqb, ne_eqb}
use lib.Dec.{T, eqb, leb}
use lib.ListN.{length, take, drop, get_or, set, length-set}
use lib.Seq.{ext_get_or}
use Rattle.laws.specs.Lists.{last_first, without}
use Rattle.laws.proofs.Tests.{both, halves, to_true, is_true}
use Rattle.kinds.specs.declared.{Count.Count, Reader.Reader}
use Rattle.kinds.specs.declared.Bucket.{Bucket}
use Rattle.kinds.specs.Limits.{capacity}
use Rattle.readers.specs.Same.{same_reader}
use Rattle.readers.specs.Listed.{find_in, blank_reader}
use Rattle.readers.proofs.Equal.{same_refl, same_is}
use Rattle.readers.proofs.First.{absent, found, split_of_found, find_split, removed_first, put_first}
use Rattle.page_record.specs.declared.Head.{Head}
use Rattle.page_record.specs.Holders.{bucket_of}
use Rattle.page_record.specs.Pages.{number_at}
use Rattle.page_record.specs.References.{ref_at}
use Rattle.requests.specs.declared.{Refusal.Refusal, Answer.Answer, Request.Request}
use Rattle.heads.specs.declared.Decision.{Decision}
use Rattle.heads.specs.Decisions.{Step, decided, is_found, place_of}
use Rattle.steps.specs.Decide.{unknown, steps, sought, decide_of, sought_of}
use Rattle.lock.specs.Step.{edited, look_for, decided_on}
use Rattle.lock.specs.Moves.{some, Absent, answer_of}
use Rattle.lock.proofs.Keeps.Counts.{set_there, set_others}

-- ---- acceptance
-- the decision on a list of readers accepts, hands this out, and leaves this head and this list
pub record Accepts (d : Decision) (l : List Reader) (h' : Head) (l' : List Reader) (out : Option ℕ) : Type 0 where
  pub answer : d.answer ≡ answer_of out
  pub head : d.head ≡ h'
  pub list : edited d.edit l ≡ l'

-- what an answer hands out
abbrev pub handed : Answer → Option ℕ
handed Answer.Accepted = None
handed (Answer.Withdrew value) = Some value
handed (Answer.Refused why) = None

pub is_handed : (out : Option ℕ) → out ≡ handed (answer_of out)
is_handed None = refl
is_handed (Some v) = refl

pub same_out : (a b : Option ℕ) → answer_of a ≡ answer_of b → a ≡ b
same_out a b e = is_handed a ∙ (ap handed e ∙ sym (is_handed b))

-- a refusal doesn't accept
pub unrefused : (why : Refusal) (out : Option ℕ) → Answer.Refused why ≡ answer_of out → ⊥
unrefused why None e = let z : ◌≡◌ {A = ℕ} 0 1 = cc in omega arith
unrefused why (Some v) e = let z : ◌≡◌ {A = ℕ} 0 1 = cc in omega arith

-- the step with this number, by which a request is decided
abbrev pub step_no : Head → List Reader → Request → ℕ → Step
step_no h l q n = get_or (steps h q (look_for l (get_or (sought q) n None)) (leb capacity (length l))) n (unknown h)

pub by_number : (h : Head) (l : List Reader) (q : Request) → decided_on h l q ≡ decided h (step_no h l q q.step)
unfolding decide_of sought_of
by_number h l q = refl

-- ---- step 7, in the relation's words
-- what step 7 expects at bucket n of an editor that has bucket m
abbrev pub Expects : Option Bucket → ℕ → ℕ → Type 0
Expects m n c = ((some (record { 0 = n }) ≡ m) × (c ≡ 1)) ⊎ ((some (record { 0 = n }) ≢ m) × (c ≡ 0))

pub is_expected : (m : Option Bucket) (n c : ℕ) → Expects m n c → ref_at m n ≡ c
is_expected m n c (inl p) = rw (← p.0, eq-eqb n n refl) (sym p.1)
is_expected None n c (inr p) = sym p.1
is_expected (Some b) n c (inr p) =
    rw (ne_eqb b.0 n (λ e. p.0 (ap (λ (x : ℕ). some (record { 0 = x })) (sym e)))) (sym p.1)

pub expected : (m : Option Bucket) (n : ℕ) → Expects m n (ref_at m n)
expected None n = inr ((λ e. let z : ◌≡◌ {A = ℕ} 0 1 = cc in omega arith), refl)
expected (Some b) n = go (eqb b.0 n) refl
  where
    go : (t : Bool) → eqb b.0 n ≡ t → Expects (some b) n (cond t 1 0)
    go true e = inl (ap (λ (x : ℕ). some (record { 0 = x })) (sym (eqb-true b.0 n e)), refl)
    go false e = inr ((λ p. eqb-false b.0 n e (ap (λ (x : Option Bucket). (bucket_of x).0) (sym p))), refl)

-- ---- the list taken apart at the first equal reader
module _ (x : Reader) where
  absent_is : (l : List Reader) → Absent x l → T (absent x l)
  absent_is [] a = tt
  absent_is (r ∷ l) a = both (not (same_reader r x)) (absent x l) (go (same_reader r x) refl) (absent_is l a.1)
    where
      go : (t : Bool) → same_reader r x ≡ t → T (not t)
      go true e = a.0 (same_is r x (is_true e))
      go false e = tt

  is_absent : (l : List Reader) → T (absent x l) → Absent x l
  is_absent [] t = tt
  is_absent (r ∷ l) t =
      let h = halves (not (same_reader r x)) (absent x l) t in
      ((λ e. rw (e, to_true (same_reader x x) (same_refl x)) at h.0), is_absent l h.1)

  -- it is found where the list splits
  pub find_first : (before after : List Reader) → Absent x before → find_in (before ++ x ∷ after) x ≡ Some (length before)
  find_first before after a = find_split x before after (absent_is before a)

-- the list at the place at which it is found: what removing it, or putting another in its place, leaves
pub record Split (x : Reader) (l : List Reader) (i : ℕ) : Type 0 where
  pub before : List Reader
  pub after : List Reader
  pub whole : l ≡ before ++ x ∷ after
  pub first : Absent x before
  pub removed : without i l ≡ before ++ last_first after
  pub put : (y : Reader) → set l i y ≡ before ++ y ∷ after
  pub inside : i < length l
  pub equal : get_or l i blank_reader ≡ x

pub split : (l : List Reader) (x : Reader) → T (is_found (find_in l x)) → Split x l (place_of (find_in l x))
split l x = go (find_in l x) refl
  where
    go : (o : Option ℕ) → find_in l x ≡ o → T (is_found o) → Split x l (place_of o)
    go None e t = absurd t
    go (Some i) e t =
        let f = found x l i e in
        let whole = split_of_found x l i e in
        let there = ap (λ (m : List Reader). find_in m x) (sym whole) ∙ e in
        record {
          before = take i l;
          after = drop (i + 1) l;
          whole = whole;
          first = is_absent x (take i l) f.before;
          removed = ap (without i) whole ∙ removed_first x (take i l) (drop (i + 1) l) f.before i there;
          put = λ y. ap (λ (m : List Reader). set m i y) whole ∙ put_first x (take i l) (drop (i + 1) l) f.before i there y;
          inside = f.inside;
          equal = f.equal;
        }

-- ---- the counts: the one that is set, and the others
module _ (cs : List Count) (a n : ℕ) where
  -- counts that agree with these everywhere but at a, where they are n, are these with a set to n
  pub is_set : (ds : List Count) → a < length cs → length ds ≡ length cs → number_at ds a ≡ n
      → ((b : ℕ) → b ≢ a → number_at ds b ≡ number_at cs b) → set cs a (record { 0 = n }) ≡ ds
  is_set ds h long there others =
      ext_get_or (record { 0 = 0 }) (set cs a (record { 0 = n })) ds (simp length-set (sym long))
      λ i k. ap (λ (m : ℕ). record { 0 = m }) (go i (eqb a i) refl)
    where
      go : (i : ℕ) (t : Bool) → eqb a i ≡ t → number_at (set cs a (record { 0 = n })) i ≡ number_at ds i
      go i true e = rw (← eqb-true a i e) (set_there cs a n h ∙ sym there)
      go i false e = let d : i ≢ a = λ p. eqb-false a i e (sym p) in set_others cs a n i d ∙ sym (others i d)
