-- The test `sound_of` and the named facts `Sound` say the same: `facts` from the test, `tested` back, and `tested_parts` for a
-- head and a list. Rule 8's holder buckets, visited number and readers' buckets follow from rules 2, 4 and 7, so the facts
-- do not list them. Assumes nothing.
use Prim.Native.Nat.{ℕ, suc, ◌-◌, ◌≤◌, ◌<◌}
use mathlib.Core.Path.{◌≡◌, sym, subst}
use mathlib.Core.Bool.{Bool, true}
use mathlib.Core.List.{List, [], ◌∷◌}
use native.Mathlib.Omega.{arith}
use borrow.Author.Tests.{eq-eqb}
use lib.Dec.{T, eqb, leb, ltb, eqb→eq, leb→le, le→leb, lt→ltb}
use lib.ListN.{length, get_or}
use Rattle.laws.specs.Lists.{every}
use Rattle.laws.proofs.Tests.{is_true, both, halves, and_iff}
use Rattle.laws.proofs.Lists.{every_mono, every_default}
use Rattle.laws.proofs.Pick.{pick}
use Rattle.kinds.specs.declared.{Count.Count, Reader.Reader}
use Rattle.kinds.specs.Limits.{buckets, capacity, ceiling}
use Rattle.readers.specs.declared.Readers.{Readers}
use Rattle.readers.specs.Listed.{live, listed}
use Rattle.readers.proofs.Bridge.{live_listed, length_listed, blank_listed, length_live, listed_live}
use Rattle.page_record.specs.declared.{Head.Head, Page.Page}
use Rattle.page_record.specs.Pages.{head_of, page_of, number_at}
use Rattle.page_record.specs.References.{count_all_refs}
use Rattle.rules.specs.Rules.{every_bucket, ref_count_invariant, shared_state_valid, counts_under, limits_kept}
use Rattle.soundness.specs.Soundness.{rules, sound_of}
use Rattle.soundness.proofs.Facts.{Sound, SoundPage}
use Rattle.soundness.proofs.Shapes.{rules_of}
use Rattle.soundness.proofs.Known.{valid_bucket_lem, holders_within_lem}
use Rattle.soundness.proofs.Broken.{sound_all}

eq→eqb : (m n : ℕ) → m ≡ n → T (eqb m n)
eq→eqb m n e = is_true (eq-eqb m n e)

-- ---- every bucket, and every count
at_bucket : (f : ℕ → Bool) → T (every f every_bucket) → (b : ℕ) → b < buckets → T (f b)
at_bucket f t = pick buckets (λ b. T (f b)) (simp and_iff at t)

every_bucket_lem : (f : ℕ → Bool) → ((b : ℕ) → b < buckets → T (f b)) → T (every f every_bucket)
every_bucket_lem f k = simp and_iff (k 0 (omega arith), (k 1 (omega arith), (k 2 (omega arith), (k 3 (omega arith), tt))))

abbrev is_few : Count → Bool
is_few c = leb c.0 ceiling

few_of : (cs : List Count) → T (counts_under ceiling cs) → (b : ℕ) → number_at cs b ≤ ceiling
few_of cs t b = leb→le (number_at cs b) ceiling (every_default is_few cs b (record { 0 = 0 }) t tt)

of_few : (cs : List Count) → ((b : ℕ) → number_at cs b ≤ ceiling) → T (counts_under ceiling cs)
of_few [] few = tt
of_few (c ∷ cs) few = both (is_few c) (counts_under ceiling cs) (le→leb c.0 ceiling (few 0)) (of_few cs (λ b. few (suc b)))

-- ---- from the test to the facts
pub facts : (p : Page) → T (sound_of p) → SoundPage p
facts p t =
    let rs = p.readers in
    let cs = p.ref_counts in
    let refs : ℕ → ℕ = λ b. count_all_refs (live rs) p.exc_state p.loading_state b in
    let equal : ℕ → Bool = λ b. eqb (number_at cs b) (refs b) in
    let rule : (n : ℕ) → T (get_or (rules (head_of p) rs) (n - 1) true) =
    λ n. every_default (λ t. t) (rules (head_of p) rs) (n - 1) true (rw (sound_all p) at t) tt in
    let counts = halves (eqb (length cs) buckets) (every equal every_bucket) (rule 5) in
    let limits = simp and_iff at (rule 8) in
    let short : rs.len ≤ capacity = leb→le rs.len capacity limits.1.0.0.0 in
    let whole : length rs.items ≡ capacity = eqb→eq (length rs.items) capacity limits.1.0.0.1 in
    record {
      parts = record {
        head = simp and_iff ((((rule 6, rule 1), rule 2), rule 3), rule 4);
        four = eqb→eq (length cs) buckets counts.0;
        counts = λ b k. eqb→eq (number_at cs b) (refs b) (at_bucket equal counts.1 b k);
        readers = rule 7;
        few = few_of cs limits.0.0;
        room = omega (arith, length_live rs whole short);
      };
      neat = listed_live rs whole short limits.1.1;
    }

-- ---- and back
module _ (h : Head) (l : List Reader) (s : Sound h l) where
  -- rule 5
  counts_tested : T (ref_count_invariant h.ref_counts (live (listed l)) h.exc_state h.loading_state)
  counts_tested =
      let cs = h.ref_counts in
      let refs : ℕ → ℕ = λ b. count_all_refs l h.exc_state h.loading_state b in
      let equal : ℕ → Bool = λ b. eqb (number_at cs b) (refs b) in
      rw (live_listed l)
      (both (eqb (length cs) buckets) (every equal every_bucket) (eq→eqb (length cs) buckets s.four)
      (every_bucket_lem equal (λ b k. eq→eqb (number_at cs b) (refs b) (s.counts b k))))

  -- rule 8
  limits_tested : T (limits_kept h (listed l))
  limits_tested =
      let near : Reader → Bool = λ r. ltb r.bucket.0 buckets in
      let holders = simp and_iff at (holders_within_lem s) in
      let readers : T (every near l) =
      every_mono (shared_state_valid h) near l (λ r t. lt→ltb r.bucket.0 buckets (valid_bucket_lem h r t)) s.readers in
      let short = le→leb (length l) capacity s.room in
      let whole = eq→eqb (length (listed l).items) capacity (length_listed l s.room) in
      rw (live_listed l)
      (simp and_iff ((of_few h.ref_counts s.few, holders), (((short, whole), readers), blank_listed l)))

  pub tested_parts : T (sound_of (page_of h (listed l)))
  tested_parts =
      let r = rules_of h.storage h.exc_state h.loading_state h.writeback_state h.flag s.head in
      let readers : T (every (shared_state_valid h) (live (listed l))) = rw (live_listed l) s.readers in
      let counts = simp and_iff at counts_tested in
      let limits = simp and_iff at limits_tested in
      rw (sound_all (page_of h (listed l)))
      (simp and_iff (r.storage, (r.exc, (r.writeback, (r.loading, (counts, (r.flag, (readers, (limits, tt)))))))))

pub tested : (p : Page) → SoundPage p → T (sound_of p)
tested p s =
    subst (λ (rs : Readers). T (sound_of (page_of (head_of p) rs))) (sym s.neat)
    (tested_parts (head_of p) (live p.readers) s.parts)
