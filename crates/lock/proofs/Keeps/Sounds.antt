-- What makes a head and a list sound after an edit, once for each edit: the head's rules hold, the readers that stay are
-- valid beside the new head (`stays`, `quiet`), and the counts agree with the references. Assumes nothing.
use Prim.Native.Nat.{ℕ, ◌+◌, ◌≤◌, ◌<◌}
use mathlib.Core.Path.{◌≡◌, ap}
use mathlib.Core.List.{List, [], ◌∷◌, ◌++◌}
use native.Mathlib.Omega.{arith}
use lib.Dec.{T, ltb, lt→ltb}
use lib.ListN.{length, set, length-append, length-set}
use Rattle.laws.specs.Lists.{every, without}
use Rattle.laws.proofs.Tests.{both}
use Rattle.laws.proofs.Lists.{length_without, every_mono, every_push, every_put, every_without, tally_put}
use Rattle.laws.proofs.Lists.{tally_without}
use Rattle.kinds.specs.declared.{Phase.Phase, Reader.Reader}
use Rattle.kinds.specs.Limits.{buckets, capacity}
use Rattle.readers.specs.Listed.{is_at, count_at, blank_reader}
use Rattle.readers.proofs.First.{First}
use Rattle.page_record.specs.declared.Head.{Head}
use Rattle.page_record.specs.Holders.{holds, no_load}
use Rattle.page_record.specs.References.{count_all_refs}
use Rattle.rules.specs.Rules.{shared_state_valid, phase_valid}
use Rattle.soundness.proofs.Facts.{head_sound, Sound}
use Rattle.soundness.proofs.Known.{passing, holding, hold_iff, valid_bucket_lem, valid_phase}
use Rattle.lock.proofs.Keeps.Counts.{one, Counts}

-- ---- readers that stay
-- whoever is valid beside h is valid beside h'
abbrev pub Stay : Head → Head → Type 0
Stay h h' = (r : Reader) → T (shared_state_valid h r) → T (shared_state_valid h' r)

module _ (h h' : Head) where
  -- what lets a reader at b stay: it may still be past the first check, and still hold the value that it holds
  pub record Lets (b : ℕ) : Type 0 where
    pub pass : T (passing h b) → T (passing h' b)
    pub hold : (v : ℕ) → T (passing h b) → T (holds h.storage v) → T (no_load h.loading_state)
        → T (holds h'.storage v) × T (no_load h'.loading_state)

  pub stays_at : (r : Reader) → (r.bucket.0 < buckets → Lets r.bucket.0)
      → T (shared_state_valid h r) → T (shared_state_valid h' r)
  stays_at r lets t =
      let k = valid_bucket_lem h r t in
      both (ltb r.bucket.0 buckets) (phase_valid r.phase (passing h' r.bucket.0) (holding h' r.bucket.0))
      (lt→ltb r.bucket.0 buckets k) (go r.phase (lets k) (valid_phase h r t))
    where
      go : (p : Phase) → Lets r.bucket.0 → T (phase_valid p (passing h r.bucket.0) (holding h r.bucket.0))
          → T (phase_valid p (passing h' r.bucket.0) (holding h' r.bucket.0))
      go Phase.Pending x u = tt
      go Phase.Pending2 x u = x.pass u
      go (Phase.Obtained v) x u =
          let w = (hold_iff h r.bucket.0 v).0 u in
          let y = x.hold v w.2 w.0 w.1 in
          (hold_iff h' r.bucket.0 v).1 (y.0, y.1, x.pass w.2)

  pub stays : ((b : ℕ) → b < buckets → Lets b) → Stay h h'
  stays lets r = stays_at r (lets r.bucket.0)

  -- nobody is past the first check: who stays is Pending
  pub quiet : ((b : ℕ) → b < buckets → T (passing h b) → ⊥) → Stay h h'
  quiet shut = stays (λ b k. record { pass = λ t. absurd (shut b k t); hold = λ v t. absurd (shut b k t) })

-- ---- references
abbrev pub refs_of : Head → List Reader → ℕ → ℕ
refs_of h l b = count_all_refs l h.exc_state h.loading_state b

-- the readers at b, where the reader x at place i is exchanged for y, or goes
module _ (l : List Reader) (x : Reader) (i : ℕ) (f : First l x i) (b : ℕ) where
  pub count_put : (y : Reader) → y.bucket.0 ≡ x.bucket.0 → count_at b (set l i y) ≡ count_at b l
  count_put y e =
      let same = ap (λ (n : ℕ). one n b) e in
      omega (arith, tally_put (is_at b) l i y blank_reader f.inside, ap (λ (r : Reader). one r.bucket.0 b) f.equal, same)

  pub count_without : count_at b (without i l) + one x.bucket.0 b ≡ count_at b l
  count_without =
      omega (arith, tally_without (is_at b) l i blank_reader f.inside, ap (λ (r : Reader). one r.bucket.0 b) f.equal)

-- ---- soundness in four parts, and the four edits
pub counts_of : {h : Head} {l : List Reader} → Sound h l → Counts h.ref_counts (refs_of h l)
counts_of s = record { four = s.four; few = s.few; equal = s.counts }

pub sound_of_lem : {h : Head} {l : List Reader} → T (head_sound h) → T (every (shared_state_valid h) l) → length l ≤ capacity
    → Counts h.ref_counts (refs_of h l) → Sound h l
sound_of_lem rules readers room c =
    record { head = rules; four = c.four; counts = c.equal; readers = readers; few = c.few; room = room }

stayed : (h h' : Head) (l : List Reader) → Sound h l → Stay h h' → T (every (shared_state_valid h') l)
stayed h h' l s stay = every_mono (shared_state_valid h) (shared_state_valid h') l stay s.readers

module _ {h h' : Head} {l : List Reader} (s : Sound h l) (rules : T (head_sound h')) where
  module _ (stay : Stay h h') where
    pub kept : Counts h'.ref_counts (refs_of h' l) → Sound h' l
    kept = sound_of_lem rules (stayed h h' l s stay) s.room

    pub pushed : (r : Reader) → T (shared_state_valid h' r) → length l < capacity
        → Counts h'.ref_counts (refs_of h' (l ++ r ∷ [])) → Sound h' (l ++ r ∷ [])
    pushed r t room =
        sound_of_lem rules (every_push (shared_state_valid h') l r (stayed h h' l s stay) t) (simp length-append (omega arith))

    pub put : (i : ℕ) (r : Reader) → T (shared_state_valid h' r)
        → Counts h'.ref_counts (refs_of h' (set l i r)) → Sound h' (set l i r)
    put i r t = sound_of_lem rules (every_put (shared_state_valid h') l i r (stayed h h' l s stay) t) (rw length-set s.room)

    pub removed : (i : ℕ) → i < length l → Counts h'.ref_counts (refs_of h' (without i l)) → Sound h' (without i l)
    removed i k =
        sound_of_lem rules (every_without (shared_state_valid h') l i (stayed h h' l s stay))
        (omega (arith, s.room, length_without l i k))

  -- Keep, where nobody was past the first check
  pub kept_quiet : ((b : ℕ) → b < buckets → T (passing h b) → ⊥) → Counts h'.ref_counts (refs_of h' l) → Sound h' l
  kept_quiet shut = kept (quiet h h' shut)
