-- What a reader that is found tells of the page (rule 7): where none of its phase may stand, none is found (`seen_is`). Assumes nothing.
use Rattle.std.specs.Prelude.{Option, Some, None}
use Prim.Native.Nat.{ℕ}
use mathlib.Core.Path.{◌≡◌, refl}
use mathlib.Core.Bool.{Bool, true, false, cond, ◌&&◌}
use mathlib.Core.List.{List}
use lib.Dec.{T}
use Rattle.laws.proofs.Tests.{both}
use Rattle.kinds.specs.declared.{Phase.Phase, Reader.Reader}
use Rattle.readers.specs.Listed.{find_in}
use Rattle.readers.proofs.First.{First, found}
use Rattle.page_record.specs.declared.Head.{Head}
use Rattle.page_record.specs.Holders.{no_load}
use Rattle.rules.specs.Rules.{phase_valid}
use Rattle.soundness.proofs.Facts.{Sound}
use Rattle.soundness.proofs.Known.{passing, holding, hold_iff, valid_phase, found_valid}
use Rattle.lock.specs.Step.{look_for}

-- a reader of this phase may stand at this bucket, whatever its value
abbrev pub may_stand : Head → Phase → ℕ → Bool
may_stand h Phase.Pending b = true
may_stand h Phase.Pending2 b = passing h b
may_stand h (Phase.Obtained v) b = no_load h.loading_state && passing h b

abbrev pub stands : Head → Option Reader → Bool
stands h None = true
stands h (Some x) = may_stand h x.phase x.bucket.0

-- what is found, as far as it may stand
abbrev pub seen : Head → Option Reader → Option ℕ → Option ℕ
seen h x o = cond (stands h x) o None

module _ {h : Head} {l : List Reader} (s : Sound h l) where
  found_stands : (x : Reader) (i : ℕ) → First l x i → T (may_stand h x.phase x.bucket.0)
  found_stands x i f = go x.phase (valid_phase h x (found_valid s x i f))
    where
      go : (phase : Phase) → T (phase_valid phase (passing h x.bucket.0) (holding h x.bucket.0))
          → T (may_stand h phase x.bucket.0)
      go Phase.Pending t = tt
      go Phase.Pending2 t = t
      go (Phase.Obtained v) t =
          let u = (hold_iff h x.bucket.0 v).0 t in
          both (no_load h.loading_state) (passing h x.bucket.0) u.1 u.2

  found_seen : (x : Reader) (t : Bool) → may_stand h x.phase x.bucket.0 ≡ t → (o : Option ℕ) → find_in l x ≡ o
      → cond t o None ≡ o
  found_seen x true e o w = refl
  found_seen x false e None w = refl
  found_seen x false e (Some i) w = absurd (rw e at (found_stands x i (found x l i w)))

  pub seen_is : (x : Option Reader) → seen h x (look_for l x) ≡ look_for l x
  unfolding look_for
  seen_is None = refl
  seen_is (Some x) = found_seen x (may_stand h x.phase x.bucket.0) refl (find_in l x) refl
