-- The steps of readers, 19 to 24, from any sound head: the head's rules stay, one reader comes, goes or changes its phase, and
-- the count at its bucket follows. Assumes nothing.
use Rattle.std.specs.Prelude.{Option}
use Prim.Native.Nat.{ℕ, ◌<◌}
use mathlib.Core.Path.{refl}
use mathlib.Core.Bool.{Bool, true, not}
use mathlib.Core.List.{List, [], ◌∷◌}
use native.Mathlib.Omega.{arith}
use lib.Dec.{T, ltb, ltb→lt, lt→ltb}
use lib.ListN.{length, set}
use Rattle.laws.specs.Lists.{without}
use Rattle.laws.proofs.Tests.{both}
use Rattle.laws.proofs.Lists.{tally_push}
use Rattle.laws.proofs.Pick.{◌&◌}
use Rattle.kinds.specs.declared.{Phase.Phase, Reader.Reader}
use Rattle.kinds.specs.Limits.{buckets, capacity, ceiling}
use Rattle.kinds.specs.Flags.{not_loading}
use Rattle.readers.specs.Listed.{is_at}
use Rattle.readers.proofs.First.{First}
use Rattle.page_record.specs.declared.Head.{Head}
use Rattle.page_record.specs.Holders.{value_of}
use Rattle.page_record.specs.Pages.{number_at}
use Rattle.rules.specs.Rules.{phase_valid}
use Rattle.soundness.proofs.Facts.{Sound}
use Rattle.soundness.proofs.Known.{passing, holding, hold_iff, valid_phase, stored_holds, known, found_valid}
use Rattle.requests.specs.declared.Request.{Request}
use Rattle.heads.specs.Setters.{lowered}
use Rattle.heads.specs.Decisions.{is_found, place_of, reader}
use Rattle.lock.proofs.Keeps.Counts.{same_counts, raised_counts, lowered_counts}
use Rattle.lock.proofs.Keeps.Sounds.{counts_of, count_put, count_without, pushed, put, removed}
use Rattle.lock.proofs.Keeps.Cells.{Cell, Cells}

abbrev pub reader_steps : List ℕ
reader_steps = 19 ∷ 20 ∷ 21 ∷ 22 ∷ 23 ∷ 24 ∷ []

module _ (l : List Reader) (q : Request) (inside : q.bucket.0 < buckets) (found : Option ℕ) (full : Bool)
    (room : T (not full) → length l < capacity) (h : Head) (s : Sound h l) where
  near : T (ltb q.bucket.0 buckets)
  near = lt→ltb q.bucket.0 buckets inside

  -- 19
  enters : Cell l q found full h 19
  enters _ p =
      let r = reader Phase.Pending q.bucket in
      pushed s s.head (λ r t. t) r (both (ltb q.bucket.0 buckets) true near tt) (room p.1.0)
      (raised_counts (counts_of s) q.bucket.0 inside (ltb→lt (number_at h.ref_counts q.bucket.0) ceiling p.0)
      (λ b. omega (arith, tally_push (is_at b) l r)))

  -- 20, 21 and 22: a reader of phase f
  leaves : (f : Phase) → (T (is_found found) → First l (reader f q.bucket) (place_of found)) → T (is_found found) × Unit {0}
      → Sound (lowered q.bucket.0 h) (without (place_of found) l)
  leaves f first p =
      let x = first p.0 in
      removed s s.head (λ r t. t) (place_of found) x.inside
      (lowered_counts (counts_of s) q.bucket.0 inside
      (λ b. omega (arith, count_without l (reader f q.bucket) (place_of found) x b)))

  -- 23 and 24: from phase f to g
  turns : (f g : Phase) → First l (reader f q.bucket) (place_of found)
      → T (phase_valid g (passing h q.bucket.0) (holding h q.bucket.0))
      → Sound h (set l (place_of found) (reader g q.bucket))
  turns f g first t =
      put s s.head (λ r t. t) (place_of found) (reader g q.bucket)
      (both (ltb q.bucket.0 buckets) (phase_valid g (passing h q.bucket.0) (holding h q.bucket.0)) near t)
      (same_counts (counts_of s)
      (λ b. omega (arith, count_put l (reader f q.bucket) (place_of found) first b (reader g q.bucket) refl)))

  passes : Cell l q found full h 23
  passes first p = turns Phase.Pending Phase.Pending2 (first p.1.0) ((known s).open_passing q.bucket.0 p.0)

  reads : Cell l q found full h 24
  reads first p =
      let b = q.bucket.0 in
      let x = reader Phase.Pending2 q.bucket in
      let v = value_of h.storage in
      let past : T (passing h b) = valid_phase h x (found_valid s x (place_of found) (first p.1.0)) in
      let u = both (not_loading h.flag) (passing h b) p.0 past in
      turns Phase.Pending2 (Phase.Obtained v) (first p.1.0)
      ((hold_iff h b v).1 (stored_holds h.storage ((known s).passing_in b u), (known s).passing_idle b u, past))

  pub reader_cells : Cells l q found full h reader_steps
  reader_cells =
      enters & leaves Phase.Pending & leaves Phase.Pending2 & leaves (Phase.Obtained q.value) & passes & reads & tt
