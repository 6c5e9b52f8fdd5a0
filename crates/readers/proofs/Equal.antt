-- The test `same_reader` is equality. Assumes nothing.
use mathlib.Core.Path.{◌≡◌, refl, ap}
use lib.Dec.{T, eqb, eqb→eq, eqb_refl}
use Rattle.laws.proofs.Tests.{both, halves}
use Rattle.kinds.specs.declared.{Phase.Phase, Reader.Reader}
use Rattle.readers.specs.Same.{same_phase, same_reader}

phase_refl : (p : Phase) → T (same_phase p p)
phase_refl Phase.Pending = tt
phase_refl Phase.Pending2 = tt
phase_refl (Phase.Obtained v) = eqb_refl v

phase_is : (p q : Phase) → T (same_phase p q) → p ≡ q
phase_is Phase.Pending Phase.Pending t = refl
phase_is Phase.Pending Phase.Pending2 t = absurd t
phase_is Phase.Pending (Phase.Obtained w) t = absurd t
phase_is Phase.Pending2 Phase.Pending t = absurd t
phase_is Phase.Pending2 Phase.Pending2 t = refl
phase_is Phase.Pending2 (Phase.Obtained w) t = absurd t
phase_is (Phase.Obtained v) Phase.Pending t = absurd t
phase_is (Phase.Obtained v) Phase.Pending2 t = absurd t
phase_is (Phase.Obtained v) (Phase.Obtained w) t = ap Phase.Obtained (eqb→eq v w t)

pub same_refl : (r : Reader) → T (same_reader r r)
same_refl r =
    both (same_phase r.phase r.phase) (eqb r.bucket.0 r.bucket.0)
    (phase_refl r.phase)
    (eqb_refl r.bucket.0)

pub same_is : (r s : Reader) → T (same_reader r s) → r ≡ s
same_is r s t =
    let h = halves (same_phase r.phase s.phase) (eqb r.bucket.0 s.bucket.0) t in
    let p : r.phase ≡ s.phase = phase_is r.phase s.phase h.0 in
    let b : r.bucket.0 ≡ s.bucket.0 = eqb→eq r.bucket.0 s.bucket.0 h.1 in
    λ i. record { phase = p i; bucket = record { 0 = b i } }
