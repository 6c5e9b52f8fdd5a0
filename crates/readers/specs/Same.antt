-- When two readers are the same: the same phase, with the same value where it has one, at the same bucket.
use Rattle.std.specs.Prelude.{Bool, true, false, ◌&&◌, eqb}
use Rattle.kinds.specs.declared.{Phase.Phase, Reader.Reader}

abbrev pub same_phase : Phase → Phase → Bool
same_phase Phase.Pending Phase.Pending = true
same_phase Phase.Pending Phase.Pending2 = false
same_phase Phase.Pending (Phase.Obtained w) = false
same_phase Phase.Pending2 Phase.Pending = false
same_phase Phase.Pending2 Phase.Pending2 = true
same_phase Phase.Pending2 (Phase.Obtained w) = false
same_phase (Phase.Obtained v) Phase.Pending = false
same_phase (Phase.Obtained v) Phase.Pending2 = false
same_phase (Phase.Obtained v) (Phase.Obtained w) = eqb v w

abbrev pub same_reader : Reader → Reader → Bool
same_reader a b = same_phase a.phase b.phase && eqb a.bucket.0 b.bucket.0
