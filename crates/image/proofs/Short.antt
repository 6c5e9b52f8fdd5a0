-- A short image beside those of today: bytes of its length are read as a page just if they are read as that page with zeros up to today's
-- length, and the page fits under the short limits (`short_read`). Assumes nothing.
use Prim.Native.Nat.{ℕ, zero, suc, ◌-◌}
use mathlib.Core.List.{List, [], ◌∷◌, ◌++◌}
use mathlib.Core.Logic.{◌↔◌}
use mathlib.Core.Path.{◌≡◌, sym, ap, subst, ◌∙◌}
use native.Mathlib.Omega.{arith}
use lib.Dec.{T}
use lib.ListN.{length, take, replicate, length-append, length-replicate}
use lib.Seq.{take_at}
use Rattle.laws.proofs.Tests.{both}
use Rattle.kinds.specs.Limits.{capacity, short_capacity, Limits, today, short}
use Rattle.page_record.specs.declared.Page.{Page}
use Rattle.soundness.specs.Soundness.{sound_under, fits_under, sound_of}
use Rattle.soundness.proofs.Under.{sound_under_lem}
use Rattle.wire.specs.Bytes.{Bytes}
use Rattle.encoding.specs.Images.{whole_size, short_size, short_by, image_of, lengthened, InRange}
use Rattle.image.specs.Keeping.{limits_by, restored, restored_from}
use Rattle.encoding.proofs.Rooms.{image_first}
use Rattle.image.proofs.Lengths.{by_short, by_whole, sound_today}
use Rattle.image.proofs.Trips.{parted, in_range, accepted, write_read, write_read_short, read_write}

-- zeros after bytes
bytes_zeros : (l : List ℕ) (n : ℕ) → Bytes l → Bytes (l ++ replicate n 0)
bytes_zeros [] zero b i = b i
bytes_zeros [] (suc n) b zero = omega arith
bytes_zeros [] (suc n) b (suc i) = bytes_zeros [] n b i
bytes_zeros (x ∷ l) n b zero = b 0
bytes_zeros (x ∷ l) n b (suc i) = bytes_zeros l n (λ j. b (suc j)) i

-- read and written again
pub short_write : (l : List ℕ) (p : Page) → length l ≡ short_size → restored_from l ≡ restored p → image_of capacity p ≡ lengthened l
short_write l p size e =
    let zeros : whole_size - length l ≡ short_by = omega arith in
    read_write l p e ∙ ap (λ (n : ℕ). l ++ replicate n 0) zeros

module _ (l : List ℕ) (p : Page) (bytes : Bytes l) (size : length l ≡ short_size) where
  size_longer : length (lengthened l) ≡ whole_size
  size_longer =
      let e : length (replicate {A = ℕ} short_by 0) ≡ short_by = length-replicate {A = ℕ} short_by 0 in
      length-append l (replicate short_by 0) ∙ omega arith

  -- with the zeros, under the short limits
  there : restored_from l ≡ restored p → (restored_from (lengthened l) ≡ restored p) × T (fits_under short p)
  there e =
      let a = accepted l p e in
      let r = subst InRange a.page (in_range l bytes) in
      let t = subst (λ (x : Limits). T (sound_under x p)) (by_short (length l) size) a.sound in (
        ap restored_from (sym (short_write l p size e)) ∙ write_read p (sound_today (length l) p a.sound) r,
        (parted short (omega arith) (omega arith) p t).1,
      )

  -- and without them
  back : (restored_from (lengthened l) ≡ restored p) × T (fits_under short p) → restored_from l ≡ restored p
  back w =
      let a = accepted (lengthened l) p w.0 in
      let r = subst InRange a.page (in_range (lengthened l) (bytes_zeros l short_by bytes)) in
      let by : limits_by (length (lengthened l)) ≡ today = ap limits_by size_longer ∙ by_whole in
      let image = subst (λ (x : Limits). image_of x.readers p ≡ lengthened l) by a.image in
      let t = subst T (sym (sound_under_lem short p (omega arith) (omega arith)))
      (both (sound_of p) (fits_under short p) (sound_today (length (lengthened l)) p a.sound) w.1) in
      let first : image_of short_capacity p ≡ l =
      sym (image_first short_capacity capacity p (omega arith))
      ∙ ap (take short_size) image
      ∙ take_at l (replicate short_by 0) short_size size in
      ap restored_from (sym first) ∙ write_read_short p t r

  pub short_read : (restored_from l ≡ restored p) ↔ ((restored_from (lengthened l) ≡ restored p) × T (fits_under short p))
  short_read = (there, back)
