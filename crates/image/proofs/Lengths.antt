-- What the length of bytes stands for: which limits it gives, that these are among today's, and what is asked under them of a page and of
-- the bytes. Assumes nothing.
use Prim.Native.Nat.{ℕ, ◌≤◌}
use mathlib.Core.Bool.{Bool, true, false, cond, ◌&&◌, ◌||◌}
use mathlib.Core.List.{List}
use mathlib.Core.Path.{◌≡◌, sym, ap, ◌∙◌}
use mathlib.Core.Logic.{◌⊎◌, ◌≢◌, inl, inr}
use native.Mathlib.Omega.{arith}
use borrow.Author.Tests.{ne_eqb}
use lib.Dec.{T, eqb}
use lib.ListN.{length, take}
use Rattle.kinds.specs.Limits.{capacity, ceiling, short_capacity, Limits, today, short}
use Rattle.page_record.specs.declared.Page.{Page}
use Rattle.soundness.specs.Soundness.{sound_under, fits_under, sound_of}
use Rattle.soundness.proofs.Under.{sound_under_lem, sound_monotone}
use Rattle.encoding.specs.Images.{whole_size, short_size, image_of}
use Rattle.image.specs.Keeping.{same_bytes, known_size, limits_by, is_image}
use Rattle.encoding.proofs.Rooms.{image_first}

-- ---- which limits it gives
pub by_short : (size : ℕ) → size ≡ short_size → limits_by size ≡ short
unfolding limits_by
by_short size e = rw e

pub by_other : (size : ℕ) → (size ≡ short_size → ⊥) → limits_by size ≡ today
unfolding limits_by
by_other size h = rw (ne_eqb size short_size h)

pub by_whole : limits_by whole_size ≡ today
by_whole = by_other whole_size (λ e. omega arith)

-- they are among today's
pub within_today : (size : ℕ) → ((limits_by size).readers ≤ capacity) × ((limits_by size).count ≤ ceiling)
unfolding limits_by
within_today size = go (eqb size short_size)
  where
    go : (t : Bool) → ((cond t short today).readers ≤ capacity) × ((cond t short today).count ≤ ceiling)
    go true = (omega arith, omega arith)
    go false = (omega arith, omega arith)

-- ---- which lengths there are
pub known_whole : T (known_size whole_size)
unfolding known_size
known_whole = tt

pub known_short : T (known_size short_size)
unfolding known_size
known_short = tt

pub known_one : (size : ℕ) → (size ≡ whole_size) ⊎ (size ≡ short_size) → T (known_size size)
known_one size (inl e) = rw e known_whole
known_one size (inr e) = rw e known_short

pub known_none : (size : ℕ) → size ≢ whole_size → size ≢ short_size → known_size size ≡ false
unfolding known_size
known_none size a b = ap (λ (t : Bool). t || eqb size whole_size) (ne_eqb size short_size b) ∙ ne_eqb size whole_size a

-- ---- what is asked of a page
pub sound_other : (size : ℕ) (p : Page) → (size ≡ short_size → ⊥) → sound_under (limits_by size) p ≡ sound_of p
unfolding sound_of
sound_other size p h = ap (λ (x : Limits). sound_under x p) (by_other size h)

pub sound_short : (size : ℕ) (p : Page) → size ≡ short_size → sound_under (limits_by size) p ≡ (sound_of p && fits_under short p)
sound_short size p e =
    ap (λ (x : Limits). sound_under x p) (by_short size e) ∙ sound_under_lem short p (omega arith) (omega arith)

-- such a page is sound today
pub sound_today : (size : ℕ) (p : Page) → T (sound_under (limits_by size) p) → T (sound_of p)
unfolding sound_of
sound_today size p t = sound_monotone (limits_by size) today p (within_today size).0 (within_today size).1 t

-- ---- what is asked of the bytes
pub image_other : (l : List ℕ) (p : Page) → (length l ≡ short_size → ⊥) → is_image p l ≡ same_bytes l (image_of capacity p)
unfolding is_image
image_other l p h = ap (λ (x : Limits). same_bytes l (image_of x.readers p)) (by_other (length l) h)

pub image_short : (l : List ℕ) (p : Page) → length l ≡ short_size → is_image p l ≡ same_bytes l (take short_size (image_of capacity p))
unfolding is_image
image_short l p e =
    ap (λ (x : Limits). same_bytes l (image_of x.readers p)) (by_short (length l) e)
    ∙ ap (same_bytes l) (sym (image_first short_capacity capacity p (omega arith)))
