-- What writing an image comes to, by what its code finds out: 1, then 15, else the image over the first bytes of the buffer. And what
-- the buffer holds then: the image first, what stood past it as it was, and all of it as it was where the writing is refused. Assumes
-- nothing.
use Rattle.std.specs.Prelude.{Result}
use Prim.Native.Nat.{ℕ, ◌<◌, ◌≤◌}
use mathlib.Core.Bool.{true, false}
use mathlib.Core.List.{List, ◌++◌}
use mathlib.Core.Path.{◌≡◌, refl, ap}
use borrow.Author.Tests.{le-leb, lt-leb}
use lib.ListN.{length, drop}
use Rattle.kinds.specs.Limits.{capacity}
use Rattle.page_record.specs.declared.Page.{Page}
use Rattle.soundness.specs.Soundness.{sound_of}
use Rattle.requests.specs.declared.{Refusal.Refusal, Answer.Answer}
use Rattle.requests.specs.Premises.{verdict}
use Rattle.wire.specs.Buffers.{leaves}
use Rattle.wire.proofs.Buffers.{leaves_past}
use Rattle.wire.proofs.Premises.{answer_passed, answer_failed}
use Rattle.encoding.specs.Images.{whole_size, image_of}
use Rattle.image.specs.Keeping.{keepable, kept_answer, kept_in}
use Rattle.encoding.proofs.Rooms.{length_image}

module _ (p : Page) (l : List ℕ) where
  pub write_unsound : sound_of p ≡ false → (Answer.Refused Refusal.Unsound ≡ kept_answer p l) × (l ≡ kept_in p l)
  unfolding kept_answer kept_in
  write_unsound s = simp s (refl, refl)

  pub write_short : sound_of p ≡ true → length l < whole_size
      → (Answer.Refused Refusal.WrongSize ≡ kept_answer p l) × (l ≡ kept_in p l)
  unfolding kept_answer kept_in
  write_short s h = simp (s, lt-leb whole_size (length l) h) (refl, refl)

  pub write_whole : sound_of p ≡ true → whole_size ≤ length l
      → (Answer.Accepted ≡ kept_answer p l) × (image_of capacity p ++ drop whole_size l ≡ kept_in p l)
  unfolding kept_answer kept_in
  write_whole s h = simp (s, le-leb whole_size (length l) h) (refl, refl)

-- ---- what the buffer holds then
module _ (p : Page) (l : List ℕ) where
  abbrev left : Result (Unit {0}) Refusal → List ℕ
  left v = leaves whole_size v (image_of capacity p) l

  -- what is refused touches nothing
  pub write_untouched : (why : Refusal) → kept_answer p l ≡ Answer.Refused why → kept_in p l ≡ l
  unfolding kept_answer kept_in
  write_untouched why e = ap left (answer_failed (verdict (keepable p l)) why e)

  -- what is accepted stands in the first bytes,
  pub write_first : kept_answer p l ≡ Answer.Accepted → kept_in p l ≡ image_of capacity p ++ drop whole_size l
  unfolding kept_answer kept_in
  write_first e = ap left (answer_passed (verdict (keepable p l)) e)

  -- and changes no other
  pub write_past : drop whole_size (kept_in p l) ≡ drop whole_size l
  unfolding kept_in
  write_past = leaves_past whole_size (image_of capacity p) l (verdict (keepable p l)) (λ e. length_image capacity p)
