-- Reading an image and writing one give the first number that applies: of 15 and 16 to the bytes (`read_number`), of 1 and 15 to the page
-- and the buffer (`write_number`). Neither carries a value. Assumes nothing.
use Rattle.std.specs.Prelude.{Result, Ok, Err}
use Prim.Native.Nat.{ℕ}
use mathlib.Core.Bool.{Bool, true, false, not, ◌&&◌, not-not}
use mathlib.Core.List.{List, [], ◌∷◌}
use mathlib.Core.Path.{◌≡◌, refl, ap, ◌∙◌}
use mathlib.Core.Logic.{◌↔◌, ◌⊎◌, ◌≢◌, inl, inr}
use native.Mathlib.Omega.{arith}
use lib.Dec.{leb, ltb}
use lib.ListN.{length}
use Rattle.laws.specs.Tables.{first_applying}
use Rattle.laws.proofs.Orders.{leb_ltb}
use Rattle.laws.proofs.Tests.{to_true}
use Rattle.page_record.specs.declared.Page.{Page}
use Rattle.soundness.specs.Soundness.{sound_under, sound_of}
use Rattle.requests.specs.declared.{Refusal.Refusal, Answer.Answer}
use Rattle.requests.specs.Answers.{answer_number, withdraws}
use Rattle.requests.specs.Premises.{verdict}
use Rattle.requests.proofs.Verdicts.{verdict_number_lem}
use Rattle.wire.specs.Buffers.{answer_for}
use Rattle.wire.proofs.Least.{answer_number_lem, answer_plain}
use Rattle.encoding.specs.Images.{whole_size, short_size}
use Rattle.decoding.specs.Decoding.{page_from}
use Rattle.image.specs.Keeping.{known_size, limits_by, is_image, readable, read_verdict, restored_as, restored_from, keepable, kept_answer}
use Rattle.image.specs.Applies.{applying_read, applying_write}
use Rattle.image.proofs.Lengths.{known_one, known_none}

-- ---- reading
restored_answer : (p : Page) (v : Result (Unit {0}) Refusal) → (restored_as p v).answer ≡ answer_for v
restored_answer p (Ok _) = refl
restored_answer p (Err why) = refl

module _ (l : List ℕ) where
  pub read_number : answer_number (restored_from l).answer ≡ first_applying (applying_read l)
  unfolding restored_from read_verdict
  read_number =
      ap answer_number (restored_answer (page_from l) (read_verdict (page_from l) l))
      ∙ answer_number_lem (read_verdict (page_from l) l)
      ∙ verdict_number_lem (readable (page_from l) l)

  pub read_plain : withdraws (restored_from l).answer ≡ false
  unfolding restored_from
  read_plain =
      ap withdraws (restored_answer (page_from l) (read_verdict (page_from l) l)) ∙ answer_plain (read_verdict (page_from l) l)

  -- 15 just where they have neither length
  known_other : (t : Bool) → (restored_as (page_from l) (verdict ((Refusal.WrongSize, true) ∷ (Refusal.NotAnImage, t) ∷ []))).answer
      ≢ Answer.Refused Refusal.WrongSize
  known_other true e = let n : ◌≡◌ {A = ℕ} 0 15 = ap answer_number e in omega arith
  known_other false e = let n : ◌≡◌ {A = ℕ} 16 15 = ap answer_number e in omega arith

  pub read_fifteen : ((restored_from l).answer ≡ Answer.Refused Refusal.WrongSize) ↔ ((length l ≢ whole_size) × (length l ≢ short_size))
  unfolding restored_from read_verdict
  read_fifteen =
      let image = sound_under (limits_by (length l)) (page_from l) && is_image (page_from l) l in
      let other : (length l ≡ whole_size) ⊎ (length l ≡ short_size) → (restored_from l).answer ≢ Answer.Refused Refusal.WrongSize =
      λ one e. known_other image (rw (to_true (known_size (length l)) (known_one (length l) one)) at e) in
      (λ e. (λ whole. other (inl whole) e, λ short. other (inr short) e), λ two. rw (known_none (length l) two.0 two.1) refl)

-- ---- writing
module _ (p : Page) (l : List ℕ) where
  pub write_number : answer_number (kept_answer p l) ≡ first_applying (applying_write p l)
  unfolding kept_answer
  write_number =
      let room : not (leb whole_size (length l)) ≡ ltb (length l) whole_size =
      ap not (leb_ltb whole_size (length l)) ∙ not-not (ltb (length l) whole_size) in
      answer_number_lem (verdict (keepable p l))
      ∙ verdict_number_lem (keepable p l)
      ∙ ap (λ (t : Bool). first_applying ((1, not (sound_of p)) ∷ (15, t) ∷ [])) room

  pub write_plain : withdraws (kept_answer p l) ≡ false
  unfolding kept_answer
  write_plain = answer_plain (verdict (keepable p l))
