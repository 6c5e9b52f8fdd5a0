-- The demands for images, proved: the numbers and the round trips are those of `image`, and demand 3 from a page that was read is an
-- instance of demand 3 from any sound page. Assumes nothing.
use Prim.Native.Nat.{ℕ, ◌≤◌}
use mathlib.Core.Path.{◌≡◌, refl, sym, ap, subst, ◌∙◌}
use mathlib.Core.Logic.{◌↔◌}
use mathlib.Core.Bool.{Bool, true, false, not, ◌||◌, true≢false}
use mathlib.Core.List.{List, ◌++◌}
use native.Mathlib.Omega.{arith}
use lib.Dec.{T}
use lib.ListN.{length, drop}
use Rattle.laws.specs.Tables.{applies_in}
use Rattle.laws.proofs.Tests.{to_true}
use Rattle.laws.proofs.Tables.{first_lowest, first_none}
use Rattle.kinds.specs.Limits.{capacity, short_capacity, Limits, today, short}
use Rattle.page_record.specs.declared.Page.{Page}
use Rattle.soundness.specs.Soundness.{sound_of}
use Rattle.requests.specs.declared.Answer.{Answer}
use Rattle.requests.specs.Premises.{verdict}
use Rattle.requests.proofs.Verdicts.{passed}
use Rattle.wire.specs.Bytes.{Bytes}
use Rattle.wire.proofs.Buffers.{leaves_whole}
use Rattle.wire.proofs.Premises.{answer_passed}
use Rattle.encoding.specs.Images.{whole_size, short_size, image_of, lengthened, InRange}
use Rattle.image.specs.Keeping.{limits_by, ImageUnder, restored, restored_from, keepable, kept_answer, kept_in}
use Rattle.image.specs.Applies.{is_sound_image, applying_read, applying_write}
use Rattle.encoding.proofs.Rooms.{length_image, image_longer}
use Rattle.image.proofs.Lengths.{by_short, by_other, known_one, sound_today}
use Rattle.image.proofs.Trips.{in_range, accepted, refused_fresh, restored_sound, four_refused, write_read}
use Rattle.image.proofs.Trips.{image_iff, accepts_images, image_injective}
use Rattle.image.proofs.Short.{short_write, short_read}
use Rattle.image.proofs.Written.{write_whole, write_untouched, write_first, write_past}
use Rattle.image.proofs.Least.{read_number, read_plain, read_fifteen, write_number, write_plain}
use Rattle.demands.specs.Restart.{Long, Demand1Image, Demand1Keep, Demand2Image, Demand2Short, Demand3Image}
use Rattle.demands.proofs.Demand1.{accepts_none}
use Rattle.demands.proofs.Demand3.{demand3_from}
use Rattle.demands.proofs.Lines.{demand3_runs_from}
use Rattle.demands.proofs.Before.{as_if_before}

-- ---- demand 1
-- a row that does not apply
last_row : (t : Bool) → ((not t || false) ≡ false) ↔ T t
last_row true = (λ e. tt, λ t. refl)
last_row false = (λ e. absurd (true≢false e), λ t. absurd t)

-- under the limits that the length stands for
sixteen_under : (l : List ℕ) (limits : Limits) → limits_by (length l) ≡ limits → Bytes l
    → (applies_in (applying_read l) 16 ≡ false) ↔ ImageUnder limits l
sixteen_under l limits by bytes =
    let iff = image_iff l bytes in
    rw (← by) (λ e. iff.0 ((last_row (is_sound_image l)).0 e), λ t. (last_row (is_sound_image l)).1 (iff.1 t))

pub demand1_image : (l : List ℕ) → Demand1Image l
unfolding sound_of
demand1_image l = record {
  given = λ n k. rw (read_number l) (first_lowest (applying_read l) tt n k);
  accepted = accepts_none _ (applying_read l) (read_plain l) (read_number l) (first_none (applying_read l) tt);
  fifteen = read_fifteen l;
  sixteen = λ long. sixteen_under l today (by_other (length l) long);
  sixteen_short = λ size. sixteen_under l short (by_short (length l) size);
  four = λ one. four_refused l (known_one (length l) one);
  fresh = refused_fresh l;
  sound = restored_sound l;
}

pub demand1_keep : (p : Page) (buffer : List ℕ) → Demand1Keep p buffer
demand1_keep p buffer = record {
  given = λ n k. rw (write_number p buffer) (first_lowest (applying_write p buffer) tt n k);
  accepted = accepts_none _ (applying_write p buffer) (write_plain p buffer) (write_number p buffer) (first_none (applying_write p buffer) tt);
  untouched = write_untouched p buffer;
  first = write_first p buffer;
  past = write_past p buffer;
  long = length_image capacity p;
}

-- ---- demand 2
-- under the limits that the length stands for
accepts_under : (l : List ℕ) (limits : Limits) → limits_by (length l) ≡ limits → Bytes l
    → ((p : Page) × (restored_from l ≡ restored p)) ↔ ImageUnder limits l
accepts_under l limits by bytes = rw (← by) (accepts_images l bytes)

-- read and written again
wholly : (l : List ℕ) (p : Page) → Long l → restored_from l ≡ restored p → image_of capacity p ≡ l
wholly l p long e = subst (λ (x : Limits). image_of x.readers p ≡ l) (by_other (length l) long) (accepted l p e).image

module _ (l buffer : List ℕ) (p : Page) (long : Long l) (bytes : Bytes l) (whole : length buffer ≡ whole_size) where
  -- nothing of the buffer is left
  alone : image_of capacity p ++ drop whole_size buffer ≡ image_of capacity p
  alone = leaves_whole whole_size (image_of capacity p) buffer whole

  there : restored_from l ≡ restored p → InRange p × (kept_answer p buffer ≡ Answer.Accepted) × (kept_in p buffer ≡ l)
  there e =
      let a = accepted l p e in
      let w = write_whole p buffer (to_true (sound_of p) (sound_today (length l) p a.sound)) (omega arith) in
      (rw (← a.page) (in_range l bytes), sym w.0, sym w.1 ∙ alone ∙ wholly l p long e)

  back : InRange p × (kept_answer p buffer ≡ Answer.Accepted) × (kept_in p buffer ≡ l) → restored_from l ≡ restored p
  unfolding kept_answer
  back w =
      let fits = passed (keepable p buffer) (answer_passed (verdict (keepable p buffer)) w.1) in
      ap restored_from (sym (sym alone ∙ sym (write_first p buffer w.1) ∙ w.2)) ∙ write_read p fits.0 w.0

pub demand2_image : Demand2Image
unfolding sound_of
demand2_image = record {
  write_read = write_read;
  read_write = wholly;
  accepts_images = λ l long. accepts_under l today (by_other (length l) long);
  apart = image_injective;
  agree = λ l buffer p long bytes whole. (there l buffer p long bytes whole, back l buffer p long bytes whole);
}

-- read short and written again
written_long_lem : (l buffer : List ℕ) (p : Page) → length l ≡ short_size → restored_from l ≡ restored p → whole_size ≤ length buffer
    → (kept_answer p buffer ≡ Answer.Accepted) × (kept_in p buffer ≡ lengthened l ++ drop whole_size buffer)
written_long_lem l buffer p size e room =
    let w = write_whole p buffer (to_true (sound_of p) (sound_today (length l) p (accepted l p e).sound)) room in
    (sym w.0, sym w.1 ∙ ap (λ (z : List ℕ). z ++ drop whole_size buffer) (short_write l p size e))

pub demand2_short : Demand2Short
demand2_short = record {
  lengthens = λ p few. image_longer short_capacity capacity p few (omega arith);
  short_read = λ l p size bytes. short_read l p bytes size;
  short_write = short_write;
  again = written_long_lem;
  accepts_short = λ l size. accepts_under l short (by_short (length l) size);
}

-- ---- demand 3
pub demand3_image : (l : List ℕ) → Demand3Image l
demand3_image l = record {
  requests = demand3_from (restored_from l).page (restored_sound l);
  runs = demand3_runs_from (restored_from l).page (restored_sound l);
  as_if = as_if_before (restored_from l).page (restored_sound l);
}
