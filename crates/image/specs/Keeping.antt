-- Reading an image and writing one: what is asked, what is answered, and what comes of it (RULES 5.6 and 5.7).
use Rattle.std.specs.Prelude.{ℕ, Result, Ok, Err, ◌≡◌, Bool, true, false, cond, ◌&&◌, ◌||◌, List, [], ◌∷◌, T, eqb, leb, length}
use Rattle.kinds.specs.Limits.{capacity, Limits, today, short}
use Rattle.page_record.specs.declared.Page.{Page}
use Rattle.page_record.specs.Pages.{fresh_page}
use Rattle.soundness.specs.Soundness.{sound_under, sound_of}
use Rattle.requests.specs.declared.{Refusal.Refusal, Answer.Answer}
use Rattle.requests.specs.Premises.{verdict}
use Rattle.wire.specs.Buffers.{answer_for, leaves}
use Rattle.image.specs.declared.Restored.{Restored}
use Rattle.encoding.specs.Images.{whole_size, short_size, image_of, InRange}
use Rattle.decoding.specs.Decoding.{page_from}

-- ---- bytes that are the same
abbrev pub same_bytes : List ℕ → List ℕ → Bool
same_bytes [] [] = true
same_bytes [] (y ∷ ys) = false
same_bytes (x ∷ xs) [] = false
same_bytes (x ∷ xs) (y ∷ ys) = eqb x y && same_bytes xs ys

-- ---- the two lengths
-- an image has one of these
unfoldable pub known_size : ℕ → Bool
known_size size = eqb size short_size || eqb size whole_size

-- and by its length it is judged: a short one under the short limits
unfoldable pub limits_by : ℕ → Limits
limits_by size = cond (eqb size short_size) short today

-- the bytes are the image of this page, with room for as many readers as their length lets them
unfoldable pub is_image : Page → List ℕ → Bool
is_image p l = same_bytes l (image_of (limits_by (length l)).readers p)

-- they are the image of some page that is sound under these limits
abbrev pub ImageUnder : Limits → List ℕ → Type 0
ImageUnder limits l = (p : Page) × T (sound_under limits p) × InRange p × (image_of limits.readers p ≡ l)

-- ---- reading
-- 15, then 16: the page that the bytes say is sound under their limits, and they are its image
abbrev pub readable : Page → List ℕ → List (Refusal × Bool)
readable p l =
    (Refusal.WrongSize, known_size (length l))
    ∷ (Refusal.NotAnImage, sound_under (limits_by (length l)) p && is_image p l)
    ∷ []

unfoldable pub read_verdict : Page → List ℕ → Result (Unit {0}) Refusal
read_verdict p l = verdict (readable p l)

-- a page is read
abbrev pub restored : Page → Restored
restored p = record { answer = Answer.Accepted; page = p }

-- a refusal gives a fresh page of 0
abbrev pub restored_as : Page → Result (Unit {0}) Refusal → Restored
restored_as p (Ok _) = restored p
restored_as p (Err why) = record { answer = Answer.Refused why; page = fresh_page 0 }

unfoldable pub restored_from : List ℕ → Restored
restored_from l = restored_as (page_from l) (read_verdict (page_from l) l)

-- ---- writing
-- 1, then 15
abbrev pub keepable : Page → List ℕ → List (Refusal × Bool)
keepable p l = (Refusal.Unsound, sound_of p) ∷ (Refusal.WrongSize, leb whole_size (length l)) ∷ []

unfoldable pub kept_answer : Page → List ℕ → Answer
kept_answer p l = answer_for (verdict (keepable p l))

-- the image over the first bytes of the buffer; a refusal leaves it untouched
unfoldable pub kept_in : Page → List ℕ → List ℕ
kept_in p l = leaves whole_size (verdict (keepable p l)) (image_of capacity p) l
