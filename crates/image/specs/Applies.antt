-- When each number applies to bytes that are read as an image, and to a page that is written into a buffer as one, in the words of
-- RULES 4.1, 5.6 and 5.7: no premise list stands here. That reading and writing give the first of them that applies is `read_number` and
-- `write_number` (proofs/Least.antt); what 16 says of the bytes is `image_iff` (proofs/Trips.antt).
use Rattle.std.specs.Prelude.{ℕ, Bool, not, ◌&&◌, List, [], ◌∷◌, ltb, length}
use Rattle.page_record.specs.declared.Page.{Page}
use Rattle.soundness.specs.Soundness.{sound_under, sound_of}
use Rattle.encoding.specs.Images.{whole_size}
use Rattle.decoding.specs.Decoding.{page_from}
use Rattle.image.specs.Keeping.{known_size, limits_by, is_image}

-- the bytes are the image of a page that is sound under the limits of their length
abbrev pub is_sound_image : List ℕ → Bool
is_sound_image l = sound_under (limits_by (length l)) (page_from l) && is_image (page_from l) l

-- reading: they have another length; they are not the image of such a page
abbrev pub applying_read : List ℕ → List (ℕ × Bool)
applying_read l = (15, not (known_size (length l))) ∷ (16, not (is_sound_image l)) ∷ []

-- writing: the page is not sound; the buffer is too short
abbrev pub applying_write : Page → List ℕ → List (ℕ × Bool)
applying_write p buffer = (1, not (sound_of p)) ∷ (15, ltb (length buffer) whole_size) ∷ []
