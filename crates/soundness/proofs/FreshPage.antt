-- A fresh page is sound: every rule computes to true. Assumes nothing.
use Prim.Native.Nat.{ℕ}
use lib.Dec.{T}
use Rattle.readers.specs.Listed.{no_readers}
use Rattle.page_record.specs.Pages.{fresh_page}
use Rattle.soundness.specs.Soundness.{lowest_broken, sound_of}

pub fresh_sound : (value : ℕ) → T (sound_of (fresh_page value))
unfolding sound_of lowest_broken fresh_page no_readers
fresh_sound value = tt
