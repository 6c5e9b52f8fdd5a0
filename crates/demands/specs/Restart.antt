-- A record across a restart: demands 1 to 3 for images (RULES 5.5 to 5.7, and 9). What is read and written are `restored_from`,
-- `kept_answer` and `kept_in`; the tables of numbers are `applying_read` and `applying_write` (image). Values in the logic are any numbers:
-- `InRange` says that a page's are as wide as the code holds them. What is written, and read back as it was, is an image of today's length;
-- a short one is read as the one which it becomes with zeros, within its own limits.
use Rattle.std.specs.Prelude.{ℕ, ◌≤◌, ◌≡◌, ◌↔◌, ◌⊎◌, ◌≢◌, false, List, [], ◌++◌, T, length, drop, get_or}
use Rattle.laws.specs.Tables.{applies_in, Lowest}
use Rattle.kinds.specs.Limits.{capacity, short_capacity, short}
use Rattle.readers.specs.Listed.{live}
use Rattle.page_record.specs.declared.Page.{Page}
use Rattle.page_record.specs.Pages.{fresh_page}
use Rattle.soundness.specs.Soundness.{fits_under, sound_of}
use Rattle.requests.specs.declared.{Refusal.Refusal, Answer.Answer, Request.Request}
use Rattle.requests.specs.Answers.{answer_number}
use Rattle.wire.specs.Bytes.{Bytes}
use Rattle.encoding.specs.Images.{whole_size, short_size, image_of, lengthened, InRange}
use Rattle.image.specs.Keeping.{ImageUnder, restored, restored_from, kept_answer, kept_in}
use Rattle.image.specs.Applies.{applying_read, applying_write}
use Rattle.demands.specs.History.{Event, Given, start_of, after, history, after_runs, runs_history}
use Rattle.demands.specs.Before.{AsIf}
use Rattle.demands.specs.Demand3.{Demand3}

-- bytes are the image of some sound page
abbrev pub ImageOfSound : List ℕ → Type 0
ImageOfSound l = (p : Page) × T (sound_of p) × InRange p × (image_of capacity p ≡ l)

-- they have not a short image's length
abbrev pub Long : List ℕ → Type 0
Long l = length l ≡ short_size → ⊥

-- they are the short image of some page that is sound under the short limits
abbrev pub ShortImageOfSound : List ℕ → Type 0
ShortImageOfSound l = ImageUnder short l

-- ---- any bytes that are read as an image
pub record Demand1Image (l : List ℕ) : Type 0 where
  -- n is given just if it is the lowest of 15 and 16 that applies, and they are accepted just if none applies;
  pub given : (n : ℕ) → 1 ≤ n → (answer_number (restored_from l).answer ≡ n) ↔ Lowest (applying_read l) n
  pub accepted : ((restored_from l).answer ≡ Answer.Accepted) ↔ ((n : ℕ) → applies_in (applying_read l) n ≡ false)
  -- 15 just if there are neither 4,160 bytes nor 1,088
  pub fifteen : ((restored_from l).answer ≡ Answer.Refused Refusal.WrongSize) ↔ ((length l ≢ 4160) × (length l ≢ 1088))
  -- to bytes of a short image's length 16 does not apply just if they are the short image of some page that is sound under the short
  -- limits, and to any other just if they are the image of some sound page
  pub sixteen : Long l → Bytes l → (applies_in (applying_read l) 16 ≡ false) ↔ ImageOfSound l
  pub sixteen_short : length l ≡ short_size → Bytes l → (applies_in (applying_read l) 16 ≡ false) ↔ ShortImageOfSound l
  -- either length of bytes with 4 at byte 4, where the exclusive holder's number stands: they don't say what was taken
  pub four : (length l ≡ 4160) ⊎ (length l ≡ 1088) → get_or l 4 0 ≡ 4 → (restored_from l).answer ≡ Answer.Refused Refusal.NotAnImage
  -- a refusal gives a fresh page of 0, and whatever the bytes are the page that is given is sound
  pub fresh : (why : Refusal) → (restored_from l).answer ≡ Answer.Refused why → (restored_from l).page ≡ fresh_page 0
  pub sound : T (sound_of (restored_from l).page)

-- ---- any page that is written into any buffer as an image
pub record Demand1Keep (p : Page) (buffer : List ℕ) : Type 0 where
  -- n is given just if it is the lowest of 1 and 15 that applies, and it is accepted just if none applies
  pub given : (n : ℕ) → 1 ≤ n → (answer_number (kept_answer p buffer) ≡ n) ↔ Lowest (applying_write p buffer) n
  pub accepted : (kept_answer p buffer ≡ Answer.Accepted) ↔ ((n : ℕ) → applies_in (applying_write p buffer) n ≡ false)
  -- a refusal touches no byte; what is accepted is the image over the first bytes, and no byte past it is touched
  pub untouched : (why : Refusal) → kept_answer p buffer ≡ Answer.Refused why → kept_in p buffer ≡ buffer
  pub first : kept_answer p buffer ≡ Answer.Accepted → kept_in p buffer ≡ image_of capacity p ++ drop whole_size buffer
  pub past : drop whole_size (kept_in p buffer) ≡ drop whole_size buffer
  pub long : length (image_of capacity p) ≡ 4160

-- ---- reading and writing undo each other
pub record Demand2Image : Type 0 where
  -- written and read again
  pub write_read : (p : Page) → T (sound_of p) → InRange p → restored_from (image_of capacity p) ≡ restored p
  -- read and written again
  pub read_write : (l : List ℕ) (p : Page) → Long l → restored_from l ≡ restored p → image_of capacity p ≡ l
  -- what reading accepts, but for short images, is exactly what writing produces
  pub accepts_images : (l : List ℕ) → Long l → Bytes l → ((p : Page) × (restored_from l ≡ restored p)) ↔ ImageOfSound l
  -- no two sound pages share an image
  pub apart : (p q : Page) → T (sound_of p) → InRange p → T (sound_of q) → InRange q → image_of capacity p ≡ image_of capacity q → p ≡ q
  -- both at once, for the functions themselves: bytes are read as a page just if writing that page, whose values the code can hold,
  -- into any buffer of an image's length is accepted and leaves those bytes
  pub agree : (l buffer : List ℕ) (p : Page) → Long l → Bytes l → length buffer ≡ whole_size
      → (restored_from l ≡ restored p) ↔ (InRange p × (kept_answer p buffer ≡ Answer.Accepted) × (kept_in p buffer ≡ l))

-- ---- short images beside them
pub record Demand2Short : Type 0 where
  -- the image of a page with few readers is its short image and zeros
  pub lengthens : (p : Page) → length (live p.readers) ≤ short_capacity → image_of capacity p ≡ lengthened (image_of short_capacity p)
  -- a short image is read as a page just if it is read as that page with the zeros, and the page lists no more readers and has no
  -- higher count than a short one may
  pub short_read : (l : List ℕ) (p : Page) → length l ≡ short_size → Bytes l
      → (restored_from l ≡ restored p) ↔ ((restored_from (lengthened l) ≡ restored p) × T (fits_under short p))
  -- so what is read short is written as it is, and zeros
  pub short_write : (l : List ℕ) (p : Page) → length l ≡ short_size → restored_from l ≡ restored p → image_of capacity p ≡ lengthened l
  -- for the functions themselves: written again into any buffer that has room, it is those bytes and zeros
  pub again : (l buffer : List ℕ) (p : Page) → length l ≡ short_size → restored_from l ≡ restored p → whole_size ≤ length buffer
      → (kept_answer p buffer ≡ Answer.Accepted) × (kept_in p buffer ≡ lengthened l ++ drop whole_size buffer)
  -- what reading accepts of this length is exactly the short images of pages that are sound under the short limits
  pub accepts_short : (l : List ℕ) → length l ≡ short_size → Bytes l → ((p : Page) × (restored_from l ≡ restored p)) ↔ ShortImageOfSound l

-- ---- demand 3 from the page that was read, whatever the bytes were, after any requests and after any runs
pub record Demand3Image (l : List ℕ) : Type 0 where
  pub requests : (qs : List Request)
      → Demand3 (start_of (restored_from l).page) (after (restored_from l).page qs) (history (restored_from l).page qs [])
  pub runs : (gs : List Given)
      → Demand3 (start_of (restored_from l).page) (after_runs (restored_from l).page gs) (runs_history (restored_from l).page gs [])
  -- where its words are as if a 13 had named the loader's bucket just before and a 4 the exclusive holder's, each no arrival, and a page
  -- that was read as out had been withdrawn: for an editor by an 8, which handed out what it keeps
  pub as_if : (past : List Event) → AsIf (restored_from l).page past
