-- The image of a page (RULES 5.5), over the number n of readers that it has room for: the head's bytes, the listed readers' entries,
-- and zeros. Only `whole_size` and `short_size` and what cites them name a number of readers.
use Rattle.std.specs.Prelude.{ℕ, zero, suc, ◌+◌, ◌*◌, ◌-◌, ◌<◌, cond, List, [], ◌∷◌, ◌++◌, leb, length, drop, get_or, replicate}
use Rattle.kinds.specs.declared.Reader.{Reader}
use Rattle.kinds.specs.Limits.{line_size, capacity, short_capacity}
use Rattle.kinds.specs.Numbers.{flag_number, storage_number, exc_number, loading_number, writeback_number, phase_number}
use Rattle.readers.specs.Listed.{live, blank_reader}
use Rattle.page_record.specs.declared.{Head.Head, Page.Page}
use Rattle.page_record.specs.Holders.{value_of, exc_visited, exc_clean, exc_value, writeback_value}
use Rattle.page_record.specs.Pages.{head_of, number_at}
use Rattle.wire.specs.Bytes.{value_limit, low_bytes, line_with}
use Rattle.encoding.specs.Carried.{phase_value, exc_bucket_number, loading_bucket_number}

-- ---- sizes
-- the head's
abbrev pub head_size : ℕ
head_size = 64

-- an image's with room for n readers
abbrev pub image_size : ℕ → ℕ
image_size n = head_size + line_size * n

-- today's
abbrev pub whole_size : ℕ
whole_size = image_size capacity

-- a short image's, and how many zeros make it one of today's
abbrev pub short_size : ℕ
short_size = image_size short_capacity

abbrev pub short_by : ℕ
short_by = whole_size - short_size

-- ---- the head
-- byte 0 flag, 1 whether storage is in, 2 and 3 the list's length, 4 to 7 the exclusive holder with its bucket, visited and clean,
-- 8 and 9 the loader and its bucket, 10 the writeback, 11 to 15 zero
unfoldable pub kind_bytes : Head → ℕ → List ℕ
kind_bytes h len =
    flag_number h.flag
    ∷ storage_number h.storage
    ∷ low_bytes 2 len
    ++ exc_number h.exc_state
    ∷ exc_bucket_number h.exc_state
    ∷ (exc_visited h.exc_state).0
    ∷ cond (exc_clean h.exc_state) 1 0
    ∷ loading_number h.loading_state
    ∷ loading_bucket_number h.loading_state
    ∷ writeback_number h.writeback_state
    ∷ 0 ∷ 0 ∷ 0 ∷ 0 ∷ 0 ∷ []

-- 16 to 19 the counts, 20 to 31 zero
unfoldable pub count_bytes : Head → List ℕ
count_bytes h =
    number_at h.ref_counts 0
    ∷ number_at h.ref_counts 1
    ∷ number_at h.ref_counts 2
    ∷ number_at h.ref_counts 3
    ∷ 0 ∷ 0 ∷ 0 ∷ 0 ∷ 0 ∷ 0 ∷ 0 ∷ 0 ∷ 0 ∷ 0 ∷ 0 ∷ 0 ∷ []

-- 32 to 55 the values of storage, of the exclusive holder and of the writeback, 56 to 63 zero
unfoldable pub value_bytes : Head → List ℕ
value_bytes h =
    low_bytes 8 (value_of h.storage)
    ++ low_bytes 8 (exc_value h.exc_state)
    ++ low_bytes 8 (writeback_value h.writeback_state)
    ++ low_bytes 8 0

-- ---- the list
-- a reader's entry: byte 0 phase, 1 bucket, 2 to 7 zero, 8 to 15 value
abbrev pub entry_of : Reader → List ℕ
entry_of r = line_with (phase_number r.phase) r.bucket.0 0 (phase_value r.phase)

-- the first reader's entry; zeros where there is none
abbrev pub first_entry : List Reader → List ℕ
first_entry [] = line_with 0 0 0 0
first_entry (r ∷ l) = entry_of r

-- n entries: those of the readers, one after the other, and zeros after them (`entries_are`, proofs/Listing.antt)
unfoldable pub entries : ℕ → List Reader → List ℕ
entries zero l = []
entries (suc n) l = first_entry l ++ entries n (drop 1 l)

-- ---- all of it
unfoldable pub image_of : ℕ → Page → List ℕ
image_of n p =
    kind_bytes (head_of p) p.readers.len ++ count_bytes (head_of p) ++ value_bytes (head_of p) ++ entries n (live p.readers)

-- over the first bytes of a buffer; one that is too short stays as it was
unfoldable pub imaged_in : Page → List ℕ → List ℕ
imaged_in p l = cond (leb whole_size (length l)) (image_of capacity p ++ drop whole_size l) l

-- the bytes of a short image, with zeros up to the length of one of today's
abbrev pub lengthened : List ℕ → List ℕ
lengthened l = l ++ replicate short_by 0

-- the values of a page are as wide as the code holds them
pub record InRange (p : Page) : Type 0 where
  pub stored : value_of p.storage < value_limit
  -- storage's, or the one that is kept while storage is out: no rule ties that one to anything
  pub held : exc_value p.exc_state < value_limit
  pub written : writeback_value p.writeback_state < value_limit
  pub read : (i : ℕ) → phase_value (get_or (live p.readers) i blank_reader).phase < value_limit
