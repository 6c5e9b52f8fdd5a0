-- What the bytes of an image say, for any bytes: each field at its place, nothing judged. Bytes that are missing are zero, and a number
-- that stands for nothing counts as 0.
use Rattle.std.specs.Prelude.{ℕ, zero, suc, ◌+◌, ◌*◌, List, [], ◌∷◌, eqb, take, drop, get_or}
use Rattle.kinds.specs.declared.{Count.Count, Reader.Reader, ExcState.ExcState}
use Rattle.kinds.specs.Limits.{line_size, capacity}
use Rattle.kinds.specs.Numbers.{flag_from, storage_from, bucket_from, phase_from, exc_from, loading_from, writeback_from}
use Rattle.page_record.specs.declared.{Head.Head, Page.Page}
use Rattle.page_record.specs.Pages.{head_with, page_of}
use Rattle.wire.specs.Bytes.{value_at, number}
use Rattle.encoding.specs.Images.{head_size}

-- the number of eight bytes at a place
unfoldable pub u64_at : ℕ → List ℕ → ℕ
u64_at at l = number (take 8 (drop at l))

-- ---- the head
unfoldable pub exc_from_bytes : List ℕ → ExcState
exc_from_bytes l = exc_from (get_or l 4 0) (bucket_from (get_or l 5 0)) (record { 0 = get_or l 6 0 }) (eqb (get_or l 7 0) 1) (u64_at 40 l)

abbrev pub counts_from : List ℕ → List Count
counts_from l =
    record { 0 = get_or l 16 0 } ∷ record { 0 = get_or l 17 0 } ∷ record { 0 = get_or l 18 0 } ∷ record { 0 = get_or l 19 0 } ∷ []

unfoldable pub head_from : List ℕ → Head
head_from l =
    head_with (storage_from (get_or l 1 0) (u64_at 32 l)) (flag_from (get_or l 0 0)) (counts_from l) (exc_from_bytes l)
    (loading_from (get_or l 8 0) (bucket_from (get_or l 9 0))) (writeback_from (get_or l 10 0) (u64_at 48 l))

-- ---- the list
abbrev pub length_from : List ℕ → ℕ
length_from l = get_or l 2 0 + 256 * get_or l 3 0

-- the reader of the entry that the bytes begin with
unfoldable pub reader_from : List ℕ → Reader
reader_from l = record { phase = phase_from (get_or l 0 0) (u64_at value_at l); bucket = record { 0 = get_or l 1 0 } }

-- those of n entries, as they stand
unfoldable pub readers_from : ℕ → List ℕ → List Reader
readers_from zero l = []
readers_from (suc n) l = reader_from l ∷ readers_from n (drop line_size l)

-- ---- all of it; an array has room for as many readers as a record can list
unfoldable pub page_from : List ℕ → Page
page_from l = page_of (head_from l) (record { items = readers_from capacity (drop head_size l); len = length_from l })
