-- When each number applies to bytes that are read as one request, and to a request that is written into a buffer, in the words of
-- RULES 4.1, 5.3 and 5.4: no premise list stands here. That reading and writing give the first of them that applies is
-- `read_number` and `write_number` (proofs/Least.antt).
use Rattle.std.specs.Prelude.{ℕ, Bool, not, ◌||◌, List, [], ◌∷◌, ◌++◌, eqb, ltb, length}
use Rattle.kinds.specs.Limits.{line_size}
use Rattle.requests.specs.declared.Request.{Request}
use Rattle.requests.specs.Applies.{applies2, applies3, applies4, applying_fields}
use Rattle.wire.specs.Bytes.{zeros_at, value_at, blank, part}
use Rattle.wire.specs.Requests.{fields_of}

-- ---- reading
-- 12: the bytes are not just one request
abbrev pub applies12 : List ℕ → Bool
applies12 l = not (eqb (length l) line_size)

-- 3: of the fields that the bytes have, or where one of bytes 3 to 7 is not zero
abbrev pub applies3_in : List ℕ → Bool
applies3_in l = applies3 (fields_of l) || not (blank (part zeros_at value_at l))

-- 2, 3 and 4 of bytes
abbrev pub applying_bytes : List ℕ → List (ℕ × Bool)
applying_bytes l = (2, applies2 (fields_of l)) ∷ (3, applies3_in l) ∷ (4, applies4 (fields_of l)) ∷ []

-- ---- writing
-- 14: the buffer is under sixteen bytes
abbrev pub applies14 : List ℕ → Bool
applies14 buffer = ltb (length buffer) line_size

-- 2, 3, 4 and 14 of a request and a buffer
abbrev pub applying_write : Request → List ℕ → List (ℕ × Bool)
applying_write q buffer = applying_fields q ++ (14, applies14 buffer) ∷ []
