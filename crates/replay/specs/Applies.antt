-- When each number applies to a run as a whole, and to one of its lines, in the words of RULES 4.1 and 6: no premise list stands
-- here. That the run gives the lowest of them is `run_number`, and its line `line_number` (proofs/Least.antt).
use Rattle.std.specs.Prelude.{ℕ, ◌*◌, ◌/◌, ◌%◌, Bool, not, List, [], ◌∷◌, ◌++◌, eqb, ltb, length}
use Rattle.kinds.specs.Limits.{line_size, most_requests}
use Rattle.page_record.specs.declared.Page.{Page}
use Rattle.lock.specs.Applies.{applies1, applying_step}
use Rattle.wire.specs.Requests.{fields_of}
use Rattle.wire.specs.Applies.{applying_bytes}

-- the whole run: the record is not sound; the bytes are not whole requests; they are more than 2,048; the space is under sixteen
-- bytes a request
abbrev pub applying_run : Page → List ℕ → List ℕ → List (ℕ × Bool)
applying_run p requests answers =
    (1, applies1 p)
    ∷ (12, not (eqb (length requests % line_size) 0))
    ∷ (13, ltb most_requests (length requests / line_size))
    ∷ (14, ltb (length answers) (line_size * (length requests / line_size)))
    ∷ []

-- sixteen bytes on a page: 2, 3 and 4 by the bytes, the others by their fields
abbrev pub applying_line : Page → List ℕ → List (ℕ × Bool)
applying_line p l = (1, applies1 p) ∷ applying_bytes l ++ applying_step p (fields_of l)
