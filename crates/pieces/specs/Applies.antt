-- When each number applies to a piece and to a carry at the end, in the words of RULES 6.1: no premise list stands here. That the
-- lowest of them is given is `piece_number` and `finish_number` (proofs/Least.antt).
use Rattle.std.specs.Prelude.{ℕ, ◌+◌, ◌*◌, ◌/◌, Bool, not, ◌||◌, List, [], ◌∷◌, eqb, ltb, length, drop}
use Rattle.kinds.specs.Limits.{line_size}
use Rattle.page_record.specs.declared.Page.{Page}
use Rattle.lock.specs.Applies.{applies1}
use Rattle.wire.specs.Bytes.{blank}
use Rattle.pieces.specs.declared.Carry.{Carry}
use Rattle.pieces.specs.Carries.{carry_size}
use Rattle.pieces.specs.Pieces.{piece_size}

-- the carry's length is above fifteen, or a byte past its length is not zero (or there are not fifteen bytes, which the code can't have)
abbrev pub invalid : Carry → Bool
invalid c = ltb carry_size c.len || not (blank (drop c.len c.bytes)) || not (eqb (length c.bytes) carry_size)

-- a piece: the record is not sound; the carry is not valid; the piece has more than 4,096 bytes; the space is under sixteen bytes for each
-- whole request at hand
abbrev pub applying_piece : Page → Carry → List ℕ → List ℕ → List (ℕ × Bool)
applying_piece p c piece answers =
    (1, applies1 p)
    ∷ (12, invalid c)
    ∷ (13, ltb piece_size (length piece))
    ∷ (14, ltb (length answers) (line_size * ((c.len + length piece) / line_size)))
    ∷ []

-- the end: the carry's length or one of its bytes is not zero (or there are not fifteen)
abbrev pub applying_end : Carry → List (ℕ × Bool)
applying_end c = (12, not (eqb c.len 0) || not (blank c.bytes) || not (eqb (length c.bytes) carry_size)) ∷ []
