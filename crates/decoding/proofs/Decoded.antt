-- Laws of what bytes say, in this order: an entry that is missing, and all the entries. Assumes nothing.
use Prim.Native.Nat.{ℕ, zero, suc, ◌+◌, ◌*◌, ◌<◌, ◌≤◌}
use mathlib.Core.List.{List, [], ◌∷◌}
use mathlib.Core.Path.{◌≡◌, refl, ap, ◌∙◌}
use native.Mathlib.Omega.{arith}
use lib.ListN.{length, drop, get_or, drop_of_length-le}
use lib.Seq.{drop-drop}
use Rattle.kinds.specs.declared.Reader.{Reader}
use Rattle.kinds.specs.Limits.{line_size}
use Rattle.kinds.specs.Numbers.{phase_from}
use Rattle.readers.specs.Listed.{blank_reader}
use Rattle.decoding.specs.Decoding.{u64_at, reader_from, readers_from}

-- ---- an entry that is missing
pub missing : (at : ℕ) (l : List ℕ) → length l ≤ at → reader_from (drop at l) ≡ blank_reader
unfolding reader_from u64_at phase_from
missing at l h = ap reader_from (drop_of_length-le l h)

-- ---- entries one after the other
-- each reader is that of the entry at its place, and so all are those of the entries from there on
pub entries_are : (n at : ℕ) (l : List ℕ) (rs : List Reader) → length rs ≡ n
    → ((k : ℕ) (d : Reader) → k < n → get_or rs k d ≡ reader_from (drop (at + line_size * k) l)) → rs ≡ readers_from n (drop at l)
unfolding readers_from
entries_are zero at l [] h e = refl
entries_are zero at l (r ∷ rs) h e = absurd (omega arith)
entries_are (suc n) at l [] h e = absurd (omega arith)
entries_are (suc n) at l (r ∷ rs) h e =
    let from : ℕ → Reader = λ i. reader_from (drop i l) in
    let here : at + line_size * 0 ≡ at = omega arith in
    let next : (k : ℕ) → at + line_size * suc k ≡ at + line_size + line_size * k = λ k. omega arith in
    let first : r ≡ reader_from (drop at l) = e 0 r (omega arith) ∙ ap from here in
    let rest = entries_are n (at + line_size) l rs (omega arith) (λ k d h. e (suc k) d (omega arith) ∙ ap from (next k)) in
    rw (first, rest, drop-drop line_size at l)
