-- Laws of the entries of a list, in this order: their lengths; that they are the readers' and zeros; room for more of them; the entry at
-- a place; and one turn of the loop that writes them. Assumes nothing.
use Prim.Native.Nat.{ℕ, zero, suc, ◌+◌, ◌*◌, ◌-◌, ◌<◌, ◌≤◌}
use mathlib.Core.List.{List, [], ◌∷◌, ◌++◌, append_assoc}
use mathlib.Core.Path.{◌≡◌, refl, sym, ap, ◌∙◌}
use native.Mathlib.Omega.{arith}
use borrow.Rule.Slice.PartMut.{mid_of, put_mid}
use lib.ListN.{length, take, drop, get_or, replicate, length-append, replicate-append-replicate}
use lib.Seq.{drop-drop}
use Rattle.laws.proofs.Turns.{past, turn}
use Rattle.laws.proofs.Parts.{part_length, part_turn}
use Rattle.kinds.specs.declared.Reader.{Reader}
use Rattle.kinds.specs.Limits.{line_size, capacity}
use Rattle.readers.specs.Listed.{blank_reader}
use Rattle.wire.specs.Buffers.{put_to}
use Rattle.wire.specs.Bytes.{line_with}
use Rattle.wire.proofs.Buffers.{put_part}
use Rattle.wire.proofs.Stores.{length_line_with}
use Rattle.encoding.specs.Images.{entry_of, first_entry, entries}

-- ---- lengths
pub length_first : (l : List Reader) → length (first_entry l) ≡ line_size
length_first [] = length_line_with 0 0 0 0
length_first (r ∷ l) = length_line_with _ _ _ _

pub length_entries : (n : ℕ) (l : List Reader) → length (entries n l) ≡ line_size * n
unfolding entries
length_entries zero l = refl
length_entries (suc n) l =
    length-append (first_entry l) (entries n (drop 1 l))
    ∙ (let e = length_first l in let f = length_entries n (drop 1 l) in omega arith)

-- ---- the readers' entries, and zeros
abbrev entries_of : List Reader → List ℕ
entries_of [] = []
entries_of (r ∷ l) = entry_of r ++ entries_of l

-- sixteen zeros, and more of them
zero_line : (n : ℕ) → line_with 0 0 0 0 ++ replicate (line_size * n) 0 ≡ replicate (line_size * suc n) 0
unfolding line_with
zero_line n =
    let e : line_size + line_size * n ≡ line_size * suc n = omega arith in
    replicate-append-replicate line_size (line_size * n) 0 ∙ ap (λ (k : ℕ). replicate k 0) e

pub entries_are : (n : ℕ) (l : List Reader) → length l ≤ n → entries n l ≡ entries_of l ++ replicate (line_size * (n - length l)) 0
unfolding entries
entries_are zero [] h = refl
entries_are zero (r ∷ l) h = absurd (omega arith)
entries_are (suc n) [] h =
    let more : line_size * (n - 0) ≡ line_size * n = omega arith in
    let all : line_size * suc n ≡ line_size * (suc n - 0) = omega arith in
    ap (λ (z : List ℕ). line_with 0 0 0 0 ++ z) (entries_are n [] (omega arith) ∙ ap (λ (k : ℕ). replicate k 0) more)
    ∙ zero_line n
    ∙ ap (λ (k : ℕ). replicate k 0) all
entries_are (suc n) (r ∷ l) h =
    let same : n - length l ≡ suc n - suc (length l) = omega arith in
    ap (λ (z : List ℕ). entry_of r ++ z) (entries_are n l (omega arith) ∙ ap (λ (k : ℕ). entries_of l ++ replicate (line_size * k) 0) same)
    ∙ sym (append_assoc (entry_of r) (entries_of l) (replicate (line_size * (suc n - suc (length l))) 0))

-- ---- room for more
-- the entries of some room, and those of as much more
pub entries_split : (n k : ℕ) (l : List Reader) → entries (n + k) l ≡ entries n l ++ entries k (drop n l)
unfolding entries
entries_split zero k l = let same : 0 + k ≡ k = omega arith in ap (λ (m : ℕ). entries m l) same
entries_split (suc n) k l =
    let more : suc n + k ≡ suc (n + k) = omega arith in
    let next : 1 + n ≡ suc n = omega arith in
    ap (λ (m : ℕ). entries m l) more
    ∙ ap (λ (z : List ℕ). first_entry l ++ z) (entries_split n k (drop 1 l))
    ∙ ap (λ (s : List Reader). first_entry l ++ (entries n (drop 1 l) ++ entries k s))
    (drop-drop n 1 l ∙ ap (λ (m : ℕ). drop m l) next)
    ∙ sym (append_assoc (first_entry l) (entries n (drop 1 l)) (entries k (drop (suc n) l)))

-- those of nobody
pub entries_none : (n : ℕ) → entries n [] ≡ replicate (line_size * n) 0
entries_none n =
    let all : n - 0 ≡ n = omega arith in
    entries_are n [] (omega arith) ∙ ap (λ (k : ℕ). replicate (line_size * k) 0) all

-- ---- the entry at a place
module _ (items : List Reader) (len i : ℕ) where
  pub entry_past : len ≤ i → first_entry (drop i (take len items)) ≡ first_entry []
  entry_past h = ap first_entry (past items len i h)

  pub entry_at : i < len → i < length items → first_entry (drop i (take len items)) ≡ entry_of (get_or items i blank_reader)
  entry_at h k = ap first_entry (turn blank_reader items i len h k)

-- ---- a turn
next_line : (n : ℕ) (l : List Reader) → entries (suc n) l ≡ first_entry l ++ entries n (drop 1 l)
unfolding entries
next_line n l = refl

pub no_lines : (l : List Reader) → entries 0 l ≡ []
unfolding entries
no_lines l = refl

-- the line that is put at its place is the first of those still to come
module _ (l : List Reader) (out ys : List ℕ) (n i at : ℕ) (more : i < n) (here : at ≡ line_size * i) (room : length out ≡ line_size * n)
    (put : ys ≡ put_to (first_entry (drop i l)) (mid_of at (at + line_size - at) out)) where
  abbrev next : ℕ
  next = at + line_size

  abbrev new : List ℕ
  new = put_mid at (next - at) out ys

  inside : next ≤ length out
  inside = omega arith

  line_is : ys ≡ first_entry (drop i l)
  line_is = put ∙ put_part (first_entry (drop i l)) out at inside

  wide : length ys ≡ next - at
  wide = let e = ap length line_is ∙ length_first (drop i l) in omega arith

  pub put_length : length new ≡ line_size * n
  put_length = part_length at next out ys inside wide ∙ room

  pub line_turn : take (line_size * i) out ++ entries (n - i) (drop i l)
      ≡ take (line_size * (i + 1)) new ++ entries (n - (i + 1)) (drop (i + 1) l)
  line_turn =
      let rest = entries (n - (i + 1)) (drop (i + 1) l) in
      let one : n - i ≡ suc (n - (i + 1)) = omega arith in
      let lines : entries (n - i) (drop i l) ≡ ys ++ rest =
      ap (λ (m : ℕ). entries m (drop i l)) one
      ∙ next_line (n - (i + 1)) (drop i l)
      ∙ ap (λ (s : List Reader). first_entry (drop i l) ++ entries (n - (i + 1)) s) (drop-drop 1 i l)
      ∙ ap (λ (z : List ℕ). z ++ rest) (sym line_is) in
      let end : next ≡ line_size * (i + 1) = omega arith in
      ap (λ (m : ℕ). take m out ++ entries (n - i) (drop i l)) (sym here)
      ∙ ap (λ (z : List ℕ). take at out ++ z) lines
      ∙ part_turn at next out ys inside wide (omega arith) rest
      ∙ ap (λ (m : ℕ). take m new ++ rest) end

-- ---- a list that is put entry by entry: all the entries are those that stand before the place of i, and those still to come
pub record Filling (l : List Reader) (out : List ℕ) (i : ℕ) : Type 0 where
  pub most : i ≤ capacity
  pub room : length out ≡ line_size * capacity
  pub whole : entries capacity l ≡ take (line_size * i) out ++ entries (capacity - i) (drop i l)
