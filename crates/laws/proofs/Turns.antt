-- One turn of a loop over a list, here and in the crates above, as laws over any element type and any list: a look at one entry after
-- the other (`next`, `turn`, with the ends `past` and `past_all`), and a store (`store_next`). Assumes nothing.
use Prim.Native.Nat.{ℕ, ◌+◌, ◌<◌, ◌≤◌, min}
use mathlib.Core.Path.{◌≡◌, sym}
use mathlib.Core.List.{List, [], ◌∷◌, ◌++◌}
use native.Mathlib.Omega.{arith}
use native.Mathlib.Numerals.{add-one}
use lib.ListN.{length, take, drop, get_or, set, drop_of_length-le, length-take}
use lib.Seq.{drop-cons, get_or-take, take-suc-set, append_snoc}

module _ {A : Type 0} where
  -- ---- one entry after the other: the entry at i, and then what is left after it
  module _ (d : A) (items : List A) (i : ℕ) where
    pub next : i < length items → drop i items ≡ get_or items i d ∷ drop (i + 1) items
    next h = rw (add-one, drop-cons items i d)

    -- the same of an array's first `len`
    pub turn : (len : ℕ) → i < len → i < length items → drop i (take len items) ≡ get_or items i d ∷ drop (i + 1) (take len items)
    turn len h k =
        let w : i < length (take len items) = simp length-take (omega arith) in
        rw (add-one, drop-cons (take len items) i d, get_or-take)

  -- what is stored at i is the first of those still to come
  pub store_next : (items : List A) (i : ℕ) (x : A) (rest : List A) → i < length items
      → take i items ++ x ∷ rest ≡ take (i + 1) (set items i x) ++ rest
  store_next items i x rest h = rw (add-one i, take-suc-set items i x) (sym (append_snoc (take i items) x rest))

  -- nothing is left past the length, nor past the array's end
  module _ (items : List A) (len i : ℕ) where
    spent : min len (length items) ≤ i → drop i (take len items) ≡ []
    spent h = drop_of_length-le (take len items) {i = i} (simp length-take h)

    pub past : len ≤ i → drop i (take len items) ≡ []
    past h = spent (omega arith)

    pub past_all : length items ≤ i → drop i (take len items) ≡ []
    past_all h = spent (omega arith)
