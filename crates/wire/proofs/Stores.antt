-- Laws of a line of sixteen bytes: its length, and that the two parts which `put` stores make it. Assumes nothing.
use Prim.Native.Nat.{ℕ, ◌-◌, ◌≤◌}
use mathlib.Core.Path.{◌≡◌, refl, ◌∙◌}
use mathlib.Core.List.{List, [], ◌∷◌, ◌++◌}
use native.Mathlib.Omega.{arith}
use borrow.Rule.Slice.PartMut.{mid_of, put_mid}
use lib.ListN.{length, drop, length-drop, length-take}
use lib.Seq.{drop-drop}
use Rattle.laws.proofs.Parts.{put_next}
use Rattle.kinds.specs.Limits.{line_size}
use Rattle.wire.specs.Bytes.{value_at, low_bytes, line_with}

pub length_line_with : (a b c v : ℕ) → length (line_with a b c v) ≡ line_size
unfolding line_with
length_line_with a b c v = refl

-- eight bytes, and the eight of a value after them
module _ (a b c v : ℕ) (l xs ys : List ℕ) where
  abbrev first : List ℕ
  first = a ∷ b ∷ c ∷ 0 ∷ 0 ∷ 0 ∷ 0 ∷ 0 ∷ []

  abbrev stored : List ℕ
  stored = put_mid 0 (value_at - 0) l xs

  -- the line, and what stood past it
  pub put_line : line_size ≤ length l → xs ≡ first → ys ≡ low_bytes (length (mid_of value_at (line_size - value_at) stored)) v
      → put_mid value_at (line_size - value_at) stored ys ≡ line_with a b c v ++ drop line_size l
  unfolding line_with
  put_line fits e f =
      let eight : length (mid_of value_at (line_size - value_at) stored) ≡ 8 = rw e (simp (length-take, length-drop) (omega arith)) in
      rw (f, eight, e) (put_next first (drop value_at l) (low_bytes 8 v) value_at 8 refl ∙ simp drop-drop)
