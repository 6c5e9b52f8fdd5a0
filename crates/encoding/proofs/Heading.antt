-- Laws of the parts of an image that are put one after the other, over any widths: four numbers, which the values of the head are an
-- instance of, and the four parts of the image. Assumes nothing.
use Prim.Native.Nat.{ℕ, zero, suc, ◌-◌, ◌*◌, ◌/◌, ◌≤◌}
use mathlib.Core.List.{List, ◌++◌}
use mathlib.Core.Path.{◌≡◌, refl, sym, ap, ◌∙◌}
use native.Mathlib.Nat.{le_of_eq}
use native.Mathlib.Omega.{arith}
use borrow.Rule.Slice.PartMut.{mid_of, put_mid, mid_len}
use lib.ListN.{length}
use Rattle.laws.proofs.Parts.{part_length, four_parts}
use Rattle.kinds.specs.Limits.{line_size}
use Rattle.page_record.specs.declared.Head.{Head}
use Rattle.page_record.specs.Holders.{value_of, exc_value, writeback_value}
use Rattle.wire.specs.Bytes.{low_bytes}
use Rattle.encoding.specs.Images.{kind_bytes, count_bytes, value_bytes}

within : {m n d : ℕ} → m ≤ d → n ≡ d → m ≤ n
within h e = omega arith

-- ---- parts of a slice that ends at d, one after the other
module _ (old y1 y2 y3 : List ℕ) (a b c d : ℕ) (ad : a ≤ d) (bd : b ≤ d) (cd : c ≤ d) (whole : length old ≡ d) where
  abbrev s1 : List ℕ
  s1 = put_mid 0 (a - 0) old y1

  abbrev s2 : List ℕ
  s2 = put_mid a (b - a) s1 y2

  abbrev s3 : List ℕ
  s3 = put_mid b (c - b) s2 y3

  long1 : length y1 ≡ a - 0 → length s1 ≡ d
  long1 w1 = part_length 0 a old y1 (within ad whole) w1 ∙ whole

  long2 : length y1 ≡ a - 0 → length y2 ≡ b - a → length s2 ≡ d
  long2 w1 w2 = part_length a b s1 y2 (within bd (long1 w1)) w2 ∙ long1 w1

  long3 : length y1 ≡ a - 0 → length y2 ≡ b - a → length y3 ≡ c - b → length s3 ≡ d
  long3 w1 w2 w3 = part_length b c s2 y3 (within cd (long2 w1 w2)) w3 ∙ long2 w1 w2

  -- each place is as wide as its part
  pub room1 : length (mid_of 0 (a - 0) old) ≡ a - 0
  room1 = mid_len 0 a old (within ad whole)

  pub room2 : length y1 ≡ a - 0 → length (mid_of a (b - a) s1) ≡ b - a
  room2 w1 = mid_len a b s1 (within bd (long1 w1))

  pub room3 : length y1 ≡ a - 0 → length y2 ≡ b - a → length (mid_of b (c - b) s2) ≡ c - b
  room3 w1 w2 = mid_len b c s2 (within cd (long2 w1 w2))

  pub room4 : length y1 ≡ a - 0 → length y2 ≡ b - a → length y3 ≡ c - b → length (mid_of c (d - c) s3) ≡ d - c
  room4 w1 w2 w3 = mid_len c d s3 (le_of_eq (sym (long3 w1 w2 w3)))

-- ---- four numbers
length_low : (n v : ℕ) → length (low_bytes n v) ≡ n
length_low zero v = refl
length_low (suc n) v = ap suc (length_low n (v / 256))

-- a number over a part is as wide as the part
low_part : {m n : ℕ} (v : ℕ) (ys : List ℕ) → m ≡ n → ys ≡ low_bytes m v → ys ≡ low_bytes n v
low_part v ys h e = e ∙ ap (λ (k : ℕ). low_bytes k v) h

module _ (old y1 y2 y3 y4 : List ℕ) (v1 v2 v3 v4 a b c d : ℕ)
    (ab : a ≤ b) (bc : b ≤ c) (cd : c ≤ d) (ad : a ≤ d) (bd : b ≤ d) (whole : length old ≡ d) where
  pub four_numbers : y1 ≡ low_bytes (length (mid_of 0 (a - 0) old)) v1
      → y2 ≡ low_bytes (length (mid_of a (b - a) (put_mid 0 (a - 0) old y1))) v2
      → y3 ≡ low_bytes (length (mid_of b (c - b) (put_mid a (b - a) (put_mid 0 (a - 0) old y1) y2))) v3
      → y4 ≡ low_bytes (length (mid_of c (d - c) (put_mid b (c - b) (put_mid a (b - a) (put_mid 0 (a - 0) old y1) y2) y3))) v4
      → put_mid c (d - c) (put_mid b (c - b) (put_mid a (b - a) (put_mid 0 (a - 0) old y1) y2) y3) y4
      ≡ low_bytes (a - 0) v1 ++ low_bytes (b - a) v2 ++ low_bytes (c - b) v3 ++ low_bytes (d - c) v4
  four_numbers e1 e2 e3 e4 =
      let n1 = low_part v1 y1 (room1 old y1 y2 y3 a b c d ad bd cd whole) e1 in
      let w1 = ap length n1 ∙ length_low (a - 0) v1 in
      let n2 = low_part v2 y2 (room2 old y1 y2 y3 a b c d ad bd cd whole w1) e2 in
      let w2 = ap length n2 ∙ length_low (b - a) v2 in
      let n3 = low_part v3 y3 (room3 old y1 y2 y3 a b c d ad bd cd whole w1 w2) e3 in
      let w3 = ap length n3 ∙ length_low (c - b) v3 in
      let n4 = low_part v4 y4 (room4 old y1 y2 y3 a b c d ad bd cd whole w1 w2 w3) e4 in
      let w4 = ap length n4 ∙ length_low (d - c) v4 in
      four_parts old y1 y2 y3 y4 a b c d w1 w2 w3 w4 ab bc cd whole
      ∙ ap (λ (z : List ℕ). z ++ y2 ++ y3 ++ y4) n1
      ∙ ap (λ (z : List ℕ). low_bytes (a - 0) v1 ++ z ++ y3 ++ y4) n2
      ∙ ap (λ (z : List ℕ). low_bytes (a - 0) v1 ++ low_bytes (b - a) v2 ++ z ++ y4) n3
      ∙ ap (λ (z : List ℕ). low_bytes (a - 0) v1 ++ low_bytes (b - a) v2 ++ low_bytes (c - b) v3 ++ z) n4

-- the values of a head, and zeros
pub values_are : (h : Head) (v1 v2 v3 : ℕ) (l : List ℕ) → v1 ≡ value_of h.storage → v2 ≡ exc_value h.exc_state
    → v3 ≡ writeback_value h.writeback_state → l ≡ low_bytes 8 v1 ++ low_bytes 8 v2 ++ low_bytes 8 v3 ++ low_bytes 8 0 → l ≡ value_bytes h
unfolding value_bytes
values_are h v1 v2 v3 l e1 e2 e3 e = e ∙ rw (e1, e2, e3)

-- ---- the parts of an image
pub length_kinds : (h : Head) (len : ℕ) → length (kind_bytes h len) ≡ line_size
unfolding kind_bytes
length_kinds h len = refl

pub length_counts : (h : Head) → length (count_bytes h) ≡ line_size
unfolding count_bytes
length_counts h = refl

pub length_values : (h : Head) → length (value_bytes h) ≡ 2 * line_size
unfolding value_bytes
length_values h = refl
