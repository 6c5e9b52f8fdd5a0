-- Laws of the parts that are lent of a slice, over any element type and any widths. In order: what stands from a place on; what is
-- copied over the first of a slice; a part that is put after those before it; one that is put from a place up to another; and four that
-- are put one after the other over a whole slice. Assumes nothing.
use Prim.Native.Nat.{ℕ, ◌+◌, ◌-◌, ◌≤◌}
use mathlib.Core.List.{List, [], ◌++◌, append_assoc, append-nil}
use mathlib.Core.Path.{◌≡◌, refl, sym, ap, ◌∙◌}
use native.Mathlib.Nat.{le_of_eq}
use native.Mathlib.Omega.{arith}
use borrow.Rule.Slice.PartMut.{put_mid, mid_len, same_len_mid, drop_put}
use lib.ListN.{length, take, drop, length-append, length-drop, drop_of_length-le}
use lib.Seq.{take_all, take-length, take_at, drop_at, drop-drop, length-take-le}

module _ {A : Type 0} where
  -- ---- all from a place on
  pub rest_is : (at : ℕ) (l : List A) → take (length l - at) (drop at l) ≡ drop at l
  rest_is at l = take_all (length l - at) (drop at l) (simp length-drop (omega arith))

  -- ---- what is copied over the first of a slice
  module _ (from old ys : List A) (made : ys ≡ take (length from) from ++ drop (length from) old) where
    pub copied : ys ≡ from ++ drop (length from) old
    copied = made ∙ ap (λ (z : List A). z ++ drop (length from) old) (take-length from)

    -- over all of it
    pub copied_all : length from ≡ length old → ys ≡ from
    copied_all h =
        copied ∙ ap (λ (z : List A). from ++ z) (drop_of_length-le old (le_of_eq (sym h))) ∙ append-nil from

  -- ---- a part put after those before it
  pub put_next : (done rest ys : List A) (at w : ℕ) → length done ≡ at → put_mid at w (done ++ rest) ys ≡ (done ++ ys) ++ drop w rest
  put_next done rest ys at w h =
      ap (λ (z : List A). z ++ (ys ++ drop w (drop at (done ++ rest)))) (take_at done rest at h)
      ∙ ap (λ (z : List A). done ++ (ys ++ drop w z)) (drop_at done rest at h)
      ∙ sym (append_assoc done ys (drop w rest))

  -- ---- a part put from a place up to another
  module _ (at to : ℕ) (old ys : List A) (room : to ≤ length old) (wide : length ys ≡ to - at) where
    -- the slice is as long as it was
    pub part_length : length (put_mid at (to - at) old ys) ≡ length old
    part_length = same_len_mid at (to - at) old ys (wide ∙ sym (mid_len at to old room))

    module _ (up : at ≤ to) where
      -- the part stands before the place where it ends: it is the first of what was to come
      pub part_turn : (rest : List A) → take at old ++ (ys ++ rest) ≡ take to (put_mid at (to - at) old ys) ++ rest
      part_turn rest =
          let e : length (take at old) ≡ at = length-take-le at old (omega arith) in
          let f : length (take at old ++ ys) ≡ to = simp length-append (omega arith) in
          let after = drop (to - at) (drop at old) in
          let before : take to (put_mid at (to - at) old ys) ≡ take at old ++ ys =
          ap (take to) (sym (append_assoc (take at old) ys after)) ∙ take_at (take at old ++ ys) after to f in
          sym (append_assoc (take at old) ys rest) ∙ ap (λ (z : List A). z ++ rest) (sym before)

      -- what lies past that stays
      pub part_past : (n : ℕ) → to ≤ n → drop n (put_mid at (to - at) old ys) ≡ drop n old
      part_past n h =
          let new = put_mid at (to - at) old ys in
          let e : n ≡ to + (n - to) = omega arith in
          ap (λ (k : ℕ). drop k new) e
          ∙ sym (drop-drop (n - to) to new)
          ∙ ap (drop (n - to)) (drop_put at to old ys up room wide)
          ∙ drop-drop (n - to) to old
          ∙ ap (λ (k : ℕ). drop k old) (sym e)

  -- ---- four parts that end at a, b, c and d, where the slice ends
  -- what is left of a slice that ends at d, from x on and then from y on
  left_after : (l : List A) (x y d : ℕ) → x ≤ y → length l ≡ d - x → length (drop (y - x) l) ≡ d - y
  left_after l x y d h k = length-drop (y - x) l ∙ (let e : length l - (y - x) ≡ d - y = omega arith in e)

  module _ (old y1 y2 y3 y4 : List A) (a b c d : ℕ)
      (h1 : length y1 ≡ a - 0) (h2 : length y2 ≡ b - a) (h3 : length y3 ≡ c - b) (h4 : length y4 ≡ d - c)
      (ab : a ≤ b) (bc : b ≤ c) (cd : c ≤ d) (whole : length old ≡ d) where
    abbrev r1 : List A
    r1 = drop (a - 0) old

    abbrev r2 : List A
    r2 = drop (b - a) r1

    abbrev r3 : List A
    r3 = drop (c - b) r2

    abbrev r4 : List A
    r4 = drop (d - c) r3

    nothing_left : r4 ≡ []
    nothing_left =
        let l1 = left_after old 0 a d (omega arith) (omega arith) in
        let l2 = left_after r1 a b d ab l1 in
        let l3 = left_after r2 b c d bc l2 in
        drop_of_length-le r3 (le_of_eq l3)

    p1 : put_mid 0 (a - 0) old y1 ≡ y1 ++ r1
    p1 = put_next [] old y1 0 (a - 0) refl

    p2 : put_mid a (b - a) (put_mid 0 (a - 0) old y1) y2 ≡ (y1 ++ y2) ++ r2
    p2 = ap (λ (z : List A). put_mid a (b - a) z y2) p1 ∙ put_next y1 r1 y2 a (b - a) (omega arith)

    p3 : put_mid b (c - b) (put_mid a (b - a) (put_mid 0 (a - 0) old y1) y2) y3 ≡ ((y1 ++ y2) ++ y3) ++ r3
    p3 =
        let e : length (y1 ++ y2) ≡ b = simp length-append (omega arith) in
        ap (λ (z : List A). put_mid b (c - b) z y3) p2 ∙ put_next (y1 ++ y2) r2 y3 b (c - b) e

    pub four_parts : put_mid c (d - c) (put_mid b (c - b) (put_mid a (b - a) (put_mid 0 (a - 0) old y1) y2) y3) y4
        ≡ y1 ++ y2 ++ y3 ++ y4
    four_parts =
        let e : length ((y1 ++ y2) ++ y3) ≡ c = simp length-append (omega arith) in
        ap (λ (z : List A). put_mid c (d - c) z y4) p3
        ∙ put_next ((y1 ++ y2) ++ y3) r3 y4 c (d - c) e
        ∙ ap (λ (z : List A). (((y1 ++ y2) ++ y3) ++ y4) ++ z) nothing_left
        ∙ append-nil (((y1 ++ y2) ++ y3) ++ y4)
