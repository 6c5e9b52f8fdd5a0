-- Bytes that come in two parts: their requests are those of the first part, and then those of what it leaves with the second
-- (`requests_join`); and what is left at the end is the same (`rest_join`). So it does not matter where they are cut (any
-- width is `cut_join`, in laws). And two parts that are copied into a buffer, one after the other. Assumes nothing.
use Prim.Native.Nat.{ℕ, ◌+◌, ◌-◌, ◌*◌, ◌/◌, ◌%◌, ◌<◌, ◌≤◌}
use mathlib.Core.Path.{◌≡◌, sym, ap, ◌∙◌}
use mathlib.Core.List.{List, [], ◌++◌, append_assoc, append-nil}
use native.Mathlib.Omega.{arith}
use borrow.Rule.Slice.PartMut.{mid_of, put_mid}
use lib.ListN.{length, take, drop, length-append, length-drop, take-append-drop, drop_of_length-le}
use lib.Seq.{drop_at, drop-drop, length-take-le}
use Rattle.laws.specs.Lists.{cut}
use Rattle.laws.proofs.Cuts.{cut_front, cut_join, drop_join}
use Rattle.laws.proofs.Parts.{rest_is, copied, put_next}
use Rattle.kinds.specs.Limits.{line_size}
use Rattle.replay.specs.Run.{requests_of}
use Rattle.pieces.specs.Pieces.{whole_in, whole_of, rest_of}

-- fewer than sixteen bytes make no request
module _ (l : List ℕ) (few : length l < line_size) where
  pub requests_none : requests_of l ≡ []
  requests_none = let e : length l / line_size ≡ 0 = omega arith in ap (λ (n : ℕ). cut line_size n l) e

  pub rest_all : rest_of l ≡ l
  rest_all = let e : whole_in (length l) ≡ 0 = omega arith in ap (λ (n : ℕ). drop n l) e

module _ (l : List ℕ) where
  pub length_rest : length (rest_of l) ≡ length l % line_size
  length_rest = simp length-drop (omega arith)

  pub length_whole : length (whole_of l) ≡ whole_in (length l)
  length_whole = length-take-le (whole_in (length l)) l (omega arith)

  -- what is left makes no request
  pub requests_whole : requests_of (whole_of l) ≡ requests_of l
  requests_whole =
      let n = length l / line_size in
      let few : length (whole_of l) / line_size ≡ n = rw length_whole (omega arith) in
      let fits : line_size * n ≤ length (whole_of l) = rw length_whole (omega arith) in
      ap (λ (x : ℕ). cut line_size x (whole_of l)) few
      ∙ sym (cut_front line_size n (whole_of l) (rest_of l) fits)
      ∙ ap (cut line_size n) (take-append-drop (whole_in (length l)) l)

-- bytes in two parts
module _ (l m : List ℕ) where
  -- how many requests they have
  together : length (l ++ m) / line_size ≡ length l / line_size + length (rest_of l ++ m) / line_size
  together =
      let a = length-append l m in
      let b = length-append (rest_of l) m in
      let c = length_rest l in
      omega arith

  fits : line_size * (length l / line_size) ≤ length l
  fits = omega arith

  pub requests_join : requests_of (l ++ m) ≡ requests_of l ++ requests_of (rest_of l ++ m)
  requests_join =
      ap (λ (x : ℕ). cut line_size x (l ++ m)) together
      ∙ cut_join line_size (length l / line_size) (length (rest_of l ++ m) / line_size) l m fits

  pub rest_join : rest_of (l ++ m) ≡ rest_of (rest_of l ++ m)
  rest_join =
      let e : whole_in (length (l ++ m)) ≡ whole_in (length l) + whole_in (length (rest_of l ++ m)) = omega (arith, together) in
      ap (λ (x : ℕ). drop x (l ++ m)) e
      ∙ drop_join line_size (length l / line_size) (length (rest_of l ++ m) / line_size) l m fits

-- ---- two parts copied into a buffer, one after the other
-- what the first copy leaves, and what the second makes of its part from n on
module _ (h piece out mid : List ℕ) (n : ℕ) (wide : length h ≡ n) (room : n + length piece ≤ length out)
    (first : mid ≡ take (length h) h ++ drop (length h) out) where
  abbrev rest : List ℕ
  rest = drop n out

  abbrev left : ℕ
  left = length mid - n

  first_is : mid ≡ h ++ rest
  first_is = copied h out mid first ∙ ap (λ (k : ℕ). h ++ drop k out) wide

  -- the part is all that is left
  part_is : mid_of n left mid ≡ rest
  part_is = rest_is n mid ∙ ap (drop n) first_is ∙ drop_at h rest n wide

  pub second_room : length piece ≤ length (mid_of n left mid)
  second_room = omega (arith, ap length part_is, length-drop n out)

  pub joined_by : (ys : List ℕ) → ys ≡ take (length piece) piece ++ drop (length piece) (mid_of n left mid)
      → put_mid n left mid ys ≡ (h ++ piece) ++ drop (n + length piece) out
  joined_by ys second =
      let second_is : ys ≡ piece ++ drop (length piece) rest =
      copied piece (mid_of n left mid) ys second ∙ ap (λ (z : List ℕ). piece ++ drop (length piece) z) part_is in
      let all : length rest ≤ left = omega (arith, ap length first_is, length-append h rest) in
      ap (λ (z : List ℕ). put_mid n left z ys) first_is
      ∙ put_next h rest ys n left wide
      ∙ ap (λ (z : List ℕ). (h ++ ys) ++ z) (drop_of_length-le rest all)
      ∙ append-nil (h ++ ys)
      ∙ ap (λ (z : List ℕ). h ++ z) second_is
      ∙ sym (append_assoc h piece (drop (length piece) rest))
      ∙ ap (λ (z : List ℕ). (h ++ piece) ++ z) (drop-drop (length piece) n out)
