-- How long an image is, what a buffer holds that it is put into, and what more room adds to it: it begins with the image of less room
-- (`image_first`), and where that has room for all the readers zeros follow (`image_longer`). Assumes nothing.
use Prim.Native.Nat.{ℕ, ◌+◌, ◌*◌, ◌-◌, ◌<◌, ◌≤◌}
use mathlib.Core.List.{List, ◌++◌, append_assoc}
use mathlib.Core.Path.{◌≡◌, sym, ap, ◌∙◌}
use native.Mathlib.Omega.{arith}
use borrow.Author.Tests.{le-leb, lt-leb}
use lib.ListN.{length, take, drop, replicate, length-append, drop_of_length-le}
use lib.Seq.{take_at}
use Rattle.kinds.specs.declared.Reader.{Reader}
use Rattle.kinds.specs.Limits.{line_size, capacity}
use Rattle.readers.specs.Listed.{live}
use Rattle.page_record.specs.declared.Page.{Page}
use Rattle.page_record.specs.Pages.{head_of}
use Rattle.wire.proofs.Buffers.{leaves_whole}
use Rattle.encoding.specs.Images.{image_size, whole_size, kind_bytes, count_bytes, value_bytes, entries, image_of, imaged_in}
use Rattle.encoding.proofs.Heading.{length_kinds, length_counts, length_values}
use Rattle.encoding.proofs.Listing.{length_entries, entries_split, entries_none}

-- ---- how long it is
pub length_image : (n : ℕ) (p : Page) → length (image_of n p) ≡ image_size n
unfolding image_of
length_image n p =
    let h = head_of p in
    let k = kind_bytes h p.readers.len in
    let e1 = length-append (k ++ count_bytes h ++ value_bytes h) (entries n (live p.readers)) in
    let e2 = length-append (k ++ count_bytes h) (value_bytes h) in
    let e3 = length-append k (count_bytes h) in
    let a = length_kinds h p.readers.len in
    let b = length_counts h in
    let c = length_values h in
    let d = length_entries n (live p.readers) in
    omega arith

-- ---- in a buffer, which has room for it or not
module _ (p : Page) (l : List ℕ) where
  pub imaged_short : length l < whole_size → l ≡ imaged_in p l
  unfolding imaged_in
  imaged_short h = simp (lt-leb whole_size (length l) h)

  pub imaged_whole : whole_size ≤ length l → image_of capacity p ++ drop whole_size l ≡ imaged_in p l
  unfolding imaged_in
  imaged_whole h = simp (le-leb whole_size (length l) h)

-- one that it fills
pub imaged_all : (p : Page) (l : List ℕ) → length l ≡ whole_size → imaged_in p l ≡ image_of capacity p
imaged_all p l h = sym (imaged_whole p l (omega arith)) ∙ leaves_whole whole_size (image_of capacity p) l h

-- ---- what more room adds
-- the entries of those that there was no room for
image_split : (n k : ℕ) (p : Page) → image_of (n + k) p ≡ image_of n p ++ entries k (drop n (live p.readers))
unfolding image_of
image_split n k p =
    let h = head_of p in
    let l = live p.readers in
    let head = kind_bytes h p.readers.len ++ count_bytes h ++ value_bytes h in
    ap (λ (z : List ℕ). head ++ z) (entries_split n k l) ∙ sym (append_assoc head (entries n l) (entries k (drop n l)))

-- so it begins with the image of less room,
pub image_first : (n m : ℕ) (p : Page) → n ≤ m → take (image_size n) (image_of m p) ≡ image_of n p
image_first n m p h =
    let more : m ≡ n + (m - n) = omega arith in
    ap (λ (k : ℕ). take (image_size n) (image_of k p)) more
    ∙ ap (take (image_size n)) (image_split n (m - n) p)
    ∙ take_at (image_of n p) (entries (m - n) (drop n (live p.readers))) (image_size n) (length_image n p)

-- and where that had room for all, zeros follow
pub image_longer : (n m : ℕ) (p : Page) → length (live p.readers) ≤ n → n ≤ m
    → image_of m p ≡ image_of n p ++ replicate (line_size * (m - n)) 0
image_longer n m p fits h =
    let more : m ≡ n + (m - n) = omega arith in
    ap (λ (k : ℕ). image_of k p) more
    ∙ image_split n (m - n) p
    ∙ ap (λ (z : List Reader). image_of n p ++ entries (m - n) z) (drop_of_length-le (live p.readers) fits)
    ∙ ap (λ (z : List ℕ). image_of n p ++ z) (entries_none (m - n))
