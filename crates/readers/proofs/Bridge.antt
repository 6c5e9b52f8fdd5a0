-- From the array to the list: what `listed l` holds (`live_listed`, `length_listed`, `blank_listed`); that a well kept array is
-- the array of its list (`listed_live`); and what each change does to `listed l` (`pushed_listed`, `put_listed`,
-- `removed_listed`). No law names the capacity's number. Assumes nothing.
use Prim.Native.Nat.{ℕ, suc, ◌+◌, ◌-◌, ◌<◌, ◌≤◌}
use mathlib.Core.Path.{◌≡◌, sym, ◌∙◌}
use mathlib.Core.List.{List, [], ◌∷◌, ◌++◌}
use native.Mathlib.Omega.{arith}
use borrow.Author.Tests.{lt-ltb, le-leb}
use lib.Dec.{T}
use lib.ListN.{length, drop, set, replicate, length-append, length-drop, length-set, length-replicate, take-append-drop}
use lib.Seq.{take-append_seam, drop-append_seam, set-append_seam, set-append_left, append_snoc, length-take-le}
use Rattle.std.specs.Prelude.{Ok}
use Rattle.laws.specs.Lists.{without}
use Rattle.laws.proofs.Lists.{length_without, every_replicate, every_only}
use Rattle.kinds.specs.declared.Reader.{Reader}
use Rattle.kinds.specs.Limits.{capacity}
use Rattle.readers.specs.declared.Readers.{Readers}
use Rattle.readers.specs.Same.{same_reader}
use Rattle.readers.specs.Listed.{live, blank_reader, listed, blank_past, pushed, put_at, removed_at}
use Rattle.readers.proofs.Equal.{same_refl, same_is}

-- ---- the array of a list
pub live_listed : (l : List Reader) → live (listed l) ≡ l
live_listed l = take-append_seam l (replicate (capacity - length l) blank_reader)

pub length_listed : (l : List Reader) → length l ≤ capacity → length (listed l).items ≡ capacity
length_listed l h = simp (length-append, length-replicate) (omega arith)

pub blank_listed : (l : List Reader) → T (blank_past (listed l))
blank_listed l =
    rw drop-append_seam (every_replicate (same_reader blank_reader) (capacity - length l) blank_reader (same_refl blank_reader))

-- ---- an array that is well kept is the array of its list
module _ (rs : Readers) (full : length rs.items ≡ capacity) (fits : rs.len ≤ capacity) where
  pub length_live : length (live rs) ≡ rs.len
  length_live = length-take-le rs.len rs.items (omega arith)

  pub listed_live : T (blank_past rs) → rs ≡ listed (live rs)
  listed_live t =
      let later = drop rs.len rs.items in
      let n : length later ≡ capacity - length (live rs) = simp (length-drop, length_live) (omega arith) in
      let rest : later ≡ replicate (capacity - length (live rs)) blank_reader =
      every_only (same_reader blank_reader) blank_reader (λ r u. sym (same_is blank_reader r u)) later t ∙ rw n in
      let whole : rs.items ≡ (listed (live rs)).items = sym (take-append-drop rs.len rs.items) ∙ rw rest in
      λ i. record { items = whole i; len = sym length_live i }

-- ---- the changes
module _ (l : List Reader) (r : Reader) where
  pub pushed_listed : length l < capacity → pushed (listed l) r ≡ Ok (listed (l ++ r ∷ []))
  unfolding pushed
  pushed_listed h =
      let e : length (l ++ r ∷ []) ≡ length l + 1 = length-append l (r ∷ []) in
      let f : capacity - length l ≡ suc (capacity - (length l + 1)) = omega arith in
      simp (lt-ltb _ _ h) (rw (e, f, set-append_seam, append_snoc))

  pub put_listed : (at : ℕ) → length l ≤ capacity → at < length l → put_at (listed l) at r ≡ listed (set l at r)
  unfolding put_at
  put_listed at h k = simp (le-leb _ _ h, lt-ltb _ _ k) (rw (length-set, set-append_left))

pub removed_listed : (l : List Reader) (at : ℕ) → length l ≤ capacity → at < length l
    → removed_at (listed l) at ≡ listed (without at l)
unfolding removed_at
removed_listed l at h k =
    let n : length (without at l) ≡ length l - 1 = omega (arith, length_without l at k) in
    let f : capacity - (length l - 1) ≡ suc (capacity - length l) = omega arith in
    simp (le-leb _ _ h, lt-ltb _ _ k) (rw (live_listed l, drop-append_seam, n, f))
