-- One turn of a search that goes from place to place, as `find` did before it went by std's `position`; no proof cites it today. A
-- search of the whole list answers as one from i over what is left (`Seeking`). A turn is one clause of
-- `find_from` (`clause`), and goes one of three ways: the reader there is equal (`hit`), or it is another by its phase or by its
-- bucket and is passed over (`other_phase`, `other_bucket`). Where nothing is left, no reader is equal (`past_length`,
-- `past_array`). Assumes nothing.
use Rattle.std.specs.Prelude.{Some, None}
use Prim.Native.Nat.{ℕ, ◌+◌, ◌≤◌, ◌<◌}
use mathlib.Core.Path.{◌≡◌, ◌∙◌, sym}
use mathlib.Core.Bool.{true, false, cond, and-false}
use mathlib.Core.List.{List}
use native.Mathlib.Omega.{arith}
use borrow.Author.Tests.{eq-eqb, ne_eqb}
use Rattle.laws.proofs.Turns.{past, past_all, turn}
use Rattle.kinds.specs.declared.Reader.{Reader}
use Rattle.kinds.specs.Limits.{capacity}
use Rattle.readers.specs.Same.{same_phase, same_reader}
use Rattle.readers.specs.Listed.{find_in, find_from, blank_reader}
use lib.ListN.{length, take, drop, get_or}

pub record Seeking (want : Reader) (items : List Reader) (len i : ℕ) : Type 0 where
  pub full : length items ≡ capacity
  pub whole : find_in (take len items) want ≡ find_from i (drop i (take len items)) want

module _ {want : Reader} {items : List Reader} {len i : ℕ} (so_far : Seeking want items len i) where
  -- ---- one turn
  module _ (h : i < len) (k : i < capacity) where
    abbrev pub there : Reader
    there = get_or items i blank_reader

    clause : find_in (take len items) want
        ≡ cond (same_reader there want) (Some i) (find_from (i + 1) (drop (i + 1) (take len items)) want)
    clause =
        let inside : i < length items = omega (arith, so_far.full) in
        so_far.whole ∙ rw (turn blank_reader items i)

    pub hit : there.bucket.0 ≡ want.bucket.0 → same_phase there.phase want.phase ≡ true → Some i ≡ find_in (take len items) want
    hit b p = sym (clause ∙ simp (p, eq-eqb _ _ b))

    pub other_phase : same_phase there.phase want.phase ≡ false → Seeking want items len (i + 1)
    other_phase p = record { full = so_far.full; whole = clause ∙ simp p }

    pub other_bucket : (there.bucket.0 ≡ want.bucket.0 → ⊥) → Seeking want items len (i + 1)
    other_bucket b = record { full = so_far.full; whole = clause ∙ simp (ne_eqb _ _ b, and-false) }

  -- ---- nothing is left: past the length, or past the array's end
  pub past_length : len ≤ i → None ≡ find_in (take len items) want
  past_length h = sym (so_far.whole ∙ simp past)

  pub past_array : capacity ≤ i → None ≡ find_in (take len items) want
  past_array h =
      let k : length items ≤ i = omega (arith, so_far.full) in
      sym (so_far.whole ∙ simp past_all)
