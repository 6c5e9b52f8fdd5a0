-- What `find_in` answers, both ways: the place of the first reader that is equal (`found`, `split_of_found`; `find_split`), or
-- that there is none (`nowhere`; `find_none`). And a change at the place that it answers is a change of the first equal reader
-- (`removed_first`, `put_first`). It is what std's `position` answers (`found_by_position`; the other way round `find_is_position`,
-- which the check finds by a goal's `find_in`). Assumes nothing.
use Prim.Native.Nat.{ℕ, suc, ◌+◌, ◌<◌}
use mathlib.Core.Path.{◌≡◌, refl, ap, sym, subst, ◌∙◌}
use mathlib.Core.Bool.{Bool, true, false, cond, not, ◌&&◌}
use mathlib.Core.List.{List, [], ◌∷◌, ◌++◌}
use native.Mathlib.Nat.{add-zero, zero-add}
use native.Mathlib.Numerals.{add-one}
use native.Mathlib.Omega.{arith}
use lib.Dec.{T}
use lib.ListN.{length, take, drop, get_or, set}
use lib.Seq.{split_at, set-append_seam}
use Rattle.std.specs.Prelude.{Some, None, position}
use Rattle.std.specs.List.{position_from}
use Rattle.std.proofs.lemmas.Iterator.Adapters.{position_from-zero}
use Rattle.laws.specs.Lists.{every, last_first, without}
use Rattle.laws.proofs.Tests.{is_true, to_true, is_false, to_false, both, halves}
use Rattle.laws.proofs.Lists.{without_split}
use Rattle.kinds.specs.declared.Reader.{Reader}
use Rattle.readers.specs.Same.{same_reader}
use Rattle.readers.specs.Listed.{find_from, find_in, blank_reader}
use Rattle.readers.proofs.Equal.{same_refl, same_is}

-- x is not among them
abbrev pub absent : Reader → List Reader → Bool
absent x l = every (λ r. not (same_reader r x)) l

-- i is the first place of l at which x stands
pub record First (l : List Reader) (x : Reader) (i : ℕ) : Type 0 where
  pub inside : i < length l
  pub equal : get_or l i blank_reader ≡ x
  pub before : T (absent x (take i l))

-- the same of a search that counts from n
record Counted (n : ℕ) (l : List Reader) (x : Reader) (i : ℕ) : Type 0 where
  place : ℕ
  counted : i ≡ n + place
  first : First l x place

module _ (x : Reader) where
  -- ---- std's `position` answers it
  found_from : (n : ℕ) (l : List Reader) → position_from (λ r. same_reader r x) n l ≡ find_from n l x
  found_from n [] = refl
  found_from n (r ∷ l) = ap (cond (same_reader r x) (Some n)) (found_from (n + 1) l)

  pub found_by_position : (l : List Reader) → position (λ r. same_reader r x) l ≡ find_in l x
  found_by_position l = position_from-zero (λ r. same_reader r x) l ∙ found_from 0 l

  pub find_is_position : (l : List Reader) → find_in l x ≡ position (λ r. same_reader r x) l
  find_is_position l = sym (found_by_position l)

  -- ---- from the answer to the list
  first_from : (n : ℕ) (l : List Reader) (i : ℕ) → find_from n l x ≡ Some i → Counted n l x i
  first_from n [] i e = absurd (let z : ◌≡◌ {A = ℕ} 0 1 = cc in omega arith)
  first_from n (r ∷ l) i e = go (same_reader r x) refl e (first_from (n + 1) l i)
    where
      go : (t : Bool) → same_reader r x ≡ t → cond t (Some n) (find_from (n + 1) l x) ≡ Some i
          → (find_from (n + 1) l x ≡ Some i → Counted (n + 1) l x i) → Counted n (r ∷ l) x i
      go true s e f =
          let c : n ≡ i = cc in
          record { place = 0; counted = omega arith; first = record { inside = omega arith; equal = same_is r x (is_true s); before = tt } }
      go false s e f =
          let h = f e in
          record {
            place = suc h.place;
            counted = omega arith;
            first = record {
              inside = omega arith;
              equal = h.first.equal;
              before = both (not (same_reader r x)) (absent x (take h.place l)) (is_false s) h.first.before;
            };
          }

  pub found : (l : List Reader) (i : ℕ) → find_in l x ≡ Some i → First l x i
  found l i e =
      let h = first_from 0 l i e in
      let c : h.place ≡ i = omega arith in
      subst (λ (k : ℕ). First l x k) c h.first

  -- the list, cut around the place; none before it is equal, by `found`
  pub split_of_found : (l : List Reader) (i : ℕ) → find_in l x ≡ Some i → l ≡ take i l ++ x ∷ drop (i + 1) l
  split_of_found l i e =
      let h = found l i e in
      split_at l i blank_reader h.inside ∙ rw (h.equal, ← add-one i)

  none_from : (n : ℕ) (l : List Reader) → find_from n l x ≡ None → T (absent x l)
  none_from n [] e = tt
  none_from n (r ∷ l) e = go (same_reader r x) e (none_from (n + 1) l)
    where
      go : (t : Bool) → cond t (Some n) (find_from (n + 1) l x) ≡ None
          → (find_from (n + 1) l x ≡ None → T (absent x l)) → T (not t && absent x l)
      go true e f = absurd (let z : ◌≡◌ {A = ℕ} 0 1 = cc in omega arith)
      go false e f = f e

  pub nowhere : (l : List Reader) → find_in l x ≡ None → T (absent x l)
  nowhere l e = none_from 0 l e

  -- ---- from the list to the answer
  split_from : (n : ℕ) (before after : List Reader) → T (absent x before) → find_from n (before ++ x ∷ after) x
      ≡ Some (n + length before)
  split_from n [] after t = simp (to_true (same_reader x x) (same_refl x), add-zero)
  split_from n (r ∷ before) after t =
      let h = halves (not (same_reader r x)) (absent x before) t in
      let e : n + suc (length before) ≡ n + 1 + length before = omega arith in
      simp (to_false (same_reader r x) h.0, e, split_from (n + 1) before after h.1)

  pub find_split : (before after : List Reader) → T (absent x before) → find_in (before ++ x ∷ after) x ≡ Some (length before)
  find_split before after t = split_from 0 before after t ∙ rw zero-add

  absent_from : (n : ℕ) (l : List Reader) → T (absent x l) → find_from n l x ≡ None
  absent_from n [] t = refl
  absent_from n (r ∷ l) t =
      let h = halves (not (same_reader r x)) (absent x l) t in
      simp (to_false (same_reader r x) h.0, absent_from (n + 1) l h.1)

  pub find_none : (l : List Reader) → T (absent x l) → find_in l x ≡ None
  find_none l t = absent_from 0 l t

  -- ---- a change at the place that was found
  module _ (before after : List Reader) (none : T (absent x before)) (i : ℕ) (e : find_in (before ++ x ∷ after) x ≡ Some i) where
    split_place : i ≡ length before
    split_place = cc (find_split before after none)

    pub removed_first : without i (before ++ x ∷ after) ≡ before ++ last_first after
    removed_first = rw split_place (without_split before x after)

    pub put_first : (y : Reader) → set (before ++ x ∷ after) i y ≡ before ++ y ∷ after
    put_first y = rw split_place (set-append_seam before x after y)
