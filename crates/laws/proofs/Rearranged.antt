-- Two lists that differ in their order alone (`Rearranged`) are as long, agree on what every entry passes, and stay such two where the
-- same entry is put at the end, exchanged for another or taken out, wherever it stands in the one and in the other. Assumes nothing.
use Prim.Native.Nat.{ℕ, ◌<◌}
use mathlib.Core.Path.{◌≡◌, refl, sym, ap, ◌∙◌}
use mathlib.Core.Bool.{Bool, true, false, cond}
use mathlib.Core.List.{List, [], ◌∷◌, ◌++◌}
use native.Mathlib.Omega.{arith}
use lib.Dec.{T}
use lib.ListN.{length, get_or, set}
use Rattle.laws.specs.Lists.{tally, every, without, Rearranged}
use Rattle.laws.proofs.Tests.{both, halves}
use Rattle.laws.proofs.Lists.{one_le, one_is, tally_push, tally_put, tally_without, tally_le}

one_of : (t : Bool) → ◌≡◌ {A = ℕ} (cond t 1 0) 1 → T t
one_of true e = tt
one_of false e = omega arith

module _ {A : Type 0} where
  -- ---- a tally that is the length
  length_tally : (l : List A) → tally (λ x. true) l ≡ length l
  length_tally [] = omega arith
  length_tally (x ∷ l) = omega (arith, length_tally l)

  module _ (test : A → Bool) where
    every_tally : (l : List A) → T (every test l) → tally test l ≡ length l
    every_tally [] t = omega arith
    every_tally (x ∷ l) t =
        let h = halves (test x) (every test l) t in
        omega (arith, every_tally l h.1, one_is (test x) h.0)

    tally_every : (l : List A) → tally test l ≡ length l → T (every test l)
    tally_every [] e = tt
    tally_every (x ∷ l) e =
        let few = tally_le test l in
        both (test x) (every test l) (one_of (test x) (omega (arith, one_le (test x)))) (tally_every l (omega (arith, one_le (test x))))

  -- ---- two lists, and three
  pub rearranged_refl : (l : List A) → Rearranged l l
  rearranged_refl l = record { tallies = λ test. refl }

  pub rearranged_sym : {l m : List A} → Rearranged l m → Rearranged m l
  rearranged_sym same = record { tallies = λ test. sym (same.tallies test) }

  pub rearranged_trans : {l m n : List A} → Rearranged l m → Rearranged m n → Rearranged l n
  rearranged_trans first second = record { tallies = λ test. first.tallies test ∙ second.tallies test }

  module _ {l m : List A} (same : Rearranged l m) where
    pub length_same : length l ≡ length m
    length_same = omega (arith, length_tally l, length_tally m, same.tallies (λ x. true))

    pub every_same : (test : A → Bool) → T (every test l) → T (every test m)
    every_same test t =
        tally_every test m (omega (arith, same.tallies test, length_same, every_tally test l t))

    pub push_same : (x : A) → Rearranged (l ++ x ∷ []) (m ++ x ∷ [])
    push_same x = record { tallies = λ test. omega (arith, tally_push test l x, tally_push test m x, same.tallies test) }

    -- the same entry, at a place of each
    module _ (i j : ℕ) (d : A) (h : i < length l) (k : j < length m) (e : get_or l i d ≡ get_or m j d) where
      adds : (test : A → Bool) → ◌≡◌ {A = ℕ} (cond (test (get_or l i d)) 1 0) (cond (test (get_or m j d)) 1 0)
      adds test = ap (λ (y : A). cond (test y) 1 0) e

      pub put_same : (x : A) → Rearranged (set l i x) (set m j x)
      put_same x = record {
        tallies = λ test. omega (arith, tally_put test l i x d h, tally_put test m j x d k, same.tallies test, adds test);
      }

      pub without_same : Rearranged (without i l) (without j m)
      without_same = record {
        tallies = λ test. omega (arith, tally_without test l i d h, tally_without test m j d k, same.tallies test, adds test);
      }
