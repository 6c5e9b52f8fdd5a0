-- Carries: bytes that are carried are had back (`held_carry`), a carry of up to fifteen bytes is valid, and a valid one is that of the
-- bytes which it carries (`carry_held`); at the end it is accepted just if it carries none. Assumes nothing.
use Rattle.std.specs.Prelude.{Ok, Err}
use Prim.Native.Nat.{ℕ, zero, suc, ◌-◌, ◌<◌, ◌≤◌}
use mathlib.Core.Path.{◌≡◌, refl, sym, ap, ◌∙◌}
use mathlib.Core.Logic.{◌↔◌}
use mathlib.Core.Bool.{Bool, true, cond, ◌&&◌, and-true}
use mathlib.Core.List.{List, [], ◌∷◌, ◌++◌}
use native.Mathlib.Omega.{arith}
use borrow.Author.Tests.{eq-eqb, le-leb, lt-leb}
use lib.Dec.{T, eqb, leb, eqb→eq, leb→le}
use lib.ListN.{length, take, drop, replicate, length-append, length-drop, length-replicate, take-append-drop}
use lib.Seq.{take-append_seam, drop-append_seam, length-take-le}
use Rattle.laws.proofs.Tests.{is_true, to_true, both, halves, parts_true}
use Rattle.laws.proofs.Lists.{every_replicate}
use Rattle.laws.proofs.Parts.{rest_is, copied}
use Rattle.requests.specs.declared.{Refusal.Refusal, Answer.Answer}
use Rattle.requests.specs.Premises.{verdict}
use Rattle.requests.proofs.Verdicts.{passed as all_hold}
use Rattle.wire.specs.Bytes.{blank}
use Rattle.wire.specs.Buffers.{answer_for}
use Rattle.wire.proofs.Bytes.{zeros_are}
use Rattle.wire.proofs.Premises.{answer_passed}
use Rattle.pieces.specs.declared.Carry.{Carry}
use Rattle.pieces.specs.Carries.{carry_size, held, carry_of, is_valid, is_empty, end_premises, finish_of}

-- ---- zeros
drop_zeros : (n m : ℕ) → drop n (replicate {A = ℕ} m 0) ≡ replicate (m - n) 0
drop_zeros zero m = let e : m ≡ m - 0 = omega arith in ap (λ (k : ℕ). replicate k 0) e
drop_zeros (suc n) zero = let e : 0 ≡ 0 - suc n = omega arith in ap (λ (k : ℕ). replicate k 0) e
drop_zeros (suc n) (suc m) =
    let e : m - n ≡ suc m - suc n = omega arith in
    drop_zeros n m ∙ ap (λ (k : ℕ). replicate k 0) e

-- ---- bytes that are carried
-- copied over as many zeros as there are places
pub carried_by : (rest bytes : List ℕ) (n : ℕ) → n ≡ length rest
    → bytes ≡ take (length rest) rest ++ drop (length rest) (replicate carry_size 0)
    → ◌≡◌ {A = Carry} (record { bytes = bytes; len = n }) (carry_of rest)
unfolding carry_of
carried_by rest bytes n same made =
    let all : bytes ≡ rest ++ replicate (carry_size - length rest) 0 =
    copied rest (replicate carry_size 0) bytes made ∙ ap (λ (z : List ℕ). rest ++ z) (drop_zeros (length rest) carry_size) in
    λ i. record { bytes = all i; len = same i }

module _ (l : List ℕ) where
  pub held_carry : held (carry_of l) ≡ l
  unfolding carry_of
  held_carry = take-append_seam l (replicate (carry_size - length l) 0)

  pub valid_carry : length l ≤ carry_size → is_valid (carry_of l) ≡ true
  unfolding carry_of is_valid
  valid_carry h =
      let zeros : List ℕ = replicate (carry_size - length l) 0 in
      let blanks : T (blank (drop (length l) (l ++ zeros))) =
      rw drop-append_seam (every_replicate (λ b. eqb b 0) (carry_size - length l) 0 tt) in
      let n : length zeros ≡ carry_size - length l = length-replicate (carry_size - length l) 0 in
      let fifteen : length (l ++ zeros) ≡ carry_size = omega (arith, length-append l zeros) in
      let full = is_true (eq-eqb (length (l ++ zeros)) carry_size fifteen) in
      let few = is_true (le-leb (length l) carry_size h) in
      let claimed = leb (length l) carry_size in
      let rest = blank (drop (length l) (l ++ zeros)) in
      let places = eqb (length (l ++ zeros)) carry_size in
      to_true (is_valid (carry_of l)) (both (claimed && rest) places (both claimed rest few blanks) full)

-- ---- a valid carry
-- one that claims more than fifteen bytes is not
pub too_long_lem : (c : Carry) → carry_size < c.len → leb c.len carry_size ≡ is_valid c
unfolding is_valid
too_long_lem c h = simp (lt-leb c.len carry_size h)

-- what is left to look at, where it claims no more than fifteen bytes and has fifteen places
pub valid_by : (c : Carry) → c.len ≤ carry_size → length c.bytes ≡ carry_size
    → blank (take (length c.bytes - c.len) (drop c.len c.bytes)) ≡ is_valid c
unfolding is_valid
valid_by c few places =
    ap blank (rest_is c.len c.bytes)
    ∙ sym (and-true (blank (drop c.len c.bytes)))
    ∙ sym (rw (le-leb c.len carry_size few, eq-eqb (length c.bytes) carry_size places))

-- what makes it one
pub record Valid (c : Carry) : Type 0 where
  pub few : c.len ≤ carry_size
  pub zeros : blank (drop c.len c.bytes) ≡ true
  pub places : length c.bytes ≡ carry_size

module _ (c : Carry) (v : is_valid c ≡ true) where
  pub valid : Valid c
  unfolding is_valid
  valid =
      let zeros = blank (drop c.len c.bytes) in
      let a = parts_true (leb c.len carry_size && zeros) (eqb (length c.bytes) carry_size) v in
      let b = parts_true (leb c.len carry_size) zeros a.0 in
      record {
        few = leb→le c.len carry_size (is_true b.0);
        zeros = b.1;
        places = eqb→eq (length c.bytes) carry_size (is_true a.1);
      }

  pub length_held : length (held c) ≡ c.len
  length_held = length-take-le c.len c.bytes (omega (arith, valid.few, valid.places))

  zeros_past : drop c.len c.bytes ≡ replicate (carry_size - length (held c)) 0
  zeros_past =
      let n : length (drop c.len c.bytes) ≡ carry_size - length (held c) =
      rw length-drop (omega (arith, length_held, valid.places)) in
      zeros_are (drop c.len c.bytes) valid.zeros ∙ ap (λ (k : ℕ). replicate k 0) n

  pub carry_held : carry_of (held c) ≡ c
  unfolding carry_of
  carry_held =
      let all : held c ++ replicate (carry_size - length (held c)) 0 ≡ c.bytes =
      ap (λ (z : List ℕ). held c ++ z) (sym zeros_past) ∙ take-append-drop c.len c.bytes in
      λ i. record { bytes = all i; len = length_held i }

-- ---- how it ends
pub finish_is : (c : Carry) (t : Bool) → is_empty c ≡ t
    → answer_for (cond t (Ok tt) (Err Refusal.NotWhole)) ≡ finish_of c
unfolding finish_of
finish_is c t e = ap (λ (x : Bool). answer_for (cond x (Ok tt) (Err Refusal.NotWhole))) (sym e)

-- accepted just if it is the empty one
pub ends_empty : (c : Carry) → (finish_of c ≡ Answer.Accepted) ↔ (c ≡ carry_of [])
unfolding finish_of carry_of is_valid
ends_empty c = (there, λ e. ap finish_of e)
  where
    there : finish_of c ≡ Answer.Accepted → c ≡ carry_of []
    there e =
        let empty = halves (eqb c.len 0) (is_valid c) (all_hold (end_premises c) (answer_passed (verdict (end_premises c)) e)).0 in
        let none = eqb→eq c.len 0 empty.0 in
        let nothing : held c ≡ [] = ap (λ (n : ℕ). take n c.bytes) none in
        sym (carry_held c (to_true (is_valid c) empty.1)) ∙ ap carry_of nothing

-- so of bytes that are carried, just if there are none
pub ends_so : (l : List ℕ) → (finish_of (carry_of l) ≡ Answer.Accepted) ↔ (length l ≡ 0)
unfolding carry_of
ends_so l = (λ e. ap (λ (c : Carry). c.len) ((ends_empty (carry_of l)).0 e), back l)
  where
    back : (m : List ℕ) → length m ≡ 0 → finish_of (carry_of m) ≡ Answer.Accepted
    back [] e = (ends_empty (carry_of [])).1 refl
    back (b ∷ m) e = absurd (omega arith)
