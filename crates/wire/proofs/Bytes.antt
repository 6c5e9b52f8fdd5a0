-- Laws of numbers as bytes, in this order: bytes, how large their number is, one turn of the loop that writes them, and that
-- reading and writing a number undo each other. Assumes nothing.
use Prim.Native.Nat.{ℕ, zero, suc, ◌+◌, ◌*◌, ◌/◌, ◌%◌, ◌^◌, ◌-◌, ◌<◌, ◌≤◌}
use mathlib.Core.Path.{◌≡◌, refl}
use mathlib.Core.Bool.{true}
use mathlib.Core.List.{List, [], ◌∷◌, ◌++◌}
use native.Mathlib.Omega.{arith}
use native.Mathlib.Nat.{pow-succ'}
use lib.Dec.{eqb, eqb→eq}
use lib.ListN.{length, take, drop, set, replicate}
use lib.Seq.{get_or-drop}
use Rattle.laws.proofs.Tests.{is_true}
use Rattle.laws.proofs.Lists.{every_only, each_take}
use Rattle.laws.proofs.Turns.{store_next}
use Rattle.wire.specs.Bytes.{Bytes, number, low_bytes, blank}

-- ---- bytes
pub bytes_take : (n : ℕ) (l : List ℕ) → Bytes l → Bytes (take n l)
bytes_take n l b = each_take (λ b. b < 256) 0 (omega arith) n l b

pub bytes_drop : (n : ℕ) (l : List ℕ) → Bytes l → Bytes (drop n l)
bytes_drop n l b i = rw get_or-drop (b (n + i))

-- bytes that are all zero are so many zeros
pub zeros_are : (l : List ℕ) → blank l ≡ true → l ≡ replicate (length l) 0
zeros_are l e = every_only (λ b. eqb b 0) 0 (λ b. eqb→eq b 0) l (is_true e)

-- ---- the size of a number
above : (n : ℕ) → 0 < 256 ^ n
above zero = omega arith
above (suc n) = rw pow-succ' (omega (arith, above n))

pub number_below : (n : ℕ) (l : List ℕ) → length l ≤ n → Bytes l → number l < 256 ^ n
number_below n [] h b = above n
number_below zero (x ∷ l) h b = absurd (omega arith)
number_below (suc n) (x ∷ l) h b =
    let r = number_below n l (omega arith) (λ i. b (suc i)) in
    rw pow-succ' (omega (arith, b 0))

-- ---- a turn of the loop that writes
-- the byte that is stored is the first of those still to come
pub stored : (l : List ℕ) (k : ℕ) → k < length l → (n x : ℕ) → k < n
    → take k l ++ low_bytes (n - k) x ≡ take (k + 1) (set l k (x % 256)) ++ low_bytes (n - (k + 1)) (x / 256)
stored l k more n x h =
    let e : n - k ≡ suc (n - (k + 1)) = omega arith in
    rw e (store_next l k (x % 256) (low_bytes (n - (k + 1)) (x / 256)) more)

-- ---- there and back
pub number_low_bytes : (n v : ℕ) → v < 256 ^ n → number (low_bytes n v) ≡ v
number_low_bytes zero v h = omega arith
number_low_bytes (suc n) v h =
    let h : v < 256 * 256 ^ n = rw pow-succ' at h in
    let r = number_low_bytes n (v / 256) (omega arith) in
    omega arith

pub low_bytes_number : (l : List ℕ) → Bytes l → low_bytes (length l) (number l) ≡ l
low_bytes_number [] b = refl
low_bytes_number (x ∷ l) b =
    let e : (x + 256 * number l) % 256 ≡ x = omega (arith, b 0) in
    let f : (x + 256 * number l) / 256 ≡ number l = omega (arith, b 0) in
    rw (e, f, low_bytes_number l (λ i. b (suc i)))
