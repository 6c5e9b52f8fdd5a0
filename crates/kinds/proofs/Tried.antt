-- What trying a number says: the flag that has it, or, where it is past those of the flags, the number again. Assumes nothing.
use Rattle.std.specs.Prelude.{Result, Ok, Err, MatchResult}
use Prim.Native.Nat.{ℕ, zero, suc, ◌<◌}
use mathlib.Core.Bool.{Bool, true, false, cond}
use mathlib.Core.Path.{◌≡◌, refl}
use native.Mathlib.Omega.{arith}
use borrow.Author.Tests.{ltb-true, ltb-false}
use lib.Dec.{ltb}
use Rattle.kinds.specs.declared.Flag.{Flag}
use Rattle.kinds.specs.declared.numbers.UnknownFlag.{UnknownFlag}
use Rattle.kinds.specs.Numbers.{flag_number, flag_from, flag_tried}

-- a number up to 10 is that of the flag which comes back from it
number_back : (n : ℕ) → n < 11 → flag_number (flag_from n) ≡ n
unfolding flag_from
number_back zero h = refl
number_back (suc zero) h = refl
number_back (suc (suc zero)) h = refl
number_back (suc (suc (suc zero))) h = refl
number_back (suc (suc (suc (suc zero)))) h = refl
number_back (suc (suc (suc (suc (suc zero))))) h = refl
number_back (suc (suc (suc (suc (suc (suc zero)))))) h = refl
number_back (suc (suc (suc (suc (suc (suc (suc zero))))))) h = refl
number_back (suc (suc (suc (suc (suc (suc (suc (suc zero)))))))) h = refl
number_back (suc (suc (suc (suc (suc (suc (suc (suc (suc zero))))))))) h = refl
number_back (suc (suc (suc (suc (suc (suc (suc (suc (suc (suc zero)))))))))) h = refl
number_back (suc (suc (suc (suc (suc (suc (suc (suc (suc (suc (suc n))))))))))) h = absurd (omega arith)

-- what is said of a number's flag, or of its refusal
abbrev pub Says : ℕ → Result Flag UnknownFlag → Type 0
Says n r = MatchResult r (λ f. flag_number f ≡ n) (λ e. (e.0 ≡ n) × (10 < n))

pub tried_says : (n : ℕ) → Says n (flag_tried n)
unfolding flag_tried
tried_says n = by_test (ltb n 11) refl
  where
    by_test : (t : Bool) → ltb n 11 ≡ t → Says n (cond t (Ok (flag_from n)) (Err (record { 0 = n })))
    by_test true e = number_back n (ltb-true n 11 e)
    by_test false e = (refl, ltb-false n 11 e)
