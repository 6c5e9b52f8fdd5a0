-- Laws of a list that is cut into pieces of one width, over any element type: how many there are (`length_cut`), each of them (`cut_at`);
-- and of two lists one after the other, that the pieces are those of the first and then those of what it leaves with the second
-- (`cut_join`), and that as much is left at the end (`drop_join`). Assumes nothing.
use Prim.Native.Nat.{ℕ, zero, suc, ◌+◌, ◌*◌, ◌<◌, ◌≤◌}
use mathlib.Core.Path.{◌≡◌, refl, sym, ap, ◌∙◌}
use mathlib.Core.List.{List, [], ◌∷◌, ◌++◌}
use native.Mathlib.Omega.{arith}
use native.Mathlib.Nat.{mul-zero, mul-suc}
use lib.ListN.{length, take, drop, get_or, length-drop}
use lib.Seq.{take-append-le, drop-append-le, drop-drop}
use Rattle.laws.specs.Lists.{cut}

module _ {A : Type 0} (w : ℕ) where
  -- ---- the pieces
  pub length_cut : (n : ℕ) (l : List A) → length (cut w n l) ≡ n
  length_cut zero l = refl
  length_cut (suc n) l = ap suc (length_cut n (drop w l))

  pub cut_at : (n k : ℕ) (l : List A) → k < n → get_or (cut w n l) k [] ≡ take w (drop (w * k) l)
  cut_at zero k l h = absurd (omega arith)
  cut_at (suc n) zero l h = rw mul-zero
  cut_at (suc n) (suc k) l h =
      let e : w * suc k ≡ w + w * k = simp mul-suc (omega arith) in
      cut_at n k (drop w l) (omega arith) ∙ rw (drop-drop, e)

  -- ---- two lists
  -- pieces that stand whole in the first are its own
  pub cut_front : (k : ℕ) (l m : List A) → w * k ≤ length l → cut w k (l ++ m) ≡ cut w k l
  cut_front zero l m h = refl
  cut_front (suc k) l m h =
      let more = mul-suc w k in
      let short : w ≤ length l = omega arith in
      let rest : w * k ≤ length (drop w l) = simp length-drop (omega arith) in
      ap (λ (x : List A). x ∷ cut w k (drop w (l ++ m))) (take-append-le w l m short)
      ∙ ap (λ (x : List A). take w l ∷ cut w k x) (drop-append-le w l m short)
      ∙ ap (λ (x : List (List A)). take w l ∷ x) (cut_front k (drop w l) m rest)

  -- so many pieces, and then others
  cut_two : (k n : ℕ) (l : List A) → cut w (k + n) l ≡ cut w k l ++ cut w n (drop (w * k) l)
  cut_two zero n l =
      let e : 0 + n ≡ n = omega arith in
      ap (λ (x : ℕ). cut w x l) e ∙ ap (λ (x : ℕ). cut w n (drop x l)) (sym (mul-zero w))
  cut_two (suc k) n l =
      let e : suc k + n ≡ suc (k + n) = omega arith in
      let f : w + w * k ≡ w * suc k = simp mul-suc (omega arith) in
      ap (λ (x : ℕ). cut w x l) e
      ∙ ap (λ (x : List (List A)). take w l ∷ x) (cut_two k n (drop w l))
      ∙ ap (λ (x : List A). take w l ∷ (cut w k (drop w l) ++ cut w n x)) (drop-drop (w * k) w l)
      ∙ ap (λ (x : ℕ). take w l ∷ (cut w k (drop w l) ++ cut w n (drop x l))) f

  -- k pieces stand whole in the first, and n in what it leaves with the second
  module _ (k n : ℕ) (l m : List A) (h : w * k ≤ length l) where
    pub cut_join : cut w (k + n) (l ++ m) ≡ cut w k l ++ cut w n (drop (w * k) l ++ m)
    cut_join =
        cut_two k n (l ++ m)
        ∙ ap (λ (x : List (List A)). x ++ cut w n (drop (w * k) (l ++ m))) (cut_front k l m h)
        ∙ ap (λ (x : List A). cut w k l ++ cut w n x) (drop-append-le (w * k) l m h)

    pub drop_join : drop (w * k + w * n) (l ++ m) ≡ drop (w * n) (drop (w * k) l ++ m)
    drop_join = sym (drop-drop (w * n) (w * k) (l ++ m)) ∙ ap (drop (w * n)) (drop-append-le (w * k) l m h)
