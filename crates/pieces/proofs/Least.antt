-- A piece gives the first number that applies to it (`piece_number`), and so does the end (`finish_number`); nnot-both answer carries a
-- value. Assumes nothing.
use Prim.Native.Nat.{ℕ, ◌+◌}
use mathlib.Core.Path.{◌≡◌, refl, sym, ap, ◌∙◌}
use mathlib.Core.Bool.{Bool, true, false, not, ◌&&◌, ◌||◌, not-not}
use mathlib.Core.List.{List}
use borrow.Author.Tests.{eqb-true}
use lib.Dec.{eqb, ltb, leb}
use lib.ListN.{length, drop}
use Rattle.laws.specs.Tables.{first_applying}
use Rattle.laws.proofs.Tests.{not_both}
use Rattle.laws.proofs.Orders.{leb_ltb}
use Rattle.page_record.specs.declared.Page.{Page}
use Rattle.soundness.specs.Soundness.{sound_of}
use Rattle.requests.specs.Premises.{verdict}
use Rattle.requests.specs.Answers.{answer_number, withdraws}
use Rattle.requests.proofs.Verdicts.{verdict_number_lem}
use Rattle.wire.specs.Bytes.{blank}
use Rattle.wire.proofs.Least.{answer_number_lem, answer_plain}
use Rattle.pieces.specs.declared.Carry.{Carry}
use Rattle.pieces.specs.Carries.{carry_size, is_valid, is_empty, end_premises, finish_of}
use Rattle.pieces.specs.Pieces.{piece_size, whole_in, piece_premises, piece_verdict, taken_of}
use Rattle.pieces.specs.Applies.{invalid, applying_piece, applying_end}
use Rattle.pieces.proofs.Judged.{takes_answer, judged}

-- ---- tests
not_valid : (c : Carry) → not (is_valid c) ≡ invalid c
unfolding is_valid
not_valid c =
    let few = leb c.len carry_size in
    let zeros = blank (drop c.len c.bytes) in
    let places = eqb (length c.bytes) carry_size in
    not_both (few && zeros) places
    ∙ ap (λ (t : Bool). t || not places) (not_both few zeros)
    ∙ ap (λ (t : Bool). not t || not zeros || not places) (leb_ltb c.len carry_size)
    ∙ ap (λ (t : Bool). t || not zeros || not places) (not-not (ltb carry_size c.len))

-- of a carry of length 0 all bytes are past the length
not_empty : (c : Carry)
    → not (is_empty c) ≡ (not (eqb c.len 0) || not (blank c.bytes) || not (eqb (length c.bytes) carry_size))
unfolding is_valid
not_empty c = go (eqb c.len 0) refl
  where
    zeros : Bool
    zeros = blank c.bytes

    places : Bool
    places = eqb (length c.bytes) carry_size

    go : (t : Bool) → eqb c.len 0 ≡ t
        → not (eqb c.len 0 && is_valid c) ≡ (not (eqb c.len 0) || not zeros || not places)
    go true e =
        let none = eqb-true c.len 0 e in
        rw e
        (ap (λ (n : ℕ). not (leb n carry_size && blank (drop n c.bytes) && places)) none ∙ not_both zeros places)
    go false e = rw e

-- ---- a piece
module _ (p : Page) (c : Carry) (piece answers : List ℕ) where
  pub piece_number : answer_number (taken_of p c piece answers).answer ≡ first_applying (applying_piece p c piece answers)
  unfolding taken_of piece_verdict
  piece_number =
      let v = judged p c piece answers in
      let many = leb_ltb (length piece) piece_size in
      let short = leb_ltb (whole_in (c.len + length piece)) (length answers) in
      ap answer_number (sym (takes_answer p c piece v))
      ∙ answer_number_lem v
      ∙ verdict_number_lem (piece_premises (sound_of p) c (length piece) (length answers))
      ∙ rw (not_valid c, many, short) (simp not-not)

  pub piece_plain : withdraws (taken_of p c piece answers).answer ≡ false
  unfolding taken_of
  piece_plain =
      let v = judged p c piece answers in
      ap withdraws (sym (takes_answer p c piece v)) ∙ answer_plain v

-- ---- the end
module _ (c : Carry) where
  pub finish_number : answer_number (finish_of c) ≡ first_applying (applying_end c)
  unfolding finish_of
  finish_number =
      answer_number_lem (verdict (end_premises c))
      ∙ verdict_number_lem (end_premises c)
      ∙ rw (not_empty c)

  pub finish_plain : withdraws (finish_of c) ≡ false
  unfolding finish_of
  finish_plain = answer_plain (verdict (end_premises c))
