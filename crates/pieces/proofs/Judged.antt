-- What the judgement of a piece says: one that passes has all that is asked of it, and the other way round (`fits`, `passes`); and the
-- answer of a piece tells how it was judged. Assumes nothing.
use Rattle.std.specs.Prelude.{Result, Ok, Err}
use Prim.Native.Nat.{ℕ, ◌+◌, ◌≤◌}
use mathlib.Core.Path.{◌≡◌, refl, ap, ◌∙◌}
use mathlib.Core.Bool.{true}
use mathlib.Core.List.{List}
use borrow.Author.Tests.{le-leb}
use lib.Dec.{leb→le}
use lib.ListN.{length}
use Rattle.laws.proofs.Tests.{to_true}
use Rattle.page_record.specs.declared.Page.{Page}
use Rattle.soundness.specs.Soundness.{sound_of}
use Rattle.requests.specs.declared.{Refusal.Refusal, Answer.Answer}
use Rattle.requests.proofs.Verdicts.{passed as all_hold}
use Rattle.wire.specs.Buffers.{answer_for}
use Rattle.wire.proofs.Premises.{answer_passed, answer_failed}
use Rattle.pieces.specs.declared.Carry.{Carry}
use Rattle.pieces.specs.Carries.{is_valid}
use Rattle.pieces.specs.Pieces.{piece_size, whole_in, piece_premises, piece_verdict, takes, taken_of, puts, buffer_after}

-- ---- what is asked
-- a piece of so many bytes, with so much space for its answers, is not refused
pub record Fits (page : Page) (c : Carry) (piece space : ℕ) : Type 0 where
  pub sound : sound_of page ≡ true
  pub valid : is_valid c ≡ true
  pub short : piece ≤ piece_size
  pub room : whole_in (c.len + piece) ≤ space

module _ {page : Page} {c : Carry} {piece space : ℕ} where
  pub fits : piece_verdict page c piece space ≡ Ok tt → Fits page c piece space
  unfolding piece_verdict
  fits e =
      let p = all_hold (piece_premises (sound_of page) c piece space) e in
      record {
        sound = to_true (sound_of page) p.0;
        valid = to_true (is_valid c) p.1.0;
        short = leb→le piece piece_size p.1.1.0;
        room = leb→le (whole_in (c.len + piece)) space p.1.1.1.0;
      }

  pub passes : Fits page c piece space → piece_verdict page c piece space ≡ Ok tt
  unfolding piece_verdict
  passes a = simp (a.sound, a.valid, le-leb _ _ a.short, le-leb _ _ a.room)

-- ---- the answer tells the verdict
pub takes_answer : (page : Page) (c : Carry) (piece : List ℕ) (v : Result (Unit {0}) Refusal) → answer_for v ≡ (takes page c piece v).answer
takes_answer page c piece (Ok _) = refl
takes_answer page c piece (Err why) = refl

module _ (page : Page) (c : Carry) (piece answers : List ℕ) where
  abbrev pub judged : Result (Unit {0}) Refusal
  judged = piece_verdict page c (length piece) (length answers)

  pub piece_passed : (taken_of page c piece answers).answer ≡ Answer.Accepted → judged ≡ Ok tt
  unfolding taken_of
  piece_passed e = answer_passed judged (takes_answer page c piece judged ∙ e)

  pub piece_failed : (why : Refusal) → (taken_of page c piece answers).answer ≡ Answer.Refused why → judged ≡ Err why
  unfolding taken_of
  piece_failed why e = answer_failed judged why (takes_answer page c piece judged ∙ e)

  -- what it comes to, by that
  pub taken_is : (v : Result (Unit {0}) Refusal) → judged ≡ v → taken_of page c piece answers ≡ takes page c piece v
  unfolding taken_of
  taken_is v e = ap (takes page c piece) e

  pub buffer_is : (v : Result (Unit {0}) Refusal) → judged ≡ v → buffer_after page c piece answers ≡ puts page c piece answers v
  unfolding buffer_after
  buffer_is v e = ap (puts page c piece answers) e
