-- A piece that is refused, and one that is a run of its whole requests.
use Rattle.std.specs.Prelude.{Ok, Err}
use Rattle.std.proofs.Common.{◌≡◌, ℕ, ◌+◌, ◌≤◌, rules, arith, sym, ◌∙◌}
use Rattle.std.proofs.Math.Seq.{length-take-le}
use Rattle.page_record.specs.declared.Page.{Page}
use Rattle.pieces.specs.declared.Carry.{Carry}
use Rattle.pieces.specs.Carries.{carry_size}
use Rattle.pieces.specs.Pieces.{piece_size, piece_verdict}
use Rattle.pieces.proofs.Carries.{valid}
use Rattle.pieces.proofs.Judged.{fits, taken_is, buffer_is}
use Rattle.pieces.proofs.Runs.{taken_by}
use Rattle.pieces.proofs.take.Goals as goal

pub returns-in-Err : goal.returns-in-Err
returns-in-Err c =
    let a = c.args in
    let e = sym c.judge_piece.ensures ∙ c.in-Err.is in
    record {
      end = sym (taken_is a.page a.carry a.piece.now a.answers.now (Err _) e);
      lines = sym (buffer_is a.page a.carry a.piece.now a.answers.now (Err _) e);
    }

-- ---- a piece that passed
-- what is carried and what comes have their place
few : (page : Page) (carry : Carry) (piece space : ℕ) → piece_verdict page carry piece space ≡ Ok tt
    → (carry.len ≤ carry_size) × (carry.len + piece ≤ carry_size + piece_size)
few page carry piece space e =
    let fit = fits e in
    let short = (valid carry fit.valid).few in
    (short, omega (arith, fit.short))

pub join-requires-clause-carried : goal.join-requires-clause-carried
join-requires-clause-carried c = (few _ _ _ _ (sym c.judge_piece.ensures ∙ c.in_default.is)).0

pub join-requires-clause-room : goal.join-requires-clause-room
join-requires-clause-room c = (few _ _ _ _ (sym c.judge_piece.ensures ∙ c.in_default.is)).1

pub overflow_add-end : goal.overflow_add-end
overflow_add-end c = omega (arith, few _ _ _ _ (sym c.judge_piece.ensures ∙ c.in_default.is))

pub overflow_mul-whole : goal.overflow_mul-whole
overflow_mul-whole c = omega (arith, few _ _ _ _ (sym c.judge_piece.ensures ∙ c.in_default.is))

pub slice_bounds-all-end : goal.slice_bounds-all-end
slice_bounds-all-end c = omega (arith, few _ _ _ _ (sym c.judge_piece.ensures ∙ c.in_default.is))

pub slice_bounds-run-end : goal.slice_bounds-run-end
slice_bounds-run-end c =
    sym (length-take-le _ _ (omega (arith, few _ _ _ _ (sym c.judge_piece.ensures ∙ c.in_default.is))))

pub slice_bounds-carry_of-end : goal.slice_bounds-carry_of-end
slice_bounds-carry_of-end c =
    let fit = few _ _ _ _ (sym c.judge_piece.ensures ∙ c.in_default.is) in
    search rules

pub returns : goal.returns
returns c =
    let a = c.args in
    let ran = c.run-answer in
    let fit = fits (sym c.judge_piece.ensures ∙ c.in_default.is) in
    let both =
    taken_by a.page a.carry a.piece.now a.answers.now fit c.join.new.out _ c.join.ensures
    ran.result c.carry_of-rest.result ran.new.answers ran.ensures.end ran.ensures.lines c.carry_of-rest.ensures in
    record { end = both.0; lines = both.1 }
