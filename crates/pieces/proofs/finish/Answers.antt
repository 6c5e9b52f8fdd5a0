-- Each return, by its tests.
use Rattle.std.proofs.Common.{true, false, arith, sym, ◌∙◌}
use borrow.Author.Tests.{eq-eqb, ne_eqb}
use Rattle.pieces.proofs.Carries.{finish_is}
use Rattle.pieces.proofs.finish.Goals.{else-carry-eq0-via-then-carry-eq0+else-is_valid, else-carry-eq0-via-else-carry-eq0}
use Rattle.pieces.proofs.finish.Goals as goal

pub returns-then-is_valid : goal.returns-then-is_valid
returns-then-is_valid c =
    let none = eq-eqb c.args.carry.len 0 (omega (arith, c.if-carry-eq0.true)) in
    finish_is c.args.carry true (simp (none, sym c.is_valid.ensures ∙ c.if-is_valid.true))

pub returns : goal.returns
returns c =
    elim c.else-carry-eq0.branch [
      | else-carry-eq0-via-then-carry-eq0+else-is_valid w ↦
          let none = eq-eqb c.args.carry.len 0 (omega (arith, w.if-carry-eq0.true)) in
          finish_is c.args.carry false (simp (none, sym w.is_valid.ensures ∙ w.if-is_valid.false))
      | else-carry-eq0-via-else-carry-eq0 w ↦
          let some = ne_eqb c.args.carry.len 0 (λ e. w.if-carry-eq0.false (omega (arith, e))) in
          finish_is c.args.carry false (simp (some))
    ]
