-- A carry that is valid is short, so the sum of the lengths is small.
use Rattle.std.proofs.Common.{◌≡◌, ◌≤◌, Bool, true, arith, sym, ◌∙◌}
use Rattle.pieces.specs.declared.Carry.{Carry}
use Rattle.pieces.specs.Carries.{carry_size, is_valid}
use Rattle.pieces.proofs.Carries.{valid}
use Rattle.pieces.proofs.judge_piece.Goals as goal

short : (carry : Carry) (test : Bool) → test ≡ is_valid carry → test ≡ true → carry.len ≤ carry_size
short carry test e taken = (valid carry (sym e ∙ taken)).few

pub overflow_add-requests : goal.overflow_add-requests
overflow_add-requests c = omega (arith, short _ _ c.is_valid.ensures c.if-not-is_valid.false)

pub overflow_mul-requests : goal.overflow_mul-requests
overflow_mul-requests c = omega (arith, short _ _ c.is_valid.ensures c.if-not-is_valid.false)
