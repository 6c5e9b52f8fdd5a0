-- Each return, by its test; the array has fifteen places.
use Rattle.std.proofs.Common.{◌≡◌, ◌<◌, arith, sym, ◌∙◌, length}
use borrow.Author.Tests.{lt-leb}
use Rattle.pieces.specs.Carries.{carry_size}
use Rattle.pieces.proofs.Carries.{too_long_lem, valid_by}
use Rattle.pieces.proofs.is_valid.Goals as goal

pub returns-else-carry-le-CARRY : goal.returns-else-carry-le-CARRY
returns-else-carry-le-CARRY c =
    let long : carry_size < c.args.carry.len = omega (arith, c.if-carry-le-CARRY.false) in
    lt-leb _ _ c.if-carry-le-CARRY.false ∙ sym (lt-leb _ _ long) ∙ too_long_lem c.args.carry long

pub returns-then-carry-le-CARRY : goal.returns-then-carry-le-CARRY
returns-then-carry-le-CARRY c =
    let places : length c.args.carry.bytes ≡ carry_size = omega arith in
    c.is_blank.ensures ∙ valid_by c.args.carry (omega (arith, c.if-carry-le-CARRY.true)) places
