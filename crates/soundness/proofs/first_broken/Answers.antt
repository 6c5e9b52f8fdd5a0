-- What std's `position` answers, of either kind, by `broken_by_position`.
use Rattle.std.proofs.Common.{◌≡◌, rules, sym, ◌∙◌, not, Some, None, position}
use Rattle.std.proofs.lemmas.Iterator.{YieldsList-from_slice}
use Rattle.std.proofs.lemmas.Iterator.Search.{position_from_yields_List}
use Rattle.laws.proofs.Words.{broken_by_position}
use Rattle.soundness.proofs.first_broken.Goals as goal

pub returns-in-Some : goal.returns-in-Some
returns-in-Some c =
    let e : c.position.result ≡ position not c.args.tests =
    position_from_yields_List _ _ _ _ c.position.ensures.ran (YieldsList-from_slice c.args.tests cc) (λ x b q k. search rules) in
    broken_by_position c.args.tests (Some c.in-Some.i) (sym c.in-Some.is ∙ e)

pub returns-in-None : goal.returns-in-None
returns-in-None c =
    let e : c.position.result ≡ position not c.args.tests =
    position_from_yields_List _ _ _ _ c.position.ensures.ran (YieldsList-from_slice c.args.tests cc) (λ x b q k. search rules) in
    broken_by_position c.args.tests None (sym c.in-None.is ∙ e)
