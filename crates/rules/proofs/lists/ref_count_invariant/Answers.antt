-- What std's `all` answers of the numbers below four, and there are four counts.
use Rattle.std.proofs.Common.{◌≡◌, ℕ, Bool, rules, arith, ◌∙◌, eqb, length, refl}
use Rattle.std.specs.List.{list_all}
use Rattle.std.proofs.lemmas.Iterator.{YieldsList-from_range}
use Rattle.std.proofs.lemmas.Iterator.Search.{all_from_yields_List}
use Rattle.kinds.specs.Limits.{buckets}
use Rattle.readers.specs.Listed.{live}
use Rattle.page_record.specs.Pages.{number_at}
use Rattle.page_record.specs.References.{count_all_refs}
use Rattle.rules.specs.Rules.{every_bucket}
use Rattle.rules.proofs.lists.ref_count_invariant.Goals as goal

pub returns : goal.returns
returns c =
    let a = c.args in
    let right : ℕ → Bool = λ b. eqb (number_at a.counts b) (count_all_refs (live a.readers) a.e a.l b) in
    let e : c.all.result ≡ list_all right every_bucket =
    all_from_yields_List right _ _ _ c.all.ensures.ran (YieldsList-from_range 0 buckets buckets (cc) refl) (λ x b q k. search rules) in
    let four : length a.counts ≡ buckets = omega arith in
    e ∙ rw four
