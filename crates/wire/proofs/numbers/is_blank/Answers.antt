-- What `all` answers of the bytes.
use Rattle.std.proofs.Common.{eqb, refl, rules}
use Rattle.std.proofs.lemmas.List.Recursion.{and_is}
use Rattle.wire.specs.Bytes.{blank}
use Rattle.wire.proofs.numbers.is_blank.Goals as goal

pub returns : goal.returns
returns c = and_is blank (λ b. eqb b 0) refl (λ _ _. refl) c.args.bytes.now 0 _ (search rules) (search rules)
