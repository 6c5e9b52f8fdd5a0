-- An entry is what stands in the flag's row at the step's column, if anything does.
use Rattle.std.proofs.Common.{arith, ◌∙◌, ap}
use Rattle.std.specs.Option.{unwrap_or}
use Rattle.table.specs.Table.{never, entry_at}
use Rattle.table.proofs.Rows.{array_at}
use Rattle.table.proofs.entry.Goals as goal

pub returns : goal.returns
unfolding entry_at
returns c =
    let here = c.get.ensures.lookup.4 (omega arith) never in
    c.unwrap_or.ensures ∙ ap (λ o. unwrap_or o never) c.copied.ensures ∙ here ∙ simp (c.column_of.ensures, c.from.ensures, c.flag_number.ensures, array_at)
