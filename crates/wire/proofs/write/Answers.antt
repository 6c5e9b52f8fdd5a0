-- The fields' refusal, or what `put` does, by the two laws of writing.
use Rattle.std.proofs.Common.{sym, ◌∙◌}
use Rattle.wire.proofs.Premises.{write_refused, write_granted}
use Rattle.wire.proofs.write.Goals as goal

pub returns-in-Err : goal.returns-in-Err
returns-in-Err c =
    let both = write_refused c.args.request c.args.buffer.now _ (sym c.judge.ensures ∙ c.in-Err.is) in
    record { answer = both.0; bytes = both.1 }

pub returns : goal.returns
returns c =
    let fits = sym c.judge.ensures ∙ c.in_default.is in
    let done = c.put.ensures in
    let both = write_granted c.args.request c.args.buffer.now c.put.result c.put.new.buffer fits done.answer done.bytes in
    record { answer = both.0; bytes = both.1 }
