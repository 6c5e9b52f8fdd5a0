-- A turn puts the next entry (`Filling`); where all are put, none is still to come.
use Rattle.std.proofs.Common.{◌≡◌, ◌*◌, ◌-◌, ◌<◌, arith, refl, sym, ◌∙◌, append-nil}
use Rattle.std.proofs.Math.Seq.{take_all}
use Rattle.kinds.specs.Limits.{line_size, capacity}
use Rattle.readers.specs.Listed.{live}
use Rattle.encoding.proofs.Listing.{put_length, line_turn, no_lines}
use Rattle.encoding.proofs.put_list.Goals as goal

pub loop-i-preserved : goal.loop-i-preserved
loop-i-preserved c =
    let l = c.loop-i in
    let rs = live c.args.readers in
    let ys = c.put_entry.new.out in
    let inv = l.invariant in
    let more : l.i < capacity = omega arith in
    record {
      most = omega arith;
      room = put_length rs l.out ys capacity l.i (line_size * l.i) more refl inv.room c.put_entry.ensures;
      whole = inv.whole ∙ line_turn rs l.out ys capacity l.i (line_size * l.i) more refl inv.room c.put_entry.ensures;
    }

pub returns : goal.returns
returns c =
    let l = c.loop-i in
    let none : capacity - l.i ≡ 0 = omega arith in
    sym (l.invariant.whole ∙ simp (none, no_lines, append-nil) (take_all (line_size * l.i) l.out (omega arith)))
