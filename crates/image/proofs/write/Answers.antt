-- Each return, by the law of what its tests showed.
use Rattle.std.proofs.Common.{sym, ◌∙◌}
use Rattle.encoding.proofs.Rooms.{imaged_whole}
use Rattle.image.proofs.Written.{write_unsound, write_short, write_whole}
use Rattle.image.proofs.write.Goals as goal

pub returns-then-not-is_sound : goal.returns-then-not-is_sound
returns-then-not-is_sound c =
    let both = write_unsound c.args.page c.args.buffer.now (sym c.is_sound.ensures ∙ c.if-not-is_sound.true) in
    record { answer = both.0; bytes = both.1 }

pub returns-then-buffer-lt-IMAGE : goal.returns-then-buffer-lt-IMAGE
returns-then-buffer-lt-IMAGE c =
    let sound = sym c.is_sound.ensures ∙ c.if-not-is_sound.false in
    let both = write_short c.args.page c.args.buffer.now sound c.if-buffer-lt-IMAGE.true in
    record { answer = both.0; bytes = both.1 }

pub returns : goal.returns
returns c =
    let long = c.if-buffer-lt-IMAGE.false in
    let sound = sym c.is_sound.ensures ∙ c.if-not-is_sound.false in
    let both = write_whole c.args.page c.args.buffer.now sound long in
    record { answer = both.0; bytes = c.encode.ensures ∙ sym (imaged_whole c.args.page c.args.buffer.now long) ∙ both.1 }
