-- What `write_answer` does with the line where it doesn't fit.
use Rattle.std.proofs.Common.{sym}
use Rattle.requests.specs.declared.Answer.{Answer}
use Rattle.wire.specs.Answers.{line_of}
use Rattle.wire.proofs.Buffers.{put_short}
use Rattle.replay.proofs.refuse.Goals as goal

pub returns-then-out-lt-LINE-clause-bytes : goal.returns-then-out-lt-LINE-clause-bytes
returns-then-out-lt-LINE-clause-bytes c =
    sym (put_short (line_of (Answer.Refused c.args.why)) c.args.out.now c.if-out-lt-LINE.true).1
