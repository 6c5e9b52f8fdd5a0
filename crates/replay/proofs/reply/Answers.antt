-- Its three returns are an input that is too long, a run, and a run that is refused.
use Rattle.std.proofs.Common.{◌≡◌, [], ◌∷◌, refl, inl, inr}
use types.Run.{OneOf}
use denote.Enum.Declared.{tag_of}
use Rattle.requests.specs.declared.{Refusal.Refusal, Answer.Answer}
use Rattle.requests.specs.contracts.Answer as A
use Rattle.replay.proofs.Replies.{reply_long, reply_ran, reply_refused}
use Rattle.replay.proofs.reply.Goals as goal

-- an answer that is no refusal
granted : (a : Answer) → ((why : Refusal) → a ≡ Answer.Refused why → ⊥) → OneOf (0 ∷ 1 ∷ []) (tag_of A.the_type a)
granted Answer.Accepted other = inl refl
granted (Answer.Withdrew v) other = inr refl
granted (Answer.Refused why) other = absurd (other why refl)

pub returns-then-total-gt-LONGEST : goal.returns-then-total-gt-LONGEST
returns-then-total-gt-LONGEST c =
    let a = c.args in
    let line = c.refuse.ensures in
    let both =
    reply_long a.kept.now a.out.now a.total c.too_long.result c.refuse.result c.refuse.new.out c.if-total-gt-LONGEST.true
    c.too_long.ensures line.length line.bytes in
    record { length = both.0; bytes = both.1 }

pub returns-in-Refused : goal.returns-in-Refused
returns-in-Refused c =
    let a = c.args in
    let ran = c.run in
    let line = c.refuse-in-Refused in
    let both =
    reply_refused a.kept.now a.out.now a.total c.fresh.result ran.result ran.new.answers c.if-total-gt-LONGEST.false
    c.fresh.ensures ran.ensures.end ran.ensures.lines
    _ line.result line.new.out c.in-Refused.is line.ensures.length line.ensures.bytes in
    record { length = both.0; bytes = both.1 }

pub returns : goal.returns
returns c =
    let a = c.args in
    let ran = c.run in
    let both =
    reply_ran a.kept.now a.out.now a.total c.fresh.result ran.result ran.new.answers c.if-total-gt-LONGEST.false
    c.fresh.ensures ran.ensures.end ran.ensures.lines (granted _ c.in_default.not-Refused) in
    record { length = both.0; bytes = both.1 }
