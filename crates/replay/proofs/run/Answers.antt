-- `Going` holds at each turn, and at the end the page and the buffer are what it says.
use Rattle.std.proofs.Common.{arith, ap, sym, ◌∙◌}
use Rattle.page_record.specs.declared.Page.{Page}
use Rattle.requests.specs.declared.Answer.{Answer}
use Rattle.replay.specs.Run.{ran_of, answers_of}
use Rattle.replay.proofs.Judged.{fit}
use Rattle.replay.proofs.Loop.{begins, inside, going, page_gone, lines_gone}
use Rattle.replay.proofs.run.Goals as goal

pub loop-i-init : goal.loop-i-init
loop-i-init c =
    let a = fit (sym c.judge_run.ensures ∙ c.in_default.is) in
    (cc, begins _ _ _ _ _ (cc) (cc) a.whole (omega (arith, a.room, a.whole)))

pub slice_bounds-write_answer-end : goal.slice_bounds-write_answer-end
slice_bounds-write_answer-end c =
    let now = c.loop-i.invariant in
    let s = c.in-Some.ensures.steps in
    omega (arith, inside now.1 _ _ _ s.0.1.0 (s.0.1.1 ∙ now.0) s.1)

pub loop-i-preserved : goal.loop-i-preserved
loop-i-preserved c =
    let now = c.loop-i.invariant in
    let s = c.in-Some.ensures.steps in
    let turned = going now.1 _ _ _ s.0.1.0 (s.0.1.1 ∙ now.0) s.1 (omega arith) (omega arith) in
    (s.0.0 ∙ now.0, turned c.turn-turned.ensures c.write_answer.ensures.bytes s.2)

pub returns-clause-end : goal.returns-clause-end
unfolding ran_of
returns-clause-end c =
    let now = c.loop-i.invariant in
    let few = c.in-None.ensures.steps.0.1.0 in
    simp (sym c.judge_run.ensures ∙ c.in_default.is)
    (ap (λ (q : Page). record { answer = Answer.Accepted; page = q }) (sym (page_gone now.1 (omega (arith, few, now.0)))))

pub returns-clause-lines : goal.returns-clause-lines
unfolding answers_of
returns-clause-lines c =
    let now = c.loop-i.invariant in
    let few = c.in-None.ensures.steps.0.1.0 in
    simp (sym c.judge_run.ensures ∙ c.in_default.is) (sym (lines_gone now.1 (omega (arith, few, now.0))))
