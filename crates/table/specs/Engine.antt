-- What the engine by the table does with a request whose fields are in order, on a page that was judged (RULES 7.6).
-- proofs/Rule.antt shows that this is the step by value.
use Rattle.std.specs.Prelude.{ℕ, Ok, Bool, cond, eqb}
use Rattle.kinds.specs.Numbers.{flag_from}
use Rattle.page_record.specs.declared.Page.{Page}
use Rattle.page_record.specs.Pages.{head_of, page_of}
use Rattle.requests.specs.declared.{Refusal.Refusal, Request.Request}
use Rattle.requests.specs.Answers.{answer_number}
use Rattle.heads.specs.Setters.{with_flag}
use Rattle.lock.specs.declared.Outcome.{Outcome}
use Rattle.lock.specs.Step.{refused_by, stepped}
use Rattle.lock.specs.Applies.{flag_lets}
use Rattle.table.specs.Table.{never, entry_of}

-- why nobody takes it: the step's own flags leave this one out, or else its holder isn't there
abbrev pub why_never : Bool → Refusal
why_never lets = cond lets Refusal.NoHolder Refusal.WrongFlag

-- where it was accepted, the page gets the flag of this number
abbrev pub marked : ℕ → Outcome → Outcome
marked n o =
    cond (eqb (answer_number o.answer) 0)
    (record { answer = o.answer; page = page_of (with_flag (flag_from n) (head_of o.page)) o.page.readers })
    o

-- refused at once where the entry is 255
abbrev pub taken : ℕ → Page → Request → Outcome
taken n p q =
    cond (eqb n never) (refused_by p (why_never (flag_lets q.step p.flag))) (marked n (stepped p q (Ok tt)))

unfoldable pub looked_up : Page → Request → Outcome
looked_up p q = taken (entry_of p.flag q.step q.clean) p q
