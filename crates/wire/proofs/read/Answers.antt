-- What is judged are the fields at their places, and the three laws of reading say what follows where the length is wrong, where
-- bytes 3 to 7 aren't zero, and where the fields decide.
use Rattle.std.specs.Prelude.{Result, Ok, Err}
use Rattle.std.proofs.Common.{◌≡◌, ℕ, List, arith, rules, ap, sym, ◌∙◌, get_or}
use Rattle.requests.specs.declared.{Refusal.Refusal, Request.Request}
use Rattle.requests.specs.Requests.{judged}
use Rattle.wire.specs.Requests.{fields_of, reading_of, or_bad_field}
use Rattle.wire.proofs.Premises.{read_ragged, read_fields, read_marked}
use Rattle.wire.proofs.read.Goals as goal

-- the fields at their places, but for the value
abbrev holding : List ℕ → ℕ → Request
holding l v = record { step = get_or l 0 0; bucket = record { 0 = get_or l 1 0 }; clean = get_or l 2 0; value = v }

-- with the value, they are the fields, and what is judged of them is what is judged of these
fields : (l : List ℕ) (v : ℕ) → v ≡ (fields_of l).value → holding l v ≡ fields_of l
fields l v e = ap (holding l) e

judged_so : (l : List ℕ) (v : ℕ) (w : Result (Unit {0}) Refusal) → v ≡ (fields_of l).value → w ≡ judged (holding l v)
    → w ≡ judged (fields_of l)
judged_so l v w e j = j ∙ ap judged (fields l v e)

pub returns-then-bytes-ne-LINE : goal.returns-then-bytes-ne-LINE
returns-then-bytes-ne-LINE c = read_ragged c.args.bytes.now c.if-bytes-ne-LINE.true

pub returns-then-not-is_blank : goal.returns-then-not-is_blank
returns-then-not-is_blank c =
    ap Err (c.or_bad_field.ensures ∙ ap or_bad_field (judged_so c.args.bytes.now _ _ c.u64_at.ensures c.judge-verdict.ensures))
    ∙ read_marked c.args.bytes.now (omega arith) (sym c.is_blank.ensures ∙ c.if-not-is_blank.true)

pub returns : goal.returns
returns c =
    let l = c.args.bytes.now in
    let verdict = judged_so l _ _ c.u64_at.ensures c.judge-verdict.ensures in
    ap Ok (fields l _ c.u64_at.ensures) ∙ ap (reading_of (fields_of l)) (sym c.in_ok-verdict.was ∙ verdict)
    ∙ read_fields l (omega arith) (sym c.is_blank.ensures ∙ c.if-not-is_blank.false)

pub returns-in_err-verdict : goal.returns-in_err-verdict
returns-in_err-verdict c =
    let l = c.args.bytes.now in
    let verdict = judged_so l _ _ c.u64_at.ensures c.judge-verdict.ensures in
    let refused : c.from_residual.result ≡ Err c.in_err-verdict.field-0.0 = search rules in
    refused ∙ ap (reading_of (fields_of l)) (sym c.in_err-verdict.was ∙ verdict)
    ∙ read_fields l (omega arith) (sym c.is_blank.ensures ∙ c.if-not-is_blank.false)
