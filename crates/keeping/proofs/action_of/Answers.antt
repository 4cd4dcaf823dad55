-- The laws of `Spelled`, one for each way that a byte goes.
-- Assumes nothing.
use Rattle.std.proofs.Common.{sym, ◌∙◌, arith}
use Rattle.keeping.proofs.Spelled.{no_digit, over, more, done}
use Rattle.keeping.proofs.action_of.Goals as goal

pub returns-in_err-digit : goal.returns-in_err-digit
returns-in_err-digit c =
    let l = c.loop-b in
    c.from_residual.ensures ∙ no_digit c.args.text.now l.b-index l.value _ c.loop-b-test.true c.from.ensures c.in_err-digit.ensures.cases ∙ sym l.invariant

-- a number of more than 32 bits
pub returns-in_err-checked_mul : goal.returns-in_err-checked_mul
returns-in_err-checked_mul c =
    let l = c.loop-b in
    let d = c.in_ok-digit in
    c.from_residual-in_err-checked_mul.ensures ∙ over c.args.text.now l.b-index l.value _ c.loop-b-test.true c.from.ensures d.digit d.ensures.cases d.ensures.value (omega (arith, c.in_err-checked_mul.ensures)) ∙ sym l.invariant

pub returns-in_err-value : goal.returns-in_err-value
returns-in_err-value c =
    let l = c.loop-b in
    let d = c.in_ok-digit in
    c.from_residual-in_err-value.ensures ∙ over c.args.text.now l.b-index l.value _ c.loop-b-test.true c.from.ensures d.digit d.ensures.cases d.ensures.value (omega (arith, c.in_ok-checked_mul.ensures, c.in_err-value.ensures)) ∙ sym l.invariant

-- one digit more
pub loop-b-preserved : goal.loop-b-preserved
loop-b-preserved c =
    let l = c.loop-b in
    let d = c.in_ok-digit in
    rw (c.in_ok-value.ensures.1, c.in_ok-checked_mul.ensures.1)
    (l.invariant ∙ more c.args.text.now l.b-index l.value _ c.loop-b-test.true c.from.ensures d.digit d.ensures.cases d.ensures.value (omega (arith, c.in_ok-checked_mul.ensures, c.in_ok-value.ensures)))

pub returns : goal.returns
returns c = done c.args.text.now c.loop-b.b-index c.loop-b.value (omega arith) ∙ sym c.loop-b.invariant
