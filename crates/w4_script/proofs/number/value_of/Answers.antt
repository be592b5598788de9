use Rattle.std.proofs.Common.{refl, sym, ◌∙◌, arith}
use Rattle.w4_script.proofs.NumberLaws.{no_digits, one_more, no_digit, past_limit, all_read}
use Rattle.w4_script.proofs.number.value_of.Goals as goal

pub loop-digit-init : goal.loop-digit-init
loop-digit-init c = (omega arith, refl, no_digits)

pub returns-then-not-is_ascii_digit : goal.returns-then-not-is_ascii_digit
returns-then-not-is_ascii_digit c = sym (no_digit c.args.digits.now c.loop-digit.digit-index
    c.loop-digit-test.true (sym c.is_ascii_digit.ensures.value ∙ c.if-not-is_ascii_digit.true))

pub returns-in_err-checked_mul : goal.returns-in_err-checked_mul
returns-in_err-checked_mul c = c.from_residual.ensures
    ∙ sym (past_limit c.loop-digit.value c.loop-digit.digit-index c.args.digits.now c.loop-digit-test.true
    (sym c.is_ascii_digit.ensures.value ∙ c.if-not-is_ascii_digit.false) c.loop-digit.invariant.1
    c.loop-digit.invariant.2 (omega arith))

pub returns-in_err-value : goal.returns-in_err-value
returns-in_err-value c =
    let range = c.if-not-is_ascii_digit.ensures.cases in
    c.from_residual-in_err-value.ensures
    ∙ sym (past_limit c.loop-digit.value c.loop-digit.digit-index c.args.digits.now c.loop-digit-test.true
    (sym c.is_ascii_digit.ensures.value ∙ c.if-not-is_ascii_digit.false) c.loop-digit.invariant.1
    c.loop-digit.invariant.2 (omega (arith, range)))

pub loop-digit-preserved : goal.loop-digit-preserved
loop-digit-preserved c =
    let range = c.if-not-is_ascii_digit.ensures.cases in
    let next = one_more c.loop-digit.value c.loop-digit.digit-index c.args.digits.now c.loop-digit-test.true
    (sym c.is_ascii_digit.ensures.value ∙ c.if-not-is_ascii_digit.false) c.loop-digit.invariant.1
    c.loop-digit.invariant.2 in
    (omega (arith, range), next.0, next.1 ∙ omega (arith, range))

pub returns : goal.returns
returns c = sym (all_read c.loop-digit.value c.loop-digit.digit-index c.args.digits.now
    (omega (arith, c.loop-digit-test.false)) c.loop-digit.invariant.0 c.loop-digit.invariant.1
    c.loop-digit.invariant.2)
