use Rattle.std.proofs.Common.{◌≤◌, ◌+◌, ◌-◌, ◌*◌, ◌^◌, get_or, ◌∙◌, sym, arith}
use Rattle.vac_lines.proofs.Digits.{value_reaches, value_found}
use Rattle.vac_lines.proofs.numbers.decimal_value.Goals as goal

pub returns-in_err-checked_mul : goal.returns-in_err-checked_mul
returns-in_err-checked_mul c =
    let at = c.loop-digit in
    let great : 2 ^ 64 ≤ 10 * at.number + (get_or c.args.digits.now at.digit-index 0 - 48) =
    omega (arith, c.in_err-checked_mul.ensures) in
    c.from_residual.ensures ∙ sym (value_reaches (2 ^ 64) c.args.digits.now at.digit-index at.number at.invariant.value
    (omega arith) great)

pub returns-in_err-number : goal.returns-in_err-number
returns-in_err-number c =
    let at = c.loop-digit in
    let great : 2 ^ 64 ≤ 10 * at.number + (get_or c.args.digits.now at.digit-index 0 - 48) =
    omega (arith, c.in_err-number.ensures, c.in_ok-checked_mul.ensures, c.from.ensures) in
    c.from_residual-in_err-number.ensures ∙ sym (value_reaches
    (2 ^ 64) c.args.digits.now at.digit-index at.number at.invariant.value (omega arith) great)

pub returns : goal.returns
returns c =
    let at = c.loop-digit in
    value_found (2 ^ 64) c.args.digits.now at.digit-index at.number at.invariant.value
    (omega arith) at.invariant.digits at.invariant.bound
