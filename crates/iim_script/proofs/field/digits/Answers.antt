use Rattle.iim_script.proofs.Words.{◌∙◌, ap, not, length, sym, arith, position_or_len_is}
use Rattle.iim_script.proofs.Names.{no_digit}
use Rattle.iim_script.proofs.field.digits.Goals as goal

pub returns-then-not-is_decimal : goal.returns-then-not-is_decimal
returns-then-not-is_decimal c =
    let octets = c.args.octets.now in
    sym (position_or_len_is no_digit octets c.loop-at.at 0 (omega arith) c.loop-at.invariant
    (λ within. ap not (sym c.is_decimal.ensures ∙ c.if-not-is_decimal.true)))

pub returns : goal.returns
returns c =
    let octets = c.args.octets.now in
    sym (position_or_len_is no_digit octets (length octets) 0 (omega arith) (λ k within. c.loop-at.invariant k (omega arith)) (λ within. absurd (omega arith)))
