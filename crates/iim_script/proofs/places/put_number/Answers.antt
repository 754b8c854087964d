use Rattle.std.proofs.Common.{arith}
use Rattle.std.proofs.lemmas.Fmt.{decimal_digit}
use Rattle.iim_script.proofs.Put.{two_digits, three_digits}
use Rattle.iim_script.proofs.places.put_number.Goals as goal

pub returns-then-number-lt10-clause-written : goal.returns-then-number-lt10-clause-written
returns-then-number-lt10-clause-written c = grind (arith, decimal_digit, two_digits, three_digits)

pub returns-then-tens-lt10-clause-written : goal.returns-then-tens-lt10-clause-written
returns-then-tens-lt10-clause-written c = grind (arith, decimal_digit, two_digits, three_digits)

pub returns-clause-written : goal.returns-clause-written
returns-clause-written c = grind (arith, decimal_digit, two_digits, three_digits)
