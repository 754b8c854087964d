use Rattle.iim_script.proofs.shown.escaped.Goals as goal

pub returns-in_default-clause-none : goal.returns-in_default-clause-none
returns-in_default-clause-none c = λ octet digits. c.in_default.ensures.none digits.0 digits.2

pub returns-in_default-hex_value-clause-none : goal.returns-in_default-hex_value-clause-none
returns-in_default-hex_value-clause-none c = λ octet digits. c.in_default-hex_value.ensures.none digits.1 digits.3
