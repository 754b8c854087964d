use Rattle.std.proofs.Common.{rules}
use Rattle.std.proofs.lemmas.Fmt.{length-decimal-le}
use Rattle.iim_output.proofs.lines.push_accepted.Goals as goal

pub write_digits-used_at-requires : goal.write_digits-used_at-requires
write_digits-used_at-requires c = search (rules, length-decimal-le 20)

pub write_word-accepted-requires : goal.write_word-accepted-requires
write_word-accepted-requires c = search (rules, length-decimal-le 20)

pub write_digits-number_at-requires : goal.write_digits-number_at-requires
write_digits-number_at-requires c = search (rules, length-decimal-le 20)
