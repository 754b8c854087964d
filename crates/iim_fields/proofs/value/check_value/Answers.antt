use Rattle.std.proofs.Common.{arith}
use Rattle.iim_fields.proofs.Table.{size_length}
use Rattle.iim_fields.proofs.value.check_value.Goals as goal

pub encoded_number-requires : goal.encoded_number-requires
encoded_number-requires c = grind (arith, size_length)
