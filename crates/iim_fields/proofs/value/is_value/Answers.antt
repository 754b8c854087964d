use Rattle.std.proofs.Common.{arith}
use Rattle.iim_fields.proofs.Table.{file_format_length, fault_in_bounds}
use Rattle.iim_fields.proofs.value.is_value.Goals as goal

pub has_file_format-requires : goal.has_file_format-requires
has_file_format-requires c = grind (arith, file_format_length, fault_in_bounds)
