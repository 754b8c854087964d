use Rattle.std.proofs.Common.{arith}
use Rattle.iim_fields.proofs.Table.{file_format_length, admitted_length}
use Rattle.iim_fields.proofs.value.value_fault.Goals as goal

pub has_file_format-requires : goal.has_file_format-requires
has_file_format-requires c = grind (arith, file_format_length, admitted_length)
