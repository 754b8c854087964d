use Rattle.iim_script.proofs.Words.{◌≡◌, ◌≤◌, List, ◌++◌, length, take, flat_map, Dataset, rest_of, field_line}
use Rattle.std.proofs.Common.{vec_len}
use Rattle.iim_script.proofs.printer.push_fields.Given as goal

-- some datasets were printed
abbrev pub invariant-loop-rec : goal.invariant-loop-rec
invariant-loop-rec l = record {
  done : List Dataset;
  parts : l.fn.envelope ≡ done ++ rest_of l.fields;
  within : l.end ≤ vec_len l.text;
  shown : take l.end l.text.items ≡ l.fn.text.items ++ flat_map field_line done;
}

abbrev pub decreases-loop-rec : goal.decreases-loop-rec
decreases-loop-rec l = length (rest_of l.fields)
