-- What remains of an iteration over the datasets with one record and number.
use Rattle.std.specs.Prelude.{ℕ, List}
use Rattle.iim_fields.specs.Format.Records.{all_data}
use Rattle.iim_fields.specs.States.Walks.{rest_of}
use Rattle.iim_handle.specs.declared.data_of.DataOf.{DataOf}

-- the data that remain
abbrev pub remaining_data : DataOf → List (List ℕ)
remaining_data walk = all_data walk.rec walk.set (rest_of walk.fields)
