-- The models of iterators over an envelope: what remains to be iterated.
use Rattle.std.specs.Prelude.{ℕ, List}
use Rattle.iim_fields.specs.{Format.Records.all_data, States.Stores.fields_from}
use Rattle.iim_fields.specs.declared.walk.{DataIter.DataIter, FieldIter.FieldIter}
use Rattle.iim_dataset.specs.Format.Datasets.{Dataset}

-- the remaining datasets
abbrev pub rest_of : FieldIter → List Dataset
rest_of walk = fields_from walk.from walk.entries.now walk.octets.now

-- the remaining data
abbrev pub data_left : DataIter → List (List ℕ)
data_left walk = all_data walk.rec walk.set (rest_of walk.fields)
