-- The capacity of a store, and the datasets of its entries.
use Rattle.std.specs.Prelude.{ℕ, ◌-◌, List, [], ◌∷◌, take, drop}
use Rattle.iim_dataset.specs.Format.Datasets.{Dataset}
use Rattle.iim_fields.specs.declared.store.Entry.{Entry}

-- the capacity of a store: of octets, and of entries
pub record Room : Type 0 where
  pub octets : ℕ
  pub entries : ℕ

-- the datasets of entries with these octets, of which the first entry begins at `from`
abbrev pub fields_from : ℕ → List Entry → List ℕ → List Dataset
fields_from from [] xs = []
fields_from from (e ∷ es) xs =
    record { rec = e.rec; set = e.set; octets = take (e.end - from) xs } ∷ fields_from e.end es (drop (e.end - from) xs)
