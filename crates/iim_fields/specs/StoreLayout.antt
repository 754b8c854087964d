-- The layout of a store of datasets, and of a set of numbers.
use Rattle.std.specs.Prelude.{◌≡◌, ℕ, ◌+◌, ◌-◌, List, [], ◌∷◌, ◌++◌, length, drop, vec_capacity, Bool, true, ◌&&◌, nat_le, ◌/◌, ◌%◌, ◌==◌, map, slice_index}
use Rattle.std.specs.{Int.bit_at, List.range_with_len}
use Rattle.iim_dataset.specs.Format.Datasets.{Dataset}
use Rattle.iim_fields.specs.{Format.Causes.joined, States.Stores.Room, States.Stores.fields_from}
use Rattle.iim_fields.specs.declared.store.{Entry.Entry, Store.Store}

-- the entries end in order, at most n octets after `from`
abbrev pub entries_are_sound : ℕ → List Entry → ℕ → Bool
entries_are_sound from [] n = true
entries_are_sound from (e ∷ es) n = nat_le from e.end && (nat_le (e.end - from) n && entries_are_sound e.end es (n - (e.end - from)))

-- the entries of datasets whose octets begin at `from`
abbrev pub entries_of : ℕ → List Dataset → List Entry
entries_of from [] = []
entries_of from (d ∷ ds) =
    record { rec = d.rec; set = d.set; end = from + length d.octets } ∷ entries_of (from + length d.octets) ds

-- the capacity of a store: that of its vectors
abbrev pub store_room : Store → Room
store_room store = record { octets = store.octets.room; entries = vec_capacity store.entries }

-- The store has the data of these datasets, joined, followed by these octets, and has an entry for
-- each dataset.
pub record HasStored (store : Store) (ds : List Dataset) (more : List ℕ) : Type 0 where
  pub entries : store.entries.items ≡ entries_of 0 ds
  pub octets : store.octets.items ≡ joined ds ++ more

-- the datasets in a store
abbrev pub fields_of : Store → List Dataset
fields_of store = fields_from 0 store.entries.items store.octets.items

-- the offset at which the last entry ends, if the first entry begins at `from`
abbrev pub ends_at : ℕ → List Entry → ℕ
ends_at from [] = from
ends_at from (e ∷ es) = ends_at e.end es

-- the octets of the dataset in progress: those after the stored ones
abbrev pub current_octets : Store → List ℕ
current_octets store = drop (ends_at 0 store.entries.items) store.octets.items

-- whether each number from 0 to 255 is in the set, given the bits in words of 64
unfoldable pub members : List ℕ → List Bool
members words = map (λ n. bit_at (slice_index words (n / 64)) (n % 64) == 1) (range_with_len 0 256)
