-- What the readers of an open handle return. A reader over the ticket returns what the call of iim_c over the ticket of the state returns, and
-- the ticket is in a buffer of the caller. A reader over a complete envelope returns the data of a dataset.
use Rattle.std.specs.Prelude.{◌≡◌, ℕ, ◌<◌, ◌≤◌, ◌⊎◌, ◌++◌, if◌then◌else◌, is_some, List, length, take, drop, slice_get}
use Rattle.std.specs.declared.option.Option.{Option}
use Rattle.std.specs.declared.option.Option.TheVariants.{None, Some}
use Rattle.iim_dataset.specs.Format.Datasets.{Dataset}
use Rattle.iim_fields.specs.Format.Records.{all_data}
use Rattle.iim_places.specs.Format.Admitted.{Value, Admits}
use Rattle.iim_unpack.specs.States.Unpacking.{Unpacking, IsDoneWith, IsDone}
use Rattle.iim_unpack.specs.States.Restored.{WritesTicketOf}
use Rattle.iim_c.specs.Format.Answers.{status_answer, short_answer}
use Rattle.iim_c.specs.Format.Statuses as status
use Rattle.iim_c.specs.Format.Tickets.{ReturnsFields, ReturnsHeader, ReturnsSizes}
use Rattle.iim_c.specs.declared.answer.IimAnswer.{IimAnswer}
use Rattle.iim_c.specs.declared.{field.IimDataset.IimDataset, header.IimMessage.IimMessage, sizes.IimObject.IimObject}
use Rattle.iim_handle.specs.Format.{bad_handle, failed}

-- ---- readers over the ticket

-- No ticket is in the buffer: an octet was rejected before; or the buffer is too short.
abbrev pub IsUnsaved : Unpacking → List ℕ → IimAnswer → Type 0
IsUnsaved u out answer =
    ((octet : ℕ) × (u.refused ≡ Some octet) × (answer ≡ status_answer failed))
    ⊎ ((count : ℕ) × (u.refused ≡ None) × WritesTicketOf u out count × (length out < count) × (answer ≡ short_answer 0 count))

-- The ticket of the state is in the buffer, and a call over it returned this, beside the lengths of the envelope so far and of the ticket.
pub record ReadsTicket (Returns : List ℕ → IimAnswer → Type 0) (u : Unpacking) (out : List ℕ) (answer : IimAnswer) : Type 0 where
  pub accepts : u.refused ≡ None
  pub count : ℕ
  pub writes : WritesTicketOf u out count
  pub fits : count ≤ length out
  pub told : IimAnswer
  pub returns : Returns (take count out) told
  pub answer_is : answer ≡ record told { octet = u.octets; ticket = count }

-- The array has all datasets so far; or it is unchanged.
abbrev pub UnpackerHasFields : Unpacking → List ℕ → List IimDataset → List IimDataset → IimAnswer → Type 0
UnpackerHasFields u out old new answer =
    (IsUnsaved u out answer × (new ≡ old)) ⊎ ReadsTicket (λ ticket told. ReturnsFields ticket 0 old new told) u out answer

-- The message has the header and the trailer so far; or it is unchanged.
abbrev pub UnpackerHasHeader : Unpacking → List ℕ → IimMessage → IimMessage → IimAnswer → Type 0
UnpackerHasHeader u out old new answer =
    (IsUnsaved u out answer × (new ≡ old)) ⊎ ReadsTicket (λ ticket told. ReturnsHeader ticket new told) u out answer

-- The object has the sizes so far; or it is unchanged.
abbrev pub UnpackerHasSizes : Unpacking → List ℕ → IimObject → IimObject → IimAnswer → Type 0
UnpackerHasSizes u out old new answer =
    (IsUnsaved u out answer × (new ≡ old)) ⊎ ReadsTicket (λ ticket told. ReturnsSizes ticket new told) u out answer

-- The handle is left as it is. A call on a closed handle changes nothing.
abbrev pub HandleHasFields : Option Unpacking → Option Unpacking → List ℕ → List ℕ → List IimDataset → List IimDataset → IimAnswer → Type 0
HandleHasFields (Some u) state before out old new answer = (state ≡ Some u) × UnpackerHasFields u out old new answer
HandleHasFields None state before out old new answer = (state ≡ None) × (out ≡ before) × (new ≡ old) × (answer ≡ status_answer bad_handle)

abbrev pub HandleHasHeader : Option Unpacking → Option Unpacking → List ℕ → List ℕ → IimMessage → IimMessage → IimAnswer → Type 0
HandleHasHeader (Some u) state before out old new answer = (state ≡ Some u) × UnpackerHasHeader u out old new answer
HandleHasHeader None state before out old new answer = (state ≡ None) × (out ≡ before) × (new ≡ old) × (answer ≡ status_answer bad_handle)

abbrev pub HandleHasSizes : Option Unpacking → Option Unpacking → List ℕ → List ℕ → IimObject → IimObject → IimAnswer → Type 0
HandleHasSizes (Some u) state before out old new answer = (state ≡ Some u) × UnpackerHasSizes u out old new answer
HandleHasSizes None state before out old new answer = (state ≡ None) × (out ≡ before) × (new ≡ old) × (answer ≡ status_answer bad_handle)

-- ---- readers over a complete envelope

-- the answer if the envelope is not complete: an octet was rejected before, or the envelope can continue
abbrev pub incomplete_answer : Unpacking → IimAnswer
incomplete_answer u = status_answer (if is_some u.refused then failed else status.more)

-- The datasets are those of the envelope that the unpacker has read.
pub record HasDatasets (u : Unpacking) (ds : List Dataset) : Type 0 where
  pub done : IsDone u
  pub fields : (p : List ℕ) (a : ℕ) (v : Value) → IsDoneWith u p a → Admits p v → ds ≡ v.fields

-- The data are at the front of the buffer, and the rest is unchanged; or they do not fit, or there is no such dataset, and the buffer is unchanged.
abbrev pub ReturnsData : Option (List ℕ) → List ℕ → List ℕ → IimAnswer → Type 0
ReturnsData None old new answer = (new ≡ old) × (answer ≡ status_answer status.none)
ReturnsData (Some xs) old new answer =
    ((length xs ≤ length old) × (new ≡ xs ++ drop (length xs) old) × (answer ≡ record (status_answer status.done) { written = length xs }))
    ⊎ ((length old < length xs) × (new ≡ old) × (answer ≡ short_answer (length xs) 0))

-- The data of the dataset with the index n of those with this record and number.
abbrev pub UnpackerHasField : Unpacking → (rec set n : ℕ) → List ℕ → List ℕ → IimAnswer → Type 0
UnpackerHasField u rec set n old new answer =
    ((ds : List Dataset) × HasDatasets u ds × ReturnsData (slice_get (all_data rec set ds) n) old new answer)
    ⊎ ((IsDone u → ⊥) × (new ≡ old) × (answer ≡ incomplete_answer u))

-- The number of datasets with this record and number.
abbrev pub UnpackerHasCount : Unpacking → (rec set : ℕ) → IimAnswer → Type 0
UnpackerHasCount u rec set answer =
    ((ds : List Dataset) × HasDatasets u ds × (answer ≡ record (status_answer status.done) { written = length (all_data rec set ds) }))
    ⊎ ((IsDone u → ⊥) × (answer ≡ incomplete_answer u))

abbrev pub HandleHasField : Option Unpacking → Option Unpacking → (rec set n : ℕ) → List ℕ → List ℕ → IimAnswer → Type 0
HandleHasField (Some u) state rec set n old new answer = (state ≡ Some u) × UnpackerHasField u rec set n old new answer
HandleHasField None state rec set n old new answer = (state ≡ None) × (new ≡ old) × (answer ≡ status_answer bad_handle)

abbrev pub HandleHasCount : Option Unpacking → Option Unpacking → (rec set : ℕ) → IimAnswer → Type 0
HandleHasCount (Some u) state rec set answer = (state ≡ Some u) × UnpackerHasCount u rec set answer
HandleHasCount None state rec set answer = (state ≡ None) × (answer ≡ status_answer bad_handle)
