-- The first error of a token, and the layer that cannot continue after it.
use Rattle.iim_unpack.proofs.Words.{Bool, Dataset, FieldFault, Head, HeadLeads, IsHeadFault, IsFaultOfObject, IsOctet, IsFaultOfHead, IsFaultOfValue, IsValueFault, Limits, List, None, ObjectLanguage, ObjectIsViable, ObjectToken, Octets, Option, AreViableSections, AreViableSectionsWithHead, Some, State, TokenFault, [], ap, arith, false, first_fault, head_of, head_token, if◌then◌else◌, inl, is_kept, kept, length, max_subfiles, nat_eq, not, number, fault_of_record, of_record, option_map, option_or, place_after_datasets, place_at, refl, section_after, subst, sym, has_number_value, count_fault_on, true, value_fault, value_token, ℕ, ◌++◌, ◌<◌, ◌||◌, ◌∙◌, ◌∷◌, ◌≡◌, ◌≤◌, ◌⊎◌}
use Rattle.std.proofs.Common.{nat_lt, ◌&&◌}
use Rattle.std.proofs.lemmas.Bool.{le-ltb}
use Rattle.iim_dataset.specs.Format.Octets as languages
use Rattle.iim_tables.specs.{Format.Rows.row_of, Format.Records.occurs}
use Rattle.iim_tables.specs.declared.shape.Row.{Row}
use Rattle.iim_fields.specs.{Format.Records.after, Laws.HeadsAreRejectedForFaults, Laws.ValuesAreRejectedForFaults}
use Rattle.iim_fields.specs.Format.Causes.{fault_by_row, fault_on, head_fault, is_first, is_in_order, kept_octets, limits_fault, missing_fault, missing_of, record_fault, room_fault, row_fault, current_datasets}
use Rattle.iim_fields.specs.declared.fault.FieldCause.TheVariants.{RecordOrder}
use Rattle.iim_object.specs.{Format.Objects.MayFollow, Format.Objects.Place, Format.Objects.place_after, Format.Causes.cause_at, Laws.TokensExtendThePlace}
use Rattle.iim_object.specs.States.Reading.{RejectsObjectToken, ObjectReaderStandsAt}
use Rattle.iim_object.specs.declared.reading.fault.SizeCause.{SizeCause}
use Rattle.iim_places.specs.Format.Causes.{layer_of, size_fault_on, RejectsHead, RejectsValue, HeadFits, number_fault, object_fault, subfile_fault}
use Rattle.iim_places.specs.declared.refusal.Layer.{Layer}
use Rattle.iim_places.specs.declared.refusal.Layer.TheVariants as layers
use Rattle.iim_places.proofs.Places.{ValueLeads}

-- ---- the layer of an error of the records or the limits

-- the error is the record layer's
abbrev IsRecords : Option FieldFault → Type 0
IsRecords None = Unit {0}
IsRecords (Some fault) = layer_of fault.cause ≡ layers.Record

abbrev IsLimits : Option FieldFault → Type 0
IsLimits None = Unit {0}
IsLimits (Some fault) = layer_of fault.cause ≡ layers.Limits

row_records : (again : Bool) (row : Option Row) (h : Head) → IsRecords (row_fault again row h)
row_records again row h = grind arith

missing_records : (present : ℕ) (o : Option ℕ) → IsRecords (missing_fault present o)
missing_records present o = grind arith

head_records : (present : ℕ) (has : ℕ → Bool) (h : Head) → IsRecords (head_fault present has h)
head_records present has h =
    by (not (is_in_order present h.rec)) (is_first h.rec (after present)) (row_fault (nat_eq h.rec present && has h.set) (row_of h.rec h.set) h)
    (missing_fault present (missing_of present has)) (row_records (nat_eq h.rec present && has h.set) (row_of h.rec h.set) h)
    (missing_records present (missing_of present has))
  where
    by : (b c : Bool) (x y : Option FieldFault) → IsRecords x → IsRecords y
        → IsRecords (if b then Some (fault_on h RecordOrder) else option_or x (if c then y else None))
    by b c x y h k = grind arith

room_limits : (limits : Limits) (octets fields : ℕ) (h : Head) → IsLimits (room_fault limits octets fields h)
room_limits limits octets fields h = grind arith

value_by : (row : Option Row) (d : Dataset) → IsRecords (fault_by_row row d)
value_by row d = grind arith

rejected_by : (limits : Limits) (ds : List Dataset) (h : Head) (fault : FieldFault) (o rest : Option FieldFault) → IsRecords o → IsLimits rest
    → ((o ≡ None) → AreViableSectionsWithHead ds h) → (AreViableSectionsWithHead ds h → o ≡ None) → option_or o rest ≡ Some fault
    → (AreViableSectionsWithHead ds h → HeadFits limits ds h → ⊥) → RejectsHead (layer_of fault.cause) limits ds h
rejected_by limits ds h fault None None by more alive none is dead = absurd cc
rejected_by limits ds h fault None (Some other) by more alive none is dead =
    let layer : layer_of fault.cause ≡ layers.Limits = grind arith in
    rw layer (alive refl, dead (alive refl))
rejected_by limits ds h fault (Some other) rest by more alive none is dead =
    let layer : layer_of fault.cause ≡ layers.Record = grind arith in
    rw layer (λ goes. let bad : Some other ≡ None = none goes in cc)

-- a head that the records or the limits reject
pub field_head : HeadsAreRejectedForFaults → (limits : Limits) (ds : List Dataset) (h : Head) (f : FieldFault) → IsOctet h.set → AreViableSections ds
    → IsHeadFault limits ds h f
    → IsFaultOfHead limits ds h (fault_of_record f)
field_head dies limits ds h f small alive is =
    let both = dies ds h alive in
    record {
      first = ap (λ (o : Option FieldFault). option_or (option_map fault_of_record o) (option_or (subfile_fault ds h) (object_fault ds h))) is.first;
      dead = rejected_by limits ds h f (record_fault ds h) (limits_fault limits ds h) (head_records (section_after ds) (λ n. occurs n (current_datasets ds)) h)
          (room_limits limits (kept_octets ds) (length (kept ds)) h) (λ none. both.0 (none, small)) (λ at. (both.1 at).0) is.first
          (λ at room. is.dead at room.kept);
    }

records_of : (o : Option FieldFault) (f : FieldFault) → IsRecords o → o ≡ Some f → layer_of f.cause ≡ layers.Record
records_of o f h is = grind arith

-- a value that the records reject
pub field_value : (ds : List Dataset) (d : Dataset) (f : FieldFault) → IsValueFault ds d f → IsFaultOfValue ds d (fault_of_record f)
field_value ds d f is = record {
  first = ap (λ (o : Option FieldFault). option_or (option_map fault_of_record o) (number_fault ds d)) is.first;
  dead = subst (λ (l : Layer). RejectsValue l ds d) (sym (records_of (value_fault d) f (value_by (row_of d.rec d.set) d) is.first)) is.dead;
}

-- ---- heads of subfiles and of the end

-- the record is that of a subfile or of the end
abbrev pub IsObjects : ℕ → Type 0
IsObjects r = (r ≡ 8) ⊎ (r ≡ 9)

not_kept : (r : ℕ) → IsObjects r → is_kept r ≡ false
not_kept r is = grind arith

objects : (r : ℕ) → IsObjects r → (nat_eq r 8 || nat_eq r 9) ≡ true
objects r is = grind arith

no_first : HeadsAreRejectedForFaults → (limits : Limits) (ds : List Dataset) (h : Head) → AreViableSections ds → AreViableSectionsWithHead ds h
    → IsObjects h.rec
    → first_fault limits ds h ≡ None
no_first dies limits ds h alive at is =
    let none : record_fault ds h ≡ None = ((dies ds h alive).1 at).0 in
    let room : limits_fault limits ds h ≡ None = rw (not_kept h.rec is) refl in
    λ i. option_or (none i) (room i)

pub head_within_limits : (limits : Limits) (ds : List Dataset) (h : Head) → IsObjects h.rec → (h.rec ≡ 8 → length (of_record 8 ds) < max_subfiles)
    → HeadFits limits ds h
head_within_limits limits ds h is few = record { kept = λ kept. absurd (let bad : true ≡ false = sym kept ∙ not_kept h.rec is in cc); subfiles = few }

-- After `max_subfiles` subfiles, the head of another is one too many.
pub too_many_head : HeadsAreRejectedForFaults → (limits : Limits) (ds : List Dataset) (h : Head) (fault : TokenFault) → AreViableSections ds
    → AreViableSectionsWithHead ds h
    → h.rec ≡ 8
    → max_subfiles ≤ length (of_record 8 ds) → fault ≡ count_fault_on h → IsFaultOfHead limits ds h fault
too_many_head dies limits ds h fault alive at eight many same =
    let none = no_first dies limits ds h alive at (inl eight) in
    let full : nat_lt (length (of_record 8 ds)) max_subfiles ≡ false = le-ltb (length (of_record 8 ds)) max_subfiles many in
    let is : nat_eq h.rec 8 ≡ true = ap (λ n. nat_eq n 8) eight in
    let second : subfile_fault ds h ≡ Some (count_fault_on h) = rw (is, full) refl in
    subst (IsFaultOfHead limits ds h) (sym same) (record {
      first = λ i. option_or (option_map fault_of_record (none i)) (option_or (second i) (object_fault ds h));
      dead = (at, λ room. let less = room.subfiles eight in omega (arith, less, many));
    })

-- The object layer cannot continue after the token and those before it.
rejected_after : TokensExtendThePlace → (old : Option State) (p q : Place) (token : ObjectToken) (cause : SizeCause) → RejectsObjectToken old token cause
    → ObjectReaderStandsAt old p
    → MayFollow p token
    → place_after p token ≡ q → (ObjectIsViable q → ⊥) × (cause_at p token ≡ Some cause)
rejected_after follow old p q token cause refuses stands may leads =
    let both = refuses p stands may in (
      (λ lives. both.0.1 (subst (languages.IsViablePrefix ObjectLanguage) (follow p token may) (subst ObjectIsViable (sym leads) lives))),
      both.1,
    )

-- the object rejects a head
pub object_head : HeadsAreRejectedForFaults → TokensExtendThePlace → (limits : Limits) (ds : List Dataset) (h : Head) (fault : TokenFault) (old : Option State)
    → AreViableSections ds → AreViableSectionsWithHead ds h
    → IsObjects h.rec → (h.rec ≡ 8 → length (of_record 8 ds) < max_subfiles) → HeadLeads ds h → ObjectReaderStandsAt old (place_after_datasets ds)
    → IsFaultOfObject old (head_token h.rec h.count) h fault → IsFaultOfHead limits ds h fault
object_head dies follow limits ds h fault old alive at is few leads stands (cause, refuses, same) =
    let none = no_first dies limits ds h alive at is in
    let room : subfile_fault ds h ≡ None = no_subfile ds h is few in
    let dead = rejected_after follow old (place_after_datasets ds) (place_at ds h) (head_token h.rec h.count) cause refuses stands leads.0 leads.1 in
    let third : object_fault ds h ≡ Some (size_fault_on h cause) = rw (objects h.rec is, dead.1) refl in
    subst (IsFaultOfHead limits ds h) (sym same) (record {
      first = λ i. option_or (option_map fault_of_record (none i)) (option_or (room i) (third i));
      dead = (at, head_within_limits limits ds h is few, dead.0);
    })
  where
    no_subfile : (ds : List Dataset) (h : Head) → IsObjects h.rec → (h.rec ≡ 8 → length (of_record 8 ds) < max_subfiles) → subfile_fault ds h ≡ None
    no_subfile ds h is few = grind arith

-- the object rejects the number of a value
pub object_value : ValuesAreRejectedForFaults → TokensExtendThePlace → (ds : List Dataset) (d : Dataset) (fault : TokenFault) (old : Option State)
    → Octets d.octets
    → AreViableSectionsWithHead ds (head_of d)
    → AreViableSections (ds ++ d ∷ []) → has_number_value d.rec ≡ true → ValueLeads ds d → ObjectReaderStandsAt old (place_at ds (head_of d))
    → IsFaultOfObject old (value_token d.rec d.set (number d.octets)) (head_of d) fault → IsFaultOfValue ds d fault
object_value dies follow ds d fault old octets at alive tells leads stands (cause, refuses, same) =
    let none : value_fault d ≡ None = (dies ds d at octets).1 alive in
    let dead = rejected_after follow old (place_at ds (head_of d)) (place_after_datasets (ds ++ d ∷ [])) (value_token d.rec d.set
    (number d.octets)) cause refuses
    stands leads.0 leads.1 in
    let second : number_fault ds d ≡ Some (size_fault_on (head_of d) cause) = rw (tells, dead.1) refl in
    subst (IsFaultOfValue ds d) (sym same) (record { first = λ i. option_or (option_map fault_of_record (none i)) (second i); dead = (alive, dead.0) })
