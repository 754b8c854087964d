-- Octets of one position: a reader in the state after the one is in the state after the other.
use Rattle.std.proofs.Common.{◌≡◌, ℕ, ◌+◌, Bool, true, false, if◌then◌else◌, ◌==◌, nat_eq, List, [], ◌∷◌, ◌++◌, length, sum, Option, refl, sym, subst, ◌∙◌, arith, length-append}
use Rattle.iim_places.proofs.Words.{Octets, Dataset, head_of, of_record, count_octets, PartialDataset, InTag, InData, ReadsAsDatasets, StoresPartial, Head, ne_eqb, DatasetPlace, sum_append, HasChecked, HasAcceptedHead, kept, section_after, AreViableSections, AreViableSectionsWithHead, ValuesAreRejectedForFaults, Limits, RecordPlace, last_more, SubfileBegun, numbers_of, place_after_datasets, place_ended, State, stated_numbers, text_so_far, ReachesSavedState, MessagePlace, object_of, LayerLemmas, place_at, ObjectIsViable, object_so_far, section, AllCanContinue, IsIncomplete, is_non_empty, phase_of, heads_of}
use Rattle.iim_places.proofs.{Plain.last_none, Following.alive_of, Lasts.last_sections, Tickets.count_of, Tickets.total_of, StreamResults.open_at}
use Rattle.iim_places.proofs.SameRecords.{SameRecords, SameFields, SameNumbers, IsStated, same_more, same_numbers, none_other}
use Rattle.iim_fields.specs.States.Standing as records
use Rattle.iim_fields.specs.declared.order.Order.{Order}
use Rattle.iim_object.specs.Format.Objects as objects
use Rattle.iim_object.specs.States.Reading as reading
use Rattle.wire_message.specs.States.Reading as wire
use Rattle.wire_message.specs.States.Reading.{ReachesMessageState}
use Rattle.wire_message.specs.declared.place.Place.{Place as Message}

-- ---- the partial dataset

-- the same octets of a tag; or the same head, the same number of octets of its data, and, except
-- for a subfile, equal ones
pub record SameData (h : Head) (xs : List ℕ) (k : Head) (ys : List ℕ) : Type 0 where
  pub head : h ≡ k
  pub many : length xs ≡ length ys
  pub given : (if h.rec == 8 then [] else xs) ≡ (if k.rec == 8 then [] else ys)

abbrev pub SameBegun : PartialDataset → PartialDataset → Type 0
SameBegun (InTag x) (InTag y) = x ≡ y
SameBegun (InData h xs) (InData k ys) = SameData h xs k ys
SameBegun c d = ⊥

-- the octets of a tag, if no dataset has ended the envelope
abbrev pub HeldAlike : List Dataset → PartialDataset → PartialDataset → Type 0
HeldAlike ds (InTag x) (InTag y) = nat_eq (section_after ds) 9 ≡ true → x ≡ y
HeldAlike ds b c = Unit {0}

pub same_begun : (p q : List ℕ) (ds es : List Dataset) (c d : PartialDataset) → ReadsAsDatasets count_octets p ds c → ReadsAsDatasets count_octets q es d
    → section ds c ≡ section es d
    → phase_of ds c ≡ phase_of es d → HeldAlike ds c d → SameBegun c d
same_begun p q ds es c d r s sec e held = grind arith

-- ---- the records

same_place_same : (o : Order) (ds es : List Dataset) → records.IsOrderOf o ds → section_after ds ≡ section_after es → SameRecords ds es → records.IsOrderOf o es
same_place_same o ds es t is s = grind arith

checked_as : (check : Option RecordPlace) (ds es : List Dataset) → HasChecked check ds → AreViableSections es → section_after ds ≡ section_after es
    → SameRecords ds es → HasChecked check es
checked_as check ds es at alive present same = grind arith

-- the record layer can continue after a value, if it can after datasets of the same records
pub value_as : ValuesAreRejectedForFaults → (ds es : List Dataset) (d : Dataset) → Octets d.octets → AreViableSections (ds ++ d ∷ [])
    → AreViableSectionsWithHead es (head_of d)
    → AreViableSections (es ++ d ∷ [])
value_as law ds es d octets alive at = (law es d at octets).0 ((law ds d (d, refl, alive) octets).1 alive)

taken_as : ValuesAreRejectedForFaults → (check : Option RecordPlace) (ds es : List Dataset) (h : Head) → HasAcceptedHead check ds h
    → AreViableSectionsWithHead es h
    → SameRecords ds es → HasAcceptedHead check es h
taken_as law check ds es h at alive same =
    let present : (d : Dataset) → section_after (ds ++ d ∷ []) ≡ section_after (es ++ d ∷ []) = λ d. last_more 0 ds d ∙ sym (last_more 0 es d) in
    record {
      checking = λ value. grind (arith, at.checking value, same_place_same, same_more, present);
      subfile = λ eight d is octets.
          let was = at.subfile eight d is octets in
          let lives = value_as law ds es d octets was.alive (rw (← is) at alive) in
          checked_as check (ds ++ d ∷ []) (es ++ d ∷ []) was lives (present d) (same_more ds es d d refl same);
    }

pub fields_after : (fields : records.FieldsPlace) (ds es : List Dataset) → records.HasReadDatasets fields ds → AreViableSections es
    → section_after ds ≡ section_after es → kept ds ≡ kept es → SameRecords ds es → records.HasReadDatasets fields es
fields_after fields ds es at alive present keeps same = grind arith

pub fields_in : ValuesAreRejectedForFaults → (fields : records.FieldsPlace) (ds es : List Dataset) (h : Head) (taken : List ℕ)
    → records.IsReadingDataset fields ds h taken → AreViableSectionsWithHead es h → kept ds ≡ kept es → SameRecords ds es
    → records.IsReadingDataset fields es h taken
fields_in law fields ds es h taken at alive keeps same = grind (arith, taken_as)

-- ---- the object

-- positions of the object with the same numbers, heads and octets
pub record SameObject (p q : objects.Place) : Type 0 where
  pub numbers : SameNumbers p.stated q.stated
  pub heads : length p.lengths ≡ length q.lengths
  pub octets : sum p.lengths ≡ sum q.lengths

pub object_as : (reader : Option State) (p q : objects.Place) → reading.ObjectReaderStandsAt reader p → SameObject p q → IsStated q → ObjectIsViable q
    → reading.ObjectReaderStandsAt reader q
object_as reader p q at same is lives = grind arith

-- the datasets have the same fields, and objects of the same length
pub record SameWhole (ds es : List Dataset) : Type 0 where
  pub fields : SameFields ds es
  pub octets : length (object_of ds) ≡ length (object_of es)

pub object_lives_after_as : (ds es : List Dataset) → SameWhole ds es → SameObject (place_after_datasets ds) (place_after_datasets es)
object_lives_after_as ds es same = grind (arith, same_numbers, count_of, total_of)

-- the position of the object at a head, by the tests of its record
abbrev pub at_tests : Bool → Bool → List Dataset → ℕ → objects.Place
at_tests b c ds count = if b then objects.place_after (place_after_datasets ds) (SubfileBegun count) else if c then place_ended ds else place_after_datasets ds

pub object_at : (ds es : List Dataset) (h : Head) → SameObject (place_after_datasets ds) (place_after_datasets es) → SameObject (place_at ds h) (place_at es h)
object_at ds es h before = grind (arith, length-append, sum_append)

pub object_at_as : (ds es : List Dataset) (h : Head) → SameWhole ds es → SameObject (place_at ds h) (place_at es h)
object_at_as ds es h same = object_at ds es h (object_lives_after_as ds es same)

-- ---- the message

pub message_as : LayerLemmas → (reader : Option Message) (o r t v : List ℕ) (m : Message) → wire.MessageReaderHasRead reader o (text_so_far o)
    → ReachesMessageState o t m
    → ReachesMessageState r v m → wire.MessageReaderHasRead reader r (text_so_far r)
message_as laws reader o r t v m at here there = grind arith

-- Both have reached one position in the message.
pub record SameMessage (o r : List ℕ) : Type 0 where
  pub text : List ℕ
  pub other : List ℕ
  pub at : Message
  pub here : ReachesMessageState o text at
  pub there : ReachesMessageState r other at

pub same_message : LayerLemmas → (o r t v : List ℕ) (m n : MessagePlace) → m ≡ n → ReachesSavedState o t m → ReachesSavedState r v n → SameMessage o r
same_message laws o r t v m n is (at, leads, saves) (other, goes, keeps) =
    let one : at ≡ other = laws.apart at other leads.is_place goes.is_place (saves ∙ is ∙ sym keeps) in
    record { text = t; other = v; at = at; here = leads; there = subst (λ (x : Message). ReachesMessageState r v x) (sym one) goes }

-- ---- whether an octet was received

pub none_present : (es : List Dataset) → AreViableSections es → section_after es ≡ 0 → es ≡ []
none_present [] alive zero = refl
none_present (d ∷ ds) alive zero =
    let none = none_other 0 (refl, (refl, (refl, (refl, (refl, tt))))) (d ∷ ds) alive in grind (arith, none, zero, last_none 0 d.rec ds)

abbrev pub has_partial : List Dataset → PartialDataset → Bool
has_partial [] (InTag x) = is_non_empty x
has_partial [] (InData h xs) = true
has_partial (d ∷ ds) c = true

pub some_read : (p : List ℕ) (ds : List Dataset) (c : PartialDataset) → ReadsAsDatasets count_octets p ds c → is_non_empty p ≡ has_partial ds c
some_read p ds c r = grind arith

-- ---- the complete unpacker

-- what the position determines of complete datasets and a partial one
pub record SameAll (ds es : List Dataset) (c d : PartialDataset) : Type 0 where
  pub section : section ds c ≡ section es d
  pub fields : kept ds ≡ kept es
  pub numbers : stated_numbers (numbers_of (of_record 7 ds)) ≡ stated_numbers (numbers_of (of_record 7 es))
  pub taken : length (object_so_far ds c) ≡ length (object_so_far es d)
  pub heads : heads_of ds c ≡ heads_of es d
  pub message : SameMessage (object_so_far ds c) (object_so_far es d)

pub total_as : (b : Bool) (o r xs ys : List ℕ) → length xs ≡ length ys → length (o ++ (if b then xs else [])) ≡ length (r ++ (if b then ys else []))
    → length o ≡ length r
total_as b o r xs ys many e = grind (arith, length-append)

pub count_as : (x y one : ℕ) → x + one ≡ y + one → x ≡ y
count_as x y one e = omega (arith, e)

pub octets_of : (q : List ℕ) (es : List Dataset) (h : Head) (ys : List ℕ) → ReadsAsDatasets count_octets q es (InData h ys) → Octets ys
octets_of q es h ys r = r.is_rest.3

pub keeps_as : (place : DatasetPlace) (c d : PartialDataset) → SameBegun c d → StoresPartial place c → StoresPartial place d
keeps_as place c d same keeps = grind arith

-- octets read so are incomplete
pub record Opened (limits : Limits) (ds : List Dataset) (c : PartialDataset) : Type 0 where
  pub goes : AllCanContinue limits ds c
  pub ended : nat_eq (section_after ds) 9 ≡ false

pub opened : LayerLemmas → (limits : Limits) (p : List ℕ) (ds : List Dataset) (c : PartialDataset) → ReadsAsDatasets count_octets p ds c → IsIncomplete limits p
    → Opened limits ds c
opened laws limits p ds c r is =
    let (goes, none) = open_at laws limits p ds c r is in
    record { goes = goes; ended = ne_eqb (section_after ds) 9 (λ nine. none (last_sections laws.last_record ds (alive_of limits ds c goes.sizes) nine)) }

pub partial_incomplete : (ds : List Dataset) (c d : PartialDataset) → nat_eq (section_after ds) 9 ≡ false → HeldAlike ds c d
partial_incomplete ds c d none = grind arith

pub has_as : (ds es : List Dataset) (c d : PartialDataset) → SameBegun c d → AreViableSections ds → AreViableSections es → section ds c ≡ section es d
    → has_partial ds c ≡ has_partial es d
has_as ds es c d same a b sec = grind (arith, none_present)
