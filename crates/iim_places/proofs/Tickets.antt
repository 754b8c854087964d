-- The ticket written for an unpacker is that of the octets that it has consumed.
use Rattle.std.proofs.Common.{◌≡◌, ℕ, ◌+◌, ◌-◌, Bool, if◌then◌else◌, List, [], ◌∷◌, ◌++◌, length, sum, Option, refl, ap, sym, ◌∙◌, arith, append-nil, length-append}
use Rattle.iim_places.proofs.Words.{same_Some, length-map, Dataset, of_record, PartialDataset, LayerLemmas, sum_cons, sum_append, SubfileBegun, lengths_of, numbers_of, place_after_datasets, place_ended, OctetsDetermineTheMessageState, saved, ReachesSavedState, MessagePlace, object_of, object_so_far, place_of, ticket_of, OctetsHaveOneTicket}
use Rattle.iim_places.proofs.StreamResults.{one_reading}
use Rattle.iim_fields.specs.Format.Causes.{joined}
use Rattle.iim_object.specs.Format.Objects as objects
use Rattle.wire_message.specs.States.Reading as wire
use Rattle.wire_message.specs.States.Reading.{ReaderHasSavedState}
use Rattle.wire_message.specs.declared.place.Place.{Place as Message}

-- ---- lengths

pub total_of : (ds : List Dataset) → sum (lengths_of ds) ≡ length (joined ds)
total_of [] = refl
total_of (d ∷ ds) = sum_cons (length d.octets) (lengths_of ds) ∙ (ap (λ n. length d.octets + n) (total_of ds) ∙ sym (length-append d.octets (joined ds)))

pub count_of : (ds : List Dataset) → length (lengths_of ds) ≡ length ds
count_of ds = length-map ds (λ (d : Dataset). length d.octets)

pub sum_one : (x : ℕ) → sum (x ∷ []) ≡ x
sum_one x = sum_cons x [] ∙ (let none : sum [] ≡ 0 = refl in omega (arith, none))

-- ---- the object at a head

-- the position at a head, by the tests of its record
abbrev at_by : Bool → Bool → List Dataset → ℕ → objects.Place
at_by b c ds count = if b then objects.place_after (place_after_datasets ds) (SubfileBegun count) else if c then place_ended ds else place_after_datasets ds

pub stated_by : (b c : Bool) (ds : List Dataset) (count : ℕ) → (at_by b c ds count).stated ≡ numbers_of (of_record 7 ds)
stated_by b c ds count = grind arith

pub heads_by : (b c : Bool) (ds : List Dataset) (count : ℕ) → length (at_by b c ds count).lengths ≡ length (of_record 8 ds) + (if b then 1 else 0)
heads_by b c ds count = grind (arith, count_of (of_record 8 ds), length-append (lengths_of (of_record 8 ds)) (count ∷ []))

-- the octets so far, and those that remain of a partial subfile, are those of the subfiles
pub so_far_by : (b c : Bool) (ds : List Dataset) (taken : List ℕ) (count left : ℕ) → length taken + left ≡ count
    → length (object_of ds ++ (if b then taken else [])) + (if b then left else 0) ≡ sum (at_by b c ds count).lengths
so_far_by b c ds taken count left e =
    grind (
      arith,
      sum_append (lengths_of (of_record 8 ds)) (count ∷ []),
      sum_one count,
      total_of (of_record 8 ds),
      length-append (object_of ds) taken,
      append-nil (object_of ds),
    )

pub taken_by : (b c : Bool) (ds : List Dataset) (taken : List ℕ) (count left : ℕ) → length taken + left ≡ count
    → sum (at_by b c ds count).lengths - (if b then left else 0) ≡ length (object_of ds ++ (if b then taken else []))
taken_by b c ds taken count left e = omega (arith, so_far_by b c ds taken count left e)

pub message_at : (reader : Option Message) (octets text : List ℕ) (m : MessagePlace) → wire.MessageReaderHasRead reader octets text
    → ReaderHasSavedState reader m
    → ReachesSavedState octets text m
message_at reader octets text m (at, is, leads) (place, has, same) = let one : at ≡ place = same_Some _ _ (sym is ∙ has) in (at, leads, ap saved one ∙ same)

-- ---- one ticket

pub same_place : OctetsDetermineTheMessageState → (whole es : List Dataset) (b c : PartialDataset) (m n : MessagePlace) (t v : List ℕ) → whole ≡ es → b ≡ c
    → ReachesSavedState (object_so_far whole b) t m → ReachesSavedState (object_so_far es c) v n → place_of whole b m ≡ place_of es c n
same_place one whole es b c m n t v is same (at, leads, saves) (other, goes, keeps) =
    let octets : object_so_far es c ≡ object_so_far whole b = λ i. object_so_far (sym is i) (sym same i) in
    let met = (one (object_so_far whole b) t v at other leads (rw octets at goes)).1 in
    λ i. place_of (is i) (same i) ((sym saves ∙ ap saved met ∙ keeps) i)

pub one_ticket : LayerLemmas → OctetsHaveOneTicket
one_ticket laws octets ticket other x y =
    let a = x.is_place in
    let b = y.is_place in
    let is = one_reading laws octets a.whole b.whole a.begun b.begun a.reads b.reads in
    let same = same_place laws.one_place a.whole b.whole a.begun b.begun a.message b.message a.text b.text is.whole_is is.partial_is a.leads b.leads in
    x.spelled ∙ ap ticket_of (a.is_place ∙ same ∙ sym b.is_place) ∙ sym y.spelled
