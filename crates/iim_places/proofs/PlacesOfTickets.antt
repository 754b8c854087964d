-- The position that the parts of a ticket encode, and whether an envelope can reach it.
use Rattle.std.proofs.Common.{◌≡◌, ℕ, ◌+◌, ◌-◌, ◌≤◌, cond, if◌then◌else◌, Bool, List, [], ◌∷◌, length, refl, ap, sym, ◌∙◌, subst, arith, ◌++◌, codes, rules, get_or}
use Rattle.iim_places.proofs.Words.{AllByRecursion, all_map, Dataset, kept, kept_octets, IsWithin, Limits, ReachesSavedState, MessagePlace, LayersReach, plain, PlacesArePossibleByLayers, RecordsAreViable, phase_has_ended, partial_subfiles, zero_or_one, record_datasets, Numbers, number_list, PlaceTicketsHaveContents, contents_of, ContentsAreUnique, IsSmall, IsSmallPhase, Contents, IsSmallPlace, first_greatest_size, AreHeadsWithin, partial_count, partial_fields, widest, SmallPlacesWerePossible, EncodesPlace, IsLimitFault, IsRestoreFault, AreStored, HasMessageParts, numbers_of_list, state_datasets, IsOptionalIn, HasForm, HasContents, TicketsEncodeOnePlace, PossiblePlacesAreRestored, IsTicketVersion, ticket_in_version, TicketForm, TicketVersion, Impossible, OutOfMemory, contents_octets, HeaderFull, TooManyFields}
use Rattle.iim_places.proofs.{Fitting.small_size, Fitting.spelled, Plain.kept_fields}
use Rattle.iim_fields.specs.Format.Causes.{joined}
use Rattle.iim_places.specs.{States.Readers.ReadersAreAt, States.Readers.IsUnreachableInVersion, States.Restored.counted_fields, States.Restored.counted_octets}
use Rattle.iim_places.specs.{Restoring.IsUnreachable, Format.Tickets.Place}
use Rattle.iim_places.specs.declared.ticket.possible.Readers.{Readers}
use Rattle.iim_places.specs.declared.ticket.fault.TicketFault.{TicketFault}

pub state_same : (place : Place) (numbers : Numbers) (some : Bool) → place.numbers ≡ number_list numbers
    → cond some 1 0 ≡ zero_or_one (place.heads - partial_subfiles place.section place.phase)
    → state_datasets place.fields place.numbers some (phase_has_ended place.phase) ≡ record_datasets place numbers
state_same place numbers some are one = λ i. plain place.fields (numbers_of_list (are i)) (one i) [] (phase_has_ended place.phase)

-- ---- positions that no envelope reaches

pub no_records : (s : Contents) (some : Bool) → cond some 1 0 ≡ zero_or_one (s.heads - partial_subfiles s.section s.phase)
    → (AreStored s.fields → IsWithin widest (kept_octets s.fields) (length s.fields)
    → RecordsAreViable s.section s.phase (state_datasets s.fields s.numbers some (phase_has_ended s.phase)) → ⊥) → IsUnreachable s
no_records s some one none place is l =
    let each : AreStored s.fields = rw (← is) l.kept in
    let within : IsWithin widest (length (joined s.fields) + partial_count s.section s.phase) (length s.fields + partial_fields s.section s.phase) =
    rw (← is) l.within in
    let same = ap (λ (ds : List Dataset). length (joined ds)) (kept_fields s.fields each) in
    none each (record { octets_in = omega (arith, same, within.octets_in); fields_in = omega (arith, within.fields_in) })
    (rw (← is) (rw (state_same place l.numbers some l.numbers_are (rw (← is) at one)) l.records))

pub no_message : (s : Contents)
    → ((m : MessagePlace) (octets text : List ℕ) → HasMessageParts s.part s.counter s.flag s.texts m → ReachesSavedState octets text m → length octets ≡ s.taken
    → ⊥)
    → IsUnreachable s
no_message s none place is l =
    let (octets, text, leads, count, ended) = l.message in
    none place.message octets text (rw (← is) (record { part_is = refl; counter_is = refl; flag_is = refl; texts_are = refl })) leads (rw (← is) count)

-- ---- positions that an envelope reaches

-- the position of these parts, and of a message's position
abbrev pub place_of_content : Contents → MessagePlace → Place
place_of_content s m = record { section = s.section; phase = s.phase; fields = s.fields; numbers = s.numbers; taken = s.taken; heads = s.heads; message = m }

pub place_is : (s : Contents) (m : MessagePlace) → HasMessageParts s.part s.counter s.flag s.texts m → contents_of s.version (place_of_content s m) ≡ s
place_is s m is = λ i. record s { part = is.part_is i; counter = is.counter_is i; flag = is.flag_is i; texts = is.texts_are i }

-- The position of a ticket of version 1 is within the sizes of that time if its partial dataset is.
pub small_place : (s : Contents) (place : Place) → HasForm s → contents_of s.version place ≡ s → s.version ≡ 1 → IsSmallPhase s.section s.taken s.phase
    → IsSmallPlace place
small_place s place form is one small = record {
  numbers = subst (λ (t : Contents). AllByRecursion IsSmall t.numbers) (sym is)
      (all_map (IsOptionalIn 1) IsSmall s.numbers (λ o. (small_size o).1) (rw one at form.numbers.each));
  taken = subst (λ (t : Contents). t.taken ≤ first_greatest_size) (sym is) (let low = rw one at form.taken in omega (arith, low));
  begun = subst (λ (t : Contents). IsSmallPhase t.section t.taken t.phase) (sym is) small;
}

-- ---- why the ticket of a possible position is rejected

parts_of : PlaceTicketsHaveContents → (ticket : List ℕ) (place : Place) → (is : EncodesPlace ticket place) → HasContents ticket (contents_of is.version place)
parts_of split ticket place is = rw (← is.spelled) at (split is.version place is.is_version is.possible)

same_place : TicketsEncodeOnePlace → (ticket : List ℕ) (place there : Place) → EncodesPlace ticket place → EncodesPlace ticket there → there ≡ place
same_place one ticket place there is are =
    let at : is.version ≡ are.version = ap (λ (xs : List ℕ). get_or xs 4 0) (sym is.spelled ∙ are.spelled) in
    one are.version there place are.is_version are.possible (rw at at is.possible) (sym are.spelled ∙ is.spelled ∙ ap (λ (v : ℕ). ticket_in_version v place) at)

pub taken : PlaceTicketsHaveContents → TicketsEncodeOnePlace → PossiblePlacesAreRestored
taken split one limits ticket place TicketForm is bad = absurd (bad.1 (contents_of is.version place) (parts_of split ticket place is))
taken split one limits ticket place TicketVersion is bad =
    let e : codes "IIMT" ++ bad.version ∷ bad.rest ≡ ticket_in_version is.version place = sym bad.named ∙ is.spelled in
    absurd (bad.other (subst IsTicketVersion (sym (ap (λ (xs : List ℕ). get_or xs 4 0) e)) is.is_version))
taken split one limits ticket place Impossible is bad = absurd (bad.1 place is)
taken split one limits ticket place HeaderFull is (there, are, over) = grind (arith, ap counted_octets (same_place one ticket place there is are), over)
taken split one limits ticket place TooManyFields is (there, are, low, over) =
    grind (arith, ap counted_octets (same_place one ticket place there is are), ap counted_fields (same_place one ticket place there is are), low, over)
taken split one limits ticket place OutOfMemory is (there, are, heads) =
    let within = rw (same_place one ticket place there is are) at heads in search (rules, arith)

-- ---- the ticket of a position

pub ticket_at : PlacesArePossibleByLayers → SmallPlacesWerePossible → (ticket : List ℕ) (s : Contents) (place : Place) → HasContents ticket s
    → contents_of s.version place ≡ s → LayersReach place → (s.version ≡ 1 → IsSmallPlace place) → EncodesPlace ticket place
ticket_at law scales ticket s place splits is leads small = record {
  version = s.version;
  is_version = splits.form.version;
  possible = ((law place).1 leads, λ one. (scales place).1 ((law place).1 leads, small one));
  spelled = splits.spelled ∙ ap contents_octets (sym is) ∙ sym (spelled s.version place);
}

-- Octets whose parts no input reaches are the ticket of no position.
pub no_ticket : PlacesArePossibleByLayers → SmallPlacesWerePossible → PlaceTicketsHaveContents → ContentsAreUnique → (ticket : List ℕ) (s : Contents)
    → HasContents ticket s → IsUnreachableInVersion s → (place : Place) → EncodesPlace ticket place → ⊥
no_ticket law scales split one ticket s splits nowhere place is =
    let same : contents_of is.version place ≡ s = one ticket (contents_of is.version place) s (parts_of split ticket place is) splits in
    let at : is.version ≡ s.version = ap (λ (t : Contents). t.version) same in
    nowhere place (rw at at same) ((law place).0 is.possible.0) (λ first. ((scales place).0 (is.possible.1 (at ∙ first))).1)

pub heads_within : (limits : Limits) (s : Contents) (r : Readers) (at : ReadersAreAt s r) → IsWithin limits r.octets r.fields → AreHeadsWithin limits at.place
heads_within limits s r at within = rw (at.octets_are, at.fields_are) at within

-- A limit that the readers' counts exceed is exceeded by the ticket's position.
pub limit_reported : (limits : Limits) (ticket : List ℕ) (s : Contents) (r : Readers) (at : ReadersAreAt s r) → EncodesPlace ticket at.place →
    (fault : TicketFault)
    → IsLimitFault limits r.octets r.fields fault → IsRestoreFault limits ticket fault
limit_reported limits ticket s r at is HeaderFull bad = (at.place, is, rw at.octets_are at bad)
limit_reported limits ticket s r at is TooManyFields bad = (at.place, is, rw at.octets_are at bad.0, rw at.fields_are at bad.1)
limit_reported limits ticket s r at is other bad = absurd bad
