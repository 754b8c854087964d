-- Readers at a position: the message of a ticket, and what the record layer can continue with.
use Rattle.std.proofs.Common.{◌≡◌, ℕ, ◌+◌, ◌↔◌, Bool, true, false, cond, IsTrue, IsSome, IfNone, OnOk, Option, Result, Ok, Err, is_ok, List, [], ◌∷◌, length, map, get_or, refl, sym, subst, ◌∙◌, arith, Bor}
use Rattle.iim_places.proofs.Words.{same_Some, Dataset, Head, DatasetPlace, AreViableSections, AreViableSectionsWithHead, HasChecked, HasAcceptedHead, kept, IsWithin, Limits, RecordPlace, FieldFault, head_alive, taken_alive, ReachesSavedState, MessagePlace, AreRecordNumbers, RecordsAreViable, head_of_numbers, number_list, AreStored, CanContinueWithin, HasMessageParts, numbers_of_list, state_datasets, Phase, PartialData}
use Rattle.iim_places.proofs.{Fitting.message_encoded, Plain.witness_kept}
use Rattle.iim_dataset.specs.States.Reading.{IsDatasetState}
use Rattle.iim_fields.specs.Format.Causes.{joined}
use Rattle.wire_message.specs.States.Reading.{MessageReaderHasRead, ReachesMessageState as LeadTo, ReaderHasSavedState}
use Rattle.wire_message.specs.declared.place.Place.{Place as Message}

pub no_place : {X A : Type 0} (result : Option X) (place : DatasetPlace) → IsSome result ↔ A → IsDatasetState place ↔ A → (P : Type 0) → (P
    → IsDatasetState place)
    → IfNone result (P → ⊥)
no_place result place exactly law P by = grind arith

-- ---- records

pub lives_at : (old new : Option RecordPlace) (h : Head) (r : Result (Unit {0}) FieldFault)
    → OnOk r ((ds : List Dataset) → HasChecked old ds → HasAcceptedHead new ds h) → IsTrue (is_ok r)
    → (ds : List Dataset) → HasChecked old ds → AreViableSectionsWithHead ds h
lives_at old new h (Ok u) stands yes' ds s = taken_alive new ds h (stands ds s)
lives_at old new h (Err e) stands yes' ds s = let bad : false ≡ true = yes' in cc

pub live_alive : (section : ℕ) (phase : Phase) (ds : List Dataset) → RecordsAreViable section phase ds → AreViableSections ds
live_alive section (PartialData set count left taken) ds lives = head_alive ds (head_of_numbers section set count) lives
live_alive section other ds lives = lives.1

pub four_back : (numbers : List (Option ℕ)) → length numbers ≡ 4 → numbers ≡ number_list (numbers_of_list numbers)
four_back numbers is = grind arith

-- the datasets that determine the state store the fields
pub stored_fields : (fields : List Dataset) (numbers : List (Option ℕ)) (some ended : Bool) → AreRecordNumbers numbers → AreStored fields
    → kept (state_datasets fields numbers some ended) ≡ fields
stored_fields fields numbers some ended fit each = witness_kept fields (numbers_of_list numbers) (cond some 1 0) [] ended each

pub leads_on_state : (limits : Limits) (section : ℕ) (phase : Phase) (fields : List Dataset) (numbers : List (Option ℕ)) (some ended : Bool) (more one : ℕ)
    → AreRecordNumbers numbers → AreStored fields → IsWithin limits (length (joined fields) + more) (length fields + one)
    → RecordsAreViable section phase (state_datasets fields numbers some ended) → CanContinueWithin limits (state_datasets fields numbers some ended)
leads_on_state limits section phase fields numbers some ended more one fit each within lives = grind (arith, live_alive, stored_fields)

-- ---- the message

pub texts_seven : (texts : List (Bor (List ℕ))) (z : Bor (List ℕ)) → length texts ≡ 7
    → (get_or texts 0 z).now ∷ (get_or texts 1 z).now ∷ (get_or texts 2 z).now ∷ (get_or texts 3 z).now ∷ (get_or texts 4 z).now ∷ (get_or texts 5 z).now
    ∷ (get_or texts 6 z).now ∷ [] ≡ map (λ t. t.now) texts
texts_seven (a ∷ b ∷ c ∷ d ∷ e ∷ f ∷ g ∷ []) z is = refl
texts_seven texts z is = absurd (omega (arith, is))

-- A ticket encodes one position in a message.
pub same_message : (part counter flag : ℕ) (texts : List (List ℕ)) (m n : MessagePlace) → HasMessageParts part counter flag texts m
    → HasMessageParts part counter flag texts n → m ≡ n
same_message part counter flag texts m n is are = grind (arith, message_encoded)

-- Octets that reach the reader's state reach the position that it saves.
pub reaches_saved : (reader : Option Message) (octets text : List ℕ) (m : MessagePlace) → ReaderHasSavedState reader m → MessageReaderHasRead reader octets text
    → ReachesSavedState octets text m
reaches_saved reader octets text m at stands = (at.0, subst (LeadTo octets text) (same_Some _ _ (sym stands.1 ∙ at.1)) stands.2, at.2)
