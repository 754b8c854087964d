-- The maximum length of a ticket.
use Rattle.std.proofs.Common.{◌≡◌, ℕ, ◌+◌, ◌*◌, ◌≤◌, nat_eq, Bool, if◌then◌else◌, List, [], ◌∷◌, length, Option, refl, ap, arith, length-append}
use Rattle.iim_places.proofs.Words.{flat_map, Dataset, EncodesTag, EncodesCount, count_octets, InTag, ReadsAsDatasets, Head, saved, ReachesSavedState, MessagePlace, PartialTag, PartialData, AllEnded, present_version, phase_octets, field_octets, texts_octets, ticket_of}
use Rattle.iim_fields.specs.Format.Causes.{joined}
use Rattle.wire_message.specs.States.Reading.{IsMessageState}
use Rattle.wire_message.specs.declared.place.Place.{Place as Message}
use Rattle.wire_message.specs.declared.place.Place.TheVariants as at
use Rattle.iim_places.specs.Format.Tickets.{Place, number_octets}

-- ---- fields and numbers

fields_length : (ds : List Dataset) → length (flat_map field_octets ds) ≡ 6 * length ds + length (joined ds)
fields_length [] = refl
fields_length (d ∷ ds) = simp length-append (omega (arith, fields_length ds))

number_length : (n : Option ℕ) → length (number_octets present_version n) ≤ 9
number_length n = grind arith

pub numbers_length : (a b c d : Option ℕ) → length (flat_map (number_octets present_version) (a ∷ b ∷ c ∷ d ∷ [])) ≤ 36
numbers_length a b c d = simp length-append (omega (arith, number_length a, number_length b, number_length c, number_length d))

-- ---- the message

-- the maximum length of the texts of a message
pub record AreShort (a b c d e f g : List ℕ) : Type 0 where
  pub source : length a ≤ 8
  pub number : length b ≤ 8
  pub priority : length c ≤ 1
  pub category : length d ≤ 8
  pub words : length e ≤ 6
  pub info : length f ≤ 64
  pub trailer : length g ≤ 64

-- The texts of a saved position are short.
abbrev pub AreShortIn : MessagePlace → Type 0
AreShortIn m = AreShort m.source.items m.number.items m.priority.items m.category.items m.words.items m.info.items m.trailer.items

pub texts_at : (place : Message) → IsMessageState place → AreShortIn (saved place)
texts_at place is = grind arith

-- ---- the partial dataset

count_length : (limit count : ℕ) (xs : List ℕ) → EncodesCount limit count xs → length xs ≤ 2 + limit
count_length limit count xs h = grind arith

pub tag_length_in : (limit : ℕ) (h : Head) (tag : List ℕ) → EncodesTag limit h tag → length tag ≤ 5 + limit
tag_length_in limit h tag s = omega (arith, ap length s.parts, count_length limit h.count s.count s.is_count)

pub held_length : (p : List ℕ) (ds : List Dataset) (held : List ℕ) → ReadsAsDatasets count_octets p ds (InTag held) → length held ≤ 12
held_length p ds held r =
    let (same, h, tag, spells, (rest, some, is)) = r.is_rest in
    omega (arith, tag_length_in count_octets h tag spells, length-append held rest, ap length is, some)

-- ---- a ticket

-- all but the partial dataset and the stored datasets
pub rest_length : (p : Place) → length (flat_map (number_octets present_version) p.numbers) ≤ 36 → length (texts_octets p.message) ≤ 166
    → length (ticket_of p) ≤ 227 + length (phase_octets present_version p.phase) + (6 * length p.fields + length (joined p.fields))
rest_length p few texts =
    let message = simp length-append at texts in simp length-append (omega (arith, few, message, fields_length p.fields))

pub data_length : (set count left : ℕ) (taken : List ℕ) → length (phase_octets present_version (PartialData set count left taken)) ≡ 18 + length taken
data_length set count left taken = simp length-append (omega arith)

pub tag_begun_length : (b : Bool) (held : List ℕ) → length held ≤ 12 → length (phase_octets present_version (if b then AllEnded else PartialTag held)) ≤ 14
tag_begun_length b held h = grind arith

pub some_taken : (b : Bool) (taken : List ℕ) → length (if b then [] else taken) ≤ length taken
some_taken b taken = grind arith

pub none_taken : (rec : ℕ) (taken : List ℕ) → rec ≡ 8 → length (if nat_eq rec 8 then [] else taken) ≡ 0
none_taken rec taken is = ap (λ (r : ℕ). length (if nat_eq r 8 then [] else taken)) is

pub texts_led : (octets text : List ℕ) (m : MessagePlace) → ReachesSavedState octets text m → AreShortIn m
texts_led octets text m (place, leads, is) = rw is at (texts_at place leads.is_place)

pub texts_short : (octets text : List ℕ) (m : MessagePlace) → ReachesSavedState octets text m → length (texts_octets m) ≤ 166
texts_short octets text m leads = let short = texts_led octets text m leads in simp length-append (omega (arith, short))
