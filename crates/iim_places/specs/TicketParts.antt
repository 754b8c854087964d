-- The parts of a ticket, one by one. Octets encode at most one list of datasets.
use Rattle.std.specs.Prelude.{◌≡◌, ℕ, List, ◌∷◌, ◌++◌, Option}
use Rattle.std.specs.{List.AllByRecursion, List.flat_map, Int.w32, Int.from_be_bytes}
use Rattle.std.proofs.Common.{◌<◌, ◌^◌, [], length, refl, ap, sym, ◌∙◌, arith}
use Rattle.std.proofs.Props.{props}
use Rattle.std.proofs.lemmas.Nat.{from_be_bytes-to_be_bytes_4}
use Rattle.iim_dataset.specs.{Format.Datasets.Dataset, Steps.append_cancel_same_length}
use Rattle.iim_places.specs.Format.Tickets.{field_octets, PartialData, four, wide, phase_octets, fields_octets, number_octets, text_octets, present_version}
use Rattle.iim_places.specs.Format.TicketForm.{FitsInField, AreTicketTexts, IsOptionalIn, AreTicketNumbers, Contents, IsTicketPhase, HasForm}
use mathlib.Core.HLevel.{Σ_prop_path}

-- The octets are the encoding of a list of datasets, and nothing else.
abbrev pub EncodesFields : List ℕ → Type 0
EncodesFields octets = (datasets : List Dataset) × (AllByRecursion FitsInField datasets × (octets ≡ flat_map field_octets datasets))

-- the encoding of the position in the message
abbrev pub message_parts : (part counter flag : ℕ) → List (List ℕ) → List ℕ
message_parts part counter flag texts = part ∷ counter ∷ flag ∷ flat_map text_octets texts

-- the octets after the name and the version
abbrev pub body_octets : Contents → List ℕ
body_octets s =
    s.section ∷ (phase_octets s.version s.phase ++ (fields_octets s.fields ++ (flat_map (number_octets s.version) s.numbers
    ++ (wide s.version s.taken ++ (four s.heads ++ message_parts s.part s.counter s.flag s.texts)))))

-- The octets do not encode a position in a message.
abbrev pub EncodesNoMessage : List ℕ → Type 0
EncodesNoMessage octets = (part counter flag : ℕ) (texts : List (List ℕ)) → AreTicketTexts texts → octets ≡ message_parts part counter flag texts → ⊥

-- The octets cannot follow a name and this version.
abbrev pub EncodesNoBody : ℕ → List ℕ → Type 0
EncodesNoBody version octets = (s : Contents) → s.version ≡ version → HasForm s → octets ≡ body_octets s → ⊥

-- The octets do not begin with data in progress.
abbrev pub BeginsWithNoData : ℕ → ℕ → List ℕ → Type 0
BeginsWithNoData version section octets = (set count left : ℕ) (taken rest : List ℕ) → IsTicketPhase version section (PartialData set count left taken)
    → 1 ∷ octets ≡ phase_octets version (PartialData set count left taken) ++ rest → ⊥

-- The number is absent or fits into the width of version 2.
abbrev pub IsAbsentOrSize : Option ℕ → Type 0
IsAbsentOrSize o = IsOptionalIn present_version o

-- a dataset with this record, number and data
abbrev pub dataset : ℕ → ℕ → List ℕ → Dataset
dataset rec set octets = record { rec = rec; set = set; octets = octets }

-- the numbers of record 7, each absent or of the width of version 2
abbrev pub AreRecordNumbers : List (Option ℕ) → Type 0
AreRecordNumbers numbers = AreTicketNumbers present_version numbers

-- ---- lists

pub cons_injective_head : {x y : ℕ} {a b : List ℕ} → x ∷ a ≡ y ∷ b → x ≡ y
cons_injective_head e = cc

pub cons_injective_tail : {x y : ℕ} {a b : List ℕ} → x ∷ a ≡ y ∷ b → a ≡ b
cons_injective_tail e = cc

pub four_injective : (m n : ℕ) (a b : List ℕ) → m < 2 ^ 32 → n < 2 ^ 32 → four m ++ a ≡ four n ++ b → (m ≡ n) × (a ≡ b)
four_injective m n a b hm hn e =
    let both = append_cancel_same_length (four m) (four n) a b refl e in
    (sym (from_be_bytes-to_be_bytes_4 m hm) ∙ ap (from_be_bytes w32) both.0 ∙ from_be_bytes-to_be_bytes_4 n hn, both.1)

-- ---- datasets

pub field_injective : (d e : Dataset) (a b : List ℕ) → FitsInField d → FitsInField e → field_octets d ++ a ≡ field_octets e ++ b → (d ≡ e) × (a ≡ b)
field_injective d e a b hd he same =
    let rec : d.rec ≡ e.rec = cons_injective_head same in
    let set : d.set ≡ e.set = cons_injective_head (cons_injective_tail same) in
    let count = four_injective (length d.octets) (length e.octets) (d.octets ++ a) (e.octets ++ b) hd he (cons_injective_tail (cons_injective_tail same)) in
    let octets = append_cancel_same_length d.octets e.octets a b count.0 count.1 in
    ((λ i. record { rec = rec i; set = set i; octets = octets.0 i }), octets.1)

-- ---- datasets to the end

pub some_octets : (d : Dataset) (a : List ℕ) → field_octets d ++ a ≡ [] → ⊥
some_octets d a e = let bad = ap length e in omega (arith, bad)

pub fields_injective : (xs ys : List Dataset) → AllByRecursion FitsInField xs → AllByRecursion FitsInField ys → flat_map field_octets xs ≡ flat_map field_octets ys → xs ≡ ys
fields_injective [] [] h k e = refl
fields_injective [] (y ∷ ys) h k e = absurd (some_octets y (flat_map field_octets ys) (sym e))
fields_injective (x ∷ xs) [] h k e = absurd (some_octets x (flat_map field_octets xs) e)
fields_injective (x ∷ xs) (y ∷ ys) h k e =
    let first = field_injective x y _ _ h.0 k.0 e in
    let more = fields_injective xs ys h.1 k.1 first.1 in
    let a = first.0 in cc

-- Octets encode at most one list of datasets.
pub encoded_fields_unique : (octets : List ℕ) → IsProp (EncodesFields octets)
encoded_fields_unique octets u v =
    Σ_prop_path {B = λ (ds : List Dataset). AllByRecursion FitsInField ds × (octets ≡ flat_map field_octets ds)} (λ ds. Prim.hlevel props) {u = u} {v = v}
    (fields_injective u.0 v.0 u.1.0 v.1.0 (sym u.1.1 ∙ v.1.1))
