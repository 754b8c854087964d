-- Valid records, the datasets that can be continued to them, and the fields and the identity of an
-- envelope.
use Rattle.std.specs.Prelude.{◌≡◌, ℕ, ◌==◌, if◌then◌else◌, List, [], ◌∷◌, ◌++◌, Bool, ◌||◌, Option, Some, None, ◌≤◌, nat_eq, ◌&&◌, map, codes, ℤ}
use Rattle.std.specs.{List.after_first, List.filter, declared.cmp.Ordering.Ordering, Cmp.Lexicographic.pointwise}
use Rattle.std.specs.{Cmp.Lexicographic.slice_cmp, Option.option_and_then, Option.option_or}
use Rattle.std.specs.Ordering.{nat_cmp, on, then_cmp, eq_of_both}
use Rattle.iim_dataset.specs.Format.{Datasets.Dataset, Datasets.head_of, Octets.IsViablePrefix, Octets.number}
use Rattle.iim_dataset.specs.declared.head.Head.{Head}
use Rattle.iim_tables.specs.Format.{Records.IsGoodRecord, Dates.instant_in}
use Rattle.iim_fields.specs.declared.limits.Limits.{Limits}

-- the records of an envelope, in their order
abbrev pub records : List ℕ
records = 1 ∷ 2 ∷ 7 ∷ 8 ∷ 9 ∷ []

-- the records after a record; 0 is the beginning of an envelope
abbrev pub after : ℕ → List ℕ
after r = if r == 0 then records else after_first (λ k. r == k) records

-- The datasets are good records with these numbers, in this order.
abbrev pub AreRecords : List ℕ → List Dataset → Type 0
AreRecords [] ds = ds ≡ []
AreRecords (r ∷ rs) ds = (run rest : List Dataset) × (ds ≡ run ++ rest) × IsGoodRecord r run × AreRecords rs rest

-- The datasets are those of an envelope: good records 1, 2, 7, 8 and 9.
abbrev pub AreSections : List Dataset → Type 0
AreSections ds = AreRecords records ds

-- The datasets are a good record 1 and then a good record 2.
pub record IsEnvelope (ds : List Dataset) : Type 0 where
  pub r1 : List Dataset
  pub r2 : List Dataset
  pub parts : ds ≡ r1 ++ r2
  pub envelope : IsGoodRecord 1 r1
  pub application : IsGoodRecord 2 r2

-- The datasets are a viable prefix: some continuation of them is the datasets of an envelope.
abbrev pub AreViableSections : List Dataset → Type 0
AreViableSections ds = IsViablePrefix AreSections ds

-- The datasets and the head are a viable prefix: with some data of this head they are one.
abbrev pub AreViableSectionsWithHead : List Dataset → Head → Type 0
AreViableSectionsWithHead ds h = (d : Dataset) × (head_of d ≡ h) × AreViableSections (ds ++ d ∷ [])

-- the dataset with the head's record and number and with these data
abbrev pub data_of : Head → List ℕ → Dataset
data_of h xs = record { rec = h.rec; set = h.set; octets = xs }

-- the values of the record are numbers, as those of records 7 and 9 are
abbrev pub has_number_value : ℕ → Bool
has_number_value rec = rec == 7 || rec == 9

-- the number that a value encodes
abbrev pub encoded_number : Dataset → Option ℕ
encoded_number d = if has_number_value d.rec then Some (number d.octets) else None

-- The stored data, and the number of the stored datasets, are within the limits.
pub record IsWithin (limits : Limits) (octets fields : ℕ) : Type 0 where
  pub octets_in : octets ≤ limits.octets
  pub fields_in : fields ≤ limits.fields

-- the limits on records 1 and 2 for wire copy: 65,536 octets in 512 datasets
abbrev pub wire_limits : Limits
wire_limits = record { octets = 65536; fields = 512 }

-- the identity of an envelope: the data of 1:30 Service Identifier, 1:40 Envelope Number and 1:70
-- Date Sent
pub record Identity : Type 0 where
  pub service : List ℕ
  pub number : List ℕ
  pub date_sent : List ℕ

-- the texts are equal
abbrev pub text_eq : List ℕ → List ℕ → Bool
text_eq = pointwise nat_eq

-- The order of texts: the first octet that differs decides; if there is none, the shorter text is
-- less.
abbrev pub text_cmp : List ℕ → List ℕ → Ordering
text_cmp = slice_cmp nat_cmp

-- service, number and date sent are equal
abbrev pub id_eq : Identity → Identity → Bool
id_eq = eq_of_both (on (λ i. i.service) text_eq) (eq_of_both (on (λ i. i.number) text_eq) (on (λ i. i.date_sent) text_eq))

-- the order of identities: by service, then by number, then by date sent
abbrev pub id_cmp : Identity → Identity → Ordering
id_cmp = then_cmp (on (λ i. i.service) text_cmp) (then_cmp (on (λ i. i.number) text_cmp) (on (λ i. i.date_sent) text_cmp))

-- the dataset has this record and number
abbrev pub has_names : ℕ → ℕ → Dataset → Bool
has_names rec set d = d.rec == rec && d.set == set

-- the data of each dataset with this record and number, in order
abbrev pub all_data : ℕ → ℕ → List Dataset → List (List ℕ)
all_data rec set ds = map (λ d. d.octets) (filter (has_names rec set) ds)

-- the data of the first dataset with this record and number
abbrev pub first_data : ℕ → ℕ → List Dataset → Option (List ℕ)
first_data rec set [] = None
first_data rec set (d ∷ ds) = if has_names rec set d then Some d.octets else first_data rec set ds

-- the instant, in nanoseconds, of the first datasets of the record with these numbers, a date and a
-- time; if there is no time, `absent` is used in its place, if that is a text
abbrev pub instant_of_pair : (rec date_set time_set : ℕ) → Option (List ℕ) → List Dataset → Option ℤ
instant_of_pair rec date_set time_set absent ds =
    option_and_then (λ date. option_and_then (λ time. instant_in date time) (option_or (first_data rec time_set ds) absent)) (first_data rec date_set ds)

-- the instant of 1:70 Date Sent and 1:80 Time Sent in nanoseconds, if both were sent and have an
-- instant
abbrev pub instant_sent : List Dataset → Option ℤ
instant_sent ds = instant_of_pair 1 70 80 None ds

-- the instant of 2:30 Release Date and 2:35 Release Time, or of the beginning of that day
abbrev pub instant_of_release : List Dataset → Option ℤ
instant_of_release ds = instant_of_pair 2 30 35 (Some (codes "000000+0000")) ds

-- the instant of 2:37 Expiration Date and 2:38 Expiration Time, or of the last second of that day
abbrev pub instant_of_expiration : List Dataset → Option ℤ
instant_of_expiration ds = instant_of_pair 2 37 38 (Some (codes "235959+0000")) ds
