-- A refusal reports the lowest cause of its layer if and only if the tests find it first.
use Rattle.std.proofs.Common.{◌≡◌, ◌≢◌, ℕ, ◌+◌, ◌<◌, ◌≤◌, ◌⊎◌, ◌↔◌, Bool, true, false, ◌&&◌, ◌||◌, nat_eq, if◌then◌else◌, List, [], ◌∷◌, map, ◌++◌, length, replicate, Option, Some, None, refl, ap, sym, ◌∙◌, inl, inr, arith, length-append, append-nil}
use Rattle.iim_places.proofs.Words.{option_or, option_map, eqb-true, le-ltb, same_Some, map-append, filter-append, length-replicate, zeros_are, or_cases, all_front, all_back, Head, IsOctet, Octets, IsProperPrefix, number, Dataset, EncodesTag, EncodesCount, head_of, of_record, count_octets, Rejects, InTag, InData, PartialDataset, ReadsAsDatasets, BeginsNoTag, AreViableSections, AreViableSectionsWithHead, first_fault, value_fault, data_of, Limits, has_number_value, FieldFault, cause_at, max_subfiles, SizeCause, Octet, MessageLanguage, text_so_far, HasMessageCause, Token, MessageCause, object_of, AtOctet, AtHead, AtValue, IsInvalidCountForm, Names, ReportsLowestCause, rule_of, AreWithinLimits, AllCanContinue, IsBadEndAt, IsIncomplete, RefusesByTests, RefusesNext, CompletesToken, layer_of, layer_of_message, fault_of_record, size_fault_on, count_fault_on, LayerLemmas, message_fault_on, RejectsHead, RejectsValue, IsFaultOfHead, IsFaultOfValue, subfile_fault, TokenFault, Layer, eq-eqb, limits_fault, nat_tests, StoryLanguage, IsViableMessage, HasViableStory, tag_cause, partial_record, partial_number, HeadFits, octets_append, place_after_datasets, ObjectToken, head_token, value_token, numbers_of, place_at}
use Rattle.iim_places.proofs.StreamResults.{not_partial, message_rejects, refuses_by, IsRefusedAt, tag_fault, tests_of}
use Rattle.iim_places.proofs.{Following.alive_of, Following.message_of, Following.story_of, Following.with_data, Living.viable_prefix}
use Rattle.iim_places.proofs.{Places.subfile_reaches, Places.end_reaches, Places.number_reaches, SameRecords.stated_after_all, SameRecords.stated_at}
use Rattle.iim_places.proofs.StoryRejects.{in_text, lone_return, control}
use Rattle.iim_fields.specs.{Format.Causes.number_of_cause, Laws.IsFaultIfAny}
use Rattle.iim_fields.specs.Format.Causes.Token.{AtHead as HeadToken, AtValue as ValueToken}
use Rattle.iim_fields.proofs.Dies.{head_no_fault, value_no_fault}
use Rattle.iim_fields.specs.declared.fault.FieldCause.{FieldCause}
use Rattle.iim_places.specs.declared.refusal.Cause.{Cause}
use Rattle.iim_fields.specs.Format.Causes as records
use Rattle.iim_object.specs.Laws as objects
use Rattle.iim_object.specs.Format.Causes as objects_format
use Rattle.iim_object.specs.Format.Objects.{Place}
use Rattle.iim_object.specs.declared.reading.fault.SizeCause.TheVariants as sizes
use Rattle.wire_message.specs.declared.fault.MessageCause.TheVariants as messages
use Rattle.iim_places.specs.declared.refusal.Layer.TheVariants as layers
use Rattle.iim_places.specs.declared.refusal.Cause.TheVariants as causes

-- ---- the causes of a layer

-- a lower cause in the layer of a field's cause is a field's cause
lower_field : (f : FieldCause) (c : Cause) → (rule_of c).layer ≡ layer_of f → (rule_of c).number < number_of_cause f → (g : FieldCause) × (c ≡ causes.Field g)
lower_field f c same less = grind arith

-- and so is one of the limits before the last
limits_field : (c : Cause) → (rule_of c).layer ≡ layers.Limits → (rule_of c).number < 52 → (g : FieldCause) × (c ≡ causes.Field g)
limits_field c same less = grind arith

object_size : (c : Cause) → (rule_of c).layer ≡ layers.Object → (s : SizeCause) × (c ≡ causes.Size s)
object_size c same = grind arith

numbered : {c d : Cause} → c ≡ d → (rule_of c).number ≡ (rule_of d).number
numbered is = ap (λ (x : Cause). (rule_of x).number) is

-- ---- causes of fields and sizes, as in their layers

-- a token of the record layer, as one of all layers
abbrev here : records.Token → Token
here (HeadToken h) = AtHead h
here (ValueToken d) = AtValue d

field_layer : (f : FieldCause) → (rule_of (causes.Field f)).layer ≡ layer_of f
field_layer f = grind arith

pub field_number : (f : FieldCause) → (rule_of (causes.Field f)).number ≡ number_of_cause f
field_number f = grind arith

size_layer : (s : SizeCause) → (rule_of (causes.Size s)).layer ≡ layers.Object
size_layer s = grind arith

pub size_number : (s : SizeCause) → (rule_of (causes.Size s)).number ≡ objects_format.number_of_size_cause s
size_number s = grind arith

message_layer : (c : MessageCause) → (rule_of (causes.Message c)).layer ≡ layer_of_message c
message_layer c = grind arith

-- The object layer examines the head of a subfile or of 9:10, and a number of record 7 or 9.
abbrev is_asked : records.Token → Bool
is_asked (HeadToken h) = nat_eq h.rec 8 || nat_eq h.rec 9
is_asked (ValueToken d) = has_number_value d.rec

-- the token that it examines
abbrev token_asked : records.Token → ObjectToken
token_asked (HeadToken h) = head_token h.rec h.count
token_asked (ValueToken d) = value_token d.rec d.set (number d.octets)

size_found : {A B : Type 0} (b : Bool) (o : Option A) (f : A → B) {s : B} → (if b then option_map f o else None) ≡ Some s
    → (b ≡ true) × (x : A) × (o ≡ Some x) × (f x ≡ s)
size_found b o f e = grind arith

same_fault : {f g : TokenFault} → f.layer ≡ g.layer → f.rec ≡ g.rec → f.set ≡ g.set → f.cause ≡ g.cause → f ≡ g
same_fault layer rec set cause = λ i. record { layer = layer i; rec = rec i; set = set i; cause = cause i }

-- A cause of fields is of the record layer, with a low number, or of the limits.
side : (g : FieldCause)
    → ((layer_of g ≡ layers.Record) × (number_of_cause g < 50)) ⊎ ((layer_of g ≡ layers.Limits) × (50 ≤ number_of_cause g) × (number_of_cause g < 52))
side g = grind arith

record_low : (c : Cause) → (rule_of c).layer ≡ layers.Record → (rule_of c).number < 50
record_low c same = grind arith

-- ---- tags

-- no tag that has this count has this prefix
no_tag : (front more : List ℕ) (r s n : ℕ) (count : List ℕ) → BeginsNoTag count_octets front → IsOctet r → IsOctet s → EncodesCount count_octets n count
    → front ++ more ≡ 28 ∷ r ∷ s ∷ count → ⊥
no_tag front more r s n count dead hr hs is_count is =
    dead (record { rec = r; set = s; count = n }) more (record { rec = hr; set = hs; count = count; is_count = is_count; parts = is })

-- after four octets or more
count_rejects : (a b c d next r s n : ℕ) (held rest count : List ℕ) → IsOctet r → IsOctet s → IsOctet next → EncodesCount count_octets n count
    → a ∷ b ∷ c ∷ d ∷ (held ++ rest) ≡ 28 ∷ r ∷ s ∷ count → 0 < length rest
    → BeginsNoTag count_octets ((a ∷ b ∷ c ∷ d ∷ held) ++ next ∷ []) → IsInvalidCountForm (a ∷ b ∷ c ∷ d ∷ held) next
count_rejects a b c d next r s n [] rest (high ∷ second ∷ more) hr hs low (inl standard) is some dead =
    let same : d ≡ high = cc in
    absurd (no_tag (a ∷ b ∷ c ∷ d ∷ next ∷ []) [] r s _ (d ∷ next ∷ []) dead hr hs (inl (omega (arith, same, standard.0), low, refl, refl)) cc)
count_rejects a b c d next r s n [] rest (high ∷ second ∷ more) hr hs low (inr extended) is some dead =
    let zs : List ℕ = replicate next 0 in
    let fits = λ (one : 1 ≤ next) (few : next ≤ count_octets). no_tag (a ∷ b ∷ c ∷ d ∷ next ∷ []) zs r s _ (128 ∷ next ∷ zs) dead hr hs
    (inr (refl, sym (length-replicate next 0), one, few, zeros_are next, refl)) (cc (extended.0)) in
    inr (omega arith, cc (extended.0), grind (arith, fits))
count_rejects a b c d next r s n (e ∷ held) [] count hr hs low spelled is some dead = absurd (omega (arith, some))
count_rejects a b c d next r s n (e ∷ held) (x ∷ rest) (high ∷ second ∷ more) hr hs low (inl standard) is some dead =
    let tail : held ++ x ∷ rest ≡ more = cc in
    absurd (omega (arith, ap length (tail ∙ standard.2), length-append held (x ∷ rest)))
count_rejects a b c d next r s n (e ∷ held) (x ∷ rest) (high ∷ second ∷ more) hr hs low (inr extended) is some dead =
    let five : e ≡ second = cc in
    let tail : more ≡ held ++ x ∷ rest = cc in
    let all : List ℕ = (held ++ next ∷ []) ++ rest in
    let long : e ≡ length all = omega (arith, five, extended.1, ap length tail, length-append {A = ℕ}) in
    let old : Octets (held ++ x ∷ rest) = rw tail at extended.4 in
    let front = octets_append held (next ∷ []) (all_front IsOctet held (x ∷ rest) old) (low, tt) in
    let octets = octets_append (held ++ next ∷ []) rest front (all_back IsOctet held (x ∷ rest) old).1 in
    absurd (no_tag (a ∷ b ∷ c ∷ d ∷ e ∷ (held ++ next ∷ [])) rest r s _ (128 ∷ e ∷ all) dead hr hs
    (inr (refl, long, omega (arith, five, extended.2), omega (arith, five, extended.3), octets, refl)) (cc (extended.0)))
count_rejects a b c d next r s n held rest count hr hs low bad is some dead = absurd bad

-- the count of an empty dataset
no_data : EncodesCount count_octets (number (0 ∷ 0 ∷ [])) (0 ∷ 0 ∷ [])
no_data = inl (omega arith, omega arith, refl, refl)

module _ (limits : Limits) (ds : List Dataset) where
  -- the condition of a cause, at a token
  abbrev Holds' : Token → Cause → Type 0
  Holds' token c = (rule_of c).holds limits ds token

  -- what is reported of a token
  record IsReported (token : Token) (fault : TokenFault) : Type 0 where
    pub tells : ReportsLowestCause limits ds token fault
    pub names : Names fault.cause ds token fault.rec fault.set

  told_so : (token : Token) {fault : TokenFault} → (rule_of fault.cause).layer ≡ fault.layer → Holds' token fault.cause
      → ((c : Cause) → (rule_of c).layer ≡ fault.layer → (rule_of c).number < (rule_of fault.cause).number → Holds' token c → ⊥)
      → Names fault.cause ds token fault.rec fault.set → IsReported token fault
  told_so token layer holds lowest names = record { tells = record { layer = layer; holds = holds; lowest = lowest }; names = names }

  field_holds : (f : FieldCause) (t : records.Token) → Holds' (here t) (causes.Field f) ↔ records.HasFieldCause f limits ds t
  field_holds f t = grind arith

  -- the dataset that is named
  field_names : (f : FieldCause) (t : records.Token) (rec set : ℕ) → records.FaultNamesDataset f ds t rec set ↔ Names (causes.Field f) ds (here t) rec set
  field_names f t rec set = grind arith

  own_names : (s : SizeCause) (t : records.Token) → Names (causes.Size s) ds (here t) (records.head_at t).rec (records.head_at t).set
  own_names s t = grind arith

  -- ---- heads and values

  -- the first error of a field
  abbrev first_of : records.Token → Option FieldFault
  first_of (HeadToken h) = first_fault limits ds h
  first_of (ValueToken d) = value_fault d

  -- one subfile too many
  abbrev many_of : records.Token → Option TokenFault
  many_of (HeadToken h) = subfile_fault ds h
  many_of (ValueToken d) = None

  -- the position at which it is examined
  abbrev place_asked : records.Token → Place
  place_asked (HeadToken h) = place_after_datasets ds
  place_asked (ValueToken d) = place_at ds (head_of d)

  -- the first error on sizes
  abbrev size_of : records.Token → Option TokenFault
  size_of t = if is_asked t then option_map (size_fault_on (records.head_at t)) (cause_at (place_asked t) (token_asked t)) else None

  -- the error that the tests find
  abbrev fault_of : records.Token → Option TokenFault
  fault_of t = option_or (option_map fault_of_record (first_of t)) (option_or (many_of t) (size_of t))

  -- The layer cannot continue, and those examined before it can.
  abbrev DiesBy : Layer → records.Token → Type 0
  DiesBy layer (HeadToken h) = RejectsHead layer limits ds h
  DiesBy layer (ValueToken d) = RejectsValue layer ds d

  -- the numbers with one more, which is that of the dataset
  more_stated : (d : Dataset) → d.rec ≡ 7
      → numbers_of (of_record 7 (ds ++ d ∷ [])) ≡ numbers_of (of_record 7 ds) ++ record { set = d.set; number = number d.octets } ∷ []
  more_stated d seven = simp (filter-append, map-append, eq-eqb d.rec 7 seven)

  -- a condition on sizes, as in the object layer
  abbrev OfSize : SizeCause → records.Token → Type 0
  OfSize cause t = (is_asked t ≡ true) × objects_format.HasSizeCause cause (place_asked t) (token_asked t)

  to_table : (s : SizeCause) (t : records.Token) → OfSize s t → Holds' (here t) (causes.Size s)
  to_table s t has = grind (arith, nat_tests, more_stated)

  of_head : (s : SizeCause) (h : Head) → Holds' (AtHead h) (causes.Size s) → OfSize s (HeadToken h)
  of_head s h has = grind (arith, nat_tests)

  of_table : (s : SizeCause) (t : records.Token) → Holds' (here t) (causes.Size s) → OfSize s t
  of_table s (HeadToken h) has = of_head s h has
  of_table sizes.ModeClash (ValueToken d) (seven, mode, some) =
      let is = rw (more_stated d seven) at mode in let announced = rw (more_stated d seven) at some in rw seven (grind arith)
  of_table sizes.SizeClash (ValueToken d) (seven, above) = let is = rw (more_stated d seven) at above in rw seven (grind arith)
  of_table sizes.ConfirmedWrong (ValueToken d) (nine, other) = rw nine (refl, (number d.octets, refl, other))
  of_table s (ValueToken d) has = absurd has

  -- one subfile too many, and its test
  many_reported : (h : Head) {fault : TokenFault} → subfile_fault ds h ≡ Some fault
      → (count_fault_on h ≡ fault) × (h.rec ≡ 8) × (max_subfiles ≤ length (of_record 8 ds))
  many_reported h e = grind (arith, nat_tests)

  -- the limits' errors have high numbers, and the limit is reached
  limits_high : (h : Head)
      → (limits_fault limits ds h ≡ None)
      ⊎ ((f : FieldFault) × (limits_fault limits ds h ≡ Some f) × (50 ≤ number_of_cause f.cause) × (HeadFits limits ds h → ⊥))
  limits_high h = grind (arith, nat_tests)

  -- No layer before the message's rejects a token for a cause of the message.
  no_message : (m : MessageCause) (t : records.Token) (l : Layer) → (rule_of (causes.Message m)).layer ≡ l
      → DiesBy l t → Holds' (here t) (causes.Message m) → ⊥
  no_message m t l same dead has = grind arith

  rejects_so : (l : Layer) (t : records.Token) → DiesBy l t → Rejects l limits ds (here t)
  rejects_so l t dead = grind arith

  module _ (laws : LayerLemmas) (alive : AreViableSections ds) (within : AreWithinLimits limits ds) where
    tells_of : (t : records.Token) → IsFaultIfAny (first_of t) limits ds t
    tells_of (HeadToken h) = laws.heads_tell limits ds h
    tells_of (ValueToken d) = laws.values_tell limits ds d

    -- the object layer reports the first of its causes
    first_cause : (t : records.Token) (s : SizeCause) → DiesBy layers.Object t → is_asked t ≡ true
        → (cause_at (place_asked t) (token_asked t) ≡ Some s) ↔ objects.IsFirstCause (place_asked t) (token_asked t) s
    first_cause (HeadToken h) s dead on =
        let stated = (stated_after_all laws ds alive within.subfiles).stated in
        elim (or_cases (nat_eq h.rec 8) (nat_eq h.rec 9) on) [
          | inl is ↦ let eight = eqb-true h.rec 8 is in laws.first_cause _ _ s stated (subfile_reaches laws ds h dead.0 eight (dead.1.subfiles eight)).0
          | inr is ↦ laws.first_cause _ _ s stated (end_reaches laws ds h dead.0 (eqb-true h.rec 9 is)).0
        ]
    first_cause (ValueToken d) s dead on =
        laws.first_cause _ _ s (stated_at laws ds (head_of d) (d, refl, dead.0) within.subfiles (λ eight. let bad : false ≡ true = rw eight at on in cc)).stated
        (number_reaches laws ds d dead.0 on).0

    -- ---- the first error that tests find is the lowest

    many_is_reported : (t : records.Token) (s : TokenFault) → many_of t ≡ Some s → records.HasNoFault limits ds t → IsReported (here t) s
    many_is_reported (ValueToken d) s e none = cc
    many_is_reported (HeadToken h) s e none =
        let (is, eight, full) = many_reported h e in
        rw (← is) (told_so (AtHead h) refl (eight, full)
        (λ other same less has. let (g, at) = limits_field other same less in none g ((field_holds g (HeadToken h)).0 (rw at at has)))
        (refl, refl))

    token_told : (t : records.Token) (fault : TokenFault) → fault_of t ≡ Some fault → DiesBy fault.layer t
        → Rejects fault.layer limits ds (here t) × IsReported (here t) fault
    token_told t fault e dead = (rejects_so fault.layer t dead, by (first_of t) (many_of t) refl refl e)
      where
        by : (o : Option FieldFault) (p : Option TokenFault) → first_of t ≡ o → many_of t ≡ p
            → option_or (option_map fault_of_record o) (option_or p (size_of t)) ≡ Some fault → IsReported (here t) fault
        by (Some f) p first second e =
            let is = ((tells_of t).0 f).0 first in
            rw (← same_Some _ _ e) (told_so (here t) (field_layer f.cause) ((field_holds f.cause t).1 is.holds)
            (λ other same less has.
            let (g, at) = lower_field f.cause other same (omega (arith, less, field_number f.cause)) in
            is.lowest g (omega (arith, less, field_number f.cause, numbered at, field_number g)) ((field_holds g t).0 (rw at at has)))
            ((field_names f.cause t f.rec f.set).0 is.names))
        by None (Some s) first second e = rw (← same_Some _ _ e) (many_is_reported t s second ((tells_of t).1.0 first))
        by None None first second e =
            let (on, s, found, is) = size_found (is_asked t) _ (size_fault_on (records.head_at t)) e in
            let cause = (first_cause t s (rw (← is) at dead) on).0 found in
            rw (← is) (told_so (here t) (size_layer s) (to_table s t (on, cause.holds))
            (λ other same less has.
            let (r, at) = object_size other same in
            let low = cause.lowest r (of_table r t (rw at at has)).1 in
            omega (arith, less, low, size_number s, numbered at, size_number r))
            (own_names s t))

    -- ---- the error reported as the lowest is found first

    -- If the record layer can continue after a head, conditions on fields are those of the limits,
    -- and hold if the limit is reached.
    limited : (h : Head) → AreViableSectionsWithHead ds h → (g : FieldCause) → records.HasFieldCause g limits ds (HeadToken h)
        → (50 ≤ number_of_cause g) × (HeadFits limits ds h → ⊥)
    limited h at g has =
        let same : first_fault limits ds h ≡ limits_fault limits ds h = rw (head_no_fault ds h at) refl in
        elim (limits_high h) [
          | inl e ↦ absurd ((laws.heads_tell limits ds h).1.0 (same ∙ e) g has)
          | inr (f, e, high, full) ↦
              let first = (((laws.heads_tell limits ds h).0 f).0 (same ∙ e)).lowest g in
              let low = λ (less : number_of_cause g < number_of_cause f.cause). first less has in
              (omega (arith, low, high), full)
        ]

    -- a lower cause of fields, of the layer that is reported
    own : (t : records.Token) {fault : TokenFault} → IsReported (here t) fault → (g : FieldCause) → records.HasFieldCause g limits ds t
        → layer_of g ≡ fault.layer → (rule_of fault.cause).number ≤ number_of_cause g
    own t {fault} told g has at =
        let low = λ (less : (rule_of (causes.Field g)).number < (rule_of fault.cause).number).
        told.tells.lowest (causes.Field g) (field_layer g ∙ at) less ((field_holds g t).1 has) in
        omega (arith, field_number g, low)

    -- If a layer cannot continue, no condition on fields holds of a lower number than the reported
    -- one; if it is the object layer, none at all.
    quiet : (l : Layer) (t : records.Token) {fault : TokenFault} → fault.layer ≡ l → DiesBy l t → IsReported (here t) fault
        → (g : FieldCause) → records.HasFieldCause g limits ds t → ((rule_of fault.cause).number ≤ number_of_cause g) × (l ≢ layers.Object)
    quiet layers.Record t {fault} same dead told g has = elim (side g) [
      | inl s ↦ (own t told g has (s.0 ∙ sym same), λ bad. cc)
      | inr s ↦ (let low = record_low fault.cause (told.tells.layer ∙ same) in omega (arith, s.1, low), λ bad. cc)
    ]
    quiet layers.Limits (HeadToken h) same dead told g has = elim (side g) [
      | inl s ↦ absurd (let high = (limited h dead.0 g has).0 in omega (arith, s.1, high))
      | inr s ↦ (own (HeadToken h) told g has (s.0 ∙ sym same), λ bad. cc)
    ]
    quiet layers.Object (HeadToken h) same dead told g has = absurd ((limited h dead.0 g has).1 dead.1)
    quiet layers.Object (ValueToken d) same dead told g has = absurd ((laws.values_tell limits ds d).1.0 (value_no_fault ds d dead.0) g has)
    quiet l (HeadToken h) same dead told g has = absurd dead
    quiet l t same dead told g has = absurd dead

    no_many : (t : records.Token) → DiesBy layers.Object t → many_of t ≡ None
    no_many t dead = grind (arith, nat_tests)

    token_back : (t : records.Token) (l : Layer) (rec set : ℕ) (c : Cause) → DiesBy l t
        → IsReported (here t) (record { layer = l; rec = rec; set = set; cause = c }) → fault_of t ≡ Some
        (record { layer = l; rec = rec; set = set; cause = c })
    token_back t l rec set (causes.Field f) dead told =
        let first = ((tells_of t).0 (record { rec = rec; set = set; cause = f })).1 (record {
          holds = (field_holds f t).0 told.tells.holds;
          lowest = λ g less has. let low = (quiet l t refl dead told g has).0 in omega (arith, less, low, field_number f);
          names = (field_names f t rec set).1 told.names;
        }) in
        rw first (ap Some (same_fault (sym (field_layer f) ∙ told.tells.layer) refl refl refl))
    token_back (HeadToken h) l rec set causes.TooManySubfiles dead told =
        let (eight, many) = told.tells.holds in
        let none : first_fault limits ds h ≡ None = (laws.heads_tell limits ds h).1.1 (λ g has.
        let low = (quiet l (HeadToken h) refl dead told g has).0 in omega (arith, low, side g)) in
        rw (none, eq-eqb h.rec 8 eight, le-ltb _ _ many) (ap Some (same_fault told.tells.layer (sym told.names.0) (sym told.names.1) refl))
    token_back t l rec set (causes.Size s) dead told =
        let (on, has) = of_table s t told.tells.holds in
        let object : l ≡ layers.Object = sym told.tells.layer ∙ size_layer s in
        let dies : DiesBy layers.Object t = rw object at dead in
        let none : first_of t ≡ None = (tells_of t).1.1 (λ g holds. (quiet l t refl dead told g holds).1 object) in
        let found = (first_cause t s dies on).1 (record {
          holds = has;
          lowest = λ r holds.
              let low = λ (less : (rule_of (causes.Size r)).number < (rule_of (causes.Size s)).number).
              told.tells.lowest (causes.Size r) (size_layer r ∙ sym object) less (to_table r t (on, holds)) in
              omega (arith, low, size_number s, size_number r);
        }) in
        rw (none, no_many t dies, on, found)
        (ap Some (same_fault (sym object) ((own_names s t).0 ∙ sym told.names.0) ((own_names s t).1 ∙ sym told.names.1) refl))
    token_back t l rec set (causes.Message m) dead told = absurd (no_message m t l told.tells.layer dead told.tells.holds)
    token_back (HeadToken h) l rec set c dead told = absurd told.tells.holds
    token_back t l rec set c dead told = absurd told.tells.holds

  -- ---- octets of the object, and its end

  -- the message layer has one cause at a head
  end_cause : (h : Head) (c : Cause) → (rule_of c).layer ≡ layers.Message → Holds' (AtHead h) c → c ≡ causes.Message messages.Unfinished
  end_cause h c same has = grind arith

  end_reports : (h : Head) (fault : TokenFault) → IsBadEndAt limits ds h fault → Rejects fault.layer limits ds (AtHead h) × IsReported (AtHead h) fault
  end_reports h fault is =
      rw is.is_fault (
        (is.leads_on, (is.last, is.dies.1)),
        told_so (AtHead h) refl (is.last, is.dies.1)
            (λ other same less has. let n = numbered (end_cause h other same has) in omega (arith, less, n))
            (refl, refl),
      )

  -- the causes of an octet are reported of the partial dataset
  octet_names : (b : PartialDataset) (octet : ℕ) (c : Cause) (rec set : ℕ) → Holds' (AtOctet b octet) c
      → Names c ds (AtOctet b octet) rec set → (rec ≡ partial_record b) × (set ≡ partial_number b)
  octet_names b octet c rec set has names = grind arith

  -- a cause at an octet of data is one of the message
  of_message : (h : Head) (taken : List ℕ) (b : ℕ) (c : Cause) → Holds' (AtOctet (InData h taken) b) c → (m : MessageCause) × (c ≡ causes.Message m)
  of_message h taken b c has = grind arith

  -- a lower cause of the same layer at an octet of data is the first one of the story
  lower_octet : (h : Head) (taken : List ℕ) (b : ℕ) (m : MessageCause) (c : Cause) → (rule_of c).layer ≡ layer_of_message m
      → (rule_of c).number < (rule_of (causes.Message m)).number → Holds' (AtOctet (InData h taken) b) (causes.Message m)
      → Holds' (AtOctet (InData h taken) b) c → (m ≡ messages.ControlOctet) × (c ≡ causes.Message messages.LoneReturn)
  lower_octet h taken b m c same less holds has = grind arith

  module _ (laws : LayerLemmas) (h : Head) (taken : List ℕ) (b : ℕ) where
    octet_reports : h.rec ≡ 8 → IsOctet b → (c : MessageCause) → HasMessageCause c (object_of ds ++ taken) b
        → Rejects (layer_of_message c) limits ds (AtOctet (InData h taken) b) × Holds' (AtOctet (InData h taken) b) (causes.Message c)
    octet_reports eight low messages.BadOctet has =
        let dead = λ (lives : IsViableMessage ((object_of ds ++ taken) ++ b ∷ [])). message_rejects (object_of ds ++ taken) b lives has in
        (dead, (eight, dead))
    octet_reports eight low messages.Unfinished has = absurd has
    octet_reports eight low messages.LoneReturn (lives, dies, (held, some, holds)) =
        let lone = lone_return laws (object_of ds ++ taken) b dies held some holds in
        ((lives, dies.1), (eight, (in_text (object_of ds ++ taken) b dies, (held, holds, lone.0, lone.1, lone.2))))
    octet_reports eight low messages.ControlOctet (lives, dies, none) =
        ((lives, dies.1), (eight, (in_text (object_of ds ++ taken) b dies, control laws (object_of ds ++ taken) b dies low none)))
    octet_reports eight low messages.Sink (lives, story, told, apart) = ((lives, story), (eight, (told, apart)))

    octet_reported : h.rec ≡ 8 → IsOctet b → (c : MessageCause) → HasMessageCause c (object_of ds ++ taken) b
        → Rejects (layer_of_message c) limits ds (AtOctet (InData h taken) b) × IsReported (AtOctet (InData h taken) b) (message_fault_on h c)
    octet_reported eight low c has =
        let (dies, holds) = octet_reports eight low c has in (
          dies,
          told_so (AtOctet (InData h taken) b) (message_layer c) holds
              (λ other same less it.
              let (control, lone) = lower_octet h taken b c other same less holds it in
              let (lives, story, none) = rw control at has in
              let (at, (text, (held, returns, some, feed, second))) = rw lone at it in
              not_partial laws (text_so_far (object_of ds ++ taken)) held some returns none)
              (refl, refl),
        )

    octet_back : AllCanContinue limits ds (InData h taken) → (fault : TokenFault) → Rejects fault.layer limits ds (AtOctet (InData h taken) b)
        → IsReported (AtOctet (InData h taken) b) fault → (h.rec ≡ 8) × (c : MessageCause) × HasMessageCause c (object_of ds ++ taken) b × (fault
        ≡ message_fault_on h c)
    octet_back all fault dead told =
        let (c, is) = of_message h taken b fault.cause told.tells.holds in
        let named = octet_names (InData h taken) b fault.cause fault.rec fault.set told.tells.holds told.names in
        let layer : fault.layer ≡ layer_of_message c = sym told.tells.layer ∙ ap (λ (x : Cause). (rule_of x).layer) is ∙ message_layer c in
        let same : fault ≡ message_fault_on h c = same_fault layer named.0 named.1 is in
        let has = by c (rw same at dead) (rw same at told.tells) in
        (has.0, c, has.1, same)
      where
        -- message and story can continue after the octets before
        live : h.rec ≡ 8 → IsViableMessage (object_of ds ++ taken) × HasViableStory (object_of ds ++ taken)
        live eight =
            let is = with_data ds h taken eight ∙ sym (append-nil (object_of ds ++ taken)) in
            (message_of limits ds (InData h taken) all _ [] is, story_of limits ds (InData h taken) all _ [] is)

        by : (c : MessageCause) → Rejects (layer_of_message c) limits ds (AtOctet (InData h taken) b)
            → ReportsLowestCause limits ds (AtOctet (InData h taken) b) (message_fault_on h c) → (h.rec ≡ 8) × HasMessageCause c (object_of ds ++ taken) b
        by messages.BadOctet dead tells = (tells.holds.0, ((live tells.holds.0).0, λ lives. dead (rw map-append lives)))
        by messages.Unfinished dead tells = absurd tells.holds
        by messages.LoneReturn dead tells =
            let (eight, (text, (held, holds, some, feed, second))) = tells.holds in
            (eight, (dead.0, ((live eight).1, dead.1), (held, some, holds)))
        by messages.ControlOctet dead tells =
            let (eight, (text, which)) = tells.holds in
            let story = (live eight).1 in
            let (held, holds) = (laws.stories_live (text_so_far (object_of ds ++ taken))).0 (viable_prefix StoryLanguage _ _ story) in
            -- a pending CR would be reported first
            let lone = λ (some : 0 < held). tells.lowest (causes.Message messages.LoneReturn) refl (omega arith)
            (eight, (text, (held, holds, some, omega (arith, which), omega (arith, which)))) in
            let none : held ≡ 0 = omega (arith, lone) in
            (eight, (dead.0, (story, dead.1), rw none at holds))
        by messages.Sink lives tells = let (eight, (text, apart)) = tells.holds in (eight, (lives.0, lives.1, text, apart))

  -- ---- tags

  tag_holds : (held : List ℕ) (next : ℕ) (rest : List ℕ) → IsOctet next → (h : Head) (tag : List ℕ)
      → (s : EncodesTag count_octets h tag) → 0 < length rest → held ++ rest ≡ 28 ∷ h.rec ∷ h.set ∷ s.count
      → BeginsNoTag count_octets (held ++ next ∷ []) → Holds' (AtOctet (InTag held) next) (tag_cause held)
  tag_holds [] next rest low h tag s some is dead =
      (refl, λ marker. no_tag (next ∷ []) (0 ∷ 0 ∷ 0 ∷ 0 ∷ []) 0 0 _ (0 ∷ 0 ∷ []) dead (omega arith) (omega arith) no_data cc)
  tag_holds (a ∷ []) next rest low h tag s some is dead =
      absurd (no_tag (a ∷ next ∷ []) (0 ∷ 0 ∷ 0 ∷ []) next 0 _ (0 ∷ 0 ∷ []) dead low (omega arith) no_data cc)
  tag_holds (a ∷ b ∷ []) next rest low h tag s some is dead =
      absurd (no_tag (a ∷ b ∷ next ∷ []) (0 ∷ 0 ∷ []) h.rec next _ (0 ∷ 0 ∷ []) dead s.rec low no_data cc)
  tag_holds (a ∷ b ∷ c ∷ []) next rest low h tag s some is dead =
      let less = λ (less : next < 128). no_tag (a ∷ b ∷ c ∷ next ∷ []) (0 ∷ []) h.rec h.set _ (next ∷ 0 ∷ []) dead s.rec s.set
      (inl (less, omega arith, refl, refl)) cc in
      let full = λ (full : next ≡ 128). no_tag (a ∷ b ∷ c ∷ next ∷ []) (1 ∷ 0 ∷ []) h.rec h.set _ (128 ∷ 1 ∷ 0 ∷ []) dead s.rec s.set
      (inr (refl, refl, omega arith, omega arith, (omega arith, tt), refl)) cc in
      inl (omega arith, omega (arith, less, full))
  tag_holds (a ∷ b ∷ c ∷ d ∷ held) next rest low h tag s some is dead =
      count_rejects a b c d next h.rec h.set h.count held rest s.count s.rec s.set low s.is_count is some dead

  -- the error of an octet of a tag
  of_tag : (held : List ℕ) (next : ℕ) (c : Cause) → Holds' (AtOctet (InTag held) next) c → (c ≡ tag_cause held) × ((rule_of c).layer ≡ layers.Dataset)
  of_tag held next c has = grind arith

  tag_reports : (held : List ℕ) (next : ℕ) → IsOctet next → (h : Head) (tag : List ℕ) → EncodesTag count_octets h tag → IsProperPrefix held tag
      → BeginsNoTag count_octets (held ++ next ∷ []) → IsReported (AtOctet (InTag held) next) (tag_fault held)
  tag_reports held next low h tag s part dead =
      let holds = tag_holds held next part.0 low h tag s part.1 (part.2 ∙ s.parts) dead in
      told_so (AtOctet (InTag held) next) (of_tag held next (tag_cause held) holds).1 holds
      (λ other same less has. let n = numbered (of_tag held next other has).0 in omega (arith, less, n)) (grind arith)

  tag_back : (held : List ℕ) (b : ℕ) (fault : TokenFault) → Rejects fault.layer limits ds (AtOctet (InTag held) b)
      → IsReported (AtOctet (InTag held) b) fault → BeginsNoTag count_octets (held ++ b ∷ []) × (fault ≡ tag_fault held)
  tag_back held b fault dead told =
      let (is, layer) = of_tag held b fault.cause told.tells.holds in
      let named = octet_names (InTag held) b fault.cause fault.rec fault.set told.tells.holds told.names in
      let same : fault.layer ≡ layers.Dataset = sym told.tells.layer ∙ layer in
      (rw same at dead, same_fault same named.0 named.1 is)

  -- ---- what is reported is what tests find

  value_dies : (l : Layer) (d : Dataset) → Rejects l limits ds (AtValue d) → RejectsValue l ds d
  value_dies l d dead = grind arith

  head_rejects : (l : Layer) (h : Head) → Rejects l limits ds (AtHead h) → RejectsHead l limits ds h ⊎ (l ≡ layers.Message)
  head_rejects l h dead = grind arith

  module _ (laws : LayerLemmas) (next : ℕ) (fault : TokenFault) where
    -- the token that the octet completes, and what is reported of it
    told_at : (octets : List ℕ) → IsOctet next → (b : PartialDataset) → ReadsAsDatasets count_octets octets ds b → AllCanContinue limits ds b
        → IsRefusedAt limits ds b next fault
        → (token : Token) × CompletesToken limits ds b next token × (Rejects fault.layer limits ds token × IsReported token fault)
    told_at octets low (InTag held) reads all (inl (dead, is)) =
        let (rest_is, h, tag, s, part) = reads.is_rest in
        (AtOctet (InTag held) next, (refl, refl), rw is (dead, tag_reports held next low h tag s part dead))
    told_at octets low (InTag held) reads all (inr (h, tag, inl (inl bad))) =
        (AtHead h, tag, token_told laws all.sizes.records all.sizes.within (HeadToken h) fault bad.first bad.dead)
    told_at octets low (InTag held) reads all (inr (h, tag, inl (inr is))) = (AtHead h, tag, end_reports h fault is)
    told_at octets low (InTag held) reads all (inr (h, tag, inr (other, none, more, bad))) =
        let d = data_of h [] in
        let head : h ≡ head_of d = λ i. record { rec = h.rec; set = h.set; count = none i } in
        let told = token_told laws all.sizes.records all.sizes.within (ValueToken d) fault bad.first bad.dead in
        (AtValue d, (other, rw head at tag, refl, rw head at more), told)
    told_at octets low (InData h xs) reads all (inl (eight, c, has, is)) =
        (AtOctet (InData h xs) next, (refl, refl), rw is (octet_reported laws h xs next eight low c has))
    told_at octets low (InData h xs) reads all (inr (other, many, bad)) =
        let d = data_of h (xs ++ next ∷ []) in
        let alive = alive_of limits ds (InData h xs) all.sizes in
        (AtValue d, (other, refl, many), token_told laws alive all.sizes.within (ValueToken d) fault bad.first bad.dead)

    value_back : AreViableSections ds → AreWithinLimits limits ds → (d : Dataset) → Rejects fault.layer limits ds (AtValue d)
        → IsReported (AtValue d) fault → IsFaultOfValue ds d fault
    value_back alive within d dies told =
        let dead = value_dies fault.layer d dies in
        record { first = token_back laws alive within (ValueToken d) fault.layer fault.rec fault.set fault.cause dead told; dead = dead }

    -- The layers up to the object's reject the head, or no message ends there.
    head_back : (held : List ℕ) (h : Head) → AllCanContinue limits ds (InTag held) → Rejects fault.layer limits ds (AtHead h)
        → IsReported (AtHead h) fault → IsFaultOfHead limits ds h fault ⊎ IsBadEndAt limits ds h fault
    head_back held h all dies told = elim (head_rejects fault.layer h dies) [
      | inl dead ↦
          let first = token_back laws all.sizes.records all.sizes.within (HeadToken h) fault.layer fault.rec fault.set fault.cause dead told in
          inl (record { first = first; dead = dead })
      | inr message ↦
          let is = end_cause h fault.cause (told.tells.layer ∙ message) told.tells.holds in
          let named = rw is at told.names in
          let (leads_on, (last, none)) : Rejects layers.Message limits ds (AtHead h) = rw message at dies in
          let lives = viable_prefix MessageLanguage (map Octet (object_of ds)) _ all.message in
          inr (record { last = last; leads_on = leads_on; dies = (lives, none); is_fault = same_fault message named.0 named.1 is })
    ]

    found_at : (b : PartialDataset) (token : Token) → AllCanContinue limits ds b
        → CompletesToken limits ds b next token → Rejects fault.layer limits ds token → IsReported token fault → IsRefusedAt limits ds b next fault
    found_at (InTag held) (AtHead h) all tag dies told = inr (h, tag, inl (head_back held h all dies told))
    found_at (InTag held) (AtValue d) all (other, tag, none, on) dies told =
        let is : d ≡ data_of (head_of d) [] = λ i. record { rec = d.rec; set = d.set; octets = none i } in
        let back = value_back all.sizes.records all.sizes.within d dies told in
        inr (head_of d, tag, inr (other, ap length none, on, rw is at back))
    found_at (InData h taken) (AtValue d) all (other, is, many) dies told =
        let back = value_back (alive_of limits ds (InData h taken) all.sizes) all.sizes.within d dies told in
        inr (λ eight. other (ap (λ (x : Dataset). x.rec) is ∙ eight), ap (λ (x : Dataset). length x.octets) (sym is) ∙ many, rw is at back)
    found_at (InData h taken) (AtHead g) all completes dies told = absurd completes
    found_at (InTag held) (AtOctet b octet) all (is, same) dies told =
        inl (tag_back held next fault (rw (is, same) at dies) (rw (is, same) at told))
    found_at (InData h taken) (AtOctet b octet) all (is, same) dies told =
        inl (octet_back laws h taken next all fault (rw (is, same) at dies) (rw (is, same) at told))

-- ---- the lemma

pub told_by_table : LayerLemmas → (limits : Limits) (octets : List ℕ) (next : ℕ) (fault : TokenFault) → IsOctet next → RefusesByTests limits octets next fault
    → RefusesNext limits octets next fault
told_by_table laws limits octets next fault low tests =
    let (ds, b, reads, all, open', bad) = refuses_by laws limits octets next fault tests in
    let (token, completes, (dies, told)) = told_at limits ds laws next fault octets low b reads all bad in
    let before : IsIncomplete limits octets = record { whole = ds; begun = b; reads = reads; leads_on = all; unfinished = open' } in
    record { before = before; is_octet = low; token = token; completes = completes; dies = dies; tells = told.tells; names = told.names }

pub found_by_tests : LayerLemmas → (limits : Limits) (octets : List ℕ) (next : ℕ) (fault : TokenFault) → RefusesNext limits octets next fault
    → RefusesByTests limits octets next fault
found_by_tests laws limits octets next fault r =
    let b = r.before in
    let told : IsReported limits b.whole r.token fault = record { tells = r.tells; names = r.names } in
    let step = found_at limits b.whole laws next fault b.begun r.token b.leads_on r.completes r.dies told in
    tests_of limits octets next fault (b.whole, b.begun, b.reads, b.leads_on, b.unfinished, step)
