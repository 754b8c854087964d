-- The ticket of a possible position has the form of a ticket: each number fits into its octets.
use Rattle.std.proofs.Common.{◌≡◌, ℕ, ◌-◌, ◌<◌, ◌≤◌, ◌^◌, nat_eq, cond, if◌then◌else◌, Bool, true, false, List, [], ◌∷◌, ◌++◌, length, sum, get_or, Option, ◌↔◌, rules, Some, None, refl, ap, sym, subst, ◌∙◌, inl, inr, arith, append_assoc, append-nil, length-append}
use Rattle.iim_places.proofs.Words.{IsAllowedByRow, ReachesPlace, AreViable, AllByRecursion, all_map, nat_tests, Octets, Dataset, EncodesStream, EncodesTag, count_octets, of_record, PartialDataset, InTag, InData, ReadsAsDatasets, kept, Head, BeginsTag, numbers_of, stated_numbers, StatedNumber, number_at, MessagePlace, LayerLemmas, object_so_far, section, AllCanContinue, ObjectIsViable, CanContinueIn, present_version, phase_of, heads_of, place_of, ticket_in_version, part_number, FitsInField, IsOptionalIn, AreTicketTexts, IsAbsentOrSize, IsTicketVersion, IsTicketPhase, HasForm, Contents, HasContents, contents_octets, object_place_in, IsSmall, IsSmallPhase, IsSmallPlace, widest, SmallPlacesWerePossible, TicketsEncodeOnePlace, PlaceTicketsHaveContents, texts_of, contents_of, Limits, max_subfiles, first_greatest_size, CanContinueAt, EncodesPartial, canonical_stream}
use Rattle.iim_places.proofs.{StreamResults.lives_as, StreamResults.one_reading, Bounds.object_fits, Bounds.is_one, SameRecords.stated_after_all, Splitting.one_split}
use Rattle.iim_places.proofs.{Following.alive_of, Following.within_of, Tickets.total_of, Tickets.so_far_by}
use Rattle.iim_places.proofs.TicketLengths.{tag_length_in, held_length, AreShortIn, texts_led}
use Rattle.iim_fields.specs.Format.Causes.{joined}
use Rattle.wire_message.specs.declared.saved.MessagePart.{MessagePart}
use Rattle.wire_message.specs.declared.saved.MessagePart.TheVariants as part
use Rattle.iim_places.specs.Format.Tickets.{Place}
use Rattle.iim_dataset.proofs.Counts.{tag-lt}

-- ---- how octets are read

-- If octets reach the position, every layer can continue.
pub goes_at : LayerLemmas → (limits : Limits) (octets : List ℕ) (place : Place) → (is : ReachesPlace octets place) → AreViable limits octets
    → AllCanContinue limits is.whole is.begun
goes_at laws limits octets place is comes =
    let lives = lives_as laws limits octets comes in
    let same = one_reading laws octets lives.whole is.whole lives.begun is.begun lives.reads is.reads in
    rw (same.whole_is, same.partial_is) at lives.leads_on

-- ---- datasets

-- no dataset is longer than all together
pub each_fits : (ds : List Dataset) → length (joined ds) < 2 ^ 32 → AllByRecursion FitsInField ds
each_fits [] few = tt
each_fits (d ∷ ds) few = let both = length-append d.octets (joined ds) in (omega (arith, few, both), each_fits ds (omega (arith, few, both)))

pub each_octets : (ds : List Dataset) (xs : List ℕ) → EncodesStream count_octets ds xs → AllByRecursion (λ (d : Dataset). Octets d.octets) ds
each_octets [] xs none = tt
each_octets (d ∷ ds) xs (first, rest, one, more, parts) = (one.data_octets, each_octets ds rest more)

-- ---- the numbers of record 7

-- What holds of each number that is stated, and of its absence, holds of the encoded ones.
pub told_at : (Q : Option ℕ → Type 0) (set : ℕ) (ps : List StatedNumber) → Q None → AllByRecursion (λ p. Q (Some p.number)) ps → Q (number_at set ps)
told_at Q set [] none all = none
told_at Q set (p ∷ ps) none all =
    elim (nat_eq p.set set) as (λ b. Q (cond b (Some p.number) (number_at set ps))) [ true ↦ all.0 | false ↦ told_at Q set ps none all.1 ]

pub four_at : (Q : Option ℕ → Type 0) (ps : List StatedNumber) → Q None → AllByRecursion (λ p. Q (Some p.number)) ps → AllByRecursion Q (stated_numbers ps)
four_at Q ps none all = (told_at Q 10 ps none all, (told_at Q 20 ps none all, (told_at Q 90 ps none all, (told_at Q 95 ps none all, tt))))

pub fit_in_rows : (ps : List StatedNumber) → AllByRecursion IsAllowedByRow ps → AllByRecursion IsAbsentOrSize (stated_numbers ps)
fit_in_rows ps all = four_at IsAbsentOrSize ps tt (all_map _ _ ps (λ p row. omega (arith, row)) all)

-- ---- the object

-- The octets of the object so far are no more than its subfiles have.
pub so_far_fits : (counts : ℕ) (octets : List ℕ) (ds : List Dataset) (b : PartialDataset) → ReadsAsDatasets counts octets ds b
    → length (object_so_far ds b) ≤ sum (object_place_in ds b).lengths
so_far_fits counts octets ds (InTag held) reads = omega (arith, total_of (of_record 8 ds))
so_far_fits counts octets ds (InData h taken) reads =
    omega (arith, so_far_by (nat_eq h.rec 8) (nat_eq h.rec 9) ds taken h.count (h.count - length taken) (omega (arith, reads.is_rest.2)))

pub lives_in : (ds : List Dataset) (b : PartialDataset) → CanContinueIn widest ds b → ObjectIsViable (object_place_in ds b)
lives_in ds b goes = grind arith

heads_few : (limits : Limits) (ds : List Dataset) (b : PartialDataset) → CanContinueIn limits ds b → heads_of ds b ≤ max_subfiles
heads_few limits ds b goes = grind (arith, nat_tests)

-- ---- the partial dataset

pub begins_tag : (counts : ℕ) (octets : List ℕ) (ds : List Dataset) (held : List ℕ) → ReadsAsDatasets counts octets ds (InTag held) → BeginsTag counts held
begins_tag counts octets ds held reads =
    let (same, h, tag, spelled, (more, some, parts)) = reads.is_rest in
    record { head = h; more = more; some_more = some; whole = subst (EncodesTag counts h) (sym parts) spelled }

-- canonical octets that are read so, with those of the partial dataset
pub reads_of : (limit : ℕ) (ds : List Dataset) (b : PartialDataset) (rest : List ℕ) → EncodesStream limit ds (canonical_stream ds) → EncodesPartial limit b rest
    → ReadsAsDatasets limit (canonical_stream ds ++ rest) ds b
reads_of limit ds b rest spelled is = record { front = canonical_stream ds; rest = rest; is_front = spelled; is_rest = is; parts = refl }

-- The stored data are those received, if they are not a subfile's.
pub stored_fits : (b : Bool) (count : ℕ) (taken : List ℕ) → length taken < count
    → length (if b then [] else taken) ≡ (if b then 0 else count - (count - length taken))
stored_fits true count taken less = refl
stored_fits false count taken less = omega (arith, less)

phase_fits : (octets : List ℕ) (ds : List Dataset) (b : PartialDataset) → ReadsAsDatasets count_octets octets ds b → IsTicketPhase present_version
    (section ds b) (phase_of ds b)
phase_fits octets ds (InTag held) reads = grind (arith, held_length octets ds held reads)
phase_fits octets ds (InData h taken) reads =
    (omega (arith, tag-lt h reads.is_rest.0 reads.is_rest.1), omega arith, stored_fits (nat_eq h.rec 8) h.count taken reads.is_rest.2)

texts_fit : (m : MessagePlace) → AreShortIn m → AreTicketTexts (texts_of m)
texts_fit m short = record { each = search (rules, arith); seven = refl }

-- ---- version 1

-- A partial dataset that was possible in version 1 has a count that fits its tickets.
pub low_count : (ds : List Dataset) (h : Head) → CanContinueAt widest ds h → (h.rec ≡ 8 → h.count ≤ first_greatest_size) → h.count < 2 ^ 32
low_count ds h goes small = elim (is_one ds h goes.records) [
  | inl keeps ↦ let room = (goes.room.kept keeps).octets_in in omega (arith, room)
  | inr few ↦ grind arith
]

-- The sizes of version 1 are those that fit into its octets.
pub small_size : (o : Option ℕ) → IsSmall o ↔ IsOptionalIn 1 o
small_size o = grind arith

small_phase : (taken : ℕ) (ds : List Dataset) (b : PartialDataset) → CanContinueIn widest ds b → IsTicketPhase present_version (section ds b) (phase_of ds b)
    → IsSmallPhase (section ds b) taken (phase_of ds b) → IsTicketPhase 1 (section ds b) (phase_of ds b)
small_phase taken ds (InTag held) goes form small =
    let short : BeginsTag 4 held → length held < 9 = λ b. omega
    (arith, tag_length_in 4 b.head (held ++ b.more) b.whole, length-append held b.more, b.some_more) in
    grind (arith, short)
small_phase taken ds (InData h xs) goes form small = (low_count ds h goes (λ eight. (small.1 eight).0), form.1, form.2)

-- ---- a ticket

pub spelled : (version : ℕ) (p : Place) → ticket_in_version version p ≡ contents_octets (contents_of version p)
spelled version p = simp (append_assoc, append-nil)

form_of : LayerLemmas → (version : ℕ) (octets : List ℕ) (place : Place) (l : ReachesPlace octets place) → AllCanContinue widest l.whole l.begun
    → IsTicketVersion version
    → (version ≡ 1 → IsSmallPlace (place_of l.whole l.begun l.message)) → HasForm (contents_of version (place_of l.whole l.begun l.message))
form_of laws version octets place l leads_on is small =
    let ds = l.whole in
    let goes = leads_on.sizes in
    let within = within_of widest ds l.begun goes in
    let room = within.kept in
    let stated = (stated_after_all laws ds (alive_of widest ds l.begun goes) within.subfiles).stated in
    let present : HasForm (contents_of present_version (place_of ds l.begun l.message)) = record {
      version = inr refl;
      phase = phase_fits octets ds l.begun l.reads;
      fields = record { each = each_fits (kept ds) (omega (arith, room.octets_in)); few = omega (arith, room.fields_in) };
      numbers = record { each = fit_in_rows (numbers_of (of_record 7 ds)) stated.each; four = refl };
      taken = omega (arith, so_far_fits count_octets octets ds l.begun l.reads, object_fits (object_place_in ds l.begun) (lives_in ds l.begun goes));
      heads = omega (arith, heads_few widest ds l.begun goes);
      texts = texts_fit l.message (texts_led (object_so_far ds l.begun) l.text l.message l.leads);
    } in
    elim is [
      | inl one ↦ (let s = small one in rw one (record {
        version = inl refl;
        phase = small_phase (length (object_so_far ds l.begun)) ds l.begun goes present.phase s.begun;
        fields = present.fields;
        numbers = record {
          each = all_map IsSmall (IsOptionalIn 1) (stated_numbers (numbers_of (of_record 7 ds))) (λ o.
              (small_size o).0) s.numbers;
          four = refl;
        };
        taken = omega (arith, s.taken);
        heads = present.heads;
        texts = present.texts;
      }))
      | inr two ↦ rw two present
    ]

-- The ticket of a possible position has the form of a ticket, with the parts of the position.
pub tickets_split : LayerLemmas → SmallPlacesWerePossible → PlaceTicketsHaveContents
tickets_split laws scales version place is p =
    let l = p.0.leads in
    let goes = goes_at laws widest p.0.octets place l p.0.comes in
    let small = λ (one : version ≡ 1). subst IsSmallPlace l.is_place ((scales place).0 (p.1 one)).1 in
    record {
      form = subst (λ (q : Place). HasForm (contents_of version q)) (sym l.is_place) (form_of laws version p.0.octets place l goes is small);
      spelled = spelled version place;
    }

-- ---- one position

pub part_encoded : (p q : MessagePart) → part_number p ≡ part_number q → p ≡ q
part_encoded p q e = grind arith

-- the numbers and the texts of a message's position determine it
pub message_encoded : (m n : MessagePlace) → part_number m.part ≡ part_number n.part → m.counter ≡ n.counter → m.flag ≡ n.flag → texts_of m ≡ texts_of n → m ≡ n
message_encoded m n parts counter flag texts =
    let at = part_encoded m.part n.part parts in
    λ i. record {
      part = at i;
      counter = counter i;
      flag = flag i;
      source = record { items = get_or (texts i) 0 [] };
      number = record { items = get_or (texts i) 1 [] };
      priority = record { items = get_or (texts i) 2 [] };
      category = record { items = get_or (texts i) 3 [] };
      words = record { items = get_or (texts i) 4 [] };
      info = record { items = get_or (texts i) 5 [] };
      trailer = record { items = get_or (texts i) 6 [] };
    }

same_place : (version : ℕ) (p q : Place) → contents_of version p ≡ contents_of version q → p ≡ q
same_place version p q e =
    let message = message_encoded p.message q.message (ap (λ (s : Contents). s.part) e) (ap (λ (s : Contents). s.counter) e) (ap (λ (s : Contents). s.flag) e)
    (ap (λ (s : Contents). s.texts) e) in
    λ i. record {
      section = (e i).section;
      phase = (e i).phase;
      fields = (e i).fields;
      numbers = (e i).numbers;
      taken = (e i).taken;
      heads = (e i).heads;
      message = message i;
    }

-- A ticket encodes one possible position.
pub one_determined : LayerLemmas → SmallPlacesWerePossible → TicketsEncodeOnePlace
one_determined laws scales version p q told is are e =
    same_place version p q
    (one_split (ticket_in_version version p) (contents_of version p) (contents_of version q) (tickets_split laws scales version p told is)
    (subst (λ (xs : List ℕ). HasContents xs (contents_of version q)) (sym e) (tickets_split laws scales version q told are)))
