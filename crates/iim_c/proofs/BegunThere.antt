-- What is in progress in the state of a ticket.
use Rattle.iim_c.proofs.Words.{◌≡◌, ℕ, List, [], get_or, sym, ap, subst, ◌∙◌, arith, Dataset, count_octets, InTag, InData, ReadsAsDatasets, Contents, HasContents, Place, ReachesPlace, EncodesPlace, TicketFault, IimBegun, HasProgressOf, ◌==◌, ◌-◌, if◌then◌else◌, ◌∷◌, ◌++◌, inl, inr, length, drop, refl, append_assoc, length-append, drop_at, Head, Limits, Cause}
use Rattle.std.proofs.Common.{◌⊎◌}
use Rattle.iim_dataset.specs.{Format.Datasets.PartialDataset, Laws.DatasetLaws, States.Reading.emitted_events}
use Rattle.iim_places.specs.{Format.TicketForm.HasOtherVersion, Format.TicketForm.IsTicketFormFault, Format.TicketForm.IsTicketVersion, Format.Tickets.place_of}
use Rattle.iim_places.specs.{Laws.ContentsAreUnique, Laws.PlaceTicketsHaveContents, Laws.contents_of, Format.Open.AllCanContinue, Format.Open.CompletesToken}
use Rattle.iim_places.specs.Format.Causes.{Token, AtOctet, AtHead, AtValue, rule_of}
use Rattle.wire_message.specs.declared.saved.MessagePlace.{MessagePlace}
use Rattle.iim_c.specs.Format.Tickets.{IimSpan, IsProgressOf, IsCompleteEnvelope, IsInProgress, begun_of, ended, AreOctetsOf, HasTokenOf}
use Rattle.iim_fields.specs.{Format.Records.AreSections, Laws.EnvelopesEndWithTheLastRecord}
use Rattle.iim_places.proofs.Lasts.{last_sections}
use Rattle.iim_object.specs.declared.reading.fault.SizeCause.TheVariants as sizes

-- ---- what is in progress after octets

progress_after_octets : (at : ℕ) (p : List ℕ) (whole : List Dataset) (begun : PartialDataset) (message : MessagePlace) (found : IimBegun) (s : Contents)
    (span : IimSpan)
    → ReadsAsDatasets count_octets p whole begun → s.section ≡ (place_of whole begun message).section → s.phase ≡ (place_of whole begun message).phase
    → found ≡ begun_of at s span → ((found.kind ≡ ended) × IsCompleteEnvelope whole begun) ⊎ IsInProgress at begun found
progress_after_octets at p whole (InTag held) message found s span reads section phase is = grind arith
progress_after_octets at p whole (InData h taken) message found s span reads section phase is = let some = reads.is_rest.2 in grind arith

pub split_at : PlaceTicketsHaveContents → (ticket : List ℕ) (place : Place) (t : EncodesPlace ticket place) → HasContents ticket (contents_of t.version place)
split_at law ticket place t = subst (λ (xs : List ℕ). HasContents xs (contents_of t.version place)) (sym t.spelled)
    (law t.version place t.is_version t.possible)

pub octets_tell : PlaceTicketsHaveContents → ContentsAreUnique → (ticket : List ℕ) (at : ℕ) (s : Contents) (found : IimBegun) → HasContents ticket s
    → IsProgressOf ticket at s found
    → (p : List ℕ) (place : Place) → EncodesPlace ticket place → ReachesPlace p place → HasProgressOf p at found
octets_tell of_places one ticket at s found h b p place t led =
    let same : s ≡ contents_of t.version place = one ticket s (contents_of t.version place) h (split_at of_places ticket place t) in
    let section = ap (λ (x : Contents). x.section) same ∙ ap (λ (x : Place). x.section) led.is_place in
    let phase = ap (λ (x : Contents). x.phase) same ∙ ap (λ (x : Place). x.phase) led.is_place in
    record {
      whole = led.whole;
      begun = led.begun;
      reads = led.reads;
      tells = progress_after_octets at p led.whole led.begun led.message found s found.octets led.reads section phase b.is;
    }

-- ---- octets that are not a ticket

no_other : (ticket : List ℕ) (s : Contents) → HasContents ticket s → HasOtherVersion ticket → ⊥
no_other ticket s h other =
    let same : s.version ≡ other.version = ap (λ (xs : List ℕ). get_or xs 4 0) (sym h.spelled ∙ other.named) in
    other.other (subst IsTicketVersion same h.form.version)

pub no_split : (ticket : List ℕ) (fault : TicketFault) (s : Contents) → IsTicketFormFault ticket fault → HasContents ticket s → ⊥
no_split ticket fault s f h = let other = no_other ticket s h in grind arith

-- ---- the token that the next octet completes

-- the first octet of the token that the next octet belongs to, after `at` octets
abbrev token_of : ℕ → PartialDataset → ℕ
token_of at (InTag held) = at - length held
token_of at (InData h taken) = if h.rec == 8 then at else at - length taken

begins_token : (at : ℕ) (begun : PartialDataset) (found : IimBegun) → IsInProgress at begun found → found.token ≡ token_of at begun
begins_token at begun found told = grind arith

-- the last octets of a list, and the next
from_there : (p front xs : List ℕ) (next n : ℕ) → p ≡ front ++ xs → n ≡ length p - length xs → drop n (p ++ next ∷ []) ≡ xs ++ next ∷ []
from_there p front xs next n is counts =
    rw (is, append_assoc front xs (next ∷ [])) (drop_at front (xs ++ next ∷ []) n (omega (arith, counts, ap length is, length-append front xs)))

tag_there : (p : List ℕ) (whole : List Dataset) (held : List ℕ) (next n : ℕ) → (reads : ReadsAsDatasets count_octets p whole (InTag held)) → n
    ≡ length p - length held
    → drop n (p ++ next ∷ []) ≡ held ++ next ∷ []
tag_there p whole held next n reads counts = from_there p reads.front held next n (rw reads.is_rest.0 at reads.parts) counts

data_there : (p : List ℕ) (whole : List Dataset) (h : Head) (taken : List ℕ) (next n : ℕ) → (reads : ReadsAsDatasets count_octets p whole (InData h taken))
    → n ≡ length p - length taken → drop n (p ++ next ∷ []) ≡ taken ++ next ∷ []
data_there p whole h taken next n reads counts =
    let parts = rw reads.is_rest.4 at reads.parts in
    from_there p (reads.front ++ reads.is_rest.0) taken next n (parts ∙ sym (append_assoc reads.front reads.is_rest.0 taken)) counts

-- only in subfiles an octet of data is checked by itself
in_subfile : (cause : Cause) (limits : Limits) (ds : List Dataset) (h : Head) (taken : List ℕ) (octet : ℕ)
    → (rule_of cause).holds limits ds (AtOctet (InData h taken) octet) → h.rec ≡ 8
in_subfile cause limits ds h taken octet holds = grind arith

-- an octet that is checked by itself, of what is in progress
octet_of : (p : List ℕ) (whole : List Dataset) (begun : PartialDataset) (next n : ℕ) (cause : Cause) (limits : Limits) (ds : List Dataset)
    → ReadsAsDatasets count_octets p whole begun → n ≡ token_of (length p) begun
    → (rule_of cause).holds limits ds (AtOctet begun next) → AreOctetsOf (AtOctet begun next) (drop n (p ++ next ∷ []))
octet_of p whole (InTag held) next n cause limits ds reads counts holds = tag_there p whole held next n reads counts
octet_of p whole (InData h taken) next n cause limits ds reads counts holds =
    let eight = in_subfile cause limits ds h taken next holds in
    drop_at p (next ∷ []) n (grind arith)

token_there : (p : List ℕ) (whole : List Dataset) (begun : PartialDataset) (next n : ℕ) (cause : Cause) (limits : Limits) (ds : List Dataset)
    → ReadsAsDatasets count_octets p whole begun → n ≡ token_of (length p) begun → (token : Token)
    → CompletesToken limits ds begun next token → (rule_of cause).holds limits ds token → AreOctetsOf token (drop n (p ++ next ∷ []))
token_there p whole begun next n cause limits ds reads counts (AtOctet b octet) is holds =
    rw (is.0, is.1) (octet_of p whole begun next n cause limits ds reads counts (rw (is.0, is.1) at holds))
token_there p whole (InTag held) next n cause limits ds reads counts (AtHead h) tag holds = rw (tag_there p whole held next n reads counts) tag
token_there p whole (InData h taken) next n cause limits ds reads counts (AtHead g) none holds = absurd none
token_there p whole (InTag held) next n cause limits ds reads counts (AtValue d) is holds =
    inr (is.2, rw (tag_there p whole held next n reads counts) is.1)
token_there p whole (InData h taken) next n cause limits ds reads counts (AtValue d) is holds =
    let other : h.rec ≡ 8 → ⊥ = λ e. is.0 (ap (λ (x : Dataset). x.rec) is.1 ∙ e) in
    let from : n ≡ length p - length taken = grind arith in
    let octets : d.octets ≡ taken ++ next ∷ [] = ap (λ (x : Dataset). x.octets) is.1 in
    inl (
      λ none. absurd (omega (arith, ap length (sym octets ∙ none), length-append taken (next ∷ []))),
      data_there p whole h taken next n reads from ∙ sym octets,
    )

-- the last dataset is complete, and the octets are an envelope
not_ended : EnvelopesEndWithTheLastRecord → (limits : Limits) (whole : List Dataset) (begun : PartialDataset) → AllCanContinue limits whole begun
    → (AreSections whole → ⊥) → IsCompleteEnvelope whole begun → ⊥
not_ended ends limits whole (InTag held) all unfinished nine = unfinished (last_sections ends whole all.sizes.records nine)
not_ended ends limits whole (InData h taken) all unfinished none = none

pub token_told : DatasetLaws → EnvelopesEndWithTheLastRecord → (p : List ℕ) (at : ℕ) (found : IimBegun) → HasProgressOf p at found → HasTokenOf p at found
token_told laws ends p at found t limits next fault r counts =
    let here = r.before in
    let one = laws.octets_determine_the_events p (emitted_events t.whole t.begun) (emitted_events here.whole here.begun) t.begun here.begun
    (record { whole = t.whole; reads = t.reads; handed = refl }) (record { whole = here.whole; reads = here.reads; handed = refl }) in
    let whole : t.whole ≡ here.whole = (laws.events_determine_the_datasets t.whole here.whole t.begun here.begun one.0).0 in
    elim t.tells as (λ _. AreOctetsOf r.token (drop found.token (p ++ next ∷ []))) [
      | inl told ↦ absurd (not_ended ends limits here.whole here.begun here.leads_on here.unfinished (rw (whole, one.1) at told.1))
      | inr told ↦
          (let begins = rw (one.1, counts) at (begins_token at t.begun found told) in
          token_there p here.whole here.begun next found.token fault.cause limits here.whole here.reads begins r.token r.completes r.tells.holds)
    ]
