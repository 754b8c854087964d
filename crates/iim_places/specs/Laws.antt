-- Statements of the lemmas about envelopes, streams, positions and tickets. The records at the end
-- have a field for each lemma.
use Rattle.std.specs.Prelude.{◌↔◌, ℕ, List, ◌≡◌, ◌^◌, ◌<◌, ◌≤◌, length, ◌++◌, ◌-◌, ◌∷◌, []}
use Rattle.iim_dataset.specs.Format.Octets.{IsOctet, greatest_u64, greatest_size}
use Rattle.iim_fields.specs.declared.limits.Limits.{Limits}
use Rattle.iim_places.specs.Format.Open.{RefusesByTests, RefusesNext, IsIncomplete, AllCanContinue, Delivers}
use Rattle.iim_places.specs.Format.Streams.{Listed, SplitsInto, InputEnding, IsListing, IsEnvelopeWithin, RefusesOctet, Answer, Answers}
use Rattle.iim_places.specs.Format.Admitted.{Value, Admits, AreWithinLimits, IsFramedEnvelope}
use Rattle.iim_places.specs.States.Possible.{AreViable, widest, AreHeadsWithin, Possible, IsSmallPlace, Scale, first_scale, IsPossibleAtScale, IsPossibleInVersion, PlacesArePossibleByLayers}
use Rattle.iim_places.specs.States.Restored.{EncodesPlace, counted_octets, counted_fields, IsRestoreFault}
use Rattle.iim_places.specs.Format.Tickets.{Place, ReachesPlace, ticket_in_version, IsTicketOf, part_number}
use Rattle.iim_places.specs.Format.TicketForm.{IsTicketVersion, Contents, HasContents, HeaderFull, TooManyFields, OutOfMemory}
use Rattle.iim_places.specs.declared.{fault.TokenFault.TokenFault, ticket.fault.TicketFault.TicketFault}
use Rattle.iim_dataset.specs.Format.Datasets.{Dataset, count_octets, PartialDataset, ReadsAsDatasets}
use Rattle.wire_story.specs.Format.Texts as story
use Rattle.wire_message.specs.declared.saved.MessagePlace.{MessagePlace}
use Rattle.iim_dataset.specs.Laws.{CanonicalStreamsAreEncodings, NoTagIsAPrefixOfAnother, NoDatasetIsAPrefixOfAnother, RejectedOctetsDoNotContinue, OctetsDetermineTheEvents, EventsDetermineTheDatasets, WhatAnOctetCompletes}
use Rattle.iim_fields.specs.Laws.{EnvelopesEndWithTheLastRecord, HeadsAreRejectedForFaults, HeadsReportTheLowestCause, NoSectionsAreAPrefixOfOthers, ValuesAreRejectedForFaults, ValuesReportTheLowestCause}
use Rattle.iim_object.specs.Laws.{CausesAreTheFirst, TokensExtendThePlace, OtherDatasetsChangeNoPlace, NumbersReachTheirPlace, SubfilesReachTheirPlace, EndsReachTheirPlace, DatasetsAreViableWithTheirTokens, DatasetsEndWithTheirTokens, RecordsAreByNumber, NumberDatasetsAreGood, NumbersAreViableWithoutClash, ObjectsEndAtTheAnnouncedSize, SubfilesAreViableWhileTheyFit, TotalsAreConfirmed}
use Rattle.wire_story.specs.Laws.{StoriesEndAsTexts, StoriesAreViableAsTextsSoFar, TextsEndInNoReturn, TextsSoFarHaveOneReading}
use Rattle.wire_message.specs.Laws.{ViableOctetsReachStates, MessagesEndAfterEot, StatesDetermineRejections, MessageStatesDetermineLaterOnes, OctetsDetermineTheMessageState, SavedStatesAreDistinct, ReadersConsumeViableOctets, TextsAreBetweenStxAndEtx}

-- Refusals report the lowest cause: an octet is rejected for the cause of its layer with the lowest
-- number whose condition holds for the completed token, if and only if the tests, in their order,
-- find that error first.
abbrev pub RefusalsReportTheLowestCause : Type 0
RefusalsReportTheLowestCause = (limits : Limits) (octets : List ℕ) (next : ℕ) (fault : TokenFault)
    → RefusesNext limits octets next fault ↔ (IsOctet next × RefusesByTests limits octets next fault)

-- ---- The envelopes at the start of an input, and what follows them.

-- An input has at most one listing of its envelopes and of what follows them.
abbrev pub InputsHaveOneListing : Type 0
InputsHaveOneListing = (limits : Limits) (input : List ℕ) (es fs : List Listed) (x y : InputEnding) → limits.octets < 2 ^ 32 → limits.fields < 2 ^ 32
    → IsListing limits input es x → IsListing limits input fs y → (es ≡ fs) × (x ≡ y)

-- The listing has all envelopes at the start of the input: no longer list of envelopes is possible.
abbrev pub ListingsAreLongest : Type 0
ListingsAreLongest = (limits : Limits) (input : List ℕ) (es others : List Listed) (x : InputEnding) (rest : List ℕ) → limits.octets < 2 ^ 32 → limits.fields < 2 ^ 32
    → IsListing limits input es x → SplitsInto limits input others rest → length others ≤ length es

-- ---- The result of a whole stream, which does not depend on how the stream is split into chunks.

-- If the octet after some octets is rejected, these octets are incomplete.
abbrev pub RefusedOctetsWereIncomplete : Type 0
RefusedOctetsWereIncomplete = (limits : Limits) (octets : List ℕ) (next : ℕ) (fault : TokenFault) → RefusesNext limits octets next fault → IsIncomplete limits octets

-- After a rejected octet, no continuation is incomplete, and none is an envelope within the limits.
abbrev pub RefusedOctetsHaveNoContinuation : Type 0
RefusedOctetsHaveNoContinuation = (limits : Limits) (octets more : List ℕ) (next : ℕ) (fault : TokenFault) → RefusesOctet limits octets next fault
    → (IsIncomplete limits (octets ++ next ∷ more) → ⊥) × ((value : Value) → IsEnvelopeWithin limits (octets ++ next ∷ more) value → ⊥)

-- The refusal of an octet after others is unique: its layer, its dataset and its cause.
abbrev pub RefusalsAreUnique : Type 0
RefusalsAreUnique = (limits : Limits) (octets : List ℕ) (next : ℕ) (fault other : TokenFault) → RefusesNext limits octets next fault → RefusesNext limits octets next other → fault ≡ other

-- A stream has at most one result: the envelope at its start, or a refusal, or the refusal of a
-- truncated stream.
abbrev pub StreamsHaveOneResult : Type 0
StreamsHaveOneResult = (limits : Limits) (stream : List ℕ) (answer other : Answer) → Answers limits stream answer → Answers limits stream other → answer ≡ other

-- An envelope within limits of 32 bits is shorter than 2^64 - 1 octets.
abbrev pub EnvelopesAreBounded : Type 0
EnvelopesAreBounded = (limits : Limits) (octets : List ℕ) (value : Value) → limits.octets < 2 ^ 32 → limits.fields < 2 ^ 32 → IsEnvelopeWithin limits octets value → length octets < 2 ^ 64 - 1

-- Incomplete input under limits of 32 bits is shorter than 2^64 - 1 octets.
abbrev pub IncompleteOctetsAreBounded : Type 0
IncompleteOctetsAreBounded = (limits : Limits) (octets : List ℕ) → limits.octets < 2 ^ 32 → limits.fields < 2 ^ 32 → IsIncomplete limits octets → length octets < greatest_u64

-- No prefix of incomplete input is an envelope.
abbrev pub IncompleteBeginsWithNoEnvelope : Type 0
IncompleteBeginsWithNoEnvelope = (limits : Limits) (octets front rest : List ℕ) (v : Value) → IsIncomplete limits octets → octets ≡ front ++ rest → Admits front v → ⊥

-- Octets after which every layer can continue, within the limits, are incomplete if no prefix of
-- them is an envelope.
abbrev pub ViableOctetsAreIncomplete : Type 0
ViableOctetsAreIncomplete = (limits : Limits) (octets : List ℕ) (whole : List Dataset) (begun : PartialDataset) → ReadsAsDatasets count_octets octets whole begun → AllCanContinue limits whole begun
    → ((front rest : List ℕ) (v : Value) → octets ≡ front ++ rest → Admits front v → ⊥) → IsIncomplete limits octets

-- ---- The continuations of inputs that reach the same position.

-- The values are equal except for their lines.
pub record EqualExceptLines (v w : Value) : Type 0 where
  pub fields : v.fields ≡ w.fields
  pub head : v.head ≡ w.head
  pub trailer : v.trailer ≡ w.trailer
  pub sizes : v.sizes ≡ w.sizes

-- Each continuation that keeps `p` incomplete keeps `q` incomplete. If it completes `p` to an
-- envelope, it completes `q` to one with the same value except for the lines. It adds the same text
-- to both.
pub record HaveSameContinuations (limits : Limits) (p q more : List ℕ) : Type 0 where
  pub are_open : IsIncomplete limits (p ++ more) → IsIncomplete limits (q ++ more)
  pub are_whole : (v : Value) → IsEnvelopeWithin limits (p ++ more) v → (w : Value) × IsEnvelopeWithin limits (q ++ more) w × EqualExceptLines v w
  pub add : (events : List story.StoryEvent) → AreViable limits (p ++ more) → Delivers p more events → Delivers q more events

-- Two inputs that reach the same position, each incomplete or an envelope, have the same
-- continuations: to incomplete input, to envelopes with the same value except for the lines, and
-- with the same further text.
abbrev pub PlacesDetermineContinuations : Type 0
PlacesDetermineContinuations = (limits : Limits) (p q : List ℕ) (place : Place) → ReachesPlace p place → ReachesPlace q place → AreViable limits p → AreViable limits q → (more : List ℕ) → HaveSameContinuations limits p q more

-- After two inputs that reach the same position, each incomplete or an envelope, and the same
-- continuation, the same octet is rejected with the same error.
abbrev pub PlacesDetermineRefusals : Type 0
PlacesDetermineRefusals = (limits : Limits) (p q : List ℕ) (place : Place) → ReachesPlace p place → ReachesPlace q place → AreViable limits p → AreViable limits q → (more : List ℕ) (next : ℕ) (fault : TokenFault)
    → RefusesNext limits (p ++ more) next fault → RefusesNext limits (q ++ more) next fault

-- Octets that are incomplete or an envelope reach exactly one position.
abbrev pub OctetsHaveOnePlace : Type 0
OctetsHaveOnePlace = (limits : Limits) (octets : List ℕ) → AreViable limits octets → (place : Place) × ReachesPlace octets place × ((other : Place) → ReachesPlace octets other → other ≡ place)

-- The position determines whether the octets are within limits: by the heads of records 1 and 2 in
-- it, including that of a dataset in progress.
abbrev pub PlacesDetermineLimits : Type 0
PlacesDetermineLimits = (limits : Limits) (octets : List ℕ) (place : Place) → ReachesPlace octets place → AreViable widest octets → AreViable limits octets ↔ AreHeadsWithin limits place

-- A ticket of a possible position whose heads are within the limits can be restored unless the
-- allocation fails. The limit on octets is reported before the limit on fields.
abbrev pub PossiblePlacesAreRestored : Type 0
PossiblePlacesAreRestored = (limits : Limits) (ticket : List ℕ) (place : Place) (fault : TicketFault) → EncodesPlace ticket place → IsRestoreFault limits ticket fault
    → (limits.octets < counted_octets place → fault ≡ HeaderFull) × (counted_octets place ≤ limits.octets → limits.fields < counted_fields place → fault ≡ TooManyFields)
    × (AreHeadsWithin limits place → fault ≡ OutOfMemory)

-- the size limits of version 2
abbrev pub present_scale : Scale
present_scale = record { octets = count_octets; greatest = greatest_size }

-- Under the size limits of version 2, a position is possible if and only if it is possible without
-- these limits.
abbrev pub PresentScaleAddsNothing : Type 0
PresentScaleAddsNothing = (place : Place) → IsPossibleAtScale present_scale place ↔ Possible place

-- A position is possible under the size limits of version 1 if and only if it is possible and
-- within these limits.
abbrev pub SmallPlacesWerePossible : Type 0
SmallPlacesWerePossible = (place : Place) → IsPossibleAtScale first_scale place ↔ (Possible place × IsSmallPlace place)

-- A ticket encodes at most one possible position.
abbrev pub TicketsEncodeOnePlace : Type 0
TicketsEncodeOnePlace = (version : ℕ) (p q : Place) → IsTicketVersion version → IsPossibleInVersion version p → IsPossibleInVersion version q → ticket_in_version version p ≡ ticket_in_version version q → p ≡ q

-- ---- The end and the value of an envelope are unique.

-- No envelope is empty.
abbrev pub NoEnvelopeIsEmpty : Type 0
NoEnvelopeIsEmpty = (limits : Limits) → IsFramedEnvelope limits [] → ⊥

-- An envelope has exactly one value: fields, header, lines, trailer and sizes.
abbrev pub EncodingIsUnambiguous : Type 0
EncodingIsUnambiguous = (octets : List ℕ) (v w : Value) → Admits octets v → Admits octets w → v ≡ w

-- No envelope is a proper prefix of another: its end is determined.
abbrev pub NoEncodingIsAPrefixOfAnother : Type 0
NoEncodingIsAPrefixOfAnother = (octets rest : List ℕ) (v w : Value) → Admits octets v → Admits (octets ++ rest) w → rest ≡ []

-- An envelope within the limits, including that on the number of subfiles, is framed under these
-- limits.
abbrev pub EnvelopesAreFramed : Type 0
EnvelopesAreFramed = (limits : Limits) (octets : List ℕ) (v : Value) → (admits : Admits octets v) → AreWithinLimits limits admits.datasets → IsFramedEnvelope limits octets

-- ---- The position that octets reach, and its ticket.

-- Octets have at most one ticket: the saved state of an unpacker depends only on the octets that
-- were fed.
abbrev pub OctetsHaveOneTicket : Type 0
OctetsHaveOneTicket = (octets ticket other : List ℕ) → IsTicketOf octets ticket → IsTicketOf octets other → ticket ≡ other

-- A ticket can be split into parts in at most one way.
abbrev pub ContentsAreUnique : Type 0
ContentsAreUnique = (ticket : List ℕ) (s t : Contents) → HasContents ticket s → HasContents ticket t → s ≡ t

-- source, number, priority, category, words, info and trailer so far
abbrev pub texts_of : MessagePlace → List (List ℕ)
texts_of m = m.source.items ∷ m.number.items ∷ m.priority.items ∷ m.category.items ∷ m.words.items ∷ m.info.items ∷ m.trailer.items ∷ []

-- the parts of a position's ticket in the version
abbrev pub contents_of : ℕ → Place → Contents
contents_of version p = record {
  version = version;
  section = p.section;
  phase = p.phase;
  fields = p.fields;
  numbers = p.numbers;
  taken = p.taken;
  heads = p.heads;
  part = part_number p.message.part;
  counter = p.message.counter;
  flag = p.message.flag;
  texts = texts_of p.message;
}

-- The ticket of a possible position has the form of a ticket, and its parts are those of the
-- position.
abbrev pub PlaceTicketsHaveContents : Type 0
PlaceTicketsHaveContents = (version : ℕ) (place : Place) → IsTicketVersion version → IsPossibleInVersion version place → HasContents (ticket_in_version version place) (contents_of version place)

-- The lemmas of the lower crates, in one record. Functions that use any of these lemmas receive the
-- whole record.
pub record LayerLemmas : Type 0 where
  -- lemmas about datasets
  pub one_tag : NoTagIsAPrefixOfAnother
  pub dataset_if : NoDatasetIsAPrefixOfAnother
  pub one_way : OctetsDetermineTheEvents
  pub events_tell : EventsDetermineTheDatasets
  pub completes : WhatAnOctetCompletes
  pub stuck : RejectedOctetsDoNotContinue
  pub spelled : CanonicalStreamsAreEncodings
  -- lemmas about records
  pub sections : NoSectionsAreAPrefixOfOthers
  pub last_record : EnvelopesEndWithTheLastRecord
  pub heads_die : HeadsAreRejectedForFaults
  pub heads_tell : HeadsReportTheLowestCause
  pub values_die : ValuesAreRejectedForFaults
  pub values_tell : ValuesReportTheLowestCause
  -- lemmas about objects
  pub tokens : TokensExtendThePlace
  pub others : OtherDatasetsChangeNoPlace
  pub numbers_reach_their_place : NumbersReachTheirPlace
  pub subfiles_reach_their_place : SubfilesReachTheirPlace
  pub ends_reach_their_place : EndsReachTheirPlace
  pub live : DatasetsAreViableWithTheirTokens
  pub ended : DatasetsEndWithTheirTokens
  pub by_number : RecordsAreByNumber
  pub rows : NumberDatasetsAreGood
  pub no_clash : NumbersAreViableWithoutClash
  pub fit : SubfilesAreViableWhileTheyFit
  pub whole_ends : ObjectsEndAtTheAnnouncedSize
  pub confirmed : TotalsAreConfirmed
  pub first_cause : CausesAreTheFirst
  -- lemmas about texts
  pub one_text : TextsSoFarHaveOneReading
  pub stories_live : StoriesAreViableAsTextsSoFar
  pub stories_end : StoriesEndAsTexts
  pub no_return : TextsEndInNoReturn
  -- lemmas about messages
  pub texts : TextsAreBetweenStxAndEtx
  pub living : ReadersConsumeViableOctets
  pub on : ViableOctetsReachStates
  pub alike : MessageStatesDetermineLaterOnes
  pub refused : StatesDetermineRejections
  pub one_place : OctetsDetermineTheMessageState
  pub apart : SavedStatesAreDistinct
  pub message_ends : MessagesEndAfterEot

-- The lemmas about envelopes, streams, positions and tickets, in one record with a field for each.
pub record PlaceLaws : Type 0 where
  -- lemmas about envelopes:
  pub no_envelope_is_empty : NoEnvelopeIsEmpty
  pub encoding_is_unambiguous : EncodingIsUnambiguous
  pub no_encoding_is_a_prefix_of_another : NoEncodingIsAPrefixOfAnother
  pub envelopes_are_framed : EnvelopesAreFramed
  pub envelopes_are_bounded : EnvelopesAreBounded
  -- lemmas about incomplete and rejected octets:
  pub incomplete_begins_with_no_envelope : IncompleteBeginsWithNoEnvelope
  pub viable_octets_are_incomplete : ViableOctetsAreIncomplete
  pub incomplete_octets_are_bounded : IncompleteOctetsAreBounded
  pub refused_octets_were_incomplete : RefusedOctetsWereIncomplete
  pub refused_octets_have_no_continuation : RefusedOctetsHaveNoContinuation
  pub refusals_are_unique : RefusalsAreUnique
  pub refusals_report_the_lowest_cause : RefusalsReportTheLowestCause
  -- lemmas about streams and inputs:
  pub streams_have_one_result : StreamsHaveOneResult
  pub inputs_have_one_listing : InputsHaveOneListing
  pub listings_are_longest : ListingsAreLongest
  -- lemmas about positions:
  pub octets_have_one_place : OctetsHaveOnePlace
  -- A position is possible if and only if each layer by itself can reach it.
  pub places_are_possible_by_layers : PlacesArePossibleByLayers
  pub places_determine_limits : PlacesDetermineLimits
  pub places_determine_continuations : PlacesDetermineContinuations
  pub places_determine_refusals : PlacesDetermineRefusals
  pub small_places_were_possible : SmallPlacesWerePossible
  pub the_present_scale_adds_nothing : PresentScaleAddsNothing
  -- lemmas about tickets:
  pub octets_have_one_ticket : OctetsHaveOneTicket
  pub contents_are_unique : ContentsAreUnique
  pub place_tickets_have_contents : PlaceTicketsHaveContents
  pub tickets_encode_one_place : TicketsEncodeOnePlace
  pub possible_places_are_restored : PossiblePlacesAreRestored
