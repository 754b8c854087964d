-- Octets that reach one position leave the parts of an unpacker in the same state. The results of
-- unpackers in the same state, and that a restored one is in the state of the saved one.
use Rattle.iim_unpack.proofs.Words.{AllCanContinue, Answer, Answers, PartsAreAfter, AreWithinLimits, PartialDataset, CanContinue, CanContinueAt, Dataset, Done, Err, Finished, Head, InData, InTag, IsDoneWith, IsEnvelopeWithin, IsFinished, StoresPartial, IsIncomplete, IsRefusedIn, Limits, List, LayerLemmas, More, Octets, Ok, Parts, Place, Progress, ReadsAsDatasets, Refusal, Refused, Result, HasRead, PartsAreAt, StreamsHaveOneResult, TokenFault, Truncated, Unpacking, PartsAreIn, [], alive_of, ap, is_non_empty, arith, partial_number, partial_record, count_octets, fields_after, fields_in, get_or-append-add, emitted_events, head_alive, if◌then◌else◌, inl, inr, length, length-append, limits_in, nat_eq, object_of, object_so_far, one_reading, opened, place_after_datasets, place_at, place_of, sum_capped, refl, refusal_at, section_after, slice_index, some_read, stated_after_all, subst, sym, take, take-append-add, text_so_far, ℕ, ◌++◌, ◌+◌, ◌==◌, ◌∙◌, ◌∷◌, ◌≡◌, ◌≤◌, ◌⊎◌}
use Rattle.iim_fields.specs.States.Standing as records
use Rattle.iim_unpack.specs.Laws.{ReturnsForChunk, IsNotFromSink, EquivalentUnpackersReturnTheSame, SavedStateResumesExactly, RestoredUnpackersAreEquivalent, RestoredStateIsTheSavedState, AreEquivalent, HaveReadTheSame, PlacesDetermineUnpackers}
use Rattle.iim_unpack.proofs.Sequences.{reached}
use Rattle.iim_places.proofs.{SameRecords.same_records, SameRecords.stated_at, Saved.at_restored, Saved.open_wider, Saved.whole_wider}
use Rattle.iim_places.proofs.SamePlace.{SameAll, SameBegun, SameWhole, count_as, has_as, partial_incomplete, keeps_as, message_as, object_as, object_at_as, object_lives_after_as, octets_of, same_begun, same_message, total_as}
use Rattle.std.proofs.Common.{rules}
use Rattle.iim_places.specs.{Format.Open.RefusesNext, Format.Streams.IsRefused, Format.Streams.IsTruncated, Laws.TicketsEncodeOnePlace}
use Rattle.iim_places.specs.Format.Open as opens

-- ---- the parts

module _ (laws : LayerLemmas) (limits : Limits) (parts : Parts) (ds es : List Dataset) (ended : nat_eq (section_after ds) 9 ≡ nat_eq (section_after es) 9) where
  after_as : {x y : List ℕ} → PartsAreAfter parts ds → SameAll ds es (InTag x) (InTag y) → CanContinue limits es → PartsAreAfter parts es
  after_as at all goes =
      let m = all.message in
      let same : SameWhole ds es = record {
        fields = record { ended = ended; fields = all.fields; numbers = all.numbers; heads = all.heads };
        octets = all.taken;
      } in
      let recs = same_records laws ds es at.fields.alive goes.records at.few goes.within.subfiles same.fields in record {
        fields = fields_after parts.fields ds es at.fields goes.records all.section same.fields.fields recs;
        object = object_as parts.object (place_after_datasets ds) (place_after_datasets es) at.object (object_lives_after_as ds es same)
            (stated_after_all laws es goes.records goes.within.subfiles) goes.object;
        few = goes.within.subfiles;
        message = message_as laws parts.message (object_of ds) (object_of es) m.text m.other m.at at.message m.here m.there;
        ended = λ nine. at.ended (all.section ∙ nine);
      }

  within_as : (h : Head) (xs ys : List ℕ) → length xs ≡ length ys → Octets ys → PartsAreIn parts ds h xs
      → (if h.rec == 8 then [] else xs) ≡ (if h.rec == 8 then [] else ys) → SameAll ds es (InData h xs) (InData h ys) → CanContinueAt limits es h
      → PartsAreIn parts es h ys
  within_as h xs ys many octets at given all goes =
      let m = all.message in
      let same : SameWhole ds es = record {
        fields = record { ended = ended; fields = all.fields; numbers = all.numbers; heads = count_as _ _ (if h.rec == 8 then 1 else 0) all.heads };
        octets = total_as (h.rec == 8) (object_of ds) (object_of es) xs ys many all.taken;
      } in
      let recs =
      same_records laws ds es (head_alive ds h at.fields.alive) (head_alive es h goes.records) at.few goes.within.subfiles same.fields in record {
        octets = octets;
        fields = subst (records.IsReadingDataset parts.fields es h) given
            (fields_in laws.values_die parts.fields ds es h (if h.rec == 8 then [] else xs) at.fields goes.records same.fields.fields recs);
        object = object_as parts.object (place_at ds h) (place_at es h) at.object (object_at_as ds es h same)
            (stated_at laws es h goes.records goes.within.subfiles goes.room.subfiles) goes.object;
        few = goes.within.subfiles;
        room = goes.room.subfiles;
        message = message_as laws parts.message (object_so_far ds (InData h xs)) (object_so_far es (InData h ys)) m.text m.other m.at at.message m.here m.there;
        ended = at.ended;
      }

  parts_as : (c d : PartialDataset) (q : List ℕ) → SameBegun c d → ReadsAsDatasets count_octets q es d → PartsAreAt parts ds c → SameAll ds es c d
      → AllCanContinue limits es d
      → PartsAreAt parts es d
  parts_as (InTag x) (InTag y) q same reads at all goes = after_as at all goes.sizes
  parts_as (InData h xs) (InData k ys) q same reads at all goes =
      subst (λ (g : Head). (if h.rec == 8 then [] else xs) ≡ (if g.rec == 8 then [] else ys) → SameAll ds es (InData h xs) (InData g ys)
      → CanContinueAt limits es g → PartsAreIn parts es g ys) same.head (within_as h xs ys same.many (octets_of q es k ys reads) at) same.given all goes.sizes
  parts_as c d q same reads at all goes = absurd same

-- ---- the complete unpacker

pub same_has_consumed : LayerLemmas → PlacesDetermineUnpackers
same_has_consumed laws u p q a place at there stands opens =
    let led = stands.is_led in
    let r = reached laws.events_tell led.leads led.led in
    let one = one_reading laws p r.whole at.whole r.begun at.begun r.reads at.reads in
    let mine : PartsAreAt u.parts at.whole at.begun = rw (one.whole_is, one.partial_is) at r.stands in
    let was = opened laws (limits_in u) p at.whole at.begun at.reads stands.is_open in
    let now = opened laws (limits_in u) q there.whole there.begun there.reads opens in
    let e : place_of at.whole at.begun at.message ≡ place_of there.whole there.begun there.message = sym at.is_place ∙ there.is_place in
    let all : SameAll at.whole there.whole at.begun there.begun = record {
      section = ap (λ (x : Place). x.section) e;
      fields = ap (λ (x : Place). x.fields) e;
      numbers = ap (λ (x : Place). x.numbers) e;
      taken = ap (λ (x : Place). x.taken) e;
      heads = ap (λ (x : Place). x.heads) e;
      message = same_message laws (object_so_far at.whole at.begun) (object_so_far there.whole there.begun) at.text there.text at.message there.message
          (ap (λ (x : Place). x.message) e) at.leads there.leads;
    } in
    let same =
    same_begun p q at.whole there.whole at.begun there.begun at.reads there.reads all.section (ap (λ (x : Place). x.phase) e)
    (partial_incomplete at.whole at.begun there.begun was.ended) in
    let some : is_non_empty p ≡ is_non_empty q = some_read p at.whole at.begun at.reads
    ∙ has_as at.whole there.whole at.begun there.begun same (alive_of (limits_in u) at.whole at.begun was.goes.sizes)
    (alive_of (limits_in u) there.whole there.begun now.goes.sizes) all.section
    ∙ sym (some_read q there.whole there.begun there.reads) in
    record {
      taking = stands.taking;
      unended = stands.unended;
      counts = stands.counts;
      begun = stands.begun ∙ some;
      is_led = record {
        events = emitted_events there.whole there.begun;
        text = text_so_far (object_so_far there.whole there.begun);
        leads = record {
          begun = there.begun;
          hands = record { whole = there.whole; reads = there.reads; handed = refl };
          keeps = keeps_as u.reader.place at.begun there.begun same (subst (StoresPartial u.reader.place) one.partial_is r.keeps);
        };
        led = record {
          whole = there.whole;
          begun = there.begun;
          told = refl;
          stands = parts_as laws (limits_in u) u.parts at.whole there.whole (was.ended ∙ sym now.ended) at.begun there.begun q same there.reads mine all
              now.goes;
          is_text = refl;
        };
      };
      is_open = opens;
    }

-- ---- the result of a chunk as the result of all octets

-- The result of all octets, `n` of which came before, represents the result of the chunk, before
-- which `a` octets were counted.
abbrev Matches : ℕ → ℕ → Result Progress Refusal → Answer → Type 0
Matches n a (Ok More) (Truncated e) = Unit {0}
Matches n a (Ok (Done used)) (Finished all value) = all ≡ n + used
Matches n a (Err e) (Refused f) = (k : ℕ) × (fault : TokenFault) × (f ≡ refusal_at (n + k) fault) × (e ≡ refusal_at (sum_capped a k) fault)
Matches n a _ _ = ⊥

same_refusal : (n a : ℕ) (e e' f : Refusal) → Matches n a (Err e) (Refused f) → Matches n a (Err e') (Refused f) → e ≡ e'
same_refusal n a e e' f (k, fault, all, is) (k', fault', all', is') = grind arith

-- One result of all octets represents one result of the chunk.
one_answer : (n a : ℕ) (one other : Result Progress Refusal) (all : Answer) → Matches n a one all → Matches n a other all → one ≡ other
one_answer n a (Ok More) (Ok More) (Truncated e) h k = refl
one_answer n a (Ok (Done used)) (Ok (Done used')) (Finished all value) h k = let same : used ≡ used' = omega (arith, h, k) in ap (λ (m : ℕ). Ok (Done m)) same
one_answer n a (Err e) (Err e') (Refused f) h k = ap Err (same_refusal n a e e' f h k)
one_answer n a one other all h k = absurd (search rules)

-- the result of all octets
abbrev AnswersAll : Limits → List ℕ → ℕ → ℕ → Result Progress Refusal → Type 0
AnswersAll limits stream n a answer = (all : Answer) × Answers limits stream all × Matches n a answer all

answers_all : (u u' : Unpacking) (p piece : List ℕ) (a : ℕ) (answer : Result Progress Refusal) → HasRead u p a → ReturnsForChunk u u' piece answer
    → IsNotFromSink answer → AnswersAll (limits_in u) (p ++ piece) (length p) a answer
answers_all u u' p piece a (Ok More) at w no_failure =
    let stands : HasRead u' (p ++ piece) (sum_capped a (length piece)) = (w.goes.1 p a at).0 in
    let is : IsIncomplete (limits_in u) (p ++ piece) = subst (λ (l : Limits). IsIncomplete l (p ++ piece)) (w.limits at.taking) stands.is_open in
    let e : Refusal = opens.truncation_refusal (length (p ++ piece)) (partial_record is.begun, partial_number is.begun) in
    let short : IsTruncated (limits_in u) (p ++ piece) e = record {
      is_open = is;
      refusal = record { whole = is.whole; begun = is.begun; reads = is.reads; refusal = refl };
    } in
    (Truncated e, short, tt)
answers_all u u' p piece a (Ok (Done used)) at w no_failure =
    let goes = w.goes.1 p a at in
    let fits : used ≤ length piece = goes.0 in
    let done : IsDoneWith u' (p ++ take used piece) (sum_capped a used) = goes.1 in
    let within : IsEnvelopeWithin (limits_in u) (p ++ take used piece) done.value =
    record { admits = done.admits; within = subst (λ (l : Limits). AreWithinLimits l done.admits.datasets) (w.limits at.taking) done.within } in
    let whole : IsFinished (limits_in u) (p ++ piece) (length p + used) done.value = record {
      fits = omega (arith, fits, length-append p piece);
      envelope = subst (λ (octets : List ℕ). IsEnvelopeWithin (limits_in u) octets done.value) (sym (take-append-add p piece used)) within;
    } in
    (Finished (length p + used) done.value, whole, refl)
answers_all u u' p piece a (Err e) at w no_failure =
    let r : IsRefusedIn (limits_in u) p a piece w.refused.0 e = w.refused.1 p a at in
    let stream : List ℕ = p ++ piece in
    let refuses : RefusesNext (limits_in u) (take (length p + r.k) stream) (slice_index stream (length p + r.k)) r.fault =
    rw (take-append-add p piece r.k, get_or-append-add p piece r.k 0) r.refuses in
    let was : IsRefused (limits_in u) stream (refusal_at (length p + r.k) r.fault) = record {
      fits = omega (arith, r.within, length-append p piece);
      fault = r.fault;
      refusal = refl;
      refuses = refuses;
    } in
    (Refused (refusal_at (length p + r.k) r.fault), (was, λ is. no_failure (ap (λ (x : Refusal). x.cause) r.refusal ∙ is)), (r.k, r.fault, refl, r.refusal))

-- ---- after a chunk

-- two results of the same octets are equal
same_answers : StreamsHaveOneResult → (limits : Limits) (stream : List ℕ) (n a : ℕ) (one other : Result Progress Refusal) → AnswersAll limits stream n a one
    → AnswersAll limits stream n a other → one ≡ other
same_answers law limits stream n a one other (all, is, h) (all', is', k) =
    one_answer n a one other all' (subst (λ (x : Answer). Matches n a one x) (law limits stream all all' is is') h) k

then_alike : (u v u' v' : Unpacking) (p piece : List ℕ) (a : ℕ) (answer : Result Progress Refusal) → limits_in v ≡ limits_in u → HasRead u p a → HasRead v p a
    → ReturnsForChunk u u' piece answer → ReturnsForChunk v v' piece answer → AreEquivalent u' v'
then_alike u v u' v' p piece a (Ok More) same at at' w w' = inl (record {
  limits = w'.limits at'.taking ∙ (same ∙ sym (w.limits at.taking));
  octets = p ++ piece;
  count = sum_capped a (length piece);
  both = inl ((w.goes.1 p a at).0, (w'.goes.1 p a at').0);
})
then_alike u v u' v' p piece a (Ok (Done used)) same at at' w w' = inl (record {
  limits = w'.limits at'.taking ∙ (same ∙ sym (w.limits at.taking));
  octets = p ++ take used piece;
  count = sum_capped a used;
  both = inr ((w.goes.1 p a at).1, (w'.goes.1 p a at').1);
})
then_alike u v u' v' p piece a (Err e) same at at' w w' = inr (e.octet, w.failed, w'.failed)

pub chunk_equivalent : StreamsHaveOneResult → EquivalentUnpackersReturnTheSame
chunk_equivalent law u v u' v' piece one other alike w w' no_failure calm' = by alike
  where
    on_same : (s : HaveReadTheSame u v) → (HasRead u s.octets s.count × HasRead v s.octets s.count)
        ⊎ (IsDoneWith u s.octets s.count × IsDoneWith v s.octets s.count) → (one ≡ other) × AreEquivalent u' v'
    on_same s (inl (at, at')) =
        let stream : List ℕ = s.octets ++ piece in
        let n : ℕ = length s.octets in
        let its : AnswersAll (limits_in u) stream n s.count other =
        subst (λ (l : Limits). AnswersAll l stream n s.count other) s.limits (answers_all v v' s.octets piece s.count other at' w' calm') in
        let is = same_answers law (limits_in u) stream n s.count one other (answers_all u u' s.octets piece s.count one at w no_failure) its in (
          is,
          then_alike u v u' v' s.octets piece s.count one s.limits at at' w (subst (λ (x : Result Progress Refusal). ReturnsForChunk v v' piece x)
              (sym is) w'),
        )
    -- nothing changes after an envelope, and after a refusal
    on_same s (inr (d, d')) =
        let mine = w.done (d.taking, d.ended) in
        let its = w'.done (d'.taking, d'.ended) in
        (mine.0 ∙ sym its.0, rw (mine.1, its.1) (inl s))

    by : AreEquivalent u v → (one ≡ other) × AreEquivalent u' v'
    by (inl s) = on_same s s.both
    by (inr r) =
        let mine = w.again r.0 r.1 in
        let its = w'.again r.0 r.2 in
        (mine.0 ∙ sym its.0, rw (mine.1, its.1) (inr r))

-- ---- chunk after chunk

pub chunks_equivalent : StreamsHaveOneResult → SavedStateResumesExactly
chunks_equivalent law u v [] [] [] alike w w' = refl
chunks_equivalent law u v (piece ∷ pieces) (one ∷ ones) (other ∷ others) alike (u', w, no_failure, rest) (v', w', calm', rest') =
    let (same, then_) = chunk_equivalent law u v u' v' piece one other alike w w' no_failure calm' in
    let more = chunks_equivalent law u' v' pieces ones others then_ rest rest' in
    λ i. same i ∷ more i
chunks_equivalent law u v pieces ones others alike w w' = absurd (search rules)

-- ---- a restored unpacker

pub restored_equivalent : RestoredStateIsTheSavedState → RestoredUnpackersAreEquivalent
restored_equivalent law u v p ticket a octets fields stood is restored =
    let stands = law u v p ticket a octets fields is restored in
    inl (record { limits = restored.limits_are; octets = p; count = a; both = elim stood [ inl at ↦ inl (at, stands.0 at) | inr d ↦ inr (d, stands.1 d) ] })

-- ---- a restored unpacker is in the state of the saved one

pub restored_as_saved : TicketsEncodeOnePlace → RestoredStateIsTheSavedState
restored_as_saved one u v p ticket a less few is restored = (
  (λ stands.
      let place = at_restored one p ticket is.place restored.place is.is_place (inl (open_wider _ p less few stands.is_open)) is.spelled restored.is_ticket in
      restored.stands p place stands.is_open),
  (λ done.
      let whole : IsEnvelopeWithin (limits_in u) p done.value = record { admits = done.admits; within = done.within } in
      let place = at_restored one p ticket is.place restored.place is.is_place (inr (done.value, whole_wider _ p done.value less few whole)) is.spelled
      restored.is_ticket in
      restored.done p done.value place whole),
)
