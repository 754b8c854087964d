-- What an unpacker returns for a stream that is split into chunks.
use Rattle.iim_unpack.proofs.Words.{Answer, Answers, Bor, Cause, CountsSinkFailure, Delivers, DeliveryOfChunksJoins, Done, Err, Finished, Progresses, HasFedChunks, HasParts, InTag, IsDone, IsDoneWith, IsEnvelopeWithin, IsFinished, IsIncomplete, IsRefusedIn, IsTruncatedAt, IsRejected, Limits, List, LayerLemmas, More, None, Ok, Option, PlaceLaws, Progress, Refusal, Refused, Result, Some, HasRead, StreamsHaveOneResult, Truncated, Unpacked, Unpacking, Value, [], ap, append-nil, append_assoc, arith, drop, flat_map-append, get_or, get_or-append-add, inl, inr, length, length-append, length-take-le, limits_in, object_of, sum_capped, reads_envelope, refl, refusal_at, slice_index, stream_of, subst, sym, take, take-append-add, take-append-drop, text_so_far, ℕ, ◌++◌, ◌+◌, ◌-◌, ◌<◌, ◌^◌, ◌∙◌, ◌∷◌, ◌≡◌, ◌≤◌, ◌⊎◌}
use Rattle.std.proofs.Common.{IfErr}
use Rattle.std.proofs.lemmas.List.{get_or_append_left, take-append-le, take_more}
use Rattle.std.specs.Result.{IsErrAnd}
use Rattle.wire_story.specs.Format.Texts as story
use Rattle.wire_story.specs.Laws.{TextsAreDeliveredAsLines}
use Rattle.wire_message.specs.declared.place.Place.TheVariants.{AfterEnd}
use Rattle.iim_places.specs.Format.Admitted.{Admits}
use Rattle.iim_unpack.specs.{Format.Pieces.RepresentsResult, Format.Pieces.IsUnpacked, Steps.IsDoneWithin}
use Rattle.iim_places.specs.declared.refusal.Cause.TheVariants.{Message}
use Rattle.wire_message.specs.declared.fault.MessageCause.TheVariants.{Sink}
use Rattle.iim_places.proofs.StreamResults.{reaches_end, no_text}
use Rattle.iim_unpack.proofs.{Feeding.one_text, Intakes.Joined, Intakes.adds_more, Intakes.sink_unchanged, Intakes.told_truncated}

-- The limits are numbers of 32 bits.
pub record AreLow (limits : Limits) : Type 0 where
  pub octets : limits.octets < 4294967296
  pub fields : limits.fields < 4294967296

exact : (n k : ℕ) → n + k < 2 ^ 64 - 1 → sum_capped n k ≡ n + k
exact n k less = omega (arith, less)

module _ {S : Type 0} {goes : S → List story.StoryEvent → S → Type 0} (joined : Joined goes) (cut : DeliveryOfChunksJoins) (laws : PlaceLaws) {limits : Limits}
    (low : AreLow limits) (o piece : List ℕ) where
  -- ---- a chunk that was consumed

  -- the unpacker has consumed incomplete input, and the chunk too
  on_more : {v : Unpacking} → limits_in v ≡ limits → HasRead v (o ++ piece) (sum_capped (length o) (length piece)) → HasRead v (o ++ piece) (length
      (o ++ piece))
  on_more {v} same at =
      let less = laws.incomplete_octets_are_bounded limits (o ++ piece) low.octets low.fields (subst (λ (l : Limits). IsIncomplete l
      (o ++ piece)) same at.is_open) in
      let sum = length-append o piece in
      subst (HasRead v (o ++ piece)) (exact (length o) (length piece) (omega (arith, less, sum)) ∙ sym sum) at

  -- or it has completed an envelope that is a prefix
  on_done : {v : Unpacking} (more next : List story.StoryEvent) (used : ℕ) → limits_in v ≡ limits → used ≤ length piece
      → IsDoneWith v (o ++ take used piece) (sum_capped (length o) used) → Delivers [] o more → Delivers o (take used piece) next
      → IsDoneWithin v (o ++ piece) (more ++ next)
  on_done {v} more next used same fits done before adds =
      let within : IsEnvelopeWithin limits (o ++ take used piece) done.value =
      subst (λ (l : Limits). IsEnvelopeWithin l (o ++ take used piece) done.value) same (record { admits = done.admits; within = done.within }) in
      let less = laws.envelopes_are_bounded limits (o ++ take used piece) done.value low.octets low.fields within in
      let sum = length-append o (take used piece) ∙ ap (λ (n : ℕ). length o + n) (length-take-le used piece fits) in
      let there = subst (IsDoneWith v (o ++ take used piece)) (exact (length o) used (omega (arith, less, sum))) done in
      record {
        used = length o + used;
        fits = omega (arith, fits, length-append o piece);
        done = rw (take-append-add o piece used) there;
        adds = rw (take-append-add o piece used) (adds_more cut [] o (take used piece) more next before adds);
      }

  pub feeds_on : {u v : Unpacking} {a b c : S} (progress : Progress) → HasFedChunks goes limits u a b o → limits_in v ≡ limits
      → ((more : List story.StoryEvent) × goes b more c × ((p : List ℕ) (n : ℕ) → HasRead u p n → Progresses v p n piece more progress))
      → ((used : ℕ) → used ≤ length o → IsDoneWith u (take used o) used → (v ≡ u) × (c ≡ b)) → HasFedChunks goes limits v a c (o ++ piece)
  feeds_on {u} {v} {a} {b} {c} progress fed same step done' = by fed.stood
    where
      answered : (q : Progress) → HasRead u o (length o) → Delivers [] o fed.more → Progresses v o (length o) piece step.0 q
          → (HasRead v (o ++ piece) (length (o ++ piece)) × Delivers [] (o ++ piece) (fed.more ++ step.0)) ⊎ IsDoneWithin v (o ++ piece) (fed.more ++ step.0)
      answered More at adds there = inl (on_more same there.0, adds_more cut [] o piece fed.more step.0 adds there.1)
      answered (Done used) at adds there = inr (on_done fed.more step.0 used same there.0 there.1 adds there.2)

      by : (HasRead u o (length o) × Delivers [] o fed.more) ⊎ IsDoneWithin u o fed.more → HasFedChunks goes limits v a c (o ++ piece)
      by (inl (at, adds)) = record {
        limits_are = same;
        more = fed.more ++ step.0;
        told = joined a b c fed.more step.0 fed.told step.1;
        stood = answered progress at adds (step.2 o (length o) at);
      }
      by (inr d) =
          let still = done' d.used d.fits d.done in
          let front : take d.used (o ++ piece) ≡ take d.used o = take-append-le d.used o piece d.fits in
          record {
            limits_are = same;
            more = fed.more;
            told = rw still.1 fed.told;
            stood = inr (record {
              used = d.used;
              fits = let fits = d.fits in omega (arith, fits, length-append o piece);
              done = rw (still.0, front) d.done;
              adds = rw front d.adds;
            });
          }

  -- ---- a chunk of which an octet is rejected

  refused_there : {next : List story.StoryEvent} {e : Refusal} → (r : IsRefusedIn limits o (length o) piece next e) → e.octet ≡ length o + r.k
  refused_there r =
      let front : List ℕ = o ++ take r.k piece in
      let within = r.within in
      let is_open = laws.refused_octets_were_incomplete limits front (slice_index piece r.k) r.fault r.refuses in
      let less = laws.incomplete_octets_are_bounded limits front low.octets low.fields is_open in
      let sum = length-append o (take r.k piece) ∙ ap (λ (n : ℕ). length o + n) (length-take-le r.k piece (omega (arith, within))) in
      ap (λ (x : Refusal). x.octet) r.refusal ∙ exact (length o) r.k (omega (arith, less, sum))

  was_refused : {a b c : S} (rest : List ℕ) (more next : List story.StoryEvent) {e : Refusal} → goes a more b → goes b next c → Delivers [] o more
      → IsRefusedIn limits o (length o) piece next e → IsRejected goes limits (o ++ (piece ++ rest)) a c e
  was_refused {a} {b} {c} rest more next {e} told then' adds r =
      let within = r.within in
      let stream : List ℕ = o ++ (piece ++ rest) in
      let at = refused_there r in
      let front : take e.octet stream ≡ o ++ take r.k piece =
      ap (λ (n : ℕ). take n stream) at ∙ take-append-add o (piece ++ rest) r.k
      ∙ ap (λ (x : List ℕ). o ++ x) (take-append-le r.k piece rest (omega (arith, within))) in
      let octet : slice_index stream e.octet ≡ slice_index piece r.k =
      ap (slice_index stream) at ∙ get_or-append-add o (piece ++ rest) r.k 0 ∙ get_or_append_left piece rest 0 r.k within in
      let delivered : Delivers o (take r.k piece) next = λ text is. (r.added, r.adds text is, r.delivers) in
      inl (
        record {
          fits = omega (arith, within, at, length-append o (piece ++ rest), length-append piece rest);
          fault = r.fault;
          refusal = r.refusal ∙ ap (λ (n : ℕ). refusal_at n r.fault) (sym (ap (λ (x : Refusal). x.octet) r.refusal));
          refuses = rw (front, octet) r.refuses;
        },
        (more ++ next, joined a b c more next told then', rw front (adds_more cut [] o (take r.k piece) more next adds delivered)),
      )

  -- the result of feeding it
  pub turned_down : {u : Unpacking} {a b c : S} (rest : List ℕ) {answer : Result Progress Refusal} {e : Refusal} → HasFedChunks goes limits u a b o
      → answer ≡ Err e → ((more : List story.StoryEvent) × goes b more c × ((p : List ℕ) (n : ℕ) → HasRead u p n → IsRefusedIn (limits_in u) p n piece more e))
      → (IsDone u → answer ≡ Ok (Done 0)) → IsRejected goes limits (o ++ (piece ++ rest)) a c e
  turned_down rest {answer} {e} fed is step done' = elim fed.stood [
    | inl (at, adds) ↦
        was_refused rest fed.more step.0 fed.told step.1 adds
        (subst (λ (l : Limits). IsRefusedIn l o (length o) piece step.0 e) fed.limits_are (step.2 o (length o) at))
    | inr d ↦ absurd (let bad : Err e ≡ Ok (Done 0) = sym is ∙ done' (d.done.taking, d.done.ended) in cc)
  ]

-- ---- the end

-- the text delivered of an envelope is its lines
lines_of : LayerLemmas → TextsAreDeliveredAsLines → (octets : List ℕ) (v : Value) (more : List story.StoryEvent) → Admits octets v → Delivers [] octets more
    → more ≡ story.events_of_lines v.lines
lines_of laws delivered octets v more a adds =
    let (added, is, told) = adds [] no_text in
    let text : a.text ≡ text_so_far (object_of a.datasets) = laws.texts (object_of a.datasets) a.text
    (AfterEnd v.head (record { items = v.trailer }) (length a.message.after)) (reaches_end octets v a) in
    let same : added ≡ text_so_far (object_of a.datasets) = one_text laws octets added (text_so_far (object_of a.datasets)) is
    (a.datasets, InTag [], reads_envelope octets v a, refl) in
    told ∙ ap story.delivered (same ∙ sym text) ∙ delivered a.text v.lines a.lines

-- An unpacker that has completed an envelope which is a prefix of the stream.
pub record Finishes {S : Type 0} (goes : S → List story.StoryEvent → S → Type 0) (v : Unpacking) (a b : S) (stream : List ℕ) : Type 0 where
  pub more : List story.StoryEvent
  pub told : goes a more b
  pub done : IsDoneWithin v stream more

pub is_unpacked : {S : Type 0} (goes : S → List story.StoryEvent → S → Type 0) → LayerLemmas → TextsAreDeliveredAsLines
    → {limits : Limits} {v : Unpacking} (a b : S)
    {stream : List ℕ} {got : Unpacked} {used : ℕ} → limits_in v ≡ limits → (f : Finishes goes v a b stream)
    → ((p : List ℕ) (n : ℕ) → IsDoneWith v p n → (w : Value) → Admits p w → HasParts got w) → used ≡ v.octets → IsUnpacked goes limits stream a b got used
is_unpacked goes laws delivered {limits} {v} a b {stream} {got} {used} same f value counts =
    let d = f.done in
    let front : List ℕ = take d.used stream in
    let is : used ≡ d.used = counts ∙ d.done.counts in
    let within : IsEnvelopeWithin limits front d.done.value =
    subst (λ (l : Limits). IsEnvelopeWithin l front d.done.value) same (record { admits = d.done.admits; within = d.done.within }) in
    record {
      value = d.done.value;
      finished = subst (λ (n : ℕ). IsFinished limits stream n d.done.value) (sym is) (record { fits = d.fits; envelope = within });
      parts = value front d.used d.done d.done.value d.done.admits;
      told = subst (λ (es : List story.StoryEvent). goes a es b) (lines_of laws delivered front d.done.value f.more d.done.admits d.adds) f.told;
    }

-- ---- chunks, one after another

pub stream_step : (ps : List (Bor (List ℕ))) (k : ℕ) (d : Bor (List ℕ)) → k < length ps
    → stream_of (take (k + 1) ps) ≡ stream_of (take k ps) ++ (get_or ps k d).now
stream_step ps k d less =
    ap stream_of (take_more ps k d less) ∙ flat_map-append (λ (p : Bor (List ℕ)). p.now) (take k ps) (get_or ps k d ∷ [])
    ∙ ap (λ (x : List ℕ). stream_of (take k ps) ++ x) (append-nil (get_or ps k d).now)

pub stream_rest : (ps : List (Bor (List ℕ))) (k : ℕ) (d : Bor (List ℕ)) → k < length ps
    → stream_of ps ≡ stream_of (take k ps) ++ ((get_or ps k d).now ++ stream_of (drop (k + 1) ps))
stream_rest ps k d less =
    ap stream_of (sym (take-append-drop (k + 1) ps)) ∙ flat_map-append (λ (p : Bor (List ℕ)). p.now) (take (k + 1) ps) (drop (k + 1) ps)
    ∙ ap (λ (x : List ℕ). x ++ stream_of (drop (k + 1) ps)) (stream_step ps k d less)
    ∙ append_assoc (stream_of (take k ps)) (get_or ps k d).now (stream_of (drop (k + 1) ps))

pub still_taking : {S : Type 0} {goes : S → List story.StoryEvent → S → Type 0} {limits : Limits} {u : Unpacking} {a b : S} {o : List ℕ}
    → HasFedChunks goes limits u a b o → u.refused ≡ None
still_taking fed = elim fed.stood [ inl at ↦ at.0.taking | inr d ↦ d.done.taking ]

-- ---- the result of a stream

module _ {S : Type 0} (goes : S → List story.StoryEvent → S → Type 0) (one : StreamsHaveOneResult) {limits : Limits} {stream : List ℕ} {a b : S} where
  pub only_down : {e : Refusal} → IsRejected goes limits stream a b e → (answer : Answer) → Answers limits stream answer → (e.cause ≡ Message Sink → ⊥)
      → RepresentsResult (Err e) answer
  only_down {e} (inl (refused, told)) answer is other = rw (← one limits stream (Refused e) answer (refused, other) is) refl
  only_down {e} (inr (short, told)) answer is other = rw (← one limits stream (Truncated e) answer short is) refl

  pub only_up : {got : Unpacked} {used : ℕ} → IsUnpacked goes limits stream a b got used → (answer : Answer) → Answers limits stream answer
      → RepresentsResult (Ok (got, used)) answer
  only_up {got} {used} up answer is =
      subst (λ (x : Answer). RepresentsResult (Ok (got, used)) x) (one limits stream (Finished used up.value) answer up.finished is) (up.parts, refl)

pub only_on : (limits : Limits) (stream : List ℕ) (r : Result (Unpacked × ℕ) Refusal) (e : Refusal) → IsErrAnd r (λ x. x ≡ e)
    → ((answer : Answer) → Answers limits stream answer → (e.cause ≡ Message Sink → ⊥) → RepresentsResult (Err e) answer)
    → (answer : Answer) → Answers limits stream answer → IfErr r (λ x. x.cause ≡ Message Sink → ⊥) → RepresentsResult r answer
only_on limits stream (Ok got) e is only answer answers other = absurd is
only_on limits stream (Err f) e is only answer answers other =
    subst (λ (x : Refusal). RepresentsResult (Err x) answer) (sym is) (only answer answers (subst (λ (x : Refusal). x.cause ≡ Message Sink → ⊥) is other))

-- what is missing at the end, after all chunks
module _ {S : Type 0} {goes : S → List story.StoryEvent → S → Type 0} {limits : Limits} {v : Unpacking} {a b : S} {stream : List ℕ} {answer : Option Refusal}
    (fed : HasFedChunks goes limits v a b stream) (truncated : (p : List ℕ) (n : ℕ) → HasRead v p n → (f : Refusal) × (answer ≡ Some f) × IsTruncatedAt p n f)
  where
    -- nothing is missing if the envelope has ended
    not_done : {e : Refusal} → answer ≡ Some e → (IsDone v → answer ≡ None) → IsDoneWithin v stream fed.more → ⊥
    not_done {e} is done' d = let bad : Some e ≡ None = sym is ∙ done' (d.done.taking, d.done.ended) in cc

    pub ends_short : {e : Refusal} → answer ≡ Some e → (IsDone v → answer ≡ None) → IsRejected goes limits stream a b e
    ends_short {e} is done' = elim fed.stood [
      | inl (at, adds) ↦
          let t = told_truncated stream (length stream) answer e is (truncated stream (length stream) at) in
          inr (record { is_open = subst (λ (l : Limits). IsIncomplete l stream) fed.limits_are at.is_open; refusal = t }, (fed.more, fed.told, adds))
      | inr d ↦ absurd (not_done is done' d)
    ]

    pub short_counts : {e : Refusal} {old new : ℕ} → answer ≡ Some e → (IsDone v → answer ≡ None) → new ≡ old → CountsSinkFailure e.cause old new
    short_counts {e} {old} {new} is done' no_failure = elim fed.stood [
      | inl (at, adds) ↦
          let t = told_truncated stream (length stream) answer e is (truncated stream (length stream) at) in
          subst (λ (x : Cause). CountsSinkFailure x old new) (sym (ap (λ (x : Refusal). x.cause) t.refusal)) no_failure
      | inr d ↦ absurd (not_done is done' d)
    ]

    pub ends_done : answer ≡ None → Finishes goes v a b stream
    ends_done is = elim fed.stood [
      | inl (at, adds) ↦ absurd (sink_unchanged answer stream (length stream) is (truncated stream (length stream) at))
      | inr d ↦ record { more = fed.more; told = fed.told; done = d }
    ]
