-- From what an intake and an unpacker return to what an audit uses of it.
use Rattle.iim_audit.proofs.Words.{◌≡◌, ℕ, List, [], length, refl, sym, ap, subst, ◌∙◌, false, ◌≢◌, ◌⊎◌, Option, Some, None, Bool, true, inl, inr, ⊎_elim, arith, ℤ, ◌≤◌, ◌++◌, take, Result, Ok, Err, IfOk, IfErr, OctetsDetermineTheEvents, EventsDetermineTheDatasets, WordsSoFar, CountsWords, capped, words, Value, Admits, object_of, Device, IoFault, Limits, FedEnvelope, Faults, ReaderFails, HasRefused, WasTruncated, Unpacking, IsDoneWith, HasRead, limits_in, Progresses, IsDone, IsRefusedIn, failed_at, audit_cause_of, AuditReadFails, AuditRefusalIsRead, ReadsEnvelopeOrEnd, ReadsOneEnvelope, ReadsNoEnvelope, ArePartsOf, option_map, sum_capped, HasBorrowedParts, UnpackedRef, row_with_first_of, counted_words, PieceAudit}
use Rattle.iim_dataset.specs.{Format.Datasets.count_octets, Format.Datasets.InTag, States.Reading.emitted_events, States.Reading.EmitsEvents}
use Rattle.wire_story.specs.{Format.Texts.StoryEvent, Format.Texts.IsText, Laws.TextsAreCountedAsLines, Laws.DeliveryOfChunksJoins, Steps.counts_joined}
use Rattle.wire_message.specs.{Laws.TextsAreBetweenStxAndEtx, Format.Messages.text_so_far}
use Rattle.wire_message.specs.declared.place.Place.TheVariants.{AfterEnd}
use Rattle.iim_places.specs.Format.Open.{object_so_far, IsTextOf, Delivers}
use Rattle.iim_places.proofs.StreamResults.{reaches_end, no_text, reads_envelope}
use Rattle.iim_unpack.proofs.Intakes.{missed_open, adds_none, adds_more}
use Rattle.iim_unpack.specs.States.Unpacking.{CountsSinkFailure, has_ended}
use Rattle.iim_unpack.specs.declared.intake.IntakeFault.{IntakeFault}
use Rattle.iim_places.specs.declared.refusal.Cause.{Cause}
use Rattle.iim_places.specs.declared.refusal.Cause.TheVariants.{Message}
use Rattle.wire_message.specs.declared.fault.MessageCause.TheVariants.{Sink}
use Rattle.iim_places.specs.declared.refusal.Refusal.{Refusal}
use Rattle.iim_fields.specs.Format.Records.{instant_of_release, instant_of_expiration}
use Rattle.iim_unpack.specs.declared.unpacker.Progress.{Progress}
use Rattle.iim_unpack.specs.declared.unpacker.Progress.TheVariants.{More, Done}
use Rattle.iim_audit.specs.{Steps.FeedsAndCounts, Steps.ChunkIsRejected, Format.FindsRow, Format.WordsAreCounted, Format.IsRowOf, Format.RejectsChunk, Format.AuditHasConsumed, Format.no_words_counted}
use Rattle.iim_audit.specs.declared.pieces.PieceRow.{PieceRow}
use Rattle.iim_dataset.specs.declared.device.IoFault.TheVariants as io
use Rattle.iim_unpack.specs.declared.intake.IntakeFault.TheVariants as intakes

pub record TextLaws : Type 0 where
  pub way : OctetsDetermineTheEvents
  pub tell : EventsDetermineTheDatasets
  pub texts : TextsAreBetweenStxAndEtx
  pub counts : TextsAreCountedAsLines

-- The text in an envelope has the lines of its value.
text_of_value : TextLaws → (octets text : List ℕ) (v : Value) → Admits octets v → IsTextOf octets text → IsText text v.lines
text_of_value laws octets text v admits (whole, begun, reads, is) =
    let hands : EmitsEvents count_octets octets (emitted_events whole begun) begun = record { whole = whole; reads = reads; handed = refl } in
    let gives : EmitsEvents count_octets octets (emitted_events admits.datasets (InTag [])) (InTag []) =
    record { whole = admits.datasets; reads = reads_envelope octets v admits; handed = refl } in
    let way = laws.way octets (emitted_events whole begun) (emitted_events admits.datasets (InTag [])) begun (InTag []) hands gives in
    let told = laws.tell whole admits.datasets begun (InTag []) way.0 in
    let object : object_so_far whole begun ≡ object_of admits.datasets = rw (told.0, way.1) refl in
    let found : admits.text ≡ text_so_far (object_of admits.datasets) =
    laws.texts (object_of admits.datasets) admits.text (AfterEnd v.head (record { items = v.trailer }) (length admits.message.after))
    (reaches_end octets v admits) in
    let same : admits.text ≡ text = found ∙ sym (is ∙ ap text_so_far object) in
    subst (λ (t : List ℕ). IsText t v.lines) same admits.lines

-- The words of an envelope are counted, starting from zero.
pub words_of_value : TextLaws → (octets : List ℕ) (more : List StoryEvent) (v : Value) (old new : WordsSoFar) → Admits octets v → Delivers [] octets more
    → old.words ≡ 0 → old.inside ≡ false → CountsWords old more new → new.words ≡ capped (words v.lines)
words_of_value laws octets more v old new admits adds none outside counts =
    let (added, is, delivers) = adds [] no_text in
    laws.counts added v.lines old new (text_of_value laws octets added v admits is) none outside
    (subst (λ (events : List StoryEvent). CountsWords old events new) delivers counts)

-- ---- what an intake returns

-- an unpacker in the initial state was fed an envelope, and a count of zero words the lines of it
pub reads_one_envelope : TextLaws → (limits : Limits) (old new : Device) (u v : Unpacking) (a b : WordsSoFar) (used n : ℕ) (whole : Bool) → whole ≡ true
    → limits_in u ≡ limits → HasRead u [] 0 → a.words ≡ 0 → a.inside ≡ false → n ≡ b.words → FedEnvelope CountsWords (old, u, a) (new, v, b) used whole
    → ReadsOneEnvelope limits old new v used n
reads_one_envelope laws limits old new u v a b used n whole is_whole same stands none outside is fed =
    let was = rw is_whole at fed in
    let (end, adds) = was.done [] 0 stands in
    let within : limits_in v ≡ limits = was.limits ∙ same in
    record {
      envelope = record { octets = was.octets; value = end.value };
      listed = record { admits = end.admits; within = rw within at end.within };
      given = was.came.given;
      counts = was.counts;
      done = subst (IsDoneWith v was.octets) (sym was.counts) end;
      same = within;
      counted = is ∙ words_of_value laws was.octets was.more end.value a b end.admits adds none outside was.came.told;
    }

-- the input has ended
pub reads_end : (limits : Limits) (old new : Device) (u v : Unpacking) (a b : WordsSoFar) (used : ℕ) (whole : Bool) → whole ≡ false
    → FedEnvelope CountsWords (old, u, a) (new, v, b) used whole
    → ReadsEnvelopeOrEnd limits old new v used None
reads_end limits old new u v a b used whole is fed =
    let (none, was) = rw is at fed in
    (was.1.given, was.1.at_end, none)

-- A sink that counts no failure did not stop the unpacker.
pub counted_refusal_is_not_of_sink : (cause : Cause) → CountsSinkFailure cause 0 0 → cause ≢ Message Sink
counted_refusal_is_not_of_sink cause counts same = ⊎_elim (λ rose. omega arith) (λ full. omega arith) (rw same at counts)

module _ {S : Type 0} (goes : S → List StoryEvent → S → Type 0) (failures : S → ℕ) (old new : Device) (u v : Unpacking) (a b : S) where
  refused_fresh : (e : Refusal) → failures a ≡ 0 → failures b ≡ 0 → HasRead u [] 0
      → HasRefused goes failures old new u v a b e ⊎ WasTruncated goes failures old new u v a b e → AuditRefusalIsRead (limits_in u) old new e
  refused_fresh e before after stands (inl was) =
      let of = was.refuses [] 0 stands in
      let sinks = counted_refusal_is_not_of_sink of.fault.cause (rw (before, after, of.refusal) at was.counts) in
      record {
        rest = was.octets;
        given = was.came.given;
        k = of.k;
        refused = inr (record { within = of.within; fault = of.fault; refusal = of.refusal; kills = record { refuses = of.refuses; by_octets = sinks } });
        at_end = λ all. absurd (omega (arith, all, of.within));
      }
  refused_fresh e before after stands (inr was) =
      let in_it = was.truncated [] 0 stands in
      let refused = inl (record { some = in_it.some; is_open = in_it.is_open; truncated = in_it.truncated }, refl) in
      record { rest = was.octets; given = was.came.given; k = length was.octets; refused = refused; at_end = λ all. was.at_end }

  cut_off : (octet : ℕ) (kept : Option ℕ) (fault : IoFault) → kept ≡ Some octet → HasRead u [] 0 → ReaderFails goes failures old new u v a b octet fault
      → AuditReadFails (limits_in u) old new kept fault
  cut_off octet kept fault keeps stands was =
      let here = missed_open goes failures old new u v a b octet fault was [] 0 stands in
      record { rest = was.octets; missed = was.missed; is_open = here.0; keeps = keeps ∙ ap Some here.2 }

  -- why an intake feeds no envelope to an unpacker in the initial state
  pub none_fresh : (octet before : ℕ) (kept : Option ℕ) (told : ℕ) (fault : IntakeFault) → failures a ≡ 0 → failures b ≡ 0 → kept ≡ Some octet → told ≡ 0
      → HasRead u [] 0 → Faults goes failures old new u v a b octet fault → ReadsNoEnvelope (limits_in u) old new before kept told (audit_cause_of fault)
  none_fresh octet before kept told (intakes.Refused e) first last keeps none stands faults =
      (refused_fresh e first last stands faults.1, keeps ∙ ap Some faults.0, none)
  none_fresh octet before kept told intakes.Read first last keeps none stands faults = (cut_off octet kept io.Failed keeps stands faults, none)
  none_fresh octet before kept told intakes.Interrupted first last keeps none stands faults = (cut_off octet kept io.Interrupted keeps stands faults, none)

-- ---- words

-- the words of no octets
pub none_by : (count : WordsSoFar) → count.words ≡ 0 → count.inside ≡ false → WordsAreCounted [] count
none_by count none outside = record { more = []; delivers = adds_none []; counts = record { words = λ few. omega (arith, none); inside = outside } }

-- the words of one more chunk
pub more_words : DeliveryOfChunksJoins → (p piece : List ℕ) (old new : WordsSoFar) (more : List StoryEvent) → WordsAreCounted p old → Delivers p piece more
    → CountsWords old more new
    → WordsAreCounted (p ++ piece) new
more_words cut p piece old new more before delivers counts = record {
  more = before.more ++ more;
  delivers = adds_more cut [] p piece before.more more before.delivers delivers;
  counts = counts_joined no_words_counted old new before.more more before.counts counts;
}

-- the words of an envelope are the words of its lines
all_words : TextLaws → (p : List ℕ) (v : Value) (count : WordsSoFar) → WordsAreCounted p count → Admits p v → count.words ≡ counted_words v
all_words laws p v count have admits = words_of_value laws p have.more v no_words_counted count admits have.delivers refl refl have.counts

-- ---- a chunk that is fed

module _ (u v : Unpacking) (piece : List ℕ) where
  abbrev IsSound : Progress → Type 0
  IsSound progress = (v.refused ≡ None) × ((used : ℕ) → progress ≡ Done used → IsDone v × (used ≤ length piece))

  -- what an unpacker returns is true: for one that was inside an envelope, and for one that was at
  -- the end of one
  sound_on : (progress : Progress) (p : List ℕ) (a : ℕ) (more : List StoryEvent) → Progresses v p a piece more progress → IsSound progress
  sound_on More p a more goes = (goes.0.taking, λ used is. absurd cc)
  sound_on (Done used) p a more goes = (goes.1.taking, λ now is. ((goes.1.taking, goes.1.ended), (let same : used ≡ now = cc in rw same at goes.0)))

  sound : (progress : Progress) (more : List StoryEvent) (b : Bool) → b ≡ has_ended u.parts → u.refused ≡ None
      → ((IsDone u → ⊥) → (p : List ℕ) × (a : ℕ) × HasRead u p a) → ((p : List ℕ) (a : ℕ) → HasRead u p a → Progresses v p a piece more progress)
      → (IsDone u → (progress ≡ Done 0) × (v ≡ u)) → IsSound progress
  sound progress more true is alive stood goes again =
      let done : IsDone u = (alive, sym is) in
      let (is_done, same) = again done in
      rw (is_done, same) (alive, λ used is_used. (done, (let none : used ≡ 0 = cc in omega (arith, none))))
  sound progress more false is alive stood goes again =
      let there = stood (λ done. let bad = is ∙ done.1 in cc) in
      sound_on progress there.0 there.1 more (goes there.0 there.1 there.2)

  -- what the unpacker returns, with the words that were counted
  pub fed_by : (r : Result Progress Refusal) (old new : WordsSoFar) → (u.refused ≡ None → (IsDone u → ⊥) → (p : List ℕ) × (a : ℕ) × HasRead u p a)
      → IfOk r (λ progress. (◌≡◌ {A = ℕ} 0 0) × ((more : List StoryEvent) × CountsWords old more new
      × ((p : List ℕ) (a : ℕ) → HasRead u p a → Progresses v p a piece more progress)))
      → (IsDone u → (r ≡ Ok (Done 0)) × ((v ≡ u) × (new ≡ old)))
      → ((octet : ℕ) → u.refused ≡ Some octet → (r ≡ Err (failed_at octet)) × ((v ≡ u) × (new ≡ old))) → IfOk r (FeedsAndCounts u old piece v new)
  fed_by (Err e) old new stood fed done again = tt
  fed_by (Ok progress) old new stood fed done again = by u.refused refl
    where
      by : (o : Option ℕ) → u.refused ≡ o → FeedsAndCounts u old piece v new progress
      by None alive =
          let same : IsDone u → (progress ≡ Done 0) × (v ≡ u) = λ is. let h = done is in ((let e = h.0 in cc), h.1.0) in
          let entries_are_sound = sound progress fed.1.0 (has_ended u.parts) refl alive (stood alive) fed.1.2 same in
          record { more = fed.1.0; counts = fed.1.1; goes = fed.1.2; alive = entries_are_sound.0; ends = entries_are_sound.1 }
      by (Some octet) failed = let bad = (again octet failed).0 in absurd (let e = bad in cc)

pub refused_as : (r : Result Progress Refusal) (u : Unpacking) (old new : WordsSoFar) (piece : List ℕ)
    → IfErr r (λ e. (more : List StoryEvent) × CountsWords old more new × ((p : List ℕ) (a : ℕ) → HasRead u p a → IsRefusedIn (limits_in u) p a piece more e))
    → IfErr r (λ e. CountsSinkFailure e.cause 0 0) → IfErr r (ChunkIsRejected u piece)
refused_as (Ok progress) u old new piece refuses counts = tt
refused_as (Err e) u old new piece refuses counts = record { more = refuses.0; refuses = refuses.2; by_octets = counted_refusal_is_not_of_sink e.cause counts }

-- ---- what is found in a chunk

pub no_row_in_chunk : DeliveryOfChunksJoins → (limits : Limits) (now : ℤ) (old new : PieceAudit) (piece : List ℕ)
    → FeedsAndCounts old.unpacker old.count piece new.unpacker new.count More
    → (p : List ℕ) (a : ℕ) → AuditHasConsumed old p a → FindsRow limits now p a piece new None
no_row_in_chunk cut limits now old new piece fed p a stands =
    let goes = fed.goes p a stands.unpacker in
    record { unpacker = goes.0; words = more_words cut p piece old.count new.count fed.more stands.words goes.1 fed.counts }

pub row_in_chunk : DeliveryOfChunksJoins → (limits : Limits) (now : ℤ) (old mid new : PieceAudit) (piece : List ℕ) (used : ℕ) (found : PieceRow)
    → FeedsAndCounts old.unpacker old.count piece mid.unpacker mid.count (Done used) → limits_in mid.unpacker ≡ limits
    → found.used ≡ used → found.octets ≡ mid.unpacker.octets
    → ((p : List ℕ) (a : ℕ) → IsDoneWith mid.unpacker p a → WordsAreCounted p mid.count → IsRowOf (limits_in mid.unpacker) now p found)
    → AuditHasConsumed new [] 0 → (p : List ℕ) (a : ℕ) → AuditHasConsumed old p a → FindsRow limits now p a piece new (Some found)
row_in_chunk cut limits now old mid new piece used found fed same is_used counts row again p a stands =
    let goes = fed.goes p a stands.unpacker in
    let done : IsDoneWith mid.unpacker (p ++ take used piece) (sum_capped a used) = goes.1 in
    let words = more_words cut p (take used piece) old.count mid.count fed.more stands.words goes.2 fed.counts in
    let is_row = rw same at (row (p ++ take used piece) (sum_capped a used) done words) in
    subst (λ (n : ℕ). (n ≤ length piece) × (found.octets ≡ sum_capped a n) × IsRowOf limits now (p ++ take n piece) found × AuditHasConsumed new [] 0)
    (sym is_used)
    (goes.0, counts ∙ done.counts, is_row, again)

pub refused_by : (u : Unpacking) (piece : List ℕ) (e : Refusal) → ChunkIsRejected u piece e → (p : List ℕ) (a : ℕ) → HasRead u p a
    → RejectsChunk (limits_in u) p a piece e
refused_by u piece e is p a stands =
    let r = is.refuses p a stands in
    let same = ap (λ (x : Refusal). x.cause) r.refusal in
    let sinks = is.by_octets in
    record { k = r.k; within = r.within; fault = r.fault; refusal = r.refusal; kills = record { refuses = r.refuses; by_octets = λ e. sinks (same ∙ e) } }

-- the row of an envelope with which an unpacker is done
pub row_of_done : TextLaws → (now : ℤ) (u : Unpacking) (count : WordsSoFar) (got : UnpackedRef) (words : ℕ) (found : PieceRow)
    → ((p : List ℕ) (a : ℕ) → IsDoneWith u p a → (v : Value) → Admits p v → HasBorrowedParts got v) → words ≡ count.words
    → ((v : Value) → ArePartsOf (record { unpacked = got; words = words }) v → found.row ≡ row_with_first_of now v None)
    → option_map (λ t. t.nanosecond) found.release ≡ instant_of_release got.envelope
    → option_map (λ t. t.nanosecond) found.expires ≡ instant_of_expiration got.envelope
    → (p : List ℕ) (a : ℕ) → IsDoneWith u p a → WordsAreCounted p count → IsRowOf (limits_in u) now p found
row_of_done laws now u count got words found shows same row release expires p a done have =
    let parts = shows p a done done.value done.admits in
    record {
      value = done.value;
      envelope = record { admits = done.admits; within = done.within };
      row = row done.value (record { parts = parts; words = same ∙ all_words laws p done.value count have done.admits });
      release = release ∙ ap instant_of_release parts.fields;
      expires = expires ∙ ap instant_of_expiration parts.fields;
    }
