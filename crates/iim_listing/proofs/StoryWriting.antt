-- What `story` writes.
use Rattle.iim_listing.proofs.Words.{◌≡◌, ℕ, ◌+◌, ◌<◌, ◌⊎◌, inl, inr, refl, sym, ap, subst, ◌∙◌, arith, List, [], ◌∷◌, ◌++◌, length, map, take, append_assoc, length-append, append-nil, Err, take-length, take-append-le, Appends, Device, WroteAllOf, ReadsGave, CounterRose, ReadsJoin, WritesJoin, StoryEvent, octet_for, HasEmptyBuffer, buffers_no_events, BlockWriter, Refusal, Unpacking, no_text, EnvelopeIsRead, CountsFailuresOfSink, IsNextItem, RefusalIsRead, HasOctets, ending_line, listing_status, texts_from, EventsAreDelivered, limits, joined, max_envelopes, SplitsInto, InputEnding, HasEnd, Listed, IsListed, IsRefusedAfter, RefusedBy, StoriesFail, text_of, FlushLosesLines, LastLineFails, KeepsTargets, FlushesBefore, PassesEvents, errors_of, output_of, stops_of, StoryWriter, CommandFault, CannotRead, CannotWrite, OutOfMemory, EnvelopesAreRead, HasWrittenStories}
use Rattle.std.proofs.Common.{◌≤◌}
use Rattle.std.specs.List.{AllByRecursion}
use Rattle.std.proofs.Math.Seq.{take-append_seam}
use Rattle.std.proofs.lemmas.List.{map-append}
use Rattle.iim_dataset.specs.{Laws.OctetsDetermineTheEvents, Laws.EventsDetermineTheDatasets, States.Reading.emitted_events, States.Reading.EmitsEvents, Steps.appends_joined}
use Rattle.iim_dataset.specs.Format.Datasets.{count_octets, InTag}
use Rattle.iim_dataset.proofs.Each.{all_append, all_back, all_front}
use Rattle.iim_dataset.proofs.Lists.{some_none}
use Rattle.wire_message.specs.{Laws.TextsAreBetweenStxAndEtx, Format.Messages.text_so_far}
use Rattle.wire_message.specs.declared.place.Place.TheVariants.{AfterEnd}
use Rattle.wire_story.specs.{Format.Texts.delivered, Laws.LinesAreJoinedByLineFeeds, Laws.TextsAreDeliveredAsLines}
use Rattle.iim_output.specs.States.Holding.{BuffersText, device_of, buffered_octets, stops_of as writer_stops}
use Rattle.iim_output.specs.HoldingLaws.{buffers_joined}
use Rattle.iim_output.proofs.Holding.{buffers_of_failed}
use Rattle.iim_places.specs.{Format.Admitted.object_of, Format.Open.object_so_far}
use Rattle.iim_places.proofs.StreamResults.{reaches_end, reads_envelope}
use Rattle.iim_listing.specs.Format.{check_line_of, LinesFollowText, TextIsDelivered, WritesTextAfter, WritesStories, stories, story_of}
use Rattle.iim_listing.specs.Steps.{BuffersLines, StoryWriterIsFlushed, EndStoryFails, StoriesAreBuffered}
use Rattle.iim_listing.specs.Laws.{EnvelopesAreDeliveredAsLines}
use Rattle.iim_listing.proofs.Listings.{divided, missed_after, read_no_envelope_yet, read_one_more_envelope, taken_then, texts_from-append, whole}

-- ---- the text of an envelope

pub delivered_events_are_lines : OctetsDetermineTheEvents → EventsDetermineTheDatasets → TextsAreBetweenStxAndEtx → TextsAreDeliveredAsLines
    → EnvelopesAreDeliveredAsLines
delivered_events_are_lines way tell between lines octets v more a (text, (whole, begun, reads, is), told) =
    let hands : EmitsEvents count_octets octets (emitted_events whole begun) begun = record { whole = whole; reads = reads; handed = refl } in
    let gives : EmitsEvents count_octets octets (emitted_events a.datasets (InTag [])) (InTag []) =
    record { whole = a.datasets; reads = reads_envelope octets v a; handed = refl } in
    let one = way octets (emitted_events whole begun) (emitted_events a.datasets (InTag [])) begun (InTag []) hands gives in
    let same = tell whole a.datasets begun (InTag []) one.0 in
    let object : object_so_far whole begun ≡ object_of a.datasets = rw (same.0, one.1) refl in
    let found : a.text ≡ text_so_far (object_of a.datasets) =
    between (object_of a.datasets) a.text (AfterEnd v.head (record { items = v.trailer }) (length a.message.after)) (reaches_end octets v a) in
    told ∙ ap delivered (is ∙ ap text_so_far object ∙ sym found) ∙ lines a.text v.lines a.lines

-- the octets that a sink wrote for an envelope
delivered_octets_are_text : EnvelopesAreDeliveredAsLines → LinesAreJoinedByLineFeeds → (e : Listed) (more : List StoryEvent) → IsListed limits e
    → EventsAreDelivered e.octets more → map octet_for more ≡ text_of e
delivered_octets_are_text law joins e more is d = rw (law e.octets e.value more is.admits d) (joins e.value.lines)

-- ---- where octets end among stories

-- Of two texts the first is written completely, or only a part of it.
meets : (xs out more left : List ℕ) → xs ++ more ≡ out ++ left
    → ((r : List ℕ) × (out ≡ xs ++ r) × (more ≡ r ++ left)) ⊎ ((r : List ℕ) × (xs ≡ out ++ r) × (0 < length r))
meets [] out more left is = inl (out, refl, is)
meets (x ∷ xs) [] more left is = inr (x ∷ xs, refl, omega arith)
meets (x ∷ xs) (o ∷ out) more left is =
    let head : x ≡ o = cc in
    elim (meets xs out more left (let tail : xs ++ more ≡ out ++ left = cc in tail)) [
      | inl h ↦ inl (h.0, (let p = h.1 in cc), h.2)
      | inr h ↦ inr (h.0, (let p = h.1 in cc), h.2)
    ]

-- all of a list except its last element, if some octets remain
but_last : (xs out rest : List ℕ) (x : ℕ) → xs ++ (x ∷ []) ≡ out ++ rest → 0 < length rest → (left : List ℕ) × (xs ≡ out ++ left)
but_last xs [] rest x is some = (xs, refl)
but_last [] (o ∷ []) [] x is some = absurd (omega (arith, some))
but_last [] (o ∷ []) (r ∷ rest) x is some = absurd cc
but_last [] (o ∷ p ∷ out) rest x is some = absurd cc
but_last (y ∷ xs) (o ∷ out) rest x is some =
    let tail : xs ++ (x ∷ []) ≡ out ++ rest = cc in
    let (left, less) = but_last xs out rest x tail some in
    (left, cc)

-- Of stories and words all stories are written and a prefix of the words; or the stories of the
-- first envelopes, and a prefix of the next one's text.
abbrev ReachesOutput : List Listed → ℕ → List ℕ → List ℕ → List ℕ → Type 0
ReachesOutput es n words out left = ((w : List ℕ) × (out ≡ texts_from story_of n es ++ w) × (words ≡ w ++ left))
    ⊎ ((f : List Listed) × (e : Listed) × (g : List Listed) × (w : List ℕ) × (rest : List ℕ) × (es ≡ f ++ e ∷ g) × (out ≡ texts_from story_of n f ++ w)
    × (text_of e ≡ w ++ rest))

reach : (es : List Listed) (n : ℕ) (words out left : List ℕ) → texts_from story_of n es ++ words ≡ out ++ left → ReachesOutput es n words out left
reach [] n words out left is = inl (out, refl, is)
reach (e ∷ es) n words out left is =
    let parts = append_assoc (story_of n e) (texts_from story_of (n + 1) es) words in
    elim (meets (story_of n e) out (texts_from story_of (n + 1) es ++ words) left (rw parts at is)) [
      | inl (r, at, then) ↦ elim (reach es (n + 1) words r left then) [
        | inl (w, all, front) ↦ inl (w, at ∙ rw all (sym (append_assoc (story_of n e) (texts_from story_of (n + 1) es) w)), front)
        | inr (f, x, g, w, rest, parts, some, text) ↦
            inr (e ∷ f, x, g, w, rest, rw parts refl, at ∙ rw some (sym (append_assoc (story_of n e) (texts_from story_of (n + 1) f) w)), text)
      ]
      | inr (r, at, some) ↦ (let (left, less) = but_last (text_of e) out r 10 at some in inr ([], e, es, out, left, refl, refl, less))
    ]

-- ---- the lines that were written

parts_of : (text : ℕ → Listed → List ℕ) (told others es : List Listed) → es ≡ told ++ others
    → texts_from text 1 told ++ texts_from text (1 + length told) others ≡ texts_from text 1 es
parts_of text told others es is = rw is (sym (texts_from-append text told others 1))

-- nothing was buffered before: a prefix of the text is written
front_of : {W : Type 0} (state : W → Device) (a d : BlockWriter W) (text : List ℕ) → HasEmptyBuffer a → (w : BuffersText state a d text) → text
    ≡ w.out ++ buffered_octets d
front_of state a d text before w = sym (ap (λ (t : List ℕ). t ++ text) before) ∙ w.parts

module _ {W : Type 0} {ws : W → Device} {first output : BlockWriter W} {errors_old errors : Device} {es : List Listed} {words lines : List ℕ}
    (s : StoriesAreBuffered ws first errors_old es words output errors lines) where
  -- the writer consumed more
  stands_on : {next : BlockWriter W} (more : List ℕ) → BuffersText ws output next more → StoriesAreBuffered ws first errors_old es
      (words ++ more) next errors lines
  stands_on {next} more put = record {
    fresh = s.fresh;
    told = s.told;
    others = s.others;
    parts = s.parts;
    mark = s.mark;
    begun = s.begun;
    before = s.before;
    is_flushed = s.is_flushed;
    rest = s.rest ++ more;
    after = buffers_joined ws s.mark output next s.rest more s.after put;
    texts = rw (← append_assoc (texts_from story_of (1 + length s.told) s.others) words more, s.texts) (append_assoc s.begun s.rest more);
    said = s.said;
    pending = s.pending;
  }

  -- the writer consumed nothing more
  stands_still : {next : BlockWriter W} → BuffersText ws output next [] → StoriesAreBuffered ws first errors_old es words next errors lines
  stands_still put = rw append-nil at (stands_on [] put)

  -- all that it consumed
  all_put : BuffersText ws first output (stories es ++ words)
  all_put =
      let later = texts_from story_of (1 + length s.told) s.others in
      rw (← parts_of story_of s.told s.others es s.parts, append_assoc (stories s.told) later words, s.texts, ← append_assoc (stories s.told) s.begun s.rest)
      (buffers_joined ws first s.mark output (stories s.told ++ s.begun) s.rest s.before s.after)

  -- all lines
  all_said : texts_from check_line_of 1 s.told ++ lines ≡ texts_from check_line_of 1 es
  all_said = rw s.pending (parts_of check_line_of s.told s.others es s.parts)

  -- the lines were written when nothing was buffered
  stands_marked : {left : List ℕ} → WritesJoin → HasEmptyBuffer output → (now : Device) → WroteAllOf errors now lines → left ≡ []
      → StoriesAreBuffered ws first errors_old es words output now left
  stands_marked texts empty now wrote none = record {
    fresh = s.fresh;
    told = es;
    others = [];
    parts = sym (append-nil es);
    mark = output;
    begun = words;
    before = all_put;
    is_flushed = empty;
    rest = [];
    after = buffers_no_events ws output;
    texts = sym (append-nil words);
    said = rw all_said at (texts.more errors_old errors now (texts_from check_line_of 1 s.told) lines s.said wrote);
    pending = none;
  }

  -- nothing is buffered, so all is written to both targets
  stories_out : HasEmptyBuffer output → writer_stops output ≡ 0 → WroteAllOf (device_of ws first) (device_of ws output) (stories es ++ words)
  stories_out empty none =
      let w = all_put in
      let out : stories es ++ words ≡ w.out =
      front_of ws first output (stories es ++ words) s.fresh.0 w ∙ ap (λ (l : List ℕ). w.out ++ l) empty ∙ append-nil w.out in
      rw out (w.writes.octets, (w.writes.unbroken (none ∙ sym s.fresh.1) (omega (arith, none)), w.writes.interruptions))

  lines_out : lines ≡ [] → WroteAllOf errors_old errors (texts_from check_line_of 1 es)
  lines_out none = rw (rw (none, append-nil) at all_said) at s.said

-- more events were passed to a story writer
buffered_after_events : {W E : Type 0} {ws : W → Device} {es : E → Device} {first : BlockWriter W} {errors_old : Device} {envelopes : List Listed} {words :
    List ℕ}
    {a b : StoryWriter W E} {events : List StoryEvent} → WritesJoin → StoriesAreBuffered ws first errors_old envelopes words a.output
    (errors_of es a) a.lines.items
    → PassesEvents ws es a events b → StoriesAreBuffered ws first errors_old envelopes (words ++ map octet_for events) b.output (errors_of es b) b.lines.items
buffered_after_events {es = es} {words = words} {a = a} {b = b} {events = events} texts s t = elim t.lines [
  | inl h ↦ rw (h.1, h.0, append-nil a.lines.items) (stands_on s (map octet_for events) t.put)
  | inr u ↦
      let marked = stands_marked (stands_on s (map octet_for u.first) u.before) texts u.is_flushed (errors_of es b) u.told u.none in
      rw (← u.all, map-append octet_for u.first u.then, ← append_assoc words (map octet_for u.first) (map octet_for u.then))
      (stands_on marked (map octet_for u.then) u.after)
]

-- the story of an envelope is consumed, and its line buffered
buffered_after_end : {W : Type 0} {ws : W → Device} {first output : BlockWriter W} {errors_old errors : Device} {es : List Listed} {lines : List ℕ} (e : Listed)
    (line : List ℕ) → StoriesAreBuffered ws first errors_old es (text_of e ++ 10 ∷ []) output errors lines → line ≡ check_line_of (length es + 1) e
    → StoriesAreBuffered ws first errors_old (es ++ e ∷ []) [] output errors (lines ++ line)
buffered_after_end {es = es} {lines = lines} e line s is =
    let n = 1 + length s.told in
    let number : length es + 1 ≡ n + length s.others = omega (arith, ap length s.parts, length-append s.told s.others) in
    record {
      fresh = s.fresh;
      told = s.told;
      others = s.others ++ e ∷ [];
      parts = rw (← append_assoc s.told s.others (e ∷ []), ← s.parts) refl;
      mark = s.mark;
      begun = s.begun;
      before = s.before;
      is_flushed = s.is_flushed;
      rest = s.rest;
      after = s.after;
      texts = rw (append-nil, texts_from-append story_of s.others (e ∷ []) n, append-nil (text_of e ++ 10 ∷ [])) s.texts;
      said = s.said;
      pending = rw (s.pending, is, number, texts_from-append check_line_of s.others (e ∷ []) n, append-nil (check_line_of (n + length s.others) e)) refl;
    }

-- ---- the envelopes so far

pub no_stories_yet : {W E : Type 0} (ws : W → Device) (es : E → Device) → ReadsJoin → WritesJoin → (source : Device) (n : StoryWriter W E)
    → StoryWriterIsFlushed n
    → stops_of n ≡ 0 → HasWrittenStories ws es n source source n 0
no_stories_yet ws es joins texts source n is_flushed none = record {
  envelopes = [];
  taken = read_no_envelope_yet joins source;
  texts = tt;
  stands = record {
    fresh = (is_flushed.0, none);
    told = [];
    others = [];
    parts = refl;
    mark = n.output;
    begun = [];
    before = buffers_no_events ws n.output;
    is_flushed = is_flushed.0;
    rest = [];
    after = buffers_no_events ws n.output;
    texts = refl;
    said = texts.none (errors_of es n);
    pending = is_flushed.1;
  };
  keeps = (refl, refl);
  unbroken = none;
}

-- the text of an envelope is its lines, joined
abbrev pub HasText : Listed → Type 0
HasText e = TextIsDelivered e.octets (text_of e)

-- After envelopes these octets were read, and the text of the first k of them was passed to the
-- story writer. It writes to the same targets.
pub record HasReadPart {W E : Type 0} (ws : W → Device) (es : E → Device) (first : StoryWriter W E) (source rest : Device) (n : StoryWriter W E) (count : ℕ)
    (begun : List ℕ) (k : ℕ) (words : List ℕ) : Type 0 where
  pub envelopes : List Listed
  pub taken : EnvelopesAreRead source rest count envelopes begun
  pub texts : AllByRecursion HasText envelopes
  pub within : k ≤ length begun
  pub is : TextIsDelivered (take k begun) words
  pub stands : StoriesAreBuffered ws first.output (errors_of es first) envelopes words n.output (errors_of es n) n.lines.items
  pub keeps : KeepsTargets first n

refused_within : (octets : List ℕ) (k : ℕ) (f : Refusal) → IsRefusedAfter limits octets k f → k ≤ length octets
refused_within octets k f (inl t) = omega (arith, t.1)
refused_within octets k f (inr d) = omega (arith, d.within)

module _ {W E : Type 0} {ws : W → Device} {es : E → Device} {first a : StoryWriter W E} {source mid : Device} {count : ℕ} (joins : ReadsJoin)
    (texts : WritesJoin)
    (r : HasWrittenStories ws es first source mid a count) where
  pub has_begun : {b : StoryWriter W E} {more : List StoryEvent} (rest : Device) (begun : List ℕ) (k : ℕ) → ReadsGave mid rest begun
      → PassesEvents ws es a more b
      → k ≤ length begun → EventsAreDelivered (take k begun) more → HasReadPart ws es first source rest b count begun k (map octet_for more)
  has_begun {more = more} rest begun k given told within is = record {
    envelopes = r.envelopes;
    taken = taken_then joins r.taken rest begun given;
    texts = r.texts;
    within = within;
    is = (more, is, refl);
    stands = buffered_after_events texts r.stands told;
    keeps = (told.put.same ∙ r.keeps.0, told.keeps ∙ r.keeps.1);
  }

  -- all octets of an envelope were read, with its text
  pub envelope_begun : {b : StoryWriter W E} {rest : Device} {v : Unpacking} {octets : ℕ} → EnvelopesAreDeliveredAsLines → LinesAreJoinedByLineFeeds
      → (h : EnvelopeIsRead (PassesEvents ws es) mid rest v a b octets)
      → HasReadPart ws es first source rest b count h.envelope.octets (length h.envelope.octets) (text_of h.envelope)
  envelope_begun {rest = rest} law feeds h =
      let octets = h.envelope.octets in
      rw (← delivered_octets_are_text law feeds h.envelope h.more h.is h.delivered)
      (has_begun rest octets (length octets) h.came.given h.came.told (omega arith) (rw take-length h.delivered))

  -- octets were read and rejected, with the text of those before the rejected one
  pub refused_begun : {b : StoryWriter W E} {rest : Device} {e : Refusal} → (f : RefusalIsRead (PassesEvents ws es) mid rest a b e)
      → HasReadPart ws es first source rest b count f.octets f.k (map octet_for f.more)
  refused_begun {rest = rest} {e = e} f = has_begun rest f.octets f.k f.came.given f.came.told (refused_within f.octets f.k e f.refused) f.delivered

-- what is written of them, and of all octets after the envelopes
pub text_before_refusal : {S : Type 0} {goes : S → List StoryEvent → S → Type 0} {mid rest : Device} {a b : S} {e : Refusal}
    (f : RefusalIsRead goes mid rest a b e)
    (more : List ℕ) → IsRefusedAfter limits (f.octets ++ more) f.k e → WritesTextAfter (f.octets ++ more) (RefusedBy e) (map octet_for f.more)
text_before_refusal {e = e} f more is =
    (f.k, is, (f.more, rw (take-append-le f.k f.octets more (refused_within f.octets f.k e f.refused)) f.delivered, refl))

-- ---- a write to the output failed

-- the octets after the first envelopes
divides_before : {input begun : List ℕ} {es : List Listed} → SplitsInto limits input es begun → (front : List Listed) (e : Listed) (g : List Listed)
    → es ≡ front ++ e ∷ g → SplitsInto limits input front (e.octets ++ (joined g ++ begun)) × IsListed limits e
divides_before d front e g is =
    let admitted = rw is at d.admitted in (
      record {
        admitted = all_front (IsListed limits) front (e ∷ g) admitted;
        parts = rw (d.parts, is, joined_parts front (e ∷ g)) (simp append_assoc);
        few = omega (arith, d.few, ap length is, length-append front (e ∷ g));
      },
      (all_back (IsListed limits) front (e ∷ g) admitted).0,
    )
  where
    joined_parts : (es fs : List Listed) → joined (es ++ fs) ≡ joined es ++ joined fs
    joined_parts [] fs = refl
    joined_parts (e ∷ es) fs = rw (joined_parts es fs) (sym (append_assoc e.octets (joined es) (joined fs)))

nothing_more : (xs more : List ℕ) → length xs ≡ length (xs ++ more) → xs ≡ xs ++ more
nothing_more xs [] is = sym (append-nil xs)
nothing_more xs (y ∷ more) is = absurd (omega (arith, is, length-append xs (y ∷ more)))

rises : (i j : ℕ) → i ≡ 0 → CounterRose i j → 0 < j
rises i j none (inl h) = omega (arith, none, h)
rises i j none (inr h) = absurd (omega (arith, none, h.0, h.2))

-- The line is the one for what follows the envelopes, whose words are written.
abbrev pub IsEndingLine : ℕ → List ℕ → List ℕ → List ℕ → Type 0
IsEndingLine count begun words line = (ending : InputEnding) × HasEnd limits count begun ending × WritesTextAfter begun ending words × (line
    ≡ ending_line count ending)

-- nothing is buffered
pub flushed_nothing_more : {W E : Type 0} (ws : W → Device) (es : E → Device) → WritesJoin → (b : StoryWriter W E) → StoryWriterIsFlushed b
    → FlushesBefore ws es b b []
flushed_nothing_more ws es texts b (empty, none) = record {
  text = (buffers_no_events ws b.output, empty, refl);
  keeps = refl;
  told = subst (λ (lines : List ℕ). WroteAllOf (errors_of es b) (errors_of es b) (lines ++ [])) (sym none) (texts.none (errors_of es b));
}

-- ---- the outcome

module _ {W E : Type 0} {ws : W → Device} {es : E → Device} {first b : StoryWriter W E} {source rest : Device} {count k : ℕ} {begun words : List ℕ}
    (texts : WritesJoin) (h : HasReadPart ws es first source rest b count begun k words) where
  kept : (d : StoryWriter W E) → KeepsTargets b d → KeepsTargets first d
  kept d keeps = (keeps.0 ∙ h.keeps.0, keeps.1 ∙ h.keeps.1)

  -- all that was buffered was written, and a line after it
  all_out : {d : StoryWriter W E} {line : List ℕ} → stops_of b ≡ 0 → FlushesBefore ws es b d line
      → WroteAllOf (output_of ws first) (output_of ws d) (stories h.envelopes ++ words)
      × WroteAllOf (errors_of es first) (errors_of es d) (texts_from check_line_of 1 h.envelopes ++ line)
  all_out {d} {line} none l =
      let s = h.stands in
      let told = texts_from check_line_of 1 s.told in
      let said = texts.more (errors_of es first) (errors_of es b) (errors_of es d) told (b.lines.items ++ line) s.said l.told in
      (stories_out (stands_still s l.text.0) l.text.1 (l.text.2 ∙ none), rw (← append_assoc told b.lines.items line, all_said s) at said)

  -- all stories are written
  pub narrated : {d : StoryWriter W E} (status : ℕ) (more line : List ℕ) (ending : InputEnding) → stops_of b ≡ 0 → FlushesBefore ws es b d line
      → HasOctets rest.octets more → HasEnd limits count (begun ++ more) ending → WritesTextAfter (begun ++ more) ending words → status ≡ listing_status ending
      → line ≡ ending_line count ending
      → WritesStories source rest (output_of ws first) (output_of ws d) (errors_of es first) (errors_of es d) status × KeepsTargets first d
  narrated {d} status more line ending none l left ends leaves is same =
      let out = all_out none l in
      let ends = rw h.taken.counted at ends in
      let line_is = rw h.taken.counted at same in
      let divides = divided h.taken (begun ++ more) in (
        (
          joined h.envelopes ++ (begun ++ more),
          h.envelopes,
          ending,
          words,
          whole h.taken more left,
          h.taken.given.1,
          record { rest = begun ++ more; divides = divides; ends = ends },
          leaves,
          is,
          out.0,
          rw line_is at out.1,
        ),
        kept d (l.text.0.same, l.keeps),
      )

  -- a write to the output failed inside a story, or inside the text of the octets
  broke_in_text : (d : StoryWriter W E) → BuffersText ws b.output d.output [] → KeepsTargets b d → errors_of es d ≡ errors_of es b
      → (k ≡ length begun → buffered_octets d.output ≡ [] → (e : Listed) × IsListed limits e × (e.octets ≡ begun)) → 0 < stops_of d
      → StoriesFail source rest (output_of ws first) (output_of ws d) (errors_of es first) (errors_of es d) CannotWrite × KeepsTargets first d
  broke_in_text d put keeps same all rose =
      let s = stands_still h.stands put in
      let told = stories s.told in
      let out = s.begun ++ s.after.out in
      let broken = (buffers_joined ws first.output s.mark d.output (told ++ s.begun) s.rest s.before s.after).writes.broken (omega (arith, s.fresh.1, rose)) in
      let left : texts_from story_of (1 + length s.told) s.others ++ words ≡ out ++ buffered_octets d.output =
      s.texts ∙ ap (λ (l : List ℕ). s.begun ++ l) (front_of ws s.mark d.output s.rest s.is_flushed s.after)
      ∙ sym (append_assoc s.begun s.after.out (buffered_octets d.output)) in
      let before : told ++ s.begun ≡ s.before.out =
      front_of ws first.output s.mark (told ++ s.begun) s.fresh.0 s.before ∙ ap (λ (l : List ℕ). s.before.out ++ l) s.is_flushed ∙ append-nil s.before.out in
      let octets : Appends (output_of ws first).octets (output_of ws d).octets (told ++ out) =
      rw (← append_assoc told s.begun s.after.out, before) (appends_joined (output_of ws first).octets (device_of ws s.mark).octets (output_of ws d).octets
      s.before.out s.after.out s.before.writes.octets s.after.writes.octets) in
      let after : (front more : List Listed) (w : List ℕ) → front ≡ s.told ++ more → out ≡ texts_from story_of (1 + length s.told) more ++ w
      → Appends (output_of ws first).octets (output_of ws d).octets (stories front ++ w) =
      λ front more w parts at.
      rw (← parts_of story_of s.told more front parts, append_assoc told (texts_from story_of (1 + length s.told) more) w, ← at) octets in
      let said : WroteAllOf (errors_of es first) (errors_of es d) (texts_from check_line_of 1 s.told) = rw same s.said in (
        elim (reach s.others (1 + length s.told) words out (buffered_octets d.output) left) [
          | inl (w, at, front) ↦ (
            joined h.envelopes ++ begun,
            h.envelopes,
            begun,
            h.taken.divides,
            h.taken.given,
            inl (
              (k, w, buffered_octets d.output, h.within, all, rw front at h.is, after h.envelopes s.others w s.parts at, broken),
              (s.told, s.others, s.parts, said),
            ),
          )
          | inr (f, e, g, w, more, parts, at, text) ↦
              let is : h.envelopes ≡ (s.told ++ f) ++ e ∷ g = rw (append_assoc s.told f (e ∷ g), ← parts) s.parts in
              let (divides, listed) = divides_before h.taken.divides (s.told ++ f) e g is in
              let has = (all_back HasText (s.told ++ f) (e ∷ g) (rw is at h.texts)).0 in
              let later = joined g ++ begun in
              let text_is : TextIsDelivered (take (length e.octets) (e.octets ++ later)) (w ++ more) = rw (take-append_seam e.octets later, ← text) has in (
                joined h.envelopes ++ begun,
                s.told ++ f,
                e.octets ++ later,
                divides,
                h.taken.given,
                inl (
                  (
                    length e.octets,
                    w,
                    more,
                    omega (arith, length-append e.octets later),
                    λ whole none. (e, listed, nothing_more e.octets later whole),
                    text_is,
                    after (s.told ++ f) f w refl at,
                    broken,
                  ),
                  (s.told, f, refl, said),
                ),
              )
        ],
        kept d keeps,
      )

  told_with : (line : List ℕ) → (line ≡ []) ⊎ IsEndingLine count begun words line → LinesFollowText h.envelopes begun
      (texts_from check_line_of 1 h.envelopes ++ line) words
  told_with line (inl nothing) = inl (rw (nothing, append-nil) refl, k, h.is)
  told_with line (inr (ending, ends, leaves, same)) =
      let line_is = rw h.taken.counted at same in
      inr (ending, rw h.taken.counted at ends, leaves, rw line_is refl)

  -- what was buffered is lost
  lost : (d : StoryWriter W E) (line : List ℕ) → stops_of b ≡ 0 → (line ≡ []) ⊎ IsEndingLine count begun words line → FlushLosesLines ws es b d line
      → StoriesFail source rest (output_of ws first) (output_of ws d) (errors_of es first) (errors_of es d) CannotWrite × KeepsTargets first d
  lost d line none why l = elim l.broke [
    | inl (write_failed, same) ↦
        broke_in_text d (buffers_of_failed ws b.output d.output [] write_failed.0 write_failed.2) l.keeps same
        (λ whole nothing. absurd (some_none (buffered_octets d.output) write_failed.1 nothing)) (rises (stops_of b) (stops_of d) none write_failed.2)
    | inr (text, n, stopped) ↦
        let s = h.stands in
        let told = texts_from check_line_of 1 s.told in
        let cut = texts.stopped (errors_of es first) (errors_of es b) (errors_of es d) told (b.lines.items ++ line) n s.said stopped in
        let out = stories_out (stands_still s text.0) text.1 (text.2 ∙ none) in
        let broke = rw (← append_assoc told b.lines.items line, all_said s) at cut in
        ((_, h.envelopes, begun, h.taken.divides, h.taken.given, inr (_, words, length told + n, told_with line why, out, broke)), kept d l.keeps)
  ]

  -- a last line was not written, or nothing after what was buffered
  pub line_not_written : (d : StoryWriter W E) (line : List ℕ) → stops_of b ≡ 0 → (line ≡ []) ⊎ IsEndingLine count begun words line → (fault : CommandFault)
      → LastLineFails ws es b d line fault
      → StoriesFail source rest (output_of ws first) (output_of ws d) (errors_of es first) (errors_of es d) fault × KeepsTargets first d
  line_not_written d line none why CannotRead l = absurd l
  line_not_written d line none why CannotWrite l = lost d line none why l
  line_not_written d line none why OutOfMemory l =
      let out = all_out none l in
      ((_, h.envelopes, begun, k, words, h.taken.divides, h.taken.given, h.is, out.0, rw append-nil at out.1), kept d (l.text.0.same, l.keeps))

-- the story of an envelope is ended
pub story_more : {W E : Type 0} {ws : W → Device} {es : E → Device} {first b : StoryWriter W E} {source rest : Device} {count : ℕ} {e : Listed}
    → HasReadPart ws es first source rest b count e.octets (length e.octets) (text_of e) → IsListed limits e → stops_of b ≡ 0 → (d : StoryWriter W E)
    (line : List ℕ) → (count ≡ max_envelopes → ⊥) → line ≡ check_line_of (count + 1) e
    → BuffersText ws b.output d.output (10 ∷ []) × (stops_of d ≡ stops_of b) × BuffersLines b d line → HasWrittenStories ws es first source rest d (count + 1)
story_more {e = e} h is none d line below words (put, no_failure, lines) = record {
  envelopes = h.envelopes ++ e ∷ [];
  taken = read_one_more_envelope h.taken is below;
  texts = all_append HasText h.envelopes (e ∷ []) h.texts (rw take-length at h.is, tt);
  stands = rw (lines.1, lines.0) (buffered_after_end e line (stands_on h.stands (10 ∷ []) put) (rw h.taken.counted at words));
  keeps = (put.same ∙ h.keeps.0, ap (λ m. m.ghost_name) lines.1 ∙ h.keeps.1);
  unbroken = no_failure ∙ none;
}

-- the story of an envelope is not ended
pub story_not_ended : {W E : Type 0} {ws : W → Device} {es : E → Device} {first b : StoryWriter W E} {source rest : Device} {count : ℕ} {e : Listed}
    → WritesJoin
    → HasReadPart ws es first source rest b count e.octets (length e.octets) (text_of e) → IsListed limits e → stops_of b ≡ 0 → (d : StoryWriter W E)
    (fault : CommandFault) → EndStoryFails ws es b d fault
    → StoriesFail source rest (output_of ws first) (output_of ws d) (errors_of es first) (errors_of es d) fault × KeepsTargets first d
story_not_ended texts h is none d fault (inl u) = line_not_written texts h d [] none (inl refl) fault u
story_not_ended {es = es} {b = b} {e = e} texts h is none d fault (inr (broke, put, rose, same)) =
    rw broke (broke_in_text texts h d put (put.same, ap (λ m. m.ghost_name) same) (ap (λ m. es m.now) same) (λ whole nothing. (e, is, refl))
    (rises (stops_of b) (stops_of d) none rose))

-- there is no next item
pub no_next_item : {W E : Type 0} {ws : W → Device} {es : E → Device} {first : StoryWriter W E} {source : Device} {count : ℕ} → ReadsJoin → WritesJoin
    → (mid rest : Device) (v : Unpacking) (a b : StoryWriter W E) (fault : CommandFault) → HasWrittenStories ws es first source mid a count
    → CountsFailuresOfSink (stops_of a) (stops_of b) (Err fault) → IsNextItem (PassesEvents ws es) stops_of StoryWriterIsFlushed
    (λ a b. FlushLosesLines ws es a b []) (mid, a) (rest, v, b) (Err fault)
    → StoriesFail source rest (output_of ws first) (output_of ws b) (errors_of es first) (errors_of es b) fault × KeepsTargets first b
no_next_item joins texts mid rest v a b CannotRead r no_failure (c, is_flushed) =
    let s = buffered_after_events texts r.stands c.told in
    let out = stories_out s is_flushed.0 (no_failure ∙ r.unbroken) in
    let missed = missed_after r.taken rest c.octets c.fault c.missed in (
      (_, r.envelopes, c.octets, c.fault, _, divided r.taken c.octets, c.is_open, missed, (c.more, c.delivered, refl), out, lines_out s is_flushed.1),
      (c.told.put.same ∙ r.keeps.0, c.told.keeps ∙ r.keeps.1),
    )
no_next_item {ws = ws} joins texts mid rest v a b CannotWrite r no_failure (inl u) =
    let h = has_begun joins texts r rest u.octets u.k u.came.given u.came.told (omega (arith, u.within)) u.delivered in
    broke_in_text texts h b (buffers_no_events ws b.output) (refl, refl) refl (λ whole nothing. absurd (omega (arith, whole, u.within)))
    (rises (stops_of a) (stops_of b) r.unbroken u.rose)
no_next_item joins texts mid rest v a b CannotWrite r no_failure (inr u) =
    let h = has_begun joins texts r rest u.octets (length u.octets) u.came.given u.came.told (omega arith) (rw take-length u.delivered) in
    lost texts h b [] (u.no_failure ∙ r.unbroken) (inl refl) u.holds_back
no_next_item joins texts mid rest v a b OutOfMemory r no_failure c = absurd c

-- the allocation failed before anything was read
pub stories_without_memory : ReadsJoin → WritesJoin → (source old new errors : Device) → new ≡ old → StoriesFail source source old new errors errors OutOfMemory
stories_without_memory joins texts source old new errors same =
    let divides : SplitsInto limits [] [] [] = record { admitted = tt; parts = refl; few = omega arith } in
    ([], [], [], 0, [], divides, joins.none source, ([], ([], no_text, refl), refl), rw same (texts.none old), texts.none errors)
