-- Octets that reach a state are viable prefixes; octets that reach the same state reach the same
-- further states, and the same octets are rejected after them.
use Rattle.std.proofs.Common.{◌≡◌, ℕ, ◌≤◌, true, cond, List, [], ◌∷◌, ◌++◌, map, Option, Some, refl, sym, ap, subst, ◌∙◌, arith, append-nil}
use Rattle.wire_message.proofs.Names.{append_cancel_left, same_Some, HasLines, EndsInReturns, Octet, End, StoryLanguage, StoryLaws, TextReader, map_snoc, so_far_two, IsViableMessage, text_so_far, HasViableStory, EndsViableStoryIn, HasMessageCause, MatchesState, IsStoryState, ReachesMessageState, TextsAreBetweenStxAndEtx, ReadersConsumeViableOctets, ViableOctetsReachStates, OctetsDetermineTheMessageState, MessageStatesDetermineLaterOnes, StatesDetermineRejections, Place, Filler, Text, Trailer, AfterEnd, MessageCause, BadOctet, Unfinished, LoneReturn, ControlOctet, Sink}
use Rattle.wire_message.proofs.Machine.{Stands, led, unread, stands_unread, run, run_parts, one_end}
use Rattle.wire_message.proofs.{Runs.spelled_runs, Goings.Continues, Goings.octets_on, Living.message_lives, Living.live_runs}
use Rattle.wire_message.proofs.TextSoFar.{TextIs, text_ended, none_yet, text_at, tokens_are, tokens_of}
use Rattle.iim_dataset.specs.Format.Octets.{IsViablePrefix}
use Rattle.wire_story.specs.States.Reading as story

-- ---- How many CR are pending in the text.

pub holds_two : (x : List ℕ) (held : ℕ) → EndsInReturns x held → held ≤ 2
holds_two x held h = so_far_two x h.0 h.1 held h.2

-- A state of the text that octets reach satisfies the invariant.
pub stands_two : (reader : TextReader) (x : List ℕ) → story.TextReaderHasRead reader x → story.IsTextState reader
stands_two reader x at = (at.0, at.1, holds_two x at.0 at.2)

-- ---- Octets that reach a state can continue, as a message and as a story.

pub texts_between : TextsAreBetweenStxAndEtx
texts_between octets text place at = sym (text_at octets text place (led at)).text_is

story_lives : StoryLaws → (text : List ℕ) (place : Place) → IsStoryState text place
    → IsViablePrefix StoryLanguage (map Octet text ++ cond (text_ended place) (End ∷ []) [])
story_lives laws text (Text h reader) stands = rw (append-nil (map Octet text)) ((laws.stories_are_viable_as_texts_so_far text).1 (stands.0, stands.2))
story_lives laws text (Trailer h t) lines = (laws.stories_end_as_texts text).1 lines
story_lives laws text (AfterEnd h t k) lines = (laws.stories_end_as_texts text).1 lines
story_lives laws text place none = rw none ((laws.stories_are_viable_as_texts_so_far []).1 (0, ([], [], (refl, omega arith, refl))))

pub stand_alive : StoryLaws → ReadersConsumeViableOctets
stand_alive laws octets text place at =
    (message_lives (led at), rw (tokens_of octets text (text_ended place) (text_at octets text place (led at))) (story_lives laws text place at.story))

-- ---- Octets reach at most one state, with one text.

one_held : StoryLaws → (x : List ℕ) (held returns : ℕ) → EndsInReturns x held → EndsInReturns x returns → held ≡ returns
one_held laws x held returns h k = (laws.texts_so_far_have_one_reading x h.0 k.0 h.1 k.1 held returns h.2 k.2).2

same_place : StoryLaws → (text : List ℕ) (p q : Place) → unread p ≡ unread q → IsStoryState text p → IsStoryState text q → p ≡ q
same_place laws text (Text h reader) (Text k other) e a b =
    let held = one_held laws text a.0 b.0 a.2 b.2 in
    let reads = a.1 in
    let others = b.1 in
    cc
same_place laws text (Text h reader) q e a b = absurd cc
same_place laws text p (Text h reader) e a b = absurd cc
same_place laws text p q e a b = e

pub one_place : StoryLaws → OctetsDetermineTheMessageState
one_place laws octets text other p q a b =
    let same : text ≡ other = texts_between octets text p a ∙ sym (texts_between octets other q b) in
    (same, same_place laws text p q (one_end octets (spelled_runs (led a)) (spelled_runs (led b))) a.story (rw same b.story))

-- ---- The story.

-- the reader of the text, or one without pending CR if no text is being read
abbrev reader_at : Place → Option ℕ
reader_at (Text h reader) = reader
reader_at p = Some 0

reader_stands : StoryLaws → (text : List ℕ) (p : Place) → IsStoryState text p → story.TextReaderHasRead (reader_at p) text
reader_stands laws text (Text h reader) at = at
reader_stands laws text (Trailer h v) at = (0, refl, (laws.texts_end_in_no_return text).0 at)
reader_stands laws text (AfterEnd h v k) at = (0, refl, (laws.texts_end_in_no_return text).0 at)
reader_stands laws text p at = (0, refl, rw at ([], [], (refl, omega arith, refl)))

whole_text : StoryLaws → (text : List ℕ) → story.TextReaderHasRead (Some 0) text → HasLines text
whole_text laws text at = (laws.texts_end_in_no_return text).1 (subst (EndsInReturns text) (sym (same_Some _ _ at.1)) at.2)

story_stands : StoryLaws → (xs text : List ℕ) (p : Place) → MatchesState xs text p → story.TextReaderHasRead (reader_at p) text → IsStoryState text p
story_stands laws xs text (Text h reader) l at = at
story_stands laws xs text (Trailer h v) l at = whole_text laws text at
story_stands laws xs text (AfterEnd h v k) l at = whole_text laws text at
story_stands laws xs text p l at = none_yet xs text p l refl

-- ---- Octets that reach the same state reach the same further states.

spells_read : (xs text : List ℕ) (p : Place) → MatchesState xs text (unread p) → MatchesState xs text p
spells_read xs text (Text h reader) s = s
spells_read xs text p s = s

pub alike : StoryLaws → MessageStatesDetermineLaterOnes
alike laws a b x t u y p q here there on =
    let parts = run_parts (Filler 0) a x (unread q) (spelled_runs (led on)) in
    let place = one_end a parts.1 (spelled_runs (led here)) in
    let steps = octets_on (unread p) (unread q) x (subst (λ (s : Place). run s x ≡ Some (unread q)) place parts.2) in
    let mine = steps.1 a t (stands_unread a t p (led here)) in
    let texts = sym (text_at (a ++ x) (t ++ steps.0) (unread q) mine).text_is ∙ (text_at (a ++ x) (t ++ y) q (led on)).text_is in
    let other = steps.1 b u (stands_unread b u p (led there)) in
    let spelled = spells_read (b ++ x) (u ++ y) q
    (subst (λ (z : List ℕ). MatchesState (b ++ x) (u ++ z) (unread q)) (append_cancel_left t steps.0 y texts) other.spelled) in
    let stands = laws.text_states_determine_later_ones (reader_at p) (reader_at q) t u y (reader_stands laws t p here.story)
    (reader_stands laws u p there.story)
    (reader_stands laws (t ++ y) q on.story) in
    record { is_place = on.is_place; spelled = spelled; story = story_stands laws (b ++ x) (u ++ y) q spelled stands }

-- ---- Octets that are a viable prefix, as a message and as a story, reach a state.

-- From ETX on the text is complete.
whole : StoryLaws → {octets text : List ℕ} → TextIs octets text true → HasViableStory octets → HasLines text
whole laws {octets} {text} is lives = (laws.stories_end_as_texts text).0 (rw (tokens_of octets text true is) at lives)

-- In the text as many CR are pending as the text so far ends in.
story_leads : StoryLaws → (octets text : List ℕ) (p : Place) → Stands octets text p → HasViableStory octets → (place : Place)
    × ReachesMessageState octets text place
story_leads laws octets text (Text h reader) at lives =
    let held = (laws.stories_are_viable_as_texts_so_far text).0 (rw (tokens_are at) at lives) in
    (Text h (Some held.0), record { is_place = (at.bare, (held.0, refl, holds_two text held.0 held.1)); spelled = at.spelled; story = (held.0, refl, held.1) })
story_leads laws octets text (Trailer h t) at lives =
    (Trailer h t, record { is_place = at.bare; spelled = at.spelled; story = whole laws (text_at octets text (Trailer h t) at) lives })
story_leads laws octets text (AfterEnd h t k) at lives =
    (AfterEnd h t k, record { is_place = at.bare; spelled = at.spelled; story = whole laws (text_at octets text (AfterEnd h t k) at) lives })
story_leads laws octets text p at lives = (p, record { is_place = at.bare; spelled = at.spelled; story = none_yet octets text p at.spelled refl })

-- A message that can continue with the octets reaches a further state.
message_leads : {octets text : List ℕ} {p : Place} → Stands octets text p → (more : List ℕ) → IsViableMessage (octets ++ more)
    → (new : Place) × Continues (unread p) more new
message_leads {octets} {text} {p} at more message =
    let ran = live_runs (octets ++ more) message in
    let parts = run_parts (Filler 0) octets more ran.0 ran.1 in
    let place = one_end octets parts.1 (spelled_runs at) in
    (ran.0, octets_on (unread p) ran.0 more (subst (λ (s : Place). run s more ≡ Some ran.0) place parts.2))

pub living_lead_on : StoryLaws → ViableOctetsReachStates
living_lead_on laws octets more text place at message story =
    let on = message_leads (led at) more message in
    let there = story_leads laws (octets ++ more) (text ++ on.1.0) on.0 (on.1.1 octets text (stands_unread octets text place (led at))) story in
    (on.1.0, there.0, there.1)

-- ---- After octets that reach the same state an octet is rejected for the same cause.

-- Both lists of octets reach the same state.
record LedAlike (a b t u : List ℕ) (p : Place) : Type 0 where
  here : ReachesMessageState a t p
  there : ReachesMessageState b u p

turned : {a b t u : List ℕ} {p : Place} → LedAlike a b t u p → LedAlike b a u t p
turned both = record { here = both.there; there = both.here }

message_on : {a b t u : List ℕ} {p : Place} → LedAlike a b t u p → (x : List ℕ) → IsViableMessage (a ++ x) → IsViableMessage (b ++ x)
message_on {b = b} {u = u} {p = p} both x lives =
    let on = message_leads (led both.here) x lives in
    message_lives (on.1.1 b u (stands_unread b u p (led both.there)))

message_dies : {a b t u : List ℕ} {p : Place} (next : ℕ) → LedAlike a b t u p → HasMessageCause BadOctet a next → HasMessageCause BadOctet b next
message_dies {a} {b} next both dies =
    (message_lives (led both.there), λ lives. dies.1 (rw (map_snoc a next) (message_on (turned both) (next ∷ []) (rw (map_snoc b next) at lives))))

-- If a message and its story can continue, the same octets reach the same further state.
lead_on : StoryLaws → {a b t u : List ℕ} {p : Place} → LedAlike a b t u p → (x : List ℕ) → IsViableMessage (a ++ x) → HasViableStory (a ++ x)
    → (added : List ℕ) × (new : Place) × LedAlike (a ++ x) (b ++ x) (t ++ added) (u ++ added) new
lead_on laws {a} {b} {t} {u} {p} both x message story =
    let on = living_lead_on laws a x t p both.here message story in
    (on.0, on.1, record { here = on.2; there = alike laws a b x t u on.0 p on.1 both.here both.there on.2 })

story_dies : StoryLaws → {a b t u : List ℕ} {p : Place} (next : ℕ) → LedAlike a b t u p → IsViableMessage (a ++ (next ∷ [])) → EndsViableStoryIn a next
    → EndsViableStoryIn b next
story_dies laws {a} {b} {t} {u} {p} next both message dies = (
  (stand_alive laws b u p both.there).1,
  λ lives.
      let back = lead_on laws (turned both) (next ∷ []) (message_on both (next ∷ []) message) lives in
      dies.1 (stand_alive laws (a ++ (next ∷ [])) (t ++ back.0) back.1 back.2.there).1,
)

-- The state determines how many CR the text so far ends in.
held_alike : StoryLaws → {a b t u : List ℕ} {p : Place} (held : ℕ) → LedAlike a b t u p → EndsInReturns (text_so_far a) held → EndsInReturns
    (text_so_far b) held
held_alike laws {a} {b} {t} {u} {p} held both holds =
    let mine = reader_stands laws t p both.here.story in
    let other = reader_stands laws u p both.there.story in
    let same = one_held laws t held mine.0 (subst (λ (x : List ℕ). EndsInReturns x held) (sym (texts_between a t p both.here)) holds) mine.2 in
    let held_is : other.0 ≡ held = same_Some _ _ (sym other.1 ∙ (mine.1 ∙ ap Some (sym same))) in
    subst (λ (x : List ℕ). EndsInReturns x held) (texts_between b u p both.there) (subst (EndsInReturns u) held_is other.2)

sink_alike : StoryLaws → {a b t u : List ℕ} {p : Place} (next : ℕ) → LedAlike a b t u p → HasMessageCause Sink a next → HasMessageCause Sink b next
sink_alike laws {a} {b} {t} {u} {p} next both cause =
    let x : List ℕ = next ∷ [] in
    let (added, new, on) = lead_on laws both x cause.0 cause.1 in
    let texts = texts_between (a ++ x) (t ++ added) new on.here ∙ (cause.2 ∙ ap (λ (y : List ℕ). y ++ x) (sym (texts_between a t p both.here))) in
    let added_is : added ≡ x = append_cancel_left t added x texts in
    let lives = stand_alive laws (b ++ x) (u ++ added) new on.there in
    let told : text_so_far (b ++ x) ≡ text_so_far b ++ x =
    sym (texts_between (b ++ x) (u ++ added) new on.there) ∙
    (ap (λ (y : List ℕ). u ++ y) added_is ∙ ap (λ (y : List ℕ). y ++ x) (texts_between b u p both.there)) in
    (lives.0, lives.1, told, cause.3)

cause_alike : StoryLaws → {a b t u : List ℕ} {p : Place} (cause : MessageCause) (next : ℕ) → LedAlike a b t u p → HasMessageCause cause a next
    → HasMessageCause cause b next
cause_alike laws BadOctet next both has = message_dies next both has
cause_alike laws Unfinished next both has = has
cause_alike laws LoneReturn next both has =
    (message_on both (next ∷ []) has.0, story_dies laws next both has.0 has.1, (has.2.0, has.2.1, held_alike laws has.2.0 both has.2.2))
cause_alike laws ControlOctet next both has =
    (message_on both (next ∷ []) has.0, story_dies laws next both has.0 has.1, held_alike laws 0 both has.2)
cause_alike laws Sink next both has = sink_alike laws next both has

pub refused_alike : StoryLaws → StatesDetermineRejections
refused_alike laws octets others text other place cause next here there has =
    cause_alike laws cause next (record { here = here; there = there }) has
