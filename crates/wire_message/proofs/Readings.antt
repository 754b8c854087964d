-- What a chunk does to the state of a reader, and to the story in it.
use Rattle.wire_message.proofs.Names.{take-add, slice_range, take_more, take_rest, get_or-drop, and_from, eqb-true, lt-ltb, not_from_false, true_from_ne_false, same_Some, ArrayVec, EndsInReturns, Octet, End, IsViableStory, EndsViableStory, with_end, StoryLaws, TextReader, TextCause, map_snoc, Are-tail, Are, is_trailer_octet, is_text_octet, max_trailer, Header, EndsViableMessage, MessagesEndAfterEot, ReadersConsumeViableOctets, ReachesMessageState, MessageReaderHasRead, ChunkAdvancesMessage, ReachesSomeState, RejectsMessageOctet, MessageReaderConsumes, MessageReaderRejects, IsCompleteMessage, is_ended, trailer_read, HasMessageCause, EndsViableStoryIn, message_cause_of, ConsumesAnOctet, ConsumesOctets, RejectsOctetOfMessage, OctetEndsViableMessage, MessageCause, BadOctet, LoneReturn, IsMessageState, MatchesState, Place, Text, Trailer, AfterEnd}
use Rattle.wire_message.proofs.{Machine.of, Machine.Stands, Machine.led, Machine.unread, Goings.trailer_ends, Living.message_lives, Living.message_unfinished}
use Rattle.wire_message.proofs.{Transitions.text_more, Transitions.text_etx, Transitions.one_is, Transitions.field_none, Alike.holds_two, Packed.so_far_text}
use Rattle.wire_message.proofs.TextSoFar.{text_at, text_is, tokens_are, tokens_of}
use Rattle.std.proofs.lemmas.List.Concat.{flat_map-append}
use Rattle.std.proofs.Common.{◌≡◌, ℕ, ◌+◌, ◌<◌, ◌==◌, nat_lt, not, Bool, true, false, List, [], ◌∷◌, ◌++◌, length, take, slice_index, Option, Some, map, refl, sym, ap, ◌∙◌, arith, append_assoc, append-nil}
use Rattle.wire_story.specs.Format.Texts.{StoryEvent, delivered, events_of_octet}
use Rattle.wire_story.specs.States.Reading as story
use Rattle.wire_story.specs.declared.fault.TextCause.TheVariants as text_cause
use Rattle.wire_message.specs.declared.fault.MessageFault.{MessageFault}

-- Octets that reach the state of a reader reach that state.
place_at : (p : Place) (octets text : List ℕ) → MessageReaderHasRead (Some p) octets text → ReachesMessageState octets text p
place_at p octets text s = rw (← same_Some p s.0 s.1) at s.2

-- ---- Chunks that add nothing to the text.

pub leads_by : (p q : Place) (rest : List ℕ) (n : ℕ) → ConsumesAnOctet p rest q n → ChunkAdvancesMessage (Some p) (take n rest) [] (Some q)
leads_by p q rest n w octets text s =
    let l = place_at p octets text s in
    (q, refl, rw (append-nil text) (record { is_place = w.is_place; spelled = w.adds octets text l.spelled; story = w.story text l.story }))

pub dies_in : (p : Place) (rest : List ℕ) → OctetEndsViableMessage p (slice_index rest 0) → RejectsMessageOctet (Some p) rest
    (record { taken = 0; cause = BadOctet })
dies_in p rest d octets text s = rw (append-nil octets) (d octets text (place_at p octets text s).spelled)

pub stays_at : (p : Place) → ReachesSomeState (Some p) [] []
stays_at p octets text s = (p, rw (append-nil octets, append-nil text) (place_at p octets text s))

-- ---- Octets of a story are octets of a text.

-- The octets at the end of a text so far.
back_text : (xs ys : List ℕ) (held : ℕ) → EndsInReturns (xs ++ ys) held → Are is_text_octet ys
back_text xs ys held h = back xs (so_far_text (xs ++ ys) h.0 h.1 held h.2)
  where
    back : (xs : List ℕ) → Are is_text_octet (xs ++ ys) → Are is_text_octet ys
    back [] are = are
    back (x ∷ xs) are = back xs (Are-tail is_text_octet x (xs ++ ys) are)

-- Octets of a text so far reach a state in the text.
text_goes : {octets text : List ℕ} {h : Header} {old : TextReader} (ys : List ℕ) → ReachesMessageState octets text (Text h old) → (held : ℕ) → EndsInReturns
    (text ++ ys) held
    → ReachesMessageState (octets ++ ys) (text ++ ys) (Text h (Some held))
text_goes {octets} {text} {h} {old} ys l held holds = record {
  is_place = (l.is_place.0, (held, refl, holds_two (text ++ ys) held holds));
  spelled = text_more octets text ys h old (Some held) (back_text text ys held holds) l.spelled;
  story = (held, refl, holds);
}

pub all_taken : (h : Header) (old new : TextReader) (ys : List ℕ) → story.ChunkAdvancesText old ys new → ChunkAdvancesMessage (Some (Text h old)) ys ys (Some
    (Text h new))
all_taken h old new ys goes octets text s =
    let l = place_at (Text h old) octets text s in
    let after = goes text l.story in
    (Text h new, refl, rw after.1 (text_goes ys l after.0 after.2))

-- ---- A story stops.

alive_before : (x : List ℕ) (b : ℕ) → IsViableStory (x ++ (b ∷ [])) → IsViableStory x
alive_before x b a = (Octet b ∷ a.0, rw (← append_assoc (map Octet x) (Octet b ∷ []) a.0, map_snoc x b) a.1)

-- Before an octet that the story rejected, the text was a viable prefix.
stood_before : StoryLaws → (cause : TextCause) (x : List ℕ) (b : ℕ) → story.HasTextCause cause x b → (held : ℕ) × EndsInReturns x held
stood_before laws text_cause.LoneReturn x b h = (h.1.0, h.1.1)
stood_before laws text_cause.ControlOctet x b h = (0, h.1)
stood_before laws text_cause.Sink x b h = (laws.stories_are_viable_as_texts_so_far x).0 (alive_before x b h.0)

pub stops_somewhere : StoryLaws → (h : Header) (old : TextReader) (ys : List ℕ) (b : ℕ) (cause : TextCause)
    → ((x : List ℕ) → story.TextReaderHasRead old x → story.HasTextCause cause (x ++ ys) b) → ReachesSomeState (Some (Text h old)) ys ys
stops_somewhere laws h old ys b cause refuses octets text s =
    let l = place_at (Text h old) octets text s in
    let stood = stood_before laws cause (text ++ ys) b (refuses text l.story) in
    (Text h (Some stood.0), text_goes ys l stood.0 stood.1)

-- At ETX the text is complete.
pub ends_at : StoryLaws → (h : Header) (old : TextReader) (t : ArrayVec ℕ) (rest : List ℕ) (taken : ℕ) → t.items ≡ []
    → taken < length rest → slice_index rest taken ≡ 3
    → ((x : List ℕ) → story.TextReaderHasRead old x → story.HasTextCause text_cause.ControlOctet (x ++ take taken rest) (slice_index rest taken))
    → ChunkAdvancesMessage (Some (Text h old)) (take (taken + 1) rest) (take taken rest) (Some (Trailer h t))
ends_at laws h old t rest taken none before etx refuses octets text s =
    let ys = take taken rest in
    let l = place_at (Text h old) octets text s in
    let holds = (refuses text l.story).1 in
    let lead = text_goes ys l 0 holds in
    let front : octets ++ take (taken + 1) rest ≡ (octets ++ ys) ++ (3 ∷ []) = rw (take_more rest taken 0 before, etx, append_assoc octets ys (3 ∷ [])) refl in
    let place : IsMessageState (Trailer h t) = (l.is_place.0, rw none (field_none is_trailer_octet max_trailer)) in
    let spelled : MatchesState (octets ++ take (taken + 1) rest) (text ++ ys) (Trailer h t) =
    rw (front, none) (text_etx (octets ++ ys) (text ++ ys) h (Some 0) lead.spelled) in
    (Trailer h t, refl, record { is_place = place; spelled = spelled; story = (laws.texts_end_in_no_return (text ++ ys)).1 holds })

-- With one more octet of the text.
more_stands : {octets text : List ℕ} {h : Header} {reader : TextReader} (b : ℕ) → Stands octets text (Text h reader) → is_text_octet b ≡ true
    → Stands (octets ++ (b ∷ [])) (text ++ (b ∷ [])) (Text h reader)
more_stands {octets} {text} {h} {reader} b s t =
    record { bare = s.bare; spelled = text_more octets text (b ∷ []) h reader reader (one_is is_text_octet b t) s.spelled }

story_dies : {octets text : List ℕ} {h : Header} {reader : TextReader} (b : ℕ) → Stands octets text (Text h reader) → is_text_octet b ≡ true
    → EndsViableStory text (Octet b) → EndsViableStoryIn octets b
story_dies {text = text} b s t d =
    (rw (tokens_are s) d.0, λ alive. d.1 (rw (map_snoc text b) (rw (tokens_are (more_stands b s t)) at alive)))

text_refuses : (cause : TextCause) {octets text : List ℕ} {h : Header} {reader : TextReader} (b : ℕ) → Stands octets text (Text h reader)
    → is_text_octet b ≡ true → story.HasTextCause cause text b → HasMessageCause (message_cause_of cause) octets b
text_refuses text_cause.LoneReturn b s t c =
    (message_lives (more_stands b s t), story_dies b s t c.0, (c.1.0, c.1.2.0, rw (text_is s) c.1.1))
text_refuses text_cause.ControlOctet b s t c = (message_lives (more_stands b s t), story_dies b s t c.0, rw (text_is s) c.1)
text_refuses text_cause.Sink b s t c =
    let more = more_stands b s t in
    (message_lives more, rw (tokens_are more) c.0, text_is more ∙ ap (λ (u : List ℕ). u ++ (b ∷ [])) (sym (text_is s)), c.1)

-- After a pending CR no text may end.
unended : StoryLaws → (x : List ℕ) (held : ℕ) → 0 < held → EndsInReturns x held → EndsViableStory x End
unended laws x held some holds = (
  (laws.stories_are_viable_as_texts_so_far x).1 (held, holds),
  λ alive.
      let zero = (laws.texts_end_in_no_return x).0 ((laws.stories_end_as_texts x).0 alive) in
      let same = laws.texts_so_far_have_one_reading x holds.0 zero.0 holds.1 zero.1 held 0 holds.2 zero.2 in
      let none : held ≡ 0 = same.2 in
      omega arith,
)

-- After a pending CR, ETX is rejected.
etx_refuses : StoryLaws → {octets text : List ℕ} {h : Header} {reader : TextReader} → Stands octets text (Text h reader) → (held : ℕ) → 0 < held
    → EndsInReturns text held → HasMessageCause LoneReturn octets 3
etx_refuses laws {octets} {text} {h} {reader} s held some holds =
    let d = unended laws text held some holds in
    let trailer : Stands (octets ++ (3 ∷ [])) text (Trailer h (of [])) =
    record { bare = (s.bare, field_none is_trailer_octet max_trailer); spelled = text_etx octets text h reader s.spelled } in
    let at_end = tokens_of (octets ++ (3 ∷ [])) text true (text_at (octets ++ (3 ∷ [])) text (Trailer h (of [])) trailer) in
    (message_lives trailer, (rw (tokens_are s) d.0, λ alive. d.1 (rw at_end at alive)), (held, some, rw (text_is s) holds))

refuses_etx : StoryLaws → (cause : TextCause) {octets text : List ℕ} {h : Header} {reader : TextReader} → Stands octets text (Text h reader)
    → (cause ≡ text_cause.ControlOctet → ⊥) → story.HasTextCause cause text 3 → HasMessageCause (message_cause_of cause) octets 3
refuses_etx laws text_cause.LoneReturn s other has = etx_refuses laws s has.1.0 has.1.2.0 has.1.1
refuses_etx laws text_cause.ControlOctet s other has = absurd (other refl)
refuses_etx laws text_cause.Sink {text = text} s other has =
    let held = (laws.stories_are_viable_as_texts_so_far (text ++ (3 ∷ []))).0 has.0 in
    let wrong = back_text text (3 ∷ []) held.0 held.1 in
    absurd cc

refuses_octet : StoryLaws → (cause : TextCause) {octets text : List ℕ} {h : Header} {reader : TextReader} (b : ℕ) (at_etx : Bool) → (b == 3) ≡ at_etx → b < 256
    → Stands octets text (Text h reader) → (cause ≡ text_cause.ControlOctet → b ≡ 3 → ⊥) → story.HasTextCause cause text b → HasMessageCause
    (message_cause_of cause) octets b
refuses_octet laws cause b false e fits s other has =
    text_refuses cause b s (and_from (nat_lt b 256) (not (b == 3)) (lt-ltb b 256 fits) (not_from_false (b == 3) e)) has
refuses_octet laws cause b true e fits s other has =
    let etx : b ≡ 3 = eqb-true b 3 e in
    rw etx (refuses_etx laws cause s (λ control. other control etx) (rw etx at has))

pub refuses_at : StoryLaws → (h : Header) (old : TextReader) (rest : List ℕ) (taken : ℕ) (cause : TextCause)
    → slice_index rest taken < 256 → (cause ≡ text_cause.ControlOctet → slice_index rest taken ≡ 3 → ⊥)
    → ((x : List ℕ) → story.TextReaderHasRead old x → story.HasTextCause cause (x ++ take taken rest) (slice_index rest taken))
    → RejectsMessageOctet (Some (Text h old)) rest (record { taken = taken; cause = message_cause_of cause })
refuses_at laws h old rest taken cause fits other refuses octets text s =
    let l = place_at (Text h old) octets text s in
    let has = refuses text l.story in
    let stood = stood_before laws cause (text ++ take taken rest) (slice_index rest taken) has in
    refuses_octet laws cause (slice_index rest taken) (slice_index rest taken == 3) refl fits
    (led (text_goes (take taken rest) l stood.0 stood.1)) other has

-- ---- A chunk after another.

front_is : (octets piece : List ℕ) (at k : ℕ) → octets ++ take (at + k) piece ≡ (octets ++ take at piece) ++ take k (slice_range piece at (length piece))
front_is octets piece at k = rw (take_rest piece at, take-add at k piece) (sym (append_assoc octets (take at piece) _))

pub leads_on_front : (a b c : Option Place) (piece : List ℕ) (at k : ℕ) (m n : List ℕ) → ChunkAdvancesMessage a (take at piece) m b
    → ChunkAdvancesMessage b (take k (slice_range piece at (length piece))) n c → ChunkAdvancesMessage a (take (at + k) piece) (m ++ n) c
leads_on_front a b c piece at k m n f g octets text s =
    rw (front_is octets piece at k, ← append_assoc text m n) (g (octets ++ take at piece) (text ++ m) (f octets text s))

pub somewhere_front : (a b : Option Place) (piece : List ℕ) (at k : ℕ) (m n : List ℕ) → ChunkAdvancesMessage a (take at piece) m b
    → ReachesSomeState b (take k (slice_range piece at (length piece))) n → ReachesSomeState a (take (at + k) piece) (m ++ n)
somewhere_front a b piece at k m n f g octets text s =
    let there = g (octets ++ take at piece) (text ++ m) (f octets text s) in
    (there.0, rw (front_is octets piece at k, ← append_assoc text m n) there.1)

pub delivered_both : (m n : List ℕ) → delivered (m ++ n) ≡ delivered m ++ delivered n
delivered_both m n = flat_map-append events_of_octet m n

-- An octet that is rejected in what remains is rejected in the whole chunk.
pub refuses_front : (a b : Option Place) (piece : List ℕ) (at k : ℕ) (m : List ℕ) (cause : MessageCause) → ChunkAdvancesMessage a (take at piece) m b
    → RejectsMessageOctet b (slice_range piece at (length piece)) (record { taken = k; cause = cause }) → RejectsMessageOctet a piece
    (record { taken = at + k; cause = cause })
refuses_front a b piece at k m cause f g octets text s =
    let octet : slice_index piece (at + k) ≡ slice_index (slice_range piece at (length piece)) k =
    sym (ap (λ (r : List ℕ). slice_index r k) (take_rest piece at) ∙ get_or-drop at piece k 0) in
    rw (front_is octets piece at k, octet) (g (octets ++ take at piece) (text ++ m) (f octets text s))

pub stays_standing : (p : Option Place) (piece : List ℕ) → ChunkAdvancesMessage p (take 0 piece) [] p
stays_standing p piece octets text s = rw (append-nil octets, append-nil text) s

-- An empty trailer and EOT, in one step after the text.
pub tail_taken : {S : Type 0} (goes : S → List StoryEvent → S → Type 0) (failures : S → ℕ) (old : Place) (h : Header) (rest : List ℕ) (used : ℕ) (a b : S)
    → ConsumesOctets goes failures old a (take used rest) (Trailer h (of [])) b → 0 < length (slice_range rest used (length rest))
    → slice_index (slice_range rest used (length rest)) 0 ≡ 4 → ConsumesOctets goes failures old a (take (used + 1) rest) (AfterEnd h (of []) 0) b
tail_taken goes failures old h rest used a b taken some eot =
    let left = slice_range rest used (length rest) in
    let then = trailer_ends h (of []) left some taken.is_place eot in
    let text = taken.told.0 in
    let leads = leads_on_front (Some old) (Some (Trailer h (of []))) (Some (AfterEnd h (of []) 0)) rest used 1 text [] taken.told.2
    (leads_by _ _ left 1 then) in
    record { is_place = then.is_place; told = (text ++ [], rw (append-nil text) taken.told.1, leads); no_failure = taken.no_failure }

-- ---- How a call ends.

-- What a state consumes, the reader in that state consumes.
pub taken_piece : ReadersConsumeViableOctets
    → {S : Type 0} {goes : S → List StoryEvent → S → Type 0} {failures : S → ℕ} {old new : Place} {piece : List ℕ} {a b : S}
    → ConsumesOctets goes failures old a piece new b → MessageReaderConsumes goes failures (Some old) piece (Some new) a b
taken_piece law {piece = piece} takes = record {
  lives = λ octets text s. let there = takes.told.2 octets text s in law (octets ++ piece) (text ++ takes.told.0) there.0 there.2;
  told = takes.told;
  no_failure = takes.no_failure;
}

-- What a state rejects, the reader in that state rejects.
pub refused_one : ReadersConsumeViableOctets
    → {S : Type 0} {goes : S → List StoryEvent → S → Type 0} {failures : S → ℕ} {old : Place} {piece : List ℕ} {a b : S}
    {fault : MessageFault} → RejectsOctetOfMessage goes failures old a piece b fault → MessageReaderRejects goes failures (Some old) piece fault a b
refused_one law {piece = piece} {fault = fault} stops = record {
  before = stops.within;
  lives = λ octets text s. let there = stops.told.2 octets text s in law (octets ++ take fault.taken piece) (text ++ stops.told.0) there.0 there.1;
  refused = stops.refused;
  told = stops.told;
  counted = stops.counted;
}

-- ---- The beginning and the end.

pub is_whole : (reader : Option Place) → is_ended reader ≡ true → IsCompleteMessage reader
is_whole (Some (AfterEnd h t k)) e octets text s = let l = place_at (AfterEnd h t k) octets text s in (h, refl, l.spelled.0, l.story)
is_whole reader e octets text s = absurd cc

unread_ended : (p : Place) → is_ended (Some (unread p)) ≡ is_ended (Some p)
unread_ended (Text h reader) = refl
unread_ended p = refl

pub is_unfinished : (reader : Option Place) → is_ended reader ≡ false → (octets text : List ℕ) → MessageReaderHasRead reader octets text
    → EndsViableMessage octets End
is_unfinished reader e octets text s = message_unfinished (led s.2) (unread_ended s.0 ∙ (ap is_ended (sym s.1) ∙ e))

pub ends_after_eot : MessagesEndAfterEot
ends_after_eot octets text place leads = (
  λ alive. true_from_ne_false (is_ended (Some place)) (λ no. (is_unfinished (Some place) no octets text (place, refl, leads)).1 alive),
  λ ended.
      let (head, told, message, lines) = is_whole (Some place) ended octets text (place, refl, leads) in
      let tokens = append-nil (with_end octets) in
      ([], record { object = octets; head = head; text = text; trailer = trailer_read (Some place); message = message; tokens_are = tokens }),
)
