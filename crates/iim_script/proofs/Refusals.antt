-- The reader of stories rejects no octet of a text: only the sink can.
use Rattle.std.proofs.Common.{◌≡◌, ℕ, ◌<◌, ◌+◌, List, [], ◌∷◌, ◌++◌, length, map, take, drop, slice_index, refl, sym, ap, ◌∙◌}
use Rattle.std.proofs.lemmas.List.{take_more, take-append-drop}
use Rattle.wire_story.proofs.SoFar.{with_end-append, map_snoc}
use Rattle.wire_story.specs.Format.Texts.{IsText, OctetOrEnd, Octet, with_end, IsViableStory, EndsViableStory}
use Rattle.wire_story.specs.States.Reading.{HasTextCause}
use Rattle.wire_story.specs.declared.fault.TextCause.{TextCause}
use Rattle.wire_story.specs.declared.fault.TextCause.TheVariants.{LoneReturn, ControlOctet, Sink}

-- each prefix of a text is a viable prefix of a story
prefix_lives : (text : List ℕ) (lines : List (List ℕ)) (n : ℕ) → IsText text lines → IsViableStory (take n text)
prefix_lives text lines n h = (
  with_end (drop n text),
  record {
    text = text;
    lines = lines;
    lined = h;
    tokens_are = sym (with_end-append (take n text) (drop n text)) ∙ ap with_end (take-append-drop n text);
  },
)

-- so no octet of the text makes it unviable
no_octet_rejected : (text : List ℕ) (lines : List (List ℕ)) (n : ℕ) → IsText text lines → n < length text
    → EndsViableStory (take n text) (Octet (slice_index text n)) → ⊥
no_octet_rejected text lines n h inside dies = dies.1 (
    let more : map Octet (take (n + 1) text) ≡ map Octet (take n text) ++ Octet (slice_index text n) ∷ [] =
    ap (map Octet) (take_more text n 0 inside) ∙ sym (map_snoc (take n text) (slice_index text n)) in
    let lives = prefix_lives text lines (n + 1) h in (
      lives.0,
      record {
        text = lives.1.text;
        lines = lives.1.lines;
        lined = lives.1.lined;
        tokens_are = ap (λ (t : List OctetOrEnd). t ++ lives.0) (sym more) ∙ lives.1.tokens_are;
      },
    ))

-- why an octet of a text is rejected
pub sink_alone : (text : List ℕ) (lines : List (List ℕ)) (n : ℕ) (cause : TextCause) → IsText text lines → n < length text
    → HasTextCause cause (take n text) (slice_index text n) → cause ≡ Sink
sink_alone text lines n LoneReturn h inside c = absurd (no_octet_rejected text lines n h inside c.0)
sink_alone text lines n ControlOctet h inside c = absurd (no_octet_rejected text lines n h inside c.0)
sink_alone text lines n Sink h inside c = refl
