-- The state that a chunk reaches, and how an octet of it is rejected.
use Rattle.std.specs.List.{slice_range}
use Rattle.std.proofs.lemmas.List.{take_rest, take_more, get_or-take, length-take-le}
use Rattle.std.proofs.Common.{◌≡◌, ◌≢◌, ℕ, ◌+◌, ◌<◌, true, false, List, [], ◌∷◌, ◌++◌, take, slice_index, Option, Some, refl, sym, ap, subst, ◌∙◌, append-nil, append_assoc, get_or-drop, length, option_and_then, arith}
use Rattle.std.proofs.lemmas.Bool.{true≢false}
use Rattle.std.proofs.lemmas.Bool.Decides.{nat_tests}
use Rattle.std.proofs.lemmas.Option.{same_Some}
use Rattle.wire_story.specs.Format.Texts.{is_line_octet, IsLine, EndsInReturns, IsViableStory}
use Rattle.wire_story.specs.States.Reading.{TextReaderHasRead, ChunkAdvancesText, RejectsTextOctet}
use Rattle.wire_story.specs.declared.fault.TextCause.{TextCause}
use Rattle.wire_story.specs.declared.fault.TextCause.TheVariants.{LoneReturn, ControlOctet, Sink}
use Rattle.wire_story.proofs.{HeldReturns.held_after, HeldReturns.held_append, HeldReturns.held_line, Living.held_of, Living.holds, Living.live_of, Living.dies}
use Rattle.wire_story.proofs.{Told.consume_prefix, Spans.Are-at}

-- ---- Chunks.

pub leads_on : (h : ℕ) (piece : List ℕ) (k : ℕ) → held_after h piece ≡ Some k → ChunkAdvancesText (Some h) piece (Some k)
leads_on h piece k e octets w =
    let same : w.0 ≡ h = sym (same_Some h w.0 w.1) in (
      k,
      refl,
      holds (octets ++ piece) k (held_append 0 octets piece ∙ ap (option_and_then (λ n. held_after n piece)) (held_of octets w.0 w.2 ∙ ap Some same) ∙ e),
    )

pub held_in_line : (run : List ℕ) → IsLine run → held_after 0 run ≡ Some 0
held_in_line run l = ap (held_after 0) (sym (append-nil run)) ∙ held_line run [] l

pub leads_on_none : (reader : Option ℕ) → ChunkAdvancesText reader [] reader
leads_on_none reader octets w = subst (TextReaderHasRead reader) (sym (append-nil octets)) w

-- Octets, then a prefix of a chunk, and then a prefix of what remains, joined.
fronts_joined : (octets piece : List ℕ) (i k : ℕ) → (octets ++ take i piece) ++ take k (slice_range piece i (length piece)) ≡ octets ++ take (i + k) piece
fronts_joined octets piece i k = append_assoc octets (take i piece) (take k (slice_range piece i (length piece)))
    ∙ ap (λ t. octets ++ t) (sym (consume_prefix piece i k))

pub leads_on_front : (old mid new : Option ℕ) (piece : List ℕ) (i k : ℕ) → ChunkAdvancesText old (take i piece) mid
    → ChunkAdvancesText mid (take k (slice_range piece i (length piece))) new → ChunkAdvancesText old (take (i + k) piece) new
leads_on_front old mid new piece i k f g octets w = subst (TextReaderHasRead new) (fronts_joined octets piece i k) (g (octets ++ take i piece) (f octets w))

-- An octet that is rejected in what remains is rejected in the whole chunk.
pub refuses_front : (old mid : Option ℕ) (piece : List ℕ) (i k : ℕ) (cause : TextCause) → ChunkAdvancesText old (take i piece) mid
    → RejectsTextOctet mid (slice_range piece i (length piece)) (record { taken = k; cause = cause }) → RejectsTextOctet old piece
    (record { taken = i + k; cause = cause })
refuses_front old mid piece i k cause f g octets w =
    let octet : slice_index (slice_range piece i (length piece)) k ≡ slice_index piece (i + k) = ap (λ r. slice_index r k) (take_rest piece i)
    ∙ get_or-drop i piece k 0 in
    rw (← fronts_joined octets piece i k, ← octet) (g (octets ++ take i piece) (f octets w))

-- ---- A rejected octet.

held_by : (held : ℕ) (octets : List ℕ) → TextReaderHasRead (Some held) octets → EndsInReturns (octets ++ []) held
held_by held octets w = subst (λ (t : List ℕ). EndsInReturns t held) (sym (append-nil octets)) (subst (EndsInReturns octets) (sym (same_Some held w.0 w.1)) w.2)

-- After CR, an octet other than LF is rejected.
pub refuses_lone : (held : ℕ) (rest : List ℕ) → 0 < held → slice_index rest 0 ≢ 10 → (slice_index rest 0 ≡ 13 → held ≡ 2) → RejectsTextOctet (Some held) rest
    (record {
      taken = 0;
      cause = LoneReturn;
    })
refuses_lone held rest some feed returns octets w =
    let h = held_by held octets w in
    (dies (octets ++ []) held (slice_index rest 0) h (grind (arith, nat_tests)), (held, h, (some, feed, returns)))

-- A control octet is rejected.
pub refuses_control : (rest : List ℕ) → slice_index rest 0 < 256 → slice_index rest 0 ≢ 10 → slice_index rest 0 ≢ 13
    → is_line_octet (slice_index rest 0) ≡ false
    → RejectsTextOctet (Some 0) rest (record { taken = 0; cause = ControlOctet })
refuses_control rest fits feed return other octets w =
    let h = held_by 0 octets w in
    (dies (octets ++ []) 0 (slice_index rest 0) h (grind (arith, nat_tests)), h, (grind (arith, nat_tests), grind (arith, nat_tests)))

-- An octet that may follow is rejected because the sink rejects its event.
pub refuses_told : (held : ℕ) (piece : List ℕ) (t k : ℕ) → t < length piece → held_after held (take (t + 1) piece) ≡ Some k → slice_index piece t ≢ 13
    → RejectsTextOctet (Some held) piece (record { taken = t; cause = Sink })
refuses_told held piece t k within next other octets w =
    let more = leads_on held (take (t + 1) piece) k next octets w in
    let parts : octets ++ take (t + 1) piece ≡ (octets ++ take t piece) ++ slice_index piece t ∷ [] =
    ap (λ r. octets ++ r) (take_more piece t 0 within) ∙ sym (append_assoc octets (take t piece) (slice_index piece t ∷ [])) in
    (subst IsViableStory parts (live_of (octets ++ take (t + 1) piece) more.0 more.2), other)

-- An octet of a line is rejected because the sink rejects it.
pub refuses_in_line : (piece : List ℕ) (t : ℕ) → t < length piece → IsLine (take (t + 1) piece) → RejectsTextOctet (Some 0) piece
    (record { taken = t; cause = Sink })
refuses_in_line piece t within line =
    let stands : is_line_octet (slice_index piece t) ≡ true =
    ap is_line_octet (sym (get_or-take (t + 1) piece t 0 (omega arith)))
    ∙ Are-at is_line_octet (take (t + 1) piece) t line (omega (arith, length-take-le (t + 1) piece (omega arith))) in
    refuses_told 0 piece t 0 within (held_in_line (take (t + 1) piece) line) (λ return. true≢false (sym stands ∙ ap is_line_octet return))

-- ---- A reader.

-- The pending CR of a reader are those of its octets.
pub stood : (reader : Option ℕ) (held : ℕ) (octets : List ℕ) → reader ≡ Some held → TextReaderHasRead reader octets → EndsInReturns octets held
stood reader held octets e w = subst (EndsInReturns octets) (sym (same_Some held w.0 (sym e ∙ w.1))) w.2
