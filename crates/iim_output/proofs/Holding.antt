-- Buffered writers.
use Rattle.std.proofs.Common.{◌≡◌, ℕ, ◌+◌, ◌≤◌, List, [], ◌∷◌, ◌++◌, length, drop, refl, sym, ap, ◌∙◌, arith, ◌^◌, ◌<◌, inl, inr, take, map, append-nil, append_assoc, length-append, length-take, Result, Ok, Err, IfErr, OnErr}
use Rattle.std.proofs.Math.Seq.{take-append_seam}
use Rattle.std.proofs.lemmas.List.{drop-append-le, drop-drop, length-drop, take-append-drop}
use Rattle.std.specs.Borrow.{MutBor}
use Rattle.iim_dataset.specs.States.Devices.{Device, FailedOrInterrupted, WroteOnlyPrefixOf, WithinInterruptionLimit, WroteAllOf}
use Rattle.iim_dataset.specs.{Format.Octets.CounterRose, Laws.WritesJoin}
use Rattle.wire_story.specs.{Format.Texts.LineOctet, States.Reading.TargetFailed, Steps.octets_of_line}
use Rattle.iim_output.specs.States.Holding.{HasBuffered, HasBufferedInPart, HasEmptyBuffer, KeepsWriter, BuffersText, BuffersEvents, FlushFails, device_of, buffered_octets, stops_of, IsWrittenInPart}
use Rattle.iim_output.specs.HoldingLaws.{parts_on}
use Rattle.iim_dataset.specs.declared.stop.Stop.{Stop}
use Rattle.iim_output.specs.declared.block_writer.BlockWriter.{BlockWriter}

-- ---- Octets that are buffered.

pub takes : (out : ℕ) (items new more octets : List ℕ) → drop out items ≡ octets → new ≡ items ++ more → out ≤ length items → drop out new ≡ octets ++ more
takes out items new more octets is added within = rw (added, drop-append-le out items more within, is) refl

pub passes : (out k : ℕ) (items octets : List ℕ) → drop out items ≡ octets → drop (out + k) items ≡ drop k octets
passes out k items octets is = rw (← drop-drop k out items, is) refl

pub few_out : (out k room : ℕ) (items octets : List ℕ) → drop out items ≡ octets → k ≤ length octets → out ≤ length items → length items ≤ room → room ≡ 4096
    → out + k ≤ 4096
few_out out k room items octets is le within few whole = omega (arith, le, ap length is, length-drop out items, within, few, whole)

-- ---- counts

rose_le : (i j : ℕ) → CounterRose i j → i ≤ j
rose_le i j (inl e) = omega (arith, e)
rose_le i j (inr r) = r.1

rose_not : (i j : ℕ) → CounterRose i j → j ≡ i → j + 1 < 2 ^ 64 → ⊥
rose_not i j (inl e) same few = absurd (omega (arith, e, same))
rose_not i j (inr r) same few = absurd (omega (arith, r.0, few))

-- the counts that rose if a reader or writer failed
broke : (a b : Device) → FailedOrInterrupted a b → (a.failures ≤ b.failures) × (a.interruptions ≤ b.interruptions) × TargetFailed a b
broke a b (inl (inl e, still)) = (omega (arith, e), still, inl (inl (omega (arith, e))))
broke a b (inl (inr r, still)) = (r.1, still, inl (inr r.0))
broke a b (inr i) = (omega (arith, i.0), i.1, inr i.2)

-- ---- what was passed to a writer

pub buffers_of_buffered : {W : Type 0} (state : W → Device) (a b : BlockWriter W) (text : List ℕ) → HasBuffered state a b text → stops_of b ≡ stops_of a
    → BuffersText state a b text
buffers_of_buffered state a b text h same = record {
  out = h.out;
  same = h.same;
  parts = h.parts;
  writes = record {
    octets = h.wrote.0;
    failures = omega (arith, h.wrote.1.0);
    interruptions = h.wrote.1.1;
    stops = omega (arith, same);
    broken = λ more. absurd (omega (arith, same, more));
    unbroken = λ still few. h.wrote.1.0;
  };
}

pub buffers_of_failed : {W : Type 0} (state : W → Device) (a b : BlockWriter W) (text : List ℕ) → HasBufferedInPart state a b text → CounterRose (stops_of a)
    (stops_of b)
    → BuffersText state a b text
buffers_of_failed state a b text h rose =
    let (failures, interruptions, broken) = broke (device_of state a) (device_of state b) h.broke.1 in
    record {
      out = h.out;
      same = h.same;
      parts = h.parts;
      writes = record {
        octets = h.broke.0;
        failures = failures;
        interruptions = interruptions;
        stops = rose_le (stops_of a) (stops_of b) rose;
        broken = λ more. broken;
        unbroken = λ still few. absurd (rose_not (stops_of a) (stops_of b) rose still few);
      };
    }

-- the octets of a line are passed as events
pub events_of_line : {W : Type 0} (state : W → Device) (a b : BlockWriter W) (xs : List ℕ) → BuffersText state a b xs → BuffersEvents state a
    (map LineOctet xs) b
events_of_line state a b xs p = rw (octets_of_line xs) p

-- ---- what is buffered and flushed

pub holds : {W : Type 0} (state : W → Device) → WritesJoin → (a b : BlockWriter W) (text : List ℕ) → KeepsWriter a b → buffered_octets b
    ≡ buffered_octets a ++ text
    → device_of state b ≡ device_of state a → HasBuffered state a b text
holds state texts a b text keeps is same = record {
  out = [];
  same = keeps;
  parts = sym is;
  wrote = rw same (texts.none (device_of state a));
  retry_limit = omega (arith, ap (λ (d : Device). d.interruptions) same);
}

pub flush_empties_buffer : {W : Type 0} (state : W → Device) (a b : BlockWriter W) (octets : List ℕ) → KeepsWriter a b → octets ≡ buffered_octets a
    → buffered_octets b ≡ []
    → WroteAllOf (device_of state a) (device_of state b) octets
    → WithinInterruptionLimit (length octets) (device_of state a) (device_of state b) → HasBuffered state a b []
flush_empties_buffer state a b octets same is none wrote limit = record {
  out = octets;
  same = same;
  parts = rw (none, is) refl;
  wrote = wrote;
  retry_limit = limit;
}

pub flush_fails : {W : Type 0} (state : W → Device) (a b : BlockWriter W) (octets : List ℕ) (n : ℕ) → KeepsWriter a b → octets ≡ buffered_octets a
    → buffered_octets b ≡ drop n (buffered_octets a) → WroteOnlyPrefixOf (device_of state a) (device_of state b) octets n
    → WithinInterruptionLimit (n + 1) (device_of state a) (device_of state b) → CounterRose (stops_of a) (stops_of b) → FlushFails state a b
flush_fails state a b octets n same is rest stopped limit rose = (
  record {
    out = take n octets;
    same = same;
    parts = rw (rest, ← is, take-append-drop n octets) (append-nil octets);
    broke = (stopped.1, stopped.2);
    retry_limit = omega (arith, limit, stopped.0, length-take n octets);
  },
  rw (rest, ← is) (omega (arith, stopped.0, length-drop n octets)),
  rose,
)

-- a text that is longer than a block, with an empty buffer
pub passes_through : {W : Type 0} (state : W → Device) (a b : BlockWriter W) (text : List ℕ) → KeepsWriter a b → HasEmptyBuffer a → buffered_octets b
    ≡ buffered_octets a
    → WroteAllOf (device_of state a) (device_of state b) text
    → WithinInterruptionLimit (length text) (device_of state a) (device_of state b) → HasBuffered state a b text
passes_through state a b text keeps none same wrote limit = record {
  out = text;
  same = keeps;
  parts = rw (same, none) (sym (append-nil text));
  wrote = wrote;
  retry_limit = limit;
}

pub breaks_through : {W : Type 0} (state : W → Device) (a b : BlockWriter W) (text : List ℕ) (n : ℕ) → KeepsWriter a b → HasEmptyBuffer a
    → buffered_octets b ≡ buffered_octets a → WroteOnlyPrefixOf (device_of state a) (device_of state b) text n
    → WithinInterruptionLimit (n + 1) (device_of state a) (device_of state b) → HasBufferedInPart state a b (take n text)
breaks_through state a b text n keeps none same stopped limit = record {
  out = take n text;
  same = keeps;
  parts = rw (same, none) (sym (append-nil (take n text)));
  broke = (stopped.1, stopped.2);
  retry_limit = omega (arith, limit, stopped.0, length-take n text);
}

pub buffered_in_part_later : {W : Type 0} (state : W → Device) → WritesJoin → (a b c : BlockWriter W) (xs ys : List ℕ) → HasBuffered state a b xs
    → HasBufferedInPart state b c ys
    → HasBufferedInPart state a c (xs ++ ys)
buffered_in_part_later state texts a b c xs ys first then = record {
  out = first.out ++ then.out;
  same = then.same ∙ first.same;
  parts = parts_on (buffered_octets a) (buffered_octets b) (buffered_octets c) xs ys first.out then.out first.parts then.parts;
  broke = texts.broke (device_of state a) (device_of state b) (device_of state c) first.out then.out first.wrote then.broke;
  retry_limit = omega (arith, first.retry_limit, then.retry_limit, length-append first.out then.out);
}

-- ---- texts that are written, or in part

-- the buffer was empty before: the parts are those of the text
front_of : {W : Type 0} (a : BlockWriter W) (text out rest : List ℕ) → HasEmptyBuffer a → buffered_octets a ++ text ≡ out ++ rest → text ≡ out ++ rest
front_of a text out rest before parts = rw before at parts

-- the buffer is empty before and after
pub all_out : {W : Type 0} (state : W → Device) (a b : BlockWriter W) (text : List ℕ) → HasEmptyBuffer a → HasEmptyBuffer b → HasBuffered state a b text
    → WroteAllOf (device_of state a) (device_of state b) text
all_out state a b text before after put =
    let is : text ≡ put.out = front_of a text put.out (buffered_octets b) before put.parts ∙ ap (λ (t : List ℕ). put.out ++ t) after ∙ append-nil put.out in
    rw is put.wrote

pub stopped_in : {W : Type 0} (state : W → Device) (a b : BlockWriter W) (text : List ℕ) → HasEmptyBuffer a → (cut : IsWrittenInPart state a b text)
    → WroteOnlyPrefixOf (device_of state a) (device_of state b) text (length cut.out)
stopped_in state a b text before cut =
    let is = front_of a text cut.out cut.rest before cut.parts in
    (omega (arith, cut.some, ap length is, length-append cut.out cut.rest), rw (is, take-append_seam cut.out cut.rest) cut.broke.0, cut.broke.1)

-- a text was consumed, and the flush failed
pub partly_written_by_flush : {W : Type 0} (state : W → Device) → WritesJoin → (a b c : BlockWriter W) (text : List ℕ) → HasBuffered state a b text
    → FlushFails state b c
    → IsWrittenInPart state a c text
partly_written_by_flush state texts a b c text put write_failed =
    let both = buffered_in_part_later state texts a b c text [] put write_failed.0 in
    record {
      out = both.out;
      rest = buffered_octets c;
      same = both.same;
      parts = rw (append-nil text) at both.parts;
      some = write_failed.1;
      broke = both.broke;
      retry_limit = both.retry_limit;
    }

-- a text was consumed in part
pub partly_written_by_write : {W : Type 0} (state : W → Device) (a b : BlockWriter W) (text : List ℕ) (n : ℕ) → n < length text → HasBufferedInPart state a b
    (take n text)
    → IsWrittenInPart state a b text
partly_written_by_write state a b text n within write_failed = record {
  out = write_failed.out;
  rest = buffered_octets b ++ drop n text;
  same = write_failed.same;
  parts =
      rw (
        ← append_assoc write_failed.out (buffered_octets b) (drop n text),
        ← write_failed.parts,
        append_assoc (buffered_octets a) (take n text)
            (drop n text),
        take-append-drop n text,
      )
      refl;
  some = omega (arith, within, length-append (buffered_octets b) (drop n text), length-drop n text);
  broke = write_failed.broke;
  retry_limit = write_failed.retry_limit;
}

-- a text was consumed, and then another in part
pub partly_written_later : {W : Type 0} (state : W → Device) → WritesJoin → (a b c : BlockWriter W) (xs ys : List ℕ) → HasBuffered state a b xs
    → IsWrittenInPart state b c ys
    → IsWrittenInPart state a c (xs ++ ys)
partly_written_later state texts a b c xs ys put cut = record {
  out = put.out ++ cut.out;
  rest = cut.rest;
  same = cut.same ∙ put.same;
  parts = parts_on (buffered_octets a) (buffered_octets b) cut.rest xs ys put.out cut.out put.parts cut.parts;
  some = cut.some;
  broke = texts.broke (device_of state a) (device_of state b) (device_of state c) put.out cut.out put.wrote cut.broke;
  retry_limit = omega (arith, put.retry_limit, cut.retry_limit, length-append put.out cut.out);
}

-- ---- results

-- if at most one octet was to be consumed
pub none_of_one : {T : Type 0} (r : Result T Stop) (x : ℕ) (P : List ℕ → Type 0) → IfErr r (λ stop. stop.taken < 1)
    → IfErr r (λ stop. P (take stop.taken (x ∷ []))) → OnErr r (P [])
none_of_one (Ok y) x P few front = tt
none_of_one (Err stop) x P few front = let none : stop.taken ≡ 0 = omega (arith, few) in rw none at front

pub taken_none : {T : Type 0} (r : Result T Stop) → IfErr r (λ stop. stop.taken < 1) → IfErr r (λ stop. stop.taken ≡ 0)
taken_none (Ok y) few = tt
taken_none (Err stop) few = omega (arith, few)

-- what holds of the target of a writer holds of the borrowed target, before and after
pub between : {W : Type 0} {after : Device} (state : W → Device) (P : Device → Device → Type 0) (a c : BlockWriter W) (first last : MutBor W)
    → a.writer ≡ first → last ≡ c.writer → after ≡ state last.now → P (device_of state a) (device_of state c)
    → P (state first.now) after
between state P a c first last begun ended back p = rw (back, ended, ← begun) p
