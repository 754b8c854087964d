-- Lemmas about buffered writers, for the implementations of the traits.
use Rattle.std.proofs.Common.{◌≡◌, ℕ, List, [], ◌++◌, map, refl, sym, ◌∙◌, append-nil, append_assoc, length-append, arith}
use Rattle.std.proofs.lemmas.List.{map-append}
use Rattle.iim_dataset.specs.{States.Devices.Device, Steps.appends_nothing, Steps.appends_joined}
use Rattle.wire_story.specs.{Format.Texts.StoryEvent, Format.Texts.octet_for, Format.Texts.LineOctet}
use Rattle.wire_story.specs.{States.Reading.WritesToTarget, Steps.writes_nothing, Steps.writes_joined, Steps.octets_of_line}
use Rattle.iim_output.specs.States.Holding.{HasBuffered, BuffersText, BuffersEvents, device_of, buffered_octets, stops_of, BlockWriter}

writes_on : (a b c : Device) (i j k : ℕ) (xs ys : List ℕ) → WritesToTarget a b i j xs → WritesToTarget b c j k ys → WritesToTarget a c i k (xs ++ ys)
writes_on a b c i j k xs ys h l =
    rw (map-append octet_for (map LineOctet xs) (map LineOctet ys), octets_of_line xs, octets_of_line ys)
    at (writes_joined a b c i j k (map LineOctet xs) (map LineOctet ys) (rw (octets_of_line xs) h) (rw (octets_of_line ys) l))

-- for two texts, one after the other
pub parts_on : (pending mid rest first second out more : List ℕ) → pending ++ first ≡ out ++ mid → mid ++ second ≡ more ++ rest → pending ++ (first ++ second) ≡ (out ++ more) ++ rest
parts_on pending mid rest first second out more one two =
    rw (← append_assoc pending first second, one, append_assoc out mid second, two) (sym (append_assoc out more rest))

pub buffers_no_events : {W : Type 0} (state : W → Device) (b : BlockWriter W) → BuffersEvents state b [] b
buffers_no_events state b = record { out = []; same = refl; parts = append-nil (buffered_octets b); writes = writes_nothing (device_of state b) (stops_of b) }

pub buffers_joined : {W : Type 0} (state : W → Device) (a b c : BlockWriter W) (xs ys : List ℕ) → BuffersText state a b xs → BuffersText state b c ys → BuffersText state a c (xs ++ ys)
buffers_joined state a b c xs ys first then = record {
  out = first.out ++ then.out;
  same = then.same ∙ first.same;
  parts = parts_on (buffered_octets a) (buffered_octets b) (buffered_octets c) xs ys first.out then.out first.parts then.parts;
  writes = writes_on (device_of state a) (device_of state b) (device_of state c) (stops_of a) (stops_of b) (stops_of c) first.out then.out first.writes then.writes;
}

pub buffered_events_joined : {W : Type 0} (state : W → Device) (a b c : BlockWriter W) (xs ys : List StoryEvent) → BuffersEvents state a xs b → BuffersEvents state b ys c → BuffersEvents state a (xs ++ ys) c
buffered_events_joined state a b c xs ys first then =
    rw (map-append octet_for xs ys) (buffers_joined state a b c (map octet_for xs) (map octet_for ys) first then)

-- ---- the case that no write failed

pub buffered_nothing : {W : Type 0} (state : W → Device) (b : BlockWriter W) → HasBuffered state b b []
buffered_nothing state b = record { out = []; same = refl; parts = append-nil (buffered_octets b); wrote = (appends_nothing (device_of state b).octets, (refl, omega arith)); retry_limit = omega arith }

pub buffered_joined : {W : Type 0} (state : W → Device) (a b c : BlockWriter W) (xs ys : List ℕ) → HasBuffered state a b xs → HasBuffered state b c ys → HasBuffered state a c (xs ++ ys)
buffered_joined state a b c xs ys first then = record {
  out = first.out ++ then.out;
  same = then.same ∙ first.same;
  parts = parts_on (buffered_octets a) (buffered_octets b) (buffered_octets c) xs ys first.out then.out first.parts then.parts;
  wrote = (
    appends_joined (device_of state a).octets (device_of state b).octets (device_of state c).octets first.out then.out first.wrote.0 then.wrote.0,
    (then.wrote.1.0 ∙ first.wrote.1.0, omega (arith, first.wrote.1.1, then.wrote.1.1)),
  );
  retry_limit = omega (arith, first.retry_limit, then.retry_limit, length-append first.out then.out);
}
