-- The states of a packer: how it starts, what it has consumed and written, and packing a complete
-- envelope in one call.
use Rattle.std.specs.Prelude.{◌≡◌, ℕ, ◌+◌, ◌&&◌, not, nat_le, Bool, false, if◌then◌else◌, IsTrue, List, ◌++◌, length, Option, Some, None, ◌⊎◌, []}
use Rattle.std.specs.{List.list_all, Io.KnownBytes.Appends}
use Rattle.iim_dataset.specs.States.Devices.{Device, WroteAllOf, FailedOrInterrupted, WithinInterruptionLimit}
use Rattle.iim_dataset.specs.Format.Datasets.{Dataset, canonical_stream}
use Rattle.iim_fields.specs.Format.Records.{IsEnvelope}
use Rattle.iim_object.specs.{Format.Objects.is_short, declared.plan.Plan.Plan}
use Rattle.iim_object.specs.{declared.writing.cause.PackCause.PackCause, declared.writing.cause.StartFault.StartFault}
use Rattle.iim_object.specs.States.Writing.{Writing, total_of, exceeds_plan, IsPrefix}
use Rattle.iim_object.specs.States.Writing as object
use Rattle.wire_story.specs.Format.Texts.{is_line_octet, StoryEvent, events_of_lines}
use Rattle.wire_story.specs.Format.Packing.{packed_events, AreStoryEvents, lines_of}
use Rattle.wire_message.specs.Format.Messages.{is_trailer_octet, max_trailer, Header, IsHeader, packed_head, packed_tail, canonical}
use Rattle.iim_pack.specs.Format.Packed.{Packed}
use Rattle.iim_object.specs.declared.writing.cause.PackCause.TheVariants as causes

-- The model of a packer: the length of records 1 and 2, and the writer of its object.
pub record Packing (W : Type 0) : Type 0 where
  pub before : ℕ
  pub object : Writing W

-- the length of the shortest ending in octets: ETX and EOT
abbrev pub least_ending : ℕ
least_ending = 2

-- the number of octets written
abbrev pub written_of : {W : Type 0} → Packing W → ℕ
written_of k = k.before + k.object.written

-- The packer has consumed these fields, this header and the text of these events, and has written
-- `out`: the fields, record 7 and full subfiles. The data of these and the buffered octets form the
-- canonical object from SOH to the end of the text so far.
pub record HasPacked {W : Type 0} (k : Packing W) (fields : List Dataset) (head : Header) (events : List StoryEvent) (plan : Plan) (out : List ℕ) : Type 0 where
  pub envelope : IsEnvelope fields
  pub header : IsHeader head
  pub events_are : AreStoryEvents events
  pub is_plan : k.object.plan ≡ plan
  pub before : k.before ≡ length (canonical_stream fields)
  pub object_out : List ℕ
  pub stands : object.HasWritten k.object (packed_head head ++ packed_events events) object_out
  pub out_is : out ≡ canonical_stream fields ++ object_out

-- The packer has consumed the text of these events, after any it had consumed before, and has
-- written more octets. At most a million interruptions occurred for each octet.
pub record Lengthens {W : Type 0} (state : W → Device) (old new : Packing W) (events : List StoryEvent) : Type 0 where
  pub more : List ℕ
  pub wrote : WroteAllOf (state old.object.writer) (state new.object.writer) more
  pub retry_limit : WithinInterruptionLimit (length more) (state old.object.writer) (state new.object.writer)
  pub counted : written_of new ≡ written_of old + length more
  pub total : total_of new.object ≡ total_of old.object + length (packed_events events)
  pub unfailed : new.object.failed ≡ false
  pub plan : new.object.plan ≡ old.object.plan
  pub stands : (fields : List Dataset) (head : Header) (before : List StoryEvent) (plan : Plan) (out : List ℕ)
      → HasPacked old fields head before plan out → HasPacked new fields head (before ++ events) plan (out ++ more)

-- a packed form of the envelope, header and plan whose text begins with these events
pub record FormWith (fields : List Dataset) (head : Header) (plan : Plan) (events : List StoryEvent) (whole : List ℕ) : Type 0 where
  pub lines : List (List ℕ)
  pub trailer : List ℕ
  pub packed : Packed fields head lines trailer plan whole
  pub rest : List StoryEvent
  pub begins : events_of_lines lines ≡ events ++ rest

-- A write failed: the octets written before the failure were counted, and later calls are rejected.
-- At most a million interruptions occurred for each octet, plus a million. Whatever the packer had
-- consumed, what it has written is a prefix of every form that satisfies `Form`.
pub record BreaksOff {W : Type 0} (state : W → Device) (Form : List Dataset → Header → List StoryEvent → Plan → List ℕ → Type 0) (old new : Packing W) : Type 0 where
  pub more : List ℕ
  pub appends : Appends (state old.object.writer).octets (state new.object.writer).octets more
  pub broke : FailedOrInterrupted (state old.object.writer) (state new.object.writer)
  pub retry_limit : WithinInterruptionLimit (length more + 1) (state old.object.writer) (state new.object.writer)
  pub failed : IsTrue new.object.failed
  pub counted : written_of new ≡ written_of old + length more
  pub begins : (fields : List Dataset) (head : Header) (before : List StoryEvent) (plan : Plan) (out whole : List ℕ)
      → HasPacked old fields head before plan out → Form fields head before plan whole → object.IsPrefix (out ++ more) whole

-- the forms whose text continues with these events
abbrev pub ContinuesWith : List StoryEvent → List Dataset → Header → List StoryEvent → Plan → List ℕ → Type 0
ContinuesWith events fields head before plan whole = FormWith fields head plan (before ++ events) whole

-- The complete form was written. At most a million interruptions occurred for each octet that this
-- call wrote.
pub record Finishes {W : Type 0} (state : W → Device) (old : Packing W) (trailer : List ℕ) (writer : W) : Type 0 where
  pub more : List ℕ
  pub wrote : WroteAllOf (state old.object.writer) (state writer) more
  pub retry_limit : WithinInterruptionLimit (length more) (state old.object.writer) (state writer)
  pub whole : (fields : List Dataset) (head : Header) (before : List StoryEvent) (plan : Plan) (out : List ℕ)
      → HasPacked old fields head before plan out → Packed fields head (lines_of before) trailer plan (out ++ more)

-- ---- causes

abbrev pub start_cause : Header → Plan → Option PackCause
start_cause head plan = if exceeds_plan plan (length (packed_head head) + least_ending) then Some causes.PastAnnounced else None

abbrev pub text_cause : {W : Type 0} → Packing W → List ℕ → Option PackCause
text_cause k octets =
    if k.object.failed then Some causes.Failed
    else if not (list_all is_line_octet octets) then Some causes.BadTextOctet
    else if exceeds_plan k.object.plan (total_of k.object + (length octets + least_ending)) then Some causes.PastAnnounced
    else None

abbrev pub line_end_cause : {W : Type 0} → Packing W → Option PackCause
line_end_cause k =
    if k.object.failed then Some causes.Failed
    else if exceeds_plan k.object.plan (total_of k.object + (2 + least_ending)) then Some causes.PastAnnounced
    else None

abbrev pub is_trailer : List ℕ → Bool
is_trailer trailer = list_all is_trailer_octet trailer && nat_le (length trailer) max_trailer

-- the first cause that rejects an object of `size` octets with this trailer: an invalid trailer, an
-- object that exceeds the bound, or one that is shorter than a known size
abbrev pub ending_cause : Plan → ℕ → List ℕ → Option PackCause
ending_cause plan size trailer =
    if not (is_trailer trailer) then Some causes.BadTrailer
    else if exceeds_plan plan size then Some causes.PastAnnounced
    else if is_short plan.size size then Some causes.ShortOfAnnounced
    else None

abbrev pub finish_cause : {W : Type 0} → Packing W → List ℕ → Option PackCause
finish_cause k trailer =
    if k.object.failed then Some causes.Failed
    else ending_cause k.object.plan (total_of k.object + length (packed_tail trailer)) trailer

abbrev pub pack_cause : Header → List (List ℕ) → List ℕ → Plan → Option PackCause
pack_cause head lines trailer plan = ending_cause plan (length (canonical head lines trailer)) trailer

-- The packer has consumed these fields, this header and the text of these events, and has not
-- failed. Since its writer was in the state `first`, exactly `out` was written: the fields, record
-- 7 of the plan and full subfiles. The data of these and the buffered octets form the canonical
-- object from SOH to the end of the text so far.
pub record HasPackedSoFar {W : Type 0} (state : W → Device) (first : Device) (k : Packing W) (fields : List Dataset) (head : Header) (events : List StoryEvent) (plan : Plan) : Type 0 where
  pub out : List ℕ
  pub wrote : WroteAllOf first (state k.object.writer) out
  pub counted : written_of k ≡ length out
  pub stands : HasPacked k fields head events plan out

-- Whatever the packer had consumed before, it has consumed these events too.
abbrev pub KeepsPacking : {W : Type 0} → (W → Device) → Packing W → Packing W → List StoryEvent → Type 0
KeepsPacking state old new events = (first : Device) (fields : List Dataset) (head : Header) (before : List StoryEvent) (plan : Plan)
    → HasPackedSoFar state first old fields head before plan → HasPackedSoFar state first new fields head (before ++ events) plan

-- Whatever the packer had consumed before, exactly the packed form of its lines with this trailer
-- was written.
abbrev pub WritesPackedForm : {W : Type 0} → (W → Device) → Packing W → List ℕ → W → Type 0
WritesPackedForm state old trailer writer = (first : Device) (fields : List Dataset) (head : Header) (events : List StoryEvent) (plan : Plan)
    → HasPackedSoFar state first old fields head events plan
    → (form : List ℕ) × Packed fields head (lines_of events) trailer plan form × WroteAllOf first (state writer) form

-- Nothing was written, and the writer is returned unchanged.
pub record RejectsStart {W : Type 0} (cause : PackCause) (writer : W) (fault : StartFault W) : Type 0 where
  pub cause_is : fault.cause ≡ cause
  pub writer_is : fault.writer ≡ writer
  pub nothing : fault.written ≡ 0

-- A write failed: the octets written before the failure are counted, and are a prefix of every such
-- form. At most a million interruptions occurred for each octet, plus a million.
pub record StartBreaksOff {W : Type 0} (state : W → Device) (Form : List ℕ → Type 0) (writer : W) (fault : StartFault W) : Type 0 where
  pub cause_is : fault.cause ≡ causes.Write
  pub out : List ℕ
  pub appends : Appends (state writer).octets (state fault.writer).octets out
  pub broke : FailedOrInterrupted (state writer) (state fault.writer)
  pub retry_limit : WithinInterruptionLimit (length out + 1) (state writer) (state fault.writer)
  pub counted : fault.written ≡ length out
  pub begins : (whole : List ℕ) → Form whole → IsPrefix out whole

-- The packer has an empty text so far, and everything that was written was written in this call. At
-- most a million interruptions occurred for each octet.
pub record StartsPacking {W : Type 0} (state : W → Device) (writer : W) (fields : List Dataset) (head : Header) (plan : Plan) (k : Packing W) : Type 0 where
  pub begun : HasPackedSoFar state (state writer) k fields head [] plan
  pub retry_limit : WithinInterruptionLimit (length begun.out) (state writer) (state k.object.writer)
  pub total : total_of k.object ≡ length (packed_head head)

-- The allocation failed, and nothing was written; or a write failed, and what was written is a
-- prefix of every such form.
abbrev pub IsStartFault : {W : Type 0} → (W → Device) → (List ℕ → Type 0) → W → StartFault W → Type 0
IsStartFault state Form writer fault = RejectsStart causes.OutOfMemory writer fault ⊎ StartBreaksOff state Form writer fault

-- The packed form was written. At most a million interruptions occurred for each octet.
pub record Packs {W : Type 0} (state : W → Device) (writer : W) (fields : List Dataset) (head : Header) (lines : List (List ℕ)) (trailer : List ℕ) (plan : Plan) (last : W) : Type 0 where
  pub out : List ℕ
  pub wrote : WroteAllOf (state writer) (state last) out
  pub retry_limit : WithinInterruptionLimit (length out) (state writer) (state last)
  pub packed : Packed fields head lines trailer plan out
