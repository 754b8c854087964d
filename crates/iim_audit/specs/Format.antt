-- What an audit returns: the rows of envelopes, their ages and copy states, and the text of a
-- report.
use Rattle.std.specs.Prelude.{ℤ, pos, ◌-ℤ◌, ◌*ℤ◌, ◌≤ℤ◌, Option, List, int_le, not, false, if◌then◌else◌, ℕ, ◌+◌, [], ◌∷◌, ◌++◌, map, slice_get, Some, None, ◌≡◌, ◌<◌, ◌⊎◌, length, ◌≤◌, take, slice_index, Bool, true, count_by, codes, decimal, is_some}
use Rattle.std.specs.{Int.int_div_euclid, Str.Parse.digits_value, Io.KnownBytes.IsAtEnd, Fmt.signed_decimal}
use Rattle.std.specs.Option.{option_map, option_map_or, option_and_then, unwrap_or}
use Rattle.iim_dataset.specs.Format.Datasets.{Dataset, shown, number_or_dash}
use Rattle.iim_tables.specs.Format.Dates.{nanoseconds_in_second}
use Rattle.iim_fields.specs.Format.Records.{instant_sent, instant_of_release, instant_of_expiration, Identity, id_eq, first_data}
use Rattle.wire_story.specs.Format.Texts.{words, capped, StoryEvent, WordsSoFar, CountsWords}
use Rattle.iim_places.specs.Format.{Admitted.Value, Open.IsIncomplete, Open.Delivers, Causes.refusal_at, Causes.cause_number, Causes.cause_name}
use Rattle.iim_places.specs.Format.Streams.{Listed, SplitsInto, IsListing, Whole, RefusedBy, TooMany, values_of, sum_capped, IsEnvelopeWithin, RefusesOctet}
use Rattle.iim_places.specs.declared.fault.TokenFault.{TokenFault}
use Rattle.iim_dataset.specs.States.Devices.{Device, ReadsGave, ReadFailedAfter}
use Rattle.iim_unpack.specs.States.Unpacking.{failed_at, HasRead}
use Rattle.iim_dataset.specs.Format.Octets.{minus}
use Rattle.iim_audit.specs.declared.{copy.CopyState.CopyState, pieces.PieceAudit.PieceAudit, pieces.PieceRow.PieceRow}
use Rattle.iim_audit.specs.declared.copy.CopyState.TheVariants.{Held, Expired, Free}
pub use Rattle.iim_audit.specs.declared.{row.AuditRow.AuditRow, fault.AuditCause.AuditCause}
pub use Rattle.iim_dataset.specs.declared.device.IoFault.{IoFault}
use Rattle.iim_dataset.specs.declared.device.IoFault.TheVariants as io
pub use Rattle.iim_fields.specs.declared.limits.Limits.{Limits}
pub use Rattle.iim_places.specs.declared.refusal.Refusal.{Refusal}
use Rattle.iim_audit.specs.declared.fault.AuditCause.TheVariants as causes

-- the number of whole seconds in `nanoseconds` nanoseconds, rounded down
abbrev pub whole_seconds : ℤ → ℤ
whole_seconds nanoseconds = int_div_euclid nanoseconds (pos nanoseconds_in_second)

-- the number of whole seconds from the instant sent to `now`, if these datasets state the instant
-- sent
abbrev pub age_at : ℤ → List Dataset → Option ℤ
age_at now fields = option_map (λ sent. whole_seconds (now -ℤ sent)) (instant_sent fields)

-- The seconds are the greatest integer that is not above the nanoseconds.
pub record IsFloor (nanoseconds seconds : ℤ) : Type 0 where
  pub below : (seconds *ℤ pos nanoseconds_in_second) ≤ℤ nanoseconds
  pub greatest : (others : ℤ) → (others *ℤ pos nanoseconds_in_second) ≤ℤ nanoseconds → others ≤ℤ seconds

-- Whole seconds are rounded down, also for negative numbers.
abbrev pub WholeSecondsAreFloors : Type 0
WholeSecondsAreFloors = (nanoseconds : ℤ) → IsFloor nanoseconds (whole_seconds nanoseconds)

-- the copy state: held if the release is later than `now`; otherwise expired if the expiration is
-- earlier than `now`; otherwise free
abbrev pub copy_at : ℤ → List Dataset → CopyState
copy_at now fields =
    if option_map_or (λ release. not (int_le release now)) (instant_of_release fields) false then Held
    else if option_map_or (λ expiration. not (int_le now expiration)) (instant_of_expiration fields) false then Expired
    else Free

-- ---- The rows of a report, computed from the values of the envelopes.

-- the identity of an envelope: 1:30 Service Identifier, 1:40 Envelope Number, 1:70 Date Sent
abbrev pub id_of : Value → Identity
id_of v = record {
  service = unwrap_or (first_data 1 30 v.fields) [];
  number = unwrap_or (first_data 1 40 v.fields) [];
  date_sent = unwrap_or (first_data 1 70 v.fields) [];
}

-- the digit of 1:60 Envelope Priority, which is its first octet
abbrev pub priority_of : Value → Option ℕ
priority_of v = option_and_then (λ digit. slice_get digit 0) (first_data 1 60 v.fields)

-- the number of words of the lines, at most the greatest number of 64 bits
abbrev pub counted_words : Value → ℕ
counted_words v = capped (words v.lines)

-- the number of the first of these ids that is equal to `id`, if they are numbered from `n`
abbrev pub first_with_id : ℕ → Identity → List Identity → Option ℕ
first_with_id n id [] = None
first_with_id n id (other ∷ others) = if id_eq id other then Some n else first_with_id (n + 1) id others

-- the row of an envelope, whose `first` is the number of the first envelope with the same id, if
-- that is earlier
abbrev pub row_with_first_of : ℤ → Value → Option ℕ → AuditRow
row_with_first_of now v first = record {
  id = id_of v;
  priority = priority_of v;
  size = v.sizes.total;
  subfiles = v.sizes.subfiles;
  announced = digits_value 10 v.head.words;
  counted = counted_words v;
  age = age_at now v.fields;
  first = first;
  copy = copy_at now v.fields;
}

-- the row of an envelope, whose id is searched for among those of the earlier envelopes
abbrev pub row_of : ℤ → List Value → Value → AuditRow
row_of now earlier v = row_with_first_of now v (first_with_id 1 (id_of v) (map id_of earlier))

-- the rows of envelopes that follow the earlier envelopes
abbrev pub rows_after_earlier : ℤ → List Value → List Value → List AuditRow
rows_after_earlier now earlier [] = []
rows_after_earlier now earlier (v ∷ vs) = row_of now earlier v ∷ rows_after_earlier now (earlier ++ v ∷ []) vs

-- the report on envelopes, from their values and the present instant in nanoseconds
abbrev pub report_of : ℤ → List Value → List AuditRow
report_of now values = rows_after_earlier now [] values

-- ---- The result of an audit, stated for the octets that the intake has not read yet.

-- The input consists of envelopes, no more than can be listed, and the rows are the report on them.
pub record IsAudited (limits : Limits) (now : ℤ) (old new : Device) (rows : List AuditRow) : Type 0 where
  pub input : List ℕ
  pub given : ReadsGave old new input
  pub at_end : IsAtEnd new.octets
  pub envelopes : List Listed
  pub listing : IsListing limits input envelopes Whole
  pub report : rows ≡ report_of now (values_of envelopes)

-- The input is rejected in the envelope with this number: by an octet or, if no octet is rejected,
-- by the end of the input.
pub record IsRefusedAt (limits : Limits) (old new : Device) (number : ℕ) (e : Refusal) : Type 0 where
  pub input : List ℕ
  pub given : ReadsGave old new input
  pub envelopes : List Listed
  pub listing : IsListing limits input envelopes (RefusedBy e)
  pub at_end : listing.ends.0 ≡ length listing.rest → IsAtEnd new.octets
  pub in_hand : number ≡ length envelopes + 1

-- The reader returns this error in the envelope with this number. The octets of that envelope so
-- far are a viable prefix.
pub record ReadFailsAt (limits : Limits) (old new : Device) (number : ℕ) (fault : IoFault) : Type 0 where
  pub input : List ℕ
  pub missed : ReadFailedAfter old new input fault
  pub envelopes : List Listed
  pub rest : List ℕ
  pub divides : SplitsInto limits input envelopes rest
  pub is_open : IsIncomplete limits rest
  pub in_hand : number ≡ length envelopes + 1

-- the intake's count of octets after these envelopes: the length of the last one or, if there are
-- none, the earlier count
abbrev pub octets_after : ℕ → List Listed → ℕ
octets_after before [] = before
octets_after before (e ∷ es) = octets_after (sum_capped 0 (length e.octets)) es

-- The allocation for the envelope with this number failed, before or after the envelope was read.
pub record AllocationFailsAt (limits : Limits) (old new : Device) (number : ℕ) : Type 0 where
  pub input : List ℕ
  pub given : ReadsGave old new input
  pub envelopes : List Listed
  pub divides : SplitsInto limits input envelopes []
  pub in_hand : (number ≡ length envelopes + 1) ⊎ ((number ≡ length envelopes) × (0 < number))

-- The input has more envelopes than can be listed. The first one over the limit was read, and no
-- octet after it. It has this number.
pub record IsOneTooMany (limits : Limits) (old new : Device) (number : ℕ) : Type 0 where
  pub input : List ℕ
  pub given : ReadsGave old new input
  pub envelopes : List Listed
  pub listing : IsListing limits input envelopes TooMany
  pub nothing_more : listing.ends.3 ≡ []
  pub in_hand : number ≡ length envelopes + 1

-- the reason why there is no report, at the envelope with this number
abbrev pub FailsAt : Limits → Device → Device → ℕ → AuditCause → Type 0
FailsAt limits old new number (causes.Refused e) = IsRefusedAt limits old new number e
FailsAt limits old new number causes.Read = ReadFailsAt limits old new number io.Failed
FailsAt limits old new number causes.Interrupted = ReadFailsAt limits old new number io.Interrupted
FailsAt limits old new number causes.OutOfMemory = AllocationFailsAt limits old new number
FailsAt limits old new number causes.TooManyEnvelopes = IsOneTooMany limits old new number

-- The state of the intake after an audit. After an error of the intake, it stores the octet that
-- later errors report: that of the refusal, or the number of octets received of the partial
-- envelope. Otherwise its count of octets is the length of its last envelope. (The arguments are
-- the count before the audit, and then what the intake stores and counts afterwards.)
abbrev pub LeavesIntake : (limits : Limits) (old new : Device) (number : ℕ) (cause : AuditCause) → FailsAt limits old new number cause → ℕ → Option ℕ → ℕ → Type 0
LeavesIntake limits old new number (causes.Refused e) why before kept told = (kept ≡ Some e.octet) × (told ≡ 0)
LeavesIntake limits old new number causes.Read why before kept told = (kept ≡ Some (sum_capped 0 (length why.rest))) × (told ≡ 0)
LeavesIntake limits old new number causes.Interrupted why before kept told = (kept ≡ Some (sum_capped 0 (length why.rest))) × (told ≡ 0)
LeavesIntake limits old new number causes.OutOfMemory why before kept told = (kept ≡ None) × (told ≡ octets_after before why.envelopes)
LeavesIntake limits old new number causes.TooManyEnvelopes why before kept told = (kept ≡ None) × (told ≡ sum_capped 0 (length why.listing.ends.1.octets))

-- the reason why there is no report, and the state of the intake: its unread input and its count of
-- octets, before and after the audit, and the octet that it stores afterwards
abbrev pub FailsWithState : Limits → Device × ℕ → Device × Option ℕ × ℕ → ℕ → AuditCause → Type 0
FailsWithState limits (old, before) (new, kept, told) number cause = (why : FailsAt limits old new number cause) × LeavesIntake limits old new number cause why before kept told

-- The intake had already failed, and the same error is returned for envelope 1; or an allocation
-- failed, and the intake was not read.
abbrev pub RepeatsError : ℕ → ℕ → ℕ → ℕ → AuditCause → Type 0
RepeatsError octet before told number cause =
    (number ≡ 1) × (((cause ≡ causes.Refused (failed_at octet)) × (told ≡ 0)) ⊎ ((cause ≡ causes.OutOfMemory) × (told ≡ before)))

-- the count of words at the beginning of an envelope: no words, and at the beginning of a line
abbrev pub no_words_counted : WordsSoFar
no_words_counted = record { words = 0; inside = false }

-- The counter has counted the words in the text that these octets deliver, starting from zero.
pub record WordsAreCounted (p : List ℕ) (count : WordsSoFar) : Type 0 where
  pub more : List StoryEvent
  pub delivers : Delivers [] p more
  pub counts : CountsWords no_words_counted more count

-- The audit has consumed the octets `p` of an envelope, `a` of them, and has counted the words in
-- them.
pub record AuditHasConsumed (audit : PieceAudit) (p : List ℕ) (a : ℕ) : Type 0 where
  pub unpacker : HasRead audit.unpacker p a
  pub words : WordsAreCounted p audit.count

-- The octets are an envelope, and this is its row, with `first` unset, and with the instants of its
-- copy.
pub record IsRowOf (limits : Limits) (now : ℤ) (octets : List ℕ) (found : PieceRow) : Type 0 where
  pub value : Value
  pub envelope : IsEnvelopeWithin limits octets value
  pub row : found.row ≡ row_with_first_of now value None
  pub release : option_map (λ t. t.nanosecond) found.release ≡ instant_of_release value.fields
  pub expires : option_map (λ t. t.nanosecond) found.expires ≡ instant_of_expiration value.fields

-- The result for a chunk after the octets `p` of an envelope, of which there are `a`. Either no
-- envelope ends in the chunk, and the audit has consumed all of it; or an envelope ends within the
-- chunk, and the audit is in the initial state.
abbrev pub FindsRow : Limits → ℤ → List ℕ → ℕ → List ℕ → PieceAudit → Option PieceRow → Type 0
FindsRow limits now p a piece audit None = AuditHasConsumed audit (p ++ piece) (sum_capped a (length piece))
FindsRow limits now p a piece audit (Some found) =
    (found.used ≤ length piece) × (found.octets ≡ sum_capped a found.used) × IsRowOf limits now (p ++ take found.used piece) found × AuditHasConsumed audit [] 0

-- Octet k of the chunk is rejected after the octets `p`: some layer cannot accept it.
pub record RejectsChunk (limits : Limits) (p : List ℕ) (a : ℕ) (piece : List ℕ) (e : Refusal) : Type 0 where
  pub k : ℕ
  pub within : k < length piece
  pub fault : TokenFault
  pub refusal : e ≡ refusal_at (sum_capped a k) fault
  pub kills : RefusesOctet limits (p ++ take k piece) (slice_index piece k) fault

-- ---- The text of a report.

-- a digit, or `-` if there is none
abbrev pub digit_or_dash : Option ℕ → ℕ
digit_or_dash digit = unwrap_or digit minus

-- a number of seconds in decimal, with `-` before a negative number, or `-` alone if there is no
-- number
abbrev pub seconds_or_dash : Option ℤ → List ℕ
seconds_or_dash None = codes "-"
seconds_or_dash (Some n) = signed_decimal n

-- the first columns of a row: its number, service, envelope number and date sent
abbrev pub id_columns : ℕ → AuditRow → List ℕ
id_columns number row = decimal number ++ (codes " " ++ (shown row.id.service ++ (codes " " ++ (row.id.number ++ (codes " " ++ row.id.date_sent)))))

-- the next columns of a row: the sizes, and the numbers of words announced and counted
abbrev pub size_columns : AuditRow → List ℕ
size_columns row = codes " size " ++ (decimal row.size ++ (codes " subfiles " ++ (decimal row.subfiles ++ (codes " words " ++ (decimal row.announced ++ (codes "/" ++ decimal row.counted))))))

abbrev pub copy_word : CopyState → List ℕ
copy_word Held = codes "held"
copy_word Expired = codes "expired"
copy_word Free = codes "free"

-- the last columns of a row: the age, the first envelope with the same id, and the copy state
abbrev pub age_columns : AuditRow → List ℕ
age_columns row =
    codes " age " ++ (seconds_or_dash row.age ++ (codes " repeats " ++ (number_or_dash row.first ++ (codes " copy " ++ (copy_word row.copy ++ codes "\n")))))

-- the line of a row
abbrev pub row_line : ℕ → AuditRow → List ℕ
row_line number row = id_columns number row ++ (codes " priority " ++ (digit_or_dash row.priority ∷ (size_columns row ++ age_columns row)))

-- a line for each row, in order, numbered from `n`
abbrev pub lines_from : ℕ → List AuditRow → List ℕ
lines_from n [] = []
lines_from n (row ∷ rows) = row_line n row ++ lines_from (n + 1) rows

-- the number of rows that repeat an earlier one
abbrev pub repeated_rows : List AuditRow → ℕ
repeated_rows rows = count_by (λ row. is_some row.first) rows

abbrev pub is_held : CopyState → Bool
is_held Held = true
is_held _ = false

-- the number of rows whose copy is held
abbrev pub held_rows : List AuditRow → ℕ
held_rows rows = count_by (λ row. is_held row.copy) rows

-- the last line, with the totals
abbrev pub totals_line : List AuditRow → List ℕ
totals_line rows = decimal (length rows) ++ (codes " envelopes, " ++ (decimal (repeated_rows rows) ++ (codes " repeated, " ++ (decimal (held_rows rows) ++ codes " held\n"))))

-- the text of a report
abbrev pub printed_report : List AuditRow → List ℕ
printed_report rows = lines_from 1 rows ++ totals_line rows

-- The number of the cause that stopped an audit. For a refusal, it is the number of its cause.
abbrev pub audit_number : AuditCause → ℕ
audit_number (causes.Refused refusal) = cause_number refusal.cause
audit_number causes.Read = 71
audit_number causes.Interrupted = 72
audit_number causes.OutOfMemory = 70
audit_number causes.TooManyEnvelopes = 90

-- The name of the cause that stopped an audit. For a refusal, it is the name of its cause.
abbrev pub audit_name : AuditCause → List ℕ
audit_name (causes.Refused refusal) = cause_name refusal.cause
audit_name causes.Read = codes "Read"
audit_name causes.Interrupted = codes "Interrupted"
audit_name causes.OutOfMemory = codes "OutOfMemory"
audit_name causes.TooManyEnvelopes = codes "TooManyEnvelopes"
