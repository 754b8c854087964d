-- The output of the commands for an input: `check` and `show` write a listing, and `story` writes
-- the texts.
use Rattle.std.specs.Prelude.{◌≡◌, ℕ, ◌+◌, length, List, [], ◌∷◌, ◌++◌, codes, decimal, ◌⊎◌, ◌≤◌, map, take}
use Rattle.std.specs.{List.flat_map, List.join_with_byte, Io.KnownBytes.Appends}
use Rattle.wire_story.specs.Format.Texts.{StoryEvent, delivered, octet_for}
use Rattle.iim_places.specs.Format.Open.{IsTextOf, IsIncomplete}
use Rattle.iim_places.specs.Format.Streams.{sum_capped, InputEnding, Listed, Whole, RefusedBy, TooMany, SplitsInto, HasEnd, IsListing, IsListed, IsRefusedAfter}
use Rattle.iim_output.specs.Format.{accepted_line, refused_line, too_many_line, status_accepted, status_refused, limits}
use Rattle.iim_object.specs.{Format.Objects.mode_number, declared.size.Sizes.Sizes}
use Rattle.iim_script.specs.Format.Scripts.{field_line, message_line, trailer_line}
use Rattle.iim_dataset.specs.{Format.Datasets.number_or_dash, Format.Octets.lf, declared.device.IoFault.IoFault}
use Rattle.iim_dataset.specs.States.Devices.{Device, WroteAllOf, WroteOnlyPrefixOf, CountedNoFailure, ReadsGave, ReadFailedAfter}
use Rattle.iim_output.specs.States.Devices.{HasOctets}
use Rattle.wire_story.specs.States.Reading.{TargetFailed}
pub use Rattle.iim_output.specs.declared.fault.CommandFault.{CommandFault}
pub use Rattle.iim_output.specs.declared.fault.CommandFault.TheVariants.{CannotRead, CannotWrite, OutOfMemory}

-- a length as a counter of 64 bits has it, which saturates at the greatest number
abbrev pub told : ℕ → ℕ
told n = sum_capped 0 n

-- These events are delivered for the text in the octets.
abbrev pub EventsAreDelivered : List ℕ → List StoryEvent → Type 0
EventsAreDelivered octets more = (text : List ℕ) × IsTextOf octets text × (more ≡ delivered text)

-- the line of an envelope with this number
abbrev pub check_line_of : ℕ → Listed → List ℕ
check_line_of number e = accepted_line number (told (length e.octets))

-- the texts of envelopes, in order, numbered from n
abbrev pub texts_from : (ℕ → Listed → List ℕ) → ℕ → List Listed → List ℕ
texts_from text n [] = []
texts_from text n (e ∷ es) = text n e ++ texts_from text (n + 1) es

-- the last line, after `count` envelopes
abbrev pub ending_line : ℕ → InputEnding → List ℕ
ending_line count Whole = []
ending_line count (RefusedBy refusal) = refused_line (count + 1) refusal
ending_line count TooMany = too_many_line

-- the text of a listing
abbrev pub listing : (ℕ → Listed → List ℕ) → List Listed → InputEnding → List ℕ
listing text envelopes ending = texts_from text 1 envelopes ++ ending_line (length envelopes) ending

-- the status of a listing: 0 if the whole input is accepted, otherwise 1
abbrev pub listing_status : InputEnding → ℕ
listing_status Whole = status_accepted
listing_status _ = status_refused

-- the first line of `show` for an envelope, with its number
abbrev pub number_line : ℕ → List ℕ
number_line number = codes "envelope " ++ (decimal number ++ codes "\n")

abbrev pub sizes_line : Sizes → List ℕ
sizes_line s =
    codes "object " ++ (decimal s.total ++ (codes " octets, " ++ (decimal s.subfiles ++ (codes " subfiles, mode " ++ (decimal (mode_number s.known)
    ++ (codes ", limit " ++ (decimal s.subfile ++ (codes ", announced " ++ (number_or_dash s.announced ++ (codes ", maximum "
    ++ (number_or_dash s.maximum ++ codes "\n")))))))))))

-- the text of `show` for an envelope with this number
abbrev pub show_text_of : ℕ → Listed → List ℕ
show_text_of number e = number_line number
    ++ (flat_map field_line e.value.fields ++ (message_line e.value.head ++ (trailer_line e.value.trailer ++ sizes_line e.value.sizes)))

-- The listing of the whole input is written, and this is its status. (The arguments are the input
-- before and after, and then the output.)
abbrev pub WritesListing : (ℕ → Listed → List ℕ) → Device → Device → Device → Device → ℕ → Type 0
WritesListing text source rest old new status = (input : List ℕ) × (envelopes : List Listed) × (ending : InputEnding) × HasOctets source.octets input × CountedNoFailure source rest
    × IsListing limits input envelopes ending × (status ≡ listing_status ending) × WroteAllOf old new (listing text envelopes ending)

-- The text is that of the envelopes, possibly followed by the last line.
abbrev pub IsListingText : (ℕ → Listed → List ℕ) → List Listed → List ℕ → List ℕ → Type 0
IsListingText text envelopes rest words = (words ≡ texts_from text 1 envelopes)
    ⊎ ((ending : InputEnding) × HasEnd limits (length envelopes) rest ending × (words ≡ listing text envelopes ending))

-- Why the listing is incomplete. A read failed after envelopes and a viable prefix, and all these
-- envelopes are listed; or a write failed inside the listing; or an allocation failed, and some of
-- the envelopes that were read are listed.
abbrev pub ListingFails : (ℕ → Listed → List ℕ) → Device → Device → Device → Device → CommandFault → Type 0
ListingFails text source rest old new CannotRead = (input : List ℕ) × (envelopes : List Listed) × (begun : List ℕ) × (fault : IoFault)
    × SplitsInto limits input envelopes begun × IsIncomplete limits begun × ReadFailedAfter source rest input fault × WroteAllOf old new (texts_from text 1 envelopes)
ListingFails text source rest old new CannotWrite = (input : List ℕ) × (envelopes : List Listed) × (begun : List ℕ) × (words : List ℕ) × (n : ℕ)
    × SplitsInto limits input envelopes begun × ReadsGave source rest input × IsListingText text envelopes begun words × WroteOnlyPrefixOf old new words n
ListingFails text source rest old new OutOfMemory = (input : List ℕ) × (envelopes : List Listed) × (begun : List ℕ)
    × SplitsInto limits input envelopes begun × ReadsGave source rest input × WroteAllOf old new (texts_from text 1 envelopes)

-- ---- The output of `story`: the text of each envelope in the output, and the lines of `check` in
-- the error output.

-- the text of an envelope: its lines, joined by LF
abbrev pub text_of : Listed → List ℕ
text_of e = join_with_byte lf e.value.lines

-- the text of an envelope, followed by an LF
abbrev pub story_of : ℕ → Listed → List ℕ
story_of number e = text_of e ++ (lf ∷ [])

-- the stories of all envelopes, in order
abbrev pub stories : List Listed → List ℕ
stories envelopes = texts_from story_of 1 envelopes

-- The text is delivered for the octets, with each line end as LF.
abbrev pub TextIsDelivered : List ℕ → List ℕ → Type 0
TextIsDelivered octets words = (more : List StoryEvent) × EventsAreDelivered octets more × (words ≡ map octet_for more)

-- The text of the octets after the envelopes: for a refusal, the text before the rejected octet;
-- for an envelope over the limit, its text without an LF.
abbrev pub WritesTextAfter : List ℕ → InputEnding → List ℕ → Type 0
WritesTextAfter rest Whole words = words ≡ []
WritesTextAfter rest (RefusedBy refusal) words = (k : ℕ) × IsRefusedAfter limits rest k refusal × TextIsDelivered (take k rest) words
WritesTextAfter rest TooMany words = (e : Listed) × IsListed limits e × (more : List ℕ) × (rest ≡ e.octets ++ more) × (words ≡ text_of e)

-- Everything is written: the stories of the input to the output, and the lines of `check` to the
-- error output. (The arguments are the input, the output and the error output, each before and
-- after.)
abbrev pub WritesStories : Device → Device → Device → Device → Device → Device → ℕ → Type 0
WritesStories source rest old new errors_old errors_new status =
    (input : List ℕ) × (envelopes : List Listed) × (ending : InputEnding) × (words : List ℕ) × HasOctets source.octets input × CountedNoFailure source rest
    × (all : IsListing limits input envelopes ending) × WritesTextAfter all.rest ending words × (status ≡ listing_status ending)
    × WroteAllOf old new (stories envelopes ++ words) × WroteAllOf errors_old errors_new (listing check_line_of envelopes ending)

-- ---- where an error occurs

-- A write to the output failed after these stories, inside the text of the following octets.
-- `words` is written, and the text of the first k octets begins with it. If these are all octets,
-- and all of their text is written, they are an envelope, and the write of the LF after its text
-- failed.
abbrev pub TextWriteFails : Device → Device → List Listed → List ℕ → Type 0
TextWriteFails old new envelopes octets = (k : ℕ) × (words : List ℕ) × (rest : List ℕ) × (k ≤ length octets)
    × (k ≡ length octets → rest ≡ [] → (e : Listed) × IsListed limits e × (e.octets ≡ octets))
    × TextIsDelivered (take k octets) (words ++ rest) × Appends old.octets new.octets (stories envelopes ++ words) × TargetFailed old new

-- Of the envelopes whose stories are written, the lines of the first ones are written to the error
-- output, all of them complete. (They include all envelopes that ended before the last read, since
-- nothing is buffered at a read. That is the precondition of `Input::next_piece`, and not part of
-- this definition.)
abbrev pub WritesFirstLines : Device → Device → List Listed → Type 0
WritesFirstLines errors_old errors_new envelopes = (front : List Listed) × (others : List Listed) × (envelopes ≡ front ++ others)
    × WroteAllOf errors_old errors_new (texts_from check_line_of 1 front)

-- A write to the error output failed inside these lines. Before it the text of the first k octets
-- after the envelopes was written; or the lines include the line for what follows the envelopes.
abbrev pub LinesFollowText : List Listed → List ℕ → List ℕ → List ℕ → Type 0
LinesFollowText envelopes rest told words = ((told ≡ texts_from check_line_of 1 envelopes) × (k : ℕ) × TextIsDelivered (take k rest) words)
    ⊎ ((ending : InputEnding) × HasEnd limits (length envelopes) rest ending × WritesTextAfter rest ending words × (told ≡ listing check_line_of envelopes ending))

abbrev pub LineWriteFails : Device → Device → Device → Device → List Listed → List ℕ → Type 0
LineWriteFails old new errors_old errors_new envelopes rest = (told : List ℕ) × (words : List ℕ) × (n : ℕ) × LinesFollowText envelopes rest told words
    × WroteAllOf old new (stories envelopes ++ words) × WroteOnlyPrefixOf errors_old errors_new told n

-- Why the output is incomplete. A read failed after envelopes and a viable prefix. Or a write to
-- the output failed inside a story, which may be that of an earlier envelope than the last one
-- read: then the buffered lines are lost, and no line is written before its story. Or a write to
-- the error output failed inside the lines, after all stories were written. Or an allocation
-- failed: the stories of some of the envelopes are written, and the text of the first k octets
-- after them.
abbrev pub StoriesFail : Device → Device → Device → Device → Device → Device → CommandFault → Type 0
StoriesFail source rest old new errors_old errors_new CannotRead =
    (input : List ℕ) × (envelopes : List Listed) × (begun : List ℕ) × (fault : IoFault) × (words : List ℕ)
    × SplitsInto limits input envelopes begun × IsIncomplete limits begun × ReadFailedAfter source rest input fault × TextIsDelivered begun words
    × WroteAllOf old new (stories envelopes ++ words) × WroteAllOf errors_old errors_new (texts_from check_line_of 1 envelopes)
StoriesFail source rest old new errors_old errors_new CannotWrite =
    (input : List ℕ) × (envelopes : List Listed) × (begun : List ℕ) × SplitsInto limits input envelopes begun × ReadsGave source rest input
    × ((TextWriteFails old new envelopes begun × WritesFirstLines errors_old errors_new envelopes)
    ⊎ LineWriteFails old new errors_old errors_new envelopes begun)
StoriesFail source rest old new errors_old errors_new OutOfMemory =
    (input : List ℕ) × (envelopes : List Listed) × (begun : List ℕ) × (k : ℕ) × (words : List ℕ)
    × SplitsInto limits input envelopes begun × ReadsGave source rest input × TextIsDelivered (take k begun) words
    × WroteAllOf old new (stories envelopes ++ words) × WroteAllOf errors_old errors_new (texts_from check_line_of 1 envelopes)
