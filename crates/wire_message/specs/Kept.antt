-- How a header is stored, and classes of octets.
use Rattle.std.specs.Prelude.{ℕ, ◌+◌, ◌≤◌, List, drop, length, slice_range, Bool}
use Rattle.wire_message.specs.Format.Messages.{Header, header_of, IsHeader, is_alphanumeric, is_info_octet, is_trailer_octet, is_filler_octet, is_text_octet}
use Rattle.wire_message.specs.declared.class.Class.TheVariants.{Letter, Digit, Alphanumeric, Info, Trailer, Filler, Text}
use Rattle.wire_message.specs.declared.{ends.Ends.Ends, class.Class.Class}
use Rattle.iim_dataset.specs.Format.Octets.{is_digit, is_letter}

-- the header whose parts end at these offsets: the number directly follows the source, and other
-- parts are separated by one octet of any value
abbrev pub parts_in : List ℕ → Ends → Header
parts_in octets ends = header_of
    (slice_range octets 0 ends.source)
    (slice_range octets ends.source ends.number)
    (slice_range octets (ends.number + 1) (ends.number + 2))
    (slice_range octets (ends.number + 3) ends.category)
    (slice_range octets (ends.category + 1) ends.words)
    (drop (ends.words + 1) octets)

-- the offsets at which these parts end if they are joined
abbrev pub ends_of : List ℕ → List ℕ → List ℕ → List ℕ → Ends
ends_of source number category words = record {
  source = length source;
  number = length source + length number;
  category = length source + length number + 3 + length category;
  words = length source + length number + 3 + length category + 1 + length words;
}

-- The parts end one after another within the octets, and form a valid header.
pub record IsKept (octets : List ℕ) (ends : Ends) : Type 0 where
  pub source : ends.source ≤ ends.number
  pub number : ends.number + 3 ≤ ends.category
  pub category : ends.category + 1 ≤ ends.words
  pub words : ends.words + 1 ≤ length octets
  pub is_header : IsHeader (parts_in octets ends)

-- the octet is in the class
abbrev pub is_in_class : Class → ℕ → Bool
is_in_class Letter = is_letter
is_in_class Digit = is_digit
is_in_class Alphanumeric = is_alphanumeric
is_in_class Info = is_info_octet
is_in_class Trailer = is_trailer_octet
is_in_class Filler = is_filler_octet
is_in_class Text = is_text_octet
