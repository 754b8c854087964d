-- The kinds: which octets a dataset may have, and the length of a size in octets.
use Rattle.std.specs.Prelude.{ℕ, Bool, ◌||◌, ◌==◌, true, ◌&&◌, nat_le, List, length}
use Rattle.std.specs.List.{list_all}
use Rattle.iim_dataset.specs.Format.Octets.{within, lf, cr, sp, is_digit, is_letter, number, greatest_size}
use Rattle.iim_dataset.specs.Format.Datasets.{count_octets}
use Rattle.iim_tables.specs.Format.Dates.{is_date, is_part_date, is_time}
use Rattle.iim_tables.specs.declared.shape.Kind.{Kind}
use Rattle.iim_tables.specs.declared.shape.Kind.TheVariants.{Graphic, Spaced, SpacedLines, Letters, Digits, Date, PartDate, Time, Binary, Octets, Mode, Size, SizeFromOne}

-- a graphic octet: 21h to 7Eh, or 80h to FFh
abbrev pub is_graphic : ℕ → Bool
is_graphic b = within 0x21 0x7e b || within 0x80 0xff b

-- a graphic octet, or a space
abbrev pub is_spaced : ℕ → Bool
is_spaced b = is_graphic b || b == sp

-- a graphic octet, a space, LF or CR
abbrev pub is_spaced_or_line_end : ℕ → Bool
is_spaced_or_line_end b = is_spaced b || b == lf || b == cr

-- the greatest number of octets of a size, which is that of the number in an extended count (a
-- choice of the profile)
abbrev pub size_octets : ℕ
size_octets = count_octets

-- one octet, which is 00 or 01
abbrev pub is_mode : List ℕ → Bool
is_mode xs = (length xs == 1) && list_all (λ b. nat_le b 1) xs

-- a size: as many octets as a size may have, which encode a number from `least` to the greatest
-- size
abbrev pub is_size_from : ℕ → List ℕ → Bool
is_size_from least xs = within 1 size_octets (length xs) && within least greatest_size (number xs)

-- the octets are a value of the kind
abbrev pub has_kind : Kind → List ℕ → Bool
has_kind Graphic xs = list_all is_graphic xs
has_kind Spaced xs = list_all is_spaced xs
has_kind SpacedLines xs = list_all is_spaced_or_line_end xs
has_kind Letters xs = list_all is_letter xs
has_kind Digits xs = list_all is_digit xs
has_kind Date xs = is_date xs
has_kind PartDate xs = is_part_date xs
has_kind Time xs = is_time xs
has_kind Binary xs = true
has_kind Octets xs = true
has_kind Mode xs = is_mode xs
has_kind Size xs = is_size_from 0 xs
has_kind SizeFromOne xs = is_size_from 1 xs
