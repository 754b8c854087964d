-- Why a token of an object is rejected, and why a packer rejects a call: the causes, and their
-- printed forms.
use Rattle.std.specs.Prelude.{◌≡◌, ◌⊎◌, ℕ, ◌+◌, ◌<◌, List, [], ◌∷◌, ◌++◌, sum, Some, None, ◌==◌, Bool, false, ◌&&◌, not, nat_lt, min, if◌then◌else◌, is_some, Option, unwrap_or, codes, decimal}
use Rattle.iim_dataset.specs.Format.Octets.{greatest_size}
use Rattle.iim_object.specs.Format.Objects.{StatedNumber, number_at, ObjectToken, NumberRead, SubfileBegun, ObjectEnded, Confirmed, Place}
use Rattle.iim_object.specs.declared.reading.fault.SizeCause.TheVariants.{ModeClash, SizeClash, SubfileTooLong, PastSize, Short, ConfirmedWrong}
use Rattle.iim_object.specs.declared.reading.fault.ObjectFault.TheVariants.{Size, Stopped}
use Rattle.iim_object.specs.declared.writing.cause.PackCause.TheVariants.{OutOfMemory, PastAnnounced, ShortOfAnnounced, BadTextOctet, BadTrailer, Write, Failed}
use Rattle.iim_object.specs.declared.{reading.fault.SizeCause.SizeCause, reading.fault.ObjectFault.ObjectFault}
use Rattle.iim_object.specs.declared.{writing.cause.PackCause.PackCause}

abbrev pub number_of_size_cause : SizeCause → ℕ
number_of_size_cause ModeClash = 20
number_of_size_cause SizeClash = 21
number_of_size_cause SubfileTooLong = 22
number_of_size_cause PastSize = 23
number_of_size_cause Short = 24
number_of_size_cause ConfirmedWrong = 25

-- the numbers of record 7, including that of the token
abbrev pub stated_with : Place → ℕ → ℕ → List StatedNumber
stated_with p set n = p.stated ++ record { set = set; number = n } ∷ []

-- The total exceeds the greatest size, the announced size, or the maximum.
abbrev pub ExceedsBound : List StatedNumber → ℕ → Type 0
ExceedsBound ps total = (greatest_size < total)
    ⊎ (((announced : ℕ) × (number_at 90 ps ≡ Some announced) × (announced < total))
    ⊎ ((most : ℕ) × (number_at 95 ps ≡ Some most) × (most < total)))

-- The condition of a cause, for a token after a position. 20: mode 0 with an announced size, at the
-- later of the two numbers; or mode 1 without an announced size, at a subfile. 21: the announced
-- size is above the maximum, at the later of the two. 22: the subfile is longer than the largest
-- allowed one. 23: the total including the subfile exceeds the bound. 24: the object ends, and its
-- total is below the announced size. 25: the confirmed size is not the total.
abbrev pub HasSizeCause : SizeCause → Place → ObjectToken → Type 0
HasSizeCause ModeClash p token =
    ((set : ℕ) × (n : ℕ) × (token ≡ NumberRead set n) × (number_at 10 (stated_with p set n) ≡ Some 0)
    × ((announced : ℕ) × (number_at 90 (stated_with p set n) ≡ Some announced)))
    ⊎ ((count : ℕ) × (token ≡ SubfileBegun count) × (number_at 10 p.stated ≡ Some 1) × (number_at 90 p.stated ≡ None))
HasSizeCause SizeClash p token = (set : ℕ) × (n : ℕ) × (token ≡ NumberRead set n)
    × ((announced : ℕ) × (most : ℕ) × (number_at 90 (stated_with p set n) ≡ Some announced) × (number_at 95 (stated_with p set n) ≡ Some most) × (most < announced))
HasSizeCause SubfileTooLong p token = (count : ℕ) × (token ≡ SubfileBegun count) × ((largest : ℕ) × (number_at 20 p.stated ≡ Some largest) × (largest < count))
HasSizeCause PastSize p token = (count : ℕ) × (token ≡ SubfileBegun count) × ExceedsBound p.stated (sum p.lengths + count)
HasSizeCause Short p token = (announced : ℕ) × (token ≡ ObjectEnded) × (number_at 90 p.stated ≡ Some announced) × (sum p.lengths < announced)
HasSizeCause ConfirmedWrong p token = (n : ℕ) × (token ≡ Confirmed n) × (n ≡ sum p.lengths → ⊥)

-- ---- The first cause for which a token is rejected, computed from the numbers so far.

-- the number is present, and equals n
abbrev pub is_given : Option ℕ → ℕ → Bool
is_given None n = false
is_given (Some m) n = m == n

-- both numbers are present, and the first is above the second
abbrev pub is_above : Option ℕ → Option ℕ → Bool
is_above (Some a) (Some m) = nat_lt m a
is_above announced maximum = false

-- what is wrong with the numbers of record 7: mode 0 with an announced size; an announced size
-- above the maximum
abbrev pub number_cause : Option ℕ → Option ℕ → Option ℕ → Option SizeCause
number_cause mode announced maximum =
    if is_given mode 0 && is_some announced then Some ModeClash
    else if is_above announced maximum then Some SizeClash
    else None

-- the least of the greatest size, the announced size if present, and the maximum if present
abbrev pub bound : Option ℕ → Option ℕ → ℕ
bound announced maximum = min (unwrap_or announced greatest_size) (unwrap_or maximum greatest_size)

-- the total including `count` more octets is above `most`
abbrev pub exceeds_bound : ℕ → ℕ → ℕ → Bool
exceeds_bound most total count = nat_lt most (total + count)

-- what is wrong with a subfile: mode 1 without an announced size; the subfile is longer than the
-- largest allowed one; the total is above the bound
abbrev pub subfile_cause : Option ℕ → Option ℕ → Option ℕ → Option ℕ → ℕ → ℕ → Option SizeCause
subfile_cause mode largest announced maximum total count =
    if is_given mode 1 && not (is_some announced) then Some ModeClash
    else if nat_lt (unwrap_or largest 0) count then Some SubfileTooLong
    else if exceeds_bound (bound announced maximum) total count then Some PastSize
    else None

-- what is wrong with the end: the total is below the announced size
abbrev pub end_cause : Option ℕ → ℕ → Option SizeCause
end_cause announced total = if nat_lt total (unwrap_or announced 0) then Some Short else None

-- what is wrong with the confirmed size: it is not the total
abbrev pub confirmed_cause : ℕ → ℕ → Option SizeCause
confirmed_cause total n = if n == total then None else Some ConfirmedWrong

-- the first cause for which a token is rejected after a position
abbrev pub cause_at : Place → ObjectToken → Option SizeCause
cause_at p (NumberRead set n) =
    let ps = p.stated ++ record { set = set; number = n } ∷ [] in number_cause (number_at 10 ps) (number_at 90 ps) (number_at 95 ps)
cause_at p (SubfileBegun count) = subfile_cause (number_at 10 p.stated) (number_at 20 p.stated) (number_at 90 p.stated) (number_at 95 p.stated) (sum p.lengths) count
cause_at p ObjectEnded = end_cause (number_at 90 p.stated) (sum p.lengths)
cause_at p (Confirmed n) = confirmed_cause (sum p.lengths) n

abbrev pub name_of_size_cause : SizeCause → List ℕ
name_of_size_cause ModeClash = codes "ModeClash"
name_of_size_cause SizeClash = codes "SizeClash"
name_of_size_cause SubfileTooLong = codes "SubfileTooLong"
name_of_size_cause PastSize = codes "PastSize"
name_of_size_cause Short = codes "Short"
name_of_size_cause ConfirmedWrong = codes "ConfirmedWrong"

-- the printed form of a cause: its number and its name
abbrev pub text_of_size_cause : SizeCause → List ℕ
text_of_size_cause cause = decimal (number_of_size_cause cause) ++ (codes " " ++ name_of_size_cause cause)

-- the number of a fault; a stop of the sink has the number 60
abbrev pub number_of_object_fault : ObjectFault → ℕ
number_of_object_fault (Size cause) = number_of_size_cause cause
number_of_object_fault (Stopped stop) = 60

abbrev pub name_of_object_fault : ObjectFault → List ℕ
name_of_object_fault (Size cause) = name_of_size_cause cause
name_of_object_fault (Stopped stop) = codes "Sink"

abbrev pub text_of_object_fault : ObjectFault → List ℕ
text_of_object_fault fault = decimal (number_of_object_fault fault) ++ (codes " " ++ name_of_object_fault fault)

abbrev pub pack_number : PackCause → ℕ
pack_number OutOfMemory = 70
pack_number PastAnnounced = 80
pack_number ShortOfAnnounced = 81
pack_number BadTextOctet = 82
pack_number BadTrailer = 83
pack_number Write = 84
pack_number Failed = 85

abbrev pub pack_name : PackCause → List ℕ
pack_name OutOfMemory = codes "OutOfMemory"
pack_name PastAnnounced = codes "PastAnnounced"
pack_name ShortOfAnnounced = codes "ShortOfAnnounced"
pack_name BadTextOctet = codes "BadTextOctet"
pack_name BadTrailer = codes "BadTrailer"
pack_name Write = codes "Write"
pack_name Failed = codes "Failed"

-- the printed form of a cause: its number and its name
abbrev pub pack_text : PackCause → List ℕ
pack_text cause = decimal (pack_number cause) ++ (codes " " ++ pack_name cause)

-- The printed form of a cause and the number of octets written.
abbrev pub start_text : PackCause → ℕ → List ℕ
start_text cause written = codes "cause " ++ (pack_text cause ++ (codes ", octets written " ++ decimal written))
