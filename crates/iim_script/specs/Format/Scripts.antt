-- The format of scripts: their lines, the forms of lines, and their contents; and the printed form
-- of an envelope.
use Rattle.std.specs.Prelude.{◌≡◌, ℕ, ◌==◌, false, ◌⊎◌, List, [], ◌∷◌, ◌++◌, ◌≢◌, ◌+◌, ◌*◌, ◌<◌, ◌≤◌, ◌-◌, get_or, IsTrue, length, codes, None}
use Rattle.std.specs.List.{AllByRecursion, list_all, flat_map, join_with_byte}
use Rattle.iim_dataset.specs.Format.Octets.{lf, cr, sp, digit_zero, capital_a, small_a, backslash, small_x, colon, is_digit}
use Rattle.iim_dataset.specs.Format.Datasets.{Dataset, shown, dataset_name}
use Rattle.wire_message.specs.Format.Messages.{Header, IsHeader, IsTrailer}
use Rattle.iim_fields.specs.{States.Standing.added_field_fault, States.Standing.missing_field_fault, declared.limits.Limits.Limits}
use Rattle.wire_story.specs.Format.{Texts.IsLine, Texts.delivered, Packing.lines_of}

-- None of the octets equals this one.
abbrev pub Lacks : ℕ → List ℕ → Type 0
Lacks b xs = AllByRecursion (λ x. (x == b) ≡ false) xs

-- `front` is the octets without this octet at their end; or all of the octets, if they do not end
-- with it.
abbrev pub WithoutLast : ℕ → List ℕ → List ℕ → Type 0
WithoutLast b octets front = (octets ≡ front ++ b ∷ []) ⊎ ((octets ≡ front) × ((before : List ℕ) → octets ≡ before ++ b ∷ [] → ⊥))

-- The octets begin with the line and its line end, followed by `after`. The line end is LF, or CR
-- LF.
pub record NextLine (octets line after : List ℕ) : Type 0 where
  pub ended : List ℕ
  pub no_feed : Lacks lf ended
  pub is_line : WithoutLast cr ended line
  pub parts : octets ≡ ended ++ lf ∷ after

-- The octets begin with these lines and their line ends, followed by `after`.
abbrev pub NextLines : List ℕ → List (List ℕ) → List ℕ → Type 0
NextLines octets [] after = octets ≡ after
NextLines octets (line ∷ lines) after = (rest : List ℕ) × NextLine octets line rest × NextLines rest lines after

-- The digit is in the range of `many` octets from `first` on, of which the first has the value
-- `least`. The value of the digit is `value`.
abbrev pub IsDigitFrom : ℕ → ℕ → ℕ → ℕ → ℕ → Type 0
IsDigitFrom first least many digit value = (first ≤ digit) × (digit < first + many) × (digit + least ≡ first + value)

-- The digit has this value in hexadecimal: it is from 0 to 9, from A to F, or from a to f.
abbrev pub IsHexDigit : ℕ → ℕ → Type 0
IsHexDigit digit value = IsDigitFrom digit_zero 0 10 digit value ⊎ (IsDigitFrom capital_a 10 6 digit value ⊎ IsDigitFrom small_a 10 6 digit value)

-- The octet has these two hexadecimal digits.
abbrev pub IsOfDigits : ℕ → ℕ → ℕ → Type 0
IsOfDigits high low octet = (h : ℕ) × (l : ℕ) × IsHexDigit high h × IsHexDigit low l × (octet ≡ h * 16 + l)

-- The text begins with the octet itself, which is not a backslash, or with its escape: `\x` and two
-- hexadecimal digits. The rest follows.
abbrev pub BeginsWith : List ℕ → ℕ → List ℕ → Type 0
BeginsWith text octet rest = ((octet ≢ backslash) × (text ≡ octet ∷ rest))
    ⊎ ((high : ℕ) × (low : ℕ) × (text ≡ backslash ∷ small_x ∷ high ∷ low ∷ rest) × IsOfDigits high low octet)

-- The text encodes the octets, one after another.
abbrev pub EncodesOctets : List ℕ → List ℕ → Type 0
EncodesOctets text [] = text ≡ []
EncodesOctets text (octet ∷ octets) = (rest : List ℕ) × BeginsWith text octet rest × EncodesOctets rest octets

-- The end of a line: nothing, for no octets; otherwise SP, and a text of at least one octet.
abbrev pub EndsWith : List ℕ → List ℕ → Type 0
EndsWith end [] = end ≡ []
EndsWith end (octet ∷ octets) = (text : List ℕ) × (end ≡ sp ∷ text) × EncodesOctets text (octet ∷ octets)

-- ---- The forms of a script's lines.

-- the number of the decimal digits, which follow digits with the number `n`
abbrev pub decimal_from : ℕ → List ℕ → ℕ
decimal_from n [] = n
decimal_from n (digit ∷ digits) = decimal_from (n * 10 + (digit - digit_zero)) digits

-- The number of a record or a dataset: 1 to 3 decimal digits, of a value up to 255.
pub record EncodesNumber (digits : List ℕ) (n : ℕ) : Type 0 where
  pub some : 1 ≤ length digits
  pub few : length digits ≤ 3
  pub are_digits : IsTrue (list_all is_digit digits)
  pub value : n ≡ decimal_from 0 digits
  pub fits : n ≤ 255

-- The line begins with `R:D`. The rest does not begin with a digit.
pub record BeginsWithName (line : List ℕ) (rec set : ℕ) (end : List ℕ) : Type 0 where
  pub rec_digits : List ℕ
  pub set_digits : List ℕ
  pub is_rec : EncodesNumber rec_digits rec
  pub is_set : EncodesNumber set_digits set
  pub undigited : is_digit (get_or end 0 0) ≡ false
  pub line_is : line ≡ rec_digits ++ (colon ∷ set_digits ++ end)

-- A line `R:D`, followed by SP and the octets as text, if there are any.
pub record DescribesField (line : List ℕ) (d : Dataset) : Type 0 where
  pub end : List ℕ
  pub names : BeginsWithName line d.rec d.set end
  pub is_end : EndsWith end d.octets

-- the line `text`
abbrev pub text_word : List ℕ
text_word = codes "text"

-- the parts of a header before its info, separated by one SP, and the rest of the line
abbrev pub head_words : Header → List ℕ → List ℕ
head_words head end = head.source ++ (sp ∷ (head.number ++ (sp ∷ (head.priority ++ (sp ∷ (head.category ++ (sp ∷ (head.words ++ end))))))))

-- The octets consist of these parts, none of which contains SP, and the end of the line, which is
-- empty or begins with SP.
pub record AreFieldsOf (octets : List ℕ) (head : Header) (end : List ℕ) : Type 0 where
  pub source : Lacks sp head.source
  pub number : Lacks sp head.number
  pub priority : Lacks sp head.priority
  pub category : Lacks sp head.category
  pub words : Lacks sp head.words
  pub ends : get_or end 0 sp ≡ sp
  pub octets_are : octets ≡ head_words head end

-- A line `message SOURCE NUMBER PRIORITY CATEGORY WORDS`, followed by SP and the info as text, if
-- there is any.
pub record DescribesHead (line : List ℕ) (head : Header) : Type 0 where
  pub end : List ℕ
  pub is_header : IsHeader head
  pub is_end : EndsWith end head.info
  pub line_is : line ≡ codes "message " ++ head_words head end

-- A line `trailer`, followed by SP and the octets as text, if there are any.
pub record DescribesTrailer (line octets : List ℕ) : Type 0 where
  pub end : List ℕ
  pub is_end : EndsWith end octets
  pub line_is : line ≡ codes "trailer" ++ end

-- ---- The format of a script, and its contents.

-- the maximum size of a script, in octets
abbrev pub max_script : ℕ
max_script = 16777216

-- Each line specifies the dataset at the same index, and a builder accepts these datasets, one
-- after another, after the datasets `before`.
abbrev pub DescribeFields : Limits → List Dataset → List (List ℕ) → List Dataset → Type 0
DescribeFields limits before [] [] = Unit {0}
DescribeFields limits before (line ∷ lines) (d ∷ ds) =
    DescribesField line d × (added_field_fault limits before d ≡ None) × DescribeFields limits (before ++ d ∷ []) lines ds
DescribeFields limits before lines ds = ⊥

-- No line for an empty trailer, or the one line that specifies the trailer.
abbrev pub DescribeTrailer : List (List ℕ) → List ℕ → Type 0
DescribeTrailer [] octets = octets ≡ []
DescribeTrailer (line ∷ []) octets = DescribesTrailer line octets × IsTrailer octets
DescribeTrailer (line ∷ next ∷ lines) octets = ⊥

-- The octets begin with the lines before the story, and the story follows. The lines are those of
-- datasets that form an envelope; that of the header; that of the trailer, if any; and the line
-- `text`.
pub record IsFront (limits : Limits) (octets : List ℕ) (fields : List Dataset) (head : Header) (trailer : List ℕ) (text_line : ℕ)
    (story : List ℕ) : Type 0 where
  pub field_lines : List (List ℕ)
  pub message : List ℕ
  pub trailers : List (List ℕ)
  pub lined : NextLines octets (field_lines ++ (message ∷ trailers ++ text_word ∷ [])) story
  pub are_fields : DescribeFields limits [] field_lines fields
  pub whole : missing_field_fault fields ≡ None
  pub is_head : DescribesHead message head
  pub is_trailer : DescribeTrailer trailers trailer
  pub text_line_is : text_line ≡ length field_lines + length trailers + 2

-- The lines of a story, at least one. Each line but the last has its line end. The last line need
-- not have one, unless it is empty and others precede it.
abbrev pub IsStory : List ℕ → List (List ℕ) → Type 0
IsStory octets lines = (0 < length lines) × (NextLines octets lines []
    ⊎ ((before : List (List ℕ)) × (last : List ℕ) × (lines ≡ before ++ last ∷ []) × NextLines octets before last
    × Lacks lf last × (last ≡ [] → before ≡ [])))

-- the lines of a text, as a reader of stories delivers them
abbrev pub text_lines : List ℕ → List (List ℕ)
text_lines text = lines_of (delivered text)

-- The contents of a script: the datasets of records 1 and 2, the header, the trailer, the lines of
-- the story, and the number of the line `text`.
pub record IsScript (limits : Limits) (octets : List ℕ) (fields : List Dataset) (head : Header) (trailer : List ℕ) (lines : List (List ℕ)) (text_line : ℕ) : Type 0 where
  pub story : List ℕ
  pub short : length octets ≤ max_script
  pub is_front : IsFront limits octets fields head trailer text_line story
  pub is_story : IsStory story lines
  pub texts : AllByRecursion IsLine lines

-- a space and the octets, escaped if necessary, or nothing if there are no octets
abbrev pub after_space : List ℕ → List ℕ
after_space [] = []
after_space (x ∷ xs) = sp ∷ shown (x ∷ xs)

-- the line of a dataset: its name and its data
abbrev pub field_line : Dataset → List ℕ
field_line d = dataset_name d.rec d.set ++ (after_space d.octets ++ codes "\n")

-- the line of the message's header
abbrev pub message_line : Header → List ℕ
message_line head =
    codes "message " ++ (head.source ++ (codes " " ++ (head.number ++ (codes " " ++ (head.priority ++ (codes " " ++ (head.category
    ++ (codes " " ++ (head.words ++ (after_space head.info ++ codes "\n"))))))))))

abbrev pub trailer_line : List ℕ → List ℕ
trailer_line trailer = codes "trailer" ++ (after_space trailer ++ codes "\n")

-- the lines of the datasets, of the header and of the trailer
abbrev pub value_lines : List Dataset → Header → List ℕ → List ℕ
value_lines fields head trailer = flat_map field_line fields ++ (message_line head ++ trailer_line trailer)

-- The octets are the lines of a story, joined by LF, and a final LF. The final LF may be missing,
-- unless the last line is empty and others precede it.
abbrev pub PrintsStory : List ℕ → List (List ℕ) → Type 0
PrintsStory octets lines =
    (octets ≡ join_with_byte lf lines ++ lf ∷ []) ⊎ ((octets ≡ join_with_byte lf lines) × ((before : List (List ℕ)) → lines ≡ before ++ [] ∷ [] → before ≡ []))

-- a complete script: the lines of the values, the line `text`, and a story
abbrev pub script_of : List Dataset → Header → List ℕ → List ℕ → List ℕ
script_of fields head trailer story = value_lines fields head trailer ++ (codes "text\n" ++ story)
