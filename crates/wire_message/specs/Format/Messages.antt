-- Messages: their parts, their canonical form, and the layers of an object.
use Rattle.std.specs.Prelude.{ℕ, ◌≤◌, Bool, ◌&&◌, ◌||◌, ◌==◌, not, nat_lt, IsTrue, List, length, ◌≡◌, ◌⊎◌, [], ◌∷◌, ◌++◌, if◌then◌else◌, map}
use Rattle.std.specs.List.{list_all, list_any, before_first, after_first}
use Rattle.iim_dataset.specs.Format.Octets.{nul, etx, lf, cr, syn, sp, within, is_digit, is_letter, soh, stx, eot, IsViablePrefix, EndsViablePrefix}
use Rattle.wire_story.specs.Format.Texts.{packed_text, OctetOrEnd, Octet, End, with_end, StoryLanguage}

abbrev pub is_alphanumeric : ℕ → Bool
is_alphanumeric b = is_letter b || is_digit b

-- an info octet: 20h to 7Eh, or 80h to FFh
abbrev pub is_info_octet : ℕ → Bool
is_info_octet b = within sp 0x7e b || within 0x80 0xff b

-- an info octet, LF or CR
abbrev pub is_trailer_octet : ℕ → Bool
is_trailer_octet b = is_info_octet b || b == lf || b == cr

-- NUL, LF, CR or SYN
abbrev pub is_filler_octet : ℕ → Bool
is_filler_octet b = b == nul || b == lf || b == cr || b == syn

-- For the message layer the text consists of any octets but ETX.
abbrev pub is_text_octet : ℕ → Bool
is_text_octet b = nat_lt b 256 && not (b == etx)

-- All octets pass the test.
abbrev pub Are : (ℕ → Bool) → List ℕ → Type 0
Are test xs = IsTrue (list_all test xs)

-- `least` to `most` octets that pass the test
abbrev pub IsField : (ℕ → Bool) → ℕ → ℕ → List ℕ → Type 0
IsField test least most xs = Are test xs × (least ≤ length xs) × (length xs ≤ most)

-- ---- The maximum lengths of the parts, in octets.

-- the maximum length of the filler before SOH, of the filler after EOT, and of the gap
abbrev pub max_filler : ℕ
max_filler = 32

abbrev pub max_source : ℕ
max_source = 8

abbrev pub max_number : ℕ
max_number = 8

abbrev pub max_priority : ℕ
max_priority = 1

abbrev pub max_category : ℕ
max_category = 8

abbrev pub max_words : ℕ
max_words = 6

abbrev pub max_info : ℕ
max_info = 64

abbrev pub max_trailer : ℕ
max_trailer = 64

-- ---- The message: filler, SOH, header, gap, STX, text, ETX, trailer, EOT, filler.

-- the six parts of a header
pub record Header : Type 0 where
  pub source : List ℕ
  pub number : List ℕ
  pub priority : List ℕ
  pub category : List ℕ
  pub words : List ℕ
  pub info : List ℕ

-- the header of these parts
abbrev pub header_of : List ℕ → List ℕ → List ℕ → List ℕ → List ℕ → List ℕ → Header
header_of source number priority category words info =
    record { source = source; number = number; priority = priority; category = category; words = words; info = info }

-- A header: each part has a length that is allowed, and consists of octets that are allowed.
pub record IsHeader (head : Header) : Type 0 where
  pub source : IsField is_letter 1 max_source head.source
  pub number : IsField is_digit 1 max_number head.number
  pub priority : IsField is_digit 1 max_priority head.priority
  pub category : IsField is_alphanumeric 1 max_category head.category
  pub words : IsField is_digit 1 max_words head.words
  pub info : IsField is_info_octet 0 max_info head.info

-- A trailer: up to 64 octets, which may include line ends.
abbrev pub IsTrailer : List ℕ → Type 0
IsTrailer xs = IsField is_trailer_octet 0 max_trailer xs

-- Filler: up to 32 octets that are ignored.
abbrev pub IsFiller : List ℕ → Type 0
IsFiller xs = IsField is_filler_octet 0 max_filler xs

-- the octets contain an LF
abbrev pub has_feed : List ℕ → Bool
has_feed xs = list_any (λ b. b == lf) xs

-- A gap: filler octets, which include an LF.
abbrev pub IsGap : List ℕ → Type 0
IsGap xs = IsField is_filler_octet 1 max_filler xs × IsTrue (has_feed xs)

-- the encoding of the info: nothing, if the info is empty, or SP and the info
abbrev pub EncodesInfo : List ℕ → List ℕ → Type 0
EncodesInfo info xs = ((info ≡ []) × (xs ≡ [])) ⊎ (xs ≡ sp ∷ info)

-- source, number, SP, priority, SP, category, SP, words
abbrev pub fixed_header : Header → List ℕ
fixed_header head = head.source ++ (head.number ++ (sp ∷ head.priority ++ (sp ∷ head.category ++ (sp ∷ head.words))))

-- The object is a message with this header, text and trailer.
pub record IsMessage (object : List ℕ) (head : Header) (text trailer : List ℕ) : Type 0 where
  pub before : List ℕ
  pub info : List ℕ
  pub gap : List ℕ
  pub after : List ℕ
  pub is_before : IsFiller before
  pub is_header : IsHeader head
  pub is_info : EncodesInfo head.info info
  pub is_gap : IsGap gap
  pub is_text : Are is_text_octet text
  pub is_trailer : IsTrailer trailer
  pub is_after : IsFiller after
  pub parts : object ≡ before ++ (soh ∷ fixed_header head ++ (info ++ (gap ++ (stx ∷ text ++ (etx ∷ trailer ++ (eot ∷ after))))))

-- The octets begin like a message with this header, up to STX, and continue with any octets.
pub record BeginsWithHeader (octets : List ℕ) (head : Header) : Type 0 where
  pub before : List ℕ
  pub info : List ℕ
  pub gap : List ℕ
  pub rest : List ℕ
  pub is_before : IsFiller before
  pub is_header : IsHeader head
  pub is_info : EncodesInfo head.info info
  pub is_gap : IsGap gap
  pub parts : octets ≡ before ++ (soh ∷ fixed_header head ++ (info ++ (gap ++ (stx ∷ rest))))

-- the canonical encoding of the info: nothing, if it is empty, otherwise SP and the info
abbrev pub packed_info : List ℕ → List ℕ
packed_info [] = []
packed_info (b ∷ bs) = sp ∷ b ∷ bs

-- the canonical octets from SOH to STX, with the gap CR LF
abbrev pub packed_head : Header → List ℕ
packed_head head = soh ∷ fixed_header head ++ (packed_info head.info ++ (cr ∷ lf ∷ stx ∷ []))

-- the canonical octets from ETX to EOT
abbrev pub packed_tail : List ℕ → List ℕ
packed_tail trailer = etx ∷ trailer ++ (eot ∷ [])

-- the canonical object: a message without filler, whose lines are joined by CR LF
abbrev pub canonical : Header → List (List ℕ) → List ℕ → List ℕ
canonical head lines trailer = packed_head head ++ (packed_text lines ++ packed_tail trailer)

-- The language of messages: the octets of a message, followed by the end.
pub record MessageLanguage (tokens : List OctetOrEnd) : Type 0 where
  pub object : List ℕ
  pub head : Header
  pub text : List ℕ
  pub trailer : List ℕ
  pub message : IsMessage object head text trailer
  pub tokens_are : tokens ≡ with_end object

-- The octets are a viable prefix of a message.
abbrev pub IsViableMessage : List ℕ → Type 0
IsViableMessage octets = IsViablePrefix MessageLanguage (map Octet octets)

-- The octets are a viable prefix of a message, but with the next token they are not.
abbrev pub EndsViableMessage : List ℕ → OctetOrEnd → Type 0
EndsViableMessage octets token = EndsViablePrefix MessageLanguage (map Octet octets) token

-- the octets after STX
abbrev pub after_stx : List ℕ → List ℕ
after_stx octets = after_first (λ b. b == stx) octets

-- the text so far: the octets after STX and before ETX
abbrev pub text_so_far : List ℕ → List ℕ
text_so_far octets = before_first (λ b. b == etx) (after_stx octets)

-- the trailer so far: the octets after ETX and before EOT
abbrev pub trailer_so_far : List ℕ → List ℕ
trailer_so_far octets = before_first (λ b. b == eot) (after_first (λ b. b == etx) (after_stx octets))

-- the tokens of the story in the octets so far: the text has ended if STX is followed by ETX
abbrev pub story_tokens_of : List ℕ → List OctetOrEnd
story_tokens_of octets = map Octet (text_so_far octets)
    ++ (if list_any (λ b. b == etx) (after_stx octets) then End ∷ [] else [])

-- The text in the octets is a viable prefix of a story.
abbrev pub HasViableStory : List ℕ → Type 0
HasViableStory octets = IsViablePrefix StoryLanguage (story_tokens_of octets)
