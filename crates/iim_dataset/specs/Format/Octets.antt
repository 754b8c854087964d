-- Octets, the numbers that they encode, and their names in ISO 646; counters; and languages of
-- tokens.
use Rattle.std.specs.Prelude.{◌≡◌, ℕ, ◌-◌, ◌^◌, ◌<◌, List, ◌++◌, length, Bool, ◌&&◌, ◌||◌, nat_le, ◌+◌, ◌≤◌, ◌⊎◌, [], ◌∷◌}
use Rattle.std.specs.List.{AllByRecursion}
use Rattle.byteorder.specs.Endian.{big_number}

-- an octet is a whole number from 0 to 255
abbrev pub IsOctet : ℕ → Type 0
IsOctet b = b < 256

abbrev pub Octets : List ℕ → Type 0
Octets xs = AllByRecursion IsOctet xs

-- the unsigned binary number that the octets encode, high octet first
abbrev pub number : List ℕ → ℕ
number xs = big_number (length xs) xs

-- xs is a proper prefix of ys: ys begins with xs, and is longer
abbrev pub IsProperPrefix : List ℕ → List ℕ → Type 0
IsProperPrefix xs ys = (rest : List ℕ) × (0 < length rest) × (xs ++ rest ≡ ys)

-- the greatest size of an object in octets, and so the greatest count that a row allows (a choice
-- of the profile)
abbrev pub greatest_size : ℕ
greatest_size = 9_223_372_036_854_775_807

-- the greatest number of 32 bits
abbrev pub greatest_u32 : ℕ
greatest_u32 = 4_294_967_295

-- the greatest number of 64 bits, at which counters saturate
abbrev pub greatest_u64 : ℕ
greatest_u64 = 2 ^ 64 - 1

-- b is in the range from `low` to `high`
abbrev pub within : ℕ → ℕ → ℕ → Bool
within low high b = nat_le low b && nat_le b high

-- 0 to 9
abbrev pub is_digit : ℕ → Bool
is_digit b = within 0x30 0x39 b

-- A to Z, a to z
abbrev pub is_letter : ℕ → Bool
is_letter b = within 0x41 0x5a b || within 0x61 0x7a b

-- ---- Octets by their names in ISO 646, and a few printable characters.

-- NUL, null
abbrev pub nul : ℕ
nul = 0x00

-- SOH, start of heading
abbrev pub soh : ℕ
soh = 0x01

-- STX, start of text
abbrev pub stx : ℕ
stx = 0x02

-- ETX, end of text
abbrev pub etx : ℕ
etx = 0x03

-- EOT, end of transmission
abbrev pub eot : ℕ
eot = 0x04

-- HT, horizontal tabulation
abbrev pub tab : ℕ
tab = 0x09

-- LF, line feed
abbrev pub lf : ℕ
lf = 0x0a

-- CR, carriage return
abbrev pub cr : ℕ
cr = 0x0d

-- SYN, synchronous idle
abbrev pub syn : ℕ
syn = 0x16

-- SP, space
abbrev pub sp : ℕ
sp = 0x20

-- +
abbrev pub plus : ℕ
plus = 0x2b

-- -
abbrev pub minus : ℕ
minus = 0x2d

-- 0
abbrev pub digit_zero : ℕ
digit_zero = 0x30

-- :
abbrev pub colon : ℕ
colon = 0x3a

-- A
abbrev pub capital_a : ℕ
capital_a = 0x41

-- the reverse solidus, \
abbrev pub backslash : ℕ
backslash = 0x5c

-- a
abbrev pub small_a : ℕ
small_a = 0x61

-- x
abbrev pub small_x : ℕ
small_x = 0x78

-- A counter increased by one. At the greatest number of 64 bits it may stay unchanged.
abbrev pub CounterRose : ℕ → ℕ → Type 0
CounterRose old new = (new ≡ old + 1) ⊎ ((2 ^ 64 ≤ new + 1) × (old ≤ new) × (new ≤ old + 1))

-- The tokens are a viable prefix: some continuation of them is in the language.
abbrev pub IsViablePrefix : {T : Type 0} → (List T → Type 0) → List T → Type 0
IsViablePrefix {T} Language tokens = (rest : List T) × Language (tokens ++ rest)

-- The tokens are a viable prefix, but with the next token they are not.
abbrev pub EndsViablePrefix : {T : Type 0} → (List T → Type 0) → List T → T → Type 0
EndsViablePrefix {T} Language tokens token = IsViablePrefix Language tokens × (IsViablePrefix Language (tokens ++ token ∷ []) → ⊥)
