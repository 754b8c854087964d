-- The model of a writer of prefixed lines.
use Rattle.std.specs.Prelude.{◌≡◌, ℕ, ◌-◌, Bool, true, List, [], ◌∷◌, ◌++◌, length, take, drop, if◌then◌else◌, ◌==◌, zero, suc, ◌&&◌, ◌||◌, Option, Some, None}
use Rattle.std.specs.Str.{bytes_eq}
use mathlib.Core.Bool.{beq}
use Rattle.iim_dataset.specs.{Format.Octets.lf, States.Devices.Device}
use Rattle.iim_files.specs.Format.{begins_line, prefixed}

-- the octets without prefixes: the first `skip` octets belong to a prefix, and so do the first
-- `size` octets after each LF
abbrev pub stripped : ℕ → ℕ → List ℕ → List ℕ
stripped size skip [] = []
stripped size zero (octet ∷ octets) = octet ∷ stripped size (if octet == lf then size else 0) octets
stripped size (suc skip) (octet ∷ octets) = stripped size skip octets

-- the last `count` octets, and those before them
abbrev pub own : ℕ → List ℕ → List ℕ
own count octets = drop (length octets - count) octets

abbrev pub before : ℕ → List ℕ → List ℕ
before count octets = take (length octets - count) octets

-- the text in the last `count` octets, in which each line has a prefix of this size
abbrev pub text_of : ℕ → ℕ → List ℕ → List ℕ
text_of size count octets = stripped size size (own count octets)

-- The model before anything was written: the prefix and the octets, each after its length.
abbrev pub started : List ℕ → List ℕ → List ℕ
started prefix octets = length prefix ∷ (prefix ++ (length octets ∷ octets))

-- The model of octets of which the last `count` have a prefix in each line: the octets before them,
-- and then their text.
abbrev pub seen_octets : List ℕ → ℕ → List ℕ → List ℕ
seen_octets prefix count octets = started prefix (before count octets) ++ text_of (length prefix) count octets

-- The last `count` octets are a text with this prefix in each line, followed by the first `cut`
-- octets of the prefix. `fresh` is whether the next octet of the text is the first of a line. `cut`
-- is 0 unless a write failed.
abbrev pub is_prefixed_text : List ℕ → ℕ → ℕ → Bool → Bool → List ℕ → Bool
is_prefixed_text prefix count cut fresh broken octets =
    bytes_eq (own count octets) (prefixed prefix true (text_of (length prefix) count octets) ++ take cut prefix)
    && (beq fresh (begins_line true (text_of (length prefix) count octets)) && (broken || cut == 0))

-- the model of the octets, or nothing if they are not such lines
abbrev pub text_seen_of : List ℕ → ℕ → ℕ → Bool → Bool → List ℕ → Option (List ℕ)
text_seen_of prefix count cut fresh broken octets =
    if is_prefixed_text prefix count cut fresh broken octets then Some (seen_octets prefix count octets) else None

-- the text, followed by LF unless its last line has ended
abbrev pub ended : List ℕ → List ℕ
ended text = text ++ (if begins_line true text then [] else lf ∷ [])
