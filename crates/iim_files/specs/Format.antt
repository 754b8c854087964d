-- A text whose lines begin with a prefix.
use Rattle.std.specs.Prelude.{ℕ, Bool, List, [], ◌∷◌, ◌++◌, if◌then◌else◌, ◌==◌}
use Rattle.iim_dataset.specs.Format.Octets.{lf}

-- whether the next octet is the first of a line; `fresh` states this for the first of these octets
abbrev pub begins_line : Bool → List ℕ → Bool
begins_line fresh [] = fresh
begins_line fresh (octet ∷ octets) = begins_line (octet == lf) octets

-- the prefix if the next octet is the first of a line, otherwise nothing
abbrev pub front : List ℕ → Bool → List ℕ
front prefix fresh = if fresh then prefix else []

-- the text with the prefix before each of its lines, except before the first line if the text
-- begins inside that line
abbrev pub prefixed : List ℕ → Bool → List ℕ → List ℕ
prefixed prefix fresh [] = []
prefixed prefix fresh (octet ∷ octets) = front prefix fresh ++ (octet ∷ prefixed prefix (octet == lf) octets)
