-- Lines joined by LF, masks of octets, and lemmas about collected lines.
use Rattle.std.specs.Prelude.{ℕ, ◌==◌, List, if◌then◌else◌, ◌≡◌, ◌+◌, ◌-◌, ◌^◌, ◌<◌, ◌≤◌, Bool, nat_lt, length, take, drop, map}
use Rattle.std.specs.{List.slice_split, Simd.Lanes.mask_l}
use Rattle.std.proofs.Common.{rules, [], ◌∷◌, ◌++◌, refl, ap, ◌∙◌, false, arith}
use Rattle.std.proofs.lemmas.List.{map-append}
use Rattle.iim_dataset.specs.{Steps.appends_nothing, Steps.appends_joined, Format.Octets.lf, States.Devices.Device}
use Rattle.wire_story.specs.Format.Texts.{max_returns, line_end, LineOctet, inside_after, StoryEvent, LineEnd, octet_for, is_word_octet, WordsSoFar, words_of_events, CountsWords}
use Rattle.wire_story.specs.States.Reading.{add_octet, collect, WritesToTarget}
use Rattle.wire_story.specs.declared.marks.Marks.{Marks}

-- the lines in octets that are joined by LF
abbrev pub lines_in : List ℕ → List (List ℕ)
lines_in octets = slice_split (λ b. b == lf) octets

-- The octet is low: less than every octet that is certainly allowed in a line.
abbrev pub is_low : ℕ → Bool
is_low b = nat_lt b 14

-- 0 if octets of a line end inside a word, otherwise 1; `inside` is whether the octets before them
-- end inside a word
abbrev pub outside_after : Bool → List ℕ → ℕ
outside_after inside xs = if inside_after inside (map LineOctet xs) then 0 else 1

-- The mask covers the next `many` octets: it has a bit for each, and the sentinel bit above these
-- bits.
pub record MaskCovers (xs : List ℕ) (m : Marks) : Type 0 where
  pub many : ℕ
  pub within : many ≤ length xs
  pub few : many ≤ 16
  pub is : m.left ≡ mask_l (map is_low (take many xs)) + 2 ^ many

-- The first `used` octets, one or more, were consumed. Afterwards `held` CR are pending, and this
-- is the mask of the remaining octets.
pub record IsTextPrefix (rest : List ℕ) (held used : ℕ) (marks : Marks) : Type 0 where
  pub few : held ≤ max_returns
  pub some : 0 < used
  pub within : used ≤ length rest
  pub next : MaskCovers (drop used rest) marks

-- A line end of `end` octets is first: LF alone, or CR LF.
pub record BeginsWithLineEnd (rest : List ℕ) (end : ℕ) : Type 0 where
  pub some : 0 < end
  pub few : end ≤ 2
  pub within : end ≤ length rest
  pub is : take end rest ≡ line_end (end - 1)

-- ---- Lemmas about collected lines, for the implementation of the sink's trait.

pub collect-append : (lines : List (List ℕ)) (xs ys : List StoryEvent) → collect lines (xs ++ ys) ≡ collect (collect lines xs) ys
collect-append lines [] ys = refl
collect-append lines (LineOctet b ∷ xs) ys = collect-append (add_octet lines b) xs ys
collect-append lines (LineEnd ∷ xs) ys = collect-append (lines ++ [] ∷ []) xs ys

pub collect_joined : (a b c : List (List ℕ)) (xs ys : List StoryEvent) → b ≡ collect a xs → c ≡ collect b ys → c ≡ collect a (xs ++ ys)
collect_joined a b c xs ys first later = later ∙ (ap (λ (lines : List (List ℕ)). collect lines ys) first ∙ rw collect-append refl)

-- ---- Lemmas about a counter of words, for the implementation of the sink's trait.

pub told-append : (inside : Bool) (xs ys : List StoryEvent)
    → (words_of_events inside (xs ++ ys) ≡ words_of_events inside xs + words_of_events (inside_after inside xs) ys)
    × (inside_after inside (xs ++ ys) ≡ inside_after (inside_after inside xs) ys)
told-append inside [] ys = (omega arith, refl)
told-append inside (LineOctet b ∷ xs) ys = let more = told-append (is_word_octet b) xs ys in (omega (arith, more.0), more.1)
told-append inside (LineEnd ∷ xs) ys = told-append false xs ys

pub counts_nothing : (sink : WordsSoFar) → CountsWords sink [] sink
counts_nothing sink = search (rules, arith)

pub counts_joined : (a b c : WordsSoFar) (xs ys : List StoryEvent) → CountsWords a xs b → CountsWords b ys c → CountsWords a (xs ++ ys) c
counts_joined a b c xs ys first later = record {
  words = λ few. omega (arith, first.words, rw first.inside at later.words, (told-append a.inside xs ys).0);
  inside = rw (later.inside, first.inside, (told-append a.inside xs ys).1) refl;
}

-- ---- Lemmas about writers of lines, for the implementation of the sink's trait.

pub writes_nothing : (device : Device) (stops : ℕ) → WritesToTarget device device stops stops []
writes_nothing device stops = search (rules, arith, appends_nothing)

pub writes_joined : (a b c : Device) (i j k : ℕ) (xs ys : List StoryEvent) → WritesToTarget a b i j (map octet_for xs) → WritesToTarget b c j k (map octet_for ys)
    → WritesToTarget a c i k (map octet_for (xs ++ ys))
writes_joined a b c i j k xs ys h l = record {
  octets = rw map-append (appends_joined a.octets b.octets c.octets (map octet_for xs) (map octet_for ys) h.octets l.octets);
  failures = omega arith;
  interruptions = omega arith;
  stops = omega arith;
  broken = grind (arith, h.broken, l.broken);
  unbroken = grind (arith, h.unbroken, l.unbroken);
}

pub octets_of_line : (line : List ℕ) → map octet_for (map LineOctet line) ≡ line
octets_of_line [] = refl
octets_of_line (b ∷ bs) = ap (λ (t : List ℕ). b ∷ t) (octets_of_line bs)
