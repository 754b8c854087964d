-- At a possible place the tokens are a viable prefix for each smaller greatest size that the place
-- does not exceed.
use Rattle.iim_object.proofs.Words.{◌≡◌, ℕ, ◌<◌, ◌≤◌, List, [], ◌∷◌, ◌++◌, length, map, sum, refl, arith, append-nil, IsViablePrefix, StatedNumber, AreStatedNumbers, SubfileBegun, ObjectLanguage, number_tokens, Ending, NotEnded, HasModeAndLargest, ending_tokens, LanguageWithin}
use Rattle.iim_object.specs.Laws.{PlacesAreViableWithin}
use Rattle.iim_object.proofs.{Numbers.AreLow, Numbers.numbers_low, Steps.both_of}
use Rattle.iim_object.proofs.Subfiles.{numbers_law, lives_by, alive_within, numbers_alive_within}

by_lengths : (most : ℕ) (ps : List StatedNumber) (ls : List ℕ) (ending : Ending) → 1 ≤ most → AreLow most ps → sum ls ≤ most → AreStatedNumbers ps
    → (ls ≡ [] → ending ≡ NotEnded) → (0 < length ls → HasModeAndLargest ps)
    → IsViablePrefix ObjectLanguage (number_tokens ps ++ (map SubfileBegun ls ++ ending_tokens ending))
    → IsViablePrefix (LanguageWithin most) (number_tokens ps ++ (map SubfileBegun ls ++ ending_tokens ending))
by_lengths most ps [] ending one low le stated none duties alive =
    rw (none refl, append-nil) (numbers_alive_within most one ps low stated ((numbers_law ps stated).0 (rw (none refl, append-nil) at alive)))
by_lengths most ps (l ∷ ls) ending one low le stated none duties alive =
    let (known, subfile, d) = both_of ps stated (duties (omega arith)) in
    let (fit, ends) = lives_by known subfile ps (l ∷ ls) ending d (omega arith) alive in
    alive_within most known subfile ps (l ∷ ls) ending low le d (omega arith) fit ends

pub live_within : PlacesAreViableWithin
live_within most p one is fits total =
    by_lengths most p.stated p.lengths p.ending one (numbers_low most p.stated (map SubfileBegun p.lengths ++ ending_tokens p.ending) fits) total is.stated
    is.subfiles is.duties is.alive
