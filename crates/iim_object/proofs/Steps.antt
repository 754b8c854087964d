-- The state after each token, and when the tokens are no longer a viable prefix.
use Rattle.iim_object.proofs.Words.{◌≡◌, ℕ, ◌+◌, ◌<◌, ◌≤◌, Bool, List, [], ◌∷◌, ◌++◌, length, map, sum, Option, Some, None, IfSome, unwrap_or, refl, sym, ap, ◌∙◌, arith, append_assoc, append-nil, length-append, AllByRecursion, map-append, nil_from_length, same_Some, IsViablePrefix, greatest_size, all_append, all_last, sum_append, some_of, StatedNumber, HaveNoRepeats, AreStatedNumbers, number_at, mode_number, ObjectToken, NumberRead, SubfileBegun, ObjectEnded, Confirmed, ObjectLanguage, number_tokens, HaveNoClash, StatesModeAndLargest, SubfilesFit, TotalIsAnnounced, Place, NotEnded, ConfirmedAs, tokens_of, place_after, place_start, HasModeAndLargest, MayFollow, end_cause, confirmed_cause, cause_at, IsStateAt, ObjectReaderStandsAt, TokenAdvancesObject, RejectsObjectToken, State, state_with}
use Rattle.iim_object.specs.{Format.Objects.Sizes, Laws.TokensExtendThePlace, Format.Causes.is_given, Format.Causes.number_cause, Format.Causes.subfile_cause}
use Rattle.iim_object.specs.States.Reading.{IsViableWithToken, IsSizes, SizeCause, set_where, state_start}
use Rattle.iim_object.proofs.{Numbers.at-append, Numbers.at_most_size, Numbers.in_row_at, Numbers.mode_at_most_one, Numbers.none-append, Bounded.mode_known}
use Rattle.iim_object.proofs.Subfiles.{numbers_law, subfiles_law, ends_law, confirmed_law}

-- ---- Tokens of a place.

pub not_ended_tokens : (p : Place) → p.ending ≡ NotEnded → tokens_of p ≡ number_tokens p.stated ++ map SubfileBegun p.lengths
not_ended_tokens p e = rw e (simp append-nil)

pub number_before : (p : Place) → p.lengths ≡ [] → p.ending ≡ NotEnded → tokens_of p ≡ number_tokens p.stated
number_before p none not_ended = rw (not_ended, none) (simp append-nil)

pub tokens_extend_the_place : TokensExtendThePlace
tokens_extend_the_place p (NumberRead set number) (not_ended, none, stated) = rw (not_ended, none) (simp (append-nil, map-append))
tokens_extend_the_place p (SubfileBegun count) (not_ended, both, few) = rw not_ended (simp (append-nil, map-append, append_assoc))
tokens_extend_the_place p ObjectEnded (not_ended, some) = rw not_ended (simp (append-nil, append_assoc))
tokens_extend_the_place p (Confirmed n) ended = rw ended (simp append_assoc)

-- ---- What the record layer has accepted.

pub record IsAdmitted (p : Place) : Type 0 where
  pub stated : AreStatedNumbers p.stated
  pub subfiles : p.lengths ≡ [] → p.ending ≡ NotEnded
  pub duties : 0 < length p.lengths → HasModeAndLargest p.stated

pub admitted_at : {reader : Option State} {p : Place} → ObjectReaderStandsAt reader p → IsAdmitted p
admitted_at st = record { stated = st.stated; subfiles = st.subfiles; duties = st.duties }

-- Once the object has ended it has a subfile.
pub some_lengths : (p : Place) → IsAdmitted p → (p.ending ≡ NotEnded → ⊥) → 0 < length p.lengths
some_lengths p a ended = grind (arith, nil_from_length p.lengths)

-- The place stays so with a token that may follow.
pub stays_admitted : (p : Place) (token : ObjectToken) → IsAdmitted p → MayFollow p token → IsAdmitted (place_after p token)
stays_admitted p (NumberRead set n) a (not_ended, none, stated) = record {
  stated = stated;
  subfiles = λ e. not_ended;
  duties = λ some. absurd (omega (arith, ap length none));
}
stays_admitted p (SubfileBegun count) a (not_ended, both, few) = record { stated = a.stated; subfiles = λ e. not_ended; duties = λ some. both }
stays_admitted p ObjectEnded a (not_ended, some) = record { stated = a.stated; subfiles = λ e. absurd (omega (arith, ap length e)); duties = a.duties }
stays_admitted p (Confirmed n) a ended = record { stated = a.stated; subfiles = λ e. absurd (let clash = sym (a.subfiles e) ∙ ended in cc); duties = a.duties }

-- ---- A token without a cause.

-- The last of numbers that do not repeat did not occur before.
pub once_last : (ps : List StatedNumber) (q : StatedNumber) → HaveNoRepeats (ps ++ q ∷ []) → number_at q.set ps ≡ None
once_last [] q o = refl
once_last (p ∷ ps) q o = let rest = once_last ps q o.1 in grind (arith, at-append, none-append)

pub sum_more : (lengths : List ℕ) (count : ℕ) → sum (lengths ++ count ∷ []) ≡ sum lengths + count
sum_more lengths count = grind (arith, sum_append)

-- The announced size is at most the greatest.
pub announced_small : (ps : List StatedNumber) → AreStatedNumbers ps → IfSome (number_at 90 ps) (λ a. a ≤ greatest_size)
announced_small ps stated = grind (arith, in_row_at, at_most_size)

-- If there is no cause, there is no clash.
pub clear_numbers : (ps : List StatedNumber) → number_cause (number_at 10 ps) (number_at 90 ps) (number_at 95 ps) ≡ None → HaveNoClash ps
clear_numbers ps e = grind arith

no_number_cause : (ps : List StatedNumber) → HaveNoClash ps → number_cause (number_at 10 ps) (number_at 90 ps) (number_at 95 ps) ≡ None
no_number_cause ps clash = grind arith

-- Mode and largest subfile are stated.
pub both_of : (ps : List StatedNumber) → AreStatedNumbers ps → HasModeAndLargest ps → (known : Bool) × (subfile : ℕ) × StatesModeAndLargest known subfile ps
both_of ps stated both =
    let mode = some_of (number_at 10 ps) both.0 in
    let largest = some_of (number_at 20 ps) both.1 in
    let known = mode_known mode.0 (mode_at_most_one mode.0 (in_row_at 10 mode.0 ps stated.each mode.1)) in
    (known.0, largest.0, record { stated = stated; mode = mode.1 ∙ ap (λ (n : ℕ). Some n) known.1; largest = largest.1 })

-- The numbers do not clash, and no subfile is too long.
so_far : (known : Bool) (subfile : ℕ) (ps : List StatedNumber) (lengths : List ℕ) → StatesModeAndLargest known subfile ps
    → IsViablePrefix ObjectLanguage (number_tokens ps ++ map SubfileBegun lengths)
    → HaveNoClash ps × AllByRecursion (λ n. n ≤ subfile) lengths
so_far known subfile ps [] d alive = ((numbers_law ps d.stated).0 (rw append-nil at alive), tt)
so_far known subfile ps (l ∷ lengths) d alive = let fit = (subfiles_law known subfile ps (l ∷ lengths) d (omega arith)).0 alive in (fit.clash, fit.each)

-- If there is no cause, one more subfile fits.
subfile_fits : (known : Bool) (subfile : ℕ) (ps : List StatedNumber) (lengths : List ℕ) (count : ℕ) → StatesModeAndLargest known subfile ps → HaveNoClash ps
    → AllByRecursion (λ n. n ≤ subfile) lengths
    → IfSome (number_at 90 ps) (λ a. a ≤ greatest_size)
    → subfile_cause (number_at 10 ps) (number_at 20 ps) (number_at 90 ps) (number_at 95 ps) (sum lengths) count ≡ None
    → SubfilesFit known subfile ps (lengths ++ count ∷ [])
subfile_fits known subfile ps lengths count d clash each small clear = grind (arith, sum_more, all_append)

no_subfile_cause : (known : Bool) (subfile : ℕ) (ps : List StatedNumber) (lengths : List ℕ) (count : ℕ) → StatesModeAndLargest known subfile ps
    → SubfilesFit known subfile ps (lengths ++ count ∷ [])
    → subfile_cause (number_at 10 ps) (number_at 20 ps) (number_at 90 ps) (number_at 95 ps) (sum lengths) count ≡ None
no_subfile_cause known subfile ps lengths count d fit = grind (arith, sum_more, all_last)

whole_of : (ps : List StatedNumber) (lengths : List ℕ) → IfSome (number_at 90 ps) (λ a. sum lengths ≤ a) → end_cause (number_at 90 ps) (sum lengths) ≡ None
    → TotalIsAnnounced ps lengths
whole_of ps lengths fits e = grind arith

no_end_cause : (ps : List StatedNumber) (lengths : List ℕ) → TotalIsAnnounced ps lengths → end_cause (number_at 90 ps) (sum lengths) ≡ None
no_end_cause ps lengths whole = grind arith

-- With a token the tokens are a viable prefix exactly if it has no cause.
pub lives_on : {reader : Option State} (p : Place) (token : ObjectToken) → ObjectReaderStandsAt reader p → MayFollow p token
    → (IsViablePrefix ObjectLanguage (tokens_of (place_after p token)) → cause_at p token ≡ None)
    × (cause_at p token ≡ None → IsViablePrefix ObjectLanguage (tokens_of (place_after p token)))
lives_on p (NumberRead set n) st (not_ended, none, stated) =
    let law = numbers_law (place_after p (NumberRead set n)).stated stated in
    rw (number_before (place_after p (NumberRead set n)) none not_ended) (λ alive. no_number_cause _ (law.0 alive), λ e. law.1 (clear_numbers _ e))
lives_on p (SubfileBegun count) st (not_ended, both, few) =
    let (known, subfile, d) = both_of p.stated st.stated both in
    let so = so_far known subfile p.stated p.lengths d (rw (not_ended_tokens p not_ended) at st.alive) in
    let law = subfiles_law known subfile p.stated (p.lengths ++ count ∷ []) d (omega (arith, length-append p.lengths (count ∷ []))) in
    rw (not_ended_tokens (place_after p (SubfileBegun count)) not_ended) (
      λ alive. no_subfile_cause known subfile p.stated p.lengths count d (law.0 alive),
      λ e. law.1 (subfile_fits known subfile p.stated p.lengths count d so.0 so.1 (announced_small p.stated st.stated) e),
    )
lives_on p ObjectEnded st (not_ended, some) =
    let (known, subfile, d) = both_of p.stated st.stated (st.duties some) in
    let fit = (subfiles_law known subfile p.stated p.lengths d some).0 (rw (not_ended_tokens p not_ended) at st.alive) in
    let law = ends_law known subfile p.stated p.lengths d some in
    (λ alive. no_end_cause p.stated p.lengths (law.0 alive).1, λ e. law.1 (fit, whole_of p.stated p.lengths fit.announced e))
lives_on p (Confirmed n) st ended =
    let some = some_lengths p (admitted_at st) (λ e. let clash = sym e ∙ ended in cc) in
    let (known, subfile, d) = both_of p.stated st.stated (st.duties some) in
    let fit = (ends_law known subfile p.stated p.lengths d some).0 (rw ended at st.alive) in
    let law = confirmed_law known subfile p.stated p.lengths n d some in
    (λ alive. let same = (law.0 alive).2 in grind arith, λ e. law.1 (fit.0, fit.1, grind arith))

-- ---- The state.

-- the state after a token
abbrev pub next : State → ObjectToken → State
next s (NumberRead set n) = state_with s set n
next s (SubfileBegun count) = record s { subfiles = s.subfiles + 1; total = s.total + count }
next s _ = s

-- the cause against a token, by the state
abbrev pub cause_in : State → ObjectToken → Option SizeCause
cause_in s (NumberRead set n) = number_cause (state_with s set n).mode (state_with s set n).announced (state_with s set n).maximum
cause_in s (SubfileBegun count) = subfile_cause s.mode s.subfile s.announced s.maximum s.total count
cause_in s ObjectEnded = end_cause s.announced s.total
cause_in s (Confirmed n) = confirmed_cause s.total n

-- The state of the reader is that of the place.
pub tells_of : (s : State) (p : Place) → ObjectReaderStandsAt (Some s) p → IsStateAt s p
tells_of s p st = rw (same_Some s st.state st.is_state) st.tells

at_set : (wanted set number : ℕ) (ps : List StatedNumber) → number_at set ps ≡ None
    → set_where wanted set number (number_at wanted ps) ≡ number_at wanted (ps ++ record { set = set; number = number } ∷ [])
at_set wanted set number ps none = grind (arith, at-append, none-append)

tells_next : (s : State) (p : Place) (token : ObjectToken) → IsStateAt s p → MayFollow p token → IsStateAt (next s token) (place_after p token)
tells_next s p (NumberRead set number) t (not_ended, none, stated) =
    let fresh : number_at set p.stated ≡ None = once_last p.stated (record { set = set; number = number }) stated.once in
    record {
      mode = ap (set_where 10 set number) t.mode ∙ at_set 10 set number p.stated fresh;
      largest = ap (set_where 20 set number) t.largest ∙ at_set 20 set number p.stated fresh;
      announced = ap (set_where 90 set number) t.announced ∙ at_set 90 set number p.stated fresh;
      maximum = ap (set_where 95 set number) t.maximum ∙ at_set 95 set number p.stated fresh;
      subfiles = t.subfiles;
      total = t.total;
    }
tells_next s p (SubfileBegun count) t may = record {
  mode = t.mode;
  largest = t.largest;
  announced = t.announced;
  maximum = t.maximum;
  subfiles = omega (arith, t.subfiles, length-append p.lengths (count ∷ []));
  total = omega (arith, t.total, sum_more p.lengths count);
}
tells_next s p token t may = record { mode = t.mode; largest = t.largest; announced = t.announced; maximum = t.maximum; subfiles = t.subfiles; total = t.total }

-- The cause by the state is that by the place.
cause_is : (s : State) (p : Place) (token : ObjectToken) → IsStateAt s p → MayFollow p token → cause_in s token ≡ cause_at p token
cause_is s p (NumberRead set n) t may = let u = tells_next s p (NumberRead set n) t may in cc
cause_is s p token t may = cc

-- A token without a cause reaches the next state, and one with a cause is rejected.
pub leads_on : (s : State) (token : ObjectToken) → cause_in s token ≡ None → TokenAdvancesObject (Some s) token (Some (next s token))
leads_on s token e p st may =
    let t = tells_of s p st in
    let a = stays_admitted p token (admitted_at st) may in
    record {
      state = next s token;
      is_state = refl;
      tells = tells_next s p token t may;
      stated = a.stated;
      subfiles = a.subfiles;
      duties = a.duties;
      alive = (lives_on p token st may).1 (sym (cause_is s p token t may) ∙ e);
    }

pub refused : (s : State) (token : ObjectToken) (c : SizeCause) → cause_in s token ≡ Some c → RejectsObjectToken (Some s) token c
refused s token c e p st may =
    let cause = sym (cause_is s p token (tells_of s p st) may) ∙ e in
    ((st.alive, λ alive. let none = (lives_on p token st may).0 (rw (tokens_extend_the_place p token may) alive) in cc), cause)

-- With a token that reaches the next state, the tokens are a viable prefix.
pub lives_with : (old new : Option State) (token : ObjectToken) → TokenAdvancesObject old token new → IsViableWithToken old token
lives_with old new token goes p st may = rw (tokens_extend_the_place p token may) at (goes p st may).alive

-- ---- The beginning, and the sizes at the end.

pub starts : ObjectReaderStandsAt (Some state_start) place_start
starts = record {
  state = state_start;
  is_state = refl;
  tells = record { mode = refl; largest = refl; announced = refl; maximum = refl; subfiles = refl; total = refl };
  stated = record { each = tt; once = tt };
  subfiles = λ e. refl;
  duties = λ some. absurd (omega arith);
  alive = (numbers_law [] (record { each = tt; once = tt })).1 (record { mode = λ e. refl; sizes = λ a m e f. absurd cc });
}

known_is : (o : Option ℕ) (known : Bool) → o ≡ Some (mode_number known) → is_given o 1 ≡ known
known_is o known e = grind arith

-- the sizes of a state
abbrev pub sizes_in : State → Sizes
sizes_in s = record {
  known = is_given s.mode 1;
  subfile = unwrap_or s.subfile 0;
  announced = s.announced;
  maximum = s.maximum;
  subfiles = s.subfiles;
  total = s.total;
}

pub sizes_are : (s : State) (p : Place) (n : ℕ) → ObjectReaderStandsAt (Some s) p → p.ending ≡ ConfirmedAs n → IsSizes p (sizes_in s)
sizes_are s p n st e =
    let t = tells_of s p st in
    let (known, subfile, d) = both_of p.stated st.stated (st.duties (some_lengths p (admitted_at st) (λ f. let clash = sym f ∙ e in cc))) in
    let mode : is_given s.mode 1 ≡ known = known_is s.mode known (t.mode ∙ d.mode) in
    let largest : s.subfile ≡ Some subfile = t.largest ∙ d.largest in
    (known, subfile, d.mode, d.largest, cc)
