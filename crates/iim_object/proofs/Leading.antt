-- Tokens reach the possible places.
use Rattle.iim_object.proofs.Words.{◌≡◌, ℕ, ◌<◌, ◌≤◌, List, [], ◌∷◌, ◌++◌, length, map, refl, sym, ap, subst, ◌∙◌, arith, append_assoc, append-nil, length-append, IsViablePrefix, max_subfiles, StatedNumber, AreStatedNumbers, ObjectToken, SubfileBegun, ObjectLanguage, number_tokens, Place, Ending, NotEnded, Ended, ConfirmedAs, HasModeAndLargest, MayFollow, ending_tokens, place_start, place_after, tokens_of, IsPossible, TokensReachPlace}
use Rattle.iim_object.specs.Laws.{PossiblePlacesAreReached}
use Rattle.iim_object.proofs.{Leads.stated_front, Steps.IsAdmitted, Steps.admitted_at, Steps.starts, Steps.stays_admitted, Steps.tokens_extend_the_place}

-- ---- What tokens reach.

few_after : (p : Place) (token : ObjectToken) → length p.lengths ≤ max_subfiles → MayFollow p token → length (place_after p token).lengths ≤ max_subfiles
few_after p (SubfileBegun count) few may = omega (arith, may.2, length-append p.lengths (count ∷ []))
few_after p token few may = few

admitted_after : (p q : Place) (tokens : List ObjectToken) → IsAdmitted p → length p.lengths ≤ max_subfiles → TokensReachPlace p tokens q
    → IsAdmitted q × (length q.lengths ≤ max_subfiles)
admitted_after p q [] a few e = rw (← e) (a, few)
admitted_after p q (token ∷ tokens) a few (follows, leads) =
    admitted_after (place_after p token) q tokens (stays_admitted p token a follows) (few_after p token few follows) leads

-- The tokens of a place are those before and the ones that reach it from there.
pub tokens_after : (p q : Place) (tokens : List ObjectToken) → TokensReachPlace p tokens q → tokens_of q ≡ tokens_of p ++ tokens
tokens_after p q [] e = ap tokens_of (sym e) ∙ sym (append-nil (tokens_of p))
tokens_after p q (token ∷ tokens) (follows, leads) =
    tokens_after (place_after p token) q tokens leads
    ∙ (ap (λ (t : List ObjectToken). t ++ tokens) (tokens_extend_the_place p token follows) ∙ append_assoc (tokens_of p) (token ∷ []) tokens)

led_possible : (p : Place) (tokens : List ObjectToken) → TokensReachPlace place_start tokens p → IsViablePrefix ObjectLanguage tokens → IsPossible p
led_possible p tokens leads alive =
    let a = admitted_after place_start p tokens (admitted_at starts) (omega arith) leads in
    record { stated = a.0.stated; subfiles = a.0.subfiles; duties = a.0.duties; few = a.1; alive = rw (tokens_after place_start p tokens leads) alive }

-- ---- Tokens that reach a place.

lead_on : (p q r : Place) (xs ys : List ObjectToken) → TokensReachPlace p xs q → TokensReachPlace q ys r → TokensReachPlace p (xs ++ ys) r
lead_on p q r [] ys e next = subst (λ (x : Place). TokensReachPlace x ys r) (sym e) next
lead_on p q r (x ∷ xs) ys (follows, leads) next = (follows, lead_on (place_after p x) q r xs ys leads next)

abbrev place_of : List StatedNumber → List ℕ → Ending → Place
place_of ps lengths ending = record { stated = ps; lengths = lengths; ending = ending }

numbers_on : (front rest : List StatedNumber) → AreStatedNumbers (front ++ rest)
    → TokensReachPlace (place_of front [] NotEnded) (number_tokens rest) (place_of (front ++ rest) [] NotEnded)
numbers_on front [] h = λ i. place_of (sym (append-nil front) i) [] NotEnded
numbers_on front (q ∷ rest) h =
    let joined : (front ++ q ∷ []) ++ rest ≡ front ++ q ∷ rest = append_assoc front (q ∷ []) rest in
    let all : AreStatedNumbers ((front ++ q ∷ []) ++ rest) = (rw joined h) in
    ((refl, refl, stated_front (front ++ q ∷ []) rest all), rw joined at (numbers_on (front ++ q ∷ []) rest all))

subfiles_on : (ps : List StatedNumber) (front rest : List ℕ) → (0 < length rest → HasModeAndLargest ps) → length (front ++ rest) ≤ max_subfiles
    → TokensReachPlace (place_of ps front NotEnded) (map SubfileBegun rest) (place_of ps (front ++ rest) NotEnded)
subfiles_on ps front [] both few = λ i. place_of ps (sym (append-nil front) i) NotEnded
subfiles_on ps front (l ∷ rest) both few =
    let joined : (front ++ l ∷ []) ++ rest ≡ front ++ l ∷ rest = append_assoc front (l ∷ []) rest in
    let duties : HasModeAndLargest ps = both (omega arith) in
    let few_joined = (rw (← joined) at few) in
    ((refl, duties, omega (arith, few, length-append front (l ∷ rest))), rw joined at (subfiles_on ps (front ++ l ∷ []) rest (λ some. duties) few_joined))

some_length : (lengths : List ℕ) → (lengths ≡ [] → ⊥) → 0 < length lengths
some_length [] out = absurd (out refl)
some_length (l ∷ lengths) out = omega arith

ending_on : (ps : List StatedNumber) (lengths : List ℕ) (ending : Ending) → (lengths ≡ [] → ending ≡ NotEnded)
    → TokensReachPlace (place_of ps lengths NotEnded) (ending_tokens ending) (place_of ps lengths ending)
ending_on ps lengths NotEnded h = refl
ending_on ps lengths Ended h = ((refl, some_length lengths (λ e. let clash = h e in cc)), refl)
ending_on ps lengths (ConfirmedAs n) h = ((refl, some_length lengths (λ e. let clash = h e in cc)), (refl, refl))

possible_led : (p : Place) → IsPossible p → TokensReachPlace place_start (tokens_of p) p
possible_led p h =
    let heads : List ObjectToken = map SubfileBegun p.lengths in
    let subfiles : TokensReachPlace (place_of p.stated [] NotEnded) heads (place_of p.stated p.lengths NotEnded) = subfiles_on p.stated [] p.lengths h.duties
    h.few in
    let rest : TokensReachPlace (place_of p.stated [] NotEnded) (heads ++ ending_tokens p.ending) p =
    lead_on (place_of p.stated [] NotEnded) (place_of p.stated p.lengths NotEnded) p heads (ending_tokens p.ending) subfiles
    (ending_on p.stated p.lengths p.ending h.subfiles) in
    lead_on place_start (place_of p.stated [] NotEnded) p (number_tokens p.stated) (heads ++ ending_tokens p.ending) (numbers_on [] p.stated h.stated) rest

pub led_law : PossiblePlacesAreReached
led_law p = (λ h. (tokens_of p, possible_led p h, h.alive), λ t. led_possible p t.0 t.1 t.2)
