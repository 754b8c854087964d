-- From places that give the same state, the same tokens reach places that give the same state.
use Rattle.iim_object.proofs.Words.{◌≡◌, ℕ, List, [], ◌∷◌, ◌++◌, length, Option, Some, None, is_some, refl, sym, ap, ◌∙◌, arith, nil_from_length, IsViablePrefix, all_append, all_last, StatedNumber, IsAllowedByRow, number_at, ObjectToken, NumberRead, SubfileBegun, ObjectEnded, Confirmed, ObjectLanguage, Place, MayFollow, place_after, tokens_of, IsStateAt, ObjectReaderStandsAt, TokenAdvancesObject, State, TokensReachPlace}
use Rattle.iim_object.specs.{States.Reading.SizeCause, Laws.ReadersDetermineLaterPlaces}
use Rattle.iim_object.proofs.{Numbers.once-append, Subfiles.front_lives, Saved.one_state, Leading.tokens_after}
use Rattle.iim_object.proofs.Steps.{tells_of, once_last, cause_in, next, leads_on, refused, tokens_extend_the_place}

-- ---- A token follows at both places.

same_number : (s : State) (p q : Place) (set n : ℕ) → IsStateAt s p → IsStateAt s q → IsAllowedByRow (record {
  set = set;
  number = n;
}) → number_at set p.stated ≡ number_at set q.stated
same_number s p q set n t u row = grind arith

follows_too : (s : State) (p q : Place) (token : ObjectToken) → ObjectReaderStandsAt (Some s) p → ObjectReaderStandsAt (Some s) q → p.ending ≡ q.ending
    → MayFollow p token
    → MayFollow q token
follows_too s p q (NumberRead set n) x y e (not_ended, none, stated) =
    let t = tells_of s p x in let u = tells_of s q y in
    let item : StatedNumber = record { set = set; number = n } in
    let row = all_last IsAllowedByRow p.stated item stated.each in
    let fresh : number_at set q.stated ≡ None = sym (same_number s p q set n t u row) ∙ once_last p.stated item stated.once in (
      sym e ∙ not_ended,
      nil_from_length q.lengths (omega (arith, t.subfiles, u.subfiles, ap length none)),
      record { each = all_append IsAllowedByRow q.stated (item ∷ []) y.stated.each (row, tt); once = once-append q.stated item y.stated.once fresh },
    )
follows_too s p q (SubfileBegun count) x y e (not_ended, both, few) =
    let t = tells_of s p x in let u = tells_of s q y in (
      sym e ∙ not_ended,
      (ap is_some (sym u.mode ∙ t.mode) ∙ both.0, ap is_some (sym u.largest ∙ t.largest) ∙ both.1),
      omega (arith, few, t.subfiles, u.subfiles),
    )
follows_too s p q ObjectEnded x y e (not_ended, some) = let t = tells_of s p x in let u = tells_of s q y in (
  sym e ∙ not_ended,
  omega (arith, t.subfiles, u.subfiles),
)
follows_too s p q (Confirmed n) x y e ended = sym e ∙ ended

same_ending : (p q : Place) (token : ObjectToken) → p.ending ≡ q.ending → (place_after p token).ending ≡ (place_after q token).ending
same_ending p q ObjectEnded e = refl
same_ending p q (Confirmed n) e = refl
same_ending p q token e = e

-- ---- Tokens.

-- A token with which the tokens are a viable prefix reaches the next state.
next_of : (s : State) (p : Place) (token : ObjectToken) → ObjectReaderStandsAt (Some s) p → MayFollow p token → IsViablePrefix ObjectLanguage
    (tokens_of p ++ token ∷ [])
    → TokenAdvancesObject (Some s) token (Some (next s token))
next_of s p token st follows alive = by_cause (cause_in s token) refl
  where
    by_cause : (o : Option SizeCause) → cause_in s token ≡ o → TokenAdvancesObject (Some s) token (Some (next s token))
    by_cause None e = leads_on s token e
    by_cause (Some cause) e = absurd ((refused s token cause e p st follows).0.1 alive)

alike : (tokens : List ObjectToken) (s : State) (new : Option State) (p q r : Place) → ObjectReaderStandsAt (Some s) p → ObjectReaderStandsAt (Some s) q
    → p.ending ≡ q.ending
    → TokensReachPlace p tokens r → ObjectReaderStandsAt new r
    → (t : Place) × TokensReachPlace q tokens t × ObjectReaderStandsAt new t × (r.ending ≡ t.ending)
alike [] s new p q r x y e leads z = (q, refl, rw (one_state new (Some s) r z (rw leads at x)) y, rw (← leads) e)
alike (token ∷ tokens) s new p q r x y e (follows, leads) z =
    let mid : Place = place_after p token in
    let lives : IsViablePrefix ObjectLanguage (tokens_of mid) = front_lives ObjectLanguage (tokens_of mid) tokens (rw
    (tokens_after mid r tokens leads) at z.alive) in
    let goes = next_of s p token x follows (rw (tokens_extend_the_place p token follows) at lives) in
    let too = follows_too s p q token x y e follows in
    let on = alike tokens (next s token) new mid (place_after q token) r (goes p x follows) (goes q y too) (same_ending p q token e) leads z in
    (on.0, (too, on.1), on.2, on.3)

pub alike_law : ReadersDetermineLaterPlaces
alike_law old new p q r tokens x y e leads z = alike tokens x.state new p q r (rw x.is_state at x) (rw x.is_state at y) e leads z
