-- Each token takes a state that tokens reach to another one.
use Rattle.iim_object.proofs.Words.{◌≡◌, ℕ, ◌+◌, ◌≤◌, ◌∷◌, [], length, Option, Some, None, is_some, true, false, refl, ap, ◌∙◌, arith, inl, inr, length-append, greatest_size, all_last, some_of, IsAllowedByRow, ObjectToken, NumberRead, SubfileBegun, ObjectEnded, Confirmed, Place, MayFollow, place_after, end_cause, confirmed_cause, HasNumbers, IsState, SubfileMayCome, state_with, ObjectReaderStandsAt, RejectsObjectToken, State}
use Rattle.iim_dataset.proofs.Lists.{no_some}
use Rattle.iim_object.specs.declared.reading.fault.SizeCause.TheVariants.{ModeClash}
use Rattle.iim_object.specs.States.Reading.{NumberMayCome, ObjectMayEndAs, RejectsObjectEnd, SizeCause}
use Rattle.iim_object.proofs.Steps.{cause_in, next, tells_of, leads_on, refused}
use Rattle.iim_object.proofs.Reached.{mode_in, largest_in, place_in, tells_in, stands_in, state_of}

-- ---- Tokens that may not come next.

-- the state accepts the token
abbrev pub Takes : State → ObjectToken → Type 0
Takes s (NumberRead set number) = NumberMayCome s set number
Takes s (SubfileBegun count) = SubfileMayCome s
Takes s _ = Unit {0}

-- If a token may follow, the state accepts it.
pub takes_of : (s : State) (token : ObjectToken) (p : Place) → ObjectReaderStandsAt (Some s) p → MayFollow p token → Takes s token
takes_of s (NumberRead set number) p st (not_ended, none, stated) = (
  (tells_of s p st).subfiles ∙ ap length none,
  all_last IsAllowedByRow p.stated (record {
    set = set;
    number = number;
  }) stated.each,
)
takes_of s (SubfileBegun count) p st (not_ended, both, few) = let t = tells_of s p st in (
  ap is_some t.mode ∙ both.0,
  ap is_some t.largest ∙ both.1,
  omega (arith, t.subfiles, few),
)
takes_of s _ p st may = tt

-- A token that is not accepted, or has a cause, is rejected.
pub refuses : (s : State) (token : ObjectToken) → (Takes s token × (cause_in s token ≡ None) → ⊥) → (cause : SizeCause) × RejectsObjectToken
    (Some s) token cause
refuses s token out = by_cause (cause_in s token) refl
  where
    by_cause : (o : Option SizeCause) → cause_in s token ≡ o → (cause : SizeCause) × RejectsObjectToken (Some s) token cause
    by_cause None e = (ModeClash, λ p st follows. absurd (out (takes_of s token p st follows, e)))
    by_cause (Some c) e = (c, refused s token c e)

-- ---- A number.

numbers_with : (s : State) (set number : ℕ) → HasNumbers s → IsAllowedByRow (record {
  set = set;
  number = number;
}) → cause_in s (NumberRead set number) ≡ None → HasNumbers (state_with s set number)
numbers_with s set number h row no_cause = grind arith

pub number_state : (s : State) (set number : ℕ) → IsState s → NumberMayCome s set number → cause_in s (NumberRead set number) ≡ None
    → IsState (state_with s set number)
number_state s set number is (none, row) no_cause = record {
  numbers = numbers_with s set number is.numbers row no_cause;
  no_subfile = is.no_subfile;
  some_subfiles = λ some. absurd (omega (arith, none, some));
}

-- ---- A subfile.

pub room_for : (s : State) (count : ℕ) → IsState s → cause_in s (SubfileBegun count) ≡ None → s.total + count ≤ greatest_size
room_for s count is no_cause = let small = is.numbers.announced in grind arith

-- After the subfiles of a state that accepts one more, one may follow.
pub may_take : (s : State) (count : ℕ) → IsState s → SubfileMayCome s → MayFollow (place_in s) (SubfileBegun count)
may_take s count is (mode, largest, few) = (
  refl,
  (ap is_some (mode_in s) ∙ mode, ap is_some (largest_in s) ∙ largest),
  omega (arith, (tells_in s is).subfiles, few),
)

pub subfile_state : (s : State) (count : ℕ) → IsState s → SubfileMayCome s → cause_in s (SubfileBegun count) ≡ None → IsState (next s (SubfileBegun count))
subfile_state s count is takes no_cause =
    let p : Place = place_in s in
    state_of (next s (SubfileBegun count)) (place_after p (SubfileBegun count))
    (leads_on s (SubfileBegun count) no_cause p (stands_in s is) (may_take s count is takes))
    (omega (arith, (tells_in s is).subfiles, takes.2, length-append p.lengths (count ∷ [])))

-- ---- The end.

pub ends_as : (s : State) (number : ℕ) → is_some (end_cause s.announced s.total) ≡ false → is_some (confirmed_cause s.total number) ≡ false
    → ObjectMayEndAs (Some s) number (Some s)
ends_as s number e f = record { ended = Some s; at_end = leads_on s ObjectEnded (no_some _ e); at_number = leads_on s (Confirmed number) (no_some _ f) }

pub no_end : (s : State) (number : ℕ) → is_some (end_cause s.announced s.total) ≡ true → RejectsObjectEnd (Some s) number
no_end s number e = let (cause, is) = some_of (end_cause s.announced s.total) e in inl (cause, refused s ObjectEnded cause is)

pub not_confirmed : (s : State) (number : ℕ) → is_some (end_cause s.announced s.total) ≡ false → is_some (confirmed_cause s.total number) ≡ true
    → RejectsObjectEnd (Some s) number
not_confirmed s number e f =
    let (cause, is) = some_of (confirmed_cause s.total number) f in
    inr (Some s, leads_on s ObjectEnded (no_some _ e), (cause, refused s (Confirmed number) cause is))
