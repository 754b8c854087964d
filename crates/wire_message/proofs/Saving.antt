-- A state is determined by its saved form.
use Rattle.std.proofs.Common.{◌≡◌, ◌==◌, ℕ, List, [], ◌∷◌, true, false, Some, None, refl, sym, ap, ◌∙◌}
use Rattle.wire_message.proofs.Names.{SavedStatesAreDistinct, IsMessageState, HeaderPart, Source, Number, Priority, Category, Words, Place, Filler, InHeader, Info, Gap, Text, Trailer, AfterEnd}
use Rattle.wire_message.specs.{States.Reading.saved, States.Reading.saved_part, Steps.head_in, Steps.texts_in}
use Rattle.wire_message.specs.declared.saved.MessagePart.TheVariants as part
use Rattle.wire_message.specs.declared.saved.MessagePart.{MessagePart}
use Rattle.wire_message.specs.declared.saved.MessagePlace.{MessagePlace}

-- the state of a part, by the octets that were saved
abbrev pub restored : MessagePart → MessagePlace → Place
restored part.Filler m = Filler m.counter
restored part.Source m = InHeader Source (texts_in m)
restored part.Number m = InHeader Number (texts_in m)
restored part.Priority m = InHeader Priority (texts_in m)
restored part.PriorityRead m = InHeader Priority (texts_in m)
restored part.Category m = InHeader Category (texts_in m)
restored part.Words m = InHeader Words (texts_in m)
restored part.Info m = Info (head_in m)
restored part.Gap m = Gap (head_in m) m.counter (m.flag == 1)
restored part.Text m = Text (head_in m) (Some m.flag)
restored part.Trailer m = Trailer (head_in m) m.trailer
restored part.AfterEnd m = AfterEnd (head_in m) m.trailer m.counter

restored_part : (at : HeaderPart) (xs : List ℕ) (m : MessagePlace) → restored (saved_part at xs) m ≡ InHeader at (texts_in m)
restored_part Priority [] m = refl
restored_part Priority (b ∷ xs) m = refl
restored_part _ xs m = refl

restored_saved : (p : Place) → IsMessageState p → restored (saved p).part (saved p) ≡ p
restored_saved (InHeader at t) i = restored_part at t.priority.items (saved (InHeader at t))
restored_saved (Gap h k true) i = refl
restored_saved (Gap h k false) i = refl
restored_saved (Text h (Some held)) i = refl
restored_saved (Text h None) i = let none = i.1.1 in absurd cc
restored_saved _ i = refl

pub back : (m : MessagePlace) (part : MessagePart) → m.part ≡ part → (p : Place) → IsMessageState p → saved p ≡ m → p ≡ restored part m
back m part is p i e = sym (restored_saved p i) ∙ (ap (λ (k : MessagePlace). restored k.part k) e ∙ ap (λ (t : MessagePart). restored t m) is)

pub saved_apart : SavedStatesAreDistinct
saved_apart p q i j e = back (saved q) (saved q).part refl p i e ∙ restored_saved q j
