-- The octets of the object: with one more dataset, and with its end.
use Rattle.std.proofs.Common.{◌≡◌, ℕ, Bool, true, false, nat_eq, if◌then◌else◌, List, [], ◌++◌, ap, ◌∙◌, append-nil, ◌<◌, ◌≤◌, cond, ◌∷◌, length, refl, arith, map, sym, subst}
use Rattle.iim_places.proofs.Words.{ne_eqb, IsViablePrefix, Dataset, of_record, InData, Head, object_of, object_so_far, flat_map-append, filter-append, max_subfiles, End, Octet, with_end, MessageLanguage, IsViableMessage, IsOctet, Octets, all_front}
use Rattle.iim_places.proofs.Places.{one_more}
use Rattle.iim_fields.specs.Format.Causes.{joined}
use Rattle.wire_story.proofs.SoFar.{front_of}
use Rattle.wire_message.proofs.MessageOctets.{message_octets}

-- data of another record than 8 are no part of the object
pub no_object : (ds : List Dataset) (h : Head) (taken : List ℕ) → (h.rec ≡ 8 → ⊥) → object_so_far ds (InData h taken) ≡ object_of ds
no_object ds h taken other = rw (ne_eqb h.rec 8 other) (append-nil (object_of ds))

pub object_of_more : (ds : List Dataset) (d : Dataset) → object_of (ds ++ d ∷ []) ≡ object_of ds ++ cond (nat_eq d.rec 8) d.octets []
object_of_more ds d =
    ap joined (filter-append (λ (x : Dataset). nat_eq x.rec 8) ds (d ∷ []))
    ∙ flat_map-append (λ (x : Dataset). x.octets) (of_record 8 ds) (of_record 8 (d ∷ []))
    ∙ ap (λ xs. object_of ds ++ xs) (grind (arith, append-nil d.octets))

pub few_more : (ds : List Dataset) (d : Dataset) → length (of_record 8 ds) ≤ max_subfiles → (d.rec ≡ 8 → length (of_record 8 ds) < max_subfiles)
    → length (of_record 8 (ds ++ d ∷ [])) ≤ max_subfiles
few_more ds d few room = grind (arith, one_more ds d, room)

-- a complete message, with or without its end
pub lives_whole : (o : List ℕ) (b : Bool) → IsViableMessage o → (b ≡ true → MessageLanguage (with_end o))
    → IsViablePrefix MessageLanguage (map Octet o ++ (if b then End ∷ [] else []))
lives_whole o true lives whole = ([], subst MessageLanguage (sym (append-nil (map Octet o ++ End ∷ []))) (whole refl))
lives_whole o false lives whole = subst (IsViablePrefix MessageLanguage) (sym (append-nil (map Octet o))) lives

-- ---- The octets from which a message can be completed are octets.

pub living_octets : (o : List ℕ) → IsViableMessage o → Octets o
living_octets o (rest, m) =
    let f = front_of o m.object rest m.tokens_are in
    all_front IsOctet o f.0 (subst Octets f.1 (message_octets m.object m.head m.text m.trailer m.message))
