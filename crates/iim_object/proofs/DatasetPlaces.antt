-- The language over numbers and lengths is that of the datasets.
use Rattle.iim_object.proofs.Words.{◌≡◌, ℕ, ◌<◌, ◌≤◌, ◌⊎◌, List, [], ◌∷◌, ◌++◌, length, map, sum, Some, refl, sym, ap, ◌∙◌, arith, inl, inr, append_assoc, append-nil, length-append, AllByRecursion, map-append, length-map, eq-eqb, same_Some, number, greatest_size, Dataset, IsViablePrefix, nothing_of_two, all_append, all_back, all_map, StatedNumber, IsAllowedByRow, number_at, mode_number, sizes_at, ObjectToken, SubfileBegun, ObjectEnded, Confirmed, ObjectLanguage, number_tokens, Place, Ended, ending_tokens, tokens_of, AreObjectRecords, numbers_of, lengths_of}
use Rattle.iim_object.specs.Laws.{AreSized, object_tokens, TokensAreOfSizedDatasets, DatasetsAreViableWithTheirTokens, DatasetsEndWithTheirTokens}
use Rattle.iim_object.specs.Format.Objects.{ending_of, place_ended}
use Rattle.iim_object.proofs.{Numbers.in_row_at, Numbers.largest_at_most, Subfiles.numbers_front, Subfiles.parts_of, Subfiles.ended_parts}
use Rattle.iim_object.proofs.Members.{IsMember, are_stated, descriptor_of, object_of, confirmation_of, one_confirmation, some_subfile, ten_of, stating, subfiles, confirmation}
use Rattle.iim_object.proofs.Cuts.{AreSorted, Parted, parted, by_number, next_end, sorted, sorted_members, place_is}

-- ---- The tokens of the parts.

-- the tokens of numbers, and of subfiles
abbrev numbers : List Dataset → List ObjectToken
numbers ds = number_tokens (numbers_of ds)

abbrev heads : List Dataset → List ObjectToken
heads ds = map SubfileBegun (lengths_of ds)

numbers_append : (xs ys : List Dataset) → numbers_of (xs ++ ys) ≡ numbers_of xs ++ numbers_of ys
numbers_append xs ys = simp map-append

lengths_append : (xs ys : List Dataset) → lengths_of (xs ++ ys) ≡ lengths_of xs ++ lengths_of ys
lengths_append xs ys = simp map-append

-- The tokens of complete records.
tokens_whole : (ds : List Dataset) (r : AreObjectRecords ds) → object_tokens ds ≡ numbers r.r7 ++ (heads r.r8 ++ ending_tokens (ending_of r.r9))
tokens_whole ds r = rw r.parts (ap tokens_of (place_is r.before r.r7 r.r8 r.r9 (sorted r)))

-- The tokens of the datasets so far.
tokens_seen : {ds more r7 r8 r9 : List Dataset} (p : Parted ds more r7 r8 r9)
    → object_tokens ds ≡ numbers p.d7 ++ (heads p.d8 ++ ending_tokens (ending_of p.d9))
tokens_seen p = let n = by_number p in rw (n.sevens, n.eights, n.nines) refl

-- ---- Complete records.

-- The number of the one dataset of record 9.
confirmed_at : (r9 : List Dataset) (e : Dataset) (n : ℕ) → IsMember 9 e → r9 ≡ e ∷ [] → number_at 10 (numbers_of r9) ≡ Some n → number e.octets ≡ n
confirmed_at r9 e n m one h = same_Some (number e.octets) n (rw (one, eq-eqb e.set 10 (ten_of e m)) at h)

-- The tokens of datasets that have sizes are in the language.
member_of : (ds : List Dataset) → AreSized ds → ObjectLanguage (object_tokens ds)
member_of ds sized =
    let r = sized.records in
    let h = sized.have in
    let (one, m, is) = one_confirmation r.r9 r.confirmation in
    let value : number one.octets ≡ h.confirmed = confirmed_at r.r9 one h.confirmed m is h.is_confirmed in
    record {
      stated = numbers_of r.r7;
      lengths = lengths_of r.r8;
      confirmed = h.confirmed;
      known = sized.sizes.known;
      subfile = sized.sizes.subfile;
      are_stated = are_stated r.r7 r.descriptor;
      mode = h.mode;
      largest = h.largest;
      some = omega (arith, some_subfile r.r8 r.object, length-map r.r8 (λ (d : Dataset). length d.octets));
      agree = rw (h.announced, h.maximum, length-map r.r8 (λ (d : Dataset). length d.octets), h.subfiles, h.total) h.agree;
      tokens_are = tokens_whole ds r ∙ rw is (rw value refl);
    }

-- Datasets with the numbers and lengths of tokens in the language have sizes.
sized_of : (b x y : List Dataset) (e : Dataset) (tokens : List ObjectToken) (o : ObjectLanguage tokens) → AllByRecursion (λ d. d.rec < 7) b
    → AllByRecursion (IsMember 7) x → AllByRecursion (IsMember 8) y → IsMember 9 e
    → numbers_of x ≡ o.stated → lengths_of y ≡ o.lengths → number e.octets ≡ o.confirmed → AreSized (b ++ (x ++ (y ++ e ∷ [])))
sized_of b x y e tokens o others sevens eights nine stated lengths value = record {
  records = record {
    before = b;
    r7 = x;
    r8 = y;
    r9 = e ∷ [];
    others = others;
    descriptor = descriptor_of x (mode_number o.known) o.subfile sevens (rw stated o.are_stated.once) (rw stated o.mode) (rw stated o.largest);
    object = object_of y eights (omega (arith, o.some, ap length lengths, length-map y (λ (d : Dataset). length d.octets)));
    confirmation = confirmation_of e nine;
    parts = refl;
  };
  sizes = sizes_at o.known o.subfile o.stated o.lengths;
  have = record {
    mode = rw stated o.mode;
    largest = rw stated o.largest;
    announced = ap (number_at 90) stated;
    maximum = ap (number_at 95) stated;
    subfiles = sym (length-map y (λ (d : Dataset). length d.octets)) ∙ ap length lengths;
    total = ap sum lengths;
    confirmed = o.confirmed;
    is_confirmed = rw (eq-eqb e.set 10 (ten_of e nine)) (ap Some value);
    agree = rw lengths o.agree;
  };
}

-- Datasets with the numbers of tokens in the language.
stating_of : (tokens : List ObjectToken) (o : ObjectLanguage tokens) (ps more : List StatedNumber) → o.stated ≡ ps ++ more
    → (ds : List Dataset) × AllByRecursion (IsMember 7) ds × (numbers_of ds ≡ more)
stating_of tokens o ps more parts = stating more (all_back IsAllowedByRow ps more (rw parts at o.are_stated.each))

subfiles_of : (tokens : List ObjectToken) (o : ObjectLanguage tokens) (ls more : List ℕ) → o.lengths ≡ ls ++ more
    → (ds : List Dataset) × AllByRecursion (IsMember 8) ds × (lengths_of ds ≡ more)
subfiles_of tokens o ls more parts =
    let most : o.subfile ≤ greatest_size = largest_at_most o.subfile (in_row_at 20 o.subfile o.stated o.are_stated.each o.largest) in
    let all = all_map (λ (n : ℕ). n ≤ o.subfile) (λ (n : ℕ). n ≤ greatest_size) o.lengths (λ n h. omega arith) o.agree.each_subfile in
    subfiles more (all_back (λ (n : ℕ). n ≤ greatest_size) ls more (rw parts at all))

confirmation_in : (tokens : List ObjectToken) (o : ObjectLanguage tokens) → (d : Dataset) × IsMember 9 d × (number d.octets ≡ o.confirmed)
confirmation_in tokens o = confirmation o.confirmed (omega (arith, o.agree.as_confirmed, o.agree.total_fits))

-- Tokens in the language are those of datasets that have sizes.
datasets_of : (tokens : List ObjectToken) → ObjectLanguage tokens → (ds : List Dataset) × AreSized ds × (object_tokens ds ≡ tokens)
unfolding sized_of
datasets_of tokens o =
    let (x, sevens, stated) = stating_of tokens o [] o.stated refl in
    let (y, eights, lengths) = subfiles_of tokens o [] o.lengths refl in
    let (e, nine, value) = confirmation_in tokens o in
    let sized = sized_of [] x y e tokens o tt sevens eights nine stated lengths value in
    (x ++ (y ++ e ∷ []), sized, tokens_whole (x ++ (y ++ e ∷ [])) sized.records ∙ rw (stated, lengths, value) (sym o.tokens_are))

pub tokens_law : TokensAreOfSizedDatasets
tokens_law tokens = (datasets_of tokens, λ h. rw h.2 at (member_of h.0 h.1))

-- ---- Datasets that continue.

-- A prefix of tokens in the language is a viable prefix.
alive_by : (xs rest all : List ObjectToken) → all ≡ xs ++ rest → ObjectLanguage all → IsViablePrefix ObjectLanguage xs
alive_by xs rest all e o = (rest, rw e at o)

numbers_begun : (x y : List Dataset) (tail : List ObjectToken) → numbers (x ++ y) ++ tail ≡ (numbers x ++ []) ++ (numbers y ++ tail)
numbers_begun x y tail = simp (map-append, append-nil, append_assoc)

heads_begun : (x y z : List Dataset) (tail : List ObjectToken)
    → numbers (x ++ []) ++ (heads (y ++ z) ++ tail) ≡ (numbers x ++ (heads y ++ [])) ++ (heads z ++ tail)
heads_begun x y z tail = simp (map-append, append-nil, append_assoc)

-- The tokens of the datasets so far are a prefix of those of complete records.
tokens_front : (d7 m7 d8 m8 d9 m9 : List Dataset) → (m7 ≡ []) ⊎ (d8 ++ d9 ≡ []) → (m8 ≡ []) ⊎ (d9 ≡ []) → (rest : List ObjectToken)
    × (numbers (d7 ++ m7) ++ (heads (d8 ++ m8) ++ ending_tokens (ending_of (d9 ++ m9))) ≡ (numbers d7 ++ (heads d8 ++ ending_tokens (ending_of d9))) ++ rest)
tokens_front d7 m7 d8 m8 (e ∷ d9) m9 (inl f) (inl g) = ([], rw (f, g) (simp append-nil))
tokens_front d7 m7 d8 m8 (e ∷ d9) m9 f (inr g) = absurd cc
tokens_front d7 m7 d8 m8 (e ∷ d9) m9 (inr f) g = absurd (let none = (nothing_of_two d8 (e ∷ d9) f).1 in cc)
tokens_front d7 m7 (d ∷ d8) m8 [] m9 (inl f) g = (heads m8 ++ ending_tokens (ending_of m9), rw f (heads_begun d7 (d ∷ d8) m8 _))
tokens_front d7 m7 (d ∷ d8) m8 [] m9 (inr f) g = absurd cc
tokens_front d7 m7 [] m8 [] m9 f g = (numbers m7 ++ (heads m8 ++ ending_tokens (ending_of m9)), numbers_begun d7 m7 _)

live_datasets : (ds : List Dataset) → IsViablePrefix AreSized ds → IsViablePrefix ObjectLanguage (object_tokens ds)
live_datasets ds (more, sized) =
    let p = parted ds more sized.records in
    let (rest, e) = tokens_front p.d7 p.m7 p.d8 p.m8 p.d9 p.m9 p.after7 p.after8 in
    alive_by (object_tokens ds) rest (object_tokens (ds ++ more))
    (cc (tokens_whole (ds ++ more) sized.records, p.whole7, p.whole8, p.whole9, tokens_seen p, e)) (member_of (ds ++ more) sized)

-- Datasets whose tokens continue to an object continue to datasets that have sizes.
continues : (ds b x y z : List Dataset) (rest : List ObjectToken) → AllByRecursion (λ d. d.rec < 7) b → AllByRecursion (IsMember 7) x
    → AllByRecursion (IsMember 8) y → AllByRecursion (IsMember 9) z
    → length z ≤ 1 → (z ≡ []) ⊎ (0 < length y) → ds ≡ b ++ (x ++ (y ++ z)) → ObjectLanguage (numbers x ++ (heads y ++ (ending_tokens (ending_of z) ++ rest)))
    → IsViablePrefix AreSized ds
continues ds b x [] [] rest others sevens eights nines one some seen o =
    let (ps, parts, tokens) = numbers_front (numbers_of x) o.stated rest o.lengths o.confirmed o.tokens_are in
    let (more, stating, stated) = stating_of _ o (numbers_of x) ps parts in
    let (y, subfiles, lengths) = subfiles_of _ o [] o.lengths refl in
    let (e, nine, value) = confirmation_in _ o in
    let all : numbers_of (x ++ more) ≡ o.stated = cc (numbers_append x more) in (
      more ++ (y ++ e ∷ []),
      rw seen (simp (append_assoc, append-nil)
          (simp append_assoc at (sized_of b (x ++ more) y e _ o others (all_append (IsMember 7) x more sevens stating) subfiles nine all lengths value))),
    )
continues ds b x (d ∷ y) [] rest others sevens eights nines one some seen o =
    let (stated, (ls, parts, tokens)) = parts_of (numbers_of x) (lengths_of (d ∷ y)) rest (omega arith) o in
    let (more, subfiles, lengths) = subfiles_of _ o (lengths_of (d ∷ y)) ls parts in
    let (e, nine, value) = confirmation_in _ o in
    let all : lengths_of ((d ∷ y) ++ more) ≡ o.lengths = cc (lengths_append (d ∷ y) more) in (
      more ++ e ∷ [],
      rw seen (simp (append_assoc, append-nil)
          (simp append_assoc at (sized_of b x ((d ∷ y) ++ more) e _ o others sevens (all_append (IsMember 8) (d ∷ y) more eights subfiles) nine (sym stated)
          all value))),
    )
continues ds b x y (e ∷ []) rest others sevens eights nines one (inl none) seen o = absurd cc
continues ds b x y (e ∷ []) rest others sevens eights nines one (inr some) seen o =
    let (stated, (lengths, tokens)) = ended_parts (numbers_of x) (lengths_of y) (Confirmed (number e.octets) ∷ rest)
    (omega (arith, some, length-map y (λ (d : Dataset). length d.octets))) o in
    ([], rw seen (simp append-nil (sized_of b x y e _ o others sevens eights nines.0 (sym stated) (sym lengths) (cc))))
continues ds b x y (e ∷ f ∷ z) rest others sevens eights nines one some seen o = absurd (omega arith)

live_tokens : (ds : List Dataset) → IsViablePrefix AreObjectRecords ds → IsViablePrefix ObjectLanguage (object_tokens ds) → IsViablePrefix AreSized ds
live_tokens ds (more, r) (rest, o) =
    let p = parted ds more r in
    let (e, nine, is) = one_confirmation r.r9 r.confirmation in
    let some : (p.d9 ≡ []) ⊎ (0 < length p.d8) = elim p.after8 [
      | inl none ↦ inr (omega (arith, some_subfile r.r8 r.object, ap length p.whole8, ap length none, length-append p.d8 p.m8))
      | inr none ↦ inl none
    ] in
    continues ds p.before p.d7 p.d8 p.d9 rest p.others p.members7 p.members8 p.members9
    (omega (arith, ap length p.whole9, ap length is, length-append p.d9 p.m9)) some p.seen
    (simp append_assoc at (rw (tokens_seen p) at o))

pub datasets_law : DatasetsAreViableWithTheirTokens
datasets_law ds good = (live_datasets ds, live_tokens ds good)

-- ---- The end of the object.

-- The tokens after the head of 9:10.
ended_tokens : (ds b x y : List Dataset) → AreSorted b x y [] → ds ≡ b ++ (x ++ y) → tokens_of (place_ended ds) ≡ numbers x ++ (heads y ++ ObjectEnded ∷ [])
ended_tokens ds b x y s seen =
    let whole : ds ≡ b ++ (x ++ (y ++ [])) = rw append-nil seen in
    let place = (rw (← whole) at (place_is b x y [] s)) in
    ap (λ (p : Place). tokens_of (record p { ending = Ended })) place

-- Before a dataset of record 9 the tokens are those of all numbers and subfiles.
ended_before : (ds : List Dataset) (e : Dataset) (more : List Dataset) (r : AreObjectRecords (ds ++ e ∷ more)) → e.rec ≡ 9
    → tokens_of (place_ended ds) ≡ numbers r.r7 ++ (heads r.r8 ++ ObjectEnded ∷ [])
ended_before ds e more r nine =
    let n = next_end ds e more r nine in
    ended_tokens ds n.before r.r7 r.r8 (sorted_members n.before r.r7 r.r8 [] n.others r.descriptor.each r.object.each tt) n.seen

ends_live : (ds : List Dataset) → ((e : Dataset) × (e.rec ≡ 9) × IsViablePrefix AreSized (ds ++ e ∷ [])) → IsViablePrefix ObjectLanguage (tokens_of
    (place_ended ds))
ends_live ds (e, nine, (after, all)) =
    let sized : AreSized (ds ++ e ∷ after) = (rw append_assoc at all) in
    let q = sized.records in
    let (one, m, is) = one_confirmation q.r9 q.confirmation in
    let last : List ObjectToken = Confirmed (number one.octets) ∷ [] in
    let joined : (numbers q.r7 ++ (heads q.r8 ++ ObjectEnded ∷ [])) ++ last ≡ numbers q.r7 ++ (heads q.r8 ++ ObjectEnded ∷ last) = simp append_assoc in
    alive_by (tokens_of (place_ended ds)) last (object_tokens (ds ++ e ∷ after)) (cc (tokens_whole (ds ++ e ∷ after) q, is, ended_before ds e after q nine))
    (member_of (ds ++ e ∷ after) sized)

ended_sized : (b x y ds : List Dataset) (e : Dataset) → ds ≡ b ++ (x ++ y) → AreSized (b ++ (x ++ (y ++ e ∷ []))) → AreSized ((ds ++ e ∷ []) ++ [])
ended_sized b x y ds e seen sized = rw seen (simp (append_assoc, append-nil) sized)

live_ends : (ds : List Dataset) (d : Dataset) (more : List Dataset) → AreObjectRecords (ds ++ d ∷ more) → d.rec ≡ 9
    → IsViablePrefix ObjectLanguage (tokens_of (place_ended ds)) → (e : Dataset) × (e.rec ≡ 9) × IsViablePrefix AreSized (ds ++ e ∷ [])
live_ends ds d more r is (rest, all) =
    let n = next_end ds d more r is in
    let o = (simp append_assoc at (rw (ended_before ds d more r is) at all)) in
    let (stated, (lengths, tokens)) = ended_parts (numbers_of r.r7) (lengths_of r.r8) rest
    (omega (arith, some_subfile r.r8 r.object, length-map r.r8 (λ (d : Dataset). length d.octets))) o in
    let (e, nine, value) = confirmation_in _ o in
    let sized = sized_of n.before r.r7 r.r8 e _ o n.others r.descriptor.each r.object.each nine (sym stated) (sym lengths) value in
    (e, nine.0, ([], ended_sized n.before r.r7 r.r8 ds e n.seen sized))

pub ends_law : DatasetsEndWithTheirTokens
ends_law ds d (more, r) is = (ends_live ds, live_ends ds d more (rw append_assoc at r) is)
