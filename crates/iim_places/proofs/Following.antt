-- The tokens among octets after which every layer can continue.
use Rattle.std.proofs.Common.{◌≡◌, ℕ, ◌<◌, ◌≤◌, ◌⊎◌, nat_eq, if◌then◌else◌, List, [], ◌∷◌, ◌++◌, length, map, refl, ap, sym, subst, ◌∙◌, inl, inr, arith, append-nil, append_assoc, length-append}
use Rattle.iim_places.proofs.Words.{flat_map-append, filter-append, eqb_tells, IsViablePrefix, Dataset, EncodesTag, EncodesStream, head_of, count_octets, of_record, PartialDataset, InTag, InData, EncodesPartial, ReadsAsDatasets, Head, AreSections, AreViableSections, data_of, Limits, last_more, front_alive, head_alive, ObjectLanguage, place_after, head_token, tokens_of, AreSized, place_after_datasets, Octet, End, IsViableMessage, HasViableStory, object_of, CanContinueIn, CanContinue, CanContinueAt, ObjectIsViable, place_at, AreWithinLimits, object_so_far, section, message_tokens, AllCanContinue, compare, LayerLemmas}
use Rattle.iim_places.proofs.{Fronts.begun_none, Fronts.no_longer, Lasts.not_all, Lasts.nine_ends, Limits.within_limits, Limits.within_front}
use Rattle.iim_places.proofs.{Living.viable_prefix, Living.message_prefix, Living.story_prefix, ObjectOctets.object_of_more, Objects.records_alive}
use Rattle.iim_places.proofs.Places.{HeadLeads, subfile_reaches, end_reaches, lives_after, lives_at, is_one, at_number, at_other}
use Rattle.iim_dataset.specs.Steps.{append_cancel_same_length}
use Rattle.iim_fields.specs.Format.Causes.{joined}

-- ---- lists

-- Equal lists, one prefix of which is no longer than the other.
pub longer_prefix : (x y u v : List ℕ) → x ++ y ≡ u ++ v → length x ≤ length u → (m : List ℕ) × (u ≡ x ++ m)
longer_prefix [] y u v e le = (u, refl)
longer_prefix (a ∷ x) y [] v e le = absurd (omega (arith, le))
longer_prefix (a ∷ x) y (b ∷ u) v e le = let (m, is) = longer_prefix x y u v (cc) (omega (arith, le)) in (m, cc)

-- ---- the next token

-- What follows complete datasets and a tag: a dataset with its head is complete, or it is partial
-- and nothing else was received.
abbrev pub Follows : List Dataset → Head → List ℕ → List Dataset → PartialDataset → Type 0
Follows whole head z W c =
    ((d : Dataset) × (ws : List Dataset) × (tail : List ℕ) × (W ≡ whole ++ d ∷ ws) × (head_of d ≡ head) × (z ≡ d.octets ++ tail))
    ⊎ ((W ≡ whole) × (c ≡ InData head z) × (length z < head.count))

partial_as : LayerLemmas → (head : Head) (tag z rest : List ℕ) → EncodesTag count_octets head tag → (c : PartialDataset) → EncodesPartial count_octets c rest
    → tag ++ z ≡ rest
    → (c ≡ InData head z) × (length z < head.count)
partial_as laws head tag z rest st (InTag held) b e =
    absurd (no_longer laws.one_tag head b.1 tag z b.4.0 st b.4.1 (subst (EncodesTag count_octets b.1) (sym b.4.2 ∙ ap (λ l. l ++ b.4.0) (sym b.0 ∙ sym e)) b.3))
partial_as laws head tag z rest st (InData h taken) b e =
    let one = laws.one_tag count_octets head h tag b.0 z taken st b.1 (e ∙ b.4) in
    (λ i. InData (sym one.0 i) (sym one.2 i), omega (arith, b.2, ap (λ (k : Head). k.count) one.0, ap length one.2))

pub follows : LayerLemmas → (octets : List ℕ) (W : List Dataset) (c : PartialDataset) → ReadsAsDatasets count_octets octets W c
    → (whole : List Dataset) (F tag z : List ℕ) (head : Head) → EncodesStream count_octets whole F
    → EncodesTag count_octets head tag → octets ≡ F ++ (tag ++ z) → Follows whole head z W c
follows laws octets W c r whole F tag z head sw st parts =
    elim (compare laws.dataset_if W whole r.front F r.rest (tag ++ z) r.is_front sw (sym r.parts ∙ parts)) [
      | inl (more, q, is, stream, tail) ↦ by more q is stream tail
      | inr n ↦ absurd (begun_none laws.one_tag c r.rest r.is_rest n.dataset n.p (n.q ++ (tag ++ z)) n.spelled n.agree)
    ]
  where
    by : (more : List Dataset) (q : List ℕ) → whole ++ more ≡ W → EncodesStream count_octets more q → q ++ r.rest ≡ tag ++ z → Follows whole head z W c
    by [] q is stream tail =
        let begun = partial_as laws head tag z r.rest st c r.is_rest (sym (rw stream at tail)) in inr (sym is ∙ append-nil whole, begun.0, begun.1)
    by (d ∷ ws) q is (first, later, s, stream, joined) tail =
        let agree : tag ++ z ≡ s.tag ++ (d.octets ++ (later ++ r.rest)) =
        sym tail ∙ (ap (λ l. l ++ r.rest) (joined ∙ ap (λ l. l ++ later) s.parts) ∙ simp append_assoc) in
        let one = laws.one_tag count_octets head (head_of d) tag s.tag z (d.octets ++ (later ++ r.rest)) st s.is_tag agree in
        inl (d, ws, later ++ r.rest, sym is, sym one.0, one.2)

-- ---- records, limits and sizes

pub alive_of : (limits : Limits) (W : List Dataset) (c : PartialDataset) → CanContinueIn limits W c → AreViableSections W
alive_of limits W (InTag held) goes = goes.records
alive_of limits W (InData h taken) goes = head_alive W h goes.records

pub within_of : (limits : Limits) (W : List Dataset) (c : PartialDataset) → CanContinueIn limits W c → AreWithinLimits limits W
within_of limits W c goes = grind (arith, goes)

-- If a token is a head, the layer can continue after what precedes it.
before_head : LayerLemmas → (W : List Dataset) (h : Head) → HeadLeads W h → ObjectIsViable (place_at W h) → ObjectIsViable (place_after_datasets W)
before_head laws W h leads lives =
    let token = head_token h.rec h.count in
    let there : ObjectIsViable (place_after (place_after_datasets W) token) = subst ObjectIsViable (sym leads.1) lives in
    let alive = subst (IsViablePrefix ObjectLanguage) (laws.tokens (place_after_datasets W) token leads.0) there in
    viable_prefix ObjectLanguage (tokens_of (place_after_datasets W)) (token ∷ []) alive

pub object_lives_after : LayerLemmas → (limits : Limits) (W : List Dataset) (c : PartialDataset) → CanContinueIn limits W c → ObjectIsViable
    (place_after_datasets W)
object_lives_after laws limits W (InTag held) goes = goes.object
object_lives_after laws limits W (InData h taken) goes =
    let (d, head, alive) = goes.records in
    let rec : d.rec ≡ h.rec = ap (λ (k : Head). k.rec) head in
    elim (is_one W d alive) [
      | inl less ↦ subst ObjectIsViable (at_other W h (omega (arith, less, rec))) goes.object
      | inr (inl seven) ↦ subst ObjectIsViable (at_number W h (sym rec ∙ seven)) goes.object
      | inr (inr (inl eight)) ↦ before_head laws W h (subfile_reaches laws W h goes.records (sym rec ∙ eight) (goes.room.subfiles
          (sym rec ∙ eight))) goes.object
      | inr (inr (inr nine)) ↦ before_head laws W h (end_reaches laws W h goes.records (sym rec ∙ nine)) goes.object
    ]

-- ---- the object so far

pub objects_append : (ds es : List Dataset) → object_of (ds ++ es) ≡ object_of ds ++ object_of es
objects_append ds es =
    ap joined (filter-append (λ (x : Dataset). nat_eq x.rec 8) ds es) ∙ flat_map-append (λ (x : Dataset). x.octets) (of_record 8 ds) (of_record 8 es)

pub so_far_both : (ds xs : List Dataset) (c : PartialDataset) → object_so_far (ds ++ xs) c ≡ object_of ds ++ object_so_far xs c
so_far_both ds xs c = grind (arith, objects_append ds xs, append_assoc)

pub with_data : (ds : List Dataset) (h : Head) (taken : List ℕ) → h.rec ≡ 8 → object_so_far ds (InData h taken) ≡ object_of ds ++ taken
with_data ds h taken eight = ap (λ (r : ℕ). object_of ds ++ (if nat_eq r 8 then taken else [])) eight

-- the octets that data add to the object
abbrev pub brought : Head → List ℕ → List ℕ
brought h z = if nat_eq h.rec 8 then z else []

pub more_object : (ds : List Dataset) (h : Head) (t z : List ℕ) → object_so_far ds (InData h (t ++ z)) ≡ object_so_far ds (InData h t) ++ brought h z
more_object ds h t z = grind (arith, append_assoc (object_of ds) t z, append-nil (object_of ds ++ []))

pub closed_object : (ds : List Dataset) (h : Head) (t z : List ℕ) → object_of (ds ++ data_of h (t ++ z) ∷ []) ≡ object_so_far ds (InData h t) ++ brought h z
closed_object ds h t z = object_of_more ds (data_of h (t ++ z)) ∙ more_object ds h t z

-- A message can continue after the octets of the object so far, and so can its story.
pub message_of : (limits : Limits) (W : List Dataset) (c : PartialDataset) → AllCanContinue limits W c → (x tail : List ℕ) → object_so_far W c ≡ x ++ tail
    → IsViableMessage x
message_of limits W c all x tail is = message_prefix x tail _ (rw is at all.message)

pub story_of : (limits : Limits) (W : List Dataset) (c : PartialDataset) → AllCanContinue limits W c → (x tail : List ℕ) → object_so_far W c ≡ x ++ tail
    → HasViableStory x
story_of limits W c all x tail is = story_prefix x tail (rw is at all.story)

-- after the head of 9:10 the message has ended
pub ends_tokens : (ds : List Dataset) (h : Head) (taken : List ℕ) → h.rec ≡ 9 → message_tokens ds (InData h taken) ≡ map Octet (object_of ds) ++ End ∷ []
ends_tokens ds h taken nine = rw (nine, append-nil) refl

-- ---- every layer can continue after fewer

pub same_data : (d : Dataset) (head : Head) (given : List ℕ) → head_of d ≡ head → d.octets ≡ given → d ≡ data_of head given
same_data d head given h o = λ i. record { rec = (h i).rec; set = (h i).set; octets = o i }

-- after fewer of the data
fewer : (limits : Limits) {V : List Dataset} {b : PartialDataset} (ds : List Dataset) (h : Head) (taken z : List ℕ) → AllCanContinue limits V b
    → CanContinueAt limits ds h → object_so_far V b ≡ object_so_far ds (InData h taken) ++ brought h z → section V b ≡ h.rec
    → AllCanContinue limits ds (InData h taken)
fewer limits {V} {b} ds h taken z all goes object rec =
    let o = object_so_far ds (InData h taken) in
    record {
      sizes = goes;
      message = elim (eqb_tells h.rec 9) [
        | inl nine ↦ rw (rec, object ∙ ap (λ (r : ℕ). o ++ (if nat_eq r 8 then z else [])) nine.1 ∙ append-nil o) at all.message
        | inr other ↦ rw (other.0, append-nil) (message_of limits V b all o (brought h z) object)
      ];
      story = story_of limits V b all o (brought h z) object;
    }

module _ (laws : LayerLemmas) (limits : Limits) (W : List Dataset) (c : PartialDataset) (all : AllCanContinue limits W c) where
  -- after the first of the datasets
  pub prefix_viable : (ds ws : List Dataset) (d : Dataset) → W ≡ ds ++ d ∷ ws → AllCanContinue limits (ds ++ d ∷ []) (InTag [])
  prefix_viable ds ws d is = elim (eqb_tells d.rec 9) [
    | inl nine ↦
        let (sections, none) = nine_ends laws.sections laws.last_record ds d ws (rw is at (alive_of limits W c all.sizes)) nine.1 in
        at_last c (rw (is, none) at all) sections
    | inr other ↦
        let parts : W ≡ (ds ++ d ∷ []) ++ ws = is ∙ sym (append_assoc ds (d ∷ []) ws) in
        let alive : AreViableSections (ds ++ d ∷ []) = front_alive (ds ++ d ∷ []) ws (rw parts at (alive_of limits W c all.sizes)) in
        let sized = (laws.live W (records_alive W (alive_of limits W c all.sizes))).1 (object_lives_after laws limits W c all.sizes) in
        let object : object_so_far W c ≡ object_of (ds ++ d ∷ []) ++ object_so_far ws c = rw parts (so_far_both (ds ++ d ∷ []) ws c) in
        let within = within_front limits (ds ++ d ∷ []) ws (rw parts at (within_of limits W c all.sizes)) in
        let lives = lives_after laws.live (ds ++ d ∷ []) alive (viable_prefix AreSized (ds ++ d ∷ []) ws (rw parts at sized)) in
        record {
          sizes = record { records = alive; within = within; object = lives };
          message = rw (last_more 0 ds d, other.0, append-nil) (message_of limits W c all (object_of (ds ++ d ∷ [])) (object_so_far ws c) object);
          story = story_of limits W c all (object_of (ds ++ d ∷ [])) (object_so_far ws c) object;
        }
  ]
    where
      at_last : (b : PartialDataset) → AllCanContinue limits (ds ++ d ∷ []) b → AreSections (ds ++ d ∷ []) → AllCanContinue limits (ds ++ d ∷ []) (InTag [])
      at_last (InTag held) goes sections = record { sizes = goes.sizes; message = goes.message; story = goes.story }
      at_last (InData k taken) goes sections = absurd (not_all laws.sections (ds ++ d ∷ []) k goes.sizes.records sections)

  -- with the head of the next one
  goes_at : (ds ws : List Dataset) (d : Dataset) → W ≡ ds ++ d ∷ ws → CanContinueAt limits ds (head_of d)
  goes_at ds ws d is =
      let front = (prefix_viable ds ws d is).sizes in
      let within = rw is at (within_of limits W c all.sizes) in
      let room = within_limits limits ds d ws within in
      let lives = lives_at laws ds d front.records ((laws.live (ds ++ d ∷ []) (records_alive (ds ++ d ∷ []) front.records)).1 front.object) room.subfiles in
      record { records = (d, refl, front.records); within = within_front limits ds (d ∷ ws) within; room = room; object = lives }

  -- after a head, and some of its data
  pub reached_in : (ds : List Dataset) (h : Head) (taken more : List ℕ) → length taken ≤ h.count → Follows ds h (taken ++ more) W c
      → AllCanContinue limits ds (InData h taken)
  reached_in ds h taken more fits (inr (same, begun, less)) =
      let here : AllCanContinue limits ds (InData h (taken ++ more)) = rw (same, begun) at all in
      fewer limits ds h taken more here here.sizes (more_object ds h taken more) refl
  reached_in ds h taken more fits (inl (d, ws, tail, is, head, rest)) =
      let (z, octets) = longer_prefix taken more d.octets tail rest (omega (arith, fits, ap (λ (k : Head). k.count) head)) in
      let closed = rw (same_data d h (taken ++ z) head octets) at (prefix_viable ds ws d is) in
      fewer limits ds h taken z closed (rw head at (goes_at ds ws d is)) (closed_object ds h taken z) (last_more 0 ds (data_of h (taken ++ z)))

  -- after a value
  pub value_goes : (ds : List Dataset) (h : Head) (given more : List ℕ) → length given ≡ h.count → Follows ds h (given ++ more) W c
      → CanContinue limits (ds ++ data_of h given ∷ [])
  value_goes ds h given more many (inl (d, ws, tail, is, head, rest)) =
      let count : length d.octets ≡ length given = ap (λ (k : Head). k.count) head ∙ sym many in
      let same = same_data d h given head (append_cancel_same_length d.octets given tail more count (sym rest)).0 in
      (rw same at (prefix_viable ds ws d is)).sizes
  value_goes ds h given more many (inr (same, begun, less)) = absurd (omega (arith, less, many, length-append given more))
