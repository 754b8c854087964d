-- Octets determine the events that a reader emits, and continue to datasets.
use Rattle.std.proofs.Common.{◌≡◌, ℕ, ◌-◌, List, ◌++◌, length, replicate, ap, sym, ◌∙◌, arith, append_assoc, length-append}
use Rattle.std.proofs.lemmas.List.{length-replicate}
use Rattle.iim_dataset.specs.Format.Datasets.{EncodesTag, count_octets, Dataset, Head, PartialDataset, InTag, InData, EncodesPartial, IsPartialDataset, SplitsInto, ReadsAsDatasets}
use Rattle.iim_dataset.specs.Laws.{OctetsDetermineTheEvents, ReadOctetsContinue}
use Rattle.iim_dataset.proofs.Spelled.{one_tag, no_longer, one_split, with_data, stream_more}
use Rattle.iim_dataset.proofs.OctetLists.{zeros_are, octets_append}

-- A partial dataset continues to a complete one.
ends : (begun : PartialDataset) (rest : List ℕ) → EncodesPartial count_octets begun rest → IsPartialDataset count_octets rest
ends (InTag held) rest (e, h, tag, s, (more, some, whole)) =
    let zeros = replicate h.count 0 in record {
      begun = record { rec = h.rec; set = h.set; octets = zeros };
      octets = tag ++ zeros;
      spelled = with_data h tag zeros s (zeros_are h.count) (length-replicate {A = ℕ} h.count 0);
      is_part = (more ++ zeros, omega (arith, some, length-append more zeros), rw (e, ← whole) (sym (append_assoc held more zeros)));
    }
ends (InData h taken) rest (tag, s, some, o, e) =
    let left = h.count - length taken in
    let zeros = replicate left 0 in
    let len : length zeros ≡ left = length-replicate {A = ℕ} left 0 in record {
      begun = record { rec = h.rec; set = h.set; octets = taken ++ zeros };
      octets = tag ++ (taken ++ zeros);
      spelled = with_data h tag (taken ++ zeros) s (octets_append taken zeros o (zeros_are left)) (omega (arith, some, len, length-append taken zeros));
      is_part = (zeros, omega (arith, some, len), rw e (append_assoc tag taken zeros));
    }

-- Octets that were read split into complete datasets and less than one.
pub splits : {octets : List ℕ} {whole : List Dataset} {begun : PartialDataset} → (r : ReadsAsDatasets count_octets octets whole begun)
    → SplitsInto count_octets octets whole r.rest
splits {begun = begun} r = record { front = r.front; is_front = r.is_front; is_rest = ends begun r.rest r.is_rest; parts = r.parts }

pub read_octets_continue : ReadOctetsContinue
read_octets_continue octets whole begun r =
    let part = ends begun r.rest r.is_rest in
    let (more, some, joined) = part.is_part in
    let spelled = stream_more whole r.front part.begun part.octets r.is_front part.spelled in
    (part.begun, more, some, rw (r.parts, append_assoc, joined) spelled)

-- No complete tag is within the octets of a partial one.
pub not_within : {k : Head} {tag held rest : List ℕ} (m : List ℕ) → EncodesTag count_octets k tag → EncodesPartial count_octets (InTag held) rest → rest
    ≡ tag ++ m → ⊥
not_within {tag = tag} m s (e, h, whole, t, (more, some, joined)) is =
    no_longer (m ++ more) s t (omega (arith, some, length-append m more)) (rw (← joined, ← e, is) (sym (append_assoc tag m more)))

-- The octets determine the partial dataset.
one_begun : (rest : List ℕ) (b c : PartialDataset) → EncodesPartial count_octets b rest → EncodesPartial count_octets c rest → b ≡ c
one_begun rest (InTag held) (InTag other) b c = ap InTag (sym b.0 ∙ c.0)
one_begun rest (InTag held) (InData k taken) b c = absurd (not_within taken c.1 b c.4)
one_begun rest (InData h taken) (InTag held) b c = absurd (not_within taken b.1 c b.4)
one_begun rest (InData h taken) (InData k other) b c =
    let one = one_tag count_octets h k b.0 c.0 taken other b.1 c.1 (sym b.4 ∙ c.4) in λ i. InData (one.0 i) (one.2 i)

pub one_handing : OctetsDetermineTheEvents
one_handing octets es fs b c h k =
    let one = one_split count_octets octets h.whole k.whole h.reads.rest k.reads.rest (splits h.reads) (splits k.reads) in
    let wholes : h.whole ≡ k.whole = one.0 in
    let same : b ≡ c = one_begun k.reads.rest b c (rw one.1 at h.reads.is_rest) k.reads.is_rest in
    (cc, same)
