-- The packed form is unique, and has few subfiles.
use Rattle.iim_pack.proofs.Words.{◌≡◌, ℕ, ◌≤◌, ◌&&◌, nat_le, IsTrue, List, ◌++◌, sym, ap, ◌∙◌, and_parts, leb-true, canonical_stream, greatest_size, SubfilesAreFew, object_datasets, Size, canonical}
use Rattle.iim_object.specs.{Format.Objects.is_plan, Format.Objects.fits, Laws.ObjectsSplitUniquely}
use Rattle.iim_pack.specs.Laws.{PackedFormIsUnique, PackedSubfilesAreBounded}

pub least_subfile : (subfile : ℕ) (size : Size) → IsTrue (is_plan subfile size) → 1 ≤ subfile
least_subfile subfile size h =
    let outer = and_parts (nat_le 1 subfile && nat_le subfile greatest_size) (fits subfile size) h in
    leb-true 1 subfile (and_parts (nat_le 1 subfile) (nat_le subfile greatest_size) outer.0).0

pub one : ObjectsSplitUniquely → PackedFormIsUnique
one cuts fields head lines trailer plan octets others p q =
    let object : List ℕ = canonical head lines trailer in
    let parts : p.written.parts ≡ q.written.parts = cuts plan.subfile object p.written.parts q.written.parts (least_subfile plan.subfile plan.size plan.valid)
    p.written.cut q.written.cut in
    let objects : p.object ≡ q.object =
    p.written.octets_are ∙ (ap (λ (ps : List (List ℕ)). canonical_stream (object_datasets plan.subfile plan.size object ps)) parts
    ∙ sym q.written.octets_are) in
    p.octets_are ∙ (ap (λ (o : List ℕ). canonical_stream fields ++ o) objects ∙ sym q.octets_are)

pub few_subfiles : SubfilesAreFew → PackedSubfilesAreBounded
few_subfiles few fields head lines trailer plan octets p =
    ((few plan.subfile plan.size (canonical head lines trailer) p.written.parts plan.valid p.written.cut).0 p.may.suits.fits).few
