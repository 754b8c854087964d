-- What the steps of a reader reach, and lemmas for the implementations of sources, targets and
-- sinks.
use Rattle.std.specs.Prelude.{ℕ, ◌<◌, ◌≤◌, List, ◌++◌, length, take, drop, Option, ◌≡◌, ◌==◌, if◌then◌else◌, [], ◌∷◌}
use Rattle.std.proofs.Common.{sym, ap, ◌∙◌, arith}
pub use Rattle.std.proofs.KnownBytes.{Appends-nil as appends_nothing, Appends-trans as appends_joined}
pub use Rattle.std.proofs.KnownBytes.{Consumes-nil as consumes_none, Consumes-trans as consumes_consumes}
use Rattle.std.proofs.Math.Seq.{take-append_seam, drop-append_seam}
use Rattle.iim_dataset.specs.{Format.Octets.Octets, Format.Datasets.EncodesTag, Format.Datasets.count_octets}
use Rattle.iim_dataset.specs.{States.Devices.Device, States.Devices.IsAfterReads}
use Rattle.iim_dataset.specs.States.Reading.{DatasetEvent, IsDatasetState, PassesToSink, between, to_come, DatasetPlace, HeadRead, DatasetEnd}
use Rattle.iim_dataset.specs.declared.{piece.Front.Front, sink.Step.Step, sink.Step.TheVariants.More}
use Rattle.iim_dataset.specs.declared.{sink.Step.TheVariants.Last, head.Head.Head}

-- After a prefix of the octets the sink accepts what comes next, or has called a complete dataset
-- the last one.
abbrev pub SinkGoesOn : {D : Type 0} → (D → Option ℕ → Type 0) → (D → Type 0) → Step → DatasetPlace → D → Type 0
SinkGoesOn stands ends More place sink = stands sink (to_come place)
SinkGoesOn stands ends Last place sink = ends sink × (place ≡ between)

-- One or more of the octets were consumed. The sink received what they complete, and accepts what
-- comes next or has called a dataset the last one. (The arguments are state and sink before, the
-- prefix, and the sink after.)
pub record ConsumesDatasetPrefix {D : Type 0} (goes : D → List DatasetEvent → D → Type 0) (stands : D → Option ℕ → Type 0) (ends : D → Type 0) (old : DatasetPlace × D) (rest : List ℕ) (front : Front) (b : D) : Type 0 where
  pub is_place : IsDatasetState front.place
  pub some : 0 < front.used
  pub within : front.used ≤ length rest
  pub told : PassesToSink goes old.0 (take front.used rest) front.place old.1 b
  pub onward : SinkGoesOn stands ends front.step front.place b

-- The first `used` octets are a complete dataset: a tag of this head, and then these data.
pub record HasWholeDataset (rest : List ℕ) (h : Head) (xs : List ℕ) (used : ℕ) : Type 0 where
  pub tag : List ℕ
  pub spells : EncodesTag count_octets h tag
  pub octets : Octets xs
  pub count : h.count ≡ length xs
  pub some : 0 < used
  pub within : used ≤ length rest
  pub parts : take used rest ≡ tag ++ xs

-- The events that the last octet of a tag completes: the head and, if the dataset has no data, its
-- end.
abbrev pub head_events : Head → List DatasetEvent
head_events h = if h.count == 0 then HeadRead h ∷ DatasetEnd ∷ [] else HeadRead h ∷ []

-- ---- A source after reads, and after further reads: the lemmas that impls of sources provide.

pub is_after_reads-refl : (a : Device) → IsAfterReads a a
is_after_reads-refl a = (omega arith, omega arith, ([], consumes_none a.octets))

pub is_after_reads-trans : (a b c : Device) → IsAfterReads a b → IsAfterReads b c → IsAfterReads a c
is_after_reads-trans a b c h k =
    (omega (arith, h.0, k.0), omega (arith, h.1, k.1), (h.2.0 ++ k.2.0, consumes_consumes a.octets b.octets c.octets h.2.0 k.2.0 h.2.1 k.2.1))

-- Two equal lists that begin with lists of the same length begin with the same list.
-- Implementations of sinks use this lemma.
pub append_cancel_same_length : {A : Type 0} (a b x y : List A) → length a ≡ length b → a ++ x ≡ b ++ y → (a ≡ b) × (x ≡ y)
append_cancel_same_length a b x y l e = (
  sym (take-append_seam a x) ∙ ap (take (length a)) e ∙ rw l (take-append_seam b y),
  sym (drop-append_seam a x) ∙ ap (drop (length a)) e ∙ rw l (drop-append_seam b y),
)
