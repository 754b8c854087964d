-- The line that reports a refusal, from the numbers of an answer.
use Rattle.std.specs.Prelude.{◌≡◌, ℕ, ◌==◌, ◌||◌, if◌then◌else◌, Bool, List, [], ◌++◌, codes, decimal}
use Rattle.iim_dataset.specs.Format.Datasets.{dataset_name}
use Rattle.iim_places.specs.Format.Causes.{cause_number}
use Rattle.iim_places.specs.declared.refusal.Refusal.{Refusal}
use Rattle.iim_output.specs.Format.{refused_line}
use Rattle.iim_c.specs.Format.Answers.{IimAnswer, layer_number}
use Rattle.iim_c.specs.Format.Statuses as status
use Rattle.iim_c.specs.Format.Tables.{name_for_cause, name_of_layer, name_or_none}

-- the number of the envelope, and the octet and the layer of a refusal
abbrev pub place_text : (number octet layer : ℕ) → List ℕ
place_text number octet layer =
    decimal number ++ (codes " refused at octet " ++ (decimal octet ++ (codes " by layer " ++ name_or_none (name_of_layer layer))))

-- its dataset and its cause
abbrev pub reason_text : (rec set cause : ℕ) → List ℕ
reason_text rec set cause =
    codes " on " ++ (dataset_name rec set ++ (codes ", cause " ++ (decimal cause ++ (codes " " ++ name_or_none (name_for_cause cause)))))

-- The answer is that of a refusal or of a truncation.
abbrev pub has_refusal : IimAnswer → Bool
has_refusal a = (a.status == status.refused) || (a.status == status.truncated)

-- the line of a refusal without its line end; nothing if there is no refusal
abbrev pub error_text : ℕ → IimAnswer → List ℕ
error_text number a = if has_refusal a then place_text number a.octet a.layer ++ reason_text a.rec a.set a.cause else []

-- The answer has the numbers of the refusal.
pub record HasNumbersOf (a : IimAnswer) (e : Refusal) : Type 0 where
  pub layer : a.layer ≡ layer_number e.layer
  pub cause : a.cause ≡ cause_number e.cause
  pub rec : a.rec ≡ e.rec
  pub set : a.set ≡ e.set
  pub octet : a.octet ≡ e.octet

-- The text and a line end are the line that the command prints for the refusal.
abbrev pub IsLineOfCommand : ℕ → Refusal → List ℕ → Type 0
IsLineOfCommand number e text = refused_line number e ≡ text ++ codes "\n"
