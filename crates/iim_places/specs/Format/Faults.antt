-- Numbers, names and printed forms of errors.
use Rattle.std.specs.Prelude.{ℕ, List, ◌++◌, codes}
use Rattle.iim_dataset.specs.Format.Datasets.{dataset_name}
use Rattle.iim_places.specs.Format.Causes.{layer_name, cause_text, TokenFault}
use Rattle.iim_places.specs.declared.ticket.fault.TicketFault.{TicketFault}
use Rattle.iim_places.specs.declared.ticket.fault.TicketFault.TheVariants.{TicketForm, TicketVersion, HeaderFull, Impossible, OutOfMemory, TooManyFields}

-- the printed form of an error of a token: the layer, the dataset and the cause
abbrev pub token_text : TokenFault → List ℕ
token_text fault =
    codes "refused by layer " ++ (layer_name fault.layer ++ (codes " on "
    ++ (dataset_name fault.rec fault.set ++ (codes ", cause " ++ cause_text fault.cause))))

-- The number of the cause for which a ticket is rejected.
abbrev pub ticket_fault_number : TicketFault → ℕ
ticket_fault_number TicketForm = 100
ticket_fault_number TicketVersion = 101
ticket_fault_number Impossible = 102
ticket_fault_number HeaderFull = 50
ticket_fault_number TooManyFields = 51
ticket_fault_number OutOfMemory = 70

-- The name of the cause for which a ticket is rejected.
abbrev pub ticket_fault_name : TicketFault → List ℕ
ticket_fault_name TicketForm = codes "TicketForm"
ticket_fault_name TicketVersion = codes "TicketVersion"
ticket_fault_name Impossible = codes "Impossible"
ticket_fault_name HeaderFull = codes "HeaderFull"
ticket_fault_name TooManyFields = codes "TooManyFields"
ticket_fault_name OutOfMemory = codes "OutOfMemory"
