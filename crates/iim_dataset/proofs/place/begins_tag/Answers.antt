use Rattle.iim_dataset.proofs.HeldTags.{none_begun}
use Rattle.iim_dataset.proofs.place.begins_tag.Goals as goal

pub returns-in_default-2 : goal.returns-in_default-2
returns-in_default-2 c =
    let none = rw c.in_default.is at c.read_head.ensures.fault in
    ((λ bad. absurd cc), (λ begins. absurd (none_begun c.args.octets.now c.in_default.field-0 none begins)))
