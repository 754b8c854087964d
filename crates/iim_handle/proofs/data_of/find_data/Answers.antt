use Rattle.std.proofs.Common.{ap}
use Rattle.std.proofs.lemmas.Iterator.Consumers.{nth_from_yields_List, YieldsList-from_first}
use Rattle.iim_fields.specs.Format.Records.{all_data}
use Rattle.iim_handle.specs.Walks.{remaining_data}
use Rattle.iim_handle.proofs.data_of.find_data.Goals as goal

pub returns : goal.returns
returns c =
    nth_from_yields_List c.nth.result c.nth.new.self c.args.n c.nth.ensures.ran
    (YieldsList-from_first (λ x. x.now) remaining_data (all_data c.args.rec c.args.set c.args.envelope.now)
    (ap (all_data c.args.rec c.args.set) c.fields.ensures.fields))
