use Rattle.iim_dataset.proofs.Lists.{none_is_none}
use Rattle.iim_listing.proofs.list.push_envelope.Goals as goal

pub unreachable-requires : goal.unreachable-requires
unreachable-requires g c = none_is_none c.unpacked.result c.in_default.is (c.unpacked.ensures.done.1 c.requires)

pub returns : goal.returns
returns g c = λ e done admits counts. c.push_text.ensures e counts (c.in-Some.ensures.value e.octets c.args.octets done e.value admits)
