use Rattle.iim_tables.proofs.InstantLemmas.{instant_is}
use Rattle.iim_tables.proofs.instants.instant_of.Goals as goal

pub returns-clause-value : goal.returns-clause-value
returns-clause-value c = instant_is c.instant.result c.args.date.now c.args.time.now c.instant.ensures.exactly c.instant.ensures.instant
