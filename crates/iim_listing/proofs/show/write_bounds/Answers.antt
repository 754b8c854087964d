use Rattle.iim_listing.proofs.show.write_bounds.Goals as goal

pub returns-clause-written : goal.returns-clause-written
returns-clause-written c = cc
