use Rattle.iim_listing.proofs.show.write_counts.Goals as goal

pub returns : goal.returns
returns c = cc
