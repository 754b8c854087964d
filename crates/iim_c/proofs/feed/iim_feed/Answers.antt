use Rattle.iim_c.proofs.feed.iim_feed.Goals as goal

pub returns : goal.returns
returns c = rw c.limits.ensures at c.fed.ensures
