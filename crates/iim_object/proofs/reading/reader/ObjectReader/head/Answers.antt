use Rattle.iim_object.proofs.reading.reader.ObjectReader.head.Goals as goal

pub accept_subfile-requires : goal.accept_subfile-requires
accept_subfile-requires g c = c.self.invariant c.in-Some.state c.in-Some.is
