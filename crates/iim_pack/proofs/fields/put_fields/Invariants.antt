use Rattle.iim_pack.proofs.Words.{◌≡◌, List, ◌++◌, length, Dataset, canonical_stream, WroteAllOf, WithinInterruptionLimit, rest_of}
use Rattle.iim_pack.proofs.fields.put_fields.Given as goal

-- some datasets were written
abbrev pub invariant-loop-rec : goal.invariant-loop-rec
invariant-loop-rec g l = record {
  done : List Dataset;
  parts : l.fn.envelope ≡ done ++ rest_of l.fields;
  wrote : WroteAllOf (g.W.Target.state l.fn.writer) (g.W.Target.state l.writer) (canonical_stream done);
  retry_limit : WithinInterruptionLimit l.written (g.W.Target.state l.fn.writer) (g.W.Target.state l.writer);
  counted : l.written ≡ length (canonical_stream done);
}

abbrev pub decreases-loop-rec : goal.decreases-loop-rec
decreases-loop-rec g l = length (rest_of l.fields)
