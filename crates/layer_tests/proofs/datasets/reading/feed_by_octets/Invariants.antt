use Rattle.iim_dataset.specs.States.Reading.{DatasetReaderAccepts}
use Rattle.layer_tests.proofs.datasets.reading.feed_by_octets.Given as goal

abbrev pub invariant-loop-at : goal.invariant-loop-at
invariant-loop-at l = DatasetReaderAccepts l.reader
