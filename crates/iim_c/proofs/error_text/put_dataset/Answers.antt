use Rattle.iim_c.specs.TextOutLaws.{octets_joined}
use Rattle.iim_c.proofs.error_text.put_dataset.Goals as goal

pub returns : goal.returns
returns c =
    octets_joined (rw c.from.ensures at c.put_number.ensures)
    (octets_joined c.put_words.ensures (octets_joined c.put_padding.ensures (rw c.from-2.ensures at c.put_number-2.ensures)))
