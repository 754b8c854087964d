use Rattle.iim_c.specs.TextOutLaws.{octets_joined}
use Rattle.iim_c.proofs.error_text.put_reason.Goals as goal

pub returns : goal.returns
returns c =
    octets_joined c.put_words.ensures
    (octets_joined c.put_dataset.ensures
    (octets_joined c.put_words-2.ensures (octets_joined (rw c.from.ensures at c.put_number.ensures) (octets_joined c.put_words-3.ensures c.put_cause.ensures))))
