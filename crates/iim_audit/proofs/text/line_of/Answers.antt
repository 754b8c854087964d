use Rattle.iim_audit.proofs.Words.{append-nil, age_columns}
use Rattle.iim_audit.proofs.text.line_of.Goals as goal

pub returns : goal.returns
returns c =
    cc (
      append-nil (age_columns c.args.row.now),
      c.new-line.ensures,
      c.prepend_ages.ensures.octets,
      c.prepend_sizes.ensures.octets,
      c.unwrap_or.ensures,
      c.prepend.ensures.octets,
      c.prepend-2.ensures.octets,
      c.prepend_id.ensures,
    )
