use Rattle.iim_audit.proofs.report.Report.last_line.Goals as goal

pub returns : goal.returns
returns c =
    cc (
      c.rows-rows.ensures,
      c.new-line.ensures,
      c.prepend.ensures.octets,
      c.count_held.ensures,
      c.prepend_number.ensures.octets,
      c.prepend-2.ensures.octets,
      c.count_repeated.ensures,
      c.prepend_number-2.ensures.octets,
      c.prepend-3.ensures.octets,
      c.prepend_number-3.ensures.octets,
    )
