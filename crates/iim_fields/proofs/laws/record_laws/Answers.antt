use Rattle.iim_fields.proofs.{Words.HeadsAreRejectedForFaults, Words.ValuesAreRejectedForFaults, Table.EachRowHasValues, Telling.heads_tell, Telling.values_tell}
use Rattle.iim_fields.proofs.{Dies.head_alive, Dies.head_no_fault, Dies.head_octet, Dies.value_alive, Dies.value_no_fault, Checking.one_place, Copying.added}
use Rattle.iim_fields.proofs.Endings.{envelopes_end, no_sections_are_a_prefix_of_others}
use Rattle.iim_fields.proofs.laws.record_laws.Goals as goal

heads_die : EachRowHasValues → HeadsAreRejectedForFaults
heads_die rows ds h alive = (λ fine. head_alive rows ds h alive fine.1 fine.0, λ at. (head_no_fault ds h at, head_octet ds h at))

values_die : EachRowHasValues → ValuesAreRejectedForFaults
values_die rows ds d at octets = (value_alive rows ds d at octets, value_no_fault ds d)

pub returns : goal.returns
returns c =
    let heads = heads_die c.each_row_has_values.ensures in
    let values = values_die c.each_row_has_values.ensures in
    record {
      heads_are_rejected_for_faults = heads;
      values_are_rejected_for_faults = values;
      heads_report_the_lowest_cause = heads_tell;
      values_report_the_lowest_cause = values_tell;
      envelopes_end_with_the_last_record = envelopes_end;
      no_sections_are_a_prefix_of_others = no_sections_are_a_prefix_of_others;
      datasets_determine_the_check = one_place;
      builders_accept_envelopes = added c.each_row_has_values.ensures heads values;
    }
