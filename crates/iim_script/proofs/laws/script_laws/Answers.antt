use Rattle.iim_script.proofs.{Next.next_once, Runs.field_once, Runs.one_head, Runs.trailer_once, Runs.field_no_head, Runs.text_no_trailer, Whole.is_script}
use Rattle.iim_script.proofs.Single.{scripts_once, script_no_fault, faults_once}
use Rattle.iim_script.proofs.laws.script_laws.Goals as goal

pub returns : goal.returns
returns c = record {
  octets_have_one_next_line = next_once;
  lines_are_unambiguous = (field_once, one_head, trailer_once);
  forms_exclude_one_another = (field_no_head, text_no_trailer);
  scripts_are_unambiguous = scripts_once;
  scripts_have_no_fault = script_no_fault;
  octets_have_one_fault = faults_once;
  printed_values_are_scripts = is_script c.record_laws.ensures.builders_accept_envelopes;
}
