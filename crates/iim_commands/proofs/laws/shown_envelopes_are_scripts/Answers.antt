use Rattle.iim_commands.proofs.ShownScripts.{show_and_story_make_script}
use Rattle.iim_commands.proofs.laws.shown_envelopes_are_scripts.Goals as goal

pub returns : goal.returns
returns c = show_and_story_make_script c.script_laws.ensures.printed_values_are_scripts c.script_laws.ensures.scripts_are_unambiguous
    c.script_laws.ensures.scripts_have_no_fault
