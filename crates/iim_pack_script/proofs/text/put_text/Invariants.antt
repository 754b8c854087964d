use Rattle.iim_pack_script.proofs.Words.{◌≡◌, List, ℕ, ◌++◌, length, IsText, StoryEvent, events_of_lines, text_lines, Lengthens}
use Rattle.iim_pack_script.proofs.text.put_text.Given as goal

abbrev pub invariant-loop-line : goal.invariant-loop-line
invariant-loop-line g l = record {
  left : List (List ℕ);
  text : IsText l.rest left;
  done : List StoryEvent;
  parts : events_of_lines (text_lines l.text) ≡ done ++ events_of_lines left;
  lengthened : Lengthens (g.W.Target.state) l.fn.packer l.packer done;
}

abbrev pub decreases-loop-line : goal.decreases-loop-line
decreases-loop-line g l = length l.rest
