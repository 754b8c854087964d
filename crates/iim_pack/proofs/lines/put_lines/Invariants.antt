use Rattle.iim_pack.proofs.Words.{◌≡◌, List, ◌++◌, length, IsTrue, list_all, is_line_octet, StoryEvent, events_of_lines}
use Rattle.iim_pack.specs.States.Packing.{Lengthens}
use Rattle.iim_pack.proofs.LinesOut.{events_left}
use Rattle.iim_pack.proofs.lines.put_lines.Given as goal

abbrev pub invariant-loop-line : goal.invariant-loop-line
invariant-loop-line g l = record {
  done : List StoryEvent;
  parts : events_of_lines l.fn.lines.lines ≡ done ++ events_left l.is_first l.left;
  lines : IsTrue (list_all (list_all is_line_octet) l.left);
  lengthened : Lengthens (g.W.Target.state) l.fn.packer l.packer done;
}

abbrev pub decreases-loop-line : goal.decreases-loop-line
decreases-loop-line g l = length l.left
