use Rattle.std.proofs.Common.{◌≡◌, ◌≤◌, ◌++◌, drop}
use Rattle.mend_lines.specs.Bodies.{bodies_from, bodies_of}
use Rattle.mend_lines.proofs.all_bodies.bodies.Given as goal

abbrev pub invariant-loop-k : goal.invariant-loop-k
invariant-loop-k l = record {
  few : l.place ≤ l.k;
  made : bodies_of l.mending.depth l.mending.script.now l.mending.hold l.mending.selected.now l.mending.verdicts.now l.mending.parts.now ≡
      l.bodies ++ bodies_from l.mending.depth l.mending.script.now l.mending.hold l.mending.selected.now l.mending.verdicts.now l.mending.parts.now
      l.place (drop l.k l.mending.script.now.commands);
}
