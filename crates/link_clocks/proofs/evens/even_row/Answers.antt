use Rattle.std.proofs.Common.{◌<◌, arith, sym, subst}
use Rattle.link_clocks.specs.declared.marks.ClockMarks.{ClockMarks}
use Rattle.link_clocks.specs.Marks.{IsMarking}
use Rattle.link_clocks.proofs.Marking.{none_marked, marking_more, fewer_left, even_is, marks_left}
use Rattle.link_clocks.proofs.evens.even_row.Goals as goal

pub loop-next-init : goal.loop-next-init
loop-next-init c = record {
  marking = none_marked c.args.circuit.now c.in_ok-marks.marks c.in_ok-marks.ensures.rows c.in_ok-marks.ensures.none;
  from = omega arith;
}

pub loop-next-smaller : goal.loop-next-smaller
loop-next-smaller c =
    subst (λ (m : ClockMarks). marks_left m < marks_left c.loop-next.marks) (sym c.put.ensures)
    (fewer_left c.args.circuit.now c.loop-next.marks c.in-Some.next c.requires c.loop-next.invariant.marking c.in-Some.ensures.some)

pub loop-next-preserved : goal.loop-next-preserved
loop-next-preserved c = record {
  marking =
      subst (IsMarking c.args.circuit.now) (sym c.put.ensures)
      (marking_more c.args.circuit.now c.loop-next.marks c.in-Some.next.to c.requires c.loop-next.invariant.marking c.in-Some.ensures.some.next);
  from = c.in-Some.ensures.some.place;
}

pub returns : goal.returns
returns c = even_is c.args.circuit.now c.loop-next.marks c.loop-next.invariant.marking c.in_default.ensures.none
