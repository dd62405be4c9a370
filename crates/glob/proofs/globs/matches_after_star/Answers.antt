use Rattle.std.proofs.Common.{◌∙◌, sym, subst}
use Rattle.glob.specs.Match.{matches_whole}
use Rattle.glob.specs.Segments.{IsLaid, IsBeforeStar}
use Rattle.glob.proofs.Laying.{laid_whole, laid_fails}
use Rattle.glob.proofs.Stars.{star_here, star_moves_on, star_takes, star_stops}
use Rattle.glob.proofs.globs.matches_after_star.Goals as goal
use Rattle.glob.proofs.globs.matches_after_star.Goals.{in-Star, in_default+else-not-passes}

pub returns : goal.returns
returns c =
    let whole = laid_whole c.loop-rest.rest.now c.loop-rest.left.now c.loop-rest.laid (sym c.is_whole.ensures ∙ c.loop-rest-test.false)
    c.loop-rest.invariant.laid in
    sym (c.loop-rest.invariant.same ∙ star_here (matches_whole c.loop-rest.rest.now) c.loop-rest.left.now whole)

pub returns-then-not-passes : goal.returns-then-not-passes
returns-then-not-passes c =
    let fails = laid_fails c.loop-rest.rest.now c.loop-rest.left.now c.loop-rest.laid (sym c.is_whole.ensures ∙ c.loop-rest-test.true)
    c.in_default.not-Star c.loop-rest.invariant.laid in
    sym (c.loop-rest.invariant.same ∙ star_stops (matches_whole c.loop-rest.rest.now) c.loop-rest.left.now fails (sym c.passes.ensures ∙ c.if-not-passes.true))

pub loop-rest-preserved : goal.loop-rest-preserved
loop-rest-preserved c = record {
  same = elim c.match-laid.branch [
    | in-Star w ↦
        let before : IsBeforeStar c.loop-rest.rest.now c.loop-rest.left.now w.in-Star.count = subst (IsLaid c.loop-rest.rest.now c.loop-rest.left.now)
        w.in-Star.is c.loop-rest.invariant.laid in
        rw (w.rest-is, w.past-rest.ensures, w.left-is, w.after-left.ensures)
        (c.loop-rest.invariant.same ∙ star_moves_on c.loop-rest.rest.now c.loop-rest.left.now w.in-Star.count before)
    | in_default+else-not-passes w ↦
        let fails = laid_fails c.loop-rest.rest.now c.loop-rest.left.now c.loop-rest.laid (sym c.is_whole.ensures ∙ c.loop-rest-test.true)
        w.in_default.not-Star c.loop-rest.invariant.laid in
        rw (w.rest-is, w.left-is, w.after-left-in_default.ensures) (c.loop-rest.invariant.same ∙ star_takes (matches_whole c.loop-rest.rest.now)
        c.loop-rest.left.now fails (sym w.passes.ensures ∙ w.if-not-passes.false))
  ];
  laid = c.lay-laid-in-loop-rest.ensures;
}
