use Rattle.std.proofs.Common.{◌||◌, eqb, ap, ◌∙◌, arith}
use Rattle.sat_solver.specs.Markings.{is_marked}
use Rattle.sat_solver.proofs.Marking.{count_drop, count_take, IsGathered-above, IsGathered-below, IsGathered-between}
use Rattle.sat_solver.proofs.cuts.Cut.mark_one.Goals as goal

pub overflow_add-self : goal.overflow_add-self
overflow_add-self c =
    let lits = c.args.trail.now.lits in
    omega (arith, c.requires.gathered.above, count_drop c.args.marks.now c.args.self.now.start lits, c.len-len.ensures.few, c.vars-vars.ensures.few)

pub overflow_add-self-then-place-self-2 : goal.overflow_add-self-then-place-self-2
overflow_add-self-then-place-self-2 c =
    let lits = c.args.trail.now.lits in
    omega (arith, c.requires.gathered.below, count_take c.args.marks.now c.args.self.now.base lits, c.len-len.ensures.few, c.vars-vars.ensures.few)

pub returns-then-place-self-clause-gathered : goal.returns-then-place-self-clause-gathered
returns-then-place-self-clause-gathered c =
    let cut = c.args.self.now in
    let old = c.args.marks.now in
    IsGathered-above c.args.trail.now.lits cut.base cut.start cut.above cut.below cut.lits.items old c.mark.new.self c.args.l c.place-place.result
    c.lits-lits.ensures.distinct c.place-place.ensures.below (c.place-place.ensures.here ∙ c.negated.ensures) c.if-place-self.true
    (record { absent = c.requires.unmarked; more = λ v. c.mark.ensures.marked v ∙ ap (λ n. is_marked old v || eqb n v) c.var.ensures.value })
    c.requires.gathered

pub returns-then-place-self-2-clause-gathered : goal.returns-then-place-self-2-clause-gathered
returns-then-place-self-2-clause-gathered c =
    let cut = c.args.self.now in
    let old = c.args.marks.now in
    IsGathered-below c.args.trail.now.lits cut.base cut.start cut.above cut.below cut.lits.items old c.mark.new.self c.args.l c.place-place.result
    c.lits-lits.ensures.distinct c.place-place.ensures.below (c.place-place.ensures.here ∙ c.negated.ensures) c.if-place-self-2.true
    (record { absent = c.requires.unmarked; more = λ v. c.mark.ensures.marked v ∙ ap (λ n. is_marked old v || eqb n v) c.var.ensures.value })
    c.requires.gathered

pub returns-in_ok-push-clause-gathered : goal.returns-in_ok-push-clause-gathered
returns-in_ok-push-clause-gathered c =
    let cut = c.args.self.now in
    let old = c.args.marks.now in
    rw c.in_ok-push.ensures.items
    (IsGathered-between c.args.trail.now.lits cut.base cut.start cut.above cut.below cut.lits.items old c.mark.new.self c.args.l c.place-place.result
    c.lits-lits.ensures.distinct c.place-place.ensures.below (c.place-place.ensures.here ∙ c.negated.ensures) (omega (arith, c.if-place-self-2.false))
    (omega (arith, c.if-place-self.false))
    (record { absent = c.requires.unmarked; more = λ v. c.mark.ensures.marked v ∙ ap (λ n. is_marked old v || eqb n v) c.var.ensures.value })
    c.requires.gathered)
