use Rattle.std.proofs.Common.{◌≡◌, ◌&&◌, not, eqb, length, get_or, ap, ◌∙◌, refl, inl, inr, arith}
use Rattle.std.proofs.lemmas.List.{get_or_read}
use Rattle.proof_log.specs.Literals.{lit_var}
use Rattle.sat_solver.specs.Markings.{is_marked}
use Rattle.sat_solver.proofs.Marking.{member_at, one_less, count_some_above, count_some_below, IsGathered-off_above, IsGathered-off_below}
use Rattle.sat_solver.proofs.cuts.Cut.unmark.Goals as goal

pub unmark-requires : goal.unmark-requires
unmark-requires c =
    let lits = c.args.trail.now.lits in
    let at = c.args.at in
    let p_is : c.index-lits-at.result ≡ get_or lits at 0 =
    get_or_read c.lits.result.now at c.index-lits-at.result (omega (arith, c.requires.within, ap length c.lits.ensures.value)) c.index-lits-at.is 0
    ∙ ap (λ xs. get_or xs at 0) c.lits.ensures.value in
    let v = c.lits-lits.ensures.in_vars c.index-lits-at.result (member_at lits at c.index-lits-at.result c.requires.within p_is) in
    omega (arith, v.1, c.var.ensures.value, c.requires.fits)

pub overflow_sub-self : goal.overflow_sub-self
overflow_sub-self c =
    let cut = c.args.self.now in
    count_some_above c.args.trail.now.lits cut.base cut.start cut.above cut.below cut.lits.items c.args.marks.now c.args.at c.requires.gathered
    c.requires.within c.if-at-self.true c.requires.marked

pub overflow_sub-self-else-at-self : goal.overflow_sub-self-else-at-self
overflow_sub-self-else-at-self c =
    let cut = c.args.self.now in
    elim c.requires.apart [
      | inl high ↦ absurd (omega (arith, high, c.if-at-self.false))
      | inr under ↦ count_some_below c.args.trail.now.lits cut.base cut.start cut.above cut.below cut.lits.items c.args.marks.now c.args.at
          c.requires.gathered c.requires.within under c.requires.marked
    ]

pub returns-then-at-self-clause-gathered : goal.returns-then-at-self-clause-gathered
returns-then-at-self-clause-gathered c =
    let lits = c.args.trail.now.lits in
    let at = c.args.at in
    let cut = c.args.self.now in
    let old = c.args.marks.now in
    let p_is : c.index-lits-at.result ≡ get_or lits at 0 =
    get_or_read c.lits.result.now at c.index-lits-at.result (omega (arith, c.requires.within, ap length c.lits.ensures.value)) c.index-lits-at.is 0
    ∙ ap (λ xs. get_or xs at 0) c.lits.ensures.value in
    let m = one_less old c.unmark.new.self (lit_var (get_or lits at 0)) c.requires.marked
    (λ v. c.unmark.ensures.marked v ∙ ap (λ n. is_marked old v && not (eqb n v)) (c.var.ensures.value ∙ ap lit_var p_is)) in
    IsGathered-off_above lits cut.base cut.start cut.above cut.below cut.lits.items old c.unmark.new.self at (lit_var (get_or lits at 0))
    c.lits-lits.ensures.distinct c.requires.within refl c.if-at-self.true m c.requires.gathered

pub returns-else-at-self-clause-gathered : goal.returns-else-at-self-clause-gathered
returns-else-at-self-clause-gathered c =
    let lits = c.args.trail.now.lits in
    let at = c.args.at in
    let cut = c.args.self.now in
    let old = c.args.marks.now in
    let p_is : c.index-lits-at.result ≡ get_or lits at 0 =
    get_or_read c.lits.result.now at c.index-lits-at.result (omega (arith, c.requires.within, ap length c.lits.ensures.value)) c.index-lits-at.is 0
    ∙ ap (λ xs. get_or xs at 0) c.lits.ensures.value in
    let m = one_less old c.unmark.new.self (lit_var (get_or lits at 0)) c.requires.marked
    (λ v. c.unmark.ensures.marked v ∙ ap (λ n. is_marked old v && not (eqb n v)) (c.var.ensures.value ∙ ap lit_var p_is)) in
    elim c.requires.apart [
      | inl high ↦ absurd (omega (arith, high, c.if-at-self.false))
      | inr under ↦ IsGathered-off_below lits cut.base cut.start cut.above cut.below cut.lits.items old c.unmark.new.self at
          (lit_var (get_or lits at 0)) c.lits-lits.ensures.distinct c.requires.within refl under m c.requires.gathered
    ]
