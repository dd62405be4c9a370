use Rattle.std.proofs.Common.{arith, ◌≡◌, ◌+◌, ◌-◌, ℕ, subst}
use Rattle.inv_candidates.specs.Leading.{AreSwept}
use Rattle.inv_candidates.proofs.Marking.{swept_none, swept_more}
use Rattle.inv_candidates.proofs.sweeps.sweep.Goals as goal

pub loop-seen-init : goal.loop-seen-init
loop-seen-init c = swept_none c.args.design.now (c.len-count.result - 0) c.args.marks.now (omega arith)

pub loop-seen-preserved : goal.loop-seen-preserved
loop-seen-preserved c =
    let d = c.args.design.now in
    let place : ℕ = c.len-count.result - 1 - c.loop-seen.seen in
    let before : c.len-count.result - c.loop-seen.seen ≡ place + 1 = omega arith in
    let after : place ≡ c.len-count.result - (c.loop-seen.seen + 1) = omega arith in
    subst (λ n. AreSwept d n c.args.marks.now c.pass.new.marks) after
    (swept_more d place c.args.marks.now c.loop-seen.marks c.pass.new.marks c.requires.sound
    (subst (λ n. AreSwept d n c.args.marks.now c.loop-seen.marks) before c.loop-seen.invariant) c.pass.ensures)

pub returns : goal.returns
returns c =
    let none : c.len-count.result - c.loop-seen.seen ≡ 0 = omega arith in
    subst (λ n. AreSwept c.args.design.now n c.args.marks.now c.loop-seen.marks) none c.loop-seen.invariant
