use Rattle.std.proofs.Common.{arith, ◌∙◌, ℕ, List, get_or, ap, sym}
use Rattle.glob.specs.Match.{fits}
use Rattle.glob.proofs.Laying.{whole_rest, whole_fails, both_ended, one_ended}
use Rattle.glob.proofs.globs.lay.Goals as goal

pub returns-then-pattern-name : goal.returns-then-pattern-name
returns-then-pattern-name c = both_ended c.args.pattern.now c.args.name.now c.loop-count.count (omega (arith, c.loop-count-test.false))
    (omega (arith, c.if-pattern-name.true)) c.loop-count.invariant

pub returns-else-pattern-name : goal.returns-else-pattern-name
returns-else-pattern-name c = one_ended c.args.pattern.now c.args.name.now c.loop-count.count (omega (arith, c.loop-count-test.false))
    c.if-pattern-name.false c.loop-count.invariant

pub returns-then-not-fits : goal.returns-then-not-fits
returns-then-not-fits c =
    let p : List ℕ = c.args.pattern.now in
    let n : List ℕ = c.args.name.now in
    let k : ℕ = c.loop-count.count in
    whole_rest p n k c.loop-count.invariant ∙ whole_fails p n k (omega (arith, c.loop-count-test.true)) c.if-p-eq42.false
    (sym (c.fits.ensures ∙ ap (fits (get_or p k 0)) c.after.ensures) ∙ c.if-not-fits.true)
