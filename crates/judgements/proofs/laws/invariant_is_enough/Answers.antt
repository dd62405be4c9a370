use Rattle.invariants.proofs.Assisting.{inductive_kept}
use Rattle.judgements.proofs.Enough.{justified_by}
use Rattle.judgements.proofs.laws.invariant_is_enough.Goals as goal

pub returns : goal.returns
returns c = λ claim verdict here there is none no_answer.
    let d = c.args.design.now in
    let is_right = c.requires.judged in
    let inv = c.args.judged.now.inv in
    justified_by d claim c.args.extra.now inv.kept c.args.limits.now verdict c.requires.sound is_right.kept_hold
    (inductive_kept d c.args.claims.now c.args.extra.now 1 c.args.limits.now.budget inv is_right.invariants c.requires.none_spent c.requires.inductive_)
    is no_answer (is_right.right.each c.args.place claim verdict here there) none
