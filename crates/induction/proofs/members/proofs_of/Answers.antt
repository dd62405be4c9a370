use Rattle.induction.specs.Members.{proofs_of}
use Rattle.induction.proofs.Ending.{proofs_taken}
use Rattle.induction.proofs.members.proofs_of.Goals as goal

pub loop-member-preserved : goal.loop-member-preserved
loop-member-preserved c =
    let taken = proofs_taken c.loop-member.members.items c.pop.new.self.items c.loop-member.steps.items c.pop-in-Some.new.self.items
    c.loop-member.proofs.items c.push.new.self.items (proofs_of c.args.members c.args.steps) c.in-Some.member c.in-Some-pop.step
    c.in-Some.ensures.items c.in-Some-pop.ensures.items c.in_ok-push.ensures.items c.loop-member.invariant.same c.loop-member.invariant.whole in
    record { same = taken.same; whole = taken.whole_is }
