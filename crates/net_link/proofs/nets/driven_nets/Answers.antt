use Rattle.std.proofs.Common.{◌≡◌, ℕ, ◌+◌, Bool, List, subst, sym, arith}
use Rattle.net_link.specs.Nets.{AreMarks}
use Rattle.net_link.proofs.Marking.{marks_none, marks_more}
use Rattle.net_link.proofs.nets.driven_nets.Goals as goal

pub loop-net-init : goal.loop-net-init
loop-net-init c = subst (λ (ms : List Bool). AreMarks c.args.made.now 0 ms) (sym c.new-marks.ensures) (marks_none c.args.made.now)

pub loop-net-preserved : goal.loop-net-preserved
loop-net-preserved c =
    subst (λ (ms : List Bool). AreMarks c.args.made.now (c.loop-net.net + 1) ms) (sym c.in_ok-push.ensures.ok)
    (marks_more c.args.made.now c.loop-net.net c.loop-net.marks c.is_driven.result c.is_driven.ensures c.loop-net.invariant)

pub returns : goal.returns
returns c =
    let all : c.loop-net.net ≡ c.args.nets = omega arith in subst (λ (n : ℕ). AreMarks c.args.made.now n c.loop-net.marks) all c.loop-net.invariant
