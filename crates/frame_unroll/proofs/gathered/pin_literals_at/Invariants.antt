use Rattle.std.proofs.Common.{◌≡◌, take}
use Rattle.query_model.specs.Reads.{read_pin}
use Rattle.query_model.specs.Defined.{numbered}
use Rattle.frame_unroll.specs.Gathered.{pin_of}
use Rattle.frame_unroll.proofs.gathered.pin_literals_at.Given as goal

abbrev pub invariant-loop-i : goal.invariant-loop-i
invariant-loop-i l = l.reads ≡ numbered (λ i n. read_pin l.subject.design.now l.subject.claim.now l.subject.moved l.rail_at.cycle
    l.rail_at.layer l.rail_at.rail (pin_of l.owner i) n) 0 (take l.i l.ins)
