use Rattle.cnf_encode.specs.Listed.{claim_cycle}
use Rattle.cnf_encode.proofs.Listing.{Closed-below, Lists-below_more}
use Rattle.cnf_encode.proofs.claims.list_claim_cycles.Goals as goal

pub list_claim_cycle-requires-clause-closed : goal.list_claim_cycle-requires-clause-closed
list_claim_cycle-requires-clause-closed c =
    let coding = c.args.late.now.cells.now.list.coding in
    let d = c.args.late.now.subject.design.now in
    let claim = c.args.late.now.subject.claim.now in
    let moved = c.args.late.now.subject.moved in
    Closed-below (claim_cycle coding d claim moved c.args.cone.now.live) c.args.cycles c.loop-cycle.cycle
    c.loop-cycle-test.true c.requires.closed

pub loop-cycle-preserved : goal.loop-cycle-preserved
loop-cycle-preserved c =
    let coding = c.args.late.now.cells.now.list.coding in
    let d = c.args.late.now.subject.design.now in
    let claim = c.args.late.now.subject.claim.now in
    let moved = c.args.late.now.subject.moved in
    Lists-below_more (claim_cycle coding d claim moved c.args.cone.now.live) c.loop-cycle.cycle c.loop-cycle.invariant
    c.in_ok-list_claim_cycle.ensures

pub list_claim_cycle-requires-clause-cone : goal.list_claim_cycle-requires-clause-cone
list_claim_cycle-requires-clause-cone c = record { cycles = c.args.cycles; of = c.requires.cone; lt = c.loop-cycle-test.true }
