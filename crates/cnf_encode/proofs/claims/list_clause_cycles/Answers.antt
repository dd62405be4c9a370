use Rattle.std.proofs.Common.{[], sym}
use Rattle.std.proofs.lemmas.List.{append-nil}
use Rattle.query_model.specs.Defined.{base_definitions}
use Rattle.cnf_encode.specs.Listed.{clause_cycle}
use Rattle.cnf_encode.proofs.Listing.{Closed-below, Closed-left, Lists-below_more, Lists-same}
use Rattle.cnf_encode.proofs.claims.list_clause_cycles.Goals as goal

pub list_cycle-requires-clause-closed : goal.list_cycle-requires-clause-closed
list_cycle-requires-clause-closed c =
    let coding = c.args.cone.now.cells.now.list.coding in
    Closed-left (base_definitions coding c.args.cone.now.design.now c.args.cone.now.live c.loop-cycle.cycle) []
    (Closed-below (clause_cycle coding c.args.cone.now.design.now c.args.cone.now.live) c.args.cycles c.loop-cycle.cycle c.loop-cycle-test.true
    c.requires.closed)

pub loop-cycle-preserved : goal.loop-cycle-preserved
loop-cycle-preserved c =
    let coding = c.args.cone.now.cells.now.list.coding in
    Lists-below_more (clause_cycle coding c.args.cone.now.design.now c.args.cone.now.live) c.loop-cycle.cycle c.loop-cycle.invariant
    (Lists-same (sym (append-nil (base_definitions coding c.args.cone.now.design.now c.args.cone.now.live c.loop-cycle.cycle))) c.in_ok-list_cycle.ensures)

pub list_cycle-requires-clause-cone : goal.list_cycle-requires-clause-cone
list_cycle-requires-clause-cone c = record { cycles = c.args.cycles; of = c.requires.cone; lt = c.loop-cycle-test.true }
