use Rattle.std.proofs.Common.{List, ℕ, sym, subst, arith}
use Rattle.net_model.specs.declared.netlist.Design.{Design}
use Rattle.query_model.specs.Defined.{base_definitions, claim_definitions}
use Rattle.cnf_encode.specs.Coned.{Covers, gate_points}
use Rattle.cnf_encode.proofs.Listing.{Closed-left, Closed-right, Closed-same, Lists-append, Lists-same}
use Rattle.cnf_encode.proofs.Covering.{base_same, gate_places}
use Rattle.cnf_encode.proofs.claims.list_claim_cycle.Goals as goal

pub item-gates-requires : goal.item-gates-requires
item-gates-requires c = omega (arith, c.requires.cone.of.gates.count, c.requires.cone.lt)

pub list_cycle-requires-clause-closed : goal.list_cycle-requires-clause-closed
list_cycle-requires-clause-closed c =
    let coding = c.args.late.now.cells.now.list.coding in
    Closed-same (sym (base_same coding c.args.late.now.subject.design.now c.args.cone.now c.args.cone.now.live c.args.cycle c.requires.coding c.requires.same))
    (Closed-left (base_definitions coding c.args.late.now.subject.design.now c.args.cone.now.live c.args.cycle)
    (claim_definitions coding c.args.late.now.subject.design.now c.args.late.now.subject.claim.now c.args.late.now.subject.moved c.args.cycle)
    c.requires.closed)

pub list_late-requires-clause-closed : goal.list_late-requires-clause-closed
list_late-requires-clause-closed c =
    let coding = c.args.late.now.cells.now.list.coding in
    Closed-right (base_definitions coding c.args.late.now.subject.design.now c.args.cone.now.live c.args.cycle)
    (claim_definitions coding c.args.late.now.subject.design.now c.args.late.now.subject.claim.now c.args.late.now.subject.moved c.args.cycle) c.requires.closed

pub list_late-requires-clause-gates : goal.list_late-requires-clause-gates
list_late-requires-clause-gates c =
    let gates : List ℕ = c.item-gates.result.now in
    subst (λ (d : Design). Covers c.args.frames.now c.args.cycle (gate_points d) gates) c.requires.same
    (gate_places c.args.frames.now c.args.cycle c.args.cone.now gates c.requires.cone c.item-gates.ensures)

pub returns : goal.returns
returns c =
    let coding = c.args.late.now.cells.now.list.coding in
    Lists-append (Lists-same (base_same coding c.args.late.now.subject.design.now c.args.cone.now c.args.cone.now.live c.args.cycle c.requires.coding
    c.requires.same) c.in_ok-list_cycle.ensures) c.in_ok-list_late.ensures
