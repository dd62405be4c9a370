use Rattle.std.proofs.Common.{◌∙◌, ◌∷◌, [], ap, sym}
use Rattle.query_model.specs.Defined.{Definition}
use Rattle.query_model.proofs.Based.{get_within}
use Rattle.cnf_encode.specs.Listed.{gate_alone}
use Rattle.cnf_encode.proofs.Listing.{Closed-same, Lists-same}
use Rattle.cnf_encode.proofs.Covering.{at_place_is}
use Rattle.cnf_encode.proofs.CellClauses.{gate_known, gate_sited}
use Rattle.cnf_encode.proofs.cycles.list_gate.Goals as goal

pub gate-requires : goal.gate-requires
gate-requires c =
    let d = c.args.cone.now.design.now in
    let gate = get_within d.gates c.args.k c.requires.gate in
    gate_known d c.args.cone.now.cells.now c.args.k gate.0 c.requires.cone.of.cells gate.1

pub list_site-requires-clause-suits : goal.list_site-requires-clause-suits
list_site-requires-clause-suits c =
    let d = c.args.cone.now.design.now in
    let gate = get_within d.gates c.args.k c.requires.gate in
    (gate_sited d c.args.cone.now.cells.now c.args.cycle c.args.k gate.0 c.gate.result.now c.in_ok-site.site c.requires.cone.of.cells gate.1 c.gate.ensures
    (c.in_ok-site.ensures gate.0 gate.1)).suits

pub list_site-requires-clause-closed : goal.list_site-requires-clause-closed
list_site-requires-clause-closed c =
    let d = c.args.cone.now.design.now in
    let gate = get_within d.gates c.args.k c.requires.gate in
    let sited = gate_sited d c.args.cone.now.cells.now c.args.cycle c.args.k gate.0 c.gate.result.now c.in_ok-site.site c.requires.cone.of.cells gate.1
    c.gate.ensures (c.in_ok-site.ensures gate.0 gate.1) in
    let is = at_place_is (gate_alone c.args.cone.now.cells.now.list.coding d c.args.cycle) d.gates c.args.k gate.0 gate.1 in
    Closed-same (is ∙ ap (λ (def : Definition). def ∷ []) (sym sited.is)) c.requires.closed

pub returns : goal.returns
returns c =
    let d = c.args.cone.now.design.now in
    let gate = get_within d.gates c.args.k c.requires.gate in
    let sited = gate_sited d c.args.cone.now.cells.now c.args.cycle c.args.k gate.0 c.gate.result.now c.in_ok-site.site c.requires.cone.of.cells gate.1
    c.gate.ensures (c.in_ok-site.ensures gate.0 gate.1) in
    let is = at_place_is (gate_alone c.args.cone.now.cells.now.list.coding d c.args.cycle) d.gates c.args.k gate.0 gate.1 in
    Lists-same (ap (λ (def : Definition). def ∷ []) sited.is ∙ sym is) c.in_ok-list_site.ensures
