use Rattle.std.proofs.Common.{◌+◌, ◌∙◌, ◌∷◌, [], ap, sym}
use Rattle.query_model.specs.Defined.{Definition}
use Rattle.cnf_encode.proofs.Listing.{Lists-same, Closed-same}
use Rattle.cnf_encode.proofs.Layering.{layer_gate_is}
use Rattle.cnf_encode.proofs.CellClauses.{gate_known, late_gate_sited}
use Rattle.cnf_encode.proofs.layers.list_layer_gate.Goals as goal

pub gate-requires : goal.gate-requires
gate-requires c =
    gate_known c.args.late.now.subject.design.now c.args.late.now.cells.now c.args.k c.item-gate.result.now c.requires.late.cells c.item-gate.ensures

pub list_site-requires-clause-suits : goal.list_site-requires-clause-suits
list_site-requires-clause-suits c =
    let late = c.args.late.now in
    let s = late.subject in
    let g = c.item-gate.result.now in
    (late_gate_sited s.design.now late.cells.now s.claim.now s.moved c.args.layer_at.cycle (c.args.layer_at.layer + 1) c.args.k g c.gate.result.now
    c.in_ok-site.site c.requires.late.cells c.item-gate.ensures c.gate.ensures (c.in_ok-site.ensures g c.item-gate.ensures)).suits

pub list_site-requires-clause-closed : goal.list_site-requires-clause-closed
list_site-requires-clause-closed c =
    let late = c.args.late.now in
    let s = late.subject in
    let g = c.item-gate.result.now in
    let sited = late_gate_sited s.design.now late.cells.now s.claim.now s.moved c.args.layer_at.cycle (c.args.layer_at.layer + 1) c.args.k g c.gate.result.now
    c.in_ok-site.site c.requires.late.cells c.item-gate.ensures c.gate.ensures (c.in_ok-site.ensures g c.item-gate.ensures) in
    let is = layer_gate_is late.cells.now.list.coding s.design.now s.claim.now s.moved c.args.layer_at.cycle c.args.layer_at.layer c.args.k g
    c.item-gate.ensures (sym c.has_own.ensures ∙ c.if-not-has_own.false) in
    Closed-same (is ∙ ap (λ (def : Definition). def ∷ []) (sym sited.is)) c.requires.closed

pub returns : goal.returns
returns c =
    let late = c.args.late.now in
    let s = late.subject in
    let g = c.item-gate.result.now in
    let sited = late_gate_sited s.design.now late.cells.now s.claim.now s.moved c.args.layer_at.cycle (c.args.layer_at.layer + 1) c.args.k g c.gate.result.now
    c.in_ok-site.site c.requires.late.cells c.item-gate.ensures c.gate.ensures (c.in_ok-site.ensures g c.item-gate.ensures) in
    let is = layer_gate_is late.cells.now.list.coding s.design.now s.claim.now s.moved c.args.layer_at.cycle c.args.layer_at.layer c.args.k g
    c.item-gate.ensures (sym c.has_own.ensures ∙ c.if-not-has_own.false) in
    Lists-same (ap (λ (def : Definition). def ∷ []) sited.is ∙ sym is) c.in_ok-list_site.ensures
