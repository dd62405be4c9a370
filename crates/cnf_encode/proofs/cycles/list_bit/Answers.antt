use Rattle.std.proofs.Common.{◌∙◌, ◌∷◌, [], ap, sym}
use Rattle.query_model.specs.Defined.{Definition, bit_definition}
use Rattle.query_model.proofs.Based.{get_within}
use Rattle.cnf_encode.specs.Listed.{alone}
use Rattle.cnf_encode.proofs.Listing.{Closed-same, Lists-same}
use Rattle.cnf_encode.proofs.Covering.{at_place_is}
use Rattle.cnf_encode.proofs.CellClauses.{reg_known, bit_sited}
use Rattle.cnf_encode.proofs.cycles.list_bit.Goals as goal

pub reg-requires : goal.reg-requires
reg-requires c =
    let d = c.args.cone.now.design.now in
    let reg = get_within d.regs c.args.r c.requires.place in
    reg_known d c.args.cone.now.cells.now c.args.r reg.0 c.requires.cone.of.cells reg.1

pub list_site-requires-clause-suits : goal.list_site-requires-clause-suits
list_site-requires-clause-suits c =
    let d = c.args.cone.now.design.now in
    let reg = get_within d.regs c.args.r c.requires.place in
    (bit_sited d c.args.cone.now.cells.now c.args.cycle c.args.r reg.0 c.reg.result.now c.in_ok-site.site c.requires.cone.of.cells reg.1 c.reg.ensures
    (c.in_ok-site.ensures reg.0 reg.1)).suits

pub list_site-requires-clause-closed : goal.list_site-requires-clause-closed
list_site-requires-clause-closed c =
    let d = c.args.cone.now.design.now in
    let reg = get_within d.regs c.args.r c.requires.place in
    let sited = bit_sited d c.args.cone.now.cells.now c.args.cycle c.args.r reg.0 c.reg.result.now c.in_ok-site.site c.requires.cone.of.cells reg.1
    c.reg.ensures (c.in_ok-site.ensures reg.0 reg.1) in
    let is = at_place_is (alone (bit_definition c.args.cone.now.cells.now.list.coding d c.args.cycle)) d.regs c.args.r reg.0 reg.1 in
    Closed-same (is ∙ ap (λ (def : Definition). def ∷ []) (sym sited.is)) c.requires.closed

pub returns : goal.returns
returns c =
    let d = c.args.cone.now.design.now in
    let reg = get_within d.regs c.args.r c.requires.place in
    let sited = bit_sited d c.args.cone.now.cells.now c.args.cycle c.args.r reg.0 c.reg.result.now c.in_ok-site.site c.requires.cone.of.cells reg.1
    c.reg.ensures (c.in_ok-site.ensures reg.0 reg.1) in
    let is = at_place_is (alone (bit_definition c.args.cone.now.cells.now.list.coding d c.args.cycle)) d.regs c.args.r reg.0 reg.1 in
    Lists-same (ap (λ (def : Definition). def ∷ []) sited.is ∙ sym is) c.in_ok-list_site.ensures
