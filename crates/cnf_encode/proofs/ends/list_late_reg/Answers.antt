use Rattle.std.proofs.Common.{◌∙◌, ◌∷◌, [], ap, sym}
use Rattle.query_model.specs.Defined.{Definition}
use Rattle.query_model.proofs.Based.{get_within}
use Rattle.cnf_encode.proofs.Listing.{Lists-same, Closed-same}
use Rattle.cnf_encode.proofs.Captures.{late_reg_is}
use Rattle.cnf_encode.proofs.CellClauses.{reg_known, late_reg_sited}
use Rattle.cnf_encode.proofs.ends.list_late_reg.Goals as goal

pub reg-requires : goal.reg-requires
reg-requires c =
    let s = c.args.late.now.subject in
    let reg = get_within s.design.now.regs c.args.r c.requires.place in
    reg_known s.design.now c.args.late.now.cells.now c.args.r reg.0 c.requires.late.cells reg.1

pub list_site-requires-clause-suits : goal.list_site-requires-clause-suits
list_site-requires-clause-suits c =
    let late = c.args.late.now in
    let s = late.subject in
    let reg = get_within s.design.now.regs c.args.r c.requires.place in
    (late_reg_sited s.design.now late.cells.now s.claim.now s.moved c.args.cycle c.args.r reg.0 c.reg.result.now c.in_ok-site.site c.requires.late.cells
    reg.1 c.reg.ensures (c.in_ok-site.ensures reg.0 reg.1)).suits

pub list_site-requires-clause-closed : goal.list_site-requires-clause-closed
list_site-requires-clause-closed c =
    let late = c.args.late.now in
    let s = late.subject in
    let reg = get_within s.design.now.regs c.args.r c.requires.place in
    let sited = late_reg_sited s.design.now late.cells.now s.claim.now s.moved c.args.cycle c.args.r reg.0 c.reg.result.now c.in_ok-site.site
    c.requires.late.cells reg.1 c.reg.ensures (c.in_ok-site.ensures reg.0 reg.1) in
    let is = late_reg_is late.cells.now.list.coding s.design.now s.claim.now s.moved c.args.cycle c.args.r reg.0 reg.1 in
    Closed-same (is ∙ ap (λ (def : Definition). def ∷ []) (sym sited.is)) c.requires.closed

pub returns : goal.returns
returns c =
    let late = c.args.late.now in
    let s = late.subject in
    let reg = get_within s.design.now.regs c.args.r c.requires.place in
    let sited = late_reg_sited s.design.now late.cells.now s.claim.now s.moved c.args.cycle c.args.r reg.0 c.reg.result.now c.in_ok-site.site
    c.requires.late.cells reg.1 c.reg.ensures (c.in_ok-site.ensures reg.0 reg.1) in
    let is = late_reg_is late.cells.now.list.coding s.design.now s.claim.now s.moved c.args.cycle c.args.r reg.0 reg.1 in
    Lists-same (ap (λ (def : Definition). def ∷ []) sited.is ∙ sym is) c.in_ok-list_site.ensures
