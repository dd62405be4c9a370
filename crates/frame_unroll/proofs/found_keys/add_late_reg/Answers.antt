use Rattle.std.proofs.Common.{◌≡◌, ◌∙◌, ap, sym, subst, List, OnOk}
use Rattle.query_model.proofs.Based.{get_within}
use Rattle.query_model.specs.declared.keys.Key.{Key}
use Rattle.frame_unroll.specs.Found.{with_keys}
use Rattle.frame_unroll.proofs.Rows.{reg_late-rows}
use Rattle.frame_unroll.proofs.Marking.{reg_longs, reg_marked}
use Rattle.frame_unroll.proofs.found_keys.add_late_reg.Goals as goal

pub add_site-requires : goal.add_site-requires
add_site-requires c =
    let s = c.args.subject.now in
    let reg = get_within s.design.now.regs c.args.reg c.requires.reg in
    let longs = reg_longs s.tables.now s.design.now s.claim.now s.moved c.args.cycle c.args.reg reg.0 c.reg_places.result.now c.in_ok-site.site
    c.requires.subject.tables reg.1 c.reg_places.ensures (c.in_ok-site.ensures reg.0 reg.1) in
    record { high = longs.high; low = longs.low }

pub returns : goal.returns
returns c =
    let s = c.args.subject.now in
    let reg = get_within s.design.now.regs c.args.reg c.requires.reg in
    let is = reg_marked s.tables.now s.design.now s.claim.now s.moved c.args.cycle c.args.reg reg.0 c.reg_places.result.now c.in_ok-site.site
    c.requires.subject.tables reg.1 c.reg_places.ensures (c.in_ok-site.ensures reg.0 reg.1) in
    let rows = reg_late-rows s.tables.now.coding s.design.now s.claim.now s.moved c.args.cycle c.args.reg reg.0 reg.1 in
    subst (λ (keys : List Key). OnOk c.add_site.result (c.add_site.new.found ≡ keys)) (ap (with_keys c.args.found.now) (is ∙ sym rows))
    c.add_site.ensures
