use Rattle.std.proofs.Common.{◌≡◌, ◌∙◌, ap, sym, subst, length, slice_get, Some, refl, List, OnOk}
use Rattle.net_model.specs.Cycles.{reg_capture}
use Rattle.net_model.specs.declared.netlist.Design.{Design}
use Rattle.net_model.specs.declared.netlist.Reg.{Reg}
use Rattle.query_model.proofs.Based.{get_within}
use Rattle.query_model.specs.declared.keys.Key.{Key}
use Rattle.frame_unroll.specs.Counting.{counted}
use Rattle.frame_unroll.specs.Origins.{reg_base}
use Rattle.frame_unroll.specs.Sites.{bit_site}
use Rattle.frame_unroll.specs.declared.sites.Site.{Site}
use Rattle.frame_unroll.specs.Found.{with_keys}
use Rattle.frame_unroll.proofs.Tabled.{reg_counted, reg_long, length-bit_reads}
use Rattle.frame_unroll.proofs.found_keys.add_base_reg.Goals as goal

pub add_counted-requires : goal.add_counted-requires
add_counted-requires c =
    let t = c.args.tables.now in
    let reg = get_within t.design.regs c.args.reg c.requires.reg in
    let Is : Design → Type 0 = λ d. (r : Reg) → slice_get d.regs c.args.reg ≡ Some r → c.in_ok-site.site ≡ bit_site d c.args.cycle c.args.reg r in
    let site = subst Is c.design.ensures c.in_ok-site.ensures reg.0 reg.1 in
    reg_long t t.design c.args.reg reg.0 c.reg_places.result.now c.in_ok-site.site.high.reads refl reg.1 c.reg_places.ensures
    (ap (λ (s : Site). length s.high.reads) site
    ∙ length-bit_reads t.design c.args.cycle c.args.reg reg.0)

pub returns : goal.returns
returns c =
    let t = c.args.tables.now in
    let reg = get_within t.design.regs c.args.reg c.requires.reg in
    let Is : Design → Type 0 = λ d. (r : Reg) → slice_get d.regs c.args.reg ≡ Some r → c.in_ok-site.site ≡ bit_site d c.args.cycle c.args.reg r in
    let site = subst Is c.design.ensures c.in_ok-site.ensures reg.0 reg.1 in
    let counts = reg_counted t t.design c.args.reg reg.0 c.reg_places.result.now c.in_ok-site.site.high.reads refl reg.1 c.reg_places.ensures
    (ap (λ (s : Site). length s.high.reads) site
    ∙ length-bit_reads t.design c.args.cycle c.args.reg reg.0)
    ∙ ap (λ (s : Site). counted t.coding (reg_capture reg.0) s.high.reads) site in
    let whole = ap (with_keys c.args.found.now) (counts ∙ sym (ap (reg_base t.coding t.design c.args.cycle c.args.reg) reg.1)) in
    subst (λ (keys : List Key). OnOk c.add_counted.result (c.add_counted.new.found ≡ keys)) whole c.add_counted.ensures
