use Rattle.std.proofs.Common.{◌≡◌, arith, subst}
use Rattle.std.proofs.lemmas.Option.{slice_get-get_or}
use Rattle.net_model.proofs.Sources.{reg_out_in_range, ShowsBit}
use Rattle.and_graphs.specs.Graphs.{bit_of}
use Rattle.claim_monitor.specs.Shown.{shown_row}
use Rattle.claim_monitor.proofs.NetLits.{reg_nets_none, reg_nets_more}
use Rattle.claim_monitor.proofs.nets.put_reg.Goals as goal

pub loop-o-init : goal.loop-o-init
loop-o-init c = reg_nets_none c.args.design.now c.args.r c.item-reg.result.now.outs c.args.bit c.args.nets.now c.requires.len

pub put-requires : goal.put-requires
put-requires c =
    let low = reg_out_in_range c.args.design.now c.args.r c.item-reg.result.now c.loop-o.o c.at-out.result c.requires.sound c.item-reg.ensures
    c.at-out.ensures in
    let len = c.loop-o.invariant.len in
    omega arith

pub loop-o-preserved : goal.loop-o-preserved
loop-o-preserved c =
    rw c.put.ensures (reg_nets_more c.args.design.now c.args.r c.item-reg.result.now c.args.bit c.args.nets.now c.loop-o.nets c.loop-o.o
    c.shown_literal-literal.result c.at-out.result c.requires.sound c.item-reg.ensures c.at-out.ensures
    (λ g f means. c.shown_literal-literal.ensures g f c.at-out.result.net means) c.loop-o.invariant)

pub returns-clause-kept : goal.returns-clause-kept
returns-clause-kept c = λ g x n of len has. (c.loop-o.invariant.bits g x of len).kept n has

pub returns-clause-shown : goal.returns-clause-shown
returns-clause-shown c =
    λ g x reg of len at.
    let same : c.item-reg.result.now ≡ reg = cc in
    subst (ShowsBit (shown_row g x c.loop-o.nets) (bit_of g x c.args.bit)) same
    (λ k d within. (c.loop-o.invariant.bits g x of len).shown k (omega arith) _ (slice_get-get_or c.item-reg.result.now.outs k d within))
