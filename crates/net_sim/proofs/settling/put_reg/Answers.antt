use Rattle.std.proofs.Common.{◌≡◌, arith, subst, rules}
use Rattle.std.proofs.lemmas.Option.{slice_get-get_or}
use Rattle.net_model.proofs.Sources.{reg_more, reg_out_in_range, ShowsBit}
use Rattle.net_sim.proofs.settling.put_reg.Goals as goal

pub put-requires : goal.put-requires
put-requires c =
    let low = reg_out_in_range c.args.design.now c.args.r c.item-reg.result.now c.loop-o.o c.at-out.result c.requires.sound c.item-reg.ensures
    c.at-out.ensures in
    omega arith

pub loop-o-preserved : goal.loop-o-preserved
loop-o-preserved c =
    rw c.put.ensures (reg_more c.args.design.now c.args.r c.item-reg.result.now c.args.bit c.args.nets.now c.loop-o.nets c.loop-o.o c.at-out.result _
    c.requires.sound c.item-reg.ensures c.at-out.ensures (search rules) c.loop-o.invariant)

pub returns-clause-shown : goal.returns-clause-shown
returns-clause-shown c =
    λ reg at.
    let same : c.item-reg.result.now ≡ reg = cc in
    subst (ShowsBit c.loop-o.nets c.args.bit) same
    (λ k d within. c.loop-o.invariant.shown k (omega arith) _ (slice_get-get_or c.item-reg.result.now.outs k d within))
