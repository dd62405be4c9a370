use Rattle.std.proofs.Common.{◌∙◌, ◌-◌, refl, arith, length, length-set}
use Rattle.net_model.proofs.Sources.{net_of}
use Rattle.net_model.proofs.Marking.{mapped_below}
use Rattle.frame_unroll.specs.declared.drivers.Driver.TheVariants.{Bit}
use Rattle.frame_unroll.proofs.Driving.{outs_none, outs_back, outs_all}
use Rattle.frame_unroll.proofs.drivers.put_outs.Goals as goal

pub loop-i-init : goal.loop-i-init
loop-i-init c = record { len = refl; shown = λ n. outs_none c.args.outs.now c.args.reg c.args.drivers.now c.len-count.result n c.len-count.ensures }

pub put-requires : goal.put-requires
put-requires c =
    let low = mapped_below net_of (length c.args.drivers.now) c.args.outs.now (c.len-count.result - 1 - c.loop-i.i) c.at-out.result c.at-out.ensures
    c.requires in
    omega (arith, low, c.loop-i.invariant.len)

pub loop-i-preserved : goal.loop-i-preserved
loop-i-preserved c =
    let out = c.at-out.result in
    let low = mapped_below net_of (length c.args.drivers.now) c.args.outs.now (c.len-count.result - 1 - c.loop-i.i) out c.at-out.ensures c.requires in
    rw c.put.ensures (record {
      len = length-set c.loop-i.drivers out.net (Bit c.args.reg out.inverted) ∙ c.loop-i.invariant.len;
      shown = outs_back c.args.outs.now c.args.reg c.args.drivers.now c.loop-i.drivers c.len-count.result c.loop-i.i out c.loop-i-test.true
          c.at-out.ensures (omega (arith, low, c.loop-i.invariant.len)) c.loop-i.invariant.shown;
    })

pub returns-clause-shown : goal.returns-clause-shown
returns-clause-shown c n =
    outs_all c.args.outs.now c.args.reg c.args.drivers.now c.loop-i.drivers c.len-count.result c.loop-i.i n (omega arith) (c.loop-i.invariant.shown n)
