use Rattle.std.proofs.Common.{◌<◌, ◌-◌, ◌∙◌, Some, arith, length, length-set}
use Rattle.cnf_encode.proofs.Valued.{values_back}
use Rattle.net_sim.proofs.SettingsPut.{input_below}
use Rattle.cnf_encode.proofs.input_values.input_values.Goals as goal

pub put-requires : goal.put-requires
put-requires c =
    let low = input_below c.args.inputs c.args.settings.now (c.len-count.result - 1 - c.loop-i.i) c.at-setting.result c.requires c.at-setting.ensures in
    omega (arith, low, c.loop-i.invariant.len)

pub loop-i-preserved : goal.loop-i-preserved
loop-i-preserved c =
    let setting = c.at-setting.result in
    let low = input_below c.args.inputs c.args.settings.now (c.len-count.result - 1 - c.loop-i.i) setting c.requires c.at-setting.ensures in
    let within : setting.input < length c.loop-i.values = omega (arith, low, c.loop-i.invariant.len) in
    rw c.put.ensures (record {
      len = length-set c.loop-i.values setting.input (Some setting.value) ∙ c.loop-i.invariant.len;
      values = values_back c.args.settings.now c.loop-i.values c.len-count.result c.loop-i.i setting c.loop-i-test.true c.at-setting.ensures within
          c.loop-i.invariant.values;
    })
