use Rattle.std.proofs.Common.{arith, rules, length}
use Rattle.std.proofs.lemmas.Option.{slice_get-get_or}
use Rattle.net_sim.proofs.SettingsPut.{settings_more, input_below}
use Rattle.net_sim.proofs.settings.put_settings.Goals as goal

pub put-requires : goal.put-requires
put-requires c =
    let low = input_below (length c.args.ins.now) c.args.settings.now c.loop-k.k c.at-setting.result c.requires.in_range c.at-setting.ensures in
    omega (arith, low, c.loop-k.invariant.len)

pub loop-k-preserved : goal.loop-k-preserved
loop-k-preserved c =
    rw c.put.ensures (settings_more c.args.settings.now c.args.active c.args.ins.now c.loop-k.ins c.loop-k.k c.at-setting.result _ c.requires.in_range
    c.requires.apart c.at-setting.ensures (search rules) c.loop-k.invariant)

pub returns-clause-put : goal.returns-clause-put
returns-clause-put c =
    λ k o within. c.loop-k.invariant.put k (omega arith) _ (slice_get-get_or c.args.settings.now k o within)
