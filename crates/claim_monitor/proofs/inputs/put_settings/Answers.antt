use Rattle.std.proofs.Common.{arith, length}
use Rattle.std.proofs.lemmas.Option.{slice_get-get_or}
use Rattle.net_sim.proofs.SettingsPut.{input_below}
use Rattle.claim_monitor.proofs.InputLits.{setting_lits_none, setting_lits_more}
use Rattle.claim_monitor.proofs.inputs.put_settings.Goals as goal

pub loop-k-init : goal.loop-k-init
loop-k-init c = setting_lits_none c.args.settings.now c.args.active c.args.ins.now

pub put-requires : goal.put-requires
put-requires c =
    let low = input_below (length c.args.ins.now) c.args.settings.now c.loop-k.k c.at-setting.result c.requires.in_range c.at-setting.ensures in
    let len = c.loop-k.invariant.len in
    omega arith

pub loop-k-preserved : goal.loop-k-preserved
loop-k-preserved c =
    rw c.put.ensures (setting_lits_more c.args.settings.now c.args.active c.args.ins.now c.loop-k.ins c.loop-k.k c.setting_literal-literal.result
    c.at-setting.result c.requires.in_range c.requires.apart c.at-setting.ensures c.setting_literal-literal.ensures c.loop-k.invariant)

pub returns-clause-put : goal.returns-clause-put
returns-clause-put c =
    λ g a x means len k o within. (c.loop-k.invariant.bits g a x means len).put k (omega arith) _ (slice_get-get_or c.args.settings.now k o within)

pub returns-clause-others : goal.returns-clause-others
returns-clause-others c = λ g a x i means len out. (c.loop-k.invariant.bits g a x means len).others i out
