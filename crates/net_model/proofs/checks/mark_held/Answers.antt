use Rattle.std.proofs.Common.{◌<◌, length}
use Rattle.net_model.specs.Netlist.{setting_inputs}
use Rattle.net_model.proofs.Ranging.{all_right}
use Rattle.net_model.proofs.checks.mark_held.Goals as goal

pub mark_settings-requires-2 : goal.mark_settings-requires-2
mark_settings-requires-2 c =
    let d = c.args.design.now in
    rw c.in_default.ensures.len (all_right (λ n. n < length c.args.marks.now) (setting_inputs d.fixed) (setting_inputs d.resets) c.requires)
