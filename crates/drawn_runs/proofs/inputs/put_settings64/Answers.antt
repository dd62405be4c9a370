use Rattle.std.proofs.Common.{◌+◌, ◌∙◌, ap, arith, length, length-set, List, subst, sym}
use Rattle.std.proofs.lemmas.Option.{slice_get-get_or}
use Rattle.net_model.specs.LaneBits.{lane_row}
use Rattle.net_model.specs.declared.lane_words.Lanes.{Lanes}
use Rattle.net_sim.proofs.SettingsPut.{SettingsDone, input_below}
use Rattle.drawn_runs.proofs.Filling.{lane_settings_more}
use Rattle.drawn_runs.proofs.inputs.put_settings64.Goals as goal

pub put-requires : goal.put-requires
put-requires c =
    let low = input_below (length c.args.ins.now) c.args.settings.now c.loop-k.k c.at-setting.result c.requires.in_range c.at-setting.ensures in
    omega (arith, low, c.loop-k.invariant.len)

pub loop-k-preserved : goal.loop-k-preserved
loop-k-preserved c =
    let setting = c.at-setting.result in
    let word = c.set_lanes.result in
    record {
      len = ap length c.put.ensures ∙ (length-set c.loop-k.ins setting.input word ∙ c.loop-k.invariant.len);
      lanes = λ i lt.
          subst (λ (xs : List Lanes). SettingsDone c.args.settings.now c.args.active (lane_row i c.args.ins.now) (lane_row i xs) (c.loop-k.k + 1))
          (sym c.put.ensures)
          (lane_settings_more i c.args.settings.now c.args.active c.args.ins.now c.loop-k.ins c.loop-k.k setting word c.requires.in_range c.requires.apart
          c.at-setting.ensures (c.set_lanes.ensures i lt) (c.loop-k.invariant.lanes i lt));
    }

pub returns-clause-put : goal.returns-clause-put
returns-clause-put c =
    λ i lt k o within. (c.loop-k.invariant.lanes i lt).put k (omega arith) _ (slice_get-get_or c.args.settings.now k o within)
