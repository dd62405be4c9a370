use Rattle.std.proofs.Common.{◌≡◌, ◌∙◌, ℕ, ap, length, subst, sym}
use Rattle.net_model.specs.Netlist.{AllBelow, setting_inputs}
use Rattle.net_model.specs.LaneBits.{lane, lane_row}
use Rattle.net_model.specs.declared.lane_words.Lanes.{Lanes}
use Rattle.net_sim.proofs.LaneSettling.{length-lane_row, row_bit}
use Rattle.net_sim.proofs.SettingsPut.{fixed_apart, resets_apart, fixed_below, resets_below, inputs_made}
use Rattle.drawn_runs.proofs.Filling.{not_fixed, not_reset}
use Rattle.drawn_runs.proofs.inputs.fill_inputs.Goals as goal

pub put_settings64-requires-clause-in_range : goal.put_settings64-requires-clause-in_range
put_settings64-requires-clause-in_range c =
    subst (λ (n : ℕ). AllBelow n (setting_inputs c.args.design.now.fixed)) (sym c.put_free.ensures.len) (fixed_below c.args.design.now c.requires.sound)

pub put_settings64-requires-clause-apart : goal.put_settings64-requires-clause-apart
put_settings64-requires-clause-apart c = fixed_apart c.args.design.now c.requires.sound

pub put_settings64-requires-2-clause-in_range : goal.put_settings64-requires-2-clause-in_range
put_settings64-requires-2-clause-in_range c =
    let len : length c.args.design.now.inputs ≡ length c.put_settings64.new.ins = sym (c.put_settings64.ensures.len ∙ c.put_free.ensures.len) in
    subst (λ (n : ℕ). AllBelow n (setting_inputs c.args.design.now.resets)) len (resets_below c.args.design.now c.requires.sound)

pub put_settings64-requires-2-clause-apart : goal.put_settings64-requires-2-clause-apart
put_settings64-requires-2-clause-apart c = resets_apart c.args.design.now c.requires.sound

pub returns-clause-lawful : goal.returns-clause-lawful
returns-clause-lawful c =
    λ i lt.
    let d = c.args.design.now in
    let last = c.put_settings64-2.new.ins in
    inputs_made d c.args.active (lane_row i c.put_settings64.new.ins) (lane_row i last) c.requires.sound
    (length-lane_row i last ∙ (c.put_settings64-2.ensures.len ∙ (c.put_settings64.ensures.len ∙ c.put_free.ensures.len)))
    (c.put_settings64.ensures.put i lt) (c.put_settings64-2.ensures.put i lt) (c.put_settings64-2.ensures.others i lt)

pub returns-clause-next : goal.returns-clause-next
returns-clause-next c = λ base at. (c.put_free.ensures.drawn base at).next

pub returns-clause-free : goal.returns-clause-free
returns-clause-free c =
    λ base at i lt input low free.
    let d = c.args.design.now in
    c.put_settings64-2.ensures.others i lt input (not_reset d input free)
    ∙ (c.put_settings64.ensures.others i lt input (not_fixed d input free)
    ∙ (row_bit i c.put_free.new.ins input lt
    ∙ ap (λ (w : Lanes). lane w i) ((c.put_free.ensures.drawn base at).put input low free)))
