use Rattle.std.proofs.Common.{◌≡◌, ◌∙◌, ℕ, length, subst, sym}
use Rattle.net_model.specs.Netlist.{AllBelow, setting_inputs}
use Rattle.net_sim.proofs.SettingsPut.{fixed_apart, resets_apart, resets_below, inputs_made}
use Rattle.cnf_encode.proofs.SettingsPut.{not_set}
use Rattle.cnf_encode.proofs.free_bits.put_inputs.Goals as goal

pub put_settings-requires-clause-apart : goal.put_settings-requires-clause-apart
put_settings-requires-clause-apart c = fixed_apart c.args.design.now c.requires.sound

pub put_settings-requires-2-clause-in_range : goal.put_settings-requires-2-clause-in_range
put_settings-requires-2-clause-in_range c =
    let len : length c.args.design.now.inputs ≡ length c.put_settings.new.ins = sym (c.put_settings.ensures.len ∙ c.put_values.ensures.len) in
    subst (λ (n : ℕ). AllBelow n (setting_inputs c.args.design.now.resets)) len (resets_below c.args.design.now c.requires.sound)

pub put_settings-requires-2-clause-apart : goal.put_settings-requires-2-clause-apart
put_settings-requires-2-clause-apart c = resets_apart c.args.design.now c.requires.sound

pub returns : goal.returns
returns c =
    let d = c.args.design.now in
    record {
      lawful =
          inputs_made d _ c.put_settings.new.ins c.put_settings-2.new.ins c.requires.sound
          (c.put_settings-2.ensures.len ∙ (c.put_settings.ensures.len ∙ c.put_values.ensures.len))
          c.put_settings.ensures.put c.put_settings-2.ensures.put c.put_settings-2.ensures.others;
      free = λ i low fixed reset.
          c.put_settings-2.ensures.others i (not_set d.resets i reset)
          ∙ (c.put_settings.ensures.others i (not_set d.fixed i fixed)
          ∙ c.put_values.ensures.each i low);
    }
