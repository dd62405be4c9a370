use Rattle.std.proofs.Common.{◌≡◌, ◌∙◌, ℕ, not, true, length, subst, sym}
use Rattle.net_model.specs.Netlist.{AllBelow, setting_inputs}
use Rattle.net_sim.proofs.SettingsPut.{fixed_apart, resets_apart, fixed_below, resets_below, inputs_made}
use Rattle.claim_monitor.specs.Shown.{is_live, shown_row}
use Rattle.claim_monitor.proofs.Showing.{length-shown_row}
use Rattle.claim_monitor.proofs.InputLits.{not_fixed, not_reset}
use Rattle.claim_monitor.proofs.inputs.input_literals.Goals as goal

pub put_settings-requires-clause-in_range : goal.put_settings-requires-clause-in_range
put_settings-requires-clause-in_range c =
    subst (λ (n : ℕ). AllBelow n (setting_inputs c.args.design.now.fixed)) (sym c.in_ok-put_free.ensures.len) (fixed_below c.args.design.now c.requires.sound)

pub put_settings-requires-clause-apart : goal.put_settings-requires-clause-apart
put_settings-requires-clause-apart c = fixed_apart c.args.design.now c.requires.sound

pub put_settings-requires-2-clause-in_range : goal.put_settings-requires-2-clause-in_range
put_settings-requires-2-clause-in_range c =
    let len : length c.args.design.now.inputs ≡ length c.put_settings.new.ins = sym (c.put_settings.ensures.len ∙ c.in_ok-put_free.ensures.len) in
    subst (λ (n : ℕ). AllBelow n (setting_inputs c.args.design.now.resets)) len (resets_below c.args.design.now c.requires.sound)

pub put_settings-requires-2-clause-apart : goal.put_settings-requires-2-clause-apart
put_settings-requires-2-clause-apart c = resets_apart c.args.design.now c.requires.sound

pub returns : goal.returns
returns c =
    let g = c.args.graph.now in
    let d = c.args.design.now in
    let s = c.args.sizes.now in
    let one = c.bit_literal.ensures g in
    let off = c.complement.ensures g (is_live s) c.in_ok-live.ensures in
    let last = c.put_settings-2.new.ins in
    record {
      in_ = c.put_settings-2.ensures.in_ g (λ x. not (is_live s x)) off (c.put_settings.ensures.in_ g (λ x. true) one c.in_ok-put_free.ensures.in_);
      lawful = λ x len.
          inputs_made d (not (is_live s x)) (shown_row g x c.put_settings.new.ins) (shown_row g x last) c.requires.sound
          (length-shown_row g x last ∙ (c.put_settings-2.ensures.len ∙ (c.put_settings.ensures.len ∙ c.in_ok-put_free.ensures.len)))
          (c.put_settings.ensures.put g (λ y. true) x one len) (c.put_settings-2.ensures.put g (λ y. not (is_live s y)) x off len)
          (λ i out. c.put_settings-2.ensures.others g (λ y. not (is_live s y)) x i off len out);
      free = λ x len i low free.
          c.put_settings-2.ensures.others g (λ y. not (is_live s y)) x i off len (not_reset d i free)
          ∙ (c.put_settings.ensures.others g (λ y. true) x i one len (not_fixed d i free) ∙ c.in_ok-put_free.ensures.free x len i low free);
    }
