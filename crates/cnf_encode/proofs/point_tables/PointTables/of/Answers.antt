use Rattle.std.proofs.Common.{◌∙◌, ◌+◌, List, ℕ, length, subst, sym}
use Rattle.net_model.specs.Netlist.{AllBelow, setting_inputs}
use Rattle.cnf_encode.specs.Placed.{StandOnce}
use Rattle.cnf_encode.proofs.Standing.{inputs_once, gates_below, gates_once, bits_below, bits_once}
use Rattle.net_sim.proofs.SettingsPut.{fixed_below, resets_below}
use Rattle.cnf_encode.proofs.point_tables.PointTables.of.Goals as goal

pub input_values-requires : goal.input_values-requires
input_values-requires c =
    subst (λ (inputs : List ℕ). AllBelow (length inputs) (setting_inputs c.args.design.now.fixed)) (sym c.as_slice-inputs.ensures)
    (fixed_below c.args.design.now c.requires.sound)

pub input_values-requires-2 : goal.input_values-requires-2
input_values-requires-2 c =
    subst (λ (inputs : List ℕ). AllBelow (length inputs) (setting_inputs c.args.design.now.resets)) (sym c.as_slice-inputs.ensures)
    (resets_below c.args.design.now c.requires.sound)

pub places_by_point-requires-clause-once : goal.places_by_point-requires-clause-once
places_by_point-requires-clause-once c = subst StandOnce (sym c.as_slice-inputs.ensures) (inputs_once c.args.design.now c.requires.sound)

pub places_by_point-requires-2-clause-below : goal.places_by_point-requires-2-clause-below
places_by_point-requires-2-clause-below c =
    subst (AllBelow c.args.design.now.nets) (sym (c.deref.ensures.value ∙ c.in_ok-gates.ensures)) (gates_below c.args.design.now c.requires.sound)

pub places_by_point-requires-2-clause-once : goal.places_by_point-requires-2-clause-once
places_by_point-requires-2-clause-once c = subst StandOnce (sym (c.deref.ensures.value ∙ c.in_ok-gates.ensures)) (gates_once c.args.design.now c.requires.sound)

pub places_by_point-requires-3-clause-below : goal.places_by_point-requires-3-clause-below
places_by_point-requires-3-clause-below c =
    subst (λ (n : ℕ). AllBelow (c.args.design.now.nets + n) c.deref-2.result.now) (sym c.len.ensures)
    (subst (AllBelow (c.args.design.now.nets + length c.args.design.now.regs)) (sym (c.deref-2.ensures.value ∙ c.in_ok-bits.ensures))
    (bits_below c.args.design.now))

pub places_by_point-requires-3-clause-once : goal.places_by_point-requires-3-clause-once
places_by_point-requires-3-clause-once c = subst StandOnce (sym (c.deref-2.ensures.value ∙ c.in_ok-bits.ensures)) (bits_once c.args.design.now)
