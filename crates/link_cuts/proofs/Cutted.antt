-- The circuit that is left.
use Rattle.std.proofs.Common.{◌≡◌, ℕ, ◌<◌, Bool, List, map, ap, sym, ◌∙◌, subst}
use Rattle.std.proofs.lemmas.List.Elements.{All-append}
use Rattle.net_model.specs.Netlist.{AllBelow}
use Rattle.link_defs.specs.declared.circuits.Circuit.{Circuit}
use Rattle.link_defs.specs.declared.cuts.CutCell.{CutCell}
use Rattle.link_defs.specs.Circuits.{all_drivers}
use Rattle.link_defs.specs.Cuts.{Tree, net_of, free_pins, free_nets, sink_pins, cut_circuit}
use Rattle.link_design.specs.Lawful.{IsLawfulCircuit}
use Rattle.link_design.proofs.Parted.{drivers_are, drivers_below}
use Rattle.link_cuts.specs.declared.places.PinPlace.{PinPlace}
use Rattle.link_cuts.specs.Cutting.{pin_at, nets_at, with_nets, IsRowOf}
use Rattle.link_cuts.proofs.Placed.{nets_are}

-- what a lawful circuit drives is among its nets
pub all_drivers_below : (c : Circuit) → IsLawfulCircuit c → AllBelow c.nets (all_drivers c)
all_drivers_below c lawful = subst (λ (ns : List ℕ). AllBelow c.nets ns) (drivers_are c) (drivers_below c lawful)

-- with the free nets and the sinks it is the circuit that is left
pub cut_is : (c k : Circuit) (cells : List CutCell) (t : Tree) (free sinks : List PinPlace) → map (pin_at cells) free ≡ free_pins c cells
    → map (pin_at cells) sinks ≡ sink_pins c t cells → k ≡ with_nets c (nets_at cells free) (nets_at cells sinks) → k ≡ cut_circuit c t cells
unfolding cut_circuit
cut_is c k cells t free sinks free_is sinks_are is =
    is
    ∙ ap (λ (ns : List ℕ). with_nets c ns (nets_at cells sinks)) (nets_are cells free ∙ ap (map net_of) free_is)
    ∙ ap (λ (ns : List ℕ). with_nets c (free_nets c cells) ns) (nets_are cells sinks ∙ ap (map net_of) sinks_are)

-- it is lawful
pub lawful_with : (c k : Circuit) (ins outs : List ℕ) → IsLawfulCircuit c → AllBelow c.nets ins → AllBelow c.nets outs → k ≡ with_nets c ins outs
    → IsLawfulCircuit k
lawful_with c k ins outs lawful more_ins more_outs is = subst IsLawfulCircuit (sym is) (record {
  clocks = lawful.clocks;
  inputs = All-append (λ (n : ℕ). n < c.nets) c.inputs ins lawful.inputs more_ins;
  outputs = All-append (λ (n : ℕ). n < c.nets) c.outputs outs lawful.outputs more_outs;
  parts = lawful.parts;
})

-- a row of the nets of pins that are those of the free nets is one of these
pub free_row_is : (c : Circuit) (cells : List CutCell) (free : List PinPlace) (nets : List ℕ) (row : List Bool) → map (pin_at cells) free ≡ free_pins c cells
    → nets ≡ nets_at cells free → IsRowOf c.nets nets row → IsRowOf c.nets (free_nets c cells) row
free_row_is c cells free nets row free_is nets_is is =
    subst (λ (ns : List ℕ). IsRowOf c.nets ns row) (nets_is ∙ nets_are cells free ∙ ap (map net_of) free_is) is
