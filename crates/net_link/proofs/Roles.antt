-- What the pins of a leaf read and drive is of the design.
use Rattle.std.proofs.Common.{◌≡◌, ℕ, ◌+◌, ◌-◌, ◌<◌, ◌≤◌, Bool, true, false, List, [], ◌∷◌, ◌++◌, length, map, All, Some, None, refl, ap, subst, ◌∙◌, arith}
use Rattle.std.specs.Prelude.{Option, slice_get, zip}
use Rattle.std.proofs.lemmas.List.{length-map}
use Rattle.std.proofs.lemmas.List.Elements.{All-cons, All-append, All-head, All-tail}
use Rattle.std.proofs.lemmas.Option.{slice_get_within}
use Rattle.net_model.specs.Netlist.{AllBelow, gate_nets}
use Rattle.net_model.specs.declared.netlist.Design.{Design}
use Rattle.net_model.specs.declared.netlist.Gate.{Gate}
use Rattle.net_model.specs.declared.netlist.Reg.{Reg}
use Rattle.net_model.specs.declared.claims.PinRef.TheVariants.{GateIn, RegIn}
use Rattle.net_model.proofs.Members.{In, from_map}
use Rattle.icg_rewrite.specs.declared.clock_gates.Gated.{Gated}
use Rattle.icg_rewrite.specs.Rewritten.{rewritten}
use Rattle.cell_types.specs.declared.libraries.Cell.{Cell}
use Rattle.link_defs.specs.declared.circuits.Circuit.{Circuit}
use Rattle.link_defs.specs.declared.circuits.Part.{Part}
use Rattle.link_defs.specs.declared.circuits.Part.TheVariants as part
use Rattle.linked_types.specs.declared.names.PinName.{PinName}
use Rattle.link_defs.specs.CellNames.{loads, input_roles, clock_role, tree_pins, out_pins, output_role, pins_if_any, cell_name}
use Rattle.link_defs.specs.Circuits.{regs_of, part_drives}
use Rattle.link_defs.specs.Designs.{moved, number_by, drivers_by, is_on_tree}
use Rattle.link_defs.specs.GateOrders.{ClockPart}
use Rattle.link_defs.specs.GatedDesigns.{enabled_drivers}
use Rattle.link_defs.specs.Links.{source_count}
use Rattle.linked_types.specs.Usable.{IsPinOf, IsRoleOf, IsCellOf}
use Rattle.link_design.specs.Lawful.{IsLawfulPart, IsLawfulGate}
use Rattle.link_design.proofs.Parted.{all_in, all_from_in}
use Rattle.link_circuit.proofs.Lawfully.{all_none}
use Rattle.net_link.specs.Places.{data_roles, IsShaped}
use Rattle.net_link.proofs.Enabled.{IsKnown, reg_known, reg_below, enable_known, gate_known, all_numbers}

-- what a pin is is of the design
abbrev pub HasRole : Design → PinName → Type 0
HasRole d p = IsRoleOf d p.role

clocks_good : (d : Design) (pins : List (List ℕ)) → All (HasRole d) (map clock_role pins)
clocks_good d [] = all_none (HasRole d)
clocks_good d (pin ∷ pins) = All-cons (HasRole d) (clock_role pin) (map clock_role pins) tt (clocks_good d pins)

drives_good : (d : Design) (number : ℕ → ℕ) (pins : List (List ℕ)) (outs : List ℕ) → AllBelow d.nets (map number outs)
    → All (HasRole d) (map (output_role number) (zip pins outs))
drives_good d number [] outs below = all_none (HasRole d)
drives_good d number (pin ∷ pins) [] below = all_none (HasRole d)
drives_good d number (pin ∷ pins) (out ∷ outs) below =
    All-cons (HasRole d) (output_role number (pin, out)) (map (output_role number) (zip pins outs))
    (All-head (λ (n : ℕ). n < d.nets) (number out) (map number outs) below)
    (drives_good d number pins outs (All-tail (λ (n : ℕ). n < d.nets) (number out) (map number outs) below))

inputs_good : (d : Design) (number : ℕ → ℕ) (sources reg : ℕ) (p : Part) (pins : List (List ℕ)) (place most : ℕ)
    → ((k : ℕ) → k < most → All (IsPinOf d) (loads number sources reg p k)) → place + length pins ≤ most
    → All (HasRole d) (input_roles number sources reg p place pins)
inputs_good d number sources reg p [] place most each room = all_none (HasRole d)
inputs_good d number sources reg p (pin ∷ pins) place most each room =
    All-cons (HasRole d) _ (input_roles number sources reg p (place + 1) pins) (each place (omega (arith, room)))
    (inputs_good d number sources reg p pins (place + 1) most each (omega (arith, room)))

data_good : (d : Design) (number : ℕ → ℕ) (sources reg : ℕ) (p : Part) (c : Cell)
    → ((k : ℕ) → k < length c.inputs → All (IsPinOf d) (loads number sources reg p k)) → AllBelow d.nets (map number (part_drives p))
    → All (HasRole d) (data_roles number sources reg p c)
data_good d number sources reg p c each below =
    All-append (HasRole d) (input_roles number sources reg p 0 c.inputs ++ map clock_role (tree_pins c.kind))
    (map (output_role number) (zip (out_pins c.kind) (part_drives p)))
    (All-append (HasRole d) (input_roles number sources reg p 0 c.inputs) (map clock_role (tree_pins c.kind))
    (inputs_good d number sources reg p c.inputs 0 (length c.inputs) each (omega arith)) (clocks_good d (tree_pins c.kind)))
    (drives_good d number (out_pins c.kind) (part_drives p) below)

-- what a pin of a register reads is a pin of it in the rewritten design
reg_loads : (c : Circuit) (tree : List Bool) (order : List Gate) (gates : List ClockPart) (g : Gated) (r clock : ℕ) (reg : Reg) (place : ℕ)
    → IsKnown c tree order gates g → slice_get (regs_of c) r ≡ Some reg → place < length reg.ins
    → All (IsPinOf (rewritten g)) (loads (number_by (enabled_drivers c order gates)) (source_count c) r (part.Flop clock reg) place)
reg_loads c tree order gates g r clock reg place known at lt =
    let has = reg_known c tree order gates g r reg known at in
    All-cons (IsPinOf (rewritten g)) (RegIn r place) [] (has.own, has.at, omega (arith, lt, has.reads)) (all_none (IsPinOf (rewritten g)))

flop_pins : (c : Circuit) (tree : List Bool) (order : List Gate) (gates : List ClockPart) (g : Gated) (r clock : ℕ) (reg : Reg) (cell : Option Cell)
    → IsKnown c tree order gates g → slice_get (regs_of c) r ≡ Some reg → ((x : Cell) → cell ≡ Some x → length reg.ins ≡ length x.inputs)
    → All (HasRole (rewritten g)) (pins_if_any (number_by (enabled_drivers c order gates)) (source_count c) tree r (part.Flop clock reg) cell)
flop_pins c tree order gates g r clock reg None known at shaped = all_none (HasRole (rewritten g))
flop_pins c tree order gates g r clock reg (Some x) known at shaped =
    data_good (rewritten g) (number_by (enabled_drivers c order gates)) (source_count c) r (part.Flop clock reg) x
    (λ k lt. reg_loads c tree order gates g r clock reg k known at (omega (arith, lt, shaped x refl))) (reg_below c tree order gates g r reg known at)

-- a flop of the circuit
flop_good : (c : Circuit) (tree : List Bool) (order : List Gate) (gates : List ClockPart) (g : Gated) (r clock : ℕ) (reg : Reg) (name : List ℕ)
    (cell : Option Cell) → IsKnown c tree order gates g → slice_get (regs_of c) r ≡ Some reg
    → IsShaped (record { name = name; cell = cell; part = part.Flop clock reg })
    → IsCellOf (rewritten g) (cell_name (number_by (enabled_drivers c order gates)) (source_count c) tree r
    (record { name = name; cell = cell; part = part.Flop clock reg }))
flop_good c tree order gates g r clock reg name cell known at shaped =
    let has = reg_known c tree order gates g r reg known at in
    record {
      reg = slice_get_within (rewritten g).regs r has.own has.at;
      outs = reg_below c tree order gates g r reg known at;
      pins = flop_pins c tree order gates g r clock reg cell known at (λ e is. shaped.pins e is);
    }

-- what a pin of a clock gate reads is a pin of the gate that it became
enable_loads : (c : Circuit) (tree : List Bool) (order : List Gate) (gates : List ClockPart) (g : Gated) (r clock : ℕ) (enables : List ℕ) (out place : ℕ)
    → IsKnown c tree order gates g → In (part.Gate clock enables out) c.parts → place < length enables
    → All (IsPinOf (rewritten g)) (loads (number_by (enabled_drivers c order gates)) (source_count c) r (part.Gate clock enables out) place)
enable_loads c tree order gates g r clock enables out place known stands lt =
    let own = enable_known c tree order gates g clock enables out known stands in
    All-cons (IsPinOf (rewritten g)) (GateIn (number_by (enabled_drivers c order gates) out - source_count c) place) []
    (own.gate, own.at, omega (arith, lt, own.reads)) (all_none (IsPinOf (rewritten g)))

clock_gate_pins : (c : Circuit) (tree : List Bool) (order : List Gate) (gates : List ClockPart) (g : Gated) (r clock : ℕ) (enables : List ℕ) (out : ℕ)
    (cell : Option Cell) → IsKnown c tree order gates g → In (part.Gate clock enables out) c.parts
    → ((x : Cell) → cell ≡ Some x → length enables ≡ length x.inputs)
    → All (HasRole (rewritten g)) (pins_if_any (number_by (enabled_drivers c order gates)) (source_count c) tree r (part.Gate clock enables out) cell)
clock_gate_pins c tree order gates g r clock enables out None known stands shaped = all_none (HasRole (rewritten g))
clock_gate_pins c tree order gates g r clock enables out (Some x) known stands shaped =
    data_good (rewritten g) (number_by (enabled_drivers c order gates)) (source_count c) r (part.Gate clock enables out) x
    (λ k lt. enable_loads c tree order gates g r clock enables out k known stands (omega (arith, lt, shaped x refl)))
    (all_none (λ (n : ℕ). n < (rewritten g).nets))

-- a clock gate of the circuit
clock_gate_good : (c : Circuit) (tree : List Bool) (order : List Gate) (gates : List ClockPart) (g : Gated) (r clock : ℕ) (enables : List ℕ) (out : ℕ)
    (name : List ℕ) (cell : Option Cell) → IsKnown c tree order gates g → In (part.Gate clock enables out) c.parts
    → IsShaped (record { name = name; cell = cell; part = part.Gate clock enables out })
    → IsCellOf (rewritten g) (cell_name (number_by (enabled_drivers c order gates)) (source_count c) tree r
    (record { name = name; cell = cell; part = part.Gate clock enables out }))
clock_gate_good c tree order gates g r clock enables out name cell known stands shaped =
    let below : ℕ → Type 0 = λ (n : ℕ). n < (rewritten g).nets in
    let own = enable_known c tree order gates g clock enables out known stands in
    record {
      reg = tt;
      outs = All-cons below (number_by (enabled_drivers c order gates) out) [] own.below (all_none below);
      pins = clock_gate_pins c tree order gates g r clock enables out cell known stands (λ e is. shaped.pins e is);
    }

-- the nets that the gates of a part drive have numbers in the rewritten design
part_gates_below : (c : Circuit) (tree : List Bool) (order : List Gate) (gates : List ClockPart) (g : Gated) (buffer : Bool) (ins : List ℕ) (own : List Gate)
    → IsKnown c tree order gates g → In (part.Comb buffer ins own) c.parts → is_on_tree tree (part.Comb buffer ins own) ≡ false
    → AllBelow (rewritten g).nets (map (number_by (enabled_drivers c order gates)) (gate_nets own))
part_gates_below c tree order gates g buffer ins own known stands off =
    let number : ℕ → ℕ = number_by (drivers_by c order) in
    all_numbers c tree order gates g (gate_nets own) known.gated_is
    (all_from_in (λ (n : ℕ). n < g.design.nets) (map number (gate_nets own)) (λ n has.
    let (net, there, is) = from_map number n (gate_nets own) has in
    let (x, among, out) = from_map (λ (h : Gate). h.out) net own there in
    subst (λ (m : ℕ). m < g.design.nets) (ap number out ∙ is) (gate_known c tree order gates g buffer ins own x known stands off among).below))

gate_loads_good : (c : Circuit) (tree : List Bool) (order : List Gate) (gates : List ClockPart) (g : Gated) (r : ℕ) (buffer : Bool) (ins : List ℕ)
    (own : List Gate) (place : ℕ) → IsKnown c tree order gates g → In (part.Comb buffer ins own) c.parts
    → is_on_tree tree (part.Comb buffer ins own) ≡ false → place < length ins
    → All (IsPinOf (rewritten g)) (loads (number_by (enabled_drivers c order gates)) (source_count c) r (part.Comb buffer ins own) place)
gate_loads_good c tree order gates g r buffer ins own place known stands off lt =
    let before : ℕ → ℕ = number_by (drivers_by c order) in
    let pin = λ (x : Gate). GateIn (number_by (enabled_drivers c order gates) x.out - source_count c) place in
    let lawful = all_in (IsLawfulPart c.nets) c.parts known.lawful.parts (part.Comb buffer ins own) stands in
    all_from_in (IsPinOf (rewritten g)) (map pin own) (λ p has.
    let (x, among, is) = from_map pin p own has in
    let reads = (all_in (IsLawfulGate c.nets ins) own lawful.drives x among).reads in
    let here : IsPinOf (rewritten g) (pin x) = (
      moved before x,
      (gate_known c tree order gates g buffer ins own x known stands off among).at,
      omega (arith, lt, length-map x.ins before, ap length reads),
    ) in
    subst (IsPinOf (rewritten g)) is here)

all_clocks : (d : Design) (number : ℕ → ℕ) (sources : ℕ) (tree : List Bool) (r : ℕ) (p : Part) (cell : Option Cell) → is_on_tree tree p ≡ true
    → All (HasRole d) (pins_if_any number sources tree r p cell)
all_clocks d number sources tree r p None e = all_none (HasRole d)
all_clocks d number sources tree r p (Some x) e = rw e (clocks_good d (x.inputs ++ out_pins x.kind))

comb_pins : (c : Circuit) (tree : List Bool) (order : List Gate) (gates : List ClockPart) (g : Gated) (r : ℕ) (buffer : Bool) (ins : List ℕ) (own : List Gate)
    (cell : Option Cell) → is_on_tree tree (part.Comb buffer ins own) ≡ false → IsKnown c tree order gates g → In (part.Comb buffer ins own) c.parts
    → ((x : Cell) → cell ≡ Some x → length ins ≡ length x.inputs)
    → All (HasRole (rewritten g)) (pins_if_any (number_by (enabled_drivers c order gates)) (source_count c) tree r (part.Comb buffer ins own) cell)
comb_pins c tree order gates g r buffer ins own None e known stands shaped = all_none (HasRole (rewritten g))
comb_pins c tree order gates g r buffer ins own (Some x) e known stands shaped =
    rw e (data_good (rewritten g) (number_by (enabled_drivers c order gates)) (source_count c) r (part.Comb buffer ins own) x
    (λ k lt. gate_loads_good c tree order gates g r buffer ins own k known stands e (omega (arith, lt, shaped x refl)))
    (part_gates_below c tree order gates g buffer ins own known stands e))

-- a part with gates
comb_good : (c : Circuit) (tree : List Bool) (order : List Gate) (gates : List ClockPart) (g : Gated) (r : ℕ) (buffer : Bool) (ins : List ℕ) (own : List Gate)
    (name : List ℕ) (cell : Option Cell) (b : Bool) → is_on_tree tree (part.Comb buffer ins own) ≡ b → IsKnown c tree order gates g
    → In (part.Comb buffer ins own) c.parts → IsShaped (record { name = name; cell = cell; part = part.Comb buffer ins own })
    → IsCellOf (rewritten g) (cell_name (number_by (enabled_drivers c order gates)) (source_count c) tree r
    (record { name = name; cell = cell; part = part.Comb buffer ins own }))
comb_good c tree order gates g r buffer ins own name cell true e known stands shaped = record {
  reg = tt;
  outs = rw e (all_none (λ (n : ℕ). n < (rewritten g).nets));
  pins = all_clocks (rewritten g) (number_by (enabled_drivers c order gates)) (source_count c) tree r (part.Comb buffer ins own) cell e;
}
comb_good c tree order gates g r buffer ins own name cell false e known stands shaped = record {
  reg = tt;
  outs = rw e (part_gates_below c tree order gates g buffer ins own known stands e);
  pins = comb_pins c tree order gates g r buffer ins own cell e known stands (λ x is. shaped.pins x is);
}

-- a leaf whose part stands in the circuit, and whose register, if it is one, has that number
pub leaf_good : (c : Circuit) (tree : List Bool) (order : List Gate) (gates : List ClockPart) (g : Gated) (r : ℕ) (name : List ℕ) (cell : Option Cell)
    (p : Part) → IsKnown c tree order gates g → In p c.parts → IsShaped (record { name = name; cell = cell; part = p })
    → ((clock : ℕ) (reg : Reg) → p ≡ part.Flop clock reg → slice_get (regs_of c) r ≡ Some reg)
    → IsCellOf (rewritten g) (cell_name (number_by (enabled_drivers c order gates)) (source_count c) tree r (record { name = name; cell = cell; part = p }))
leaf_good c tree order gates g r name cell (part.Comb buffer ins own) known stands shaped at =
    comb_good c tree order gates g r buffer ins own name cell (is_on_tree tree (part.Comb buffer ins own)) refl known stands shaped
leaf_good c tree order gates g r name cell (part.Flop clock reg) known stands shaped at =
    flop_good c tree order gates g r clock reg name cell known (at clock reg refl) shaped
leaf_good c tree order gates g r name cell (part.Gate clock enables out) known stands shaped at =
    clock_gate_good c tree order gates g r clock enables out name cell known stands shaped
