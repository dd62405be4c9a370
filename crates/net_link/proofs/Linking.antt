-- What the stages made is the design of the source with all its names.
use Rattle.std.proofs.Common.{◌≡◌, ℕ, ◌+◌, ◌<◌, Bool, List, [], ◌∷◌, ◌++◌, length, map, refl, ap, subst, sym, ◌∙◌, arith, length-append}
use Rattle.std.specs.Prelude.{Option, Contains, flat_map}
use Rattle.std.specs.List.{AllZip, IsDistinct}
use Rattle.std.specs.Str.{bytes_eq}
use Rattle.std.proofs.lemmas.List.{length-map}
use Rattle.net_model.specs.Netlist.{IsSound}
use Rattle.net_model.specs.declared.netlist.Design.{Design}
use Rattle.net_model.specs.declared.netlist.Gate.{Gate}
use Rattle.netlist_types.specs.declared.sources.Source.{Source}
use Rattle.netlist_types.specs.declared.sources.Module.{Module}
use Rattle.cell_types.specs.declared.libraries.Library.{Library}
use Rattle.net_link.specs.Places.{ArePlacesOf}
use Rattle.icg_rewrite.specs.Gated.{AreGated}
use Rattle.icg_rewrite.specs.Rewritten.{rewritten}
use Rattle.icg_rewrite.specs.declared.clock_gates.Gated.{Gated}
use Rattle.link_defs.proofs.Solving.{number_within}
use Rattle.link_defs.specs.declared.circuits.Circuit.{Circuit}
use Rattle.link_defs.specs.declared.cuts.CutCell.{CutCell}
use Rattle.link_defs.specs.declared.cuts.CutSource.{CutSource}
use Rattle.link_defs.specs.Cuts.{Tree, IsTreeOf, cut_circuit, cut_cell_names, cut_names, free_pins, sink_pins, pin_name, net_of}
use Rattle.linked_types.specs.Inputs.{input_names, output_names}
use Rattle.linked_types.specs.declared.names.CellName.{CellName}
use Rattle.linked_types.specs.declared.names.Linked.{Linked}
use Rattle.linked_types.specs.declared.names.NetName.{NetName}
use Rattle.linked_types.specs.declared.names.PortName.{PortName}
use Rattle.linked_types.specs.declared.options.LinkOptions.{LinkOptions}
use Rattle.link_defs.specs.CellNames.{Leaf, cell_names, AreNetNames}
use Rattle.link_defs.specs.Circuits.{PortBit, circuit_of, data_bits, output_bits, bit_nets, clock_port}
use Rattle.link_defs.specs.Designs.{drivers_by, number_by}
use Rattle.link_defs.specs.Flatten.{Flat, flat_of}
use Rattle.link_defs.specs.GateOrders.{ClockPart}
use Rattle.link_defs.specs.GatedDesigns.{IsGatedOf, AreGatedSolutions, enabled_drivers}
use Rattle.link_defs.specs.Hierarchy.{tops}
use Rattle.link_defs.specs.Judged.{FlatNetlist, netlist_of}
use Rattle.link_defs.specs.Links.{IsLinked, IsSet, ports_of, source_count}
use Rattle.link_defs.specs.Parts.{parts_of}
use Rattle.linked_types.specs.Usable.{IsUsable}
use Rattle.link_gates.proofs.OneGated.{AreClocked}
use Rattle.link_items.proofs.Listing.{all_by, contains_at}
use Rattle.net_link.proofs.Remaining.{inputs_left, outputs_left, inputs_of, outputs_of}
use Rattle.net_link.proofs.Causing.{IsJudgedOf, judged_inputs, judged_outputs}
use Rattle.net_link.proofs.Tabling.{once_distinct}

-- the names and the design of what is left of a circuit where these cells are cut out
pub record ArePieces (flat : Flat) (c : Circuit) (found : List Leaf) (k : Circuit) (t : Tree) (cut : List CutCell) (l : Linked) : Type 0 where
  pub tree : List Bool
  pub order : List Gate
  pub gates : List ClockPart
  pub gated : Gated
  pub clocked : AreClocked k
  pub lawful : AreGated gated
  pub gated_is : IsGatedOf k tree order gates gated
  pub sound : IsSound l.design
  pub design : l.design ≡ rewritten gated
  pub solutions : AreGatedSolutions k tree order l.design
  pub tree_is : (x : CutCell) → Contains cut x → IsTreeOf c t
  pub left : k ≡ cut_circuit c t cut
  pub cells : l.names.cells ≡ cell_names (number_by (enabled_drivers k order gates)) (source_count k) tree 0 found
      ++ cut_cell_names (record { circuit = c; tree = t; cells = cut; number = number_by (enabled_drivers k order gates) }) 0 cut
  pub nets : AreNetNames flat (drivers_by k order) (number_by (drivers_by k order)) l.names.nets
  pub free : l.names.free ≡ map pin_name (free_pins c cut)
  pub sinks : l.names.sinks ≡ map pin_name (sink_pins c t cut)
  pub cuts : l.names.cuts ≡ cut_names cut

-- what was set
pub record AreSettings (o : LinkOptions) (top : Module) (l : Linked) : Type 0 where
  pub fixed : AllZip (IsSet (data_bits o.clock top)) o.fixed l.design.fixed
  pub resets : AllZip (IsSet (data_bits o.clock top)) o.resets l.design.resets
  pub reset_len : l.design.reset_len ≡ o.reset_len
  pub ins : l.names.ins ≡ ports_of (data_bits o.clock top)
  pub outs : l.names.outs ≡ ports_of (output_bits top)
  pub clock : l.names.clock ≡ clock_port o.clock top
  pub assumed : l.names.assumed ≡ []

-- the design and names of a source
pub linked_is : (s : CutSource) (lib : Library) (o : LinkOptions) (top : Module) (j : FlatNetlist) (k : Circuit) (t : Tree) (l : Linked)
    → tops s.source ≡ top ∷ [] → IsJudgedOf s lib o top j → ArePieces (flat_of s.source lib top) j.circuit j.found k t j.cells l → AreSettings o top l
    → IsLinked s lib o l
linked_is s lib o top j k t l one judged p set = record {
  top = top;
  top_is = one;
  judged = j;
  judged_is = judged;
  circuit = k;
  cut = record { tree = t; tree_is = p.tree_is; is = p.left };
  tree = p.tree;
  order = p.order;
  gates = p.gates;
  gated = p.gated;
  sound = p.sound;
  clocked = p.clocked;
  lawful = p.lawful;
  gated_is = p.gated_is;
  design = p.design;
  solutions = p.solutions;
  fixed = set.fixed;
  resets = set.resets;
  reset_len = set.reset_len;
  names = record {
    cells = p.cells;
    ins = set.ins;
    outs = set.outs;
    clock = set.clock;
    nets = p.nets;
    free = p.free;
    sinks = p.sinks;
    cuts = p.cuts;
    assumed = set.assumed;
  };
}

-- the rewritten design has the ports of the one before it, what is held of them, and no fewer nets
pub record IsOver (d : Design) (g : Gated) : Type 0 where
  pub nets : d.nets ≡ g.design.nets + length g.gates
  pub inputs : d.inputs ≡ g.design.inputs
  pub outputs : d.outputs ≡ g.design.outputs
  pub fixed : d.fixed ≡ g.design.fixed
  pub resets : d.resets ≡ g.design.resets
  pub reset_len : d.reset_len ≡ g.design.reset_len

pub rewritten_over : (g : Gated) → IsOver (rewritten g) g
unfolding rewritten
rewritten_over g = record { nets = refl; inputs = refl; outputs = refl; fixed = refl; resets = refl; reset_len = refl }

pub over_is : (d : Design) (g : Gated) → d ≡ rewritten g → IsOver d g
over_is d g is = subst (λ (x : Design). IsOver x g) (sym is) (rewritten_over g)

-- as many names of data inputs as data inputs
inputs_len : (flat : Flat) (o : LinkOptions) (top : Module) (c : Circuit) (found : List Leaf) (k : Circuit) (t : Tree) (cut : List CutCell) (l : Linked)
    → (p : ArePieces flat c found k t cut l) → AreSettings o top l → length c.inputs ≡ length (data_bits o.clock top) → l.design.inputs ≡ p.gated.design.inputs
    → length (input_names l.names) ≡ length l.design.inputs
inputs_len flat o top c found k t cut l p set ports same =
    let own : List PortName → List (List ℕ) = λ ps. map (λ (x : PortName). x.name) ps in
    let more = l.names.free ++ l.names.assumed in
    omega (
      arith,
      length-append (own l.names.ins) more,
      length-append l.names.free l.names.assumed,
      length-map l.names.ins (λ (x : PortName). x.name),
      ap (λ (ps : List PortName). length ps) set.ins,
      length-map (data_bits o.clock top) (λ (b : PortBit). b.port),
      ap (λ (ns : List (List ℕ)). length ns) p.free,
      length-map (free_pins c cut) pin_name,
      length-map (free_pins c cut) net_of,
      ap (λ (ns : List (List ℕ)). length ns) set.assumed,
      ap (λ (ns : List ℕ). length ns) same,
      ap (λ (ns : List ℕ). length ns) p.gated_is.design.inputs,
      length-map k.inputs (number_by (drivers_by k p.order)),
      ap (λ (x : Circuit). length x.inputs) p.left,
      inputs_left c t cut,
      ports,
    )

-- as many names of outputs as outputs
outputs_len : (flat : Flat) (o : LinkOptions) (top : Module) (c : Circuit) (found : List Leaf) (k : Circuit) (t : Tree) (cut : List CutCell) (l : Linked)
    → (p : ArePieces flat c found k t cut l) → AreSettings o top l → length c.outputs ≡ length (output_bits top) → l.design.outputs ≡ p.gated.design.outputs
    → length (output_names l.names) ≡ length l.design.outputs
outputs_len flat o top c found k t cut l p set ports same =
    let own : List PortName → List (List ℕ) = λ ps. map (λ (x : PortName). x.name) ps in
    omega (
      arith,
      length-append (own l.names.outs) l.names.sinks,
      length-map l.names.outs (λ (x : PortName). x.name),
      ap (λ (ps : List PortName). length ps) set.outs,
      length-map (output_bits top) (λ (b : PortBit). b.port),
      ap (λ (ns : List (List ℕ)). length ns) p.sinks,
      length-map (sink_pins c t cut) pin_name,
      length-map (sink_pins c t cut) net_of,
      ap (λ (ns : List ℕ). length ns) same,
      ap (λ (ns : List ℕ). length ns) p.gated_is.design.outputs,
      length-map k.outputs (number_by (drivers_by k p.order)),
      ap (λ (x : Circuit). length x.outputs) p.left,
      outputs_left c t cut,
      ports,
    )

-- every net that is named is one of the design
net_below : (drivers : List ℕ) (total more : ℕ) (x : NetName) (net : ℕ) → total ≡ length drivers + more → Contains drivers net
    → number_by drivers net ≡ x.net → x.net < total
net_below drivers total more x net count has is = let lt = number_within net drivers has in omega (arith, lt, is, count)

-- as many data inputs and outputs as the ports have
pub record HasPortsOf (o : LinkOptions) (top : Module) (c : Circuit) : Type 0 where
  pub inputs : length c.inputs ≡ length (data_bits o.clock top)
  pub outputs : length c.outputs ≡ length (output_bits top)

pub judged_ports : (s : CutSource) (lib : Library) (o : LinkOptions) (top : Module) (j : FlatNetlist) → IsJudgedOf s lib o top j → HasPortsOf o top j.circuit
judged_ports s lib o top j is = record {
  inputs = ap (λ (ns : List ℕ). length ns) (judged_inputs o.cut_clocks (netlist_of s lib top o.clock) j is) ∙ inputs_of s.source lib o top;
  outputs = ap (λ (ns : List ℕ). length ns) (judged_outputs o.cut_clocks (netlist_of s lib top o.clock) j is) ∙ outputs_of s.source lib o top;
}

-- the names of a design can be relied on
pub usable_is : (flat : Flat) (o : LinkOptions) (top : Module) (c : Circuit) (found : List Leaf) (k : Circuit) (t : Tree) (cut : List CutCell) (l : Linked)
    → ArePieces flat c found k t cut l → AreSettings o top l → HasPortsOf o top c → ArePlacesOf l.design l.names.cells
    → IsDistinct bytes_eq (map (λ (c : CellName). c.name) l.names.cells)
    → IsDistinct bytes_eq (map (λ (p : PortName). p.name) (l.names.ins ++ l.names.outs)) → IsUsable l
usable_is flat o top c found k t cut l p set ports places cells_differ ports_differ =
    let drivers = drivers_by k p.order in
    let over = over_is l.design p.gated p.design in
    let base = p.gated_is.design in
    record {
      sound = p.sound;
      cells = places.cells;
      nets = all_by (λ (n : NetName). n.net < l.design.nets) l.names.nets (λ j x at.
          let (net, named, has, number) = p.nets.only x (contains_at l.names.nets j x at) in
          net_below drivers l.design.nets (length p.gated.gates) x net (over.nets ∙ ap (λ (n : ℕ). n + length p.gated.gates) base.nets) has number);
      each_reg = places.each_reg;
      ins = inputs_len flat o top c found k t cut l p set ports.inputs over.inputs;
      outs = outputs_len flat o top c found k t cut l p set ports.outputs over.outputs;
      cells_differ = cells_differ;
      ports_differ = ports_differ;
      nets_differ = once_distinct l.names.nets p.nets.once;
    }

-- the parts of a circuit below a module
pub parts_below : (s : Source) (lib : Library) (top : Module) (clock : Option (List ℕ)) (k : Circuit) → k ≡ circuit_of s lib top clock
    → k.parts ≡ flat_map (parts_of s lib) (flat_of s lib top).items
unfolding circuit_of
parts_below s lib top clock k is = ap (λ (c : Circuit). c.parts) is

-- as many data inputs as the circuit has
pub inputs_below : (s : Source) (lib : Library) (top : Module) (clock : Option (List ℕ)) (k : Circuit) → k ≡ circuit_of s lib top clock
    → k.inputs ≡ bit_nets (data_bits clock top)
unfolding circuit_of
inputs_below s lib top clock k is = ap (λ (c : Circuit). c.inputs) is
