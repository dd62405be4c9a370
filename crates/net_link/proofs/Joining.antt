-- What the stages of linking made, joined.
use Rattle.std.proofs.Common.{◌≡◌, ℕ, ◌<◌, ◌≤◌, List, ◌∷◌, [], ◌++◌, length, map, ap, subst, sym, ◌∙◌, arith, inl, inr}
use Rattle.std.proofs.lemmas.List.{length-map}
use Rattle.net_model.specs.Netlist.{setting_inputs}
use Rattle.net_model.proofs.Members.{in_or}
use Rattle.link_circuit.proofs.Spread.{zero_of}
use Rattle.link_design.proofs.Parted.{all_in}
use Rattle.std.specs.List.{AllZip, IsDistinct}
use Rattle.std.specs.Str.{bytes_eq}
use Rattle.std.proofs.lemmas.Option.{slice_get_within}
use Rattle.icg_rewrite.specs.Rewritten.{rewritten}
use Rattle.icg_rewrite.specs.declared.clock_gates.Gated.{Gated}
use Rattle.net_model.specs.Netlist.{IsSound}
use Rattle.net_model.specs.declared.netlist.Design.{Design}
use Rattle.net_model.specs.declared.netlist.Fixed.{Fixed}
use Rattle.net_model.specs.declared.netlist.Gate.{Gate}
use Rattle.netlist_types.specs.declared.sources.Source.{Source}
use Rattle.netlist_types.specs.declared.sources.Module.{Module}
use Rattle.cell_types.specs.declared.libraries.Library.{Library}
use Rattle.link_design.specs.declared.designs.CircuitDesign.{CircuitDesign}
use Rattle.link_design.specs.declared.designs.Held.{Held}
use Rattle.link_design.specs.Made.{IsHeldBy, IsMade}
use Rattle.link_defs.specs.declared.circuits.Circuit.{Circuit}
use Rattle.linked_types.specs.declared.names.CutName.{CutName}
use Rattle.link_defs.specs.declared.cuts.CutCell.{CutCell}
use Rattle.link_defs.specs.declared.cuts.CutSource.{CutSource}
use Rattle.link_defs.specs.Cuts.{IsCut, cut_names, free_pins, sink_pins, pin_name}
use Rattle.linked_types.specs.declared.faults.LinkFault.{LinkFault}
use Rattle.linked_types.specs.declared.names.CellName.{CellName}
use Rattle.linked_types.specs.declared.names.Linked.{Linked}
use Rattle.linked_types.specs.declared.names.NetName.{NetName}
use Rattle.linked_types.specs.declared.options.LinkOptions.{LinkOptions}
use Rattle.link_defs.specs.Circuits.{PortBit, data_bits, bit_nets}
use Rattle.link_defs.specs.Faults.{IsFlatCause, IsCause}
use Rattle.link_defs.specs.Flatten.{flat_of}
use Rattle.link_defs.specs.GatedDesigns.{AreGatedSolutions}
use Rattle.link_defs.specs.Hierarchy.{tops}
use Rattle.link_defs.specs.Judged.{FlatNetlist}
use Rattle.link_defs.specs.Links.{IsLinked, IsSet}
use Rattle.linked_types.specs.Usable.{IsUsable}
use Rattle.net_link.specs.declared.ports.TopPorts.{TopPorts}
use Rattle.net_link.specs.Ports.{AreTopPorts}
use Rattle.link_tops.specs.Tops.{IsTop}
use Rattle.net_link.specs.Nets.{names_in, IsNetCause}
use Rattle.net_link.specs.declared.left.LeftCircuit.{LeftCircuit}
use Rattle.net_link.specs.Left.{cells_of, tree_in, IsLeft}
use Rattle.net_link.specs.Stages.{AreInner, IsEnableCause}
use Rattle.net_link.proofs.Remaining.{inputs_left, left_here, tree_here}
use Rattle.net_link.proofs.Causing.{cause_of, net_cause, enable_cause}
use Rattle.net_link.proofs.Linking.{ArePieces, AreSettings, linked_is, usable_is, judged_ports, over_is}
use Rattle.net_link.proofs.Rooms.{are_clocked, pins_cause, nets_full}
use Rattle.net_link.proofs.Staging.{names_below}
use Rattle.net_link.specs.Places.{ArePlacesOf}

-- the names of what is cut out, and of what is assumed
pub record CutTold : Type 0 where
  pub free : List (List ℕ)
  pub sinks : List (List ℕ)
  pub cuts : List CutName
  pub assumed : List (List ℕ)

-- a design with its names
abbrev pub joined : Design → TopPorts → List NetName → List CellName → CutTold → Linked
joined d ports nets cells told = record {
  design = d;
  names = record {
    cells = cells;
    ins = ports.ins;
    outs = ports.outs;
    nets = nets;
    clock = ports.clock;
    free = told.free;
    sinks = told.sinks;
    cuts = told.cuts;
    assumed = told.assumed;
  };
}

settings_of : (o : LinkOptions) (top : Module) (ports : TopPorts) (k : Circuit) (made : CircuitDesign) (g : Gated) (d : Design) (nets : List NetName)
    (cells : List CellName) (told : CutTold) → AreTopPorts top o ports → IsMade k ports.held made → g.design ≡ made.design
    → d ≡ rewritten g → told.assumed ≡ [] → AreSettings o top (joined d ports nets cells told)
settings_of o top ports k made g d nets cells told set m base is none =
    let over = over_is d g is in
    record {
      fixed = subst (λ (fs : List Fixed). AllZip (IsSet (data_bits o.clock top)) o.fixed fs)
          (sym (over.fixed ∙ ap (λ (x : Design). x.fixed) base ∙ m.fixed)) set.fixed;
      resets = subst (λ (fs : List Fixed). AllZip (IsSet (data_bits o.clock top)) o.resets fs)
          (sym (over.resets ∙ ap (λ (x : Design). x.resets) base ∙ m.resets)) set.resets;
      reset_len = over.reset_len ∙ ap (λ (x : Design). x.reset_len) base ∙ m.reset_len ∙ set.reset_len;
      ins = set.ins;
      outs = set.outs;
      clock = set.clock;
      assumed = none;
    }

-- what is held among some inputs is held among more
held_more : (a b : ℕ) (h : Held) → a ≤ b → IsHeldBy a h → IsHeldBy b h
held_more a b h le is =
    let all = setting_inputs h.fixed ++ setting_inputs h.resets in
    record {
      below = λ k d lt. let here = is.below k d lt in omega (arith, le, here);
      once = λ i lt. elim (in_or i all) [
        | inl has ↦ is.once i (all_in (λ (n : ℕ). n < a) all is.below i has)
        | inr none ↦ omega (arith, zero_of i all none)
      ];
      reset_len = is.reset_len;
    }

-- what is held is held among the inputs of the circuit that is left
pub held_below : (s : CutSource) (lib : Library) (o : LinkOptions) (top : Module) (j : FlatNetlist) (ports : TopPorts) (l : LeftCircuit)
    → AreTopPorts top o ports → IsLeft s lib top o j l → IsHeldBy (length l.flat.circuit.inputs) ports.held
held_below s lib o top j ports l set is =
    let bits = length-map (data_bits o.clock top) (λ (b : PortBit). b.net) in
    held_more (length (bit_nets (data_bits o.clock top))) (length l.flat.circuit.inputs) ports.held
    (omega (
      arith,
      bits,
      (judged_ports s lib o top j is.below.judged).inputs,
      inputs_left j.circuit (tree_in l.cut) (cells_of l.cut),
      ap (λ (x : Circuit). length x.inputs) (left_here j.circuit l.cut l.flat.circuit is.cut),
    )) set.held

-- a cause in each circuit that may be left of the netlist that is judged
abbrev IsCauseLeft : CutSource → Library → LinkOptions → Module → LinkFault → FlatNetlist → Circuit → Type 0
IsCauseLeft s lib o top e j k = IsFlatCause s.source lib o top (flat_of s.source lib top) j.found k e

left_cause : (s : CutSource) (lib : Library) (o : LinkOptions) (top : Module) (j i : FlatNetlist) (k m : Circuit) (e : LinkFault) → i ≡ j
    → ((x : Circuit) → IsCut j.circuit j.cells x → x ≡ k) → IsCut i.circuit i.cells m → IsCauseLeft s lib o top e j k → IsCauseLeft s lib o top e i m
left_cause s lib o top j i k m e same one cut cause =
    let there : IsCut j.circuit j.cells m = subst (λ (x : FlatNetlist). IsCut x.circuit x.cells m) same cut in
    subst (λ (x : FlatNetlist). IsCauseLeft s lib o top e x m) (sym same)
    (subst (λ (x : Circuit). IsCauseLeft s lib o top e j x) (sym (one m there)) cause)

-- a cause in the circuit that is left below the only top module
pub circuit_cause : (s : CutSource) (lib : Library) (o : LinkOptions) (top : Module) (j : FlatNetlist) (l : LeftCircuit) (e : LinkFault)
    → tops s.source ≡ top ∷ [] → IsLeft s lib top o j l → IsFlatCause s.source lib o top (flat_of s.source lib top) j.found l.flat.circuit e
    → IsCause s lib o e
circuit_cause s lib o top j l e one is cause =
    cause_of s lib o top j.found l.flat.circuit e one cause (λ i m judged cut.
    left_cause s lib o top j i l.flat.circuit m e (is.sole i judged) is.one cut cause)

-- the only top module is one of the modules
pub top_within : (s : Source) (place : ℕ) → IsTop s place → place < length s.modules
top_within s place (top, at, one) = slice_get_within s.modules place top at

-- a cause in the names of its nets
pub nets_cause : (s : CutSource) (lib : Library) (o : LinkOptions) (top : Module) (j : FlatNetlist) (l : LeftCircuit) (e : LinkFault)
    → tops s.source ≡ top ∷ [] → IsLeft s lib top o j l → IsNetCause (names_in s.source l.flat.scopes) l.flat.circuit e → IsCause s lib o e
nets_cause s lib o top j l e one is cause =
    circuit_cause s lib o top j l e one is
    (net_cause s.source lib o top (flat_of s.source lib top) j.found l.flat.circuit (names_in s.source l.flat.scopes) e
    (names_below s lib top o j l.flat is.below) cause)

-- what stands of a design of a circuit: the design with its clock gates, its rewritten design, and their names
pub record AreJoined (s : Source) (lib : Library) (c : Circuit) (l : LeftCircuit) (h : Held) (made : CircuitDesign) (g : Gated) (d : Design)
    (cells : List CellName) (nets : List NetName) (told : CutTold) : Type 0 where
  pub made_is : IsMade l.flat.circuit h made
  pub inner : AreInner s lib l made_is.order g cells nets
  pub base : g.design ≡ made.design
  pub design : d ≡ rewritten g
  pub sound : IsSound d
  pub solved : AreGatedSolutions l.flat.circuit inner.tree made_is.order (rewritten g)
  pub free : told.free ≡ map pin_name (free_pins c (cells_of l.cut))
  pub sinks : told.sinks ≡ map pin_name (sink_pins c (tree_in l.cut) (cells_of l.cut))
  pub cuts : told.cuts ≡ cut_names (cells_of l.cut)
  pub assumed : told.assumed ≡ []

pieces_of : (s : CutSource) (lib : Library) (o : LinkOptions) (top : Module) (j : FlatNetlist) (ports : TopPorts) (l : LeftCircuit)
    (made : CircuitDesign) (g : Gated) (d : Design) (nets : List NetName) (cells : List CellName) (told : CutTold)
    → IsLeft s lib top o j l → AreJoined s.source lib j.circuit l ports.held made g d cells nets told
    → ArePieces (flat_of s.source lib top) j.circuit j.found l.flat.circuit (tree_in l.cut) (cells_of l.cut) (joined d ports nets cells told)
pieces_of s lib o top j ports l made g d nets cells told is all =
    let inner = all.inner in
    let k = l.flat.circuit in
    let c = j.circuit in
    record {
      tree = inner.tree;
      order = all.made_is.order;
      gates = inner.gates;
      gated = g;
      clocked = are_clocked k inner.clocked;
      lawful = inner.lawful;
      gated_is = inner.gated_is;
      sound = all.sound;
      design = all.design;
      solutions = subst (λ (x : Design). AreGatedSolutions k inner.tree all.made_is.order x) (sym all.design) all.solved;
      tree_is = tree_here c l.cut k is.cut;
      left = left_here c l.cut k is.cut;
      cells = inner.cells_are c j.found is.cut is.lawful is.below.leaves;
      nets = inner.nets_are (flat_of s.source lib top) (names_below s lib top o j l.flat is.below);
      free = all.free;
      sinks = all.sinks;
      cuts = all.cuts;
    }

-- the design with its names is what linking gives
pub joined_linked : (s : CutSource) (lib : Library) (o : LinkOptions) (top : Module) (j : FlatNetlist) (ports : TopPorts) (l : LeftCircuit)
    (made : CircuitDesign) (g : Gated) (d : Design) (nets : List NetName) (cells : List CellName) (told : CutTold) → tops s.source ≡ top ∷ []
    → IsLeft s lib top o j l → AreTopPorts top o ports → AreJoined s.source lib j.circuit l ports.held made g d cells nets told
    → IsLinked s lib o (joined d ports nets cells told)
joined_linked s lib o top j ports l made g d nets cells told one is set all =
    let x = joined d ports nets cells told in
    linked_is s lib o top j l.flat.circuit (tree_in l.cut) x one is.below.judged
    (subst (λ (cut : List CutCell). ArePieces (flat_of s.source lib top) j.circuit j.found l.flat.circuit (tree_in l.cut) cut x) is.cells
    (pieces_of s lib o top j ports l made g d nets cells told is all))
    (settings_of o top ports l.flat.circuit made g d nets cells told set all.made_is all.base all.design all.assumed)

-- and its names can be relied on
pub joined_usable : (s : CutSource) (lib : Library) (o : LinkOptions) (top : Module) (j : FlatNetlist) (ports : TopPorts) (l : LeftCircuit)
    (made : CircuitDesign) (g : Gated) (d : Design) (nets : List NetName) (cells : List CellName) (told : CutTold)
    → IsLeft s lib top o j l → AreTopPorts top o ports → AreJoined s.source lib j.circuit l ports.held made g d cells nets told
    → IsUsable (joined d ports nets cells told)
joined_usable s lib o top j ports l made g d nets cells told is set all =
    usable_is (flat_of s.source lib top) o top j.circuit j.found l.flat.circuit (tree_in l.cut) (cells_of l.cut) (joined d ports nets cells told)
    (pieces_of s lib o top j ports l made g d nets cells told is all)
    (settings_of o top ports l.flat.circuit made g d nets cells told set all.made_is all.base all.design all.assumed)
    (judged_ports s lib o top j is.below.judged)
    (subst (λ (x : Design). ArePlacesOf x cells) (sym all.design)
    (all.inner.places j.circuit j.found is.cut is.lawful is.own is.below.leaves))
    (subst (λ (ns : List (List ℕ)). IsDistinct bytes_eq ns) (sym (all.inner.own j.circuit is.cut)) is.differ) set.differ

-- why there is no room for the enables of the circuit that is left
pub room_cause : (s : CutSource) (lib : Library) (o : LinkOptions) (top : Module) (j : FlatNetlist) (l : LeftCircuit) (order : List Gate) (g : Gated)
    (cells : List CellName) (nets : List NetName) (e : LinkFault) → tops s.source ≡ top ∷ [] → IsLeft s lib top o j l
    → AreInner s.source lib l order g cells nets → IsEnableCause g e → IsCause s lib o e
room_cause s lib o top j l order g cells nets e one is inner cause =
    let flat = flat_of s.source lib top in
    let k = l.flat.circuit in
    circuit_cause s lib o top j l e one is
    (enable_cause s.source lib o top flat j.found k g e
    (pins_cause o.wide s.source lib flat k inner.tree order inner.gates g inner.clocked inner.gated_is)
    (nets_full o.wide s.source lib flat k inner.tree order inner.gates g inner.gated_is) cause)
