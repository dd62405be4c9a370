-- The names of all cells: those of leaves, and then those of cells that are cut out.
use Rattle.std.proofs.Common.{◌≡◌, ℕ, ◌+◌, Bool, List, ◌++◌, length, map, Some, None, refl, ap, subst, sym, ◌∙◌, arith, append-nil, length-append}
use Rattle.std.specs.Prelude.{Option, flat_map, slice_index_or}
use Rattle.std.proofs.lemmas.List.{length-map, map-append}
use Rattle.net_model.specs.Netlist.{reg_nets, gate_nets}
use Rattle.net_model.specs.declared.netlist.Gate.{Gate}
use Rattle.net_model.proofs.Members.{In, In-left, In-right, Contains-from_In}
use Rattle.icg_rewrite.specs.Rewritten.{rewritten}
use Rattle.linked_types.specs.declared.names.CellName.{CellName}
use Rattle.link_defs.specs.declared.circuits.Circuit.{Circuit}
use Rattle.link_defs.specs.declared.cuts.CutCell.{CutCell}
use Rattle.link_defs.specs.CellNames.{Leaf, cell_names}
use Rattle.link_defs.specs.Circuits.{regs_of}
use Rattle.link_defs.specs.Cuts.{Tree, CutFrame, cut_cell_names, cut_circuit, free_nets, free_pins, net_of, pin_name, sink_pins}
use Rattle.link_defs.specs.Designs.{drivers_by, number_by}
use Rattle.link_defs.specs.GateOrders.{ClockPart, gate_outs}
use Rattle.link_defs.specs.GatedDesigns.{enabled_drivers}
use Rattle.link_defs.specs.Links.{source_count}
use Rattle.link_defs.proofs.Solving.{number_within}
use Rattle.link_design.specs.Lawful.{IsLawfulCircuit}
use Rattle.link_cuts.specs.Cutting.{IsCutOut, pin_at}
use Rattle.link_design.specs.Trees.{tree_of}
use Rattle.link_tops.specs.Clashes.{cut_names}
use Rattle.net_link.specs.declared.designs.GatedDesign.{GatedDesign}
use Rattle.net_link.specs.declared.left.CutOut.{CutOut}
use Rattle.net_link.specs.declared.left.LeftCircuit.{LeftCircuit}
use Rattle.net_link.specs.Left.{cells_of, frame_of, tree_in, IsCutAs}
use Rattle.net_link.specs.Made.{IsGatedDesign}
use Rattle.net_link.specs.Places.{ArePlacesOf}
use Rattle.net_link.specs.Stages.{AreAllNames}
use Rattle.net_link.proofs.Enabled.{numbered}
use Rattle.net_link.proofs.Remaining.{inputs_left, outputs_left}
use Rattle.net_link.proofs.Linking.{rewritten_over}
use Rattle.net_link.proofs.Owning.{IsFramed, own_cuts, places_more}

-- nothing is cut out
pub own_none : (names list : List (List ℕ)) (cut : Option CutOut) → list ≡ names → cut ≡ None → list ≡ names ++ cut_names (cells_of cut)
own_none names list cut is none =
    is ∙ sym (append-nil names) ∙ ap (λ (x : Option CutOut). names ++ cut_names (cells_of x)) (sym none)

pub names_none : (c : Circuit) (l : LeftCircuit) (tree : List Bool) (number : ℕ → ℕ) (found : List Leaf) (list : List CellName) → l.cut ≡ None
    → list ≡ cell_names number (source_count l.flat.circuit) tree 0 found → AreAllNames c l tree number found list
names_none c l tree number found list none is =
    let own = cell_names number (source_count l.flat.circuit) tree 0 found in
    is ∙ sym (append-nil own) ∙ ap (λ (x : Option CutOut). own ++ cut_cell_names (frame_of c x number) 0 (cells_of x)) (sym none)

-- cells are cut out
own_some : (names : List (List ℕ)) (own further list : List CellName) (cut : Option CutOut) (x : CutOut) (f : CutFrame)
    → map (λ (c : CellName). c.name) own ≡ names → further ≡ cut_cell_names f 0 x.cells → list ≡ own ++ further → cut ≡ Some x
    → map (λ (c : CellName). c.name) list ≡ names ++ cut_names (cells_of cut)
own_some names own further list cut x f own_is further_is list_is some =
    let name : CellName → List ℕ = λ c. c.name in
    ap (λ (cs : List CellName). map name cs) list_is ∙ map-append name own further ∙ ap (λ (ns : List (List ℕ)). ns ++ map name further) own_is
    ∙ ap (λ (cs : List CellName). names ++ map name cs) further_is ∙ ap (λ (ns : List (List ℕ)). names ++ ns) (own_cuts f 0 x.cells)
    ∙ ap (λ (y : Option CutOut). names ++ cut_names (cells_of y)) (sym some)

-- the numbers of a row are those of the drivers
row_same : (k : Circuit) (order : List Gate) (made : GatedDesign) (m : IsGatedDesign k order made) (nets : ℕ) → IsLawfulCircuit k
    → nets ≡ made.gated.design.nets + length made.gated.gates
    → ◌≡◌ {A = ℕ → ℕ} (λ net. slice_index_or made.numbers net nets) (number_by (enabled_drivers k order m.gates))
row_same k order made m nets lawful all =
    λ i net. numbered k made.tree order m.gates made.gated made.numbers nets lawful m.gated_is m.numbers all net i

-- what was made of cells that are cut out
pub record AreFurther (c : Circuit) (x : CutOut) (numbers : List ℕ) (nets : ℕ) (further : List CellName) : Type 0 where
  pub are : IsCutOut c x.cells x.pins → further
      ≡ cut_cell_names (record { circuit = c; tree = tree_of x.pins.rows.tree; cells = x.cells; number = λ net. slice_index_or numbers net nets }) 0 x.cells

further_is : (c k : Circuit) (order : List Gate) (made : GatedDesign) (m : IsGatedDesign k order made) (x : CutOut) (nets : ℕ) (further : List CellName)
    → IsCutOut c x.cells x.pins → IsLawfulCircuit k → nets ≡ made.gated.design.nets + length made.gated.gates
    → AreFurther c x made.numbers nets further
    → further ≡ cut_cell_names (frame_of c (Some x) (number_by (enabled_drivers k order m.gates))) 0 x.cells
further_is c k order made m x nets further out lawful all more =
    more.are out ∙ ap (λ (f : ℕ → ℕ). cut_cell_names (frame_of c (Some x) f) 0 x.cells) (row_same k order made m nets lawful all)

pub own_cut : (c : Circuit) (l : LeftCircuit) (x : CutOut) (numbers : List ℕ) (nets : ℕ) (names : List (List ℕ)) (own further list : List CellName)
    → l.cut ≡ Some x → IsCutAs c l.cut l.flat.circuit → map (λ (y : CellName). y.name) own ≡ names → AreFurther c x numbers nets further
    → list ≡ own ++ further → map (λ (y : CellName). y.name) list ≡ names ++ cut_names (cells_of l.cut)
own_cut c l x numbers nets names own further list some cut own_is more list_is =
    let here : IsCutAs c (Some x) l.flat.circuit = subst (λ (y : Option CutOut). IsCutAs c y l.flat.circuit) some cut in
    own_some names own further list l.cut x
    (record { circuit = c; tree = tree_of x.pins.rows.tree; cells = x.cells; number = λ net. slice_index_or numbers net nets }) own_is (more.are here.0)
    list_is some

pub names_some : (c : Circuit) (l : LeftCircuit) (order : List Gate) (made : GatedDesign) (m : IsGatedDesign l.flat.circuit order made) (x : CutOut)
    (nets : ℕ) (found : List Leaf) (own further list : List CellName) → l.cut ≡ Some x → IsCutAs c l.cut l.flat.circuit → IsLawfulCircuit l.flat.circuit
    → nets ≡ made.gated.design.nets + length made.gated.gates
    → own ≡ cell_names (number_by (enabled_drivers l.flat.circuit order m.gates)) (source_count l.flat.circuit) made.tree 0 found
    → AreFurther c x made.numbers nets further → list ≡ own ++ further
    → AreAllNames c l made.tree (number_by (enabled_drivers l.flat.circuit order m.gates)) found list
names_some c l order made m x nets found own further list some cut lawful all own_is more list_is =
    let k = l.flat.circuit in
    let number : ℕ → ℕ = number_by (enabled_drivers k order m.gates) in
    let leafs = cell_names number (source_count k) made.tree 0 found in
    let here : IsCutAs c (Some x) k = subst (λ (y : Option CutOut). IsCutAs c y k) some cut in
    list_is ∙ ap (λ (cs : List CellName). cs ++ further) own_is
    ∙ ap (λ (cs : List CellName). leafs ++ cs) (further_is c k order made m x nets further here.0 lawful all more)
    ∙ ap (λ (y : Option CutOut). leafs ++ cut_cell_names (frame_of c y number) 0 (cells_of y)) (sym some)

left_inputs : (c : Circuit) (t : Tree) (cells : List CutCell) → (cut_circuit c t cells).inputs ≡ c.inputs ++ free_nets c cells
unfolding cut_circuit
left_inputs c t cells = refl

-- the design has room for what is cut out
framed_by : (c k : Circuit) (order : List Gate) (made : GatedDesign) (m : IsGatedDesign k order made) (x : CutOut) → IsCutAs c (Some x) k
    → IsFramed (rewritten made.gated) (frame_of c (Some x) (number_by (enabled_drivers k order m.gates)))
framed_by c k order made m x here =
    let g = made.gated in
    let t = tree_of x.pins.rows.tree in
    let over = rewritten_over g in
    let base = m.gated_is.design in
    let drivers = enabled_drivers k order m.gates in
    let length_is : (rewritten g).nets ≡ length drivers = omega (
      arith,
      over.nets,
      base.nets,
      m.gated_is.long,
      length-append (drivers_by k order) (gate_outs m.gates),
      length-map m.gates (λ (y : ClockPart). y.out),
    ) in
    record {
      inputs = omega (
        arith,
        ap (λ (ns : List ℕ). length ns) over.inputs,
        ap (λ (ns : List ℕ). length ns) base.inputs,
        length-map k.inputs (number_by (drivers_by k order)),
        ap (λ (y : Circuit). length y.inputs) here.1,
        inputs_left c t x.cells,
      );
      outputs = omega (
        arith,
        ap (λ (ns : List ℕ). length ns) over.outputs,
        ap (λ (ns : List ℕ). length ns) base.outputs,
        length-map k.outputs (number_by (drivers_by k order)),
        ap (λ (y : Circuit). length y.outputs) here.1,
        outputs_left c t x.cells,
        length-map (sink_pins c t x.cells) net_of,
      );
      nets = λ net has.
          let own : k.inputs ≡ c.inputs ++ free_nets c x.cells = ap (λ (y : Circuit). y.inputs) here.1 ∙ left_inputs c t x.cells in
          let input : In net k.inputs = subst (λ (ns : List ℕ). In net ns) (sym own) (In-right net c.inputs (free_nets c x.cells) has) in
          let regs = flat_map reg_nets (regs_of k) in
          let there = In-left net (drivers_by k order) (gate_outs m.gates)
          (In-left net (k.inputs ++ regs) (gate_nets order) (In-left net k.inputs regs input)) in
          let lt = number_within net drivers (Contains-from_In drivers net there) in omega (arith, lt, length_is);
    }

pub places_some : (c : Circuit) (l : LeftCircuit) (order : List Gate) (made : GatedDesign) (m : IsGatedDesign l.flat.circuit order made) (x : CutOut)
    (nets : ℕ) (own further list : List CellName) → l.cut ≡ Some x → IsCutAs c l.cut l.flat.circuit → IsLawfulCircuit l.flat.circuit
    → nets ≡ made.gated.design.nets + length made.gated.gates → ArePlacesOf (rewritten made.gated) own → AreFurther c x made.numbers nets further
    → list ≡ own ++ further → ArePlacesOf (rewritten made.gated) list
places_some c l order made m x nets own further list some cut lawful all places more list_is =
    let k = l.flat.circuit in
    let number : ℕ → ℕ = number_by (enabled_drivers k order m.gates) in
    let here : IsCutAs c (Some x) k = subst (λ (y : Option CutOut). IsCutAs c y k) some cut in
    let same = list_is ∙ ap (λ (cs : List CellName). own ++ cs) (further_is c k order made m x nets further here.0 lawful all more) in
    subst (λ (cs : List CellName). ArePlacesOf (rewritten made.gated) cs) (sym same)
    (places_more (rewritten made.gated) (frame_of c (Some x) number) own (framed_by c k order made m x here) places)

-- what is told of cells that are cut out
pub free_some : (c k : Circuit) (cut : Option CutOut) (x : CutOut) (names : List (List ℕ)) → cut ≡ Some x → IsCutAs c cut k
    → names ≡ map pin_name (map (pin_at x.cells) x.pins.free) → names ≡ map pin_name (free_pins c (cells_of cut))
free_some c k cut x names some is told =
    let here : IsCutAs c (Some x) k = subst (λ (y : Option CutOut). IsCutAs c y k) some is in
    told ∙ ap (map pin_name) here.0.free ∙ ap (λ (y : Option CutOut). map pin_name (free_pins c (cells_of y))) (sym some)

pub sinks_some : (c k : Circuit) (cut : Option CutOut) (x : CutOut) (names : List (List ℕ)) → cut ≡ Some x → IsCutAs c cut k
    → names ≡ map pin_name (map (pin_at x.cells) x.pins.sinks) → names ≡ map pin_name (sink_pins c (tree_in cut) (cells_of cut))
sinks_some c k cut x names some is told =
    let here : IsCutAs c (Some x) k = subst (λ (y : Option CutOut). IsCutAs c y k) some is in
    told ∙ ap (map pin_name) here.0.sinks ∙ ap (λ (y : Option CutOut). map pin_name (sink_pins c (tree_in y) (cells_of y))) (sym some)
