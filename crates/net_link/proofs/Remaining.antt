-- The circuit that is left where cells are cut out of one.
use Rattle.std.proofs.Common.{◌≡◌, ℕ, ◌+◌, List, [], ◌++◌, length, map, Some, None, refl, ap, sym, ◌∙◌, append-nil, arith, length-append}
use Rattle.std.specs.Prelude.{Contains, Option}
use Rattle.std.proofs.lemmas.List.{length-map}
use Rattle.netlist_types.specs.declared.sources.Source.{Source}
use Rattle.netlist_types.specs.declared.sources.Module.{Module}
use Rattle.cell_types.specs.declared.libraries.Library.{Library}
use Rattle.linked_types.specs.declared.options.LinkOptions.{LinkOptions}
use Rattle.link_defs.specs.Circuits.{PortBit, circuit_of, data_bits, output_bits}
use Rattle.link_defs.specs.declared.circuits.Circuit.{Circuit}
use Rattle.link_defs.specs.declared.cuts.CutCell.{CutCell}
use Rattle.link_defs.specs.Cuts.{Tree, IsTreeOf, IsCut, free_nets, sink_pins, net_of, cut_circuit}
use Rattle.link_circuit.specs.Names.{with_more}
use Rattle.net_link.specs.declared.left.CutOut.{CutOut}
use Rattle.net_link.specs.Left.{cells_of, tree_in, IsCutAs}

-- it has the free nets and the nets of sinks more
pub cut_more : (c : Circuit) (t : Tree) (cells : List CutCell)
    → cut_circuit c t cells ≡ with_more c (free_nets c cells) (map net_of (sink_pins c t cells))
unfolding cut_circuit
cut_more c t cells = refl

pub inputs_left : (c : Circuit) (t : Tree) (cells : List CutCell) → length (cut_circuit c t cells).inputs ≡ length c.inputs + length (free_nets c cells)
unfolding cut_circuit
inputs_left c t cells = length-append c.inputs (free_nets c cells)

pub outputs_left : (c : Circuit) (t : Tree) (cells : List CutCell)
    → length (cut_circuit c t cells).outputs ≡ length c.outputs + length (map net_of (sink_pins c t cells))
unfolding cut_circuit
outputs_left c t cells = length-append c.outputs (map net_of (sink_pins c t cells))

pub inputs_of : (s : Source) (lib : Library) (o : LinkOptions) (top : Module) → length (circuit_of s lib top o.clock).inputs ≡ length (data_bits o.clock top)
unfolding circuit_of
inputs_of s lib o top = length-map (data_bits o.clock top) (λ (b : PortBit). b.net)

pub outputs_of : (s : Source) (lib : Library) (o : LinkOptions) (top : Module) → length (circuit_of s lib top o.clock).outputs ≡ length (output_bits top)
unfolding circuit_of
outputs_of s lib o top = length-map (output_bits top) (λ (b : PortBit). b.net)

-- where nothing is cut out the circuit is left
pub nothing_left : (c : Circuit) (t : Tree) → c ≡ cut_circuit c t []
unfolding cut_circuit
nothing_left c t =
    let make : List ℕ → List ℕ → Circuit = λ i o. record { nets = c.nets; clocks = c.clocks; inputs = i; outputs = o; parts = c.parts } in
    ap (λ (i : List ℕ). make i c.outputs) (sym (append-nil c.inputs)) ∙ ap (λ (o : List ℕ). make (c.inputs ++ []) o) (sym (append-nil c.outputs))

-- the clock tree counts where there are cells
pub tree_here : (c : Circuit) (cut : Option CutOut) (k : Circuit) → IsCutAs c cut k → (x : CutCell) → Contains (cells_of cut) x → IsTreeOf c (tree_in cut)
tree_here c None k is x has = absurd (omega (arith, has.1))
tree_here c (Some y) k is x has = is.0.tree

-- what is left is so by that tree
pub left_here : (c : Circuit) (cut : Option CutOut) (k : Circuit) → IsCutAs c cut k → k ≡ cut_circuit c (tree_in cut) (cells_of cut)
left_here c None k is = is ∙ nothing_left c (tree_in None)
left_here c (Some y) k is = is.1

pub as_cut : (c : Circuit) (cut : Option CutOut) (k : Circuit) → IsCutAs c cut k → IsCut c (cells_of cut) k
as_cut c cut k is = record { tree = tree_in cut; tree_is = tree_here c cut k is; is = left_here c cut k is }
