-- The circuit that is left where cells are cut out of one, with what was found of these cells.
use Rattle.std.specs.Prelude.{◌≡◌, ◌⊎◌, ℕ, ◌+◌, ◌<◌, ◌≤◌, ◌==◌, Bool, List, [], ◌++◌, length, map, Contains, Option, Some, None, count_by}
use Rattle.std.specs.List.{IsDistinct}
use Rattle.std.specs.Str.{bytes_eq}
use Rattle.sdcv_base.specs.declared.limits.LimitName.TheVariants as what
use Rattle.netlist_types.specs.declared.sources.Module.{Module}
use Rattle.cell_types.specs.declared.libraries.Library.{Library}
use Rattle.linked_types.specs.declared.faults.LinkFault.{LinkFault}
use Rattle.linked_types.specs.declared.faults.LinkFault.TheVariants as fault
use Rattle.linked_types.specs.declared.options.LinkOptions.{LinkOptions}
use Rattle.link_defs.specs.declared.circuits.Circuit.{Circuit}
use Rattle.link_defs.specs.declared.cuts.CutCell.{CutCell}
use Rattle.link_defs.specs.declared.cuts.CutPin.{CutPin}
use Rattle.link_defs.specs.declared.cuts.CutSource.{CutSource}
use Rattle.link_defs.specs.declared.cuts.Way.TheVariants as way
use Rattle.link_defs.specs.CellNames.{Leaf, leaves}
use Rattle.link_defs.specs.Circuits.{all_drivers}
use Rattle.link_defs.specs.Cuts.{Tree, CutFrame, IsTreeOf, IsCut, cut_circuit}
use Rattle.link_defs.specs.Faults.{IsCutCause, IsCutDriver, most_inputs}
use Rattle.link_defs.specs.Flatten.{Flat, flat_of, full_names}
use Rattle.link_defs.specs.Judged.{FlatNetlist, IsJudged, netlist_of}
use Rattle.link_design.specs.Lawful.{IsLawfulCircuit}
use Rattle.link_design.specs.Trees.{tree_of}
use Rattle.link_circuit.specs.declared.circuits.FlatCircuit.{FlatCircuit}
use Rattle.link_circuit.specs.Flats.{AreFine}
use Rattle.link_circuit.specs.Names.{IsLeftBelow}
use Rattle.link_cuts.specs.Cutting.{IsCutOut}
use Rattle.link_tops.specs.Clashes.{IsApart, cut_names, leaf_names}
use Rattle.net_link.specs.Places.{AreLeavesOf}
use Rattle.net_link.specs.declared.left.CutOut.{CutOut}
use Rattle.net_link.specs.declared.left.LeftCircuit.{LeftCircuit}

-- the cells that are cut out, if any are
abbrev pub cells_of : Option CutOut → List CutCell
cells_of None = []
cells_of (Some x) = x.cells

-- the clock tree, where there are such cells
abbrev pub tree_in : Option CutOut → Tree
tree_in None = record { all = []; even = [] }
tree_in (Some x) = tree_of x.pins.rows.tree

-- a circuit and what is cut out of it, with the numbers of nets
abbrev pub frame_of : Circuit → Option CutOut → (ℕ → ℕ) → CutFrame
frame_of c cut number = record { circuit = c; tree = tree_in cut; cells = cells_of cut; number = number }

-- the circuit is left of another where these cells are cut out; with none it is the other
abbrev pub IsCutAs : Circuit → Option CutOut → Circuit → Type 0
IsCutAs c None k = k ≡ c
IsCutAs c (Some x) k = IsCutOut c x.cells x.pins × (k ≡ cut_circuit c (tree_of x.pins.rows.tree) x.cells)

-- a net with two drivers, or one that the circuit drives and an output of a cell that is cut out; want of memory alone is free
abbrev pub IsDriverCause : Flat → Circuit → List CutCell → LinkFault → Type 0
IsDriverCause flat c cells (fault.ManyDrivers name) =
    ((net : ℕ) × Contains (full_names flat) (name, net) × (1 < count_by (λ m. m == net) (all_drivers c))) ⊎ IsCutDriver flat c cells name
IsDriverCause flat c cells fault.Memory = Unit {0}
IsDriverCause flat c cells e = ⊥

-- no output of these cells stands on a net that the circuit drives
abbrev pub AreOffDrivers : Circuit → List CutCell → Type 0
AreOffDrivers c cells = (x : CutCell) (p : CutPin) → Contains cells x → Contains x.pins p → p.way ≡ way.Out → Contains (all_drivers c) p.net → ⊥

-- a circuit where these cells are cut out of it, with no more data inputs than a design may have
pub record IsLeftHere (c : FlatCircuit) (cells : List CutCell) (wide : Bool) (l : LeftCircuit) : Type 0 where
  pub out : CutOut
  pub cut_is : l.cut ≡ Some out
  pub cells_are : out.cells ≡ cells
  pub pins : IsCutOut c.circuit cells out.pins
  pub circuit : l.flat.circuit ≡ cut_circuit c.circuit (tree_of out.pins.rows.tree) cells
  pub lawful : IsLawfulCircuit l.flat.circuit
  pub scopes : l.flat.scopes ≡ c.scopes
  pub leaves : l.flat.leaves ≡ c.leaves
  pub few : length l.flat.circuit.inputs ≤ most_inputs wide

-- or with more; want of memory alone is free
abbrev pub IsLimitHere : Circuit → List CutCell → Bool → LinkFault → Type 0
IsLimitHere c cells wide (fault.Limit what.Inputs number) =
    (number ≡ most_inputs wide + 1) × ((t : Tree) × IsTreeOf c t × (most_inputs wide < length (cut_circuit c t cells).inputs))
IsLimitHere c cells wide fault.Memory = Unit {0}
IsLimitHere c cells wide e = ⊥

-- what is left of the judged netlist below a module where its cells are cut out: nothing is refused so far, and nothing else can be left
pub record IsLeft (s : CutSource) (lib : Library) (top : Module) (o : LinkOptions) (j : FlatNetlist) (l : LeftCircuit) : Type 0 where
  pub below : IsLeftBelow s lib top o j l.flat
  pub sole : (i : FlatNetlist) → IsJudged o.cut_clocks (netlist_of s lib top o.clock) i → i ≡ j
  pub fine : AreFine s.source lib (flat_of s.source lib top)
  pub lawful : IsLawfulCircuit l.flat.circuit
  pub cells : cells_of l.cut ≡ j.cells
  pub cut : IsCutAs j.circuit l.cut l.flat.circuit
  pub one : (k : Circuit) → IsCut j.circuit j.cells k → k ≡ l.flat.circuit
  pub few : length l.flat.circuit.inputs ≤ most_inputs o.wide
  pub differ : IsDistinct bytes_eq (leaf_names l.flat.leaves ++ cut_names (cells_of l.cut))
  pub apart : IsApart (map (λ (x : Leaf). x.name) (leaves s.source lib (flat_of s.source lib top)))
  pub own : AreLeavesOf l.flat.circuit.parts j.found
  pub none : (f : LinkFault) → IsCutCause (flat_of s.source lib top) j.found j.circuit j.cells f → ⊥
