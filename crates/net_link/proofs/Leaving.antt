-- What is left where cells are cut out, and why they can't be.
use Rattle.std.proofs.Common.{◌≡◌, ℕ, ◌<◌, ◌==◌, List, [], ◌∷◌, ◌++◌, length, map, All, Some, None, refl, ap, subst, sym, ◌∙◌, arith, inl, inr}
use Rattle.std.proofs.Common.{append-nil}
use Rattle.std.specs.Prelude.{Bool, true, false, Option, Contains, filter, flat_map, count_by, slice_get}
use Rattle.std.specs.List.{IsDistinct}
use Rattle.std.specs.Str.{bytes_eq}
use Rattle.sdcv_base.specs.declared.limits.LimitName.TheVariants as what
use Rattle.netlist_types.specs.declared.sources.Source.{Source}
use Rattle.netlist_types.specs.declared.sources.Module.{Module}
use Rattle.netlist_types.specs.Lawful.{IsLawful}
use Rattle.cell_types.specs.declared.libraries.Library.{Library}
use Rattle.cell_types.specs.Libraries.{IsLawful as IsLawfulLibrary}
use Rattle.linked_types.specs.declared.faults.LinkFault.{LinkFault}
use Rattle.linked_types.specs.declared.faults.LinkFault.TheVariants as fault
use Rattle.linked_types.specs.declared.options.LinkOptions.{LinkOptions}
use Rattle.net_model.proofs.Members.{In, In-cases, In-from_Contains}
use Rattle.link_defs.specs.declared.circuits.Circuit.{Circuit}
use Rattle.link_defs.specs.declared.circuits.Part.{Part}
use Rattle.link_defs.specs.declared.cuts.CutCell.{CutCell}
use Rattle.link_defs.specs.declared.cuts.CutItem.{CutItem}
use Rattle.link_defs.specs.declared.cuts.CutPin.{CutPin}
use Rattle.link_defs.specs.declared.cuts.CutSource.{CutSource}
use Rattle.link_defs.specs.CellNames.{Leaf, leaves}
use Rattle.link_defs.specs.Circuits.{circuit_of, all_drivers, all_reads}
use Rattle.link_defs.specs.Cuts.{Tree, IsCut, IsFitItem, cut_cells, cut_circuit, free_nets, sink_pins, net_of}
use Rattle.link_defs.specs.Faults.{IsCause, IsCutCause, IsCutDriver, HasManyDrivers, cell_names_in, most_inputs}
use Rattle.link_defs.specs.Faults as link
use Rattle.link_defs.specs.Flatten.{Scope, Flat, flat_of, full_names, scope_names}
use Rattle.link_defs.specs.Hierarchy.{tops}
use Rattle.link_defs.specs.Judged.{FlatNetlist, IsJudged, is_leaf_off, netlist_of, off_cell, off_clock}
use Rattle.link_design.specs.Lawful.{IsLawfulCircuit}
use Rattle.link_design.specs.Trees.{tree_of}
use Rattle.link_design.proofs.Parted.{all_in}
use Rattle.link_circuit.specs.declared.circuits.FlatCircuit.{FlatCircuit}
use Rattle.link_circuit.specs.Flats.{AreScopes}
use Rattle.link_circuit.specs.Names.{HasNet, IsCircuitBelow, IsExtended, IsLeftBelow}
use Rattle.link_circuit.proofs.Extending.{drivers_counted}
use Rattle.link_clocks.specs.Netlists.{AreCellsBelow, IsNetlist, IsJudgedOf as IsJudgedNetlist}
use Rattle.link_circuit.proofs.Finding.{named_below, net_below, name_below}
use Rattle.link_design.specs.declared.faults.CircuitFault.TheVariants as circuit
use Rattle.link_items.specs.declared.made.Instance.{Instance}
use Rattle.link_items.specs.declared.made.LeafPlace.{LeafPlace}
use Rattle.link_items.specs.Items.{module_at, scope_of, AreLeavesAt}
use Rattle.link_cuts.specs.Checks.{IsCellFault, IsDrivenPin}
use Rattle.link_cuts.specs.Cutting.{IsCutOut, cell_at, own_pin}
use Rattle.link_tops.specs.Clashes.{IsApart, IsClash, leaf_names, cut_names}
use Rattle.net_link.specs.declared.judged.JudgedCircuit.{JudgedCircuit}
use Rattle.net_link.specs.declared.left.LeftCircuit.{LeftCircuit}
use Rattle.net_link.specs.Judged.{IsJudgedBelow, IsNamed, as_cut}
use Rattle.net_link.specs.Left.{cells_of, IsCutAs, IsLeft, IsLeftHere, IsLimitHere, IsDriverCause, AreOffDrivers}
use Rattle.net_link.specs.Limits.{HasFewBits}
use Rattle.net_link.specs.Places.{AreLeavesOf}
use Rattle.net_link.specs.Stages.{IsFlatCircuit}
use Rattle.net_link.proofs.Causing.{IsJudgedOf, judged_inputs, names_of_leaves, sole_cause}
use Rattle.net_link.proofs.Cutting.{AreSeen, cells_below, cells_seen, free_seen, sinks_seen}
use Rattle.net_link.proofs.Judging.{judged_own, off_quiet, off_twice, only_whole, whole_judged}
use Rattle.net_link.proofs.Leafing.{HasPart, flat_leaves, leaf_parts}
use Rattle.net_link.proofs.Linking.{parts_below}
use Rattle.net_link.proofs.Staging.{lawful_below, top_lawful}
use Rattle.link_circuit.proofs.Placing.{flat_within}
use Rattle.net_link.proofs.Remaining.{cut_more, inputs_left, inputs_of, nothing_left}
use Rattle.link_cuts.specs.declared.places.PinPlace.{PinPlace}
use Rattle.link_defs.specs.declared.cuts.Way.TheVariants as way
use Rattle.link_items.proofs.Listing.{contains_at}
use Rattle.std.proofs.lemmas.Option.{get_or_from_slice_get}
use Rattle.net_link.specs.declared.left.CutOut.{CutOut}

-- nothing is cut out where there are no items
pub none_cut : (scopes : List Scope) → cut_cells [] scopes ≡ []
none_cut [] = refl
none_cut (x ∷ xs) = none_cut xs

-- no refusal has its cause in the cells, where none of them has a fault, none drives what the circuit drives, and all names stand apart
pub none_caused : (flat : Flat) (found : List Leaf) (c : Circuit) (cells : List CutCell) → All (λ (x : CutCell). x.fault ≡ None) cells
    → AreOffDrivers c cells → IsApart (cell_names_in found cells) → (f : LinkFault) → IsCutCause flat found c cells f → ⊥
none_caused flat found c cells sound off apart (fault.UnknownPin n) (x, pin, has, stray, is) =
    let none : x.fault ≡ None = all_in (λ (y : CutCell). y.fault ≡ None) cells sound x (In-from_Contains cells x has) in
    let e = sym stray ∙ none in cc
none_caused flat found c cells sound off apart (fault.ManyDrivers n) (link.Cut_tied x pin has tied) =
    let none : x.fault ≡ None = all_in (λ (y : CutCell). y.fault ≡ None) cells sound x (In-from_Contains cells x has) in
    let e = sym tied ∙ none in cc
none_caused flat found c cells sound off apart (fault.ManyDrivers n) (link.Cut_driven x p name has has_p out driven named) = off x p has has_p out driven
none_caused flat found c cells sound off apart (fault.NameClash n) cause = apart n cause
none_caused flat found c cells sound off apart (fault.UnknownCell n) cause = cause
none_caused flat found c cells sound off apart (fault.UnsupportedCell n) cause = cause
none_caused flat found c cells sound off apart (fault.OpenInput n) cause = cause
none_caused flat found c cells sound off apart (fault.Undriven n) cause = cause
none_caused flat found c cells sound off apart (fault.Loop n) cause = cause
none_caused flat found c cells sound off apart (fault.NotTheClock n) cause = cause
none_caused flat found c cells sound off apart (fault.ClockAsData n) cause = cause
none_caused flat found c cells sound off apart (fault.Recursive n) cause = cause
none_caused flat found c cells sound off apart (fault.NoTop n) cause = cause
none_caused flat found c cells sound off apart (fault.Limit k n) cause = cause
none_caused flat found c cells sound off apart (fault.BadSetting n) cause = cause
none_caused flat found c cells sound off apart fault.Memory cause = cause

-- without cells nothing else is left
none_else : (c : Circuit) (cells : List CutCell) (j : Circuit) → cells ≡ [] → IsCut c cells j → j ≡ c
none_else c cells j none cut =
    cut.is ∙ ap (λ (xs : List CutCell). cut_circuit c cut.tree xs) none ∙ sym (nothing_left c cut.tree)

-- a circuit is itself one with nothing more
nothing_more : (scopes : List Scope) (c k : Circuit) → k ≡ c → IsExtended scopes c k
nothing_more scopes c k is =
    let t : Tree = record { all = []; even = [] } in
    record {
      ins = [];
      outs = [];
      ins_there = λ n has. absurd (omega (arith, has.1));
      outs_there = λ n has. absurd (omega (arith, has.1));
      is = is ∙ nothing_left c t ∙ cut_more c t [];
    }

-- the circuit below a module is judged, where no clock of several is
pub left_below : (s : CutSource) (lib : Library) (top : Module) (o : LinkOptions) (c : FlatCircuit) → o.cut_clocks ≡ false
    → IsCircuitBelow s.source lib top o.clock c → IsLeftBelow s lib top o (netlist_of s lib top o.clock) c
left_below s lib top o c alone below = record {
  judged = whole_judged o.cut_clocks (netlist_of s lib top o.clock) alone;
  extended = nothing_more (flat_of s.source lib top).scopes (circuit_of s.source lib top o.clock) c.circuit below.circuit;
  scopes = below.scopes;
  are_scopes = below.are_scopes;
  leaves = below.leaves;
}

-- the leaves of a flat netlist are the registers of its parts
flat_own : (s : CutSource) (lib : Library) (top : Module) (clock : Option (List ℕ))
    → AreLeavesOf (circuit_of s.source lib top clock).parts (leaves s.source lib (flat_of s.source lib top))
flat_own s lib top clock =
    subst (λ (ps : List Part). AreLeavesOf ps (leaves s.source lib (flat_of s.source lib top)))
    (sym (parts_below s.source lib top clock (circuit_of s.source lib top clock) refl)) (flat_leaves s.source lib (flat_of s.source lib top).items)

-- the whole circuit is left where nothing is to be cut out
pub whole_left : (s : CutSource) (lib : Library) (o : LinkOptions) (top : Module) (c : FlatCircuit) → s.items ≡ [] → o.cut_clocks ≡ false
    → IsFlatCircuit s.source lib top o.clock c → IsLawfulCircuit c.circuit → HasFewBits o.wide top o.clock
    → IsLeft s lib top o (netlist_of s lib top o.clock) (record { flat = c; cut = None })
whole_left s lib o top c nothing alone is lawful few =
    let flat = flat_of s.source lib top in
    let own = circuit_of s.source lib top o.clock in
    let found = leaves s.source lib flat in
    let none : cut_cells s.items flat.scopes ≡ [] = ap (λ (xs : List CutItem). cut_cells xs flat.scopes) nothing ∙ none_cut flat.scopes in
    let apart : IsApart (cell_names_in found []) =
    subst (λ (ns : List (List ℕ)). IsApart ns) (sym (append-nil (map (λ (x : Leaf). x.name) found))) is.apart in
    record {
      below = left_below s lib top o c alone is.below;
      sole = λ i judged. only_whole o.cut_clocks (netlist_of s lib top o.clock) i alone judged;
      fine = is.fine;
      lawful = lawful;
      cells = sym none;
      cut = is.below.circuit;
      one = λ k cut. none_else own (cut_cells s.items flat.scopes) k none cut ∙ sym is.below.circuit;
      few = (let inputs = few.inputs in omega (arith, inputs, inputs_of s.source lib o top, ap (λ (x : Circuit). length x.inputs) is.below.circuit));
      differ = subst (λ (ns : List (List ℕ)). IsDistinct bytes_eq ns) (sym (append-nil (leaf_names c.leaves))) is.differ;
      apart = is.apart;
      own = subst (λ (x : Circuit). AreLeavesOf x.parts found) (sym is.below.circuit) (flat_own s lib top o.clock);
      none = subst (λ (cells : List CutCell). (f : LinkFault) → IsCutCause flat found own cells f → ⊥) (sym none)
          (none_caused flat found own [] (λ k d lt. absurd (omega (arith, lt))) (λ x p has. absurd (omega (arith, has.1))) apart);
    }

-- what the checks of cells found
pub record AreChecked (c : Circuit) (places : List LeafPlace) (cells : List CutCell) : Type 0 where
  pub sound : All (λ (x : CutCell). x.fault ≡ None) cells
  pub off : AreOffDrivers c cells
  pub differ : IsDistinct bytes_eq (leaf_names places ++ cut_names cells)
  pub apart : IsApart (leaf_names places ++ cut_names cells)

-- names of all cells
pub names_all : (lib : Library) (parts : List Part) (places : List LeafPlace) (found : List Leaf) (cells : List CutCell)
    → AreLeavesAt lib parts places found → leaf_names places ++ cut_names cells ≡ cell_names_in found cells
names_all lib parts places found cells at =
    ap (λ (ns : List (List ℕ)). ns ++ cut_names cells) (names_of_leaves lib parts places found at)

parts_kept : (c : Circuit) (t : Tree) (cells : List CutCell) → (cut_circuit c t cells).parts ≡ c.parts
unfolding cut_circuit
parts_kept c t cells = refl

-- what is left where cells are cut out
pub cut_left : (s : CutSource) (lib : Library) (o : LinkOptions) (top : Module) (j : FlatNetlist) (x : JudgedCircuit) (l : LeftCircuit)
    → IsJudgedBelow s lib top o j x → AreChecked x.flat.circuit x.flat.leaves x.cells → IsLeftHere x.flat x.cells o.wide l
    → ((i k : Circuit) → IsCut j.circuit x.cells i → IsCut j.circuit x.cells k → i ≡ k) → IsLeft s lib top o j l
cut_left s lib o top j x l is checked here same =
    let flat = flat_of s.source lib top in
    let own = j.circuit in
    let cells = x.cells in
    let t = tree_of here.out.pins.rows.tree in
    let pins : IsCutOut own cells here.out.pins = subst (λ (c : Circuit). IsCutOut c cells here.out.pins) is.circuit here.pins in
    let left : l.flat.circuit ≡ cut_circuit own t cells = here.circuit ∙ ap (λ (c : Circuit). cut_circuit c t cells) is.circuit in
    let parts : l.flat.circuit.parts ≡ x.flat.circuit.parts = ap (λ (c : Circuit). c.parts) here.circuit ∙ parts_kept x.flat.circuit t cells in
    let as_out : cells_of l.cut ≡ cells = ap cells_of here.cut_is ∙ here.cells_are in
    let off = subst (λ (c : Circuit). AreOffDrivers c cells) is.circuit checked.off in
    let apart : IsApart (cell_names_in j.found cells) =
    subst (λ (ns : List (List ℕ)). IsApart ns) (names_all lib x.flat.circuit.parts x.flat.leaves j.found cells is.below.leaves) checked.apart in
    record {
      below = record {
        judged = is.below.judged;
        extended = record {
          ins = free_nets own cells;
          outs = map net_of (sink_pins own t cells);
          ins_there = free_seen own flat.scopes cells is.named.undriven;
          outs_there = sinks_seen own t flat.scopes cells
              (subst (λ (xs : List CutCell). (y : CutCell) (p : CutPin) → Contains xs y → y.clocked ≡ true → Contains y.pins p → HasNet flat.scopes p.net)
              (sym is.cells) is.named.clocked);
          is = left ∙ cut_more own t cells;
        };
        scopes = ap (λ (gs : List Instance). map (scope_of s.source) gs) here.scopes ∙ is.below.scopes;
        are_scopes = subst (λ (gs : List Instance). AreScopes s.source gs) (sym here.scopes) is.below.are_scopes;
        leaves = subst (λ (ps : List Part). AreLeavesAt lib ps l.flat.leaves j.found) (sym parts)
            (subst (λ (xs : List LeafPlace). AreLeavesAt lib x.flat.circuit.parts xs j.found) (sym here.leaves) is.below.leaves);
      };
      sole = is.sole;
      fine = is.fine;
      lawful = here.lawful;
      cells = as_out ∙ is.cells;
      cut = subst (λ (y : Option CutOut). IsCutAs own y l.flat.circuit) (sym here.cut_is)
          (subst (λ (xs : List CutCell). IsCutOut own xs here.out.pins × (l.flat.circuit ≡ cut_circuit own t xs)) (sym here.cells_are) (pins, left));
      one = λ k cut. same k l.flat.circuit (subst (λ (xs : List CutCell). IsCut own xs k) (sym is.cells) cut)
          (record { tree = t; tree_is = λ y has. pins.tree; is = left });
      few = here.few;
      differ = subst (λ (ns : List (List ℕ)). IsDistinct bytes_eq ns)
          (ap (λ (xs : List LeafPlace). leaf_names xs ++ cut_names cells) (sym here.leaves)
          ∙ ap (λ (xs : List CutCell). leaf_names l.flat.leaves ++ cut_names xs) (sym as_out)) checked.differ;
      apart = is.apart;
      own = subst (λ (ps : List Part). AreLeavesOf ps j.found) (sym (parts ∙ ap (λ (c : Circuit). c.parts) is.circuit)) is.own;
      none = subst (λ (xs : List CutCell). (f : LinkFault) → IsCutCause flat j.found own xs f → ⊥) is.cells
          (none_caused flat j.found own cells checked.sound off apart);
    }

-- a net with two drivers has them in what is left
twice_left : (s : Source) (lib : Library) (flat : Flat) (c : Circuit) (cells : List CutCell) (j : Circuit) (name : List ℕ) (net : ℕ) → IsCut c cells j
    → Contains (full_names flat) (name, net) → 1 < count_by (λ m. m == net) (all_drivers c) → HasManyDrivers s lib flat j name
twice_left s lib flat c cells j name net cut named twice =
    let ins = free_nets c cells in
    let outs = map net_of (sink_pins c cut.tree cells) in
    let count = ap (λ (x : Circuit). count_by (λ m. m == net) (all_drivers x)) (cut.is ∙ cut_more c cut.tree cells) in
    link.Twice name net named (omega (arith, count, twice, drivers_counted c ins outs net))

-- why drivers are refused
pub driver_cause : (s : CutSource) (lib : Library) (o : LinkOptions) (top : Module) (j : FlatNetlist) (e : LinkFault) → tops s.source ≡ top ∷ []
    → ((i : FlatNetlist) → IsJudgedOf s lib o top i → i ≡ j) → IsDriverCause (flat_of s.source lib top) j.circuit j.cells e → IsCause s lib o e
driver_cause s lib o top j (fault.ManyDrivers n) one sole (inl (net, named, twice)) = (
  top,
  one,
  sole_cause s lib o top j (fault.ManyDrivers n) sole
      (inl (λ k cut. twice_left s.source lib (flat_of s.source lib top) j.circuit j.cells k n net cut named twice)),
)
driver_cause s lib o top j (fault.ManyDrivers n) one sole (inr cut) = (top, one, sole_cause s lib o top j (fault.ManyDrivers n) sole (inr cut))
driver_cause s lib o top j (fault.UnknownCell n) one sole cause = absurd cause
driver_cause s lib o top j (fault.UnsupportedCell n) one sole cause = absurd cause
driver_cause s lib o top j (fault.UnknownPin n) one sole cause = absurd cause
driver_cause s lib o top j (fault.OpenInput n) one sole cause = absurd cause
driver_cause s lib o top j (fault.Undriven n) one sole cause = absurd cause
driver_cause s lib o top j (fault.Loop n) one sole cause = absurd cause
driver_cause s lib o top j (fault.NotTheClock n) one sole cause = absurd cause
driver_cause s lib o top j (fault.ClockAsData n) one sole cause = absurd cause
driver_cause s lib o top j (fault.Recursive n) one sole cause = absurd cause
driver_cause s lib o top j (fault.NameClash n) one sole cause = absurd cause
driver_cause s lib o top j (fault.NoTop n) one sole cause = absurd cause
driver_cause s lib o top j (fault.Limit k n) one sole cause = absurd cause
driver_cause s lib o top j (fault.BadSetting n) one sole cause = absurd cause
driver_cause s lib o top j fault.Memory one sole cause = tt

-- why names of cells are refused
pub clash_cause : (s : CutSource) (lib : Library) (o : LinkOptions) (top : Module) (j : FlatNetlist) (names : List (List ℕ)) (e : LinkFault)
    → tops s.source ≡ top ∷ [] → ((i : FlatNetlist) → IsJudgedOf s lib o top i → i ≡ j) → names ≡ cell_names_in j.found j.cells → IsClash names e
    → IsCause s lib o e
clash_cause s lib o top j names (fault.NameClash n) one sole is cause =
    (top, one, sole_cause s lib o top j (fault.NameClash n) sole (inr (subst (λ (ns : List (List ℕ)). link.StandsTwice ns n) is cause)))
clash_cause s lib o top j names (fault.UnknownCell n) one sole is cause = absurd cause
clash_cause s lib o top j names (fault.UnsupportedCell n) one sole is cause = absurd cause
clash_cause s lib o top j names (fault.UnknownPin n) one sole is cause = absurd cause
clash_cause s lib o top j names (fault.OpenInput n) one sole is cause = absurd cause
clash_cause s lib o top j names (fault.Undriven n) one sole is cause = absurd cause
clash_cause s lib o top j names (fault.Loop n) one sole is cause = absurd cause
clash_cause s lib o top j names (fault.NotTheClock n) one sole is cause = absurd cause
clash_cause s lib o top j names (fault.ClockAsData n) one sole is cause = absurd cause
clash_cause s lib o top j names (fault.Recursive n) one sole is cause = absurd cause
clash_cause s lib o top j names (fault.ManyDrivers n) one sole is cause = absurd cause
clash_cause s lib o top j names (fault.NoTop n) one sole is cause = absurd cause
clash_cause s lib o top j names (fault.Limit k n) one sole is cause = absurd cause
clash_cause s lib o top j names (fault.BadSetting n) one sole is cause = absurd cause
clash_cause s lib o top j names fault.Memory one sole is cause = tt

-- the cell at a place
cell_is : (cells : List CutCell) (place : ℕ) (x : CutCell) → slice_get cells place ≡ Some x → cell_at cells place ≡ x
cell_is cells place x at =
    get_or_from_slice_get cells place x (record { cell = []; name = []; clocked = false; pins = []; fault = None }) at

-- the pin that was found is an output of a cell, on a net that the circuit drives
pub pin_is : (c : Circuit) (cells : List CutCell) (at : PinPlace) (x : CutCell) (p : CutPin) → IsDrivenPin c cells (Some at)
    → slice_get cells at.cell ≡ Some x → slice_get x.pins at.pin ≡ Some p
    → Contains cells x × Contains x.pins p × (p.way ≡ way.Out) × Contains (all_drivers c) p.net
pin_is c cells at x p (inside, out, driven) at_x at_p =
    let x_is = cell_is cells at.cell x at_x in
    let p_is : own_pin (cell_at cells at.cell) at.pin ≡ p =
    ap (λ (y : CutCell). own_pin y at.pin) x_is ∙ get_or_from_slice_get x.pins at.pin p (record { name = []; way = way.In; net = 0 }) at_p in (
      contains_at cells at.cell x at_x,
      contains_at x.pins at.pin p at_p,
      ap (λ (y : CutPin). y.way) (sym p_is) ∙ out,
      subst (λ (y : CutPin). Contains (all_drivers c) y.net) p_is driven,
    )

-- it tells of two drivers
pub driven_told : (flat : Flat) (c : Circuit) (cells : List CutCell) (at : PinPlace) (x : CutCell) (p : CutPin) (name : List ℕ)
    → IsDrivenPin c cells (Some at) → slice_get cells at.cell ≡ Some x → slice_get x.pins at.pin ≡ Some p → Contains (full_names flat) (name, p.net)
    → IsCutDriver flat c cells name
driven_told flat c cells at x p name found at_x at_p named =
    let (has, has_p, out, driven) = pin_is c cells at x p found at_x at_p in link.Cut_driven x p name has has_p out driven named

-- and it is one of the pins of that cell
pub pin_within : (c : Circuit) (cells : List CutCell) (at : PinPlace) (x : CutCell) → IsDrivenPin c cells (Some at) → slice_get cells at.cell ≡ Some x
    → at.pin < length x.pins
pin_within c cells at x (inside, out, driven) at_x =
    let x_is = cell_is cells at.cell x at_x in
    subst (λ (y : CutCell). at.pin < length y.pins) x_is inside.pin

-- why cells can't be cut out
pub cell_cause : (s : CutSource) (lib : Library) (o : LinkOptions) (top : Module) (j : FlatNetlist) (e : LinkFault) → tops s.source ≡ top ∷ []
    → ((i : FlatNetlist) → IsJudgedOf s lib o top i → i ≡ j) → IsCellFault j.cells e → IsCause s lib o e
cell_cause s lib o top j (fault.UnknownPin n) one sole cause = (top, one, sole_cause s lib o top j (fault.UnknownPin n) sole (inr cause))
cell_cause s lib o top j (fault.ManyDrivers n) one sole (x, pin, has, tied, is) =
    let flat = flat_of s.source lib top in
    let cut : IsCutDriver flat j.circuit j.cells n =
    subst (λ (name : List ℕ). IsCutDriver flat j.circuit j.cells name) (sym is) (link.Cut_tied x pin has tied) in
    (top, one, sole_cause s lib o top j (fault.ManyDrivers n) sole (inr cut))
cell_cause s lib o top j (fault.UnknownCell n) one sole cause = absurd cause
cell_cause s lib o top j (fault.UnsupportedCell n) one sole cause = absurd cause
cell_cause s lib o top j (fault.OpenInput n) one sole cause = absurd cause
cell_cause s lib o top j (fault.Undriven n) one sole cause = absurd cause
cell_cause s lib o top j (fault.Loop n) one sole cause = absurd cause
cell_cause s lib o top j (fault.NotTheClock n) one sole cause = absurd cause
cell_cause s lib o top j (fault.ClockAsData n) one sole cause = absurd cause
cell_cause s lib o top j (fault.Recursive n) one sole cause = absurd cause
cell_cause s lib o top j (fault.NameClash n) one sole cause = absurd cause
cell_cause s lib o top j (fault.NoTop n) one sole cause = absurd cause
cell_cause s lib o top j (fault.Limit k n) one sole cause = absurd cause
cell_cause s lib o top j (fault.BadSetting n) one sole cause = absurd cause
cell_cause s lib o top j fault.Memory one sole cause = tt

-- the further data inputs are as many by each clock tree: free nets do not depend on it
limit_left : (most : ℕ) (c k : Circuit) (cells : List CutCell) (t : Tree) → IsCut c cells k → most < length (cut_circuit c t cells).inputs
    → most < length k.inputs
limit_left most c k cells t cut more =
    omega (arith, more, inputs_left c t cells, inputs_left c cut.tree cells, ap (λ (x : Circuit). length x.inputs) cut.is)

-- why there are too many data inputs
pub limit_cause : (s : CutSource) (lib : Library) (o : LinkOptions) (top : Module) (j : FlatNetlist) (e : LinkFault) → tops s.source ≡ top ∷ []
    → ((i : FlatNetlist) → IsJudgedOf s lib o top i → i ≡ j) → IsLimitHere j.circuit j.cells o.wide e → IsCause s lib o e
limit_cause s lib o top j (fault.Limit what.Inputs n) one sole (is, (t, tree, more)) = (
  top,
  one,
  sole_cause s lib o top j (fault.Limit what.Inputs n) sole
      (inl (λ k cut.
      subst (λ (m : ℕ). link.IsAboveLimit o.wide s.source lib (flat_of s.source lib top) k what.Inputs m) (sym is)
      (link.Inputs (limit_left (most_inputs o.wide) j.circuit k j.cells t cut more)))),
)
limit_cause s lib o top j (fault.Limit what.Nets n) one sole cause = absurd cause
limit_cause s lib o top j (fault.Limit what.Registers n) one sole cause = absurd cause
limit_cause s lib o top j (fault.Limit what.Outputs n) one sole cause = absurd cause
limit_cause s lib o top j (fault.Limit what.Instances n) one sole cause = absurd cause
limit_cause s lib o top j (fault.Limit what.Pins n) one sole cause = absurd cause
limit_cause s lib o top j (fault.Limit what.Through n) one sole cause = absurd cause
limit_cause s lib o top j (fault.Limit what.Pairs n) one sole cause = absurd cause
limit_cause s lib o top j (fault.Limit what.Judged n) one sole cause = absurd cause
limit_cause s lib o top j (fault.Limit what.Hierarchy n) one sole cause = absurd cause
limit_cause s lib o top j (fault.UnknownCell n) one sole cause = absurd cause
limit_cause s lib o top j (fault.UnsupportedCell n) one sole cause = absurd cause
limit_cause s lib o top j (fault.UnknownPin n) one sole cause = absurd cause
limit_cause s lib o top j (fault.OpenInput n) one sole cause = absurd cause
limit_cause s lib o top j (fault.Undriven n) one sole cause = absurd cause
limit_cause s lib o top j (fault.Loop n) one sole cause = absurd cause
limit_cause s lib o top j (fault.NotTheClock n) one sole cause = absurd cause
limit_cause s lib o top j (fault.ClockAsData n) one sole cause = absurd cause
limit_cause s lib o top j (fault.Recursive n) one sole cause = absurd cause
limit_cause s lib o top j (fault.NameClash n) one sole cause = absurd cause
limit_cause s lib o top j (fault.NoTop n) one sole cause = absurd cause
limit_cause s lib o top j (fault.BadSetting n) one sole cause = absurd cause
limit_cause s lib o top j (fault.ManyDrivers n) one sole cause = absurd cause
limit_cause s lib o top j fault.Memory one sole cause = tt

-- a net with two drivers is one of an instance
pub twice_there : (s : CutSource) (lib : Library) (top : Module) (o : LinkOptions) (j : FlatNetlist) (x : JudgedCircuit) (n : ℕ)
    → IsJudgedBelow s lib top o j x → 1 < count_by (λ m. m == n) (all_drivers x.flat.circuit) → HasNet (map (scope_of s.source) x.flat.scopes) n
twice_there s lib top o j x n is twice =
    net_below s lib top o j x.flat n is.below
    (is.named.twice n (subst (λ (c : Circuit). 1 < count_by (λ m. m == n) (all_drivers c)) is.circuit twice))

-- and its name tells of it
pub twice_told : (s : CutSource) (lib : Library) (top : Module) (o : LinkOptions) (j : FlatNetlist) (x : JudgedCircuit) (name : List ℕ) (n : ℕ)
    → IsJudgedBelow s lib top o j x → 1 < count_by (λ m. m == n) (all_drivers x.flat.circuit)
    → Contains (flat_map scope_names (map (scope_of s.source) x.flat.scopes)) (name, n)
    → IsDriverCause (flat_of s.source lib top) x.flat.circuit x.cells (fault.ManyDrivers name)
twice_told s lib top o j x name n is twice named = inl (n, name_below s lib top o j x.flat name n is.below named, twice)

nets_below : (s : Source) (lib : Library) (top : Module) (clock : Option (List ℕ)) (k : Circuit) → k ≡ circuit_of s lib top clock
    → k.nets ≡ (flat_of s lib top).count
unfolding circuit_of
nets_below s lib top clock k is = ap (λ (c : Circuit). c.nets) is

-- the pins of the cells that the items are stand on nets of instances
all_seen : (s : CutSource) (lib : Library) (top : Module) (clock : Option (List ℕ)) (c : FlatCircuit) → IsFlatCircuit s.source lib top clock c
    → All (IsFitItem s.source) s.items → AreSeen (flat_of s.source lib top).scopes (cut_cells s.items (flat_of s.source lib top).scopes)
all_seen s lib top clock c is fits =
    cells_seen s.source c.scopes (flat_of s.source lib top).scopes s.items is.below.scopes is.below.are_scopes fits

-- and so on nets of the circuit
all_below : (s : CutSource) (lib : Library) (place : ℕ) (clock : Option (List ℕ)) (c : FlatCircuit) → IsLawful s.source → place < length s.source.modules
    → IsFlatCircuit s.source lib (module_at s.source place) clock c → All (IsFitItem s.source) s.items
    → AreCellsBelow c.circuit.nets (cut_cells s.items (flat_of s.source lib (module_at s.source place)).scopes)
all_below s lib place clock c lawful lt is fits =
    let top = module_at s.source place in
    let flat = flat_of s.source lib top in
    let cells = cut_cells s.items flat.scopes in
    subst (λ (n : ℕ). AreCellsBelow n cells) (sym (nets_below s.source lib top clock c.circuit is.below.circuit))
    (cells_below flat.count flat.scopes cells (flat_within s.source lib top lawful (top_lawful s.source place lawful lt))
    (all_seen s lib top clock c is fits))

-- a pin of a cell that drives what the circuit drives stands on a net of an instance
pub pin_there : (s : CutSource) (lib : Library) (top : Module) (o : LinkOptions) (j : FlatNetlist) (x : JudgedCircuit) (at : PinPlace) (y : CutCell)
    (p : CutPin) → IsJudgedBelow s lib top o j x → IsDrivenPin x.flat.circuit x.cells (Some at) → slice_get x.cells at.cell ≡ Some y
    → slice_get y.pins at.pin ≡ Some p → HasNet (map (scope_of s.source) x.flat.scopes) p.net
pin_there s lib top o j x at y p is found at_y at_p =
    let (has, has_p, out, driven) = pin_is x.flat.circuit x.cells at y p found at_y at_p in
    net_below s lib top o j x.flat p.net is.below
    (is.named.driven y p (subst (λ (ys : List CutCell). Contains ys y) is.cells has) has_p out
    (subst (λ (c : Circuit). Contains (all_drivers c) p.net) is.circuit driven))

-- what is judged, and where it stands
pub record IsOfTop (s : CutSource) (lib : Library) (place : ℕ) (o : LinkOptions) (c : FlatCircuit) : Type 0 where
  pub source : IsLawful s.source
  pub library : IsLawfulLibrary lib.cells
  pub place_in : place < length s.source.modules
  pub circuit : IsFlatCircuit s.source lib (module_at s.source place) o.clock c
  pub items : All (IsFitItem s.source) s.items
  pub few : HasFewBits o.wide (module_at s.source place) o.clock

-- the cells that the items are, with what is found of the circuit
abbrev own_cells : CutSource → Library → ℕ → List CutCell
own_cells s lib place = cut_cells s.items (flat_of s.source lib (module_at s.source place)).scopes

pub cells_fit : (s : CutSource) (lib : Library) (place : ℕ) (o : LinkOptions) (c : FlatCircuit) (cells : List CutCell) → IsOfTop s lib place o c
    → cells ≡ own_cells s lib place → AreCellsBelow c.circuit.nets cells
cells_fit s lib place o c cells of these =
    subst (λ (xs : List CutCell). AreCellsBelow c.circuit.nets xs) (sym these)
    (all_below s lib place o.clock c of.source of.place_in of.circuit of.items)

-- a net that is read and not driven, and one that is driven twice, has a name
read_named : (s : CutSource) (lib : Library) (place : ℕ) (o o2 : LinkOptions) (j : FlatNetlist) (c x : FlatCircuit) (n : ℕ) → IsOfTop s lib place o c
    → IsLeftBelow s lib (module_at s.source place) o2 j x → Contains (all_reads x.circuit) n → (Contains (all_drivers x.circuit) n → ⊥)
    → HasNet (flat_of s.source lib (module_at s.source place)).scopes n
read_named s lib place o o2 j c x n of below read undriven =
    named_below s lib place o2 j x (circuit.Undriven n) (circuit.Undriven n) of.source of.library of.place_in below of.circuit.fine (read, undriven) refl

twice_named : (s : CutSource) (lib : Library) (place : ℕ) (o o2 : LinkOptions) (j : FlatNetlist) (c x : FlatCircuit) (n : ℕ) → IsOfTop s lib place o c
    → IsLeftBelow s lib (module_at s.source place) o2 j x → 1 < count_by (λ m. m == n) (all_drivers x.circuit)
    → HasNet (flat_of s.source lib (module_at s.source place)).scopes n
twice_named s lib place o o2 j c x n of below twice =
    named_below s lib place o2 j x (circuit.ManyDrivers n) (circuit.ManyDrivers n) of.source of.library of.place_in below of.circuit.fine twice refl

-- the items' cells stand on nets of instances
own_seen : (s : CutSource) (lib : Library) (place : ℕ) (o : LinkOptions) (c : FlatCircuit) (x : CutCell) (p : CutPin) → IsOfTop s lib place o c
    → In x (own_cells s lib place) → Contains x.pins p → HasNet (flat_of s.source lib (module_at s.source place)).scopes p.net
own_seen s lib place o c x p of has has_p =
    all_seen s lib (module_at s.source place) o.clock c of.circuit of.items x p has (In-from_Contains x.pins p has_p)

-- a further cell that is cut out, on a net that what is left drives too
off_seen : (s : CutSource) (lib : Library) (place : ℕ) (o : LinkOptions) (c : FlatCircuit) (even : List Bool) (x : CutCell) (p : CutPin)
    → IsOfTop s lib place o c
    → In x (flat_map off_cell (filter (is_leaf_off even) (leaves s.source lib (flat_of s.source lib (module_at s.source place))))) → Contains x.pins p
    → p.way ≡ way.Out → Contains (all_drivers (off_clock even (netlist_of s lib (module_at s.source place) o.clock)).circuit) p.net
    → HasNet (flat_of s.source lib (module_at s.source place)).scopes p.net
off_seen s lib place o c even x p of has has_p out driven =
    let top = module_at s.source place in
    let n = netlist_of s lib top o.clock in
    let alone : LinkOptions = record o { cut_clocks = false } in
    let parts = leaf_parts lib c.circuit.parts c.leaves n.found of.circuit.below.leaves in
    let here = subst (λ (k : Circuit). All (HasPart k.parts) n.found) of.circuit.below.circuit parts in
    let twice = off_twice even n x p here has (In-from_Contains x.pins p has_p) out driven in
    twice_named s lib place o alone n c c p.net of (left_below s lib top alone c refl of.circuit.below)
    (subst (λ (k : Circuit). 1 < count_by (λ m. m == p.net) (all_drivers k)) (sym of.circuit.below.circuit) twice)

-- a cell that is cut out of what is judged
driven_named : (s : CutSource) (lib : Library) (place : ℕ) (o : LinkOptions) (b : Bool) (c : FlatCircuit) (j : FlatNetlist) (y : CutCell) (p : CutPin)
    → IsOfTop s lib place o c → IsJudged b (netlist_of s lib (module_at s.source place) o.clock) j → In y j.cells → Contains y.pins p → p.way ≡ way.Out
    → Contains (all_drivers j.circuit) p.net → HasNet (flat_of s.source lib (module_at s.source place)).scopes p.net
driven_named s lib place o true c j y p of judged has has_p out driven =
    let n = netlist_of s lib (module_at s.source place) o.clock in
    let further = flat_map off_cell (filter (is_leaf_off judged.even) n.found) in
    let there : In y (n.cells ++ further) = subst (λ (k : FlatNetlist). In y k.cells) judged.is has in
    elim (In-cases y n.cells further there) [
      | inl own ↦ own_seen s lib place o c y p of own has_p
      | inr off ↦ off_seen s lib place o c judged.even y p of off has_p out
          (subst (λ (k : FlatNetlist). Contains (all_drivers k.circuit) p.net) judged.is driven)
    ]
driven_named s lib place o false c j y p of judged has has_p out driven =
    own_seen s lib place o c y p of (subst (λ (k : FlatNetlist). In y k.cells) judged.is has) has_p

clocked_named : (s : CutSource) (lib : Library) (place : ℕ) (o : LinkOptions) (b : Bool) (c : FlatCircuit) (j : FlatNetlist) (y : CutCell) (p : CutPin)
    → IsOfTop s lib place o c → IsJudged b (netlist_of s lib (module_at s.source place) o.clock) j → In y j.cells → y.clocked ≡ true
    → Contains y.pins p → HasNet (flat_of s.source lib (module_at s.source place)).scopes p.net
clocked_named s lib place o true c j y p of judged has on has_p =
    let n = netlist_of s lib (module_at s.source place) o.clock in
    let further = flat_map off_cell (filter (is_leaf_off judged.even) n.found) in
    let there : In y (n.cells ++ further) = subst (λ (k : FlatNetlist). In y k.cells) judged.is has in
    elim (In-cases y n.cells further there) [
      | inl own ↦ own_seen s lib place o c y p of own has_p
      | inr off ↦ absurd (off_quiet judged.even n.found y off on)
    ]
clocked_named s lib place o false c j y p of judged has on has_p =
    own_seen s lib place o c y p of (subst (λ (k : FlatNetlist). In y k.cells) judged.is has) has_p

-- what a refusal of the judged netlist speaks of has a name
named_as : (s : CutSource) (lib : Library) (place : ℕ) (o : LinkOptions) (b : Bool) (c x : FlatCircuit) (j : FlatNetlist) → IsOfTop s lib place o c
    → IsLeftBelow s lib (module_at s.source place) o j x → x.circuit ≡ j.circuit
    → IsJudged b (netlist_of s lib (module_at s.source place) o.clock) j
    → IsNamed (flat_of s.source lib (module_at s.source place)).scopes j.circuit j.cells
named_as s lib place o b c x j of below same judged =
    let scopes = (flat_of s.source lib (module_at s.source place)).scopes in
    subst (λ (k : Circuit). IsNamed scopes k j.cells) same (record {
      undriven = λ n read undriven. read_named s lib place o o j c x n of below read undriven;
      twice = λ n twice. twice_named s lib place o o j c x n of below twice;
      driven = λ y p has has_p out driven.
          driven_named s lib place o b c j y p of judged (In-from_Contains j.cells y has) has_p out
          (subst (λ (k : Circuit). Contains (all_drivers k) p.net) same driven);
      clocked = λ y p has on has_p. clocked_named s lib place o b c j y p of judged (In-from_Contains j.cells y has) on has_p;
    })

-- the circuit is judged, with the cells that are cut out of it
judged_below : (s : CutSource) (lib : Library) (place : ℕ) (o : LinkOptions) (c : FlatCircuit) (j : FlatNetlist) (x : JudgedCircuit)
    → IsOfTop s lib place o c → IsLeftBelow s lib (module_at s.source place) o j x.flat
    → ((i : FlatNetlist) → IsJudged o.cut_clocks (netlist_of s lib (module_at s.source place) o.clock) i → i ≡ j)
    → x.flat.circuit ≡ j.circuit → x.cells ≡ j.cells → IsLawfulCircuit x.flat.circuit → AreCellsBelow x.flat.circuit.nets x.cells
    → IsJudgedBelow s lib (module_at s.source place) o j x
judged_below s lib place o c j x of below sole circuit_is cells_are lawful nets =
    let top = module_at s.source place in
    let n = netlist_of s lib top o.clock in
    record {
      below = below;
      sole = sole;
      circuit = circuit_is;
      cells = cells_are;
      lawful = subst (λ (k : Circuit). IsLawfulCircuit k) circuit_is lawful;
      nets = subst (λ (xs : List CutCell). AreCellsBelow j.circuit.nets xs) cells_are
          (subst (λ (k : Circuit). AreCellsBelow k.nets x.cells) circuit_is nets);
      named = named_as s lib place o o.cut_clocks c x.flat j of below circuit_is below.judged;
      fine = of.circuit.fine;
      apart = of.circuit.apart;
      own = judged_own o.cut_clocks n j below.judged (flat_own s lib top o.clock);
      few = (let inputs = of.few.inputs in
          omega (arith, inputs, inputs_of s.source lib o top, ap (λ (ns : List ℕ). length ns) (judged_inputs o.cut_clocks n j below.judged)));
    }

-- with no clock of several the whole circuit is
pub whole_below : (s : CutSource) (lib : Library) (place : ℕ) (o : LinkOptions) (c : FlatCircuit) (cells : List CutCell) → IsOfTop s lib place o c
    → cells ≡ own_cells s lib place → o.cut_clocks ≡ false
    → IsJudgedBelow s lib (module_at s.source place) o (netlist_of s lib (module_at s.source place) o.clock) (record { flat = c; cells = cells })
whole_below s lib place o c cells of these alone =
    let top = module_at s.source place in
    let n = netlist_of s lib top o.clock in
    judged_below s lib place o c n (record { flat = c; cells = cells }) of (left_below s lib top o c alone of.circuit.below)
    (λ i judged. only_whole o.cut_clocks n i alone judged) of.circuit.below.circuit these
    (lawful_below s.source lib place o.clock c of.source of.library of.place_in of.circuit) (cells_fit s lib place o c cells of these)

-- the flat netlist with its cells
pub whole_netlist : (s : CutSource) (lib : Library) (place : ℕ) (o : LinkOptions) (c : FlatCircuit) (cells : List CutCell)
    → IsFlatCircuit s.source lib (module_at s.source place) o.clock c → cells ≡ own_cells s lib place
    → IsNetlist lib (as_cut (record { flat = c; cells = cells })) (netlist_of s lib (module_at s.source place) o.clock)
whole_netlist s lib place o c cells is these = record { circuit = sym is.below.circuit; leaves = is.below.leaves; cells = sym these }

-- with one clock of several what is left on it is
pub clock_below : (s : CutSource) (lib : Library) (place : ℕ) (o : LinkOptions) (c : FlatCircuit) (x : JudgedCircuit) → IsOfTop s lib place o c
    → o.cut_clocks ≡ true → (r : IsJudgedNetlist lib (netlist_of s lib (module_at s.source place) o.clock) (as_cut x)) → x.flat.scopes ≡ c.scopes
    → IsLawfulCircuit x.flat.circuit → AreCellsBelow x.flat.circuit.nets x.cells
    → ((b : Bool) (n i k : FlatNetlist) → IsJudged b n i → IsJudged b n k → i ≡ k) → IsJudgedBelow s lib (module_at s.source place) o r.netlist x
clock_below s lib place o c x of several r scopes lawful nets same =
    let top = module_at s.source place in
    let n = netlist_of s lib top o.clock in
    let j = r.netlist in
    let circuit_is = sym r.is.circuit in
    let judged : IsJudged o.cut_clocks n j = subst (λ (b : Bool). IsJudged b n j) (sym several) r.judged in
    judged_below s lib place o c j x of (record {
      judged = judged;
      extended = nothing_more (flat_of s.source lib top).scopes j.circuit x.flat.circuit circuit_is;
      scopes = ap (λ (gs : List Instance). map (scope_of s.source) gs) scopes ∙ of.circuit.below.scopes;
      are_scopes = subst (λ (gs : List Instance). AreScopes s.source gs) (sym scopes) of.circuit.below.are_scopes;
      leaves = r.is.leaves;
    }) (λ i is. same o.cut_clocks n i j is judged) circuit_is (sym r.is.cells) lawful nets
