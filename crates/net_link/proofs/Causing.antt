-- The causes of refusals, and none of them where there is a design.
use Rattle.std.proofs.Common.{◌≡◌, ◌≢◌, ℕ, ◌+◌, ◌<◌, ◌≤◌, Bool, true, false, List, [], ◌∷◌, ◌++◌, length, map, Some, None, refl, ap}
use Rattle.std.proofs.Common.{subst, sym, ◌∙◌, arith, inl, inr}
use Rattle.std.specs.Prelude.{Option, Contains, slice_get}
use Rattle.sdcv_base.specs.declared.limits.LimitName.{LimitName}
use Rattle.sdcv_base.specs.declared.limits.LimitName.TheVariants as what
use Rattle.net_model.proofs.Members.{In-left, In-cases, in_or, In-from_Contains, Contains-from_In}
use Rattle.icg_rewrite.specs.Faults.{IsFull}
use Rattle.icg_rewrite.specs.declared.clock_gates.Gated.{Gated}
use Rattle.netlist_types.specs.declared.sources.Source.{Source}
use Rattle.netlist_types.specs.declared.sources.Module.{Module}
use Rattle.netlist_types.specs.declared.sources.Conn.{Conn}
use Rattle.netlist_types.specs.declared.sources.Item.{Item}
use Rattle.netlist_types.specs.declared.sources.Item.TheVariants as item
use Rattle.netlist_types.specs.Lawful.{module_of}
use Rattle.cell_types.specs.declared.libraries.Library.{Library}
use Rattle.cell_types.specs.declared.libraries.Cell.{Cell}
use Rattle.link_design.specs.declared.faults.CircuitFault.TheVariants as circuit
use Rattle.link_design.specs.Faults.{IsFaultless as IsFaultlessCircuit}
use Rattle.link_design.specs.Faults as above
use Rattle.link_tops.specs.Clashes.{leaf_names, IsApart, IsClash}
use Rattle.link_defs.specs.declared.circuits.Circuit.{Circuit}
use Rattle.link_defs.specs.declared.cuts.CutSource.{CutSource}
use Rattle.link_defs.specs.Cuts.{IsCut}
use Rattle.link_defs.specs.Judged.{FlatNetlist, IsJudged, netlist_of}
use Rattle.link_defs.specs.declared.circuits.Part.{Part}
use Rattle.linked_types.specs.declared.faults.LinkFault.{LinkFault}
use Rattle.linked_types.specs.declared.faults.LinkFault.TheVariants as fault
use Rattle.linked_types.specs.declared.options.LinkOptions.{LinkOptions}
use Rattle.link_defs.specs.CellNames.{Leaf, leaves}
use Rattle.link_defs.specs.Circuits.{data_bits, input_bits, output_bits, all_drivers, all_reads}
use Rattle.link_defs.specs.Faults.{IsInstance, IsOfModule, IsOfCell, IsUnknownPin, IsOpenInput, HasManyDrivers, StandsTwice, bit_names, Clashes}
use Rattle.link_defs.specs.Faults.{most_pins, HasManyPins, IsWidePrim, is_counted, IsAboveLimit, IsBadSetting, IsFlatCause, IsCutCause, IsJudgedCause}
use Rattle.link_defs.specs.Faults.{IsCauseBelow, IsCause}
use Rattle.link_defs.specs.Faults.{IsFaultless, most_inputs}
use Rattle.link_defs.specs.Faults as link
use Rattle.link_defs.specs.Flatten.{Located, Flat, flat_of, full_names}
use Rattle.link_defs.specs.Hierarchy.{cell_of, tops}
use Rattle.link_items.specs.declared.made.LeafPlace.{LeafPlace}
use Rattle.link_items.specs.Faults.{IsInstFault, IsItemFault, IsFaultless as IsFaultlessItem}
use Rattle.link_items.specs.Items.{AreLeavesAt}
use Rattle.link_circuit.specs.Flats.{AreFine, IsUnrecursive, IsCauseIn}
use Rattle.net_link.specs.Limits.{IsBitCause}
use Rattle.net_link.specs.Ports.{IsPortCause}
use Rattle.link_tops.specs.Tops.{IsTopCause}
use Rattle.link_design.proofs.Parted.{all_in}
use Rattle.net_link.specs.Nets.{IsOfTwoNets, IsNetCause}
use Rattle.net_link.specs.Stages.{IsEnableCause}
use Rattle.net_link.proofs.Rooms.{IsRoomy}
use Rattle.net_link.proofs.Remaining.{inputs_left, outputs_left, inputs_of, outputs_of}

-- a netlist that may be judged below a module, and a circuit that may be left of it
abbrev pub IsJudgedOf : CutSource → Library → LinkOptions → Module → FlatNetlist → Type 0
IsJudgedOf s lib o top j = IsJudged o.cut_clocks (netlist_of s lib top o.clock) j

-- a cause in each netlist that may be judged is one below the module
pub sole_cause : (s : CutSource) (lib : Library) (o : LinkOptions) (top : Module) (j : FlatNetlist) (e : LinkFault)
    → ((i : FlatNetlist) → IsJudgedOf s lib o top i → i ≡ j) → IsJudgedCause s lib o top j e → IsCauseBelow s lib o top e
sole_cause s lib o top j e sole cause = λ i is. subst (λ (x : FlatNetlist). IsJudgedCause s lib o top x e) (sym (sole i is)) cause

-- it is one of the source, where it is one in each circuit that may be left of each of them
pub cause_of : (s : CutSource) (lib : Library) (o : LinkOptions) (top : Module) (found : List Leaf) (k : Circuit) (e : LinkFault) → tops s.source ≡ top ∷ []
    → IsFlatCause s.source lib o top (flat_of s.source lib top) found k e
    → ((j : FlatNetlist) (i : Circuit) → IsJudgedOf s lib o top j → IsCut j.circuit j.cells i
    → IsFlatCause s.source lib o top (flat_of s.source lib top) j.found i e) → IsCause s lib o e
cause_of s lib o top found k (fault.UnknownCell n) one here each = (top, one, λ j is. inl (λ i cut. each j i is cut))
cause_of s lib o top found k (fault.UnsupportedCell n) one here each = (top, one, λ j is. inl (λ i cut. each j i is cut))
cause_of s lib o top found k (fault.UnknownPin n) one here each = (top, one, λ j is. inl (λ i cut. each j i is cut))
cause_of s lib o top found k (fault.OpenInput n) one here each = (top, one, λ j is. inl (λ i cut. each j i is cut))
cause_of s lib o top found k (fault.Undriven n) one here each = (top, one, λ j is. inl (λ i cut. each j i is cut))
cause_of s lib o top found k (fault.ManyDrivers n) one here each = (top, one, λ j is. inl (λ i cut. each j i is cut))
cause_of s lib o top found k (fault.Loop n) one here each = (top, one, λ j is. inl (λ i cut. each j i is cut))
cause_of s lib o top found k (fault.NotTheClock n) one here each = (top, one, λ j is. inl (λ i cut. each j i is cut))
cause_of s lib o top found k (fault.ClockAsData n) one here each = (top, one, λ j is. inl (λ i cut. each j i is cut))
cause_of s lib o top found k (fault.Recursive n) one here each = here
cause_of s lib o top found k (fault.NameClash n) one here each = (top, one, λ j is. inl (λ i cut. each j i is cut))
cause_of s lib o top found k (fault.NoTop n) one here each = absurd here
cause_of s lib o top found k (fault.Limit x n) one here each = (top, one, λ j is. inl (λ i cut. each j i is cut))
cause_of s lib o top found k (fault.BadSetting n) one here each = (top, one, λ j is. inl (λ i cut. each j i is cut))
cause_of s lib o top found k fault.Memory one here each = tt

-- so is one of the cells that are cut out
pub cut_cause : (s : CutSource) (lib : Library) (o : LinkOptions) (top : Module) (j : FlatNetlist) (e : LinkFault) → tops s.source ≡ top ∷ []
    → ((i : FlatNetlist) → IsJudgedOf s lib o top i → i ≡ j) → IsCutCause (flat_of s.source lib top) j.found j.circuit j.cells e → IsCause s lib o e
cut_cause s lib o top j (fault.UnknownCell n) one sole cause = absurd cause
cut_cause s lib o top j (fault.UnsupportedCell n) one sole cause = absurd cause
cut_cause s lib o top j (fault.UnknownPin n) one sole cause = (top, one, sole_cause s lib o top j (fault.UnknownPin n) sole (inr cause))
cut_cause s lib o top j (fault.OpenInput n) one sole cause = absurd cause
cut_cause s lib o top j (fault.Undriven n) one sole cause = absurd cause
cut_cause s lib o top j (fault.ManyDrivers n) one sole cause = (top, one, sole_cause s lib o top j (fault.ManyDrivers n) sole (inr cause))
cut_cause s lib o top j (fault.Loop n) one sole cause = absurd cause
cut_cause s lib o top j (fault.NotTheClock n) one sole cause = absurd cause
cut_cause s lib o top j (fault.ClockAsData n) one sole cause = absurd cause
cut_cause s lib o top j (fault.Recursive n) one sole cause = absurd cause
cut_cause s lib o top j (fault.NameClash n) one sole cause = (top, one, sole_cause s lib o top j (fault.NameClash n) sole (inr cause))
cut_cause s lib o top j (fault.NoTop n) one sole cause = absurd cause
cut_cause s lib o top j (fault.Limit x n) one sole cause = absurd cause
cut_cause s lib o top j (fault.BadSetting n) one sole cause = absurd cause
cut_cause s lib o top j fault.Memory one sole cause = absurd cause

-- why there is no top module
pub top_cause : (s : CutSource) (lib : Library) (o : LinkOptions) (e : LinkFault) → IsTopCause s.source e → IsCause s lib o e
top_cause s lib o (fault.UnknownCell n) cause = absurd cause
top_cause s lib o (fault.UnsupportedCell n) cause = absurd cause
top_cause s lib o (fault.UnknownPin n) cause = absurd cause
top_cause s lib o (fault.OpenInput n) cause = absurd cause
top_cause s lib o (fault.Undriven n) cause = absurd cause
top_cause s lib o (fault.ManyDrivers n) cause = absurd cause
top_cause s lib o (fault.Loop n) cause = absurd cause
top_cause s lib o (fault.NotTheClock n) cause = absurd cause
top_cause s lib o (fault.ClockAsData n) cause = absurd cause
top_cause s lib o (fault.Recursive n) cause = absurd cause
top_cause s lib o (fault.NameClash n) cause = absurd cause
top_cause s lib o (fault.NoTop n) cause = cause
top_cause s lib o (fault.Limit k n) cause = absurd cause
top_cause s lib o (fault.BadSetting n) cause = absurd cause
top_cause s lib o fault.Memory cause = tt

-- why ports and settings are refused
pub port_cause : (s : CutSource) (lib : Library) (o : LinkOptions) (top : Module) (e : LinkFault) → tops s.source ≡ top ∷ [] → IsPortCause top o e
    → IsCause s lib o e
port_cause s lib o top (fault.UnknownCell n) one cause = absurd cause
port_cause s lib o top (fault.UnsupportedCell n) one cause = absurd cause
port_cause s lib o top (fault.UnknownPin n) one cause = absurd cause
port_cause s lib o top (fault.OpenInput n) one cause = absurd cause
port_cause s lib o top (fault.Undriven n) one cause = absurd cause
port_cause s lib o top (fault.ManyDrivers n) one cause = absurd cause
port_cause s lib o top (fault.Loop n) one cause = absurd cause
port_cause s lib o top (fault.NotTheClock n) one cause = absurd cause
port_cause s lib o top (fault.ClockAsData n) one cause = absurd cause
port_cause s lib o top (fault.Recursive n) one cause = absurd cause
port_cause s lib o top (fault.NameClash n) one cause = (top, one, λ j is. inl (λ i cut. link.Ports cause))
port_cause s lib o top (fault.NoTop n) one cause = absurd cause
port_cause s lib o top (fault.Limit k n) one cause = absurd cause
port_cause s lib o top (fault.BadSetting n) one cause = (top, one, λ j is. inl (λ i cut. cause))
port_cause s lib o top fault.Memory one cause = tt

number_is : (wide : Bool) (s : Source) (lib : Library) (flat : Flat) (c : Circuit) (k : LimitName) (most n : ℕ) → n ≡ most
    → IsAboveLimit wide s lib flat c k most → IsAboveLimit wide s lib flat c k n
number_is wide s lib flat c k most n is above = subst (IsAboveLimit wide s lib flat c k) (sym is) above

-- what is judged of a netlist has its ports
pub judged_inputs : (b : Bool) (n j : FlatNetlist) → IsJudged b n j → j.circuit.inputs ≡ n.circuit.inputs
judged_inputs true n j is = ap (λ (x : FlatNetlist). x.circuit.inputs) is.is
judged_inputs false n j is = ap (λ (x : FlatNetlist). x.circuit.inputs) is.is

pub judged_outputs : (b : Bool) (n j : FlatNetlist) → IsJudged b n j → j.circuit.outputs ≡ n.circuit.outputs
judged_outputs true n j is = ap (λ (x : FlatNetlist). x.circuit.outputs) is.is
judged_outputs false n j is = ap (λ (x : FlatNetlist). x.circuit.outputs) is.is

-- the ports alone are too many, whatever is cut out
many_inputs : (s : CutSource) (lib : Library) (o : LinkOptions) (top : Module) (j : FlatNetlist) (i : Circuit) → IsJudgedOf s lib o top j
    → IsCut j.circuit j.cells i → most_inputs o.wide < length (data_bits o.clock top) → most_inputs o.wide < length i.inputs
many_inputs s lib o top j i is cut more =
    omega (
      arith,
      more,
      inputs_of s.source lib o top,
      ap (λ (ns : List ℕ). length ns) (judged_inputs o.cut_clocks (netlist_of s lib top o.clock) j is),
      inputs_left j.circuit cut.tree j.cells,
      ap (λ (x : Circuit). length x.inputs) cut.is,
    )

many_outputs : (s : CutSource) (lib : Library) (o : LinkOptions) (top : Module) (j : FlatNetlist) (i : Circuit) → IsJudgedOf s lib o top j
    → IsCut j.circuit j.cells i → 20000 < length (output_bits top) → 20000 < length i.outputs
many_outputs s lib o top j i is cut more =
    omega (
      arith,
      more,
      outputs_of s.source lib o top,
      ap (λ (ns : List ℕ). length ns) (judged_outputs o.cut_clocks (netlist_of s lib top o.clock) j is),
      outputs_left j.circuit cut.tree j.cells,
      ap (λ (x : Circuit). length x.outputs) cut.is,
    )

-- why bits of ports are too many
pub bit_cause : (s : CutSource) (lib : Library) (o : LinkOptions) (top : Module) (e : LinkFault) → tops s.source ≡ top ∷ []
    → IsBitCause o.wide top o.clock e → IsCause s lib o e
bit_cause s lib o top (fault.UnknownCell n) one cause = absurd cause
bit_cause s lib o top (fault.UnsupportedCell n) one cause = absurd cause
bit_cause s lib o top (fault.UnknownPin n) one cause = absurd cause
bit_cause s lib o top (fault.OpenInput n) one cause = absurd cause
bit_cause s lib o top (fault.Undriven n) one cause = absurd cause
bit_cause s lib o top (fault.ManyDrivers n) one cause = absurd cause
bit_cause s lib o top (fault.Loop n) one cause = absurd cause
bit_cause s lib o top (fault.NotTheClock n) one cause = absurd cause
bit_cause s lib o top (fault.ClockAsData n) one cause = absurd cause
bit_cause s lib o top (fault.Recursive n) one cause = absurd cause
bit_cause s lib o top (fault.NameClash n) one cause = absurd cause
bit_cause s lib o top (fault.NoTop n) one cause = absurd cause
bit_cause s lib o top (fault.Limit what.Inputs n) one (is, more) = (
  top,
  one,
  λ j judged.
      inl (λ i cut.
      number_is o.wide s.source lib (flat_of s.source lib top) i what.Inputs (most_inputs o.wide + 1) n is
      (link.Inputs (many_inputs s lib o top j i judged cut more))),
)
bit_cause s lib o top (fault.Limit what.Outputs n) one (is, more) = (
  top,
  one,
  λ j judged.
      inl (λ i cut.
      number_is o.wide s.source lib (flat_of s.source lib top) i what.Outputs 20001 n is (link.Outputs (many_outputs s lib o top j i judged cut more))),
)
bit_cause s lib o top (fault.Limit what.Nets n) one cause = absurd cause
bit_cause s lib o top (fault.Limit what.Registers n) one cause = absurd cause
bit_cause s lib o top (fault.Limit what.Instances n) one cause = absurd cause
bit_cause s lib o top (fault.Limit what.Pins n) one cause = absurd cause
bit_cause s lib o top (fault.Limit what.Through n) one cause = absurd cause
bit_cause s lib o top (fault.Limit what.Pairs n) one cause = absurd cause
bit_cause s lib o top (fault.Limit what.Judged n) one cause = absurd cause
bit_cause s lib o top (fault.Limit what.Hierarchy n) one cause = absurd cause
bit_cause s lib o top (fault.BadSetting n) one cause = absurd cause
bit_cause s lib o top fault.Memory one cause = tt

-- why names of nets are refused
pub net_cause : (s : Source) (lib : Library) (o : LinkOptions) (top : Module) (flat : Flat) (found : List Leaf) (c : Circuit)
    (pairs : List (List ℕ × ℕ)) (e : LinkFault) → full_names flat ≡ pairs → IsNetCause pairs c e → IsFlatCause s lib o top flat found c e
net_cause s lib o top flat found c pairs (fault.UnknownCell n) is cause = absurd cause
net_cause s lib o top flat found c pairs (fault.UnsupportedCell n) is cause = absurd cause
net_cause s lib o top flat found c pairs (fault.UnknownPin n) is cause = absurd cause
net_cause s lib o top flat found c pairs (fault.OpenInput n) is cause = absurd cause
net_cause s lib o top flat found c pairs (fault.Undriven n) is cause = absurd cause
net_cause s lib o top flat found c pairs (fault.ManyDrivers n) is cause = absurd cause
net_cause s lib o top flat found c pairs (fault.Loop n) is cause = absurd cause
net_cause s lib o top flat found c pairs (fault.NotTheClock n) is cause = absurd cause
net_cause s lib o top flat found c pairs (fault.ClockAsData n) is cause = absurd cause
net_cause s lib o top flat found c pairs (fault.Recursive n) is cause = absurd cause
net_cause s lib o top flat found c pairs (fault.NameClash name) is (n, m, differ, has_n, has_m, n_driven, m_driven) =
    let back = sym is in
    let driven = λ (k : ℕ) (has : Contains (all_drivers c) k). Contains-from_In (all_drivers c ++ all_reads c) k
    (In-left k (all_drivers c) (all_reads c) (In-from_Contains (all_drivers c) k has)) in
    link.Nets n m differ (subst (λ (ps : List (List ℕ × ℕ)). Contains ps (name, n)) back has_n)
    (subst (λ (ps : List (List ℕ × ℕ)). Contains ps (name, m)) back has_m) (driven n n_driven) (driven m m_driven)
net_cause s lib o top flat found c pairs (fault.NoTop n) is cause = absurd cause
net_cause s lib o top flat found c pairs (fault.Limit k n) is cause = absurd cause
net_cause s lib o top flat found c pairs (fault.BadSetting n) is cause = absurd cause
net_cause s lib o top flat found c pairs fault.Memory is cause = tt

-- a limit that the enables break
limit_cause : (wide : Bool) (s : Source) (lib : Library) (flat : Flat) (c : Circuit) (g : Gated) (k : LimitName) (n : ℕ)
    → ((r : ℕ) → IsFull g r → IsAboveLimit wide s lib flat c what.Pins 6)
    → (200000 < g.design.nets + length g.gates → IsAboveLimit wide s lib flat c what.Nets 200001) → IsEnableCause g (fault.Limit k n)
    → IsAboveLimit wide s lib flat c k n
limit_cause wide s lib flat c g what.Nets n pins nets cause = rw cause.0 (nets cause.1)
limit_cause wide s lib flat c g what.Registers n pins nets cause = absurd cause
limit_cause wide s lib flat c g what.Inputs n pins nets cause = absurd cause
limit_cause wide s lib flat c g what.Outputs n pins nets cause = absurd cause
limit_cause wide s lib flat c g what.Instances n pins nets cause = absurd cause
limit_cause wide s lib flat c g what.Pins n pins nets cause = rw cause.0 (pins cause.1.0 cause.1.1)
limit_cause wide s lib flat c g what.Through n pins nets cause = absurd cause
limit_cause wide s lib flat c g what.Pairs n pins nets cause = absurd cause
limit_cause wide s lib flat c g what.Judged n pins nets cause = absurd cause
limit_cause wide s lib flat c g what.Hierarchy n pins nets cause = absurd cause

-- why there is no room for enables
pub enable_cause : (s : Source) (lib : Library) (o : LinkOptions) (top : Module) (flat : Flat) (found : List Leaf) (c : Circuit) (g : Gated) (e : LinkFault)
    → ((r : ℕ) → IsFull g r → IsAboveLimit o.wide s lib flat c what.Pins 6)
    → (200000 < g.design.nets + length g.gates → IsAboveLimit o.wide s lib flat c what.Nets 200001) → IsEnableCause g e
    → IsFlatCause s lib o top flat found c e
enable_cause s lib o top flat found c g (fault.UnknownCell n) pins nets cause = absurd cause
enable_cause s lib o top flat found c g (fault.UnsupportedCell n) pins nets cause = absurd cause
enable_cause s lib o top flat found c g (fault.UnknownPin n) pins nets cause = absurd cause
enable_cause s lib o top flat found c g (fault.OpenInput n) pins nets cause = absurd cause
enable_cause s lib o top flat found c g (fault.Undriven n) pins nets cause = absurd cause
enable_cause s lib o top flat found c g (fault.ManyDrivers n) pins nets cause = absurd cause
enable_cause s lib o top flat found c g (fault.Loop n) pins nets cause = absurd cause
enable_cause s lib o top flat found c g (fault.NotTheClock n) pins nets cause = absurd cause
enable_cause s lib o top flat found c g (fault.ClockAsData n) pins nets cause = absurd cause
enable_cause s lib o top flat found c g (fault.Recursive n) pins nets cause = absurd cause
enable_cause s lib o top flat found c g (fault.NameClash n) pins nets cause = absurd cause
enable_cause s lib o top flat found c g (fault.NoTop n) pins nets cause = absurd cause
enable_cause s lib o top flat found c g (fault.Limit k n) pins nets cause = limit_cause o.wide s lib flat c g k n pins nets cause
enable_cause s lib o top flat found c g (fault.BadSetting n) pins nets cause = absurd cause
enable_cause s lib o top flat found c g fault.Memory pins nets cause = tt

-- the names of leaves, by their places
pub names_of_leaves : (lib : Library) (parts : List Part) (places : List LeafPlace) (ls : List Leaf) → AreLeavesAt lib parts places ls
    → leaf_names places ≡ map (λ (l : Leaf). l.name) ls
names_of_leaves lib parts [] [] all = refl
names_of_leaves lib parts [] (y ∷ ys) all = absurd all
names_of_leaves lib parts (x ∷ xs) [] all = absurd all
names_of_leaves lib parts (x ∷ xs) (y ∷ ys) all =
    ap (λ (n : List ℕ). n ∷ leaf_names xs) all.0.name ∙ ap (λ (ns : List (List ℕ)). y.name ∷ ns) (names_of_leaves lib parts xs ys all.1)

-- why names of leaves are refused
pub leaf_cause : (s : Source) (lib : Library) (flat : Flat) (names : List (List ℕ)) (e : LinkFault) → names ≡ map (λ (l : Leaf). l.name) (leaves s lib flat)
    → IsClash names e → IsCauseIn s lib flat e
leaf_cause s lib flat names (fault.UnknownCell n) is cause = absurd cause
leaf_cause s lib flat names (fault.UnsupportedCell n) is cause = absurd cause
leaf_cause s lib flat names (fault.UnknownPin n) is cause = absurd cause
leaf_cause s lib flat names (fault.OpenInput n) is cause = absurd cause
leaf_cause s lib flat names (fault.Undriven n) is cause = absurd cause
leaf_cause s lib flat names (fault.ManyDrivers n) is cause = absurd cause
leaf_cause s lib flat names (fault.Loop n) is cause = absurd cause
leaf_cause s lib flat names (fault.NotTheClock n) is cause = absurd cause
leaf_cause s lib flat names (fault.ClockAsData n) is cause = absurd cause
leaf_cause s lib flat names (fault.Recursive n) is cause = absurd cause
leaf_cause s lib flat names (fault.NameClash n) is cause = λ o top found c. link.Cells (subst (λ (ns : List (List ℕ)). StandsTwice ns n) is cause)
leaf_cause s lib flat names (fault.NoTop n) is cause = absurd cause
leaf_cause s lib flat names (fault.Limit k n) is cause = absurd cause
leaf_cause s lib flat names (fault.BadSetting n) is cause = absurd cause
leaf_cause s lib flat names fault.Memory is cause = λ o top found c. tt

-- all that the stages found to be so
pub record IsFree (s : Source) (lib : Library) (o : LinkOptions) (top : Module) (flat : Flat) (found : List Leaf) (c : Circuit) : Type 0 where
  pub fine : AreFine s lib flat
  pub unrecursive : IsUnrecursive s
  pub circuit : IsFaultlessCircuit c
  pub room : IsRoomy c
  pub places : (l : Leaf) → Contains found l → (place : ℕ) × (slice_get c.parts place ≡ Some l.part)
  pub cells : IsApart (map (λ (l : Leaf). l.name) (leaves s lib flat))
  pub ports : IsApart (bit_names (input_bits top ++ output_bits top))
  pub nets : (name : List ℕ) → IsOfTwoNets (full_names flat) c name → ⊥
  pub settings : (name : List ℕ) → IsBadSetting top o name → ⊥
  pub few : length c.inputs ≤ most_inputs o.wide

-- an item of an instance has none of its faults
item_free : (s : Source) (lib : Library) (flat : Flat) (cell full : List ℕ) (conns : List Conn) (e : LinkFault) → AreFine s lib flat → e ≢ fault.Memory
    → IsInstance flat cell full conns → IsInstFault (module_of s cell) (cell_of lib cell) cell full conns e → ⊥
item_free s lib flat cell full conns e fine some i bad =
    let free = all_in (λ (a : Located). IsFaultlessItem s lib a.scope a.item) flat.items fine.items i.at (In-from_Contains flat.items i.at i.stands) in
    free e some (subst (λ (x : Item). IsItemFault s lib i.at.scope x e) (sym i.item_is)
    (subst (λ (f : List ℕ). IsInstFault (module_of s cell) (cell_of lib cell) cell f conns e) i.full_is bad))

module_free : (s : Source) (lib : Library) (flat : Flat) (m : Module) (full : List ℕ) (conns : List Conn) (e : LinkFault) → AreFine s lib flat
    → e ≢ fault.Memory → IsOfModule s flat m full conns → ((owned : Option Cell) (cell : List ℕ) → IsInstFault (Some m) owned cell full conns e) → ⊥
module_free s lib flat m full conns e fine some (cell, i, is) bad =
    item_free s lib flat cell full conns e fine some i
    (subst (λ (found : Option Module). IsInstFault found (cell_of lib cell) cell full conns e) (sym is) (bad (cell_of lib cell) cell))

cell_free : (s : Source) (lib : Library) (flat : Flat) (c : Cell) (full : List ℕ) (conns : List Conn) (e : LinkFault) → AreFine s lib flat
    → e ≢ fault.Memory → IsOfCell s lib flat c full conns → ((cell : List ℕ) → IsInstFault None (Some c) cell full conns e) → ⊥
cell_free s lib flat c full conns e fine some (cell, i, none, is) bad =
    item_free s lib flat cell full conns e fine some i
    (subst (λ (found : Option Module). IsInstFault found (cell_of lib cell) cell full conns e) (sym none)
    (subst (λ (owned : Option Cell). IsInstFault None owned cell full conns e) (sym is) (bad cell)))

unknown_pin : (s : Source) (lib : Library) (flat : Flat) (name : List ℕ) → AreFine s lib flat → IsUnknownPin s lib flat name → ⊥
unknown_pin s lib flat name fine (link.Of_module m full conns c of has none) =
    module_free s lib flat m full conns (fault.UnknownPin name) fine (λ e. cc) of (λ owned cell. (c, has, none, refl))
unknown_pin s lib flat name fine (link.Of_cell k full conns c of has none) =
    cell_free s lib flat k full conns (fault.UnknownPin name) fine (λ e. cc) of.0 (λ cell. (of.1, (c, has, none, refl)))

open_input : (s : Source) (lib : Library) (flat : Flat) (name : List ℕ) → AreFine s lib flat → IsOpenInput s lib flat name → ⊥
open_input s lib flat name fine (link.Port_open m full conns p bit net of has input bare first named) =
    module_free s lib flat m full conns (fault.OpenInput name) fine (λ e. cc) of (λ owned cell. (p, bit, net, has, input, bare, first, named, refl))
open_input s lib flat name fine (link.Pin_open k full pin conns of has bare) =
    cell_free s lib flat k full conns (fault.OpenInput name) fine (λ e. cc) of.0 (λ cell. (of.1, (pin, has, bare, refl)))

many_drivers : (s : Source) (lib : Library) (o : LinkOptions) (top : Module) (flat : Flat) (found : List Leaf) (c : Circuit) (name : List ℕ)
    → IsFree s lib o top flat found c
    → HasManyDrivers s lib flat c name → ⊥
many_drivers s lib o top flat found c name free (link.Twice n net has twice) = free.circuit (circuit.ManyDrivers net) (λ e. cc) twice
many_drivers s lib o top flat found c name free (link.Port_tied m full conns p bit of has output tied) =
    module_free s lib flat m full conns (fault.ManyDrivers name) free.fine (λ e. cc) of (λ owned cell. (p, bit, has, output, tied, refl))
many_drivers s lib o top flat found c name free (link.Pin_tied k full pin conns bit of has tied) =
    cell_free s lib flat k full conns (fault.ManyDrivers name) free.fine (λ e. cc) of.0 (λ cell. (of.1, (pin, bit, has, tied, refl)))

wide_item : (s : Source) (lib : Library) (flat : Flat) (at : Located) (x : Item) → AreFine s lib flat → Contains flat.items at → at.item ≡ x → IsWidePrim x → ⊥
wide_item s lib flat at (item.Inst cell name conns) fine has is wide = wide
wide_item s lib flat at (item.Prim k name outs ins) fine has is wide =
    let free = all_in (λ (a : Located). IsFaultlessItem s lib a.scope a.item) flat.items fine.items at (In-from_Contains flat.items at has) in
    let bad : IsItemFault s lib at.scope (item.Prim k name outs ins) (fault.Limit what.Pins 7) = (wide, refl) in
    free (fault.Limit what.Pins 7) (λ e. cc) (subst (λ (y : Item). IsItemFault s lib at.scope y (fault.Limit what.Pins 7)) (sym is) bad)
wide_item s lib flat at (item.Copy to from) fine has is wide = wide

many_pins : (s : Source) (lib : Library) (flat : Flat) (c : Circuit) (n : ℕ) → AreFine s lib flat → IsRoomy c → HasManyPins s lib flat c n → ⊥
many_pins s lib flat c n fine room (link.Of_cell k full conns of wide) =
    cell_free s lib flat k full conns (fault.Limit what.Pins (most_pins k.kind + 1)) fine (λ e. cc) of.0 (λ cell. (of.1, (wide, refl)))
many_pins s lib flat c n fine room (link.Of_prim at has wide) = wide_item s lib flat at at.item fine has refl wide
many_pins s lib flat c n fine room (link.Of_gated x gate has under wide) = room.pins x gate has under wide

above_limit : (s : Source) (lib : Library) (o : LinkOptions) (top : Module) (flat : Flat) (found : List Leaf) (c : Circuit) (k : LimitName) (n : ℕ)
    → IsFree s lib o top flat found c
    → IsAboveLimit o.wide s lib flat c k n → ⊥
above_limit s lib o top flat found c k n free (link.Nets tree is more) = omega (arith, more, free.room.nets tree is)
above_limit s lib o top flat found c k n free (link.Regs more) = free.circuit (circuit.Limit what.Registers 20001) (λ e. cc) (above.Regs more)
above_limit s lib o top flat found c k n free (link.Inputs more) = omega (arith, more, free.few)
above_limit s lib o top flat found c k n free (link.Outputs more) = free.circuit (circuit.Limit what.Outputs 20001) (λ e. cc) (above.Outputs more)
above_limit s lib o top flat found c k n free (link.Instances more) = let few = free.fine.few in omega (arith, more, few)
above_limit s lib o top flat found c k n free (link.Pins number many) = many_pins s lib flat c number free.fine free.room many
above_limit s lib o top flat found c k n free (link.Hierarchy at has counts deep) =
    let low : is_counted at ≡ true → at.scope.depth ≤ 256 =
    all_in (λ (a : Located). is_counted a ≡ true → a.scope.depth ≤ 256) flat.items free.fine.low at (In-from_Contains flat.items at has) in
    let within = low counts in omega (arith, within, deep)

-- a net that is read is driven, where no refusal of the circuit has its cause
read_driven : (c : Circuit) (n : ℕ) → IsFaultlessCircuit c → Contains (all_drivers c ++ all_reads c) n → Contains (all_drivers c) n
read_driven c n free has = elim (In-cases n (all_drivers c) (all_reads c) (In-from_Contains (all_drivers c ++ all_reads c) n has)) [
  | inl driven ↦ Contains-from_In (all_drivers c) n driven
  | inr read ↦ elim (in_or n (all_drivers c)) [
    | inl driven ↦ Contains-from_In (all_drivers c) n driven
    | inr not ↦
        absurd (free (circuit.Undriven n) (λ e. cc) (Contains-from_In (all_reads c) n read, λ there. not (In-from_Contains (all_drivers c) n there)))
  ]
]

name_clash : (s : Source) (lib : Library) (o : LinkOptions) (top : Module) (flat : Flat) (found : List Leaf) (c : Circuit) (name : List ℕ)
    → IsFree s lib o top flat found c
    → Clashes s lib flat top c name → ⊥
name_clash s lib o top flat found c name free (link.Cells twice) = free.cells name twice
name_clash s lib o top flat found c name free (link.Ports twice) = free.ports name twice
name_clash s lib o top flat found c name free (link.Nets n m differ has_n has_m n_used m_used) =
    free.nets name (n, m, differ, has_n, has_m, read_driven c n free.circuit n_used, read_driven c m free.circuit m_used)

-- no refusal of the flat netlist has its cause
flat_free : (s : Source) (lib : Library) (o : LinkOptions) (top : Module) (flat : Flat) (found : List Leaf) (c : Circuit) (f : LinkFault)
    → IsFree s lib o top flat found c → f ≢ fault.Memory → IsFlatCause s lib o top flat found c f → ⊥
flat_free s lib o top flat found c (fault.UnknownCell cell) free some (full, conns, i, none, nowhere) =
    item_free s lib flat cell full conns (fault.UnknownCell cell) free.fine (λ e. cc) i
    (subst (λ (found : Option Module). IsInstFault found (cell_of lib cell) cell full conns (fault.UnknownCell cell)) (sym none)
    (subst (λ (owned : Option Cell). IsInstFault None owned cell full conns (fault.UnknownCell cell)) (sym nowhere) refl))
flat_free s lib o top flat found c (fault.UnsupportedCell cell) free some (full, conns, k, of, named, other) =
    cell_free s lib flat k full conns (fault.UnsupportedCell cell) free.fine (λ e. cc) of (λ name. (sym named, other))
flat_free s lib o top flat found c (fault.UnknownPin n) free some cause = unknown_pin s lib flat n free.fine cause
flat_free s lib o top flat found c (fault.OpenInput n) free some cause = open_input s lib flat n free.fine cause
flat_free s lib o top flat found c (fault.Undriven n) free some (net, has, read, undriven) = free.circuit (circuit.Undriven net) (λ e. cc) (read, undriven)
flat_free s lib o top flat found c (fault.ManyDrivers n) free some cause = many_drivers s lib o top flat found c n free cause
flat_free s lib o top flat found c (fault.Loop n) free some (net, has, cycle) = free.circuit (circuit.Loop net) (λ e. cc) cycle
flat_free s lib o top flat found c (fault.NotTheClock n) free some (l, clock, has, named, on, off) =
    let (place, at) = free.places l has in free.circuit (circuit.NotTheClock place) (λ e. cc) (l.part, clock, at, on, off)
flat_free s lib o top flat found c (fault.ClockAsData n) free some (net, odd, has, read, on) = free.circuit (circuit.ClockAsData net) (λ e. cc) (odd, read, on)
flat_free s lib o top flat found c (fault.Recursive n) free some cause = free.unrecursive n cause
flat_free s lib o top flat found c (fault.NameClash n) free some cause = name_clash s lib o top flat found c n free cause
flat_free s lib o top flat found c (fault.NoTop n) free some cause = cause
flat_free s lib o top flat found c (fault.Limit k n) free some cause = above_limit s lib o top flat found c k n free cause
flat_free s lib o top flat found c (fault.BadSetting n) free some cause = free.settings n cause
flat_free s lib o top flat found c fault.Memory free some cause = some refl

-- nor of the circuit that is left of the netlist that is judged, or of its cells that are cut out
pub record IsFreeBelow (s : CutSource) (lib : Library) (o : LinkOptions) (top : Module) (j : FlatNetlist) (k : Circuit) : Type 0 where
  pub judged : IsJudgedOf s lib o top j
  pub flat : IsFree s.source lib o top (flat_of s.source lib top) j.found k
  pub cut : IsCut j.circuit j.cells k
  pub none : (f : LinkFault) → IsCutCause (flat_of s.source lib top) j.found j.circuit j.cells f → ⊥

-- two lists of one top module have the same
same_top : (ts : List Module) (top other : Module) → ts ≡ top ∷ [] → ts ≡ other ∷ [] → other ≡ top
same_top ts top other one two = cc

below_free : (s : CutSource) (lib : Library) (o : LinkOptions) (top other : Module) (j : FlatNetlist) (k : Circuit) (f : LinkFault)
    → tops s.source ≡ top ∷ [] → IsFreeBelow s lib o top j k → f ≢ fault.Memory → tops s.source ≡ other ∷ [] → IsCauseBelow s lib o other f → ⊥
below_free s lib o top other j k f one free some two cause =
    elim (subst (λ (t : Module). IsCauseBelow s lib o t f) (same_top (tops s.source) top other one two) cause j free.judged) [
      | inl each ↦ flat_free s.source lib o top (flat_of s.source lib top) j.found k f free.flat some (each k free.cut)
      | inr cut ↦ free.none f cut
    ]

-- no refusal of the source has its cause
source_free : (s : CutSource) (lib : Library) (o : LinkOptions) (top : Module) (j : FlatNetlist) (k : Circuit) (f : LinkFault) → tops s.source ≡ top ∷ []
    → IsFreeBelow s lib o top j k → f ≢ fault.Memory → IsCause s lib o f → ⊥
source_free s lib o top j k (fault.UnknownCell n) one free some (other, two, cause) =
    below_free s lib o top other j k (fault.UnknownCell n) one free some two cause
source_free s lib o top j k (fault.UnsupportedCell n) one free some (other, two, cause) =
    below_free s lib o top other j k (fault.UnsupportedCell n) one free some two cause
source_free s lib o top j k (fault.UnknownPin n) one free some (other, two, cause) =
    below_free s lib o top other j k (fault.UnknownPin n) one free some two cause
source_free s lib o top j k (fault.OpenInput n) one free some (other, two, cause) =
    below_free s lib o top other j k (fault.OpenInput n) one free some two cause
source_free s lib o top j k (fault.Undriven n) one free some (other, two, cause) =
    below_free s lib o top other j k (fault.Undriven n) one free some two cause
source_free s lib o top j k (fault.ManyDrivers n) one free some (other, two, cause) =
    below_free s lib o top other j k (fault.ManyDrivers n) one free some two cause
source_free s lib o top j k (fault.Loop n) one free some (other, two, cause) =
    below_free s lib o top other j k (fault.Loop n) one free some two cause
source_free s lib o top j k (fault.NotTheClock n) one free some (other, two, cause) =
    below_free s lib o top other j k (fault.NotTheClock n) one free some two cause
source_free s lib o top j k (fault.ClockAsData n) one free some (other, two, cause) =
    below_free s lib o top other j k (fault.ClockAsData n) one free some two cause
source_free s lib o top j k (fault.Recursive n) one free some cause = free.flat.unrecursive n cause
source_free s lib o top j k (fault.NameClash n) one free some (other, two, cause) =
    below_free s lib o top other j k (fault.NameClash n) one free some two cause
source_free s lib o top j k (fault.NoTop n) one free some (count, differs) = differs (sym count ∙ ap (λ (ts : List Module). length ts) one)
source_free s lib o top j k (fault.Limit x n) one free some (other, two, cause) =
    below_free s lib o top other j k (fault.Limit x n) one free some two cause
source_free s lib o top j k (fault.BadSetting n) one free some (other, two, cause) =
    below_free s lib o top other j k (fault.BadSetting n) one free some two cause
source_free s lib o top j k fault.Memory one free some cause = some refl

pub faultless_is : (s : CutSource) (lib : Library) (o : LinkOptions) (top : Module) (j : FlatNetlist) (k : Circuit) → tops s.source ≡ top ∷ []
    → IsFreeBelow s lib o top j k → IsFaultless s lib o
faultless_is s lib o top j k one free = λ f some cause. source_free s lib o top j k f one free some cause
