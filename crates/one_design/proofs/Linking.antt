-- The design of a netlist with its names, which is one.
use Rattle.std.proofs.Common.{◌≡◌, ◌∙◌, ℕ, ◌+◌, Bool, false, not, ◌&&◌, if◌then◌else◌, List, [], ◌∷◌, ◌++◌, map, length}
use Rattle.std.proofs.Common.{refl, sym, ap, subst}
use Rattle.std.specs.Prelude.{Contains, Option, Some, None, Result, Ok, Err, slice_index_or, filter, flat_map, zip}
use Rattle.std.specs.List.{list_any, AllZip}
use Rattle.std.proofs.lemmas.Bool.Decides.{same_from_decides}
use Rattle.sdcv_base.specs.declared.settings.Setting.{Setting}
use Rattle.sdcv_base.specs.Seqs.{is_marked}
use Rattle.net_model.specs.declared.netlist.Design.{Design}
use Rattle.net_model.specs.declared.netlist.Fixed.{Fixed}
use Rattle.net_model.specs.declared.netlist.Gate.{Gate}
use Rattle.icg_rewrite.specs.declared.clock_gates.Gated.{Gated}
use Rattle.icg_rewrite.specs.Rewritten.{rewritten}
use Rattle.netlist_types.specs.declared.sources.Module.{Module}
use Rattle.cell_types.specs.declared.libraries.Cell.{Cell}
use Rattle.cell_types.specs.declared.libraries.Library.{Library}
use Rattle.link_defs.specs.declared.circuits.Circuit.{Circuit}
use Rattle.link_defs.specs.declared.circuits.Part.{Part}
use Rattle.link_defs.specs.declared.circuits.Part.TheVariants as part
use Rattle.link_defs.specs.declared.cuts.CutCell.{CutCell}
use Rattle.link_defs.specs.declared.cuts.CutSource.{CutSource}
use Rattle.linked_types.specs.declared.names.Linked.{Linked}
use Rattle.linked_types.specs.declared.names.Names.{Names}
use Rattle.linked_types.specs.declared.names.NetName.{NetName}
use Rattle.linked_types.specs.declared.faults.LinkFault.TheVariants.{Memory}
use Rattle.linked_types.specs.declared.options.LinkOptions.{LinkOptions}
use Rattle.link_defs.specs.CellNames.{Leaf, AreNetNames, cell_name, cell_names, pins_if_any, clock_role, output_role, input_roles, tree_pins, out_pins}
use Rattle.link_defs.specs.CellNames.{reg_of}
use Rattle.link_defs.specs.Circuits.{PortBit, IsTree, all_gates, data_bits, part_outs, part_drives, part_regs}
use Rattle.link_defs.specs.Cuts.{Tree, OwnedPin, cut_cell_names, cut_circuit, pin_name}
use Rattle.link_defs.specs.Designs.{IsOrderOf, gate_at, gates_at, is_on_tree, tree_marks}
use Rattle.link_defs.specs.Faults.{IsCause, IsFaultless}
use Rattle.link_defs.specs.Flatten.{Flat, flat_of}
use Rattle.link_defs.specs.GateOrders.{ClockPart}
use Rattle.link_defs.specs.GatedDesigns.{IsGatedOf}
use Rattle.link_defs.specs.Hierarchy.{tops}
use Rattle.link_defs.specs.Judged.{FlatNetlist, IsJudged, netlist_of}
use Rattle.link_defs.specs.Links.{AreNames, IsLinked, IsSet, Numbered}
use Rattle.link_clocks.proofs.OneJudged.{one_judged}
use Rattle.link_gates.proofs.OneGated as gated
use Rattle.one_design.specs.Answers.{IsOneAnswer}
use Rattle.one_design.proofs.CutNames.{IsTreeFor, frame_of, one_left, one_names, one_sinks}
use Rattle.one_design.proofs.Differing.{inputs_differ, faultless_only}
use Rattle.sdc_settings.proofs.Keying.{IsKeyed, same_items}

-- two rows that mark the nets of a clock tree
module _ (c : Circuit) (x y : List Bool) (first : IsTree c x) (second : IsTree c y) where
  -- mark the same nets
  marks_same : (net : ℕ) → slice_index_or y net false ≡ slice_index_or x net false
  marks_same net = same_from_decides (slice_index_or y net false) (slice_index_or x net false) (second net) (first net)

  -- so the same parts are of the tree
  on_tree_same : (p : Part) → is_on_tree y p ≡ is_on_tree x p
  on_tree_same (part.Comb buffer ins gates) = λ i. buffer && list_any (λ (net : ℕ). marks_same net i) ins
  on_tree_same (part.Flop clock reg) = refl
  on_tree_same (part.Gate clock enables out) = refl

  -- and the same gates
  tree_marks_same : (p : Part) → tree_marks y p ≡ tree_marks x p
  tree_marks_same (part.Comb buffer ins gates) = λ i. map (λ (_ : Gate). on_tree_same (part.Comb buffer ins gates) i) gates
  tree_marks_same (part.Flop clock reg) = refl
  tree_marks_same (part.Gate clock enables out) = refl

  -- so the same gates are kept
  gates_same : (places : List ℕ) → gates_at y c places ≡ gates_at x c places
  gates_same places =
      λ i. map (gate_at (all_gates c)) (filter (λ (place : ℕ). not (is_marked (flat_map (λ (p : Part). tree_marks_same p i) c.parts) place)) places)

  -- in one order
  order_same : (xs ys : List Gate) → IsOrderOf c x xs → IsOrderOf c y ys → ys ≡ xs
  order_same xs ys one other =
      let both : (let r : Result (List ℕ) ℕ = Ok other.places in r) ≡ Ok one.places = sym other.found ∙ one.found in
      let places : other.places ≡ one.places = ap (λ (r : Result (List ℕ) ℕ). elim r [ Ok found ↦ found | Err place ↦ other.places ]) both in
      other.kept ∙ ap (gates_at y c) places ∙ gates_same one.places ∙ sym one.kept

  -- the pins of a leaf are the same
  pins_same : (number : ℕ → ℕ) (sources reg : ℕ) (p : Part) (cell : Option Cell)
      → pins_if_any number sources y reg p cell ≡ pins_if_any number sources x reg p cell
  pins_same number sources reg p None = refl
  pins_same number sources reg p (Some c) =
      let clocks = map clock_role (c.inputs ++ out_pins c.kind) in
      let outs = map (output_role number) (zip (out_pins c.kind) (part_drives p)) in
      ap (λ (b : Bool). if b then clocks else (input_roles number sources reg p 0 c.inputs ++ map clock_role (tree_pins c.kind) ++ outs)) (on_tree_same p)

  -- so is its name
  cell_same : (number : ℕ → ℕ) (sources before : ℕ) (leaf : Leaf) → cell_name number sources y before leaf ≡ cell_name number sources x before leaf
  cell_same number sources before leaf =
      let outs = ap (λ (b : Bool). if b then [] else map number (part_outs leaf.part)) (on_tree_same leaf.part) in
      let pins = pins_same number sources before leaf.part leaf.cell in
      λ i. record { name = leaf.name; reg = reg_of before leaf.part; outs = outs i; pins = pins i }

  -- and all names of cells
  cells_same : (number : ℕ → ℕ) (sources before : ℕ) (list : List Leaf)
      → cell_names number sources y before list ≡ cell_names number sources x before list
  unfolding cell_names
  cells_same number sources before [] = refl
  cells_same number sources before (l ∷ ls) =
      let here = cell_same number sources before l in
      let rest = cells_same number sources (before + length (part_regs l.part)) ls in
      λ i. here i ∷ rest i

-- the names of nets are one list
nets_same : (flat : Flat) (drivers : List ℕ) (number : ℕ → ℕ) (xs ys : List NetName) → AreNetNames flat drivers number xs
    → AreNetNames flat drivers number ys → ys ≡ xs
nets_same flat drivers number xs ys first second =
    same_items (λ (n : NetName). n.name) ys xs (second.order ∙ sym first.order) first.once
    (λ n has.
    let (net, there, driven, is) = second.only n has in
    let made : NetName = record { name = n.name; net = number net } in
    let same : made ≡ n = λ i. record { name = n.name; net = is i } in
    subst (Contains xs) same (first.all n.name net there driven))

-- an input bit that a setting names is one, where names of input bits differ
set_same : (bits : List PortBit) → IsKeyed (λ (b : PortBit). b.port.name) bits → (s : Setting) (f g : Fixed) → IsSet bits s f → IsSet bits s g → g ≡ f
set_same bits once s f g first second =
    let input : g.input ≡ f.input =
    once g.input f.input second.bit first.bit second.there first.there (second.name ∙ sym first.name) in
    let value : g.value ≡ f.value = second.value ∙ sym first.value in
    λ i. record { input = input i; value = value i }

-- so are those that all settings name
all_set_same : (bits : List PortBit) → IsKeyed (λ (b : PortBit). b.port.name) bits → (settings : List Setting) (fs gs : List Fixed)
    → AllZip (IsSet bits) settings fs → AllZip (IsSet bits) settings gs → gs ≡ fs
all_set_same bits once [] [] [] first second = refl
all_set_same bits once [] [] (g ∷ gs) first second = absurd second
all_set_same bits once [] (f ∷ fs) gs first second = absurd first
all_set_same bits once (s ∷ settings) [] gs first second = absurd first
all_set_same bits once (s ∷ settings) (f ∷ fs) [] first second = absurd second
all_set_same bits once (s ∷ settings) (f ∷ fs) (g ∷ gs) first second =
    let here = set_same bits once s f g first.0 second.0 in
    let rest = all_set_same bits once settings fs gs first.1 second.1 in
    λ i. here i ∷ rest i

-- the design with clock gates has the fixed and reset inputs of the one without
given_fixed : (g : Gated) → (rewritten g).fixed ≡ g.design.fixed
unfolding rewritten
given_fixed g = refl

given_resets : (g : Gated) → (rewritten g).resets ≡ g.design.resets
unfolding rewritten
given_resets g = refl

given_reset_len : (g : Gated) → (rewritten g).reset_len ≡ g.design.reset_len
unfolding rewritten
given_reset_len g = refl

-- what linking gives of a netlist that is judged below this top module, of this flat one: this circuit is left by these rows of its clock
-- tree, and it has this clock tree, these orders of gates and of clock gates, and this design with clock gates
record IsLinkedAt (f : Flat) (e : FlatNetlist) (o : LinkOptions) (top : Module) (k : Circuit) (t : Tree) (n : Numbered) (g : Gated)
    (l : Linked) : Type 0 where
  marked : IsTreeFor e.circuit e.cells t
  left : k ≡ cut_circuit e.circuit t e.cells
  clocked : gated.AreClocked k
  gated_is : IsGatedOf k n.tree n.order n.gates g
  design : l.design ≡ rewritten g
  fixed : AllZip (IsSet (data_bits o.clock top)) o.fixed l.design.fixed
  resets : AllZip (IsSet (data_bits o.clock top)) o.resets l.design.resets
  reset_len : l.design.reset_len ≡ o.reset_len
  names : AreNames e k o top f t n l.names

linked_at : (s : CutSource) (lib : Library) (o : LinkOptions) (l : Linked) (is : IsLinked s lib o l)
    → IsLinkedAt (flat_of s.source lib is.top) is.judged o is.top is.circuit is.cut.tree (record { tree = is.tree; order = is.order; gates = is.gates })
    is.gated l
linked_at s lib o l is = record {
  marked = is.cut.tree_is;
  left = is.cut.is;
  clocked = is.clocked;
  gated_is = is.gated_is;
  design = is.design;
  fixed = is.fixed;
  resets = is.resets;
  reset_len = is.reset_len;
  names = is.names;
}

-- of one circuit and one order of gates there is one design without the clock gates
without_same : (f : Flat) (e : FlatNetlist) (o : LinkOptions) (top : Module) (k : Circuit) (t u : Tree) (x y : List Bool) (order : List Gate)
    (gates others : List ClockPart) (g h : Gated) (a b : Linked) → IsKeyed (λ (bit : PortBit). bit.port.name) (data_bits o.clock top)
    → IsLinkedAt f e o top k t (record { tree = x; order = order; gates = gates }) g a
    → IsLinkedAt f e o top k u (record { tree = y; order = order; gates = others }) h b → h.design ≡ g.design
without_same f e o top k t u x y order gates others g h a b once first second =
    let bits = data_bits o.clock top in
    let one = first.gated_is.design in
    let other = second.gated_is.design in
    let nets = other.nets ∙ sym one.nets in
    let kept = other.gates ∙ sym one.gates in
    let regs = other.regs ∙ sym one.regs in
    let inputs = other.inputs ∙ sym one.inputs in
    let outputs = other.outputs ∙ sym one.outputs in
    let fixed_a : a.design.fixed ≡ g.design.fixed = ap (λ (d : Design). d.fixed) first.design ∙ given_fixed g in
    let fixed_b : b.design.fixed ≡ h.design.fixed = ap (λ (d : Design). d.fixed) second.design ∙ given_fixed h in
    let fixed = sym fixed_b ∙ all_set_same bits once o.fixed a.design.fixed b.design.fixed first.fixed second.fixed ∙ fixed_a in
    let resets_a : a.design.resets ≡ g.design.resets = ap (λ (d : Design). d.resets) first.design ∙ given_resets g in
    let resets_b : b.design.resets ≡ h.design.resets = ap (λ (d : Design). d.resets) second.design ∙ given_resets h in
    let resets = sym resets_b ∙ all_set_same bits once o.resets a.design.resets b.design.resets first.resets second.resets ∙ resets_a in
    let len_a : a.design.reset_len ≡ g.design.reset_len = ap (λ (d : Design). d.reset_len) first.design ∙ given_reset_len g in
    let len_b : b.design.reset_len ≡ h.design.reset_len = ap (λ (d : Design). d.reset_len) second.design ∙ given_reset_len h in
    let reset_len = sym len_b ∙ second.reset_len ∙ sym first.reset_len ∙ len_a in
    λ i. record {
      nets = nets i;
      gates = kept i;
      regs = regs i;
      inputs = inputs i;
      outputs = outputs i;
      fixed = fixed i;
      resets = resets i;
      reset_len = reset_len i;
    }

-- so there is one with them
with_same : (f : Flat) (e : FlatNetlist) (o : LinkOptions) (top : Module) (k : Circuit) (t u : Tree) (x y : List Bool) (order : List Gate)
    (gates others : List ClockPart) (g h : Gated) (a b : Linked) → IsKeyed (λ (bit : PortBit). bit.port.name) (data_bits o.clock top)
    → IsLinkedAt f e o top k t (record { tree = x; order = order; gates = gates }) g a
    → IsLinkedAt f e o top k u (record { tree = y; order = order; gates = others }) h b → b.design ≡ a.design
with_same f e o top k t u x y order gates others g h a b once first second =
    let without = without_same f e o top k t u x y order gates others g h a b once first second in
    let one : g ≡ h = gated.gated_same k x y order gates others first.clocked g h first.gated_is second.gated_is (sym without) in
    second.design ∙ ap rewritten (sym one) ∙ sym first.design

-- the names of cells, with those that are cut out
all_cells_same : (c k : Circuit) (cells : List CutCell) (t u : Tree) (x y : List Bool) (number : ℕ → ℕ) (sources : ℕ) (found : List Leaf)
    → IsTreeFor c cells t → IsTreeFor c cells u → IsTree k x → IsTree k y
    → cell_names number sources y 0 found ++ cut_cell_names (frame_of c cells number u) 0 cells
    ≡ cell_names number sources x 0 found ++ cut_cell_names (frame_of c cells number t) 0 cells
all_cells_same c k cells t u x y number sources found marked also first second =
    let kept = cells_same k x y first second number sources 0 found in
    let cut = one_names c cells number u t also marked in
    λ i. kept i ++ cut i

-- and one list of each kind of names
names_same : (e : FlatNetlist) (k : Circuit) (o : LinkOptions) (top : Module) (flat : Flat) (t u : Tree) (x y : List Bool)
    (order : List Gate) (gates : List ClockPart) (a b : Names) → IsTreeFor e.circuit e.cells t → IsTreeFor e.circuit e.cells u
    → IsTree k x → IsTree k y → AreNames e k o top flat t (record { tree = x; order = order; gates = gates }) a
    → AreNames e k o top flat u (record { tree = y; order = order; gates = gates }) b → b ≡ a
names_same e k o top flat t u x y order gates a b marked also first_tree second_tree first second =
    let all = all_cells_same e.circuit k e.cells t u x y _ _ e.found marked also first_tree second_tree in
    let named = second.cells ∙ all ∙ sym first.cells in
    let ins = second.ins ∙ sym first.ins in
    let outs = second.outs ∙ sym first.outs in
    let called = nets_same _ _ _ a.nets b.nets first.nets second.nets in
    let clock = second.clock ∙ sym first.clock in
    let free = second.free ∙ sym first.free in
    let sinks = second.sinks ∙ ap (λ (ps : List OwnedPin). map pin_name ps) (one_sinks e.circuit e.cells u t also marked) ∙ sym first.sinks in
    let cuts = second.cuts ∙ sym first.cuts in
    let assumed = second.assumed ∙ sym first.assumed in
    λ i. record {
      cells = named i;
      ins = ins i;
      outs = outs i;
      nets = called i;
      clock = clock i;
      free = free i;
      sinks = sinks i;
      cuts = cuts i;
      assumed = assumed i;
    }

-- of one circuit and one order of gates there is one design with its names
at_same : (f : Flat) (e : FlatNetlist) (o : LinkOptions) (top : Module) (k : Circuit) (t u : Tree) (x y : List Bool) (order : List Gate)
    (gates others : List ClockPart) (g h : Gated) (a b : Linked) → IsKeyed (λ (bit : PortBit). bit.port.name) (data_bits o.clock top)
    → IsLinkedAt f e o top k t (record { tree = x; order = order; gates = gates }) g a
    → IsLinkedAt f e o top k u (record { tree = y; order = order; gates = others }) h b → b ≡ a
at_same f e o top k t u x y order gates others g h a b once first second =
    let design = with_same f e o top k t u x y order gates others g h a b once first second in
    let ordered : gates ≡ others = gated.order_same k first.clocked gates others first.gated_is.ordered second.gated_is.ordered in
    let moved : IsLinkedAt f e o top k u (record { tree = y; order = order; gates = gates }) h b =
    subst (λ (xs : List ClockPart). IsLinkedAt f e o top k u (record { tree = y; order = order; gates = xs }) h b) (sym ordered) second in
    let names =
    names_same e k o top f t u x y order gates a.names b.names first.marked second.marked first.gated_is.design.tree_is
    second.gated_is.design.tree_is first.names moved.names in
    λ i. record { design = design i; names = names i }

-- of one netlist that is judged one circuit is left, and its gates have one order
left_same : (f : Flat) (e : FlatNetlist) (o : LinkOptions) (top : Module) (k j : Circuit) (t u : Tree) (n m : Numbered) (g h : Gated) (a b : Linked)
    → IsKeyed (λ (bit : PortBit). bit.port.name) (data_bits o.clock top) → IsLinkedAt f e o top k t n g a → IsLinkedAt f e o top j u m h b → b ≡ a
left_same f e o top k j t u n m g h a b once first second =
    let circuit : j ≡ k = second.left ∙ one_left e.circuit e.cells u t second.marked first.marked ∙ sym first.left in
    let moved : IsLinkedAt f e o top k u m h b = subst (λ (x : Circuit). IsLinkedAt f e o top x u m h b) circuit second in
    let one = first.gated_is.design in
    let other = moved.gated_is.design in
    let order : m.order ≡ n.order = order_same k n.tree m.tree one.tree_is other.tree_is n.order m.order one.order_is other.order_is in
    let ready : IsLinkedAt f e o top k u (record { tree = m.tree; order = n.order; gates = m.gates }) h b =
    subst (λ (gates : List Gate). IsLinkedAt f e o top k u (record { tree = m.tree; order = gates; gates = m.gates }) h b) order moved in
    at_same f e o top k t u n.tree m.tree n.order n.gates m.gates g h a b once first ready

-- a netlist whose input bits have different names has one design with its names
pub linked_same : (s : CutSource) (lib : Library) (o : LinkOptions) (a b : Linked)
    → ((top : Module) → tops s.source ≡ top ∷ [] → IsKeyed (λ (bit : PortBit). bit.port.name) (data_bits o.clock top)) → IsLinked s lib o a
    → IsLinked s lib o b → b ≡ a
linked_same s lib o a b once first second =
    let both : second.top ∷ [] ≡ first.top ∷ [] = sym second.top_is ∙ first.top_is in
    let top : second.top ≡ first.top = cc in
    let n : Numbered = record { tree = first.tree; order = first.order; gates = first.gates } in
    let m : Numbered = record { tree = second.tree; order = second.order; gates = second.gates } in
    let f : Flat = flat_of s.source lib first.top in
    let below : IsLinkedAt f second.judged o first.top second.circuit second.cut.tree m second.gated b =
    subst (λ (x : Module). IsLinkedAt (flat_of s.source lib x) second.judged o x second.circuit second.cut.tree m second.gated b) top
    (linked_at s lib o b second) in
    let judged_is : IsJudged o.cut_clocks (netlist_of s lib first.top o.clock) second.judged =
    subst (λ (x : Module). IsJudged o.cut_clocks (netlist_of s lib x o.clock) second.judged) top second.judged_is in
    let judged : second.judged ≡ first.judged =
    one_judged o.cut_clocks (netlist_of s lib first.top o.clock) second.judged first.judged judged_is first.judged_is in
    let moved : IsLinkedAt f first.judged o first.top second.circuit second.cut.tree m second.gated b =
    subst (λ (e : FlatNetlist). IsLinkedAt f e o first.top second.circuit second.cut.tree m second.gated b) judged below in
    left_same f first.judged o first.top first.circuit second.circuit first.cut.tree second.cut.tree n m first.gated second.gated a b
    (once first.top first.top_is) (linked_at s lib o a first) moved

-- a netlist without a fault has one answer
pub one_linked : (s : CutSource) (lib : Library) (o : LinkOptions)
    → IsOneAnswer (λ l. IsLinked s lib o l × IsFaultless s lib o) (IsCause s lib o) Memory
one_linked s lib o = record {
  same = λ a b first second. linked_same s lib o a b (inputs_differ s lib o first.1) first.0 second.0;
  only = λ l e is cause. faultless_only s lib o e is.1 cause;
}
