-- What is made of a circuit and its design is the design with its clock gates.
use Rattle.std.proofs.Common.{◌≡◌, ℕ, zero, suc, ◌<◌, List, [], ◌∷◌, length, map, refl, ap, subst, sym, ◌∙◌, arith, inl, inr}
use Rattle.std.specs.Prelude.{Contains, Option, Some, flat_map, slice_get}
use Rattle.std.proofs.lemmas.List.{length-map}
use Rattle.std.proofs.lemmas.Option.{get_or_from_slice_get}
use Rattle.net_model.specs.Form.{Form, OrForm, IsOver}
use Rattle.net_model.specs.declared.netlist.Reg.{Reg}
use Rattle.net_model.proofs.Members.{In, Contains-from_In, from_map}
use Rattle.graph_order.proofs.Marked.{at_contains}
use Rattle.icg_rewrite.specs.Gated.{AreGated, IsGateOf, IsBelowIfAny}
use Rattle.icg_rewrite.specs.declared.clock_gates.ClockGate.{ClockGate}
use Rattle.icg_rewrite.specs.declared.clock_gates.Gated.{Gated}
use Rattle.link_defs.proofs.Solving.{number_within}
use Rattle.link_defs.specs.declared.circuits.Circuit.{Circuit}
use Rattle.link_defs.specs.declared.circuits.Part.{Part}
use Rattle.link_defs.specs.declared.circuits.Part.TheVariants as part
use Rattle.link_defs.specs.Circuits.{part_regs, regs_of}
use Rattle.link_defs.specs.Designs.{number_by, drivers_by, moved_reg}
use Rattle.link_defs.specs.Parts.{folded}
use Rattle.link_defs.specs.Above.{Under}
use Rattle.link_defs.specs.GateOrders.{ClockPart, place_in, IsGateOrderOf}
use Rattle.link_defs.specs.GatedDesigns.{Flop, part_flop, flops_of, any_of, gate_by, IsGatedOf}
use Rattle.link_gates.proofs.GatePlaces.{part_at}
use Rattle.link_gates.proofs.OneGated.{gate_under, flop_under}
use Rattle.link_design.specs.declared.designs.CircuitDesign.{CircuitDesign}
use Rattle.link_design.specs.declared.designs.Held.{Held}
use Rattle.link_design.specs.Lawful.{IsLawfulCircuit}
use Rattle.link_design.specs.Made.{IsMade}
use Rattle.link_design.specs.Rows.{IsDriverRow}
use Rattle.link_design.proofs.Leading.{map_at, map_from}
use Rattle.link_design.proofs.Parted.{all_in, all_from_in}
use Rattle.net_link.specs.declared.designs.GatedDesign.{GatedDesign}
use Rattle.net_link.specs.declared.gate_nets.GateNets.{GateNets}
use Rattle.net_link.specs.Made.{IsGatedDesign}
use Rattle.net_link.specs.GateNets.{part_of, parts_of, outs_of}
use Rattle.net_link.specs.Rows.{number_in, place_above, clock_gate, part_behind, AreEnabled}
use Rattle.net_link.proofs.ClockParts.{enables_within, enables_few, are_clocked}
use Rattle.net_link.proofs.Places.{place_above_is, parent_below, place_below}
use Rattle.net_link.proofs.Numbered.{enable_driven}
use Rattle.net_link.proofs.EnabledRows.{enabled_row}

-- what is known on the way: the circuit's design, its clock gates in their order, and the row of their places
pub record IsOnWay (c : Circuit) (made : CircuitDesign) (nets : List GateNets) (row : List ℕ) : Type 0 where
  pub lawful : IsLawfulCircuit c
  pub held : Held
  pub is : IsMade c held made
  pub ordered : IsGateOrderOf c (parts_of nets)
  pub row_is : IsDriverRow (outs_of nets) c.nets row

-- the design with the clock gates
abbrev pub gated_by : Circuit → CircuitDesign → List GateNets → List ℕ → Gated
gated_by c made nets row = record {
  design = made.design;
  gates = map (clock_gate made.numbers made.above row) nets;
  of = flat_map (part_behind made.above row) c.parts;
}

-- the first places, or-ed, are over their number
folded_over : (n m : ℕ) → n < m → IsOver m (folded OrForm n)
folded_over zero m lt = omega (arith, lt)
folded_over (suc n) m lt = (folded_over n m (omega (arith, lt)), omega (arith, lt))

-- so any of the first places are
any_over : (n : ℕ) → IsOver n (any_of n)
any_over zero = tt
any_over (suc n) = folded_over n (suc n) (omega arith)

-- functions that agree on a list map it to one
map_same : (f g : ℕ → ℕ) (xs : List ℕ) → ((n : ℕ) → In n xs → f n ≡ g n) → map f xs ≡ map g xs
map_same f g [] same = refl
map_same f g (x ∷ xs) same = ap (λ (n : ℕ). n ∷ map f xs) (same x (inl refl)) ∙ ap (λ (ns : List ℕ). g x ∷ ns) (map_same f g xs (λ n has. same n (inr has)))

-- the part that a clock gate of the order is
stands_at : (c : Circuit) (made : CircuitDesign) (nets : List GateNets) (row : List ℕ) → IsOnWay c made nets row → (k : ℕ) (y : GateNets)
    → slice_get nets k ≡ Some y → Contains c.parts (part.Gate y.clock y.enables y.out)
stands_at c made nets row way k y at = part_at c (parts_of nets) way.ordered k (part_of y) (map_at part_of nets k y at)

-- an enable has the number that the row has for it
enable_number : (c : Circuit) (made : CircuitDesign) (nets : List GateNets) (row : List ℕ) (way : IsOnWay c made nets row) (k : ℕ) (y : GateNets)
    → slice_get nets k ≡ Some y → (n : ℕ) → In n y.enables
    → number_in made.numbers n ≡ number_by (drivers_by c way.is.order) n
enable_number c made nets row way k y at n has =
    let below = enables_within c way.lawful y.clock y.enables y.out (stands_at c made nets row way k y at) in
    let lt : n < c.nets = all_in (λ (m : ℕ). m < c.nets) y.enables below n has in
    get_or_from_slice_get made.numbers n (number_by (drivers_by c way.is.order) n) 0 (way.is.numbers.at n lt)

-- a number of an enable is one of the design's nets
enable_below : (c : Circuit) (made : CircuitDesign) (nets : List GateNets) (row : List ℕ) → IsOnWay c made nets row → (k : ℕ) (y : GateNets)
    → slice_get nets k ≡ Some y → (n : ℕ) → In n y.enables → number_in made.numbers n < made.design.nets
enable_below c made nets row way k y at n has =
    let m = way.is in
    let driven = enable_driven c made.tree m.order way.lawful m.clocked m.driven m.design_is.tree_is m.design_is.order_is y.clock y.enables y.out n
    (stands_at c made nets row way k y at) has in
    omega (
      arith,
      enable_number c made nets row way k y at n has,
      number_within n (drivers_by c m.order) driven,
      m.design_is.nets,
    )

-- a clock gate's numbers are in range
gate_in : (c : Circuit) (made : CircuitDesign) (nets : List GateNets) (row : List ℕ) → IsOnWay c made nets row → (k : ℕ) (y : GateNets)
    → slice_get nets k ≡ Some y → IsGateOf made.design k (clock_gate made.numbers made.above row y)
gate_in c made nets row way k y at =
    let m = way.is in
    let gates : List ClockPart = parts_of nets in
    let here = map_at part_of nets k y at in
    let stands = stands_at c made nets row way k y at in
    let (up, on) = gate_under c (are_clocked c m.clocked) (part_of y) stands in
    let five = enables_few c way.lawful y.clock y.enables y.out stands in
    let many : length (map (number_in made.numbers) y.enables) ≡ length y.enables = length-map y.enables (number_in made.numbers) in
    let parent = place_above_is c made.above row gates way.lawful m.above way.row_is y.clock up on in
    record {
      func = subst (λ (n : ℕ). IsOver n (any_of (length y.enables))) (sym many) (any_over (length y.enables));
      ins = all_from_in (λ (n : ℕ). n < made.design.nets) (map (number_in made.numbers) y.enables) (λ n has.
          let (net, own, is) = from_map (number_in made.numbers) n y.enables has in
          subst (λ (i : ℕ). i < made.design.nets) is (enable_below c made nets row way k y at net own));
      few = omega (arith, many, five);
      parent = subst (IsBelowIfAny k) (sym parent) (parent_below c gates m.once way.ordered k (part_of y) up here on);
    }

-- the clock gates behind which registers stand, flop by flop
behind_are : (above : List (Option ℕ)) (row : List ℕ) (parts : List Part) → flat_map (part_behind above row) parts
    ≡ map (λ (x : Flop). place_above above row x.clock) (flat_map part_flop parts)
behind_are above row [] = refl
behind_are above row (part.Comb buffer ins gates ∷ parts) = behind_are above row parts
behind_are above row (part.Flop clock reg ∷ parts) = ap (λ (xs : List (Option ℕ)). place_above above row clock ∷ xs) (behind_are above row parts)
behind_are above row (part.Gate clock enables out ∷ parts) = behind_are above row parts

-- they are as many as the registers
behind_many : (above : List (Option ℕ)) (row : List ℕ) (parts : List Part) → length (flat_map (part_behind above row) parts)
    ≡ length (flat_map part_regs parts)
behind_many above row [] = refl
behind_many above row (part.Comb buffer ins gates ∷ parts) = behind_many above row parts
behind_many above row (part.Flop clock reg ∷ parts) = ap suc (behind_many above row parts)
behind_many above row (part.Gate clock enables out ∷ parts) = behind_many above row parts

-- the clock gate behind which a flop stands is one of the order
behind_below : (c : Circuit) (made : CircuitDesign) (nets : List GateNets) (row : List ℕ) → IsOnWay c made nets row → (o : Option ℕ)
    → In o (flat_map (part_behind made.above row) c.parts) → IsBelowIfAny (length nets) o
behind_below c made nets row way o has =
    let m = way.is in
    let gates : List ClockPart = parts_of nets in
    let (x, there, is) = from_map (λ (y : Flop). place_above made.above row y.clock) o (flops_of c)
    (subst (λ (xs : List (Option ℕ)). In o xs) {x = flat_map (part_behind made.above row) c.parts} (behind_are made.above row c.parts) has) in
    let (r, at) = at_contains (flops_of c) x (Contains-from_In (flops_of c) x there) in
    let (up, on) = flop_under c (are_clocked c m.clocked) r x at in
    let place = place_above_is c made.above row gates way.lawful m.above way.row_is x.clock up on in
    subst (λ (n : ℕ). IsBelowIfAny n o) {x = length gates} (length-map nets part_of)
    (subst (IsBelowIfAny (length gates)) {x = place_in gates up} (sym place ∙ is) (place_below c gates m.once way.ordered x.clock up on))

-- the design with its clock gates is in range
are_gated : (c : Circuit) (made : CircuitDesign) (nets : List GateNets) (row : List ℕ) → IsOnWay c made nets row → AreGated (gated_by c made nets row)
are_gated c made nets row way =
    let m = way.is in
    let move : Reg → Reg = moved_reg (number_by (drivers_by c m.order)) in
    let count : length (map (clock_gate made.numbers made.above row) nets) ≡ length nets = length-map nets (clock_gate made.numbers made.above row) in
    record {
      sound = m.sound;
      gates = λ k x at.
          let (y, there, is) = map_from (clock_gate made.numbers made.above row) nets k x at in
          subst (IsGateOf made.design k) is (gate_in c made nets row way k y there);
      each = behind_many made.above row c.parts ∙ (sym (length-map (regs_of c) move) ∙ sym (ap (λ (rs : List Reg). length rs) m.design_is.regs));
      behind = all_from_in (IsBelowIfAny (length (map (clock_gate made.numbers made.above row) nets))) (flat_map (part_behind made.above row) c.parts)
          (λ o has. subst (λ (n : ℕ). IsBelowIfAny n o) (sym count) (behind_below c made nets row way o has));
    }

-- a clock gate of a function, its pins and the one above it
abbrev gate_with : Form → List ℕ → Option ℕ → ClockGate
gate_with func ins parent = record { func = func; ins = ins; parent = parent }

-- a clock gate of the design is the one of its nets
gate_is : (c : Circuit) (made : CircuitDesign) (nets : List GateNets) (row : List ℕ) (way : IsOnWay c made nets row) (k : ℕ) (y : GateNets) (up : Option ℕ)
    → slice_get nets k ≡ Some y → Under c y.clock up
    → clock_gate made.numbers made.above row y ≡ gate_by (number_by (drivers_by c way.is.order)) (parts_of nets) (part_of y) up
gate_is c made nets row way k y up at on =
    let ins = map_same (number_in made.numbers) (number_by (drivers_by c way.is.order)) y.enables
    (λ n has. enable_number c made nets row way k y at n has) in
    let parent = place_above_is c made.above row (parts_of nets) way.lawful way.is.above way.row_is y.clock up on in
    let func : Form = any_of (length y.enables) in
    ap (λ (ns : List ℕ). gate_with func ns (place_above made.above row y.clock)) ins
    ∙ ap (λ (o : Option ℕ). gate_with func (map (number_by (drivers_by c way.is.order)) y.enables) o) parent

-- it is the design of the circuit with its clock gates
gated_in : (c : Circuit) (made : CircuitDesign) (nets : List GateNets) (row : List ℕ) (way : IsOnWay c made nets row)
    → IsGatedOf c made.tree way.is.order (parts_of nets) (gated_by c made nets row)
gated_in c made nets row way = record {
  design = way.is.design_is;
  ordered = way.ordered;
  long = length-map nets (clock_gate made.numbers made.above row) ∙ sym (length-map nets part_of);
  each = ap (λ (xs : List (Option ℕ)). length xs) (behind_are made.above row c.parts)
      ∙ length-map (flops_of c) (λ (x : Flop). place_above made.above row x.clock);
  gates_are = λ k x up at on.
      let (y, there, is) = map_from part_of nets k x at in
      let under : Under c y.clock up = subst (λ (z : ClockPart). Under c z.clock up) (sym is) on in
      map_at (clock_gate made.numbers made.above row) nets k y there
      ∙ (ap (λ (z : ClockGate). Some z) (gate_is c made nets row way k y up there under)
      ∙ ap (λ (z : ClockPart). Some (gate_by (number_by (drivers_by c way.is.order)) (parts_of nets) z up)) is);
  behind = λ r x up at on.
      ap (λ (xs : List (Option ℕ)). slice_get xs r) (behind_are made.above row c.parts)
      ∙ (map_at (λ (y : Flop). place_above made.above row y.clock) (flops_of c) r x at
      ∙ ap (λ (o : Option ℕ). Some o)
      (place_above_is c made.above row (parts_of nets) way.lawful way.is.above way.row_is x.clock up on));
}

-- lists that are equal give the same design
made_by : (c : Circuit) (made : CircuitDesign) (nets : List GateNets) (row : List ℕ) (gates : List ClockGate) (of : List (Option ℕ))
    → gates ≡ map (clock_gate made.numbers made.above row) nets → of ≡ flat_map (part_behind made.above row) c.parts
    → gated_by c made nets row ≡ record { design = made.design; gates = gates; of = of }
made_by c made nets row gates of gates_are of_is = rw (gates_are, of_is) refl

-- the design with clock gates, its clock tree, and the numbers of nets in the rewritten design
abbrev pub with_numbers : CircuitDesign → List ClockGate → List (Option ℕ) → List ℕ → GatedDesign
with_numbers made gates of numbers = record {
  gated = record { design = made.design; gates = gates; of = of };
  tree = made.tree;
  numbers = numbers;
}

-- what is made of the lists is the circuit's design with its clock gates, by the order of the design's gates
pub made_is : (c : Circuit) (made : CircuitDesign) (nets : List GateNets) (row : List ℕ) (gates : List ClockGate) (of : List (Option ℕ))
    (numbers : List ℕ) → gates ≡ map (clock_gate made.numbers made.above row) nets → of ≡ flat_map (part_behind made.above row) c.parts
    → (way : IsOnWay c made nets row) → AreEnabled made.design.nets made.numbers row (length made.numbers) numbers
    → IsGatedDesign c way.is.order (with_numbers made gates of numbers)
made_is c made nets row gates of numbers gates_are of_is way are =
    let same = made_by c made nets row gates of gates_are of_is in
    let drivers : List ℕ = drivers_by c way.is.order in
    record {
      once = way.is.once;
      clocked = way.is.clocked;
      gates = parts_of nets;
      gated_is = subst (IsGatedOf c made.tree way.is.order (parts_of nets)) same (gated_in c made nets row way);
      lawful = subst AreGated same (are_gated c made nets row way);
      numbers =
          enabled_row drivers (outs_of nets) made.numbers row numbers c.nets way.is.numbers way.row_is
          (subst (λ (n : ℕ). AreEnabled n made.numbers row (length made.numbers) numbers) way.is.design_is.nets are);
    }
