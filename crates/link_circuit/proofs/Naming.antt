-- What a refusal of a circuit speaks of has a full name.
use Rattle.std.proofs.Common.{◌≡◌, ℕ, zero, suc, ◌+◌, ◌<◌, ◌≤◌, Bool, true, false, not, List, [], ◌∷◌, ◌++◌, length, map, All, Some, None, refl, ap, subst, sym}
use Rattle.std.proofs.Common.{◌∙◌, arith, inl, inr, ◌⊎◌, get_or}
use Rattle.std.specs.Prelude.{Option, Contains, slice_get, filter, flat_map, count_by, ◌==◌, slice_index}
use Rattle.std.proofs.lemmas.Bool.{cases_eq}
use Rattle.std.proofs.lemmas.List.{map-append}
use Rattle.std.proofs.lemmas.List.Concat.{flat_map-append}
use Rattle.std.proofs.lemmas.List.Elements.{All-head, All-tail, All-filter, All-map}
use Rattle.net_model.specs.Netlist.{AllBelow, gate_nets, reg_nets}
use Rattle.net_model.specs.declared.netlist.Gate.{Gate}
use Rattle.net_model.proofs.Members.{In, In-cases, In-left, In-right, In-map, In-flat, from_flat, in_or, In-from_Contains, Contains-from_In}
use Rattle.net_model.proofs.Order.{count_append, count_cons, counted, count_contains}
use Rattle.netlist_types.specs.declared.sources.Source.{Source}
use Rattle.netlist_types.specs.declared.sources.Module.{Module}
use Rattle.netlist_types.specs.declared.sources.Port.{Port}
use Rattle.netlist_types.specs.declared.sources.Conn.{Conn}
use Rattle.netlist_types.specs.declared.sources.Wire.{Wire}
use Rattle.netlist_types.specs.declared.sources.Wire.TheVariants as wire
use Rattle.netlist_types.specs.declared.sources.Item.{Item}
use Rattle.netlist_types.specs.declared.sources.Item.TheVariants as item
use Rattle.netlist_types.specs.Lawful.{module_of, IsLawfulModule}
use Rattle.cell_types.specs.declared.libraries.Library.{Library}
use Rattle.cell_types.specs.declared.libraries.Cell.{Cell}
use Rattle.cell_types.specs.declared.libraries.CellKind.{CellKind}
use Rattle.cell_types.specs.declared.libraries.CellKind.TheVariants as kind
use Rattle.link_design.specs.Lawful.{IsLawfulPart, IsLawfulGate, IsLawfulCircuit}
use Rattle.link_defs.specs.declared.circuits.Part.{Part}
use Rattle.link_defs.specs.declared.circuits.Part.TheVariants as part
use Rattle.link_defs.specs.CellNames.{Leaf, leaves, leaves_of, last_part, leaf_if_any}
use Rattle.link_defs.specs.Circuits.{PortBit, circuit_of, bits_of, port_bit, input_bits, output_bits, is_input, is_clock, data_bits, clock_bits, bit_nets}
use Rattle.link_defs.specs.Circuits.{part_gates, part_regs, part_gated, part_reads, part_outs, part_data, clock_of, all_gates, all_drivers}
use Rattle.link_defs.specs.Circuits.{all_reads, all_data, OnTree, LeadsTo, IsOnCycle}
use Rattle.link_defs.specs.Circuits as net
use Rattle.link_defs.specs.Hierarchy.{cell_of, wires_of}
use Rattle.link_defs.specs.Flatten.{Scope, Located, Flat, numbers, top_scope, flat_of}
use Rattle.link_defs.specs.Parts.{parts_of, inst_parts, constant, ties, pin_ties, bit_ties, cell_ties, cell_part, pin_nets, comb_gates}
use Rattle.link_defs.specs.Parts.{is_buffer_cell, is_buffer_prim, prim_gate, wire_nets, wire_net, outs_from, clock_net, gate_clock, flop_reg, pin_net}
use Rattle.link_items.specs.Prims.{copy_parts}
use Rattle.netlist_types.specs.declared.gates.PrimKind.{PrimKind}
use Rattle.netlist_types.specs.declared.gates.PrimKind.TheVariants as prim
use Rattle.link_circuit.specs.Flats.{AreFine}
use Rattle.link_items.specs.Faults.{IsFaultless}
use Rattle.link_items.proofs.Listing.{contains_at}
use Rattle.link_items.proofs.Pinned.{port_bits}
use Rattle.link_circuit.proofs.Lawfully.{all_flat}
use Rattle.link_circuit.specs.Names.{HasNet}
use Rattle.link_circuit.proofs.Spread.{zero_of}
use Rattle.link_circuit.proofs.Driving.{outs_of}
use Rattle.link_circuit.proofs.Reading.{IsConst, gates_of, reads_of, item_known}
use Rattle.link_circuit.proofs.Seating.{IsSeen, IsWhole, item_outs}

below_in : (limit : ℕ) (ns : List ℕ) (n : ℕ) → AllBelow limit ns → In n ns → n < limit
below_in limit [] n below has = absurd has
below_in limit (m ∷ ns) n below (inl same) = let lt : m < limit = All-head (λ (k : ℕ). k < limit) m ns below in omega (arith, lt, same)
below_in limit (m ∷ ns) n below (inr rest) = below_in limit ns n (All-tail (λ (k : ℕ). k < limit) m ns below) rest

all_in : {X : Type 0} (P : X → Type 0) (xs : List X) (x : X) → All P xs → In x xs → P x
all_in P [] x all has = absurd has
all_in P (y ∷ ys) x all (inl same) = subst P same (All-head P y ys all)
all_in P (y ∷ ys) x all (inr rest) = all_in P ys x (All-tail P y ys all) rest

in_numbers : (count first n : ℕ) → first ≤ n → n < first + count → In n (numbers first count)
in_numbers zero first n from to = absurd (omega (arith, from, to))
in_numbers (suc count) first n from to = elim (cases_eq first n) [
  | inl same ↦ inl same
  | inr differs ↦ inr (in_numbers count (first + 1) n (omega (arith, from, differs)) (omega (arith, to)))
]

-- the nets of the top module's ports
abbrev IsBit : ℕ → PortBit → Type 0
IsBit total b = b.net < total

bits_below : (m : Module) (total : ℕ) (ports : List Port) → All (λ (p : Port). AllBelow total p.bits) ports → All (IsBit total) (flat_map (bits_of m) ports)
bits_below m total ports below =
    all_flat (IsBit total) (bits_of m) ports
    (λ k d lt. All-map (IsBit total) (port_bit m (get_or ports k d)) (get_or ports k d).bits (below k d lt))

nets_below : (total : ℕ) (bits : List PortBit) → All (IsBit total) bits → AllBelow total (bit_nets bits)
nets_below total bits below = All-map (λ (n : ℕ). n < total) (λ (b : PortBit). b.net) bits below

pub record ArePortsBelow (top : Module) (clock : Option (List ℕ)) : Type 0 where
  pub clocks : AllBelow (length top.nets) (bit_nets (clock_bits clock top))
  pub inputs : AllBelow (length top.nets) (bit_nets (data_bits clock top))
  pub outputs : AllBelow (length top.nets) (bit_nets (output_bits top))

pub ports_below : (s : Source) (top : Module) (clock : Option (List ℕ)) → IsLawfulModule s top → ArePortsBelow top clock
ports_below s top clock is =
    let total = length top.nets in
    let below : All (λ (p : Port). AllBelow total p.bits) top.ports = port_bits s top is in
    let ins : All (IsBit total) (input_bits top) =
    bits_below top total (filter (λ (p : Port). is_input p.dir) top.ports)
    (All-filter (λ (p : Port). is_input p.dir) (λ (p : Port). AllBelow total p.bits) top.ports below) in
    let outs : All (IsBit total) (output_bits top) =
    bits_below top total (filter (λ (p : Port). not (is_input p.dir)) top.ports)
    (All-filter (λ (p : Port). not (is_input p.dir)) (λ (p : Port). AllBelow total p.bits) top.ports below) in
    record {
      clocks = nets_below total (clock_bits clock top) (All-filter (is_clock clock) (IsBit total) (input_bits top) ins);
      inputs = nets_below total (data_bits clock top) (All-filter (λ (b : PortBit). not (is_clock clock b)) (IsBit total) (input_bits top) ins);
      outputs = nets_below total (output_bits top) outs;
    }

-- what is known of the flat netlist below a module
pub record IsSettled (s : Source) (lib : Library) (top : Module) (flat : Flat) : Type 0 where
  pub whole : IsWhole s lib top flat
  pub fine : AreFine s lib flat

abbrev pub parts_in : Source → Library → Flat → List Part
parts_in s lib flat = flat_map (parts_of s lib) flat.items

top_seen : (s : Source) (lib : Library) (top : Module) (flat : Flat) (n : ℕ) → IsWhole s lib top flat → n < length top.nets → IsSeen flat.scopes n
top_seen s lib top flat n whole lt = (top_scope top, whole.top_there, in_numbers (length top.nets) 0 n (omega arith) (omega (arith, lt)))

ports_seen : (s : Source) (lib : Library) (top : Module) (flat : Flat) (nets : List ℕ) (n : ℕ) → IsWhole s lib top flat → AllBelow (length top.nets) nets
    → In n nets → IsSeen flat.scopes n
ports_seen s lib top flat nets n whole below has = top_seen s lib top flat n whole (below_in (length top.nets) nets n below has)

seen_none : (x : Scope) (xs : List Scope) (n : ℕ) → (In n x.nets → ⊥) → (IsSeen xs n → ⊥) → IsSeen (x ∷ xs) n → ⊥
seen_none x xs n not_here none (scope, inl same, has) = not_here (subst (λ (y : Scope). In n y.nets) (sym same) has)
seen_none x xs n not_here none (scope, inr later, has) = none (scope, later, has)

-- a net has an instance or it has none
pub seen_or : (scopes : List Scope) (n : ℕ) → IsSeen scopes n ⊎ (IsSeen scopes n → ⊥)
seen_or [] n = inr (λ seen. seen.1)
seen_or (x ∷ xs) n = elim (in_or n x.nets) [
  | inl here ↦ inl (x, inl refl, here)
  | inr not_here ↦ elim (seen_or xs n) [
    | inl later ↦ inl (later.0, inr later.1, later.2)
    | inr none ↦ inr (seen_none x xs n not_here none)
  ]
]

const_more : (s : Source) (lib : Library) (flat : Flat) (at : Located) (n : ℕ) → In at flat.items → IsConst (gates_of (parts_of s lib at)) n
    → IsConst (gates_of (parts_in s lib flat)) n
const_more s lib flat at n at_there (g, there, out, none) =
    let (q, q_of, has) = from_flat part_gates g (parts_of s lib at) there in
    (g, In-flat part_gates g q (parts_in s lib flat) (In-flat (parts_of s lib) q at flat.items at_there q_of) has, out, none)

-- what a part of the circuit reads
reads_known : (s : Source) (lib : Library) (top : Module) (flat : Flat) (n : ℕ) → IsSettled s lib top flat → In n (reads_of (parts_in s lib flat))
    → IsSeen flat.scopes n ⊎ IsConst (gates_of (parts_in s lib flat)) n
reads_known s lib top flat n known has =
    let (p, p_there, reads) = from_flat part_reads n (parts_in s lib flat) has in
    let (at, at_there, p_of) = from_flat (parts_of s lib) p flat.items p_there in
    let seat = known.whole.seated.items at at_there in
    let free = all_in (λ (a : Located). IsFaultless s lib a.scope a.item) flat.items at known.fine.items at_there in
    elim (item_known s lib at.scope at.first at.item n seat.lawful free (In-flat part_reads n p (parts_of s lib at) p_of reads)) [
      | inl here ↦ inl (at.scope, seat.there, here)
      | inr const ↦ inr (const_more s lib flat at n at_there const)
    ]

flat_flat : (s : Source) (lib : Library) (items : List Located) → outs_of (flat_map (parts_of s lib) items) ≡ flat_map (item_outs s lib) items
flat_flat s lib [] = refl
flat_flat s lib (at ∷ items) =
    flat_map-append part_outs (parts_of s lib at) (flat_map (parts_of s lib) items)
    ∙ ap (λ (ns : List ℕ). item_outs s lib at ++ ns) (flat_flat s lib items)

-- the nets that clock gates drive
abbrev pub gated_of : List Part → List ℕ
gated_of ps = flat_map part_gated ps

-- registers, gates and clock gates are counted with their parts
split_count : (n : ℕ) (ps : List Part)
    → count_by (λ m. m == n) (flat_map reg_nets (flat_map part_regs ps)) + count_by (λ m. m == n) (gate_nets (gates_of ps))
    + count_by (λ m. m == n) (gated_of ps) ≡ count_by (λ m. m == n) (outs_of ps)
split_count n [] = omega arith
split_count n (part.Comb buffer ins gates ∷ ps) =
    let p : ℕ → Bool = λ m. m == n in
    let nets = ap (λ (ns : List ℕ). count_by p ns) (map-append (λ (g : Gate). g.out) gates (gates_of ps)) in
    omega (arith, nets, count_append p (gate_nets gates) (gate_nets (gates_of ps)), count_append p (gate_nets gates) (outs_of ps), split_count n ps)
split_count n (part.Flop clock reg ∷ ps) =
    let p : ℕ → Bool = λ m. m == n in
    omega (arith, count_append p (reg_nets reg) (flat_map reg_nets (flat_map part_regs ps)), count_append p (reg_nets reg) (outs_of ps), split_count n ps)
split_count n (part.Gate clock enables out ∷ ps) =
    let p : ℕ → Bool = λ m. m == n in omega (arith, count_cons p out (gated_of ps), count_cons p out (outs_of ps), split_count n ps)

-- a net that no instance has is driven once
pub drivers_once : (s : Source) (lib : Library) (top : Module) (clock : Option (List ℕ)) (n : ℕ)
    → IsWhole s lib top (flat_of s lib top) → ArePortsBelow top clock → (IsSeen (flat_of s lib top).scopes n → ⊥)
    → count_by (λ m. m == n) (all_drivers (circuit_of s lib top clock)) ≤ 1
unfolding circuit_of
drivers_once s lib top clock n whole ports unseen =
    let flat = flat_of s lib top in
    let p : ℕ → Bool = λ m. m == n in
    let clocks = bit_nets (clock_bits clock top) in
    let inputs = bit_nets (data_bits clock top) in
    let ps = parts_in s lib flat in
    let regs = flat_map reg_nets (flat_map part_regs ps) in
    let gates = gate_nets (gates_of ps) in
    let gated = gated_of ps in
    let no_clock = zero_of n clocks (λ has. unseen (ports_seen s lib top flat clocks n whole ports.clocks has)) in
    let no_input = zero_of n inputs (λ has. unseen (ports_seen s lib top flat inputs n whole ports.inputs has)) in
    let once = whole.seated.once n unseen in
    let all = ap (λ (ns : List ℕ). count_by p ns) (flat_flat s lib flat.items) in
    omega (
      arith,
      count_append p (((clocks ++ inputs) ++ regs) ++ gates) gated,
      count_append p ((clocks ++ inputs) ++ regs) gates,
      count_append p (clocks ++ inputs) regs,
      count_append p clocks inputs,
      no_clock,
      no_input,
      split_count n ps,
      all,
      once,
    )

gate_counted : (gates : List Gate) (g : Gate) (n : ℕ) → In g gates → g.out ≡ n → 1 ≤ count_by (λ m. m == n) (gate_nets gates)
gate_counted gates g n there out =
    count_contains n (gate_nets gates) (subst (λ (m : ℕ). Contains (gate_nets gates) m) out
    (Contains-from_In (gate_nets gates) g.out (In-map (λ (g : Gate). g.out) g gates there)))

-- a constant and a gate that reads are two drivers
two_counted : (gates : List Gate) (g h : Gate) (n m : ℕ) → In g gates → In h gates → g.out ≡ n → h.out ≡ n → g.ins ≡ [] → In m h.ins
    → 2 ≤ count_by (λ m. m == n) (gate_nets gates)
two_counted [] g h n m there here one other none reads = absurd there
two_counted (x ∷ xs) g h n m (inl there) (inl here) one other none reads =
    let same : g ≡ h = sym there ∙ here in
    absurd (subst (λ (ns : List ℕ). In m ns) (sym (ap (λ (y : Gate). y.ins) same) ∙ none) reads)
two_counted (x ∷ xs) g h n m (inl there) (inr here) one other none reads =
    omega (arith, count_cons (λ m. m == n) x.out (gate_nets xs), counted n x.out (ap (λ (y : Gate). y.out) there ∙ one), gate_counted xs h n here other)
two_counted (x ∷ xs) g h n m (inr there) (inl here) one other none reads =
    omega (arith, count_cons (λ m. m == n) x.out (gate_nets xs), counted n x.out (ap (λ (y : Gate). y.out) here ∙ other), gate_counted xs g n there one)
two_counted (x ∷ xs) g h n m (inr there) (inr here) one other none reads =
    omega (arith, count_cons (λ m. m == n) x.out (gate_nets xs), two_counted xs g h n m there here one other none reads)

-- a gate that reads and drives the net
abbrev pub IsReader : List Gate → ℕ → Type 0
IsReader gates n = (h : Gate) × (m : ℕ) × In h gates × (h.out ≡ n) × In m h.ins

-- two gates or clock gates are two drivers
two_many : (s : Source) (lib : Library) (top : Module) (clock : Option (List ℕ)) (n : ℕ)
    → count_by (λ m. m == n) (all_drivers (circuit_of s lib top clock)) ≤ 1
    → 2 ≤ count_by (λ m. m == n) (gate_nets (gates_of (parts_in s lib (flat_of s lib top))))
    + count_by (λ m. m == n) (gated_of (parts_in s lib (flat_of s lib top))) → ⊥
unfolding circuit_of
two_many s lib top clock n most two =
    let ps = parts_in s lib (flat_of s lib top) in
    let before = bit_nets (clock_bits clock top) ++ bit_nets (data_bits clock top) ++ flat_map reg_nets (flat_map part_regs ps) in
    let gates = gate_nets (gates_of ps) in
    omega (arith, most, two, count_append (λ m. m == n) (before ++ gates) (gated_of ps), count_append (λ m. m == n) before gates)

-- a constant's net that a gate drives which reads is driven twice
seen_of : (s : Source) (lib : Library) (top : Module) (clock : Option (List ℕ)) (n : ℕ) → IsSettled s lib top (flat_of s lib top) → ArePortsBelow top clock
    → IsSeen (flat_of s lib top).scopes n ⊎ IsConst (gates_of (parts_in s lib (flat_of s lib top))) n
    → IsReader (gates_of (parts_in s lib (flat_of s lib top))) n → IsSeen (flat_of s lib top).scopes n
seen_of s lib top clock n known ports (inl seen) reader = seen
seen_of s lib top clock n known ports (inr (g, there, one, none)) (h, m, here, other, reads) =
    elim (seen_or (flat_of s lib top).scopes n) [
      | inl seen ↦ seen
      | inr unseen ↦
          let most = drivers_once s lib top clock n known.whole ports unseen in
          let two = two_counted (gates_of (parts_in s lib (flat_of s lib top))) g h n m there here one other none reads in
          absurd (two_many s lib top clock n most (omega (arith, two)))
    ]

-- so is one that a clock gate drives
gated_seen : (s : Source) (lib : Library) (top : Module) (clock : Option (List ℕ)) (n : ℕ) → IsSettled s lib top (flat_of s lib top) → ArePortsBelow top clock
    → IsSeen (flat_of s lib top).scopes n ⊎ IsConst (gates_of (parts_in s lib (flat_of s lib top))) n
    → In n (gated_of (parts_in s lib (flat_of s lib top))) → IsSeen (flat_of s lib top).scopes n
gated_seen s lib top clock n known ports (inl seen) gated = seen
gated_seen s lib top clock n known ports (inr (g, there, one, none)) gated =
    elim (seen_or (flat_of s lib top).scopes n) [
      | inl seen ↦ seen
      | inr unseen ↦
          let ps = parts_in s lib (flat_of s lib top) in
          let most = drivers_once s lib top clock n known.whole ports unseen in
          let left = gate_counted (gates_of ps) g n there one in
          let right = count_contains n (gated_of ps) (Contains-from_In (gated_of ps) n gated) in
          absurd (two_many s lib top clock n most (omega (arith, left, right)))
    ]

-- the gates of lawful parts read what the parts read
gate_reads : (nets : ℕ) (ps : List Part) (g : Gate) (m : ℕ) → All (IsLawfulPart nets) ps → In g (gates_of ps) → In m g.ins → In m (reads_of ps)
gate_reads nets [] g m lawful has reads = absurd has
gate_reads nets (part.Comb buffer ins gates ∷ ps) g m lawful has reads = elim (In-cases g gates (gates_of ps) has) [
  | inl here ↦
      let is = All-head (IsLawfulPart nets) (part.Comb buffer ins gates) ps lawful in
      let gate = all_in (IsLawfulGate nets ins) gates g is.drives here in
      In-left m ins (reads_of ps) (subst (λ (ns : List ℕ). In m ns) gate.reads reads)
  | inr later ↦
      In-right m ins (reads_of ps) (gate_reads nets ps g m (All-tail (IsLawfulPart nets) (part.Comb buffer ins gates) ps lawful) later reads)
]
gate_reads nets (part.Flop clock reg ∷ ps) g m lawful has reads =
    In-right m (clock ∷ reg.ins) (reads_of ps) (gate_reads nets ps g m (All-tail (IsLawfulPart nets) (part.Flop clock reg) ps lawful) has reads)
gate_reads nets (part.Gate clock enables out ∷ ps) g m lawful has reads =
    In-right m (clock ∷ enables) (reads_of ps) (gate_reads nets ps g m (All-tail (IsLawfulPart nets) (part.Gate clock enables out) ps lawful) has reads)

-- the last gate on a way
way_end : (gates : List Gate) (from to : ℕ) (g : Gate) (m : ℕ) → In g gates → g.out ≡ from → In m g.ins → LeadsTo gates from to → IsReader gates to
way_end gates from to g m there out reads (net.Stay n) = (g, m, there, out, reads)
way_end gates from to g m there out reads (net.Go_on first last h has first_in rest) =
    way_end gates h.out to h first (In-from_Contains gates h has) refl (In-from_Contains h.ins first first_in) rest

data_reads : (ps : List Part) (n : ℕ) → In n (flat_map part_data ps) → In n (reads_of ps)
data_reads [] n has = has
data_reads (part.Comb true ins gates ∷ ps) n has = In-right n ins (reads_of ps) (data_reads ps n has)
data_reads (part.Comb false ins gates ∷ ps) n has = elim (In-cases n ins (flat_map part_data ps) has) [
  | inl here ↦ In-left n ins (reads_of ps) here
  | inr later ↦ In-right n ins (reads_of ps) (data_reads ps n later)
]
data_reads (part.Flop clock reg ∷ ps) n has = elim (In-cases n reg.ins (flat_map part_data ps) has) [
  | inl here ↦ In-left n (clock ∷ reg.ins) (reads_of ps) (inr here)
  | inr later ↦ In-right n (clock ∷ reg.ins) (reads_of ps) (data_reads ps n later)
]
data_reads (part.Gate clock enables out ∷ ps) n has = elim (In-cases n enables (flat_map part_data ps) has) [
  | inl here ↦ In-left n (clock ∷ enables) (reads_of ps) (inr here)
  | inr later ↦ In-right n (clock ∷ enables) (reads_of ps) (data_reads ps n later)
]

pub net_of : (scopes : List Scope) (n : ℕ) → IsSeen scopes n → HasNet scopes n
net_of scopes n (scope, there, has) = (scope, Contains-from_In scopes scope there, Contains-from_In scope.nets n has)

-- a part whose clock pin is on the net is no constant and no gates
comb_unclocked : (buffer : Bool) (ins : List ℕ) (gates : List Gate) (q : Part) (pin : ℕ) → clock_of q ≡ Some pin → part.Comb buffer ins gates ≡ q → ⊥
comb_unclocked buffer ins gates q pin on same =
    let off : clock_of (part.Comb buffer ins gates) ≡ Some pin = ap (λ (p : Part). clock_of p) same ∙ on in cc

const_unclocked : (b : Bool) (own : ℕ) (q : Part) (pin : ℕ) → clock_of q ≡ Some pin → constant b own ≡ q → ⊥
const_unclocked b own q pin on same = let off : clock_of (constant b own) ≡ Some pin = ap (λ (p : Part). clock_of p) same ∙ on in cc

-- constants are no registers and no clock gates
ties_unclocked : (own : ℕ) (ws : List Wire) (q : Part) (pin : ℕ) → clock_of q ≡ Some pin → In q (ties own ws) → ⊥
ties_unclocked own [] q pin on has = has
ties_unclocked own (wire.Const b ∷ ws) q pin on (inl same) = const_unclocked b own q pin on same
ties_unclocked own (wire.Const b ∷ ws) q pin on (inr rest) = ties_unclocked (own + 1) ws q pin on rest
ties_unclocked own (wire.Net n ∷ ws) q pin on has = ties_unclocked (own + 1) ws q pin on has

pin_ties_unclocked : (conns : List Conn) (own : ℕ) (pins : List (List ℕ)) (q : Part) (pin : ℕ) → clock_of q ≡ Some pin → In q (pin_ties conns own pins) → ⊥
pin_ties_unclocked conns own [] q pin on has = has
pin_ties_unclocked conns own (name ∷ names) q pin on has =
    elim (In-cases q (ties own (wires_of conns name)) (pin_ties conns (own + 1) names) has) [
      | inl here ↦ ties_unclocked own (wires_of conns name) q pin on here
      | inr later ↦ pin_ties_unclocked conns (own + 1) names q pin on later
    ]

bit_ties_unclocked : (first : ℕ) (bits : List ℕ) (ws : List Wire) (q : Part) (pin : ℕ) → clock_of q ≡ Some pin → In q (bit_ties first bits ws) → ⊥
bit_ties_unclocked first [] ws q pin on has = has
bit_ties_unclocked first (bit ∷ bits) [] q pin on has = has
bit_ties_unclocked first (bit ∷ bits) (wire.Const b ∷ ws) q pin on (inl same) = const_unclocked b (first + bit) q pin on same
bit_ties_unclocked first (bit ∷ bits) (wire.Const b ∷ ws) q pin on (inr rest) = bit_ties_unclocked first bits ws q pin on rest
bit_ties_unclocked first (bit ∷ bits) (wire.Net m ∷ ws) q pin on has = bit_ties_unclocked first bits ws q pin on has

last_is : (xs : List Part) (p : Part) → last_part (xs ++ p ∷ []) ≡ Some p
last_is [] p = refl
last_is (x ∷ []) p = refl
last_is (x ∷ y ∷ xs) p = last_is (y ∷ xs) p

-- a part that is none of those before the last is the last
last_only : (xs : List Part) (p q : Part) → (In q xs → ⊥) → In q (xs ++ p ∷ []) → p ≡ q
last_only xs p q none has = elim (In-cases q xs (p ∷ []) has) [
  | inl here ↦ absurd (none here)
  | inr last ↦ elim last [ inl same ↦ same | inr rest ↦ absurd rest ]
]

-- a leaf that is the part
abbrev IsLeafOf : List Leaf → Part → Type 0
IsLeafOf ls q = (l : Leaf) × In l ls × (l.part ≡ q)

leaf_some : (full : List ℕ) (c : Cell) (found : Option Part) (p q : Part) → found ≡ Some p → p ≡ q → IsLeafOf (leaf_if_any full (Some c) found) q
leaf_some full c None p q is same = cc
leaf_some full c (Some x) p q is same =
    let l : Leaf = record { name = full; cell = Some c; part = x } in let same2 : x ≡ p = cc in (l, inl refl, same2 ∙ same)

-- a register's or a clock gate's part comes after constants, and so it has a leaf
clocked_leaf : (nets full : List ℕ) (conns : List Conn) (first : ℕ) (c : Cell) (last : ℕ) (ws : List Wire) (own q : Part) (pin : ℕ) → clock_of q ≡ Some pin
    → cell_ties conns first c ≡ pin_ties conns first c.inputs ++ ties last ws → cell_part nets conns first c ≡ own ∷ []
    → In q (cell_ties conns first c ++ cell_part nets conns first c)
    → IsLeafOf (leaf_if_any full (Some c) (last_part (cell_ties conns first c ++ cell_part nets conns first c))) q
clocked_leaf nets full conns first c last ws own q pin on ties_are part_is has =
    let pins = pin_ties conns first c.inputs in
    let tied = ties last ws in
    let all : cell_ties conns first c ++ cell_part nets conns first c ≡ (pins ++ tied) ++ own ∷ [] =
    ap (λ (ps : List Part). ps ++ cell_part nets conns first c) ties_are ∙ ap (λ (ps : List Part). (pins ++ tied) ++ ps) part_is in
    let none : In q (pins ++ tied) → ⊥ = λ here. elim (In-cases q pins tied here) [
      | inl l ↦ pin_ties_unclocked conns first c.inputs q pin on l
      | inr r ↦ ties_unclocked last ws q pin on r
    ] in
    let same = last_only (pins ++ tied) own q none (subst (λ (ps : List Part). In q ps) all has) in
    leaf_some full c (last_part (cell_ties conns first c ++ cell_part nets conns first c)) own q (ap last_part all ∙ last_is (pins ++ tied) own) same

cell_leaf : (nets full : List ℕ) (conns : List Conn) (first : ℕ) (c : Cell) (k : CellKind) (q : Part) (pin : ℕ) → clock_of q ≡ Some pin → c.kind ≡ k
    → In q (cell_ties conns first c ++ cell_part nets conns first c)
    → IsLeafOf (leaf_if_any full (Some c) (last_part (cell_ties conns first c ++ cell_part nets conns first c))) q
cell_leaf nets full conns first c (kind.Comb outs) q pin on is has =
    let ins = pin_nets nets conns first c.inputs in
    let own : Part = part.Comb (is_buffer_cell c.inputs outs) ins (comb_gates nets conns ins (outs_from first c) outs) in
    let ties_are : cell_ties conns first c ≡ pin_ties conns first c.inputs = rw is refl in
    let part_is : cell_part nets conns first c ≡ own ∷ [] = rw is refl in
    let all : cell_ties conns first c ++ cell_part nets conns first c ≡ pin_ties conns first c.inputs ++ own ∷ [] =
    ap (λ (ps : List Part). ps ++ cell_part nets conns first c) ties_are ∙ ap (λ (ps : List Part). pin_ties conns first c.inputs ++ ps) part_is in
    let same = last_only (pin_ties conns first c.inputs) own q (pin_ties_unclocked conns first c.inputs q pin on)
    (subst (λ (ps : List Part). In q ps) all has) in
    absurd (comb_unclocked (is_buffer_cell c.inputs outs) ins (comb_gates nets conns ins (outs_from first c) outs) q pin on same)
cell_leaf nets full conns first c (kind.Flop f) q pin on is has =
    let tied = ties (outs_from first c + length f.outs) (wires_of conns f.clock) in
    let own : Part = part.Flop (clock_net nets conns first c f) (flop_reg nets conns first c f) in
    let ties_are : cell_ties conns first c ≡ pin_ties conns first c.inputs ++ tied = rw is refl in
    let part_is : cell_part nets conns first c ≡ own ∷ [] = rw is refl in
    clocked_leaf nets full conns first c (outs_from first c + length f.outs) (wires_of conns f.clock) own q pin on ties_are part_is has
cell_leaf nets full conns first c (kind.Gate g) q pin on is has =
    let tied = ties (outs_from first c + 1) (wires_of conns g.clock) in
    let out = pin_net nets (outs_from first c) (wires_of conns g.out) in
    let own : Part = part.Gate (gate_clock nets conns first c g) (pin_nets nets conns first c.inputs) out in
    let ties_are : cell_ties conns first c ≡ pin_ties conns first c.inputs ++ tied = rw is refl in
    let part_is : cell_part nets conns first c ≡ own ∷ [] = rw is refl in
    clocked_leaf nets full conns first c (outs_from first c + 1) (wires_of conns g.clock) own q pin on ties_are part_is has
cell_leaf nets full conns first c (kind.Other o) q pin on is has =
    let none : cell_ties conns first c ++ cell_part nets conns first c ≡ [] = rw is refl in absurd (subst (λ (ps : List Part). In q ps) none has)

ports_unclocked : (first : ℕ) (conns : List Conn) (ports : List Port) (q : Part) (pin : ℕ) → clock_of q ≡ Some pin
    → In q (flat_map (λ (p : Port). bit_ties first p.bits (wires_of conns p.name)) ports) → ⊥
ports_unclocked first conns [] q pin on has = has
ports_unclocked first conns (p ∷ ports) q pin on has =
    elim (In-cases q (bit_ties first p.bits (wires_of conns p.name))
    (flat_map (λ (p : Port). bit_ties first p.bits (wires_of conns p.name)) ports) has) [
      | inl here ↦ bit_ties_unclocked first p.bits (wires_of conns p.name) q pin on here
      | inr later ↦ ports_unclocked first conns ports q pin on later
    ]

-- the parts of an instance, of what its reference stands for
abbrev inst_parts_of : List ℕ → List Conn → ℕ → Option Module → Option Cell → List Part
inst_parts_of nets conns first found owned = elim found [
  | Some m ↦ flat_map (λ (p : Port). bit_ties first p.bits (wires_of conns p.name)) m.ports
  | None ↦ elim owned [ None ↦ [] | Some c ↦ cell_ties conns first c ++ cell_part nets conns first c ]
]

abbrev inst_leaves_of : List ℕ → List Part → Option Module → Option Cell → List Leaf
inst_leaves_of full ps found owned = elim found [
  | Some m ↦ []
  | None ↦ elim owned [ None ↦ [] | Some c ↦ leaf_if_any full (Some c) (last_part ps) ]
]

inst_leaf : (nets full : List ℕ) (conns : List Conn) (first : ℕ) (found : Option Module) (owned : Option Cell) (q : Part) (pin : ℕ)
    → clock_of q ≡ Some pin → In q (inst_parts_of nets conns first found owned)
    → IsLeafOf (inst_leaves_of full (inst_parts_of nets conns first found owned) found owned) q
inst_leaf nets full conns first None None q pin on has = absurd has
inst_leaf nets full conns first None (Some c) q pin on has = cell_leaf nets full conns first c c.kind q pin on refl has
inst_leaf nets full conns first (Some m) owned q pin on has = absurd (ports_unclocked first conns m.ports q pin on has)

abbrev prim_parts : List ℕ → ℕ → PrimKind → List ℕ → List Wire → List Part
prim_parts nets first k outs ins =
    let pins = wire_nets nets first ins in
    ties first ins ++ part.Comb (is_buffer_prim k) pins (map (λ (out : ℕ). prim_gate k pins (slice_index nets out)) outs) ∷ []

prim_unclocked : (nets : List ℕ) (first : ℕ) (k : PrimKind) (outs : List ℕ) (ins : List Wire) (q : Part) (pin : ℕ) → clock_of q ≡ Some pin
    → In q (prim_parts nets first k outs ins) → ⊥
prim_unclocked nets first k outs ins q pin on has =
    let pins = wire_nets nets first ins in
    let gates = map (λ (out : ℕ). prim_gate k pins (slice_index nets out)) outs in
    comb_unclocked (is_buffer_prim k) pins gates q pin on
    (last_only (ties first ins) (part.Comb (is_buffer_prim k) pins gates) q (ties_unclocked first ins q pin on) has)

copy_unclocked : (nets : List ℕ) (first to : ℕ) (from : Wire) (q : Part) (pin : ℕ) → clock_of q ≡ Some pin → In q (copy_parts nets first to from) → ⊥
copy_unclocked nets first to from q pin on has =
    let pins = wire_net nets first from ∷ [] in
    let gates = prim_gate prim.Buf pins (slice_index nets to) ∷ [] in
    comb_unclocked true pins gates q pin on
    (last_only (ties first (from ∷ [])) (part.Comb true pins gates) q (ties_unclocked first (from ∷ []) q pin on) has)

-- the leaf of a register or a clock gate
leaf_at : (s : Source) (lib : Library) (at : Located) (x : Item) (q : Part) (pin : ℕ) → clock_of q ≡ Some pin → at.item ≡ x → In q (parts_of s lib at)
    → IsLeafOf (leaves_of s lib at) q
unfolding leaves_of inst_parts
leaf_at s lib at (item.Inst cell name conns) q pin on is has =
    let ps : parts_of s lib at ≡ inst_parts_of at.scope.nets conns at.first (module_of s cell) (cell_of lib cell) = rw is refl in
    let ls : leaves_of s lib at ≡ inst_leaves_of (at.scope.prefix ++ name) (parts_of s lib at) (module_of s cell) (cell_of lib cell) = rw is refl in
    subst (λ (xs : List Leaf). IsLeafOf xs q)
    (sym (ls ∙ ap (λ (qs : List Part). inst_leaves_of (at.scope.prefix ++ name) qs (module_of s cell) (cell_of lib cell)) ps))
    (inst_leaf at.scope.nets (at.scope.prefix ++ name) conns at.first (module_of s cell) (cell_of lib cell) q pin on
    (subst (λ (qs : List Part). In q qs) ps has))
leaf_at s lib at (item.Prim k name outs ins) q pin on is has =
    let ps : parts_of s lib at ≡ prim_parts at.scope.nets at.first k outs ins = rw is refl in
    absurd (prim_unclocked at.scope.nets at.first k outs ins q pin on (subst (λ (qs : List Part). In q qs) ps has))
leaf_at s lib at (item.Copy to from) q pin on is has =
    let ps : parts_of s lib at ≡ copy_parts at.scope.nets at.first to from = rw is refl in
    absurd (copy_unclocked at.scope.nets at.first to from q pin on (subst (λ (qs : List Part). In q qs) ps has))

-- the register or clock gate at a place among the parts has a leaf
part_named : (s : Source) (lib : Library) (flat : Flat) (place : ℕ) (q : Part) (pin : ℕ) → clock_of q ≡ Some pin
    → slice_get (parts_in s lib flat) place ≡ Some q
    → (l : Leaf) × Contains (leaves s lib flat) l × (slice_get (parts_in s lib flat) place ≡ Some l.part)
part_named s lib flat place q pin on at =
    let there = In-from_Contains (parts_in s lib flat) q (contains_at (parts_in s lib flat) place q at) in
    let (a, a_there, has) = from_flat (parts_of s lib) q flat.items there in
    let (l, l_there, is) = leaf_at s lib a a.item q pin on refl has in (
      l,
      Contains-from_In (leaves s lib flat) l (In-flat (leaves_of s lib) l a flat.items a_there l_there),
      at ∙ ap (λ (p : Part). Some p) (sym is),
    )

-- what is known where a circuit is refused
pub record IsRefusedBelow (s : Source) (lib : Library) (top : Module) (clock : Option (List ℕ)) : Type 0 where
  pub known : IsSettled s lib top (flat_of s lib top)
  pub ports : ArePortsBelow top clock
  pub lawful : IsLawfulCircuit (circuit_of s lib top clock)

abbrev pub all_parts : Source → Library → Module → List Part
all_parts s lib top = parts_in s lib (flat_of s lib top)

pub read_seen : (s : Source) (lib : Library) (top : Module) (clock : Option (List ℕ)) (n : ℕ) → IsRefusedBelow s lib top clock
    → In n (all_reads (circuit_of s lib top clock)) → IsSeen (flat_of s lib top).scopes n ⊎ IsConst (gates_of (all_parts s lib top)) n
unfolding circuit_of
read_seen s lib top clock n r has =
    elim (In-cases n (bit_nets (output_bits top)) (reads_of (all_parts s lib top)) has) [
      | inl out ↦ inl (ports_seen s lib top (flat_of s lib top) (bit_nets (output_bits top)) n r.known.whole r.ports.outputs out)
      | inr pin ↦ reads_known s lib top (flat_of s lib top) n r.known pin
    ]

pub data_seen : (s : Source) (lib : Library) (top : Module) (clock : Option (List ℕ)) (n : ℕ) → IsRefusedBelow s lib top clock
    → In n (all_data (circuit_of s lib top clock)) → IsSeen (flat_of s lib top).scopes n ⊎ IsConst (gates_of (all_parts s lib top)) n
unfolding circuit_of
data_seen s lib top clock n r has =
    elim (In-cases n (bit_nets (output_bits top)) (flat_map part_data (all_parts s lib top)) has) [
      | inl out ↦ inl (ports_seen s lib top (flat_of s lib top) (bit_nets (output_bits top)) n r.known.whole r.ports.outputs out)
      | inr pin ↦ reads_known s lib top (flat_of s lib top) n r.known (data_reads (all_parts s lib top) n pin)
    ]

-- a gate that reads drives the net, or a clock gate does
abbrev pub IsHandedOn : List Part → ℕ → Type 0
IsHandedOn ps n = IsReader (gates_of ps) n ⊎ In n (gated_of ps)

pub tree_seen : (s : Source) (lib : Library) (top : Module) (clock : Option (List ℕ)) (n : ℕ) (odd : Bool) → IsRefusedBelow s lib top clock
    → OnTree (circuit_of s lib top clock) n odd → IsSeen (flat_of s lib top).scopes n ⊎ IsHandedOn (all_parts s lib top) n
unfolding circuit_of
tree_seen s lib top clock n odd r (net.Root m there) =
    inl (ports_seen s lib top (flat_of s lib top) (bit_nets (clock_bits clock top)) m r.known.whole r.ports.clocks
    (In-from_Contains (bit_nets (clock_bits clock top)) m there))
tree_seen s lib top clock n odd r (net.Buffered from gates g even has g_there tree) =
    let ps = all_parts s lib top in
    let p : Part = part.Comb true (from ∷ []) gates in
    let p_in = In-from_Contains ps p has in
    let is = all_in (IsLawfulPart (flat_of s lib top).count) ps p r.lawful.parts p_in in
    let gate = all_in (IsLawfulGate (flat_of s lib top).count (from ∷ [])) gates g is.drives (In-from_Contains gates g g_there) in
    let reads : In from g.ins = subst (λ (ns : List ℕ). In from ns) (sym gate.reads) (inl refl) in
    inr (inl (g, from, In-flat part_gates g p ps p_in (In-from_Contains gates g g_there), refl, reads))
tree_seen s lib top clock n odd r (net.Gated from enables out has tree) =
    let ps = all_parts s lib top in
    let p : Part = part.Gate from enables out in
    inr (inr (In-flat part_gated out p ps (In-from_Contains ps p has) (inl refl)))

pub either_seen : (s : Source) (lib : Library) (top : Module) (clock : Option (List ℕ)) (n : ℕ) → IsRefusedBelow s lib top clock
    → IsSeen (flat_of s lib top).scopes n ⊎ IsConst (gates_of (all_parts s lib top)) n
    → IsSeen (flat_of s lib top).scopes n ⊎ IsHandedOn (all_parts s lib top) n → IsSeen (flat_of s lib top).scopes n
either_seen s lib top clock n r read (inl seen) = seen
either_seen s lib top clock n r read (inr (inl reader)) = seen_of s lib top clock n r.known r.ports read reader
either_seen s lib top clock n r read (inr (inr gated)) = gated_seen s lib top clock n r.known r.ports read gated

pub loop_seen : (s : Source) (lib : Library) (top : Module) (clock : Option (List ℕ)) (n : ℕ) → IsRefusedBelow s lib top clock
    → IsOnCycle (all_gates (circuit_of s lib top clock)) n → IsSeen (flat_of s lib top).scopes n
unfolding circuit_of
loop_seen s lib top clock n r cycle =
    let ps = all_parts s lib top in
    let g = cycle.gate in
    let there = In-from_Contains (gates_of ps) g cycle.there in
    let reads = In-from_Contains g.ins n cycle.reads in
    let known = reads_known s lib top (flat_of s lib top) n r.known (gate_reads (flat_of s lib top).count ps g n r.lawful.parts there reads) in
    seen_of s lib top clock n r.known r.ports known (way_end (gates_of ps) g.out n g n there refl reads cycle.back)

pub clocked_named : (s : Source) (lib : Library) (top : Module) (clock : Option (List ℕ)) (place : ℕ) (q : Part) (pin : ℕ) → clock_of q ≡ Some pin
    → slice_get (circuit_of s lib top clock).parts place ≡ Some q
    → (l : Leaf) × Contains (leaves s lib (flat_of s lib top)) l × (slice_get (circuit_of s lib top clock).parts place ≡ Some l.part)
unfolding circuit_of
clocked_named s lib top clock place q pin on at = part_named s lib (flat_of s lib top) place q pin on at
