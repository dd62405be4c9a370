-- The circuit of a flat netlist is lawful.
use Rattle.std.proofs.Common.{ℕ, ◌<◌, not, List, get_or, All, arith, ◌≡◌, ap, ◌∙◌}
use Rattle.std.specs.Prelude.{Option, filter, flat_map}
use Rattle.std.proofs.lemmas.List.Elements.{All-filter, All-map}
use Rattle.net_model.specs.Netlist.{AllBelow}
use Rattle.netlist_types.specs.declared.sources.Source.{Source}
use Rattle.netlist_types.specs.declared.sources.Module.{Module}
use Rattle.netlist_types.specs.declared.sources.Port.{Port}
use Rattle.netlist_types.specs.Lawful.{IsLawful, IsLawfulModule}
use Rattle.cell_types.specs.declared.libraries.Library.{Library}
use Rattle.cell_types.specs.Libraries.{IsLawful as IsLawfulLibrary}
use Rattle.link_defs.specs.declared.circuits.Circuit.{Circuit}
use Rattle.link_defs.specs.declared.circuits.Part.{Part}
use Rattle.link_defs.specs.Circuits.{PortBit, circuit_of, bits_of, port_bit, input_bits, output_bits, is_input, is_clock, data_bits, clock_bits, bit_nets}
use Rattle.link_defs.specs.Flatten.{flat_of}
use Rattle.link_defs.specs.Parts.{parts_of}
use Rattle.link_items.proofs.Pinned.{port_bits}
use Rattle.link_design.specs.Lawful.{IsLawfulCircuit, IsLawfulPart}
use Rattle.link_circuit.specs.Flats.{AreFine}
use Rattle.link_circuit.proofs.Lawfully.{all_flat}
use Rattle.link_circuit.proofs.Parting.{item_lawful}
use Rattle.link_circuit.proofs.Placing.{ArePlaced, flat_placed}

-- the bit is one of so many nets
abbrev IsBit : ℕ → PortBit → Type 0
IsBit total b = b.net < total

bits_below : (m : Module) (total : ℕ) (ports : List Port) → All (λ (p : Port). AllBelow total p.bits) ports → All (IsBit total) (flat_map (bits_of m) ports)
bits_below m total ports below =
    all_flat (IsBit total) (bits_of m) ports
    (λ k d lt. All-map (IsBit total) (port_bit m (get_or ports k d)) (get_or ports k d).bits (below k d lt))

nets_below : (total : ℕ) (bits : List PortBit) → All (IsBit total) bits → AllBelow total (bit_nets bits)
nets_below total bits below = All-map (λ (n : ℕ). n < total) (λ (b : PortBit). b.net) bits below

-- the parts of all items
parts_lawful : (s : Source) (lib : Library) (top : Module) → IsLawful s → IsLawfulLibrary lib.cells → AreFine s lib (flat_of s lib top)
    → ArePlaced s lib (flat_of s lib top) → All (IsLawfulPart (flat_of s lib top).count) (flat_map (parts_of s lib) (flat_of s lib top).items)
parts_lawful s lib top lawful cells fine placed =
    let items = (flat_of s lib top).items in
    all_flat (IsLawfulPart (flat_of s lib top).count) (parts_of s lib) items
    (λ k d lt. let at = placed k d lt in
    item_lawful s lib (flat_of s lib top).count (get_or items k d).scope (get_or items k d).first (get_or items k d).item lawful cells at.nets at.item
    (fine.items k d lt) at.room)

pub circuit_lawful : (s : Source) (lib : Library) (top : Module) → IsLawful s → IsLawfulLibrary lib.cells → IsLawfulModule s top
    → AreFine s lib (flat_of s lib top) → (clock : Option (List ℕ)) → IsLawfulCircuit (circuit_of s lib top clock)
unfolding circuit_of
circuit_lawful s lib top lawful cells is fine clock =
    let placed = flat_placed s lib top lawful is in
    let total = (flat_of s lib top).count in
    let below : All (λ (p : Port). AllBelow total p.bits) top.ports =
    λ k d lt j e within. omega (arith, placed.0, port_bits s top is k d lt j e within) in
    let ins : All (IsBit total) (input_bits top) =
    bits_below top total (filter (λ (p : Port). is_input p.dir) top.ports)
    (All-filter (λ (p : Port). is_input p.dir) (λ (p : Port). AllBelow total p.bits) top.ports below) in
    let outs : All (IsBit total) (output_bits top) =
    bits_below top total (filter (λ (p : Port). not (is_input p.dir)) top.ports)
    (All-filter (λ (p : Port). not (is_input p.dir)) (λ (p : Port). AllBelow total p.bits) top.ports below) in
    record {
      clocks = nets_below total (clock_bits clock top) (All-filter (is_clock clock) (IsBit total) (input_bits top) ins);
      inputs = nets_below total (data_bits clock top) (All-filter (λ (b : PortBit). not (is_clock clock b)) (IsBit total) (input_bits top) ins);
      outputs = nets_below total (output_bits top) outs;
      parts = parts_lawful s lib top lawful cells fine placed.1;
    }

-- a circuit is its nets and its parts
pub circuit_made : (s : Source) (lib : Library) (top : Module) (clock : Option (List ℕ)) (nets : ℕ) (clocks inputs outputs : List ℕ) (parts : List Part)
    → nets ≡ (flat_of s lib top).count → clocks ≡ bit_nets (clock_bits clock top) → inputs ≡ bit_nets (data_bits clock top)
    → outputs ≡ bit_nets (output_bits top) → parts ≡ flat_map (parts_of s lib) (flat_of s lib top).items
    → ◌≡◌ {A = Circuit} (record { nets = nets; clocks = clocks; inputs = inputs; outputs = outputs; parts = parts }) (circuit_of s lib top clock)
unfolding circuit_of
circuit_made s lib top clock nets clocks inputs outputs parts nets_are clocks_are inputs_are outputs_are parts_are =
    let make = λ (n : ℕ) (c i o : List ℕ) (ps : List Part). let r : Circuit = record { nets = n; clocks = c; inputs = i; outputs = o; parts = ps } in r in
    ap (λ (n : ℕ). make n clocks inputs outputs parts) nets_are
    ∙ ap (λ (c : List ℕ). make (flat_of s lib top).count c inputs outputs parts) clocks_are
    ∙ ap (λ (i : List ℕ). make (flat_of s lib top).count (bit_nets (clock_bits clock top)) i outputs parts) inputs_are
    ∙ ap (λ (o : List ℕ). make (flat_of s lib top).count (bit_nets (clock_bits clock top)) (bit_nets (data_bits clock top)) o parts) outputs_are
    ∙ ap (λ (ps : List Part). make (flat_of s lib top).count (bit_nets (clock_bits clock top)) (bit_nets (data_bits clock top)) (bit_nets (output_bits top)) ps)
    parts_are
