-- The nets of ports, bit by bit and port by port.
use Rattle.std.proofs.Common.{◌≡◌, ℕ, ◌+◌, Bool, true, false, not, cond, List, [], ◌∷◌, ◌++◌, take, map, Some, None, refl, ap, subst, sym, ◌∙◌}
use Rattle.std.proofs.Common.{append_assoc}
use Rattle.std.specs.Prelude.{Option, filter, flat_map, slice_get}
use Rattle.std.proofs.lemmas.List.{map-append}
use Rattle.std.proofs.lemmas.List.Concat.{flat_map-append}
use Rattle.std.proofs.lemmas.List.Elements.{filter-append}
use Rattle.netlist_types.specs.declared.sources.Module.{Module}
use Rattle.netlist_types.specs.declared.sources.Port.{Port}
use Rattle.netlist_types.specs.declared.sources.Dir.{Dir}
use Rattle.netlist_types.specs.declared.sources.Dir.TheVariants as dir
use Rattle.link_defs.specs.Circuits.{PortBit, bits_of, port_bit, is_input, is_clock, bit_nets}
use Rattle.link_items.proofs.Listing.{take_next, with_none}
use Rattle.link_circuit.specs.declared.ports.PortNets.{PortNets}
use Rattle.link_circuit.specs.Ports.{is_clock_net, HasNet, HasInputs, HasPortAs}

filter_yes : {X : Type 0} (p : X → Bool) (xs : List X) (x : X) → p x ≡ true → filter p (xs ++ x ∷ []) ≡ filter p xs ++ x ∷ []
filter_yes p xs x hit = filter-append p xs (x ∷ []) ∙ ap (λ b. filter p xs ++ cond b (x ∷ []) []) hit

filter_no : {X : Type 0} (p : X → Bool) (xs : List X) (x : X) → p x ≡ false → filter p (xs ++ x ∷ []) ≡ filter p xs
filter_no p xs x miss = filter-append p xs (x ∷ []) ∙ ap (λ b. filter p xs ++ cond b (x ∷ []) []) miss ∙ with_none (filter p xs)

-- behind what was there, one more
behind : {X : Type 0} (new now old front more : List X) (all : List X) → new ≡ now ++ more → now ≡ old ++ front → all ≡ front ++ more → new ≡ old ++ all
behind new now old front more all made so_far is =
    made ∙ ap (λ xs. xs ++ more) so_far ∙ append_assoc old front more ∙ ap (λ xs. old ++ xs) (sym is)

input_more : (m : Module) (clock : Option (List ℕ)) (bits : List ℕ) (net : ℕ) (old now new : PortNets) (b : Bool) → is_clock_net m clock net ≡ b
    → HasInputs m clock bits old now → HasNet b net now new → HasInputs m clock (bits ++ net ∷ []) old new
input_more m clock bits net old now new true hit so_far (clocks, inputs, outputs) = record {
  clocks = behind new.clocks now.clocks old.clocks (filter (is_clock_net m clock) bits) (net ∷ []) (filter (is_clock_net m clock) (bits ++ net ∷ [])) clocks
      so_far.clocks (filter_yes (is_clock_net m clock) bits net hit);
  inputs = inputs ∙ so_far.inputs ∙ ap (λ (ns : List ℕ). old.inputs ++ ns) (sym (filter_no (λ (n : ℕ). not (is_clock_net m clock n)) bits net (ap not hit)));
  outputs = outputs ∙ so_far.outputs;
}
input_more m clock bits net old now new false miss so_far (clocks, inputs, outputs) = record {
  clocks = clocks ∙ so_far.clocks ∙ ap (λ (ns : List ℕ). old.clocks ++ ns) (sym (filter_no (is_clock_net m clock) bits net miss));
  inputs = behind new.inputs now.inputs old.inputs (filter (λ (n : ℕ). not (is_clock_net m clock n)) bits) (net ∷ [])
      (filter (λ (n : ℕ). not (is_clock_net m clock n)) (bits ++ net ∷ [])) inputs so_far.inputs
      (filter_yes (λ (n : ℕ). not (is_clock_net m clock n)) bits net (ap not miss));
  outputs = outputs ∙ so_far.outputs;
}

-- with one bit more of an input port
pub inputs_more : (m : Module) (clock : Option (List ℕ)) (bits : List ℕ) (k net : ℕ) (old now new : PortNets) (b : Bool) → slice_get bits k ≡ Some net
    → b ≡ is_clock_net m clock net → HasInputs m clock (take k bits) old now → HasNet b net now new → HasInputs m clock (take (k + 1) bits) old new
inputs_more m clock bits k net old now new b at is so_far added =
    subst (λ (ns : List ℕ). HasInputs m clock ns old new) (sym (take_next bits k net at))
    (input_more m clock (take k bits) net old now new b (sym is) so_far added)

pub no_inputs : (m : Module) (clock : Option (List ℕ)) (old : PortNets) → HasInputs m clock [] old old
no_inputs m clock old = record { clocks = sym (with_none old.clocks); inputs = sym (with_none old.inputs); outputs = refl }

-- a bit kept, or not
kept_bit : (b : Bool) (bit : PortBit) (rest : List PortBit) (ns : List ℕ) → bit_nets rest ≡ ns → bit_nets (cond b (bit ∷ rest) rest) ≡ cond b (bit.net ∷ ns) ns
kept_bit true bit rest ns is = ap (λ (xs : List ℕ). bit.net ∷ xs) is
kept_bit false bit rest ns is = is

-- the nets of bits that pass a test by their names
tested : (m : Module) (p : Port) (c : PortBit → Bool) (t : ℕ → Bool) → ((n : ℕ) → c (port_bit m p n) ≡ t n) → (bits : List ℕ)
    → bit_nets (filter c (map (port_bit m p) bits)) ≡ filter t bits
tested m p c t same [] = refl
tested m p c t same (n ∷ ns) =
    kept_bit (c (port_bit m p n)) (port_bit m p n) (filter c (map (port_bit m p) ns)) (filter t ns) (tested m p c t same ns)
    ∙ ap (λ b. cond b (n ∷ filter t ns) (filter t ns)) (same n)

clock_same : (m : Module) (p : Port) (clock : Option (List ℕ)) (n : ℕ) → is_clock clock (port_bit m p n) ≡ is_clock_net m clock n
clock_same m p None n = refl
clock_same m p (Some name) n = refl

all_nets : (m : Module) (p : Port) (bits : List ℕ) → bit_nets (map (port_bit m p) bits) ≡ bits
all_nets m p [] = refl
all_nets m p (n ∷ ns) = ap (λ (xs : List ℕ). n ∷ xs) (all_nets m p ns)

-- the bits of those ports that pass a test
abbrev pub bits_in : (Port → Bool) → Module → List Port → List PortBit
bits_in t m ports = flat_map (bits_of m) (filter t ports)

abbrev pub reads : Port → Bool
reads p = is_input p.dir

abbrev pub drives : Port → Bool
drives p = not (is_input p.dir)

-- the nets of these ports
pub record ArePorts (m : Module) (clock : Option (List ℕ)) (ports : List Port) (nets : PortNets) : Type 0 where
  pub clocks : nets.clocks ≡ bit_nets (filter (is_clock clock) (bits_in reads m ports))
  pub inputs : nets.inputs ≡ bit_nets (filter (λ (b : PortBit). not (is_clock clock b)) (bits_in reads m ports))
  pub outputs : nets.outputs ≡ bit_nets (bits_in drives m ports)

bits_yes : (t : Port → Bool) (m : Module) (ports : List Port) (p : Port) → t p ≡ true → bits_in t m (ports ++ p ∷ []) ≡ bits_in t m ports ++ bits_of m p
bits_yes t m ports p hit =
    ap (λ (ps : List Port). flat_map (bits_of m) ps) (filter_yes t ports p hit) ∙ flat_map-append (bits_of m) (filter t ports) (p ∷ [])
    ∙ ap (λ (bs : List PortBit). bits_in t m ports ++ bs) (with_none (bits_of m p))

bits_no : (t : Port → Bool) (m : Module) (ports : List Port) (p : Port) → t p ≡ false → bits_in t m (ports ++ p ∷ []) ≡ bits_in t m ports
bits_no t m ports p miss = ap (λ (ps : List Port). flat_map (bits_of m) ps) (filter_no t ports p miss)

-- the nets of bits that pass a test, of one input port more
nets_more : (m : Module) (ports : List Port) (p : Port) (c : PortBit → Bool) (t : ℕ → Bool) → ((n : ℕ) → c (port_bit m p n) ≡ t n) → reads p ≡ true
    → bit_nets (filter c (bits_in reads m (ports ++ p ∷ []))) ≡ bit_nets (filter c (bits_in reads m ports)) ++ filter t p.bits
nets_more m ports p c t same hit =
    ap (λ (bs : List PortBit). bit_nets (filter c bs)) (bits_yes reads m ports p hit)
    ∙ ap (λ (bs : List PortBit). bit_nets bs) (filter-append c (bits_in reads m ports) (bits_of m p))
    ∙ map-append (λ (b : PortBit). b.net) (filter c (bits_in reads m ports)) (filter c (bits_of m p))
    ∙ ap (λ (ns : List ℕ). bit_nets (filter c (bits_in reads m ports)) ++ ns) (tested m p c t same p.bits)

-- of one input port more
read_more : (m : Module) (clock : Option (List ℕ)) (ports : List Port) (p : Port) (now new : PortNets) → reads p ≡ true
    → ArePorts m clock ports now → HasInputs m clock p.bits now new → ArePorts m clock (ports ++ p ∷ []) new
read_more m clock ports p now new hit so_far added =
    record {
      clocks = added.clocks ∙ ap (λ (ns : List ℕ). ns ++ filter (is_clock_net m clock) p.bits) so_far.clocks
          ∙ sym (nets_more m ports p (is_clock clock) (is_clock_net m clock) (clock_same m p clock) hit);
      inputs = added.inputs ∙ ap (λ (ns : List ℕ). ns ++ filter (λ (n : ℕ). not (is_clock_net m clock n)) p.bits) so_far.inputs
          ∙ sym (nets_more m ports p (λ (b : PortBit). not (is_clock clock b)) (λ (n : ℕ). not (is_clock_net m clock n))
          (λ n. ap not (clock_same m p clock n)) hit);
      outputs = added.outputs ∙ so_far.outputs ∙ ap (λ (bs : List PortBit). bit_nets bs) (sym (bits_no drives m ports p (ap not hit)));
    }

port_more : (m : Module) (clock : Option (List ℕ)) (ports : List Port) (p : Port) (now new : PortNets) (d : Dir) → p.dir ≡ d
    → ArePorts m clock ports now → HasPortAs m clock p.bits d now new → ArePorts m clock (ports ++ p ∷ []) new
port_more m clock ports p now new dir.Input is so_far added = read_more m clock ports p now new (ap is_input is) so_far added
port_more m clock ports p now new dir.Inout is so_far added = read_more m clock ports p now new (ap is_input is) so_far added
port_more m clock ports p now new dir.Output is so_far (clocks, inputs, outputs) =
    let miss : reads p ≡ false = ap is_input is in
    let same = sym (bits_no reads m ports p miss) in
    record {
      clocks = clocks ∙ so_far.clocks ∙ ap (λ (bs : List PortBit). bit_nets (filter (is_clock clock) bs)) same;
      inputs = inputs ∙ so_far.inputs ∙ ap (λ (bs : List PortBit). bit_nets (filter (λ (b : PortBit). not (is_clock clock b)) bs)) same;
      outputs =
          outputs ∙ ap (λ (ns : List ℕ). ns ++ p.bits) so_far.outputs
          ∙ ap (λ (ns : List ℕ). bit_nets (bits_in drives m ports) ++ ns) (sym (all_nets m p p.bits))
          ∙ sym (map-append (λ (b : PortBit). b.net) (bits_in drives m ports) (bits_of m p))
          ∙ ap (λ (bs : List PortBit). bit_nets bs) (sym (bits_yes drives m ports p (ap not miss)));
    }

-- with one port more
pub ports_more : (m : Module) (clock : Option (List ℕ)) (ports : List Port) (k : ℕ) (p : Port) (now new : PortNets) → slice_get ports k ≡ Some p
    → ArePorts m clock (take k ports) now → HasPortAs m clock p.bits p.dir now new → ArePorts m clock (take (k + 1) ports) new
ports_more m clock ports k p now new at so_far added =
    subst (λ (ps : List Port). ArePorts m clock ps new) (sym (take_next ports k p at)) (port_more m clock (take k ports) p now new p.dir refl so_far added)
