-- The gates, marks, drivers and readers of a circuit, part by part.
use Rattle.std.proofs.Common.{◌≡◌, ℕ, zero, suc, ◌<◌, Bool, List, [], ◌∷◌, ◌++◌, map, length, get_or, All, refl, ap, subst}
use Rattle.std.proofs.Common.{sym, ◌∙◌, arith, inl, inr}
use Rattle.std.specs.Prelude.{Some, slice_get, flat_map, ◌⊎◌}
use Rattle.std.proofs.lemmas.List.{append_assoc}
use Rattle.std.proofs.lemmas.List.Elements.{All-append}
use Rattle.net_model.specs.Netlist.{AllBelow, reg_nets, gate_nets}
use Rattle.net_model.proofs.Members.{In, In-from_Contains, Contains-from_In, from_flat, from_map}
use Rattle.net_model.specs.declared.netlist.Gate.{Gate}
use Rattle.link_defs.specs.declared.circuits.Circuit.{Circuit}
use Rattle.link_defs.specs.declared.circuits.Part.{Part}
use Rattle.link_defs.specs.declared.circuits.Part.TheVariants as part
use Rattle.link_defs.specs.Circuits.{part_gates, part_regs, part_gated, part_reads, regs_of, all_gates, all_drivers, all_reads}
use Rattle.link_design.specs.Lawful.{IsLawfulCircuit, IsLawfulPart, IsLawfulComb, IsLawfulGate}
use Rattle.link_design.specs.Lists.{part_reg_nets, part_marks, data_sources, all_sources}

-- what holds of all holds of an item
pub all_in : {X : Type 0} (P : X → Type 0) (xs : List X) → All P xs → (x : X) → In x xs → P x
all_in P xs all x has = let (k, lt, same) = Contains-from_In xs x has in subst P same (all k x lt)

-- an item is what stands at its place, whatever else would
item_is : {X : Type 0} (xs : List X) (k : ℕ) (d : X) → k < length xs → get_or xs k (get_or xs k d) ≡ get_or xs k d
item_is [] k d lt = absurd (omega arith)
item_is (x ∷ xs) zero d lt = refl
item_is (x ∷ xs) (suc k) d lt = item_is xs k d (omega arith)

-- and the other way round
pub all_from_in : {X : Type 0} (P : X → Type 0) (xs : List X) → ((x : X) → In x xs → P x) → All P xs
all_from_in P xs each = λ k d lt. each (get_or xs k d) (In-from_Contains xs (get_or xs k d) (k, lt, item_is xs k d lt))

-- the nets that registers drive, part by part
reg_nets_are : (parts : List Part) → flat_map part_reg_nets parts ≡ flat_map reg_nets (flat_map part_regs parts)
reg_nets_are [] = refl
reg_nets_are (part.Comb buffer ins gates ∷ parts) = reg_nets_are parts
reg_nets_are (part.Flop clock reg ∷ parts) = ap (λ (ns : List ℕ). reg_nets reg ++ ns) (reg_nets_are parts)
reg_nets_are (part.Gate clock enables out ∷ parts) = reg_nets_are parts

pub data_sources_are : (c : Circuit) → data_sources c ≡ c.inputs ++ flat_map reg_nets (regs_of c)
data_sources_are c = ap (λ (ns : List ℕ). c.inputs ++ ns) (reg_nets_are c.parts)

-- the clock, the data inputs and registers, the gates, and the clock gates are all drivers
pub drivers_are : (c : Circuit) → (c.clocks ++ data_sources c) ++ gate_nets (all_gates c) ++ flat_map part_gated c.parts ≡ all_drivers c
drivers_are c =
    ap (λ (ns : List ℕ). ns ++ gate_nets (all_gates c) ++ flat_map part_gated c.parts)
    (ap (λ (ns : List ℕ). c.clocks ++ ns) (data_sources_are c) ∙ sym (append_assoc c.clocks c.inputs (flat_map reg_nets (regs_of c))))

-- the part that a gate is of
pub record IsGateOf (c : Circuit) (g : Gate) : Type 0 where
  pub buffer : Bool
  pub ins : List ℕ
  pub gates : List Gate
  pub stands : In (part.Comb buffer ins gates) c.parts
  pub there : In g gates
  pub comb : IsLawfulComb c.nets buffer ins gates
  pub own : IsLawfulGate c.nets ins g

gate_part : (c : Circuit) (g : Gate) (p : Part) → IsLawfulPart c.nets p → In p c.parts → In g (part_gates p) → IsGateOf c g
gate_part c g (part.Comb buffer ins gates) lawful stands has =
    record {
      buffer = buffer;
      ins = ins;
      gates = gates;
      stands = stands;
      there = has;
      comb = lawful;
      own =
          all_in (IsLawfulGate c.nets ins) gates lawful.drives g has;
    }
gate_part c g (part.Flop clock reg) lawful stands has = absurd has
gate_part c g (part.Gate clock enables out) lawful stands has = absurd has

pub gate_of_part : (c : Circuit) → IsLawfulCircuit c → (g : Gate) → In g (all_gates c) → IsGateOf c g
gate_of_part c lawful g has =
    let (p, stands, there) = from_flat part_gates g c.parts has in
    gate_part c g p (all_in (IsLawfulPart c.nets) c.parts lawful.parts p stands) stands there

-- the nets of a gate are the circuit's
pub gate_reads : (c : Circuit) → IsLawfulCircuit c → (g : Gate) → In g (all_gates c) → AllBelow c.nets g.ins
gate_reads c lawful g has = let of = gate_of_part c lawful g has in subst (λ (ns : List ℕ). AllBelow c.nets ns) (sym of.own.reads) of.comb.reads

pub gates_below : (c : Circuit) → IsLawfulCircuit c → AllBelow c.nets (gate_nets (all_gates c))
gates_below c lawful = all_from_in (λ (n : ℕ). n < c.nets) (gate_nets (all_gates c)) (λ n has.
    let (g, there, out) = from_map (λ (g : Gate). g.out) n (all_gates c) has in
    subst (λ (m : ℕ). m < c.nets) out (gate_of_part c lawful g there).own.out)

reg_part : (c : Circuit) (n : ℕ) (p : Part) → IsLawfulPart c.nets p → In n (part_reg_nets p) → n < c.nets
reg_part c n (part.Comb buffer ins gates) lawful has = absurd has
reg_part c n (part.Flop clock reg) lawful has = all_in (λ (m : ℕ). m < c.nets) (reg_nets reg) lawful.outs n has
reg_part c n (part.Gate clock enables out) lawful has = absurd has

pub data_sources_below : (c : Circuit) → IsLawfulCircuit c → AllBelow c.nets (data_sources c)
data_sources_below c lawful =
    All-append (λ (n : ℕ). n < c.nets) c.inputs (flat_map part_reg_nets c.parts) lawful.inputs
    (all_from_in (λ (n : ℕ). n < c.nets) (flat_map part_reg_nets c.parts) (λ n has.
    let (p, stands, there) = from_flat part_reg_nets n c.parts has in
    reg_part c n p (all_in (IsLawfulPart c.nets) c.parts lawful.parts p stands) there))

-- the net that a lawful clock gate drives is one of so many
gated_part : (nets n : ℕ) (p : Part) → IsLawfulPart nets p → In n (part_gated p) → n < nets
gated_part nets n (part.Comb buffer ins gates) lawful has = absurd has
gated_part nets n (part.Flop clock reg) lawful has = absurd has
gated_part nets n (part.Gate clock enables out) lawful (inl here) = subst (λ (m : ℕ). m < nets) here lawful.out_net
gated_part nets n (part.Gate clock enables out) lawful (inr later) = absurd later

-- the nets that clock gates drive are the circuit's
pub gated_below : (c : Circuit) → IsLawfulCircuit c → AllBelow c.nets (flat_map part_gated c.parts)
gated_below c lawful = all_from_in (λ (n : ℕ). n < c.nets) (flat_map part_gated c.parts) (λ n has.
    let (p, stands, there) = from_flat part_gated n c.parts has in
    gated_part c.nets n p (all_in (IsLawfulPart c.nets) c.parts lawful.parts p stands) there)

-- the nets that the clock, data inputs and registers drive are the circuit's
clock_and_data_below : (c : Circuit) → IsLawfulCircuit c → AllBelow c.nets (c.clocks ++ data_sources c)
clock_and_data_below c lawful = All-append (λ (n : ℕ). n < c.nets) c.clocks (data_sources c) lawful.clocks (data_sources_below c lawful)

-- so are all that something drives
pub drivers_below : (c : Circuit) → IsLawfulCircuit c
    → AllBelow c.nets ((c.clocks ++ data_sources c) ++ gate_nets (all_gates c) ++ flat_map part_gated c.parts)
drivers_below c lawful =
    All-append (λ (n : ℕ). n < c.nets) ((c.clocks ++ data_sources c) ++ gate_nets (all_gates c)) (flat_map part_gated c.parts)
    (All-append (λ (n : ℕ). n < c.nets) (c.clocks ++ data_sources c) (gate_nets (all_gates c)) (clock_and_data_below c lawful) (gates_below c lawful))
    (gated_below c lawful)

-- the nets that something other than a gate drives are the circuit's
pub sources_below : (c : Circuit) → IsLawfulCircuit c → AllBelow c.nets (all_sources c)
sources_below c lawful =
    All-append (λ (n : ℕ). n < c.nets) (c.clocks ++ data_sources c) (flat_map part_gated c.parts) (clock_and_data_below c lawful) (gated_below c lawful)

read_part : (c : Circuit) (n : ℕ) (p : Part) → IsLawfulPart c.nets p → In n (part_reads p) → n < c.nets
read_part c n (part.Comb buffer ins gates) lawful has = all_in (λ (m : ℕ). m < c.nets) ins lawful.reads n has
read_part c n (part.Flop clock reg) lawful (inl here) = subst (λ (m : ℕ). m < c.nets) here lawful.clock_net
read_part c n (part.Flop clock reg) lawful (inr later) = all_in (λ (m : ℕ). m < c.nets) reg.ins lawful.reads n later
read_part c n (part.Gate clock enables out) lawful (inl here) = subst (λ (m : ℕ). m < c.nets) here lawful.clock_net
read_part c n (part.Gate clock enables out) lawful (inr later) = all_in (λ (m : ℕ). m < c.nets) enables lawful.reads n later

pub reads_below : (c : Circuit) → IsLawfulCircuit c → AllBelow c.nets (all_reads c)
reads_below c lawful =
    All-append (λ (n : ℕ). n < c.nets) c.outputs (flat_map part_reads c.parts) lawful.outputs
    (all_from_in (λ (n : ℕ). n < c.nets) (flat_map part_reads c.parts) (λ n has.
    let (p, stands, there) = from_flat part_reads n c.parts has in
    read_part c n p (all_in (IsLawfulPart c.nets) c.parts lawful.parts p stands) there))

-- a gate at a place is one of a part's gates, with the part's mark, or one of the gates after them
mark_or : (b : Bool) (gates after : List Gate) (marks : List Bool) (k : ℕ) (g : Gate) → slice_get (gates ++ after) k ≡ Some g
    → (In g gates × (slice_get (map (λ (_ : Gate). b) gates ++ marks) k ≡ Some b)) ⊎
    ((j : ℕ) × (slice_get after j ≡ Some g) × (slice_get (map (λ (_ : Gate). b) gates ++ marks) k ≡ slice_get marks j))
mark_or b [] after marks k g at = inr (k, at, refl)
mark_or b (x ∷ gates) after marks zero g at = inl (inl (cc), refl)
mark_or b (x ∷ gates) after marks (suc k) g at = elim (mark_or b gates after marks k g at) [
  | inl here ↦ inl (inr here.0, here.1)
  | inr later ↦ inr later
]

-- the part of a gate at a place, and its mark
pub record IsMarkedGate (parts : List Part) (g : Gate) (mark : Bool) : Type 0 where
  pub ins : List ℕ
  pub gates : List Gate
  pub stands : In (part.Comb mark ins gates) parts
  pub there : In g gates

further : (p : Part) (parts : List Part) (g : Gate) (mark : Bool) → IsMarkedGate parts g mark → IsMarkedGate (p ∷ parts) g mark
further p parts g mark of = record { ins = of.ins; gates = of.gates; stands = inr of.stands; there = of.there }

pub marked_gate : (parts : List Part) (k : ℕ) (g : Gate) → slice_get (flat_map part_gates parts) k ≡ Some g → (mark : Bool)
    × (slice_get (flat_map part_marks parts) k ≡ Some mark) × IsMarkedGate parts g mark
marked_gate [] k g at = cc
marked_gate (part.Comb b ins gates ∷ parts) k g at = elim (mark_or b gates (flat_map part_gates parts) (flat_map part_marks parts) k g at) [
  | inl here ↦ (b, here.1, record { ins = ins; gates = gates; stands = inl refl; there = here.0 })
  | inr later ↦
      let (j, at_j, same) = later in
      let (mark, is, of) = marked_gate parts j g at_j in
      (mark, same ∙ is, further (part.Comb b ins gates) parts g mark of)
]
marked_gate (part.Flop clock reg ∷ parts) k g at =
    let (mark, is, of) = marked_gate parts k g at in (mark, is, further (part.Flop clock reg) parts g mark of)
marked_gate (part.Gate clock enables out ∷ parts) k g at =
    let (mark, is, of) = marked_gate parts k g at in (mark, is, further (part.Gate clock enables out) parts g mark of)

-- a gate of a part has a place, and there the part's mark
mark_in : (b : Bool) (gates after : List Gate) (marks : List Bool) (g : Gate) → In g gates → (k : ℕ) × (slice_get (gates ++ after) k ≡ Some g)
    × (slice_get (map (λ (_ : Gate). b) gates ++ marks) k ≡ Some b)
mark_in b [] after marks g has = absurd has
mark_in b (x ∷ gates) after marks g (inl here) = (0, ap (λ (y : Gate). Some y) here, refl)
mark_in b (x ∷ gates) after marks g (inr later) = let (k, at, is) = mark_in b gates after marks g later in (suc k, at, is)

mark_after : (b : Bool) (gates after : List Gate) (marks : List Bool) (j : ℕ) → (k : ℕ) × (slice_get (gates ++ after) k ≡ slice_get after j)
    × (slice_get (map (λ (_ : Gate). b) gates ++ marks) k ≡ slice_get marks j)
mark_after b [] after marks j = (j, refl, refl)
mark_after b (x ∷ gates) after marks j = let (k, at, is) = mark_after b gates after marks j in (suc k, at, is)

pub gate_place : (parts : List Part) (mark : Bool) (ins : List ℕ) (gates : List Gate) (g : Gate) → In (part.Comb mark ins gates) parts → In g gates
    → (k : ℕ) × (slice_get (flat_map part_gates parts) k ≡ Some g) × (slice_get (flat_map part_marks parts) k ≡ Some mark)
gate_place [] mark ins gates g has there = absurd has
gate_place (p ∷ parts) mark ins gates g (inl here) there =
    subst (λ (q : Part). (k : ℕ) × (slice_get (flat_map part_gates (q ∷ parts)) k ≡ Some g)
    × (slice_get (flat_map part_marks (q ∷ parts)) k ≡ Some mark)) (sym here)
    (mark_in mark gates (flat_map part_gates parts) (flat_map part_marks parts) g there)
gate_place (part.Comb b xs hs ∷ parts) mark ins gates g (inr later) there =
    let (j, at_j, is_j) = gate_place parts mark ins gates g later there in
    let (k, at, is) = mark_after b hs (flat_map part_gates parts) (flat_map part_marks parts) j in
    (k, at ∙ at_j, is ∙ is_j)
gate_place (part.Flop clock reg ∷ parts) mark ins gates g (inr later) there = gate_place parts mark ins gates g later there
gate_place (part.Gate clock enables out ∷ parts) mark ins gates g (inr later) there = gate_place parts mark ins gates g later there

-- the net from which a part hands the clock on as a clock gate
abbrev pub part_gate_clock : Part → List ℕ
part_gate_clock (part.Comb buffer ins gates) = []
part_gate_clock (part.Flop clock reg) = []
part_gate_clock (part.Gate clock enables out) = clock ∷ []

-- a clock gate has a place among the clock gates
pub gated_place : (parts : List Part) (clock : ℕ) (enables : List ℕ) (out : ℕ) → In (part.Gate clock enables out) parts
    → (k : ℕ) × (slice_get (flat_map part_gated parts) k ≡ Some out) × (slice_get (flat_map part_gate_clock parts) k ≡ Some clock)
gated_place [] clock enables out has = absurd has
gated_place (p ∷ parts) clock enables out (inl here) =
    subst (λ (q : Part). (k : ℕ) × (slice_get (flat_map part_gated (q ∷ parts)) k ≡ Some out)
    × (slice_get (flat_map part_gate_clock (q ∷ parts)) k ≡ Some clock)) (sym here) (0, refl, refl)
gated_place (part.Comb buffer ins gates ∷ parts) clock enables out (inr later) = gated_place parts clock enables out later
gated_place (part.Flop other reg ∷ parts) clock enables out (inr later) = gated_place parts clock enables out later
gated_place (part.Gate other others net ∷ parts) clock enables out (inr later) =
    let (k, at, is) = gated_place parts clock enables out later in (suc k, at, is)
