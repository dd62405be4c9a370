-- The rewritten design by the numbers of its nets: those of the design are as before, and after them come the enables of clock gates.
use Rattle.std.proofs.Common.{◌≡◌, ℕ, suc, ◌+◌, ◌-◌, ◌<◌, ◌≤◌, ◌==◌, nat_eq, Bool, true, false, List, [], ◌∷◌, ◌++◌, length, map, Some, None, refl}
use Rattle.std.proofs.Common.{ap, subst, sym, ◌∙◌, arith, inl, inr, length-append}
use Rattle.std.specs.Prelude.{Option, slice_get, flat_map}
use Rattle.std.specs.List.Sorted.{IsPermutation}
use Rattle.std.proofs.lemmas.Bool.{cases_lt}
use Rattle.std.proofs.lemmas.List.{length-map}
use Rattle.std.proofs.lemmas.List.Elements.{All-append}
use Rattle.std.proofs.lemmas.List.Sorted.{Contains-permutation, IsPermutation-sym}
use Rattle.std.proofs.lemmas.Option.{get_or_from_slice_get, slice_get_within}
use Rattle.std.proofs.Math.ListN.{get_or-eq_default}
use Rattle.net_model.specs.Netlist.{AllBelow, IsGateInRange, IsRegInRange, reg_nets, gate_nets}
use Rattle.net_model.specs.declared.netlist.Gate.{Gate}
use Rattle.net_model.specs.declared.netlist.Reg.{Reg}
use Rattle.net_model.proofs.Members.{In, In-from_Contains, Contains-from_In, In-cases, In-flat, In-map, from_flat, from_map}
use Rattle.net_model.proofs.Order.{count_append, count_contains}
use Rattle.graph_order.proofs.Marked.{at_contains, contains_at}
use Rattle.icg_rewrite.specs.declared.clock_gates.ClockGate.{ClockGate}
use Rattle.icg_rewrite.specs.declared.clock_gates.Gated.{Gated}
use Rattle.icg_rewrite.specs.Gated.{AreGated}
use Rattle.icg_rewrite.specs.Rewritten.{gated_reg, enable_ins, enable_gate, enable_gates, rewritten}
use Rattle.icg_rewrite.proofs.Lists.{left_at, right_at, item_at, reg_at, length-gated_regs, enable_at}
use Rattle.link_defs.proofs.Permuting.{order_permutes}
use Rattle.link_defs.specs.declared.circuits.Circuit.{Circuit}
use Rattle.link_defs.specs.declared.circuits.Part.{Part}
use Rattle.link_defs.specs.declared.circuits.Part.TheVariants as part
use Rattle.link_defs.specs.Circuits.{regs_of, all_gates, part_gates, part_gated}
use Rattle.link_defs.specs.Designs.{moved, moved_reg, number_by, drivers_by, equations, kept_gates, is_on_tree}
use Rattle.link_defs.specs.GateOrders.{ClockPart, gate_outs}
use Rattle.link_defs.specs.GatedDesigns.{IsGatedOf, enabled_drivers, gate_by}
use Rattle.link_defs.specs.Links.{source_count}
use Rattle.link_gates.proofs.Owners.{IsDrivenOnce, clock_gate_drives, gate_gated_apart}
use Rattle.link_gates.proofs.GatePlaces.{part_at, at_part, place_is}
use Rattle.link_gates.proofs.OneGated.{AreClocked, gate_under}
use Rattle.link_design.specs.Lawful.{IsLawfulCircuit}
use Rattle.link_design.specs.Rows.{IsDriverRow}
use Rattle.link_design.proofs.DriverPlaces.{number_cases}
use Rattle.link_design.proofs.Leading.{map_at}
use Rattle.link_design.proofs.Parted.{all_in, all_from_in}
use Rattle.link_items.proofs.Listing.{all_at}
use Rattle.net_link.proofs.ClockParts.{out_within}
use Rattle.net_link.specs.Numbers.{number_in}
use Rattle.net_link.proofs.Driving.{reg_nets_moved, gate_stands, kept_in_part, drivers_below, no_number, design_nets}

-- what is known of a circuit that became a design with clock gates
pub record IsKnown (c : Circuit) (tree : List Bool) (order : List Gate) (gates : List ClockPart) (g : Gated) : Type 0 where
  pub lawful : IsLawfulCircuit c
  pub once : IsDrivenOnce c
  pub clocked : AreClocked c
  pub gated_is : IsGatedOf c tree order gates g
  pub gated : AreGated g

-- the first driver has the number 0
first_number : (n x : ℕ) (xs : List ℕ) → nat_eq n x ≡ true → number_by (x ∷ xs) n ≡ 0
first_number n x xs e = rw e refl

-- any other is one further than among the rest
later_number : (n x : ℕ) (xs : List ℕ) → nat_eq n x ≡ false → number_by (x ∷ xs) n ≡ suc (number_by xs n)
later_number n x xs e = rw e (omega arith)

left_or : (n x : ℕ) (xs ys : List ℕ) (b : Bool) → nat_eq n x ≡ b → number_by (x ∷ xs) n < length (x ∷ xs)
    → (number_by xs n < length xs → number_by (xs ++ ys) n ≡ number_by xs n) → number_by (x ∷ (xs ++ ys)) n ≡ number_by (x ∷ xs) n
left_or n x xs ys true e lt further = first_number n x (xs ++ ys) e ∙ sym (first_number n x xs e)
left_or n x xs ys false e lt further =
    later_number n x (xs ++ ys) e ∙ ap suc (further (omega (arith, lt, later_number n x xs e))) ∙ sym (later_number n x xs e)

-- a net that one of the first drivers drives has its number among these
number_left : (xs ys : List ℕ) (n : ℕ) → number_by xs n < length xs → number_by (xs ++ ys) n ≡ number_by xs n
number_left [] ys n lt = absurd (omega (arith, lt))
number_left (x ∷ xs) ys n lt = left_or n x xs ys (nat_eq n x) refl lt (λ low. number_left xs ys n low)

right_or : (n x : ℕ) (xs ys : List ℕ) (b : Bool) → nat_eq n x ≡ b → number_by (x ∷ xs) n ≡ length (x ∷ xs)
    → (number_by xs n ≡ length xs → number_by (xs ++ ys) n ≡ length xs + number_by ys n)
    → number_by (x ∷ (xs ++ ys)) n ≡ length (x ∷ xs) + number_by ys n
right_or n x xs ys true e none further = absurd (omega (arith, none, first_number n x xs e))
right_or n x xs ys false e none further =
    omega (arith, later_number n x (xs ++ ys) e, further (omega (arith, none, later_number n x xs e)))

-- and one that none of them drives has that of the others, after them
number_right : (xs ys : List ℕ) (n : ℕ) → number_by xs n ≡ length xs → number_by (xs ++ ys) n ≡ length xs + number_by ys n
number_right [] ys n none = omega arith
number_right (x ∷ xs) ys n none = right_or n x xs ys (nat_eq n x) refl none (λ rest. number_right xs ys n rest)

-- a net that the design without clock gates drives keeps its number
pub same_number : (c : Circuit) (tree : List Bool) (order : List Gate) (gates : List ClockPart) (g : Gated) (n : ℕ) → IsGatedOf c tree order gates g
    → number_by (drivers_by c order) n < g.design.nets → number_by (enabled_drivers c order gates) n ≡ number_by (drivers_by c order) n
same_number c tree order gates g n is lt = number_left (drivers_by c order) (gate_outs gates) n (omega (arith, lt, is.design.nets))

-- the rewritten design has a net more for each clock gate
pub rewritten_nets : (g : Gated) → (rewritten g).nets ≡ g.design.nets + length g.gates
unfolding rewritten
rewritten_nets g = refl

-- the gates of the design keep their places
pub gate_kept : (g : Gated) (k : ℕ) (x : Gate) → slice_get g.design.gates k ≡ Some x → slice_get (rewritten g).gates k ≡ Some x
unfolding rewritten
gate_kept g k x at = left_at g.design.gates (enable_gates g.design.nets 0 g.gates) k x at

-- after them stand those of clock gates
enable_there : (g : Gated) (k : ℕ) (x : ClockGate) → slice_get g.gates k ≡ Some x
    → slice_get (rewritten g).gates (length g.design.gates + k) ≡ Some (enable_gate g.design.nets k x)
unfolding rewritten
enable_there g k x at = right_at g.design.gates (enable_gates g.design.nets 0 g.gates) k ∙ enable_at g.design.nets g.gates k x at

-- so do its registers, some with an enable
reg_there : (g : Gated) (r : ℕ) (reg : Reg) (gate : Option ℕ) → slice_get g.design.regs r ≡ Some reg → slice_get g.of r ≡ Some gate
    → slice_get (rewritten g).regs r ≡ Some (gated_reg g.design.nets reg gate)
unfolding rewritten
reg_there g r reg gate at of = reg_at g.design.nets g.design.regs g.of r reg gate at of

-- and there are as many of them
pub regs_many : (g : Gated) → AreGated g → length (rewritten g).regs ≡ length g.design.regs
unfolding rewritten
regs_many g are = length-gated_regs g.design.nets g.design.regs g.of are.each

-- a register with an enable has the pins that it had
more_pins : (nets : ℕ) (reg : Reg) (gate : Option ℕ) → length reg.ins ≤ length (gated_reg nets reg gate).ins
more_pins nets reg None = omega arith
more_pins nets reg (Some k) = omega (arith, length-append reg.ins ((nets + k) ∷ []))

-- and the gate of a clock gate has its enables as pins
more_ins : (nets : ℕ) (ins : List ℕ) (parent : Option ℕ) → length ins ≤ length (enable_ins nets ins parent)
more_ins nets ins None = omega arith
more_ins nets ins (Some k) = omega (arith, length-append ins ((nets + k) ∷ []))

-- the register at a place of the design
pub reg_stands : (c : Circuit) (tree : List Bool) (order : List Gate) (gates : List ClockPart) (g : Gated) (r : ℕ) (reg : Reg)
    → IsGatedOf c tree order gates g → slice_get (regs_of c) r ≡ Some reg
    → slice_get g.design.regs r ≡ Some (moved_reg (number_by (drivers_by c order)) reg)
reg_stands c tree order gates g r reg is at =
    ap (λ (rs : List Reg). slice_get rs r) is.design.regs ∙ map_at (moved_reg (number_by (drivers_by c order))) (regs_of c) r reg at

-- the register of the rewritten design in the place of one of the circuit's, with its pins at least
pub record HasReg (g : Gated) (r : ℕ) (reg : Reg) : Type 0 where
  pub own : Reg
  pub at : slice_get (rewritten g).regs r ≡ Some own
  pub reads : length reg.ins ≤ length own.ins

pub reg_known : (c : Circuit) (tree : List Bool) (order : List Gate) (gates : List ClockPart) (g : Gated) (r : ℕ) (reg : Reg) → IsKnown c tree order gates g
    → slice_get (regs_of c) r ≡ Some reg → HasReg g r reg
reg_known c tree order gates g r reg known at =
    let number : ℕ → ℕ = number_by (drivers_by c order) in
    let there = reg_stands c tree order gates g r reg known.gated_is at in
    let within = slice_get_within g.design.regs r (moved_reg number reg) there in
    let (gate, behind) = item_at g.of r (omega (arith, within, known.gated.each)) in
    record {
      own = gated_reg g.design.nets (moved_reg number reg) gate;
      at = reg_there g r (moved_reg number reg) gate there behind;
      reads = omega (arith, more_pins g.design.nets (moved_reg number reg) gate, length-map reg.ins number);
    }

-- nets with numbers in the design have numbers in the rewritten one
pub all_numbers : (c : Circuit) (tree : List Bool) (order : List Gate) (gates : List ClockPart) (g : Gated) (nets : List ℕ) → IsGatedOf c tree order gates g
    → AllBelow g.design.nets (map (number_by (drivers_by c order)) nets)
    → AllBelow (rewritten g).nets (map (number_by (enabled_drivers c order gates)) nets)
all_numbers c tree order gates g nets is below =
    let before : ℕ → ℕ = number_by (drivers_by c order) in
    let number : ℕ → ℕ = number_by (enabled_drivers c order gates) in
    all_from_in (λ (m : ℕ). m < (rewritten g).nets) (map number nets) (λ m has.
    let (net, there, same) = from_map number m nets has in
    let low = all_in (λ (k : ℕ). k < g.design.nets) (map before nets) below (before net) (In-map before net nets there) in
    omega (arith, low, same, same_number c tree order gates g net is low, rewritten_nets g))

-- the nets that a register drives have numbers there
pub reg_below : (c : Circuit) (tree : List Bool) (order : List Gate) (gates : List ClockPart) (g : Gated) (r : ℕ) (reg : Reg) → IsKnown c tree order gates g
    → slice_get (regs_of c) r ≡ Some reg → AllBelow (rewritten g).nets (map (number_by (enabled_drivers c order gates)) (reg_nets reg))
reg_below c tree order gates g r reg known at =
    let number : ℕ → ℕ = number_by (drivers_by c order) in
    let d = g.design in
    let range = all_at (IsRegInRange d) d.regs known.gated.sound.in_range.regs r (moved_reg number reg)
    (reg_stands c tree order gates g r reg known.gated_is at) in
    all_numbers c tree order gates g (reg_nets reg) known.gated_is
    (subst (λ (ns : List ℕ). AllBelow d.nets ns) (reg_nets_moved number reg.outs) range.outs)

-- an input or a register drives no net that a clock gate does
source_gated_apart : (c : Circuit) → IsDrivenOnce c → (net : ℕ) → In net (c.inputs ++ flat_map reg_nets (regs_of c))
    → In net (flat_map part_gated c.parts) → ⊥
source_gated_apart c once net source gated =
    let regs : List ℕ = flat_map reg_nets (regs_of c) in
    let gates : List ℕ = gate_nets (all_gates c) in
    let clock_gates : List ℕ = flat_map part_gated c.parts in
    absurd (omega (
      arith,
      once net,
      count_append (λ m. m == net) (c.clocks ++ c.inputs ++ regs ++ gates) clock_gates,
      count_append (λ m. m == net) (c.clocks ++ c.inputs ++ regs) gates,
      count_append (λ m. m == net) (c.clocks ++ c.inputs) regs,
      count_append (λ m. m == net) c.clocks c.inputs,
      count_append (λ m. m == net) c.inputs regs,
      count_contains net (c.inputs ++ regs) (Contains-from_In (c.inputs ++ regs) net source),
      count_contains net clock_gates (Contains-from_In clock_gates net gated),
    ))

-- a net that a gate of the design drives is one that a gate of the circuit does
order_drives : (c : Circuit) (tree : List Bool) (order : List Gate) (net : ℕ) → IsPermutation (equations tree c) order → In net (gate_nets order)
    → In net (gate_nets (all_gates c))
order_drives c tree order net perm has =
    let (g, there, out) = from_map (λ (h : Gate). h.out) net order has in
    let kept = In-from_Contains (equations tree c) g (Contains-permutation order (equations tree c) g (IsPermutation-sym (equations tree c) order perm)
    (Contains-from_In order g there)) in
    let (p, stands, own) = from_flat (kept_gates tree) g c.parts kept in
    subst (λ (n : ℕ). In n (gate_nets (all_gates c))) out
    (In-map (λ (h : Gate). h.out) g (all_gates c) (In-flat part_gates g p c.parts stands (kept_in_part tree p g own)))

-- so the design without clock gates drives none that a clock gate does
gated_apart : (c : Circuit) (tree : List Bool) (order : List Gate) (net : ℕ) → IsDrivenOnce c → IsPermutation (equations tree c) order
    → In net (flat_map part_gated c.parts) → In net (drivers_by c order) → ⊥
gated_apart c tree order net once perm gated has = elim (In-cases net (c.inputs ++ flat_map reg_nets (regs_of c)) (gate_nets order) has) [
  | inl source ↦ source_gated_apart c once net source gated
  | inr gate ↦ gate_gated_apart c once net (order_drives c tree order net perm gate) gated
]

-- the output of a clock gate has the number of its place, after the nets of the design
enable_number : (c : Circuit) (tree : List Bool) (order : List Gate) (gates : List ClockPart) (k : ℕ) (x : ClockPart) (g : Gated)
    → IsKnown c tree order gates g → slice_get gates k ≡ Some x → number_by (enabled_drivers c order gates) x.out ≡ g.design.nets + k
enable_number c tree order gates k x g known at =
    let drivers = drivers_by c order in
    let is = known.gated_is in
    let gated = clock_gate_drives c x.clock x.enables x.out (part_at c gates is.ordered k x at) in
    let none : number_by drivers x.out ≡ length drivers = elim (number_cases drivers x.out) [
      | inl there ↦
          absurd (gated_apart c tree order x.out known.once (order_permutes c tree order is.design.order_is) gated
          (In-from_Contains drivers x.out (contains_at drivers (number_by drivers x.out) x.out there)))
      | inr last ↦ last
    ] in
    omega (arith, number_right drivers (gate_outs gates) x.out none, place_is c gates known.once is.ordered k x at, is.design.nets)

-- the gate of the rewritten design that a clock gate became, which has its enables as pins
pub record IsEnabled (c : Circuit) (order : List Gate) (gates : List ClockPart) (g : Gated) (enables : List ℕ) (out : ℕ) : Type 0 where
  pub gate : Gate
  pub at : slice_get (rewritten g).gates (number_by (enabled_drivers c order gates) out - source_count c) ≡ Some gate
  pub reads : length enables ≤ length gate.ins
  pub below : number_by (enabled_drivers c order gates) out < (rewritten g).nets

pub enable_known : (c : Circuit) (tree : List Bool) (order : List Gate) (gates : List ClockPart) (g : Gated) (clock : ℕ) (enables : List ℕ) (out : ℕ)
    → IsKnown c tree order gates g → In (part.Gate clock enables out) c.parts → IsEnabled c order gates g enables out
enable_known c tree order gates g clock enables out known stands =
    let x : ClockPart = record { clock = clock; enables = enables; out = out } in
    let p : Part = part.Gate clock enables out in
    let is = known.gated_is in
    let (k, at) = at_part c gates is.ordered x (Contains-from_In c.parts p stands) in
    let (up, on) = gate_under c known.clocked x (Contains-from_In c.parts p stands) in
    let own : ClockGate = gate_by (number_by (drivers_by c order)) gates x up in
    let there : slice_get g.gates k ≡ Some own = is.gates_are k x up at on in
    let number = enable_number c tree order gates k x g known at in
    let place : number_by (enabled_drivers c order gates) out - source_count c ≡ length g.design.gates + k =
    omega (arith, number, design_nets c tree order g.design is.design) in
    record {
      gate = enable_gate g.design.nets k own;
      at = ap (λ (i : ℕ). slice_get (rewritten g).gates i) place ∙ enable_there g k own there;
      reads = omega (arith, more_ins g.design.nets own.ins own.parent, length-map enables (number_by (drivers_by c order)));
      below = omega (arith, number, slice_get_within g.gates k own there, rewritten_nets g);
    }

-- each driver of the rewritten design is a net of the circuit
enabled_below : (c : Circuit) (tree : List Bool) (order : List Gate) (gates : List ClockPart) (g : Gated) → IsLawfulCircuit c → IsGatedOf c tree order gates g
    → AllBelow c.nets (enabled_drivers c order gates)
enabled_below c tree order gates g lawful is =
    All-append (λ (n : ℕ). n < c.nets) (drivers_by c order) (gate_outs gates)
    (drivers_below c tree order lawful (order_permutes c tree order is.design.order_is))
    (all_from_in (λ (n : ℕ). n < c.nets) (gate_outs gates) (λ n has.
    let (x, there, out) = from_map (λ (y : ClockPart). y.out) n gates has in
    let (k, at) = at_contains gates x (Contains-from_In gates x there) in
    subst (λ (m : ℕ). m < c.nets) out (out_within c lawful x.clock x.enables x.out (part_at c gates is.ordered k x at))))

-- the row of a rewritten design has the number of each net
pub numbered : (c : Circuit) (tree : List Bool) (order : List Gate) (gates : List ClockPart) (g : Gated) (row : List ℕ) (nets : ℕ) → IsLawfulCircuit c
    → IsGatedOf c tree order gates g → IsDriverRow (enabled_drivers c order gates) c.nets row → nets ≡ g.design.nets + length g.gates → (net : ℕ)
    → number_in row nets net ≡ number_by (enabled_drivers c order gates) net
numbered c tree order gates g row nets lawful is row_is all net =
    let drivers = enabled_drivers c order gates in
    let count : nets ≡ length drivers = omega (
      arith,
      all,
      is.design.nets,
      is.long,
      length-append (drivers_by c order) (gate_outs gates),
      length-map gates (λ (x : ClockPart). x.out),
    ) in
    elim (cases_lt net c.nets) [
      | inl lt ↦ get_or_from_slice_get row net (number_by drivers net) nets (row_is.at net lt)
      | inr past ↦
          get_or-eq_default row nets (omega (arith, row_is.len, past)) ∙ count
          ∙ sym (no_number drivers c.nets net (enabled_below c tree order gates g lawful is) past)
    ]

-- a gate of a part that is none of the clock tree's stands in the rewritten design, where its net's number says
pub record HasGate (c : Circuit) (order : List Gate) (gates : List ClockPart) (g : Gated) (x : Gate) : Type 0 where
  pub at : slice_get (rewritten g).gates (number_by (enabled_drivers c order gates) x.out - source_count c)
      ≡ Some (moved (number_by (drivers_by c order)) x)
  pub below : number_by (drivers_by c order) x.out < g.design.nets

pub gate_known : (c : Circuit) (tree : List Bool) (order : List Gate) (gates : List ClockPart) (g : Gated) (buffer : Bool) (ins : List ℕ) (own : List Gate)
    (x : Gate) → IsKnown c tree order gates g → In (part.Comb buffer ins own) c.parts → is_on_tree tree (part.Comb buffer ins own) ≡ false → In x own
    → HasGate c order gates g x
gate_known c tree order gates g buffer ins own x known stands off has =
    let d = g.design in
    let number : ℕ → ℕ = number_by (drivers_by c order) in
    let there = gate_stands c tree order d buffer ins own x known.gated_is.design known.gated.sound stands off has in
    let range = all_at (IsGateInRange d) d.gates known.gated.sound.in_range.gates (number x.out - source_count c) (moved number x) there in
    let same = same_number c tree order gates g x.out known.gated_is range.out in
    record {
      at = ap (λ (n : ℕ). slice_get (rewritten g).gates (n - source_count c)) same ∙ gate_kept g (number x.out - source_count c) (moved number x) there;
      below = range.out;
    }
