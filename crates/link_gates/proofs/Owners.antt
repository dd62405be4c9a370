-- Which part drives a net: where each net has one driver at most, one part alone.
use Rattle.std.proofs.Common.{◌≡◌, ℕ, ◌+◌, ◌≤◌, ◌==◌, Bool, List, [], ◌∷◌, ◌++◌, refl, ap, subst, sym, ◌∙◌, arith, inl, inr}
use Rattle.std.specs.Prelude.{Contains, count_by, flat_map}
use Rattle.std.proofs.lemmas.List.{map-append}
use Rattle.net_model.specs.Netlist.{reg_nets, gate_nets}
use Rattle.net_model.specs.declared.netlist.Gate.{Gate}
use Rattle.net_model.proofs.Members.{In, In-from_Contains, Contains-from_In, In-map, In-flat}
use Rattle.net_model.proofs.Order.{count_append, count_contains}
use Rattle.link_defs.specs.declared.circuits.Circuit.{Circuit}
use Rattle.link_defs.specs.declared.circuits.Part.{Part}
use Rattle.link_defs.specs.declared.circuits.Part.TheVariants as part
use Rattle.link_defs.specs.Circuits.{part_gates, part_gated, regs_of, all_gates, all_drivers}

-- each net of the circuit has one driver at most
abbrev pub IsDrivenOnce : Circuit → Type 0
IsDrivenOnce c = (net : ℕ) → count_by (λ m. m == net) (all_drivers c) ≤ 1

-- what is in a list is counted there
counted_in : (n : ℕ) (xs : List ℕ) → In n xs → 1 ≤ count_by (λ m. m == n) xs
counted_in n xs has = count_contains n xs (Contains-from_In xs n has)

-- of items that give a number once together one alone gives it
pub one_owner : {X : Type 0} (f : X → List ℕ) (xs : List X) (n : ℕ) (p q : X) → count_by (λ m. m == n) (flat_map f xs) ≤ 1 → In p xs → In q xs
    → In n (f p) → In n (f q) → p ≡ q
one_owner f [] n p q once has_p has_q by_p by_q = absurd has_p
one_owner f (x ∷ xs) n p q once (inl a) (inl b) by_p by_q = sym a ∙ b
one_owner f (x ∷ xs) n p q once (inl a) (inr later) by_p by_q =
    let first = counted_in n (f x) (subst (λ z. In n (f z)) (sym a) by_p) in
    let rest = counted_in n (flat_map f xs) (In-flat f n q xs later by_q) in
    absurd (omega (arith, once, count_append (λ m. m == n) (f x) (flat_map f xs), first, rest))
one_owner f (x ∷ xs) n p q once (inr later) (inl b) by_p by_q =
    let first = counted_in n (f x) (subst (λ z. In n (f z)) (sym b) by_q) in
    let rest = counted_in n (flat_map f xs) (In-flat f n p xs later by_p) in
    absurd (omega (arith, once, count_append (λ m. m == n) (f x) (flat_map f xs), first, rest))
one_owner f (x ∷ xs) n p q once (inr a) (inr b) by_p by_q =
    one_owner f xs n p q (omega (arith, once, count_append (λ m. m == n) (f x) (flat_map f xs))) a b by_p by_q

-- the nets that the gates of a part drive
abbrev gate_outs_of : Part → List ℕ
gate_outs_of p = gate_nets (part_gates p)

-- those of all parts are the gates' nets
gate_nets_are : (parts : List Part) → flat_map gate_outs_of parts ≡ gate_nets (flat_map part_gates parts)
gate_nets_are [] = refl
gate_nets_are (p ∷ parts) =
    ap (λ (ns : List ℕ). gate_nets (part_gates p) ++ ns) (gate_nets_are parts)
    ∙ sym (map-append (λ (g : Gate). g.out) (part_gates p) (flat_map part_gates parts))

-- how often the clock, gates and clock gates drive a net together
driven_once : (c : Circuit) → IsDrivenOnce c → (net : ℕ)
    → count_by (λ m. m == net) c.clocks + count_by (λ m. m == net) (gate_nets (all_gates c)) + count_by (λ m. m == net) (flat_map part_gated c.parts) ≤ 1
driven_once c once net =
    let sources : List ℕ = c.clocks ++ c.inputs ++ flat_map reg_nets (regs_of c) in
    let whole = count_append (λ m. m == net) (sources ++ gate_nets (all_gates c)) (flat_map part_gated c.parts) in
    let split = count_append (λ m. m == net) sources (gate_nets (all_gates c)) in
    let ports = count_append (λ m. m == net) (c.clocks ++ c.inputs) (flat_map reg_nets (regs_of c)) in
    let front = count_append (λ m. m == net) c.clocks c.inputs in
    omega (arith, whole, split, ports, front, once net)

-- clock gates drive a net once at most
pub gated_once : (c : Circuit) → IsDrivenOnce c → (net : ℕ) → count_by (λ m. m == net) (flat_map part_gated c.parts) ≤ 1
gated_once c once net = omega (arith, driven_once c once net)

-- a gate of a part drives its net
pub gate_drives : (c : Circuit) (buffer : Bool) (ins : List ℕ) (gates : List Gate) (g : Gate) → Contains c.parts (part.Comb buffer ins gates)
    → Contains gates g → In g.out (gate_nets (all_gates c))
gate_drives c buffer ins gates g stands there =
    let p : Part = part.Comb buffer ins gates in
    In-map (λ (h : Gate). h.out) g (all_gates c) (In-flat part_gates g p c.parts (In-from_Contains c.parts p stands) (In-from_Contains gates g there))

-- so does a clock gate
pub clock_gate_drives : (c : Circuit) (clock : ℕ) (enables : List ℕ) (out : ℕ) → Contains c.parts (part.Gate clock enables out)
    → In out (flat_map part_gated c.parts)
clock_gate_drives c clock enables out stands =
    let p : Part = part.Gate clock enables out in In-flat part_gated out p c.parts (In-from_Contains c.parts p stands) (inl refl)

-- no net is driven by the clock and a gate
pub clock_apart : (c : Circuit) → IsDrivenOnce c → (net : ℕ) → Contains c.clocks net → In net (gate_nets (all_gates c)) → ⊥
clock_apart c once net clock gate =
    absurd (omega (arith, driven_once c once net, count_contains net c.clocks clock, counted_in net (gate_nets (all_gates c)) gate))

-- nor by the clock and a clock gate
pub clock_gated_apart : (c : Circuit) → IsDrivenOnce c → (net : ℕ) → Contains c.clocks net → In net (flat_map part_gated c.parts) → ⊥
clock_gated_apart c once net clock gated =
    absurd (omega (arith, driven_once c once net, count_contains net c.clocks clock, counted_in net (flat_map part_gated c.parts) gated))

-- nor by a gate and a clock gate
pub gate_gated_apart : (c : Circuit) → IsDrivenOnce c → (net : ℕ) → In net (gate_nets (all_gates c)) → In net (flat_map part_gated c.parts) → ⊥
gate_gated_apart c once net gate gated =
    absurd (omega (
      arith,
      driven_once c once net,
      counted_in net (gate_nets (all_gates c)) gate,
      counted_in net (flat_map part_gated c.parts) gated,
    ))

-- cells that are one read the same nets
inputs_same : (a b : Bool) (xs ys : List ℕ) (gs hs : List Gate) → part.Comb a xs gs ≡ part.Comb b ys hs → xs ≡ ys
inputs_same a b xs ys gs hs same = cc

-- gates that drive one net are of parts that read the same
pub one_reader : (c : Circuit) → IsDrivenOnce c → (a b : Bool) (xs ys : List ℕ) (gs hs : List Gate) (g h : Gate) → Contains c.parts (part.Comb a xs gs)
    → Contains c.parts (part.Comb b ys hs) → Contains gs g → Contains hs h → g.out ≡ h.out → xs ≡ ys
one_reader c once a b xs ys gs hs g h stands_g stands_h there_g there_h same =
    let p : Part = part.Comb a xs gs in
    let q : Part = part.Comb b ys hs in
    let most : count_by (λ m. m == h.out) (flat_map gate_outs_of c.parts) ≤ 1 =
    subst (λ (ns : List ℕ). count_by (λ m. m == h.out) ns ≤ 1) (sym (gate_nets_are c.parts)) (omega (arith, driven_once c once h.out)) in
    let by_g : In h.out (gate_nets gs) =
    subst (λ (n : ℕ). In n (gate_nets gs)) same (In-map (λ (x : Gate). x.out) g gs (In-from_Contains gs g there_g)) in
    let by_h : In h.out (gate_nets hs) = In-map (λ (x : Gate). x.out) h hs (In-from_Contains hs h there_h) in
    inputs_same a b xs ys gs hs
    (one_owner gate_outs_of c.parts h.out p q most (In-from_Contains c.parts p stands_g) (In-from_Contains c.parts q stands_h) by_g by_h)

-- clock gates that drive one net are one
pub one_clock_gate : (c : Circuit) → IsDrivenOnce c → (a b : ℕ) (xs ys : List ℕ) (out : ℕ) → Contains c.parts (part.Gate a xs out)
    → Contains c.parts (part.Gate b ys out) → part.Gate a xs out ≡ part.Gate b ys out
one_clock_gate c once a b xs ys out stands_a stands_b =
    let p : Part = part.Gate a xs out in
    let q : Part = part.Gate b ys out in
    one_owner part_gated c.parts out p q (gated_once c once out) (In-from_Contains c.parts p stands_a) (In-from_Contains c.parts q stands_b) (inl refl)
    (inl refl)
