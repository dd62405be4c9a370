-- The enables of clock gates have numbers in the design.
use Rattle.std.proofs.Common.{◌≡◌, ℕ, Bool, true, false, List, [], ◌∷◌, ◌++◌, refl, ap, subst, sym, ◌∙◌, inl, inr}
use Rattle.std.specs.Prelude.{Contains, All, flat_map, slice_index_or, if◌then◌else◌}
use Rattle.std.specs.List.{list_any}
use Rattle.std.proofs.lemmas.Bool.{and_parts}
use Rattle.std.proofs.lemmas.List.Sorted.{Contains-permutation}
use Rattle.net_model.specs.Form.{xor}
use Rattle.net_model.specs.Netlist.{reg_nets, gate_nets}
use Rattle.net_model.specs.declared.netlist.Gate.{Gate}
use Rattle.net_model.proofs.Members.{In, In-from_Contains, Contains-from_In, In-left, In-right, In-cases, In-map, In-flat, from_map}
use Rattle.link_defs.proofs.Permuting.{order_permutes}
use Rattle.link_defs.specs.declared.circuits.Circuit.{Circuit}
use Rattle.link_defs.specs.declared.circuits.Part.{Part}
use Rattle.link_defs.specs.declared.circuits.Part.TheVariants as part
use Rattle.link_defs.specs.Circuits.{part_gated, part_reads, part_data, regs_of, all_gates, all_drivers, all_reads, all_data}
use Rattle.link_defs.specs.Circuits.{OnTree, IsTree, Root, Buffered}
use Rattle.link_defs.specs.Designs.{is_on_tree, kept_gates, equations, drivers_by, IsOrderOf}
use Rattle.link_defs.specs.Parts.{inverts}
use Rattle.link_design.specs.Lawful.{IsLawfulCircuit}
use Rattle.link_design.specs.Made.{IsClocked}
use Rattle.link_design.proofs.Clocked.{gated_on}
use Rattle.link_design.proofs.Parted.{IsGateOf, gate_of_part, all_in}
use Rattle.link_design.proofs.Treed.{one_item, or_none}

-- a gate that drives a net off the clock tree is one of the design
kept_gate : (c : Circuit) (tree : List Bool) (order : List Gate) (g : Gate) (of : IsGateOf c g) (b : Bool) → IsTree c tree → IsOrderOf c tree order
    → ((odd : Bool) → OnTree c g.out odd → ⊥) → is_on_tree tree (part.Comb of.buffer of.ins of.gates) ≡ b → Contains order g
kept_gate c tree order g of true tree_is ordered off on_tree =
    let (buffer, any) = and_parts of.buffer (list_any (λ (net : ℕ). slice_index_or tree net false) of.ins) on_tree in
    let (from, ins) = one_item of.ins (of.comb.one buffer) in
    let marked : slice_index_or tree from false ≡ true =
    sym (ap (λ (ns : List ℕ). list_any (λ (net : ℕ). slice_index_or tree net false) ns) ins ∙ or_none (slice_index_or tree from false)) ∙ any in
    let (odd, on) = (tree_is from).0 marked in
    let stands : Contains c.parts (part.Comb true (from ∷ []) of.gates) =
    subst (λ (ns : List ℕ). Contains c.parts (part.Comb true ns of.gates)) ins
    (subst (λ (b : Bool). Contains c.parts (part.Comb b of.ins of.gates)) buffer
    (Contains-from_In c.parts (part.Comb of.buffer of.ins of.gates) of.stands)) in
    absurd (off (xor odd (inverts g.func)) (Buffered from of.gates g odd stands (Contains-from_In of.gates g of.there) on))
kept_gate c tree order g of false tree_is ordered off on_tree =
    let p : Part = part.Comb of.buffer of.ins of.gates in
    let gates : kept_gates tree p ≡ of.gates = ap (λ (b : Bool). if b then [] else of.gates) on_tree in
    let own : In g (kept_gates tree p) = subst (λ (gs : List Gate). In g gs) (sym gates) of.there in
    let has = Contains-from_In (equations tree c) g (In-flat (kept_gates tree) g p c.parts of.stands own) in
    Contains-permutation (equations tree c) order g (order_permutes c tree order ordered) has

-- a net off the clock tree that something drives is one of the design
driven_off : (c : Circuit) (tree : List Bool) (order : List Gate) (n : ℕ) → IsLawfulCircuit c → IsClocked c → IsTree c tree → IsOrderOf c tree order
    → ((odd : Bool) → OnTree c n odd → ⊥) → In n (all_drivers c) → In n (drivers_by c order)
driven_off c tree order n lawful clocked tree_is ordered off driven =
    let regs : List ℕ = flat_map reg_nets (regs_of c) in
    let own : List ℕ = c.inputs ++ regs in
    elim (In-cases n (c.clocks ++ c.inputs ++ regs ++ gate_nets (all_gates c)) (flat_map part_gated c.parts) driven) [
      | inr gated ↦ absurd (off false (gated_on c clocked n gated))
      | inl other ↦ elim (In-cases n (c.clocks ++ c.inputs ++ regs) (gate_nets (all_gates c)) other) [
        | inr gate ↦
            let (g, there, out) = from_map (λ (h : Gate). h.out) n (all_gates c) gate in
            let of = gate_of_part c lawful g there in
            let kept = kept_gate c tree order g of (is_on_tree tree (part.Comb of.buffer of.ins of.gates)) tree_is ordered
            (λ odd on. off odd (subst (λ (m : ℕ). OnTree c m odd) out on)) refl in
            In-right n own (gate_nets order)
            (subst (λ (m : ℕ). In m (gate_nets order)) out (In-map (λ (h : Gate). h.out) g order (In-from_Contains order g kept)))
        | inl source ↦ elim (In-cases n (c.clocks ++ c.inputs) regs source) [
          | inr reg ↦ In-left n own (gate_nets order) (In-right n c.inputs regs reg)
          | inl port ↦ elim (In-cases n c.clocks c.inputs port) [
            | inl clock ↦ absurd (off false (Root n (Contains-from_In c.clocks n clock)))
            | inr input ↦ In-left n own (gate_nets order) (In-left n c.inputs regs input)
          ]
        ]
      ]
    ]

-- an enable of a clock gate is a net of the design
pub enable_driven : (c : Circuit) (tree : List Bool) (order : List Gate) → IsLawfulCircuit c → IsClocked c → All (Contains (all_drivers c)) (all_reads c)
    → IsTree c tree → IsOrderOf c tree order → (clock : ℕ) (enables : List ℕ) (out n : ℕ) → Contains c.parts (part.Gate clock enables out) → In n enables
    → Contains (drivers_by c order) n
enable_driven c tree order lawful clocked driven tree_is ordered clock enables out n stands has =
    let p : Part = part.Gate clock enables out in
    let there = In-from_Contains c.parts p stands in
    let read = In-right n c.outputs (flat_map part_reads c.parts) (In-flat part_reads n p c.parts there (inr has)) in
    let as_data = In-right n c.outputs (flat_map part_data c.parts) (In-flat part_data n p c.parts there has) in
    let drives = In-from_Contains (all_drivers c) n (all_in (Contains (all_drivers c)) (all_reads c) driven n read) in
    Contains-from_In (drivers_by c order) n (driven_off c tree order n lawful clocked tree_is ordered
    (λ odd on. clocked.as_data n odd (Contains-from_In (all_data c) n as_data) on) drives)
