-- The numbers of a sound design's nets are the places of their drivers.
use Rattle.std.proofs.Common.{◌≡◌, ℕ, suc, ◌+◌, ◌-◌, ◌<◌, ◌≤◌, ◌==◌, Bool, true, false, List, [], ◌∷◌, ◌++◌, length, map, Some, refl}
use Rattle.std.proofs.Common.{ap, subst, sym, ◌∙◌, arith, inl, inr, length-append}
use Rattle.std.specs.Prelude.{slice_get, count_by, flat_map, if◌then◌else◌}
use Rattle.std.specs.List.Sorted.{IsPermutation}
use Rattle.std.proofs.lemmas.Bool.{cases_eq, cases_lt}
use Rattle.std.proofs.lemmas.List.{length-map, map-append}
use Rattle.std.proofs.lemmas.List.Elements.{All-append}
use Rattle.std.proofs.lemmas.List.Sorted.{Contains-permutation, IsPermutation-sym}
use Rattle.net_model.specs.Netlist.{IsSound, AllBelow, reg_nets, gate_nets, driven_nets}
use Rattle.net_model.specs.declared.netlist.Design.{Design}
use Rattle.net_model.specs.declared.netlist.Gate.{Gate}
use Rattle.net_model.specs.declared.netlist.Reg.{Reg}
use Rattle.net_model.specs.declared.netlist.RegOut.{RegOut}
use Rattle.net_model.proofs.Members.{In, In-from_Contains, Contains-from_In, In-flat, from_flat, from_map}
use Rattle.graph_order.proofs.Marked.{at_contains, contains_at}
use Rattle.link_defs.proofs.Permuting.{order_permutes}
use Rattle.link_defs.specs.declared.circuits.Circuit.{Circuit}
use Rattle.link_defs.specs.declared.circuits.Part.{Part}
use Rattle.link_defs.specs.declared.circuits.Part.TheVariants as part
use Rattle.link_defs.specs.Circuits.{regs_of, part_gates}
use Rattle.link_defs.specs.Designs.{moved, moved_out, moved_reg, number_by, drivers_by, equations, kept_gates, is_on_tree, IsDesignOf}
use Rattle.link_defs.specs.Links.{source_count}
use Rattle.link_design.specs.Lawful.{IsLawfulCircuit, IsLawfulPart, IsLawfulGate}
use Rattle.link_design.proofs.DriverPlaces.{number_cases, number_within, number_at, counted_twice}
use Rattle.link_design.proofs.Leading.{map_at}
use Rattle.link_design.proofs.Parted.{all_in, all_from_in, data_sources_are, data_sources_below}

-- the output nets of a register with other numbers
pub reg_nets_moved : (f : ℕ → ℕ) (outs : List RegOut) → map (λ (o : RegOut). o.net) (map (moved_out f) outs) ≡ map f (map (λ (o : RegOut). o.net) outs)
reg_nets_moved f [] = refl
reg_nets_moved f (o ∷ os) = ap (λ (ns : List ℕ). f o.net ∷ ns) (reg_nets_moved f os)

regs_moved : (f : ℕ → ℕ) (regs : List Reg) → flat_map reg_nets (map (moved_reg f) regs) ≡ map f (flat_map reg_nets regs)
regs_moved f [] = refl
regs_moved f (r ∷ rs) =
    ap (λ (ns : List ℕ). ns ++ flat_map reg_nets (map (moved_reg f) rs)) (reg_nets_moved f r.outs)
    ∙ ap (λ (ns : List ℕ). map f (reg_nets r) ++ ns) (regs_moved f rs) ∙ sym (map-append f (reg_nets r) (flat_map reg_nets rs))

gates_moved : (f : ℕ → ℕ) (gates : List Gate) → gate_nets (map (moved f) gates) ≡ map f (gate_nets gates)
gates_moved f [] = refl
gates_moved f (g ∷ gs) = ap (λ (ns : List ℕ). f g.out ∷ ns) (gates_moved f gs)

-- the driven nets of a design are the drivers by their numbers
driven_are : (c : Circuit) (tree : List Bool) (order : List Gate) (d : Design) → IsDesignOf c tree order d
    → driven_nets d ≡ map (number_by (drivers_by c order)) (drivers_by c order)
driven_are c tree order d is =
    let f : ℕ → ℕ = number_by (drivers_by c order) in
    let sources : d.inputs ++ flat_map reg_nets d.regs ≡ map f (c.inputs ++ flat_map reg_nets (regs_of c)) =
    ap (λ (ns : List ℕ). ns ++ flat_map reg_nets d.regs) is.inputs
    ∙ ap (λ (rs : List Reg). map f c.inputs ++ flat_map reg_nets rs) is.regs
    ∙ ap (λ (ns : List ℕ). map f c.inputs ++ ns) (regs_moved f (regs_of c))
    ∙ sym (map-append f c.inputs (flat_map reg_nets (regs_of c))) in
    ap (λ (ns : List ℕ). ns ++ gate_nets d.gates) sources
    ∙ ap (λ (gs : List Gate). map f (c.inputs ++ flat_map reg_nets (regs_of c)) ++ gate_nets gs) is.gates
    ∙ ap (λ (ns : List ℕ). map f (c.inputs ++ flat_map reg_nets (regs_of c)) ++ ns) (gates_moved f order)
    ∙ sym (map-append f (c.inputs ++ flat_map reg_nets (regs_of c)) (gate_nets order))

-- the number of a net is the place of its driver, for no net has two
pub number_of : (c : Circuit) (tree : List Bool) (order : List Gate) (d : Design) (k net : ℕ) → IsDesignOf c tree order d → IsSound d
    → slice_get (drivers_by c order) k ≡ Some net → number_by (drivers_by c order) net ≡ k
number_of c tree order d k net is sound at =
    let xs = drivers_by c order in
    let p = number_by xs net in
    let lt : p < length xs = number_within xs net k at in
    let ns = map (number_by xs) xs in
    let at_k : slice_get ns k ≡ Some p = map_at (number_by xs) xs k net at in
    let at_p : slice_get ns p ≡ Some p = map_at (number_by xs) xs p net (number_at xs net lt) in
    let one : count_by (λ m. m == p) ns ≡ 1 =
    subst (λ (ys : List ℕ). count_by (λ m. m == p) ys ≡ 1) (driven_are c tree order d is) (sound.one_driver p (omega (arith, lt, is.nets))) in
    elim (cases_eq p k) [
      | inl same ↦ same
      | inr differ ↦ elim (cases_lt p k) [
        | inl less ↦ absurd (omega (arith, counted_twice ns p p k less at_p at_k, one))
        | inr le ↦ absurd (omega (arith, counted_twice ns p k p (omega (arith, le, differ)) at_k at_p, one))
      ]
    ]

after : {X : Type 0} (xs ys : List X) (k : ℕ) → slice_get (xs ++ ys) (length xs + k) ≡ slice_get ys k
after [] ys k = ap (λ (i : ℕ). slice_get ys i) (omega arith)
after (x ∷ xs) ys k =
    let next : length (x ∷ xs) + k ≡ suc (length xs + k) = omega arith in ap (λ (i : ℕ). slice_get (x ∷ (xs ++ ys)) i) next ∙ after xs ys k

-- gate k drives the net of that number and as many as inputs and registers drive
pub gate_number : (c : Circuit) (tree : List Bool) (order : List Gate) (d : Design) (k : ℕ) (g : Gate) → IsDesignOf c tree order d → IsSound d
    → slice_get order k ≡ Some g → number_by (drivers_by c order) g.out ≡ source_count c + k
gate_number c tree order d k g is sound at =
    let sources = c.inputs ++ flat_map reg_nets (regs_of c) in
    let there : slice_get (drivers_by c order) (length sources + k) ≡ Some g.out =
    after sources (gate_nets order) k ∙ map_at (λ (g : Gate). g.out) order k g at in
    number_of c tree order d (length sources + k) g.out is sound there
    ∙ ap (λ (n : ℕ). n + k) (length-append c.inputs (flat_map reg_nets (regs_of c)))

kept_own : (tree : List Bool) (buffer : Bool) (ins : List ℕ) (gates : List Gate) (g : Gate) (b : Bool) → In g (if b then [] else gates) → In g gates
kept_own tree buffer ins gates g true has = absurd has
kept_own tree buffer ins gates g false has = has

pub kept_in_part : (tree : List Bool) (p : Part) (g : Gate) → In g (kept_gates tree p) → In g (part_gates p)
kept_in_part tree (part.Comb buffer ins gates) g has = kept_own tree buffer ins gates g (is_on_tree tree (part.Comb buffer ins gates)) has
kept_in_part tree (part.Flop clock reg) g has = absurd has
kept_in_part tree (part.Gate clock enables out) g has = absurd has

part_below : (nets : ℕ) (p : Part) (g : Gate) → IsLawfulPart nets p → In g (part_gates p) → g.out < nets
part_below nets (part.Comb buffer ins gates) g lawful has = (all_in (IsLawfulGate nets ins) gates lawful.drives g has).out
part_below nets (part.Flop clock reg) g lawful has = absurd has
part_below nets (part.Gate clock enables out) g lawful has = absurd has

-- a gate of the design drives a net of the circuit
order_below : (c : Circuit) (tree : List Bool) (order : List Gate) → IsLawfulCircuit c → IsPermutation (equations tree c) order → AllBelow c.nets (gate_nets order)
order_below c tree order lawful perm = all_from_in (λ (n : ℕ). n < c.nets) (gate_nets order) (λ n has.
    let (g, there, out) = from_map (λ (g : Gate). g.out) n order has in
    let kept = In-from_Contains (equations tree c) g (Contains-permutation order (equations tree c) g (IsPermutation-sym (equations tree c) order perm)
    (Contains-from_In order g there)) in
    let (p, stands, own) = from_flat (kept_gates tree) g c.parts kept in
    subst (λ (m : ℕ). m < c.nets) out
    (part_below c.nets p g (all_in (IsLawfulPart c.nets) c.parts lawful.parts p stands) (kept_in_part tree p g own)))

-- so does each driver
pub drivers_below : (c : Circuit) (tree : List Bool) (order : List Gate) → IsLawfulCircuit c → IsPermutation (equations tree c) order
    → AllBelow c.nets (drivers_by c order)
drivers_below c tree order lawful perm =
    All-append (λ (n : ℕ). n < c.nets) (c.inputs ++ flat_map reg_nets (regs_of c)) (gate_nets order)
    (subst (λ (ns : List ℕ). AllBelow c.nets ns) (data_sources_are c) (data_sources_below c lawful)) (order_below c tree order lawful perm)

-- a net past all drivers has the number of the drivers
pub no_number : (xs : List ℕ) (nets net : ℕ) → AllBelow nets xs → nets ≤ net → number_by xs net ≡ length xs
no_number xs nets net below past = elim (number_cases xs net) [
  | inl there ↦
      let lt : net < nets = all_in (λ (n : ℕ). n < nets) xs below net (In-from_Contains xs net (contains_at xs (number_by xs net) net there)) in
      absurd (omega (arith, lt, past))
  | inr none ↦ none
]

-- a gate of a part that is none of the clock tree's stands in the design, where its net's number says
pub gate_stands : (c : Circuit) (tree : List Bool) (order : List Gate) (d : Design) (buffer : Bool) (ins : List ℕ) (gates : List Gate) (g : Gate)
    → IsDesignOf c tree order d → IsSound d → In (part.Comb buffer ins gates) c.parts → is_on_tree tree (part.Comb buffer ins gates) ≡ false → In g gates
    → slice_get d.gates (number_by (drivers_by c order) g.out - source_count c) ≡ Some (moved (number_by (drivers_by c order)) g)
gate_stands c tree order d buffer ins gates g is sound stands off has =
    let own : In g (kept_gates tree (part.Comb buffer ins gates)) = rw off has in
    let kept = Contains-from_In (equations tree c) g (In-flat (kept_gates tree) g (part.Comb buffer ins gates) c.parts stands own) in
    let (k, at) = at_contains order g (Contains-permutation (equations tree c) order g (order_permutes c tree order is.order_is) kept) in
    let place : number_by (drivers_by c order) g.out - source_count c ≡ k = omega (arith, gate_number c tree order d k g is sound at) in
    ap (λ (i : ℕ). slice_get d.gates i) place ∙ ap (λ (gs : List Gate). slice_get gs k) is.gates
    ∙ map_at (moved (number_by (drivers_by c order))) order k g at

-- gates drive as many nets as inputs and registers don't
pub design_nets : (c : Circuit) (tree : List Bool) (order : List Gate) (d : Design) → IsDesignOf c tree order d → d.nets ≡ source_count c + length d.gates
design_nets c tree order d is =
    let gates : length d.gates ≡ length order = ap length is.gates ∙ length-map order (moved (number_by (drivers_by c order))) in
    omega (
      arith,
      is.nets,
      gates,
      length-append (c.inputs ++ flat_map reg_nets (regs_of c)) (gate_nets order),
      length-append c.inputs (flat_map reg_nets (regs_of c)),
      length-map order (λ (g : Gate). g.out),
    )
