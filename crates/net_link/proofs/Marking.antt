-- The nets that are marked are those that something drives.
use Rattle.std.proofs.Common.{◌≡◌, ℕ, zero, suc, ◌+◌, ◌<◌, ◌≤◌, Bool, true, false, ◌&&◌, ◌||◌, List, [], ◌∷◌, ◌++◌, length, Some, refl, ap}
use Rattle.std.proofs.Common.{subst, sym, ◌∙◌, arith, inl, inr, ◌⊎◌, nat_lt, get_or, length-append}
use Rattle.std.specs.Prelude.{Contains, slice_get, slice_index_or, flat_map}
use Rattle.std.specs.List.{list_any}
use Rattle.std.specs.List.Sorted.{IsPermutation}
use Rattle.std.proofs.lemmas.Bool.{cases_lt, and_parts}
use Rattle.std.proofs.lemmas.Bool.Decides.{nat_tests}
use Rattle.std.proofs.lemmas.List.Sorted.{Contains-permutation, IsPermutation-sym}
use Rattle.std.proofs.lemmas.Option.{get_or_from_slice_get}
use Rattle.sdcv_base.specs.Seqs.{is_marked}
use Rattle.net_model.specs.Form.{xor}
use Rattle.net_model.specs.Netlist.{AllBelow, gate_nets, reg_nets}
use Rattle.net_model.specs.declared.netlist.Gate.{Gate}
use Rattle.net_model.proofs.Members.{In, In-cases, In-left, In-right, In-map, In-flat, from_flat, from_map, In-from_Contains, Contains-from_In}
use Rattle.link_design.specs.declared.designs.CircuitDesign.{CircuitDesign}
use Rattle.link_design.specs.declared.designs.Held.{Held}
use Rattle.link_design.specs.Lawful.{IsLawfulCircuit, IsLawfulComb}
use Rattle.link_design.specs.Made.{IsClocked, IsMade}
use Rattle.link_design.specs.Rows.{IsDriverRow}
use Rattle.link_design.proofs.Clocked.{gated_on}
use Rattle.link_design.proofs.DriverPlaces.{number_cases, number_within, number_at}
use Rattle.link_design.proofs.Parted.{gate_of_part, drivers_are, drivers_below, all_in}
use Rattle.link_defs.proofs.Permuting.{order_permutes}
use Rattle.link_defs.specs.declared.circuits.Circuit.{Circuit}
use Rattle.link_defs.specs.declared.circuits.Part.{Part}
use Rattle.link_defs.specs.declared.circuits.Part.TheVariants as part
use Rattle.link_defs.specs.Circuits.{part_gates, part_gated, regs_of, all_gates, all_drivers, OnTree, Root, Buffered, Gated, IsTree}
use Rattle.link_defs.specs.Designs.{is_on_tree, kept_gates, equations, drivers_by, number_by}
use Rattle.link_defs.specs.Parts.{inverts}
use Rattle.link_circuit.specs.Scopes.{IsNumberedBy}
use Rattle.link_items.proofs.Listing.{contains_at}
use Rattle.net_link.specs.Nets.{has_number, is_driven, AreMarks}

and_true : (a b : Bool) → a ≡ true → b ≡ true → (a && b) ≡ true
and_true true b one two = two
and_true false b one two = cc

or_left : (a b : Bool) → a ≡ true → (a || b) ≡ true
or_left true b one = refl
or_left false b one = cc

or_right : (a b : Bool) → b ≡ true → (a || b) ≡ true
or_right true b two = refl
or_right false b two = two

or_cases : (a b : Bool) → (a || b) ≡ true → (a ≡ true) ⊎ (b ≡ true)
or_cases true b e = inl refl
or_cases false b e = inr e

lt_true : (m n : ℕ) → m < n → nat_lt m n ≡ true
lt_true m n lt = grind (arith, nat_tests)

true_lt : (m n : ℕ) → nat_lt m n ≡ true → m < n
true_lt m n hit = grind (arith, nat_tests)

-- what stands at a place
place_at : (xs : List ℕ) (k n : ℕ) → k < length xs → get_or xs k n ≡ n → slice_get xs k ≡ Some n
place_at [] k n lt same = absurd (omega (arith, lt))
place_at (x ∷ xs) zero n lt same = ap (λ (m : ℕ). Some m) same
place_at (x ∷ xs) (suc k) n lt same = place_at xs k n (omega (arith, lt)) same

past_row : (xs : List ℕ) (k d : ℕ) → length xs ≤ k → slice_index_or xs k d ≡ d
past_row [] k d past = refl
past_row (x ∷ xs) zero d past = absurd (omega (arith, past))
past_row (x ∷ xs) (suc k) d past = past_row xs k d (omega (arith, past))

-- the number of a net of the circuit, as the row has it
row_at : (drivers row : List ℕ) (nets net count : ℕ) → IsDriverRow drivers nets row → net < nets → slice_index_or row net count ≡ number_by drivers net
row_at drivers row nets net count is lt = get_or_from_slice_get row net (number_by drivers net) count (is.at net lt)

-- where it is driven in the design, it has a number
number_hit : (made : CircuitDesign) (drivers : List ℕ) (nets n : ℕ) → IsDriverRow drivers nets made.numbers → made.design.nets ≡ length drivers → n < nets
    → Contains drivers n → has_number made n ≡ true
number_hit made drivers nets n is count lt (k, within, same) =
    let at : slice_get drivers k ≡ Some n = place_at drivers k n within same in
    let low = number_within drivers n k at in
    let row = row_at drivers made.numbers nets n 0 is lt in
    and_true (nat_lt n (length made.numbers)) (nat_lt (slice_index_or made.numbers n 0) made.design.nets)
    (lt_true n (length made.numbers) (omega (arith, lt, is.len)))
    (lt_true (slice_index_or made.numbers n 0) made.design.nets (omega (arith, row, low, count)))

-- and where it has a number it is
number_driven : (made : CircuitDesign) (drivers : List ℕ) (nets n : ℕ) → IsDriverRow drivers nets made.numbers → made.design.nets ≡ length drivers
    → has_number made n ≡ true → Contains drivers n
number_driven made drivers nets n is count hit =
    let (one, two) = and_parts (nat_lt n (length made.numbers)) (nat_lt (slice_index_or made.numbers n 0) made.design.nets) hit in
    let lt : n < nets = omega (arith, true_lt n (length made.numbers) one, is.len) in
    let low = true_lt (slice_index_or made.numbers n 0) made.design.nets two in
    let row = row_at drivers made.numbers nets n 0 is lt in
    contains_at drivers (number_by drivers n) n (number_at drivers n (omega (arith, low, row, count)))

one_pin : (ins : List ℕ) → length ins ≡ 1 → (from : ℕ) × (ins ≡ from ∷ [])
one_pin [] len = absurd (omega (arith, len))
one_pin (from ∷ []) len = (from, refl)
one_pin (from ∷ to ∷ ins) len = absurd (omega (arith, len))

any_one : (marks : List Bool) (from : ℕ) → list_any (λ (net : ℕ). slice_index_or marks net false) (from ∷ []) ≡ true → is_marked marks from ≡ true
any_one marks from hit = elim (or_cases (is_marked marks from) false hit) [ inl one ↦ one | inr none ↦ cc ]

kept_in : (c : Circuit) (marks : List Bool) (buffer : Bool) (ins : List ℕ) (gates : List Gate) (g : Gate) (b : Bool)
    → is_on_tree marks (part.Comb buffer ins gates) ≡ b → IsTree c marks → In (part.Comb buffer ins gates) c.parts → In g gates
    → IsLawfulComb c.nets buffer ins gates → (In g (equations marks c)) ⊎ (is_marked marks g.out ≡ true)
kept_in c marks buffer ins gates g false e is stands there lawful =
    let p : Part = part.Comb buffer ins gates in
    let same : kept_gates marks p ≡ gates = rw e refl in
    inl (In-flat (kept_gates marks) g p c.parts stands (subst (λ (gs : List Gate). In g gs) (sym same) there))
kept_in c marks buffer ins gates g true e is stands there lawful =
    let (buffers, any) = and_parts buffer (list_any (λ (net : ℕ). slice_index_or marks net false) ins) e in
    let (from, ins_are) = one_pin ins (lawful.one buffers) in
    let from_hit = any_one marks from (subst (λ (ns : List ℕ). list_any (λ (net : ℕ). slice_index_or marks net false) ns ≡ true) ins_are any) in
    let (odd, on) = (is from).0 from_hit in
    let p_same : part.Comb buffer ins gates ≡ part.Comb true (from ∷ []) gates =
    ap (λ (b : Bool). part.Comb b ins gates) buffers ∙ ap (λ (ns : List ℕ). part.Comb true ns gates) ins_are in
    let there_as = Contains-from_In c.parts (part.Comb true (from ∷ []) gates) (subst (λ (q : Part). In q c.parts) p_same stands) in
    inr ((is g.out).1 (xor odd (inverts g.func), Buffered from gates g odd there_as (Contains-from_In gates g there) on))

-- each gate of the circuit stays or is of the clock tree
gate_kept : (c : Circuit) (marks : List Bool) (g : Gate) → IsLawfulCircuit c → IsTree c marks → In g (all_gates c)
    → (In g (equations marks c)) ⊎ (is_marked marks g.out ≡ true)
gate_kept c marks g lawful is has =
    let of = gate_of_part c lawful g has in
    kept_in c marks of.buffer of.ins of.gates g (is_on_tree marks (part.Comb of.buffer of.ins of.gates)) refl is of.stands of.there of.comb

kept_if : (marks : List Bool) (buffer : Bool) (ins : List ℕ) (gates : List Gate) (g : Gate) (b : Bool) → is_on_tree marks (part.Comb buffer ins gates) ≡ b
    → In g (kept_gates marks (part.Comb buffer ins gates)) → In g gates
kept_if marks buffer ins gates g true e has =
    let none : kept_gates marks (part.Comb buffer ins gates) ≡ [] = rw e refl in absurd (subst (λ (gs : List Gate). In g gs) none has)
kept_if marks buffer ins gates g false e has =
    let same : kept_gates marks (part.Comb buffer ins gates) ≡ gates = rw e refl in subst (λ (gs : List Gate). In g gs) same has

kept_of : (marks : List Bool) (p : Part) (g : Gate) → In g (kept_gates marks p) → In g (part_gates p)
kept_of marks (part.Comb buffer ins gates) g has = kept_if marks buffer ins gates g (is_on_tree marks (part.Comb buffer ins gates)) refl has
kept_of marks (part.Flop clock reg) g has = absurd has
kept_of marks (part.Gate clock enables out) g has = absurd has

equation_gate : (c : Circuit) (marks : List Bool) (g : Gate) → In g (equations marks c) → In g (all_gates c)
equation_gate c marks g has =
    let (p, stands, there) = from_flat (kept_gates marks) g c.parts has in In-flat part_gates g p c.parts stands (kept_of marks p g there)

-- where a net stands among drivers
sources_in : (c : Circuit) (gates : List Gate) (n : ℕ) → In n (c.inputs ++ flat_map reg_nets (regs_of c)) → In n (drivers_by c gates)
sources_in c gates n has = In-left n (c.inputs ++ flat_map reg_nets (regs_of c)) (gate_nets gates) has

gate_in : (c : Circuit) (gates : List Gate) (g : Gate) → In g gates → In g.out (drivers_by c gates)
gate_in c gates g has = In-right g.out (c.inputs ++ flat_map reg_nets (regs_of c)) (gate_nets gates) (In-map (λ (g : Gate). g.out) g gates has)

-- what the design or its clock tree drives
abbrev IsDrivenBy : Circuit → List Bool → List Gate → ℕ → Type 0
IsDrivenBy c marks order n = In n (drivers_by c order) ⊎ (is_marked marks n ≡ true)

gate_driven : (c : Circuit) (marks : List Bool) (order : List Gate) (g : Gate) → IsPermutation (equations marks c) order
    → (In g (equations marks c)) ⊎ (is_marked marks g.out ≡ true) → IsDrivenBy c marks order g.out
gate_driven c marks order g perm (inl stays) =
    let there = Contains-permutation (equations marks c) order g perm (Contains-from_In (equations marks c) g stays) in
    inl (gate_in c order g (In-from_Contains order g there))
gate_driven c marks order g perm (inr hit) = inr hit

-- the nets that the clock port, data inputs and registers drive
abbrev sources_of : Circuit → List ℕ
sources_of c = c.clocks ++ c.inputs ++ flat_map reg_nets (regs_of c)

-- the design drives them, or they are on the clock tree
source_cases : (c : Circuit) (marks : List Bool) (order : List Gate) (n : ℕ) → IsTree c marks → In n (sources_of c) → IsDrivenBy c marks order n
source_cases c marks order n is has =
    let regs = flat_map reg_nets (regs_of c) in
    elim (In-cases n (c.clocks ++ c.inputs) regs has) [
      | inl port ↦ elim (In-cases n c.clocks c.inputs port) [
        | inl clock ↦ inr ((is n).1 (false, Root n (Contains-from_In c.clocks n clock)))
        | inr input ↦ inl (sources_in c order n (In-left n c.inputs regs input))
      ]
      | inr reg ↦ inl (sources_in c order n (In-right n c.inputs regs reg))
    ]

-- so does it all that is driven in the circuit, a clock gate's output being on the tree
driven_of : (c : Circuit) (marks : List Bool) (order : List Gate) (n : ℕ) → IsLawfulCircuit c → IsClocked c → IsTree c marks
    → IsPermutation (equations marks c) order → In n (all_drivers c) → IsDrivenBy c marks order n
driven_of c marks order n lawful clocked is perm has =
    let gated = flat_map part_gated c.parts in
    elim (In-cases n (sources_of c ++ gate_nets (all_gates c)) gated has) [
      | inl design ↦ elim (In-cases n (sources_of c) (gate_nets (all_gates c)) design) [
        | inl source ↦ source_cases c marks order n is source
        | inr gate ↦
            let (g, there, out) = from_map (λ (g : Gate). g.out) n (all_gates c) gate in
            subst (λ (m : ℕ). IsDrivenBy c marks order m) out (gate_driven c marks order g perm (gate_kept c marks g lawful is there))
      ]
      | inr clock ↦ inr ((is n).1 (false, gated_on c clocked n clock))
    ]

-- all that they drive is driven in the circuit
source_all : (c : Circuit) (n : ℕ) → In n (sources_of c) → In n (all_drivers c)
source_all c n has =
    In-left n (sources_of c ++ gate_nets (all_gates c)) (flat_map part_gated c.parts) (In-left n (sources_of c) (gate_nets (all_gates c)) has)

gate_all : (c : Circuit) (g : Gate) → In g (all_gates c) → In g.out (all_drivers c)
gate_all c g has =
    In-left g.out (sources_of c ++ gate_nets (all_gates c)) (flat_map part_gated c.parts)
    (In-right g.out (sources_of c) (gate_nets (all_gates c)) (In-map (λ (g : Gate). g.out) g (all_gates c) has))

tree_driven : (c : Circuit) (n : ℕ) (odd : Bool) → OnTree c n odd → In n (all_drivers c)
tree_driven c n odd (Root m there) =
    source_all c m (In-left m (c.clocks ++ c.inputs) (flat_map reg_nets (regs_of c)) (In-left m c.clocks c.inputs (In-from_Contains c.clocks m there)))
tree_driven c n odd (Buffered from gates g even stands there on) =
    let p : Part = part.Comb true (from ∷ []) gates in
    gate_all c g (In-flat part_gates g p c.parts (In-from_Contains c.parts p stands) (In-from_Contains gates g there))
tree_driven c n odd (Gated clock enables out stands on) =
    let p : Part = part.Gate clock enables out in
    In-right out (sources_of c ++ gate_nets (all_gates c)) (flat_map part_gated c.parts)
    (In-flat part_gated out p c.parts (In-from_Contains c.parts p stands) (inl refl))

pub drivers_driven : (c : Circuit) (marks : List Bool) (order : List Gate) (n : ℕ) → IsPermutation (equations marks c) order → In n (drivers_by c order)
    → In n (all_drivers c)
drivers_driven c marks order n perm has =
    let regs = flat_map reg_nets (regs_of c) in
    elim (In-cases n (c.inputs ++ regs) (gate_nets order) has) [
      | inl source ↦ source_all c n (elim (In-cases n c.inputs regs source) [
        | inl input ↦ In-left n (c.clocks ++ c.inputs) regs (In-right n c.clocks c.inputs input)
        | inr reg ↦ In-right n (c.clocks ++ c.inputs) regs reg
      ])
      | inr gate ↦
          let (g, there, out) = from_map (λ (g : Gate). g.out) n order gate in
          let back = Contains-permutation order (equations marks c) g (IsPermutation-sym (equations marks c) order perm) (Contains-from_In order g there) in
          subst (λ (m : ℕ). In m (all_drivers c)) out
          (gate_all c g (equation_gate c marks g (In-from_Contains (equations marks c) g back)))
    ]

-- each net that something drives is one of the circuit
pub driven_below : (c : Circuit) (n : ℕ) → IsLawfulCircuit c → In n (all_drivers c) → n < c.nets
driven_below c n lawful has =
    all_in (λ (m : ℕ). m < c.nets) (all_drivers c) (subst (λ (ns : List ℕ). AllBelow c.nets ns) (drivers_are c) (drivers_below c lawful)) n has

-- the nets that something drives are those with a number, and those of the clock tree
pub driven_hit : (c : Circuit) (h : Held) (made : CircuitDesign) (n : ℕ) → IsLawfulCircuit c → IsMade c h made → In n (all_drivers c) → is_driven made n ≡ true
driven_hit c h made n lawful m has = elim
    (driven_of c made.tree m.order n lawful m.clocked m.design_is.tree_is (order_permutes c made.tree m.order m.design_is.order_is) has) [
      | inl there ↦
          or_left (has_number made n) (is_marked made.tree n)
          (number_hit made (drivers_by c m.order) c.nets n m.numbers m.design_is.nets (driven_below c n lawful has)
          (Contains-from_In (drivers_by c m.order) n there))
      | inr hit ↦ or_right (has_number made n) (is_marked made.tree n) hit
    ]

pub hit_driven : (c : Circuit) (h : Held) (made : CircuitDesign) (n : ℕ) → IsMade c h made → is_driven made n ≡ true → In n (all_drivers c)
hit_driven c h made n m hit = elim (or_cases (has_number made n) (is_marked made.tree n) hit) [
  | inl number ↦
      drivers_driven c made.tree m.order n (order_permutes c made.tree m.order m.design_is.order_is)
      (In-from_Contains (drivers_by c m.order) n (number_driven made (drivers_by c m.order) c.nets n m.numbers m.design_is.nets number))
  | inr on ↦ let (odd, is) = (m.design_is.tree_is n).0 on in tree_driven c n odd is
]

-- the row numbers the nets by the drivers of the design
row_number : (c : Circuit) (h : Held) (made : CircuitDesign) (n : ℕ) → IsLawfulCircuit c → (m : IsMade c h made)
    → slice_index_or made.numbers n made.design.nets ≡ number_by (drivers_by c m.order) n
row_number c h made n lawful m = elim (cases_lt n c.nets) [
  | inl lt ↦ row_at (drivers_by c m.order) made.numbers c.nets n made.design.nets m.numbers lt
  | inr past ↦
      let drivers = drivers_by c m.order in
      past_row made.numbers n made.design.nets (omega (arith, past, m.numbers.len)) ∙ m.design_is.nets ∙ elim (number_cases drivers n) [
        | inl there ↦
            let has = In-from_Contains drivers n (contains_at drivers (number_by drivers n) n there) in
            let lt = driven_below c n lawful (drivers_driven c made.tree m.order n (order_permutes c made.tree m.order m.design_is.order_is) has) in
            absurd (omega (arith, lt, past))
        | inr none ↦ sym none
      ]
]

pub numbered_is : (c : Circuit) (h : Held) (made : CircuitDesign) (marks : List Bool) → IsLawfulCircuit c → (m : IsMade c h made)
    → AreMarks made c.nets marks → IsNumberedBy marks (drivers_by c m.order) made.numbers made.design.nets
numbered_is c h made marks lawful m are = record {
  count_is = m.design_is.nets;
  number = λ n. row_number c h made n lawful m;
  marked = λ n has.
      let there = In-from_Contains (drivers_by c m.order) n has in
      let driven = drivers_driven c made.tree m.order n (order_permutes c made.tree m.order m.design_is.order_is) there in
      are.all n (driven_below c n lawful driven)
      (or_left (has_number made n) (is_marked made.tree n)
      (number_hit made (drivers_by c m.order) c.nets n m.numbers m.design_is.nets (driven_below c n lawful driven) has));
}

-- marks, one net on
mark_cases : (xs : List Bool) (b : Bool) (n : ℕ) → is_marked (xs ++ b ∷ []) n ≡ true → (is_marked xs n ≡ true) ⊎ ((n ≡ length xs) × (b ≡ true))
mark_cases [] b zero hit = inr (refl, hit)
mark_cases [] b (suc n) hit = cc
mark_cases (x ∷ xs) b zero hit = inl hit
mark_cases (x ∷ xs) b (suc n) hit = elim (mark_cases xs b n hit) [ inl old ↦ inl old | inr new ↦ inr (ap suc new.0, new.1) ]

mark_kept : (xs : List Bool) (b : Bool) (n : ℕ) → is_marked xs n ≡ true → is_marked (xs ++ b ∷ []) n ≡ true
mark_kept [] b zero hit = cc
mark_kept [] b (suc n) hit = cc
mark_kept (x ∷ xs) b zero hit = hit
mark_kept (x ∷ xs) b (suc n) hit = mark_kept xs b n hit

mark_last : (xs : List Bool) (b : Bool) → b ≡ true → is_marked (xs ++ b ∷ []) (length xs) ≡ true
mark_last [] b hit = hit
mark_last (x ∷ xs) b hit = mark_last xs b hit

pub marks_none : (made : CircuitDesign) → AreMarks made 0 []
marks_none made = record { len = refl; only = λ n hit. cc; all = λ n lt hit. absurd (omega (arith, lt)) }

pub marks_more : (made : CircuitDesign) (k : ℕ) (marks : List Bool) (b : Bool) → b ≡ is_driven made k → AreMarks made k marks
    → AreMarks made (k + 1) (marks ++ b ∷ [])
marks_more made k marks b is are = record {
  len = omega (arith, length-append marks (b ∷ []), are.len);
  only = λ n hit. elim (mark_cases marks b n hit) [
    | inl old ↦ are.only n old
    | inr new ↦ let same : n ≡ k = omega (arith, new.0, are.len) in subst (λ (m : ℕ). is_driven made m ≡ true) (sym same) (sym is ∙ new.1)
  ];
  all = λ n lt hit. elim (cases_lt n k) [
    | inl old ↦ mark_kept marks b n (are.all n old hit)
    | inr new ↦
        let same : n ≡ k = omega (arith, lt, new) in
        let last = mark_last marks b (is ∙ subst (λ (m : ℕ). is_driven made m ≡ true) same hit) in
        let at : length marks ≡ n = omega (arith, are.len, same) in
        subst (λ (m : ℕ). is_marked (marks ++ b ∷ []) m ≡ true) at last
  ];
}
