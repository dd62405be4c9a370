-- A circuit without the registers and clock gates that a clock does not come to reads, drives and hands on no more than with them.
use Rattle.std.proofs.Common.{◌≡◌, ℕ, zero, suc, ◌+◌, ◌≤◌, Bool, true, false, not, List, [], ◌∷◌, ◌++◌, map, Some, None, refl, ap, subst, sym}
use Rattle.std.proofs.Common.{◌∙◌, arith, inl, inr, ◌⊎◌}
use Rattle.std.specs.Prelude.{Option, Contains, slice_get, filter, flat_map, count_by, ◌==◌, if◌then◌else◌}
use Rattle.std.proofs.lemmas.List.Concat.{flat_map-append}
use Rattle.net_model.specs.Netlist.{gate_nets, reg_nets}
use Rattle.net_model.specs.declared.netlist.Gate.{Gate}
use Rattle.net_model.specs.declared.netlist.Reg.{Reg}
use Rattle.net_model.proofs.Members.{In, In-cases, In-left, In-right, In-flat, from_flat, from_map, In-from_Contains, Contains-from_In}
use Rattle.net_model.proofs.Order.{count_append}
use Rattle.link_defs.specs.declared.circuits.Circuit.{Circuit}
use Rattle.link_defs.specs.declared.circuits.Part.{Part}
use Rattle.link_defs.specs.declared.circuits.Part.TheVariants as part
use Rattle.link_defs.specs.CellNames.{Leaf}
use Rattle.link_defs.specs.Circuits.{part_gates, part_regs, part_gated, part_reads, part_data, clock_of, regs_of, all_gates, all_drivers, all_reads, all_data, OnTree}
use Rattle.link_defs.specs.Circuits as net
use Rattle.link_defs.specs.Judged.{FlatNetlist, IsJudged, off_clock, on_clock, is_off, is_leaf_on}

-- what is left of a part
abbrev empty : Part
empty = part.Comb false [] []

or_of : (b : Bool) (p : Part) → (((if b then empty else p) ≡ p) × (b ≡ false)) ⊎ ((if b then empty else p) ≡ empty)
or_of true p = inr refl
or_of false p = inl (refl, refl)

-- it stays, or nothing is left of it
part_or : (even : List Bool) (p : Part) → ((on_clock even p ≡ p) × (is_off even p ≡ false)) ⊎ (on_clock even p ≡ empty)
part_or even p = or_of (is_off even p) p

kept_or : (even : List Bool) (q : Part) (ps : List Part) → In q (map (on_clock even) ps) → In q ps ⊎ (q ≡ empty)
kept_or even q ps has =
    let (p, there, same) = from_map (on_clock even) q ps has in
    elim (part_or even p) [
      | inl own ↦ inl (subst (λ (r : Part). In r ps) (sym own.0 ∙ same) there)
      | inr off ↦ inr (sym same ∙ off)
    ]

flat_kept : {A : Type 0} (f : Part → List A) → f empty ≡ [] → (even : List Bool) (a : A) (ps : List Part) → In a (flat_map f (map (on_clock even) ps))
    → In a (flat_map f ps)
flat_kept f none even a ps has =
    let (q, there, here) = from_flat f a (map (on_clock even) ps) has in
    elim (kept_or even q ps there) [
      | inl own ↦ In-flat f a q ps own here
      | inr off ↦ absurd (subst (λ xs. In a xs) (ap f off ∙ none) here)
    ]

-- gates are left as they are
gates_here : (even : List Bool) (p : Part) → part_gates (on_clock even p) ≡ part_gates p
gates_here even (part.Comb buffer ins gates) = refl
gates_here even (part.Flop clock reg) =
    elim (part_or even (part.Flop clock reg)) [ inl own ↦ ap part_gates own.0 | inr off ↦ ap part_gates off ]
gates_here even (part.Gate clock enables out) =
    elim (part_or even (part.Gate clock enables out)) [ inl own ↦ ap part_gates own.0 | inr off ↦ ap part_gates off ]

gates_same : (even : List Bool) (ps : List Part) → flat_map part_gates (map (on_clock even) ps) ≡ flat_map part_gates ps
gates_same even [] = refl
gates_same even (p ∷ ps) =
    ap (λ (gs : List Gate). gs ++ flat_map part_gates (map (on_clock even) ps)) (gates_here even p)
    ∙ ap (λ (gs : List Gate). part_gates p ++ gs) (gates_same even ps)

-- and there is no driver more
count_kept : (f : Part → List ℕ) → f empty ≡ [] → (even : List Bool) (n : ℕ) (ps : List Part)
    → count_by (λ m. m == n) (flat_map f (map (on_clock even) ps)) ≤ count_by (λ m. m == n) (flat_map f ps)
count_kept f none even n [] = omega arith
count_kept f none even n (p ∷ ps) =
    let more = count_kept f none even n ps in
    let new = count_append (λ m. m == n) (f (on_clock even p)) (flat_map f (map (on_clock even) ps)) in
    let old = count_append (λ m. m == n) (f p) (flat_map f ps) in
    elim (part_or even p) [
      | inl own ↦
          let here = ap (λ (q : Part). count_by (λ m. m == n) (f q)) own.0 in omega (arith, more, new, old, here)
      | inr off ↦
          let here : count_by (λ m. m == n) (f (on_clock even p)) ≡ 0 = ap (λ (xs : List ℕ). count_by (λ m. m == n) xs) (ap f off ∙ none) in
          omega (arith, more, new, old, here)
    ]

abbrev reg_drives : Part → List ℕ
reg_drives p = flat_map reg_nets (part_regs p)

regs_are : (ps : List Part) → flat_map reg_nets (flat_map part_regs ps) ≡ flat_map reg_drives ps
regs_are [] = refl
regs_are (p ∷ ps) =
    flat_map-append reg_nets (part_regs p) (flat_map part_regs ps) ∙ ap (λ (xs : List ℕ). flat_map reg_nets (part_regs p) ++ xs) (regs_are ps)

-- a circuit that is another but for registers and clock gates that it does not have
pub record IsThinned (c j : Circuit) : Type 0 where
  pub outputs : j.outputs ≡ c.outputs
  pub reads : (n : ℕ) → In n (flat_map part_reads j.parts) → In n (flat_map part_reads c.parts)
  pub as_data : (n : ℕ) → In n (flat_map part_data j.parts) → In n (flat_map part_data c.parts)
  pub gates : all_gates j ≡ all_gates c
  pub drivers : (n : ℕ) → count_by (λ m. m == n) (all_drivers j) ≤ count_by (λ m. m == n) (all_drivers c)
  pub tree : (n : ℕ) (odd : Bool) → OnTree j n odd → OnTree c n odd

thin_self : (c : Circuit) → IsThinned c c
thin_self c = record {
  outputs = refl;
  reads = λ n has. has;
  as_data = λ n has. has;
  gates = refl;
  drivers = λ n. omega arith;
  tree = λ n odd tree. tree;
}

-- what is left on the clock
abbrev left_on : List Bool → Circuit → Circuit
left_on even c = record c { parts = map (on_clock even) c.parts }

drivers_kept : (even : List Bool) (c : Circuit) (n : ℕ)
    → count_by (λ m. m == n) (all_drivers (left_on even c)) ≤ count_by (λ m. m == n) (all_drivers c)
drivers_kept even c n =
    let p : ℕ → Bool = λ m. m == n in
    let ps = map (on_clock even) c.parts in
    let ports = c.clocks ++ c.inputs in
    let regs = ap (λ (xs : List ℕ). count_by p xs) (regs_are c.parts) in
    let left = ap (λ (xs : List ℕ). count_by p xs) (regs_are ps) in
    let gates = ap (λ (gs : List Gate). count_by p (gate_nets gs)) (gates_same even c.parts) in
    omega (
      arith,
      regs,
      left,
      gates,
      count_kept reg_drives refl even n c.parts,
      count_kept part_gated refl even n c.parts,
      count_append p ((ports ++ flat_map reg_nets (flat_map part_regs ps)) ++ gate_nets (flat_map part_gates ps)) (flat_map part_gated ps),
      count_append p (ports ++ flat_map reg_nets (flat_map part_regs ps)) (gate_nets (flat_map part_gates ps)),
      count_append p ports (flat_map reg_nets (flat_map part_regs ps)),
      count_append p ((ports ++ flat_map reg_nets (flat_map part_regs c.parts)) ++ gate_nets (flat_map part_gates c.parts)) (flat_map part_gated c.parts),
      count_append p (ports ++ flat_map reg_nets (flat_map part_regs c.parts)) (gate_nets (flat_map part_gates c.parts)),
      count_append p ports (flat_map reg_nets (flat_map part_regs c.parts)),
    )

abbrev buffer_of : Part → Bool
buffer_of (part.Comb buffer ins gates) = buffer
buffer_of (part.Flop clock reg) = false
buffer_of (part.Gate clock enables out) = false

tree_left : (even : List Bool) (c : Circuit) (n : ℕ) (odd : Bool) → OnTree (left_on even c) n odd → OnTree c n odd
tree_left even c n odd (net.Root m there) = net.Root m there
tree_left even c n odd (net.Buffered from gates g before has there tree) =
    let p : Part = part.Comb true (from ∷ []) gates in
    elim (kept_or even p c.parts (In-from_Contains (map (on_clock even) c.parts) p has)) [
      | inl own ↦ net.Buffered from gates g before (Contains-from_In c.parts p own) there (tree_left even c from before tree)
      | inr off ↦ let wrong : true ≡ false = ap buffer_of off in absurd (let e = wrong in cc)
    ]
tree_left even c n odd (net.Gated from enables out has tree) =
    let p : Part = part.Gate from enables out in
    elim (kept_or even p c.parts (In-from_Contains (map (on_clock even) c.parts) p has)) [
      | inl own ↦ net.Gated from enables out (Contains-from_In c.parts p own) (tree_left even c from false tree)
      | inr off ↦ let wrong : Some from ≡ None = ap clock_of off in absurd (let e = wrong in cc)
    ]

thin_off : (even : List Bool) (c : Circuit) → IsThinned c (left_on even c)
thin_off even c = record {
  outputs = refl;
  reads = λ n has. flat_kept part_reads refl even n c.parts has;
  as_data = λ n has. flat_kept part_data refl even n c.parts has;
  gates = gates_same even c.parts;
  drivers = drivers_kept even c;
  tree = tree_left even c;
}

-- the circuit that is judged is such a one
pub judged_thin : (one : Bool) (n j : FlatNetlist) → IsJudged one n j → IsThinned n.circuit j.circuit
judged_thin false n j is = subst (λ (x : FlatNetlist). IsThinned n.circuit x.circuit) (sym is.is) (thin_self n.circuit)
judged_thin true n j is = subst (λ (x : FlatNetlist). IsThinned n.circuit x.circuit) (sym is.is) (thin_off is.even n.circuit)

pub thin_reads : (c j : Circuit) (n : ℕ) → IsThinned c j → In n (all_reads j) → In n (all_reads c)
thin_reads c j n thin has = elim (In-cases n j.outputs (flat_map part_reads j.parts) has) [
  | inl out ↦ In-left n c.outputs (flat_map part_reads c.parts) (subst (λ (ns : List ℕ). In n ns) thin.outputs out)
  | inr pin ↦ In-right n c.outputs (flat_map part_reads c.parts) (thin.reads n pin)
]

pub thin_data : (c j : Circuit) (n : ℕ) → IsThinned c j → In n (all_data j) → In n (all_data c)
thin_data c j n thin has = elim (In-cases n j.outputs (flat_map part_data j.parts) has) [
  | inl out ↦ In-left n c.outputs (flat_map part_data c.parts) (subst (λ (ns : List ℕ). In n ns) thin.outputs out)
  | inr pin ↦ In-right n c.outputs (flat_map part_data c.parts) (thin.as_data n pin)
]

-- a register or a clock gate that is left stands where it stood
at_or : (o : Option Part) (even : List Bool) (p q : Part) (pin : ℕ) → Some (on_clock even p) ≡ Some q → clock_of q ≡ Some pin
    → (p ≡ q) × (is_off even q ≡ false)
at_or o even p q pin at on =
    let same : on_clock even p ≡ q = (let e = at in cc) in
    elim (part_or even p) [
      | inl own ↦
          let is : p ≡ q = sym own.0 ∙ same in (is, subst (λ (r : Part). is_off even r ≡ false) is own.1)
      | inr off ↦ let wrong : None ≡ Some pin = ap clock_of (sym off ∙ same) ∙ on in absurd (let e = wrong in cc)
    ]

at_kept : (even : List Bool) (ps : List Part) (k : ℕ) (q : Part) (pin : ℕ) → slice_get (map (on_clock even) ps) k ≡ Some q → clock_of q ≡ Some pin
    → (slice_get ps k ≡ Some q) × (is_off even q ≡ false)
at_kept even [] k q pin at on = cc
at_kept even (p ∷ ps) zero q pin at on =
    let (is, stays) = at_or None even p q pin at on in (ap (λ (r : Part). Some r) is, stays)
at_kept even (p ∷ ps) (suc k) q pin at on = at_kept even ps k q pin at on

in_filter : {X : Type 0} (test : X → Bool) (x : X) (xs : List X) → In x xs → test x ≡ true → In x (filter test xs)
in_filter test x [] has hit = absurd has
in_filter test x (y ∷ ys) (inl same) hit = in_here test x y ys same (test y) refl (ap test same ∙ hit)
  where
    in_here : {X : Type 0} (test : X → Bool) (x y : X) (ys : List X) → y ≡ x → (b : Bool) → test y ≡ b → b ≡ true → In x (filter test (y ∷ ys))
    in_here test x y ys same b is hit = rw (is ∙ hit) (inl same)
in_filter test x (y ∷ ys) (inr later) hit = in_later test x y ys (test y) refl (in_filter test x ys later hit)
  where
    in_later : {X : Type 0} (test : X → Bool) (x y : X) (ys : List X) (b : Bool) → test y ≡ b → In x (filter test ys) → In x (filter test (y ∷ ys))
    in_later test x y ys true is has = rw is (inr has)
    in_later test x y ys false is has = rw is has

-- a leaf at the place of a part
abbrev pub HasLeafAt : List Leaf → List Part → ℕ → Type 0
HasLeafAt found parts place = (l : Leaf) × Contains found l × (slice_get parts place ≡ Some l.part)

leaf_left : (even : List Bool) (n : FlatNetlist) (place : ℕ) (q : Part) (pin : ℕ) → clock_of q ≡ Some pin
    → slice_get (map (on_clock even) n.circuit.parts) place ≡ Some q
    → (slice_get n.circuit.parts place ≡ Some q → HasLeafAt n.found n.circuit.parts place)
    → HasLeafAt (filter (is_leaf_on even) n.found) (map (on_clock even) n.circuit.parts) place
leaf_left even n place q pin on at whole =
    let (here, stays) = at_kept even n.circuit.parts place q pin at on in
    let (l, there, is) = whole here in
    let same : l.part ≡ q = (let e = sym is ∙ here in cc) in
    let hit : is_leaf_on even l ≡ true = ap (λ (p : Part). not (is_off even p)) same ∙ ap not stays in (
      l,
      Contains-from_In (filter (is_leaf_on even) n.found) l (in_filter (is_leaf_on even) l n.found (In-from_Contains n.found l there) hit),
      at ∙ ap (λ (p : Part). Some p) (sym same),
    )

-- and it has its leaf
pub judged_leaf : (one : Bool) (n j : FlatNetlist) (place : ℕ) (q : Part) (pin : ℕ) → IsJudged one n j → clock_of q ≡ Some pin
    → slice_get j.circuit.parts place ≡ Some q → (slice_get n.circuit.parts place ≡ Some q → HasLeafAt n.found n.circuit.parts place)
    → HasLeafAt j.found j.circuit.parts place
judged_leaf false n j place q pin is on at whole =
    subst (λ (x : FlatNetlist). HasLeafAt x.found x.circuit.parts place) (sym is.is)
    (whole (subst (λ (x : FlatNetlist). slice_get x.circuit.parts place ≡ Some q) is.is at))
judged_leaf true n j place q pin is on at whole =
    subst (λ (x : FlatNetlist). HasLeafAt x.found x.circuit.parts place) (sym is.is)
    (leaf_left is.even n place q pin on (subst (λ (x : FlatNetlist). slice_get x.circuit.parts place ≡ Some q) is.is at) whole)
