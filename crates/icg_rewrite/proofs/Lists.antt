-- The registers and gates of a rewritten design, place by place.
use Rattle.std.proofs.Common.{◌≡◌, ℕ, zero, suc, ◌+◌, ◌<◌, List, [], ◌∷◌, ◌++◌, length, take, map, refl, ap, ◌∙◌, arith, inl, inr, append_assoc}
use Rattle.std.specs.Prelude.{Option, Some, None, slice_get, flat_map, ◌⊎◌}
use Rattle.net_model.specs.Netlist.{reg_nets}
use Rattle.net_model.specs.declared.netlist.Design.{Design}
use Rattle.net_model.specs.declared.netlist.Fixed.{Fixed}
use Rattle.net_model.specs.declared.netlist.Gate.{Gate}
use Rattle.net_model.specs.declared.netlist.Reg.{Reg}
use Rattle.net_model.specs.declared.netlist.RegOut.{RegOut}
use Rattle.icg_rewrite.specs.declared.clock_gates.ClockGate.{ClockGate}
use Rattle.icg_rewrite.specs.declared.clock_gates.Gated.{Gated}
use Rattle.icg_rewrite.specs.Rewritten.{gated_reg, gated_regs, enable_gate, enable_gates, rewritten}

-- an item of two lists is one of the first, or one of the second after it
pub at_append : {X : Type 0} (xs ys : List X) (k : ℕ) (x : X) → slice_get (xs ++ ys) k ≡ Some x → (slice_get xs k ≡ Some x)
    ⊎ ((j : ℕ) × (k ≡ length xs + j) × (slice_get ys j ≡ Some x))
at_append [] ys k x at = inr (k, omega arith, at)
at_append (y ∷ xs) ys zero x at = inl at
at_append (y ∷ xs) ys (suc k) x at = elim (at_append xs ys k x at) [
  | inl first ↦ inl first
  | inr later ↦ inr (later.0, omega (arith, later.1), later.2)
]

-- an item of the first list keeps its place
pub left_at : {X : Type 0} (xs ys : List X) (k : ℕ) (x : X) → slice_get xs k ≡ Some x → slice_get (xs ++ ys) k ≡ Some x
left_at [] ys k x at = cc
left_at (y ∷ xs) ys zero x at = at
left_at (y ∷ xs) ys (suc k) x at = left_at xs ys k x at

-- an item of the second list stands after the first
pub right_at : {X : Type 0} (xs ys : List X) (j : ℕ) → slice_get (xs ++ ys) (length xs + j) ≡ slice_get ys j
right_at [] ys j = ap (λ (i : ℕ). slice_get ys i) (omega arith)
right_at (x ∷ xs) ys j =
    let next : length (x ∷ xs) + j ≡ suc (length xs + j) = omega arith in
    ap (λ (i : ℕ). slice_get (x ∷ (xs ++ ys)) i) next ∙ right_at xs ys j

-- where an item of a mapped list comes from
pub map_from : {X Y : Type 0} (f : X → Y) (xs : List X) (k : ℕ) (y : Y) → slice_get (map f xs) k ≡ Some y → (x : X) × (slice_get xs k ≡ Some x) × (f x ≡ y)
map_from f [] k y at = cc
map_from f (x ∷ xs) zero y at = (x, refl, cc)
map_from f (x ∷ xs) (suc k) y at = map_from f xs k y at

-- a place below the length has an item
pub item_at : {X : Type 0} (xs : List X) (k : ℕ) → k < length xs → (x : X) × (slice_get xs k ≡ Some x)
item_at [] k lt = absurd (omega arith)
item_at (x ∷ xs) zero lt = (x, refl)
item_at (x ∷ xs) (suc k) lt = item_at xs k (omega arith)

-- the same register with the same clock gate is rewritten to the same
same_reg : (n : ℕ) (x reg : Reg) (o gate : Option ℕ) → x ≡ reg → o ≡ gate → gated_reg n x o ≡ gated_reg n reg gate
same_reg n x reg o gate a b = ap (λ (y : Reg). gated_reg n y o) a ∙ ap (λ (y : Option ℕ). gated_reg n reg y) b

-- where a register of the rewritten design comes from
pub reg_from : (n : ℕ) (regs : List Reg) (of : List (Option ℕ)) (r : ℕ) (q : Reg) → slice_get (gated_regs n regs of) r ≡ Some q → (reg : Reg)
    × (gate : Option ℕ) × (slice_get regs r ≡ Some reg) × (slice_get of r ≡ Some gate) × (gated_reg n reg gate ≡ q)
reg_from n [] of r q at = cc
reg_from n (x ∷ xs) [] r q at = cc
reg_from n (x ∷ xs) (o ∷ os) zero q at = (x, o, refl, refl, cc)
reg_from n (x ∷ xs) (o ∷ os) (suc r) q at = reg_from n xs os r q at

-- what stands in a register's place
pub reg_at : (n : ℕ) (regs : List Reg) (of : List (Option ℕ)) (r : ℕ) (reg : Reg) (gate : Option ℕ) → slice_get regs r ≡ Some reg
    → slice_get of r ≡ Some gate → slice_get (gated_regs n regs of) r ≡ Some (gated_reg n reg gate)
reg_at n [] of r reg gate at there = cc
reg_at n (x ∷ xs) [] r reg gate at there = cc
reg_at n (x ∷ xs) (o ∷ os) zero reg gate at there =
    let a : x ≡ reg = cc in let b : o ≡ gate = cc in ap (λ (q : Reg). Some q) (same_reg n x reg o gate a b)
reg_at n (x ∷ xs) (o ∷ os) (suc r) reg gate at there = reg_at n xs os r reg gate at there

-- there are as many registers as before
pub length-gated_regs : (n : ℕ) (regs : List Reg) (of : List (Option ℕ)) → length of ≡ length regs → length (gated_regs n regs of) ≡ length regs
length-gated_regs n [] of same = refl
length-gated_regs n (x ∷ xs) [] same = absurd (omega (arith, same))
length-gated_regs n (x ∷ xs) (o ∷ os) same = omega (arith, length-gated_regs n xs os (omega (arith, same)))

-- an enable leaves a register's outputs
pub same_outs : (n : ℕ) (reg : Reg) (gate : Option ℕ) → (gated_reg n reg gate).outs ≡ reg.outs
same_outs n reg None = refl
same_outs n reg (Some k) = refl

-- so the registers drive the nets that they drove
pub same_nets : (n : ℕ) (regs : List Reg) (of : List (Option ℕ)) → length of ≡ length regs → flat_map reg_nets (gated_regs n regs of) ≡ flat_map reg_nets regs
same_nets n [] of same = refl
same_nets n (x ∷ xs) [] same = absurd (omega (arith, same))
same_nets n (x ∷ xs) (o ∷ os) same =
    ap (λ (outs : List RegOut). map (λ (out : RegOut). out.net) outs ++ flat_map reg_nets (gated_regs n xs os)) (same_outs n x o)
    ∙ ap (λ (ns : List ℕ). reg_nets x ++ ns) (same_nets n xs os (omega (arith, same)))

-- one more register
regs_more : (n : ℕ) (regs : List Reg) (of : List (Option ℕ)) (r : ℕ) (reg : Reg) (gate : Option ℕ) → slice_get regs r ≡ Some reg
    → slice_get of r ≡ Some gate → gated_regs n (take r regs) (take r of) ++ gated_reg n reg gate ∷ [] ≡ gated_regs n (take (suc r) regs) (take (suc r) of)
regs_more n [] of r reg gate at there = cc
regs_more n (x ∷ xs) [] r reg gate at there = cc
regs_more n (x ∷ xs) (o ∷ os) zero reg gate at there =
    let a : reg ≡ x = cc in let b : gate ≡ o = cc in ap (λ (q : Reg). q ∷ []) (same_reg n reg x gate o a b)
regs_more n (x ∷ xs) (o ∷ os) (suc r) reg gate at there =
    ap (λ (qs : List Reg). gated_reg n x o ∷ qs) (regs_more n xs os r reg gate at there)

pub one_more_reg : (n : ℕ) (regs : List Reg) (of : List (Option ℕ)) (r : ℕ) (reg : Reg) (gate : Option ℕ) (list : List Reg) (made : Reg)
    → list ≡ gated_regs n (take r regs) (take r of) → slice_get regs r ≡ Some reg → slice_get of r ≡ Some gate → made ≡ gated_reg n reg gate
    → list ++ made ∷ [] ≡ gated_regs n (take (r + 1) regs) (take (r + 1) of)
one_more_reg n regs of r reg gate list made is at there same =
    let next : suc r ≡ r + 1 = omega arith in
    ap (λ (qs : List Reg). qs ++ made ∷ []) is ∙ ap (λ (q : Reg). gated_regs n (take r regs) (take r of) ++ q ∷ []) same
    ∙ regs_more n regs of r reg gate at there
    ∙ ap (λ (i : ℕ). gated_regs n (take i regs) (take i of)) next

-- where a gate of clock gates comes from
gate_from : (n k : ℕ) (xs : List ClockGate) (j : ℕ) (h : Gate) → slice_get (enable_gates n k xs) j ≡ Some h → (x : ClockGate) × (slice_get xs j ≡ Some x)
    × (enable_gate n (k + j) x ≡ h)
gate_from n k [] j h at = cc
gate_from n k (x ∷ xs) zero h at =
    let same : enable_gate n k x ≡ h = cc in
    let here : k + zero ≡ k = omega arith in
    (x, refl, ap (λ (i : ℕ). enable_gate n i x) here ∙ same)
gate_from n k (x ∷ xs) (suc j) h at =
    let more = gate_from n (suc k) xs j h at in
    let next : k + suc j ≡ suc k + j = omega arith in
    (more.0, more.1, ap (λ (i : ℕ). enable_gate n i more.0) next ∙ more.2)

pub enable_from : (n : ℕ) (xs : List ClockGate) (j : ℕ) (h : Gate) → slice_get (enable_gates n 0 xs) j ≡ Some h → (x : ClockGate)
    × (slice_get xs j ≡ Some x) × (enable_gate n j x ≡ h)
enable_from n xs j h at =
    let from = gate_from n 0 xs j h at in
    let same : j ≡ 0 + j = omega arith in
    (from.0, from.1, ap (λ (i : ℕ). enable_gate n i from.0) same ∙ from.2)

-- the gate of a clock gate
gate_at : (n k : ℕ) (xs : List ClockGate) (j : ℕ) (x : ClockGate) → slice_get xs j ≡ Some x → slice_get (enable_gates n k xs) j ≡ Some (enable_gate n (k + j) x)
gate_at n k [] j x at = cc
gate_at n k (y ∷ ys) zero x at =
    let same : y ≡ x = cc in
    let here : k ≡ k + zero = omega arith in
    ap (λ (z : ClockGate). Some (enable_gate n k z)) same ∙ ap (λ (i : ℕ). Some (enable_gate n i x)) here
gate_at n k (y ∷ ys) (suc j) x at =
    let next : suc k + j ≡ k + suc j = omega arith in gate_at n (suc k) ys j x at ∙ ap (λ (i : ℕ). Some (enable_gate n i x)) next

pub enable_at : (n : ℕ) (xs : List ClockGate) (j : ℕ) (x : ClockGate) → slice_get xs j ≡ Some x → slice_get (enable_gates n 0 xs) j ≡ Some (enable_gate n j x)
enable_at n xs j x at =
    let same : 0 + j ≡ j = omega arith in gate_at n 0 xs j x at ∙ ap (λ (i : ℕ). Some (enable_gate n i x)) same

-- one more clock gate
gates_more : (n k : ℕ) (xs : List ClockGate) (j : ℕ) (x : ClockGate) → slice_get xs j ≡ Some x
    → enable_gates n k (take j xs) ++ enable_gate n (k + j) x ∷ [] ≡ enable_gates n k (take (suc j) xs)
gates_more n k [] j x at = cc
gates_more n k (y ∷ ys) zero x at =
    let same : x ≡ y = cc in
    let here : k + zero ≡ k = omega arith in
    ap (λ (i : ℕ). enable_gate n i x ∷ []) here ∙ ap (λ (z : ClockGate). enable_gate n k z ∷ []) same
gates_more n k (y ∷ ys) (suc j) x at =
    let next : k + suc j ≡ suc k + j = omega arith in
    ap (λ (i : ℕ). enable_gate n k y ∷ (enable_gates n (suc k) (take j ys) ++ enable_gate n i x ∷ [])) next
    ∙ ap (λ (gs : List Gate). enable_gate n k y ∷ gs) (gates_more n (suc k) ys j x at)

pub one_more_gate : (n : ℕ) (front : List Gate) (xs : List ClockGate) (j : ℕ) (x : ClockGate) (list : List Gate) (made : Gate)
    → list ≡ front ++ enable_gates n 0 (take j xs) → slice_get xs j ≡ Some x → made ≡ enable_gate n j x
    → list ++ made ∷ [] ≡ front ++ enable_gates n 0 (take (j + 1) xs)
one_more_gate n front xs j x list made is at same =
    let next : suc j ≡ j + 1 = omega arith in
    let here : j ≡ 0 + j = omega arith in
    ap (λ (gs : List Gate). gs ++ made ∷ []) is ∙ ap (λ (g : Gate). (front ++ enable_gates n 0 (take j xs)) ++ g ∷ []) same
    ∙ append_assoc front (enable_gates n 0 (take j xs)) (enable_gate n j x ∷ [])
    ∙ ap (λ (i : ℕ). front ++ (enable_gates n 0 (take j xs) ++ enable_gate n i x ∷ [])) here
    ∙ ap (λ (gs : List Gate). front ++ gs) (gates_more n 0 xs j x at)
    ∙ ap (λ (i : ℕ). front ++ enable_gates n 0 (take i xs)) next

-- the rewritten design, part by part
pub rewritten_is : (g : Gated) (nets : ℕ) (gates : List Gate) (regs : List Reg) (inputs outputs : List ℕ) (fixed resets : List Fixed)
    → nets ≡ g.design.nets + length g.gates → gates ≡ g.design.gates ++ enable_gates g.design.nets 0 g.gates
    → regs ≡ gated_regs g.design.nets g.design.regs g.of → inputs ≡ g.design.inputs → outputs ≡ g.design.outputs → fixed ≡ g.design.fixed
    → resets ≡ g.design.resets
    → ◌≡◌ {A = Design} (record {
      nets = nets;
      gates = gates;
      regs = regs;
      inputs = inputs;
      outputs = outputs;
      fixed = fixed;
      resets = resets;
      reset_len = g.design.reset_len;
    }) (rewritten g)
unfolding rewritten
rewritten_is g nets gates regs inputs outputs fixed resets a b c d e f h = rw (a, b, c, d, e, f, h) refl
