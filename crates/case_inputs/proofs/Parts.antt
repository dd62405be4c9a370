-- What is made of lists item by item, and the parts of an assumed design.
use Rattle.std.proofs.Common.{◌≡◌, ℕ, zero, suc, ◌+◌, List, [], ◌∷◌, ◌++◌, length, take, map, refl, ap, ◌∙◌, arith, append_assoc}
use Rattle.std.specs.Prelude.{Some, slice_get}
use Rattle.net_model.specs.declared.netlist.Design.{Design}
use Rattle.net_model.specs.declared.netlist.Fixed.{Fixed}
use Rattle.net_model.specs.declared.netlist.Gate.{Gate}
use Rattle.net_model.specs.declared.netlist.Reg.{Reg}
use Rattle.case_inputs.specs.declared.assumptions.Assumed.{Assumed}
use Rattle.case_inputs.specs.declared.loads.Owner.TheVariants as owner
use Rattle.case_inputs.specs.Ties.{pin_sets}
use Rattle.case_inputs.specs.Assumed.{by_number, owner_pin, read_nets, assumed_gates, assumed_regs, new_nets, new_fixed, assumed_design}

-- there are as many as before
pub length-by_number : {X Y : Type 0} (f : ℕ → X → Y) (k : ℕ) (xs : List X) → length (by_number f k xs) ≡ length xs
length-by_number f k [] = refl
length-by_number f k (x ∷ xs) = omega (arith, length-by_number f (suc k) xs)

-- what stands in a place
pub number_at : {X Y : Type 0} (f : ℕ → X → Y) (k : ℕ) (xs : List X) (j : ℕ) (x : X) → slice_get xs j ≡ Some x
    → slice_get (by_number f k xs) j ≡ Some (f (k + j) x)
number_at f k [] j x at = cc
number_at f k (y ∷ ys) zero x at =
    let same : y ≡ x = cc in
    let here : k ≡ k + zero = omega arith in
    ap (λ z. Some (f k z)) same ∙ ap (λ (i : ℕ). Some (f i x)) here
number_at f k (y ∷ ys) (suc j) x at =
    let next : suc k + j ≡ k + suc j = omega arith in number_at f (suc k) ys j x at ∙ ap (λ (i : ℕ). Some (f i x)) next

pub first_at : {X Y : Type 0} (f : ℕ → X → Y) (xs : List X) (j : ℕ) (x : X) → slice_get xs j ≡ Some x → slice_get (by_number f 0 xs) j ≡ Some (f j x)
first_at f xs j x at =
    let same : 0 + j ≡ j = omega arith in number_at f 0 xs j x at ∙ ap (λ (i : ℕ). Some (f i x)) same

-- and where it comes from
pub number_from : {X Y : Type 0} (f : ℕ → X → Y) (k : ℕ) (xs : List X) (j : ℕ) (y : Y) → slice_get (by_number f k xs) j ≡ Some y
    → (x : X) × (slice_get xs j ≡ Some x) × (f (k + j) x ≡ y)
number_from f k [] j y at = cc
number_from f k (x ∷ xs) zero y at =
    let same : f k x ≡ y = cc in
    let here : k + zero ≡ k = omega arith in
    (x, refl, ap (λ (i : ℕ). f i x) here ∙ same)
number_from f k (x ∷ xs) (suc j) y at =
    let more = number_from f (suc k) xs j y at in
    let next : k + suc j ≡ suc k + j = omega arith in
    (more.0, more.1, ap (λ (i : ℕ). f i more.0) next ∙ more.2)

pub first_from : {X Y : Type 0} (f : ℕ → X → Y) (xs : List X) (j : ℕ) (y : Y) → slice_get (by_number f 0 xs) j ≡ Some y
    → (x : X) × (slice_get xs j ≡ Some x) × (f j x ≡ y)
first_from f xs j y at =
    let from = number_from f 0 xs j y at in
    let same : j ≡ 0 + j = omega arith in
    (from.0, from.1, ap (λ (i : ℕ). f i from.0) same ∙ from.2)

-- one more item
numbers_more : {X Y : Type 0} (f : ℕ → X → Y) (k : ℕ) (xs : List X) (j : ℕ) (x : X) → slice_get xs j ≡ Some x
    → by_number f k (take j xs) ++ f (k + j) x ∷ [] ≡ by_number f k (take (suc j) xs)
numbers_more f k [] j x at = cc
numbers_more {X} {Y} f k (y ∷ ys) zero x at =
    let same : x ≡ y = cc in
    let here : k + zero ≡ k = omega arith in
    ap (λ (i : ℕ). f i x ∷ []) here ∙ ap (λ (z : X). f k z ∷ []) same
numbers_more {X} {Y} f k (y ∷ ys) (suc j) x at =
    let next : k + suc j ≡ suc k + j = omega arith in
    ap (λ (i : ℕ). f k y ∷ (by_number f (suc k) (take j ys) ++ f i x ∷ [])) next
    ∙ ap (λ (zs : List Y). f k y ∷ zs) (numbers_more f (suc k) ys j x at)

pub one_more : {X Y : Type 0} (f : ℕ → X → Y) (k : ℕ) (xs : List X) (j : ℕ) (x : X) (old list new : List Y) (made : Y) → slice_get xs j ≡ Some x
    → list ≡ old ++ by_number f k (take j xs) → made ≡ f (k + j) x → new ≡ list ++ made ∷ [] → new ≡ old ++ by_number f k (take (j + 1) xs)
one_more {X} {Y} f k xs j x old list new made at is same pushed =
    let next : suc j ≡ j + 1 = omega arith in
    pushed ∙ ap (λ (ys : List Y). ys ++ made ∷ []) is ∙ ap (λ (y : Y). (old ++ by_number f k (take j xs)) ++ y ∷ []) same
    ∙ append_assoc old (by_number f k (take j xs)) (f (k + j) x ∷ [])
    ∙ ap (λ (ys : List Y). old ++ ys) (numbers_more f k xs j x at)
    ∙ ap (λ (i : ℕ). old ++ by_number f k (take i xs)) next

pub first_more : {X Y : Type 0} (f : ℕ → X → Y) (xs : List X) (j : ℕ) (x : X) (list new : List Y) (made : Y) → slice_get xs j ≡ Some x
    → list ≡ by_number f 0 (take j xs) → made ≡ f j x → new ≡ list ++ made ∷ [] → new ≡ by_number f 0 (take (j + 1) xs)
first_more f xs j x list new made at is same pushed =
    let here : j ≡ 0 + j = omega arith in
    one_more f 0 xs j x [] list new made at is (same ∙ ap (λ (i : ℕ). f i x) here) pushed

-- the first of them
pub take-by_number : {X Y : Type 0} (f : ℕ → X → Y) (k : ℕ) (xs : List X) (j : ℕ) → take j (by_number f k xs) ≡ by_number f k (take j xs)
take-by_number f k [] zero = refl
take-by_number f k [] (suc j) = refl
take-by_number f k (x ∷ xs) zero = refl
take-by_number {X} {Y} f k (x ∷ xs) (suc j) = ap (λ (ys : List Y). f k x ∷ ys) (take-by_number f (suc k) xs j)

-- where what is made of items keeps what is told of them
pub map-by_number : {X Y Z : Type 0} (f : ℕ → X → Y) (g : Y → Z) (h : X → Z) (k : ℕ) (xs : List X) → ((i : ℕ) (x : X) → g (f i x) ≡ h x)
    → map g (by_number f k xs) ≡ map h xs
map-by_number f g h k [] same = refl
map-by_number {X} {Y} {Z} f g h k (x ∷ xs) same =
    ap (λ (z : Z). z ∷ map g (by_number f (suc k) xs)) (same k x) ∙ ap (λ (zs : List Z). h x ∷ zs) (map-by_number f g h (suc k) xs same)

-- where each item is made to itself
pub by_number_same : {X : Type 0} (f : ℕ → X → X) (k : ℕ) (xs : List X) → ((i : ℕ) (x : X) → f i x ≡ x) → by_number f k xs ≡ xs
by_number_same f k [] same = refl
by_number_same {X} f k (x ∷ xs) same =
    ap (λ (y : X). y ∷ by_number f (suc k) xs) (same k x) ∙ ap (λ (ys : List X). x ∷ ys) (by_number_same f (suc k) xs same)

-- the assumed design, part by part
pub assumed_is : (d : Design) (more : List Fixed) (assumed : List Assumed) (m : ℕ) (gates : List Gate) (regs : List Reg)
    (inputs outputs : List ℕ) (held resets : List Fixed) → m ≡ d.nets + length assumed
    → gates ≡ assumed_gates d.nets (pin_sets assumed) d.gates → regs ≡ assumed_regs d.nets (pin_sets assumed) d.regs
    → inputs ≡ d.inputs ++ new_nets d.nets assumed → outputs ≡ read_nets d.nets (pin_sets assumed) (owner_pin owner.Ports) d.outputs
    → held ≡ (d.fixed ++ more) ++ new_fixed (length d.inputs) assumed → resets ≡ d.resets
    → ◌≡◌ {A = Design} (record {
      nets = m;
      gates = gates;
      regs = regs;
      inputs = inputs;
      outputs = outputs;
      fixed = held;
      resets = resets;
      reset_len = d.reset_len;
    }) (assumed_design d more assumed)
unfolding assumed_design
assumed_is d more assumed m gates regs inputs outputs held resets b c e f g h i = rw (b, c, e, f, g, h, i) refl
