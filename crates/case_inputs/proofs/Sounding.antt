-- An assumed design is sound.
use Rattle.std.proofs.Common.{◌≡◌, ◌≢◌, ◌⊎◌, ℕ, suc, ◌+◌, ◌<◌, ◌≤◌, ◌==◌, Bool, List, [], ◌∷◌, ◌++◌, length, take, All, refl, ap, sym, ◌∙◌, subst}
use Rattle.std.proofs.Common.{arith, inl, inr, cond}
use Rattle.std.specs.Prelude.{Contains, Some, slice_get, count_by, flat_map}
use Rattle.std.proofs.lemmas.Bool.{cases_eq, cases_lt}
use Rattle.std.proofs.lemmas.Bool.Decides.{nat_tests}
use Rattle.std.proofs.lemmas.List.{length-append, map-append}
use Rattle.std.proofs.lemmas.List.Elements.{All-append, All-contains, Contains-append_cases, Contains-append_left, Contains-append_right}
use Rattle.std.proofs.lemmas.Option.{slice_get_within, get_or_from_slice_get}
use Rattle.net_model.specs.Netlist.{IsSound, IsInRange, IsGateInRange, IsRegInRange, AllBelow, reg_nets, gate_nets, source_nets, driven_nets, driver_count}
use Rattle.net_model.specs.Form.{IsOver}
use Rattle.net_model.specs.Netlist.{IsOptionOver, setting_inputs, held_inputs}
use Rattle.net_model.proofs.Settling.{All-at}
use Rattle.net_model.proofs.Order.{count_append, count_cons, counted}
use Rattle.net_model.proofs.Unique.{counted_contains, from_flat, from_whole}
use Rattle.net_model.proofs.Driving.{all_from_places}
use Rattle.net_model.specs.declared.netlist.Design.{Design}
use Rattle.net_model.specs.declared.netlist.Fixed.{Fixed}
use Rattle.net_model.specs.declared.netlist.Gate.{Gate}
use Rattle.net_model.specs.declared.netlist.Reg.{Reg}
use Rattle.net_model.specs.declared.claims.PinRef.{PinRef}
use Rattle.case_inputs.specs.declared.assumptions.Assumed.{Assumed}
use Rattle.case_inputs.specs.declared.loads.Owner.TheVariants as owner
use Rattle.case_inputs.specs.Ties.{first_of, net_under, read_net, pin_sets}
use Rattle.case_inputs.specs.Assumed.{by_number, owner_pin, read_nets, assumed_gate, assumed_gates, assumed_reg, assumed_regs, new_nets, new_fixed}
use Rattle.case_inputs.specs.Assumed.{assumed_design, CanFix}
use Rattle.case_inputs.specs.Faults.{HasRoom}
use Rattle.list_laws.proofs.Joining.{item_at}
use Rattle.case_inputs.proofs.Parts.{length-by_number, number_at, number_from, first_from, take-by_number, map-by_number}
use Rattle.case_inputs.proofs.Tying.{length-pin_sets, first_within, cases_first}

-- numbers below n are below what is not below n
pub AllBelow-weaker : (n m : ℕ) (xs : List ℕ) → n ≤ m → AllBelow n xs → AllBelow m xs
AllBelow-weaker n m xs le below k o lt = let here = below k o lt in omega arith

-- a load pin reads its own net or that of an assumption
pub reads : (n : ℕ) (sets : List (List PinRef)) (pin : PinRef) (net : ℕ) → (read_net n sets pin net ≡ net)
    ⊎ ((j : ℕ) × (j < length sets) × (first_of sets pin net ≡ Some j) × (read_net n sets pin net ≡ n + j))
reads n sets pin net = elim (cases_first (first_of sets pin net)) [
  | inl none ↦ inl (ap (net_under n net) none)
  | inr some ↦ inr (some.0, first_within sets pin net some.0 some.1, some.1, ap (net_under n net) some.1)
]

read_below : (n : ℕ) (sets : List (List PinRef)) (pin : PinRef) (net : ℕ) → net < n → read_net n sets pin net < n + length sets
read_below n sets pin net lt = elim (reads n sets pin net) [
  | inl own ↦ omega (arith, own)
  | inr new ↦ omega (arith, new.1, new.3)
]

-- so do they all
pub reads_below : (n : ℕ) (sets : List (List PinRef)) (pin : ℕ → PinRef) (nets : List ℕ) → AllBelow n nets
    → AllBelow (n + length sets) (read_nets n sets pin nets)
reads_below n sets pin nets below =
    all_from_places (λ m. m < n + length sets) (read_nets n sets pin nets) (λ k lt m at.
    let from = first_from (λ (place net : ℕ). read_net n sets (pin place) net) nets k m at in
    subst (λ (x : ℕ). x < n + length sets) from.2
    (read_below n sets (pin k) from.0 (All-at (λ x. x < n) nets k from.0 from.1 below)))

pub length-read_nets : (n : ℕ) (sets : List (List PinRef)) (pin : ℕ → PinRef) (nets : List ℕ) → length (read_nets n sets pin nets) ≡ length nets
length-read_nets n sets pin nets = length-by_number (λ (place net : ℕ). read_net n sets (pin place) net) 0 nets

-- a gate of a design, under the assumptions, is one of the assumed design
gate_fits : (d more : Design) (sets : List (List PinRef)) (k : ℕ) (g : Gate) → more.nets ≡ d.nets + length sets → IsGateInRange d g
    → IsGateInRange more (assumed_gate d.nets sets k g)
gate_fits d more sets k g nets fits =
    let same : length g.ins ≡ length (read_nets d.nets sets (owner_pin (owner.Gate k)) g.ins) =
    sym (length-read_nets d.nets sets (owner_pin (owner.Gate k)) g.ins) in
    record {
      func = subst (λ (w : ℕ). IsOver w g.func) same fits.func;
      ins = subst (λ (m : ℕ). AllBelow m (read_nets d.nets sets (owner_pin (owner.Gate k)) g.ins)) (sym nets)
          (reads_below d.nets sets (owner_pin (owner.Gate k)) g.ins fits.ins);
      out = omega (arith, fits.out, nets);
      few = omega (arith, fits.few, same);
    }

-- so is a register
reg_fits : (d more : Design) (sets : List (List PinRef)) (r : ℕ) (reg : Reg) → more.nets ≡ d.nets + length sets → IsRegInRange d reg
    → IsRegInRange more (assumed_reg d.nets sets r reg)
reg_fits d more sets r reg nets fits =
    let same : length reg.ins ≡ length (read_nets d.nets sets (owner_pin (owner.Reg r)) reg.ins) =
    sym (length-read_nets d.nets sets (owner_pin (owner.Reg r)) reg.ins) in
    record {
      next = subst (λ (w : ℕ). IsOver (w + 1) reg.next) same fits.next;
      clear = subst (λ (w : ℕ). IsOptionOver (w + 1) reg.clear) same fits.clear;
      preset = subst (λ (w : ℕ). IsOptionOver (w + 1) reg.preset) same fits.preset;
      ins = subst (λ (m : ℕ). AllBelow m (read_nets d.nets sets (owner_pin (owner.Reg r)) reg.ins)) (sym nets)
          (reads_below d.nets sets (owner_pin (owner.Reg r)) reg.ins fits.ins);
      outs = AllBelow-weaker d.nets more.nets (reg_nets reg) (omega (arith, nets)) fits.outs;
      few = omega (arith, fits.few, same);
    }

-- numbers from n on: none below n, and each once
pub numbers_below : (n : ℕ) (assumed : List Assumed) (m : ℕ) → n + length assumed ≤ m → AllBelow m (new_nets n assumed)
numbers_below n assumed m le =
    all_from_places (λ x. x < m) (new_nets n assumed) (λ k lt x at.
    let from = number_from (λ (net : ℕ) (a : Assumed). net) n assumed k x at in
    let within = slice_get_within assumed k from.0 from.1 in
    omega (arith, from.2, within))

not_counted : (n m : ℕ) → m ≢ n → ◌≡◌ {A = ℕ} (cond (m == n) 1 0) 0
not_counted n m apart = grind (arith, nat_tests)

pub none_below : (n : ℕ) (assumed : List Assumed) (net : ℕ) → net < n → count_by (λ m. m == net) (new_nets n assumed) ≡ 0
none_below n [] net lt = refl
none_below n (a ∷ rest) net lt =
    let more = none_below (suc n) rest net (omega arith) in
    let first = not_counted net n (omega arith) in
    omega (arith, count_cons (λ m. m == net) n (new_nets (suc n) rest), more, first)

pub one_within : (n : ℕ) (assumed : List Assumed) (net : ℕ) → n ≤ net → net < n + length assumed → count_by (λ m. m == net) (new_nets n assumed) ≡ 1
one_within n [] net low high = absurd (omega arith)
one_within n (a ∷ rest) net low high =
    let more = count_cons (λ m. m == net) n (new_nets (suc n) rest) in
    elim (cases_eq n net) [
      | inl here ↦ omega (arith, more, counted net n here, none_below (suc n) rest net (omega arith))
      | inr apart ↦ omega (arith, more, not_counted net n apart, one_within (suc n) rest net (omega arith) (omega arith))
    ]

-- numbers that are all below a limit count 0 from it on
none_beyond : (limit : ℕ) (xs : List ℕ) (n : ℕ) → AllBelow limit xs → limit ≤ n → count_by (λ m. m == n) xs ≡ 0
none_beyond limit xs n below le = elim (cases_eq (count_by (λ m. m == n) xs) 0) [
  | inl none ↦ none
  | inr some ↦
      let lt = All-contains (λ m. m < limit) xs n below (counted_contains n xs (omega arith)) in absurd (omega (arith, lt))
]

-- an item of a list is among its items
contains_place : {X : Type 0} (xs : List X) (k : ℕ) (x : X) → slice_get xs k ≡ Some x → Contains xs x
contains_place xs k x at = (k, slice_get_within xs k x at, get_or_from_slice_get xs k x x at)

-- what is driven is a net of the design
driven_below : (d : Design) → IsInRange d → AllBelow d.nets (driven_nets d)
driven_below d fits =
    All-append (λ m. m < d.nets) (source_nets d) (gate_nets d.gates)
    (All-append (λ m. m < d.nets) d.inputs (flat_map reg_nets d.regs) fits.inputs
    (all_from_places (λ m. m < d.nets) (flat_map reg_nets d.regs) (λ k lt m at.
    let from = from_flat reg_nets d.regs m (contains_place (flat_map reg_nets d.regs) k m at) in
    let own = All-at (IsRegInRange d) d.regs from.0 from.1 from.2 fits.regs in
    All-contains (λ x. x < d.nets) (reg_nets from.1) m own.outs from.3)))
    (all_from_places (λ m. m < d.nets) (gate_nets d.gates) (λ k lt m at.
    let from = from_whole (λ (g : Gate). g.out) d.gates m (contains_place (gate_nets d.gates) k m at) in
    subst (λ (x : ℕ). x < d.nets) from.3 (All-at (IsGateInRange d) d.gates from.0 from.1 from.2 fits.gates).out))

-- the drivers of the nets are those of the design, and the new inputs
flat_nets : (n : ℕ) (sets : List (List PinRef)) (k : ℕ) (regs : List Reg) → flat_map reg_nets (by_number (assumed_reg n sets) k regs) ≡ flat_map reg_nets regs
flat_nets n sets k [] = refl
flat_nets n sets k (reg ∷ regs) = ap (λ (ns : List ℕ). reg_nets reg ++ ns) (flat_nets n sets (suc k) regs)

gates_drive : (n : ℕ) (sets : List (List PinRef)) (gates : List Gate) → gate_nets (assumed_gates n sets gates) ≡ gate_nets gates
gates_drive n sets gates = map-by_number (assumed_gate n sets) (λ (g : Gate). g.out) (λ (g : Gate). g.out) 0 gates (λ k g. refl)

gates_taken : (n : ℕ) (sets : List (List PinRef)) (k : ℕ) (gates : List Gate) → gate_nets (take k (assumed_gates n sets gates)) ≡ gate_nets (take k gates)
gates_taken n sets k gates = ap gate_nets (take-by_number (assumed_gate n sets) 0 gates k) ∙ gates_drive n sets (take k gates)

driven_is : (d : Design) (more : List Fixed) (assumed : List Assumed)
    → driven_nets (assumed_design d more assumed) ≡ ((d.inputs ++ new_nets d.nets assumed) ++ flat_map reg_nets d.regs) ++ gate_nets d.gates
unfolding assumed_design
driven_is d more assumed =
    ap (λ (ns : List ℕ). ((d.inputs ++ new_nets d.nets assumed) ++ ns) ++ gate_nets (assumed_gates d.nets (pin_sets assumed) d.gates))
    (flat_nets d.nets (pin_sets assumed) 0 d.regs)
    ∙ ap (λ (ns : List ℕ). ((d.inputs ++ new_nets d.nets assumed) ++ flat_map reg_nets d.regs) ++ ns) (gates_drive d.nets (pin_sets assumed) d.gates)

-- so a net has its drivers, and one for each assumption that has it
drivers_are : (d : Design) (more : List Fixed) (assumed : List Assumed) (net : ℕ)
    → driver_count (assumed_design d more assumed) net ≡ driver_count d net + count_by (λ m. m == net) (new_nets d.nets assumed)
drivers_are d more assumed net =
    let p : ℕ → Bool = λ m. m == net in
    let ins = d.inputs in
    let new = new_nets d.nets assumed in
    let regs = flat_map reg_nets d.regs in
    let gates = gate_nets d.gates in
    let whole = ap (count_by p) (driven_is d more assumed) in
    omega (
      arith,
      whole,
      count_append p ((ins ++ new) ++ regs) gates,
      count_append p (ins ++ new) regs,
      count_append p ins new,
      count_append p (ins ++ regs) gates,
      count_append p ins regs,
    )

-- each net of the assumed design has one driver
one_driver : (d : Design) (more : List Fixed) (assumed : List Assumed) → IsSound d → (net : ℕ) → net < d.nets + length assumed
    → driver_count (assumed_design d more assumed) net ≡ 1
one_driver d more assumed sound net lt = elim (cases_lt net d.nets) [
  | inl low ↦ omega (arith, drivers_are d more assumed net, sound.one_driver net low, none_below d.nets assumed net low)
  | inr high ↦
      let none = none_beyond d.nets (driven_nets d) net (driven_below d sound.in_range) high in
      omega (arith, drivers_are d more assumed net, none, one_within d.nets assumed net high lt)
]

new_inputs : (i : ℕ) (assumed : List Assumed) → setting_inputs (new_fixed i assumed) ≡ new_nets i assumed
new_inputs i [] = refl
new_inputs i (a ∷ rest) = ap (λ (is : List ℕ). i ∷ is) (new_inputs (suc i) rest)

-- what holds of each item of two lists holds of each of one of them
pub All-left : {X : Type 0} (P : X → Type 0) (xs ys : List X) → All P (xs ++ ys) → All P xs
All-left P xs ys all =
    all_from_places P xs (λ k lt x at. All-contains P (xs ++ ys) x all (Contains-append_left xs ys x (contains_place xs k x at)))

pub All-right : {X : Type 0} (P : X → Type 0) (xs ys : List X) → All P (xs ++ ys) → All P ys
All-right P xs ys all =
    all_from_places P ys (λ k lt y at. All-contains P (xs ++ ys) y all (Contains-append_right xs ys y (contains_place ys k y at)))

-- the inputs that are given a value there
held_is : (d : Design) (more : List Fixed) (assumed : List Assumed)
    → held_inputs (assumed_design d more assumed)
    ≡ ((setting_inputs d.fixed ++ setting_inputs more) ++ new_nets (length d.inputs) assumed) ++ setting_inputs d.resets
unfolding assumed_design
held_is d more assumed =
    let input : Fixed → ℕ = λ f. f.input in
    ap (λ (is : List ℕ). is ++ setting_inputs d.resets)
    (map-append input (d.fixed ++ more) (new_fixed (length d.inputs) assumed)
    ∙ ap (λ (is : List ℕ). is ++ setting_inputs (new_fixed (length d.inputs) assumed)) (map-append input d.fixed more)
    ∙ ap (λ (is : List ℕ). (setting_inputs d.fixed ++ setting_inputs more) ++ is) (new_inputs (length d.inputs) assumed))

-- an input counts as it does in the design, among those that are fixed besides, and for each assumption that has it
held_count : (d : Design) (more : List Fixed) (assumed : List Assumed) (i : ℕ)
    → count_by (λ m. m == i) (held_inputs (assumed_design d more assumed))
    ≡ count_by (λ m. m == i) (held_inputs d ++ setting_inputs more) + count_by (λ m. m == i) (new_nets (length d.inputs) assumed)
held_count d more assumed i =
    let p : ℕ → Bool = λ m. m == i in
    let fixed = setting_inputs d.fixed in
    let besides = setting_inputs more in
    let new = new_nets (length d.inputs) assumed in
    let resets = setting_inputs d.resets in
    omega (
      arith,
      ap (count_by p) (held_is d more assumed),
      count_append p ((fixed ++ besides) ++ new) resets,
      count_append p (fixed ++ besides) new,
      count_append p fixed besides,
      count_append p (fixed ++ resets) besides,
      count_append p fixed resets,
    )

once : (d : Design) (more : List Fixed) (assumed : List Assumed) → IsSound d → CanFix d more → (i : ℕ) → i < length d.inputs + length assumed
    → count_by (λ m. m == i) (held_inputs (assumed_design d more assumed)) ≤ 1
once d more assumed sound can i lt = elim (cases_lt i (length d.inputs)) [
  | inl low ↦ omega (arith, held_count d more assumed i, can.once i low, none_below (length d.inputs) assumed i low)
  | inr high ↦
      let below = All-append (λ m. m < length d.inputs) (held_inputs d) (setting_inputs more) sound.in_range.held can.in_range in
      let none = none_beyond (length d.inputs) (held_inputs d ++ setting_inputs more) i below high in
      omega (arith, held_count d more assumed i, none, one_within (length d.inputs) assumed i high lt)
]

-- they are inputs of the design
held_below : (d : Design) (more : List Fixed) (assumed : List Assumed) → IsSound d → CanFix d more
    → AllBelow (length d.inputs + length assumed) (held_inputs (assumed_design d more assumed))
held_below d more assumed sound can =
    let limit : ℕ = length d.inputs + length assumed in
    let is : ℕ → Type 0 = λ m. m < limit in
    let le : length d.inputs ≤ limit = omega arith in
    let held = AllBelow-weaker (length d.inputs) limit (held_inputs d) le sound.in_range.held in
    let fixed = All-left is (setting_inputs d.fixed) (setting_inputs d.resets) held in
    let resets = All-right is (setting_inputs d.fixed) (setting_inputs d.resets) held in
    subst (AllBelow limit) (sym (held_is d more assumed))
    (All-append is ((setting_inputs d.fixed ++ setting_inputs more) ++ new_nets (length d.inputs) assumed) (setting_inputs d.resets)
    (All-append is (setting_inputs d.fixed ++ setting_inputs more) (new_nets (length d.inputs) assumed)
    (All-append is (setting_inputs d.fixed) (setting_inputs more) fixed (AllBelow-weaker (length d.inputs) limit (setting_inputs more) le can.in_range))
    (numbers_below (length d.inputs) assumed limit (omega arith))) resets)

-- what is driven before a gate: what is driven before it in the design, and the new nets
before_old : (d : Design) (more : List Fixed) (assumed : List Assumed) (k net : ℕ) → Contains (source_nets d ++ gate_nets (take k d.gates)) net
    → Contains (source_nets (assumed_design d more assumed) ++ gate_nets (take k (assumed_design d more assumed).gates)) net
unfolding assumed_design
before_old d more assumed k net has =
    let new = new_nets d.nets assumed in
    let regs = flat_map reg_nets d.regs in
    let made = flat_map reg_nets (assumed_regs d.nets (pin_sets assumed) d.regs) in
    let before = gate_nets (take k (assumed_gates d.nets (pin_sets assumed) d.gates)) in
    elim (Contains-append_cases (d.inputs ++ regs) (gate_nets (take k d.gates)) net has) [
      | inl source ↦ Contains-append_left ((d.inputs ++ new) ++ made) before net (elim (Contains-append_cases d.inputs regs net source) [
        | inl input ↦ Contains-append_left (d.inputs ++ new) made net (Contains-append_left d.inputs new net input)
        | inr reg ↦
            Contains-append_right (d.inputs ++ new) made net
            (subst (λ (ns : List ℕ). Contains ns net) (sym (flat_nets d.nets (pin_sets assumed) 0 d.regs)) reg)
      ])
      | inr gate ↦
          Contains-append_right ((d.inputs ++ new) ++ made) before net
          (subst (λ (ns : List ℕ). Contains ns net) (sym (gates_taken d.nets (pin_sets assumed) k d.gates)) gate)
    ]

before_new : (d : Design) (more : List Fixed) (assumed : List Assumed) (k j : ℕ) → j < length assumed
    → Contains (source_nets (assumed_design d more assumed) ++ gate_nets (take k (assumed_design d more assumed).gates)) (d.nets + j)
unfolding assumed_design
before_new d more assumed k j lt =
    let new = new_nets d.nets assumed in
    let made = flat_map reg_nets (assumed_regs d.nets (pin_sets assumed) d.regs) in
    let before = gate_nets (take k (assumed_gates d.nets (pin_sets assumed) d.gates)) in
    let item = item_at assumed j lt in
    let there = number_at (λ (net : ℕ) (a : Assumed). net) d.nets assumed j item.0 item.1 in
    Contains-append_left ((d.inputs ++ new) ++ made) before (d.nets + j)
    (Contains-append_left (d.inputs ++ new) made (d.nets + j)
    (Contains-append_right d.inputs new (d.nets + j) (contains_place new j (d.nets + j) there)))

-- a gate of the assumed design reads what is driven before it
gate_in_order : (d : Design) (more : List Fixed) (assumed : List Assumed) → IsSound d → (k : ℕ) (g : Gate) → slice_get d.gates k ≡ Some g
    → All (Contains (source_nets (assumed_design d more assumed) ++ gate_nets (take k (assumed_design d more assumed).gates)))
    (read_nets d.nets (pin_sets assumed) (owner_pin (owner.Gate k)) g.ins)
gate_in_order d more assumed sound k g at =
    let sets = pin_sets assumed in
    let has : ℕ → Type 0 = Contains (source_nets (assumed_design d more assumed) ++ gate_nets (take k (assumed_design d more assumed).gates)) in
    all_from_places has (read_nets d.nets sets (owner_pin (owner.Gate k)) g.ins) (λ i lt m there.
    let from = first_from (λ (place net : ℕ). read_net d.nets sets (owner_pin (owner.Gate k) place) net) g.ins i m there in
    elim (reads d.nets sets (owner_pin (owner.Gate k) i) from.0) [
      | inl own ↦
          subst has (sym own ∙ from.2)
          (before_old d more assumed k from.0
          (All-at (Contains (source_nets d ++ gate_nets (take k d.gates))) g.ins i from.0 from.1 (sound.in_order k g at)))
      | inr new ↦ subst has (sym new.3 ∙ from.2) (before_new d more assumed k new.0 (omega (arith, new.1, length-pin_sets assumed)))
    ])

-- the assumed design is sound
pub assumed_is_sound : (d : Design) (more : List Fixed) (assumed : List Assumed) → IsSound d → CanFix d more → HasRoom d assumed
    → IsSound (assumed_design d more assumed)
unfolding assumed_design
assumed_is_sound d more assumed sound can room =
    let sets = pin_sets assumed in
    let whole : Design = assumed_design d more assumed in
    let long : d.nets + length assumed ≡ d.nets + length sets = omega (arith, length-pin_sets assumed) in
    let inputs : length (d.inputs ++ new_nets d.nets assumed) ≡ length d.inputs + length assumed =
    omega (arith, length-append d.inputs (new_nets d.nets assumed), length-by_number (λ (net : ℕ) (a : Assumed). net) d.nets assumed) in
    record {
      in_range = record {
        gates = all_from_places (IsGateInRange whole) (assumed_gates d.nets sets d.gates) (λ k lt h at.
            let from = first_from (assumed_gate d.nets sets) d.gates k h at in
            subst (IsGateInRange whole) from.2
            (gate_fits d whole sets k from.0 long (All-at (IsGateInRange d) d.gates k from.0 from.1 sound.in_range.gates)));
        regs = all_from_places (IsRegInRange whole) (assumed_regs d.nets sets d.regs) (λ r lt q at.
            let from = first_from (assumed_reg d.nets sets) d.regs r q at in
            subst (IsRegInRange whole) from.2
            (reg_fits d whole sets r from.0 long (All-at (IsRegInRange d) d.regs r from.0 from.1 sound.in_range.regs)));
        inputs = All-append (λ m. m < d.nets + length assumed) d.inputs (new_nets d.nets assumed)
            (AllBelow-weaker d.nets (d.nets + length assumed) d.inputs (omega arith) sound.in_range.inputs)
            (numbers_below d.nets assumed (d.nets + length assumed) (omega arith));
        outputs = subst (λ (m : ℕ). AllBelow m (read_nets d.nets sets (owner_pin owner.Ports) d.outputs)) (sym long)
            (reads_below d.nets sets (owner_pin owner.Ports) d.outputs sound.in_range.outputs);
        held = subst (λ (m : ℕ). AllBelow m (held_inputs whole)) (sym inputs) (held_below d more assumed sound can);
      };
      one_driver = one_driver d more assumed sound;
      in_order = λ k h at.
          let from = first_from (assumed_gate d.nets sets) d.gates k h at in
          subst (λ (g : Gate). All (Contains (source_nets whole ++ gate_nets (take k whole.gates))) g.ins) from.2
          (gate_in_order d more assumed sound k from.0 from.1);
      once = λ i lt. once d more assumed sound can i (omega (arith, lt, inputs));
      limits = record {
        nets = room.nets;
        regs = omega (arith, length-by_number (assumed_reg d.nets sets) 0 d.regs, sound.limits.regs);
        inputs = omega (arith, inputs, room.inputs);
        outputs = omega (arith, length-read_nets d.nets sets (owner_pin owner.Ports) d.outputs, sound.limits.outputs);
        reset_len = sound.limits.reset_len;
      };
    }
