-- The settled cycles of a design are the solutions of its flat netlist's equations.
use Rattle.std.proofs.Common.{◌≡◌, ℕ, zero, suc, ◌+◌, ◌<◌, nat_eq, nat_lt, Bool, true, false, List, [], ◌∷◌, map, length, get_or, Some, refl}
use Rattle.std.proofs.Common.{ap, subst, sym, ◌∙◌, arith, All}
use Rattle.std.specs.Prelude.{Contains, slice_get, slice_index, option_map, if◌then◌else◌}
use Rattle.std.specs.List.Sorted.{IsPermutation}
use Rattle.std.proofs.lemmas.Bool.{eqb-true}
use Rattle.std.proofs.lemmas.Bool.Decides.{nat_tests}
use Rattle.std.proofs.lemmas.List.{get_or-map, length-map}
use Rattle.std.proofs.lemmas.List.Sorted.{Contains-permutation, IsPermutation-sym, IsPermutation-map}
use Rattle.std.proofs.lemmas.Option.{slice_get-map}
use Rattle.net_model.specs.Form.{value, IsOver}
use Rattle.net_model.specs.FormLaws.{value_agrees}
use Rattle.net_model.specs.Netlist.{IsSound, IsInRange, IsGateInRange, IsRegInRange, IsOptionOver}
use Rattle.net_model.specs.Cycles.{bit_at, shown, gate_pins, reg_pins, reg_capture_in, IsSettled, HasShape}
use Rattle.net_model.proofs.Settling.{All-at}
use Rattle.net_model.proofs.RegCaptures.{capture_agrees}
use Rattle.net_model.specs.declared.netlist.Design.{Design}
use Rattle.net_model.specs.declared.netlist.Gate.{Gate}
use Rattle.net_model.specs.declared.netlist.Reg.{Reg}
use Rattle.net_model.specs.declared.netlist.RegOut.{RegOut}
use Rattle.net_model.specs.declared.cycles.Cycle.{Cycle}
use Rattle.graph_order.proofs.Marked.{contains_at, at_contains}
use Rattle.link_defs.proofs.Permuting.{order_permutes}
use Rattle.link_defs.specs.declared.circuits.Circuit.{Circuit}
use Rattle.link_defs.specs.Circuits.{regs_of}
use Rattle.link_defs.specs.Designs.{moved, moved_out, moved_reg, number_by, drivers_by, equations, shows, captured, IsSolution, IsDesignOf, AreSolutions}

map_at : {X Y : Type 0} (f : X → Y) (xs : List X) (k : ℕ) (x : X) → slice_get xs k ≡ Some x → slice_get (map f xs) k ≡ Some (f x)
map_at f xs k x at = slice_get-map f xs k ∙ ap (option_map f) at

map_from : {X Y : Type 0} (f : X → Y) (xs : List X) (k : ℕ) (y : Y) → slice_get (map f xs) k ≡ Some y → (x : X) × (slice_get xs k ≡ Some x) × (f x ≡ y)
map_from f [] k y at = cc
map_from f (x ∷ xs) zero y at = (x, refl, cc)
map_from f (x ∷ xs) (suc k) y at = map_from f xs k y at

all_from_map : {X Y : Type 0} (P : Y → Type 0) (f : X → Y) (xs : List X) → All P (map f xs) → All (λ x. P (f x)) xs
all_from_map P f xs all = λ k d lt. subst P (get_or-map f xs k d (f d) lt) (all k (f d) (omega (arith, length-map xs f)))

pins_moved : (number : ℕ → ℕ) (ins : List ℕ) (i : ℕ) → i < length ins → slice_index (map number ins) i ≡ number (slice_index ins i)
pins_moved number [] i lt = absurd (omega arith)
pins_moved number (x ∷ xs) zero lt = refl
pins_moved number (x ∷ xs) (suc i) lt = pins_moved number xs i (omega arith)

outs_moved : (number : ℕ → ℕ) (nets : List Bool) (bit : Bool) (outs : List RegOut) → All (λ (o : RegOut). bit_at nets o.net ≡ shown o bit)
    (map (moved_out number) outs) → All (λ (o : RegOut). bit_at nets (number o.net) ≡ shown o bit) outs
outs_moved number nets bit outs all = λ k d lt.
    subst (λ (o : RegOut). bit_at nets o.net ≡ shown o bit) (get_or-map (moved_out number) outs k d (moved_out number d) lt)
    (all k (moved_out number d) (omega (arith, length-map outs (moved_out number))))

-- what a settled cycle shows on the nets of the design is a solution
settled_solves : (d : Design) (y : Cycle) (c : Circuit) (gates : List Gate) (number : ℕ → ℕ) → IsInRange d → d.inputs ≡ map number c.inputs
    → d.regs ≡ map (moved_reg number) (regs_of c) → IsPermutation (map (moved number) gates) d.gates → IsSettled d y → IsSolution c gates y.bits y.ins
    (λ n. bit_at y.nets (number n))
settled_solves d y c gates number range in_is regs_is perm settled = record {
  inputs_are = λ i lt.
      let len : i < length d.inputs = omega (arith, ap length in_is, length-map c.inputs number) in
      ap (λ (n : ℕ). bit_at y.nets n) (sym (ap (λ (xs : List ℕ). slice_index xs i) in_is ∙ pins_moved number c.inputs i lt)) ∙ settled.inputs i len;
  regs_show = λ r reg at.
      let there : slice_get d.regs r ≡ Some (moved_reg number reg) = ap (λ (xs : List Reg). slice_get xs r) regs_is ∙ map_at (moved_reg number)
      (regs_of c) r reg at in
      outs_moved number y.nets (bit_at y.bits r) reg.outs (settled.regs r (moved_reg number reg) there);
  gates_hold = λ k g at.
      let has : Contains (map (moved number) gates) (moved number g) = contains_at (map (moved number) gates) k (moved number g)
      (map_at (moved number) gates k g at) in
      let (j, there) = at_contains d.gates (moved number g) (Contains-permutation (map (moved number) gates) d.gates (moved number g) perm has) in
      let over = (All-at (IsGateInRange d) d.gates j (moved number g) there range.gates).func in
      let over2 : IsOver (length g.ins) g.func = subst (λ (n : ℕ). IsOver n g.func) (length-map g.ins number) over in
      settled.gates j (moved number g) there
      ∙ value_agrees g.func (length g.ins) (gate_pins (map number g.ins) y.nets) (λ i. bit_at y.nets (number (slice_index g.ins i))) over2
      (λ i lt. ap (λ (n : ℕ). bit_at y.nets n) (pins_moved number g.ins i lt));
}

-- the nets that the equations speak of have numbers of the design
record Covers (inside : ℕ → Type 0) (inputs : List ℕ) (regs : List Reg) (gates : List Gate) : Type 0 where
  of_inputs : All inside inputs
  of_regs : (r : ℕ) (reg : Reg) → slice_get regs r ≡ Some reg → All (λ (o : RegOut). inside o.net) reg.outs
  of_gates : (k : ℕ) (g : Gate) → slice_get gates k ≡ Some g → inside g.out
  of_ins : (k : ℕ) (g : Gate) → slice_get gates k ≡ Some g → All inside g.ins

abbrev below : ℕ → ℕ → Type 0
below count n = n < count

-- a gate of the equations is one of the design's
in_design : (d : Design) (gates : List Gate) (number : ℕ → ℕ) → IsInRange d → IsPermutation (map (moved number) gates) d.gates → (k : ℕ) (g : Gate)
    → slice_get gates k ≡ Some g → IsGateInRange d (moved number g)
in_design d gates number range perm k g at =
    let has = contains_at (map (moved number) gates) k (moved number g) (map_at (moved number) gates k g at) in
    let (j, there) = at_contains d.gates (moved number g) (Contains-permutation (map (moved number) gates) d.gates (moved number g) perm has) in
    All-at (IsGateInRange d) d.gates j (moved number g) there range.gates

covers : (d : Design) (c : Circuit) (gates : List Gate) (number : ℕ → ℕ) → IsInRange d → d.inputs ≡ map number c.inputs
    → d.regs ≡ map (moved_reg number) (regs_of c) → IsPermutation (map (moved number) gates) d.gates → Covers (λ n. number n < d.nets) c.inputs
    (regs_of c) gates
covers d c gates number range in_is regs_is perm = record {
  of_inputs = all_from_map (below d.nets) number c.inputs (subst (λ (xs : List ℕ). All (below d.nets) xs) in_is range.inputs);
  of_regs = λ r reg at.
      let there : slice_get d.regs r ≡ Some (moved_reg number reg) = ap (λ (xs : List Reg). slice_get xs r) regs_is ∙ map_at (moved_reg number)
      (regs_of c) r reg at in
      let outs = (All-at (IsRegInRange d) d.regs r (moved_reg number reg) there range.regs).outs in
      all_from_map (λ (o : RegOut). o.net < d.nets) (moved_out number) reg.outs
      (all_from_map (below d.nets) (λ (o : RegOut). o.net) (map (moved_out number) reg.outs) outs);
  of_gates = λ k g at. (in_design d gates number range perm k g at).out;
  of_ins = λ k g at. all_from_map (below d.nets) number g.ins (in_design d gates number range perm k g at).ins;
}

outs_back : (inside : ℕ → Type 0) (number : ℕ → ℕ) (nets : List Bool) (v : ℕ → Bool) (bit : Bool) (outs : List RegOut)
    → ((n : ℕ) → inside n → bit_at nets (number n) ≡ v n) → All (λ (o : RegOut). inside o.net) outs → All (λ (o : RegOut). v o.net ≡ shown o bit) outs
    → All (λ (o : RegOut). bit_at nets o.net ≡ shown o bit) (map (moved_out number) outs)
outs_back inside number nets v bit outs shows cover all = λ k d lt.
    let within : k < length outs = omega (arith, length-map outs (moved_out number)) in
    let back : RegOut = record { net = 0; inverted = false } in
    subst (λ (o : RegOut). bit_at nets o.net ≡ shown o bit) (sym (get_or-map (moved_out number) outs k back d within))
    (shows (get_or outs k back).net (cover k back within) ∙ all k back within)

-- and a cycle that shows a solution on the nets of the design is settled
solution_settles : (inside : ℕ → Type 0) (d : Design) (y : Cycle) (c : Circuit) (gates : List Gate) (number : ℕ → ℕ) (v : ℕ → Bool) → IsInRange d
    → d.inputs ≡ map number c.inputs → d.regs ≡ map (moved_reg number) (regs_of c) → IsPermutation (map (moved number) gates) d.gates → HasShape d y
    → Covers inside c.inputs (regs_of c) gates → ((n : ℕ) → inside n → bit_at y.nets (number n) ≡ v n) → IsSolution c gates y.bits y.ins v
    → IsSettled d y
solution_settles inside d y c gates number v range in_is regs_is perm shape cover shows sol = record {
  shape = shape;
  inputs = λ i lt.
      let len : i < length c.inputs = omega (arith, ap length in_is, length-map c.inputs number) in
      ap (λ (n : ℕ). bit_at y.nets n) (ap (λ (xs : List ℕ). slice_index xs i) in_is ∙ pins_moved number c.inputs i len)
      ∙ (shows (slice_index c.inputs i) (cover.of_inputs i 0 len) ∙ sol.inputs_are i len);
  regs = λ r reg at.
      let (old, there, same) = map_from (moved_reg number) (regs_of c) r reg (sym (ap (λ (xs : List Reg). slice_get xs r) regs_is) ∙ at) in
      subst (λ (x : Reg). All (λ (o : RegOut). bit_at y.nets o.net ≡ shown o (bit_at y.bits r)) x.outs) same
      (outs_back inside number y.nets v (bit_at y.bits r) old.outs shows (cover.of_regs r old there) (sol.regs_show r old there));
  gates = λ k g at.
      let has = Contains-permutation d.gates (map (moved number) gates) g (IsPermutation-sym (map (moved number) gates) d.gates perm)
      (contains_at d.gates k g at) in
      let (j, there) = at_contains (map (moved number) gates) g has in
      let (old, place, same) = map_from (moved number) gates j g there in
      let over = subst (λ (x : Gate). IsOver (length x.ins) x.func) (sym same) (All-at (IsGateInRange d) d.gates k g at range.gates).func in
      let over2 : IsOver (length old.ins) old.func = subst (λ (n : ℕ). IsOver n old.func) (length-map old.ins number) over in
      subst (λ (x : Gate). bit_at y.nets x.out ≡ value x.func (gate_pins x.ins y.nets)) same
      (shows old.out (cover.of_gates j old place) ∙ (sol.gates_hold j old place
      ∙ value_agrees old.func (length old.ins) (λ i. v (slice_index old.ins i)) (gate_pins (map number old.ins) y.nets) over2
      (λ i lt. sym (ap (λ (n : ℕ). bit_at y.nets n) (pins_moved number old.ins i lt) ∙ shows (slice_index old.ins i) (cover.of_ins j old place i 0 lt)))));
}

number_here : (n x : ℕ) (xs : List ℕ) → nat_eq n x ≡ true → number_by (x ∷ xs) n ≡ 0
number_here n x xs e = rw e refl

number_later : (n x : ℕ) (xs : List ℕ) → nat_eq n x ≡ false → number_by (x ∷ xs) n ≡ suc (number_by xs n)
number_later n x xs e = rw e (omega arith)

-- the row of the drivers' bits shows each net that is driven
row_here : (v : ℕ → Bool) (n x : ℕ) (xs : List ℕ) (b : Bool) → nat_eq n x ≡ b
    → (number_by xs n < length xs → bit_at (map v xs) (number_by xs n) ≡ v n) → number_by (x ∷ xs) n < length (x ∷ xs) → bit_at (map v (x ∷ xs))
    (number_by (x ∷ xs) n) ≡ v n
row_here v n x xs true e further lt =
    let same : n ≡ x = eqb-true n x e in
    ap (λ (k : ℕ). bit_at (map v (x ∷ xs)) k) (number_here n x xs e) ∙ ap v (sym same)
row_here v n x xs false e further lt =
    let later = number_later n x xs e in
    ap (λ (k : ℕ). bit_at (map v (x ∷ xs)) k) later ∙ further (omega (arith, later))

row_shows : (v : ℕ → Bool) (n : ℕ) (xs : List ℕ) → number_by xs n < length xs → bit_at (map v xs) (number_by xs n) ≡ v n
row_shows v n [] lt = absurd (omega arith)
row_shows v n (x ∷ xs) lt = row_here v n x xs (nat_eq n x) refl (row_shows v n xs) lt

-- a net that stands in the list has a number
number_within_here : (n x : ℕ) (xs : List ℕ) (b : Bool) → nat_eq n x ≡ b → (b ≡ false → number_by xs n < length xs) → number_by (x ∷ xs) n < length (x ∷ xs)
number_within_here n x xs true e further = omega (arith, number_here n x xs e)
number_within_here n x xs false e further = omega (arith, number_later n x xs e, further refl)

not_here : (n x : ℕ) → nat_eq n x ≡ false → x ≡ n → ⊥
not_here n x e same = grind (arith, nat_tests)

pub number_within : (n : ℕ) (xs : List ℕ) → Contains xs n → number_by xs n < length xs
number_within n [] has = absurd (omega (arith, has.1))
number_within n (x ∷ xs) (zero, lt, same) = number_within_here n x xs (nat_eq n x) refl (λ e. absurd (not_here n x e same))
number_within n (x ∷ xs) (suc k, lt, same) = number_within_here n x xs (nat_eq n x) refl (λ e. number_within n xs (k, omega arith, same))

-- what the pins of a moved register read
pins_same : (number : ℕ → ℕ) (nets : List Bool) (ins : List ℕ) (own : Bool) (i : ℕ) (b : Bool) → nat_lt i (length ins) ≡ b
    → (if b then bit_at nets (slice_index (map number ins) i) else own) ≡ (if b then bit_at nets (number (slice_index ins i)) else own)
pins_same number nets ins own i true e = ap (λ (n : ℕ). bit_at nets n) (pins_moved number ins i (grind (arith, nat_tests)))
pins_same number nets ins own i false e = refl

reg_pins_same : (number : ℕ → ℕ) (nets : List Bool) (ins : List ℕ) (own : Bool) (i : ℕ) → reg_pins (map number ins) nets own i ≡
    (if nat_lt i (length ins) then bit_at nets (number (slice_index ins i)) else own)
reg_pins_same number nets ins own i = rw (length-map ins number) (pins_same number nets ins own i (nat_lt i (length ins)) refl)

captures_are : (d : Design) (y : Cycle) (c : Circuit) (number : ℕ → ℕ) (r : ℕ) (reg : Reg) → IsInRange d → d.regs ≡ map (moved_reg number) (regs_of c)
    → slice_get (regs_of c) r ≡ Some reg → reg_capture_in y r (slice_get d.regs r) ≡ captured reg (bit_at y.bits r) (λ n. bit_at y.nets (number n))
captures_are d y c number r reg range regs_is at =
    let there : slice_get d.regs r ≡ Some (moved_reg number reg) = ap (λ (xs : List Reg). slice_get xs r) regs_is ∙ map_at (moved_reg number)
    (regs_of c) r reg at in
    let known = All-at (IsRegInRange d) d.regs r (moved_reg number reg) there range.regs in
    let len = length-map reg.ins number in
    let own = bit_at y.bits r in
    rw there (capture_agrees reg (length reg.ins + 1) (reg_pins (map number reg.ins) y.nets own)
    (λ place. if nat_lt place (length reg.ins) then bit_at y.nets (number (slice_index reg.ins place)) else own)
    (subst (λ (n : ℕ). IsOver (n + 1) reg.next) len known.next) (subst (λ (n : ℕ). IsOptionOver (n + 1) reg.clear) len known.clear)
    (subst (λ (n : ℕ). IsOptionOver (n + 1) reg.preset) len known.preset)
    (λ i lt. reg_pins_same number y.nets reg.ins own i))

-- a sound design of a flat netlist has its solutions as settled cycles, and its captures
pub solutions_are : (c : Circuit) (tree : List Bool) (order : List Gate) (d : Design) → IsDesignOf c tree order d → IsSound d → AreSolutions c tree order d
solutions_are c tree order d is sound =
    let drivers : List ℕ = drivers_by c order in
    let number : ℕ → ℕ = number_by drivers in
    let moved_gates : IsPermutation (map (moved number) (equations tree c)) d.gates =
    subst (λ (gs : List Gate). IsPermutation (map (moved number) (equations tree c)) gs) (sym is.gates)
    (IsPermutation-map (moved number) (equations tree c) order (order_permutes c tree order is.order_is)) in
    record {
      each = λ y settled. settled_solves d y c (equations tree c) number sound.in_range is.inputs is.regs moved_gates settled;
      all = λ bits ins v bits_len ins_len sol.
          let y : Cycle = record { bits = bits; ins = ins; nets = map v drivers } in
          let shape : HasShape d y = record { bits = bits_len; ins = ins_len; nets = length-map drivers v ∙ sym is.nets } in
          let row : (n : ℕ) → number n < d.nets → bit_at (map v drivers) (number n) ≡ v n = λ n lt. row_shows v n drivers (omega (arith, is.nets)) in
          let settled = solution_settles (λ n. number n < d.nets) d y c (equations tree c) number v sound.in_range is.inputs is.regs moved_gates shape
          (covers d c (equations tree c) number sound.in_range is.inputs is.regs moved_gates) row sol in
          (y, settled, refl, refl, λ net has. row_shows v net drivers (number_within net drivers has));
      captures = λ y r reg settled at. captures_are d y c number r reg sound.in_range is.regs at;
    }
