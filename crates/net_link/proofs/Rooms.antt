-- Whether there is room for the enables of a circuit's clock gates.
use Rattle.std.proofs.Common.{◌≡◌, ℕ, zero, suc, ◌+◌, ◌<◌, ◌≤◌, ◌==◌, Bool, List, [], ◌∷◌, length, map, Some, None, refl, ap, subst, sym, ◌∙◌, arith, inl, inr}
use Rattle.std.specs.Prelude.{Contains, Option, slice_get, slice_index_or, count_by, flat_map}
use Rattle.std.proofs.lemmas.Bool.{cases_eq}
use Rattle.std.proofs.lemmas.List.{length-map}
use Rattle.sdcv_base.specs.declared.limits.LimitName.TheVariants as what
use Rattle.net_model.specs.Netlist.{IsRegInRange}
use Rattle.net_model.specs.declared.netlist.Gate.{Gate}
use Rattle.net_model.specs.declared.netlist.Reg.{Reg}
use Rattle.graph_order.proofs.Marked.{count_cons, counted, not_counted, at_contains, contains_at}
use Rattle.graph_order.proofs.Told.{order_right}
use Rattle.icg_rewrite.specs.Faults.{IsFull, HasRoom}
use Rattle.icg_rewrite.specs.Gated.{AreGated}
use Rattle.icg_rewrite.specs.declared.clock_gates.Gated.{Gated}
use Rattle.icg_rewrite.proofs.Lists.{map_from}
use Rattle.netlist_types.specs.declared.sources.Source.{Source}
use Rattle.cell_types.specs.declared.libraries.Library.{Library}
use Rattle.link_defs.proofs.Permuting.{order_permutes}
use Rattle.link_defs.specs.declared.circuits.Circuit.{Circuit}
use Rattle.link_defs.specs.declared.circuits.Part.{Part}
use Rattle.link_defs.specs.declared.circuits.Part.TheVariants as part
use Rattle.link_defs.specs.Circuits.{part_regs, IsTree}
use Rattle.link_defs.specs.Designs.{equations, drivers_by, number_by, moved_reg}
use Rattle.link_defs.specs.Above.{Under}
use Rattle.link_defs.specs.Faults.{HasManyPins, IsAboveLimit}
use Rattle.link_defs.specs.Faults as link
use Rattle.link_defs.specs.Flatten.{Flat}
use Rattle.link_defs.specs.GateOrders.{ClockPart, clock_parts, no_clock_part, gate_outs, place_in, IsGateOrderOf}
use Rattle.link_defs.specs.GatedDesigns.{Flop, part_flop, flops_of, IsGatedOf}
use Rattle.link_gates.proofs.GatePlaces.{map_at}
use Rattle.link_gates.proofs.OneGated.{AreClocked, flop_under}
use Rattle.link_design.specs.Made.{IsClocked}
use Rattle.link_design.proofs.Making.{as_many, equations_same}
use Rattle.link_items.proofs.Listing.{all_at}

-- no register behind a clock gate reads six nets, and with the enables there are not too many nets
pub record IsRoomy (c : Circuit) : Type 0 where
  pub pins : (x : Flop) (gate : ℕ) → Contains (flops_of c) x → Under c x.clock (Some gate) → 5 < length x.reg.ins → ⊥
  pub nets : (tree : List Bool) → IsTree c tree → length (drivers_by c (equations tree c)) + length (clock_parts c) ≤ 200000

-- each register and each clock gate is on the clock
pub are_clocked : (c : Circuit) → IsClocked c → AreClocked c
are_clocked c clocked p clock has on = let (place, at) = at_contains c.parts p has in clocked.clocks place clock p at on

-- how often the numbers below a bound stand in a list
abbrev counts : ℕ → List ℕ → ℕ
counts zero xs = 0
counts (suc n) xs = counts n xs + count_by (λ m. m == n) xs

counts_none : (n : ℕ) → counts n [] ≡ 0
counts_none zero = refl
counts_none (suc n) = omega (arith, counts_none n)

-- a number from the bound on does not count
counts_past : (n x : ℕ) (xs : List ℕ) → n ≤ x → counts n (x ∷ xs) ≡ counts n xs
counts_past zero x xs past = refl
counts_past (suc n) x xs past =
    omega (arith, counts_past n x xs (omega (arith, past)), count_cons (λ m. m == n) x xs, not_counted n x (λ e. absurd (omega (arith, past, e))))

-- and one below it counts once
counts_next : (n x : ℕ) (xs : List ℕ) → x < n → counts n (x ∷ xs) ≡ suc (counts n xs)
counts_next zero x xs lt = absurd (omega (arith, lt))
counts_next (suc n) x xs lt = elim (cases_eq x n) [
  | inl same ↦ omega (arith, counts_past n x xs (omega (arith, same)), count_cons (λ m. m == n) x xs, counted n x same)
  | inr apart ↦ omega (arith, counts_next n x xs (omega (arith, lt, apart)), count_cons (λ m. m == n) x xs, not_counted n x apart)
]

-- numbers below the bound are as many as they are counted
counts_all : (n : ℕ) (xs : List ℕ) → ((i x : ℕ) → slice_get xs i ≡ Some x → x < n) → counts n xs ≡ length xs
counts_all n [] below = counts_none n
counts_all n (x ∷ xs) below =
    omega (arith, counts_next n x xs (below 0 x refl), counts_all n xs (λ i y at. below (suc i) y at))

counts_once : (n : ℕ) (xs : List ℕ) → ((k : ℕ) → k < n → count_by (λ m. m == k) xs ≡ 1) → counts n xs ≡ n
counts_once zero xs once = refl
counts_once (suc n) xs once =
    omega (arith, counts_once n xs (λ k lt. once k (omega (arith, lt))), once n (omega arith))

-- as many clock gates stand in their order as there are
gates_len : (c : Circuit) (gates : List ClockPart) → IsGateOrderOf c gates → length gates ≡ length (clock_parts c)
gates_len c gates is =
    let right = order_right is.needs is.places is.found in
    let all = counts_all (length is.needs) is.places right.in_range in
    let once = counts_once (length is.needs) is.places right.each_once in
    let many = ap (λ (xs : List ClockPart). length xs) is.is
    ∙ length-map is.places (λ (place : ℕ). slice_index_or (clock_parts c) place no_clock_part) in
    omega (arith, all, once, many, is.needed.long)

-- as many nets as the design has are driven by the equations
nets_are : (c : Circuit) (tree : List Bool) (order : List Gate) (gates : List ClockPart) (g : Gated) → IsGatedOf c tree order gates g
    → g.design.nets + length g.gates ≡ length (drivers_by c (equations tree c)) + length (clock_parts c)
nets_are c tree order gates g is =
    omega (
      arith,
      is.design.nets,
      as_many c tree order (order_permutes c tree order is.design.order_is),
      is.long,
      gates_len c gates is.ordered,
    )

-- the registers of the flops are those of the parts
flop_regs_are : (parts : List Part) → map (λ (x : Flop). x.reg) (flat_map part_flop parts) ≡ flat_map part_regs parts
flop_regs_are [] = refl
flop_regs_are (part.Comb buffer ins gates ∷ parts) = flop_regs_are parts
flop_regs_are (part.Flop clock reg ∷ parts) = ap (λ (rs : List Reg). reg ∷ rs) (flop_regs_are parts)
flop_regs_are (part.Gate clock enables out ∷ parts) = flop_regs_are parts

-- a register of the design is the flop of its place
flop_there : (c : Circuit) (tree : List Bool) (order : List Gate) (gates : List ClockPart) (g : Gated) → IsGatedOf c tree order gates g
    → (r : ℕ) (reg : Reg) → slice_get g.design.regs r ≡ Some reg
    → (x : Flop) × (slice_get (flops_of c) r ≡ Some x) × (length x.reg.ins ≡ length reg.ins)
flop_there c tree order gates g is r reg at =
    let number : ℕ → ℕ = number_by (drivers_by c order) in
    let reg_of : Flop → Reg = λ x. x.reg in
    let regs : g.design.regs ≡ map (moved_reg number) (map reg_of (flops_of c)) =
    is.design.regs ∙ ap (λ (rs : List Reg). map (moved_reg number) rs) (sym (flop_regs_are c.parts)) in
    let (own, at_own, moved) = map_from (moved_reg number) (map reg_of (flops_of c)) r reg (subst (λ (rs : List Reg). slice_get rs r ≡ Some reg) regs at) in
    let (x, at_x, same) = map_from reg_of (flops_of c) r own at_own in
    let pins : length own.ins ≡ length reg.ins =
    sym (length-map own.ins number) ∙ ap (λ (q : Reg). length q.ins) moved in
    (x, at_x, ap (λ (q : Reg). length q.ins) same ∙ pins)

-- the register of the design that a flop is
reg_there : (c : Circuit) (tree : List Bool) (order : List Gate) (gates : List ClockPart) (g : Gated) → IsGatedOf c tree order gates g
    → (r : ℕ) (x : Flop) → slice_get (flops_of c) r ≡ Some x → slice_get g.design.regs r ≡ Some (moved_reg (number_by (drivers_by c order)) x.reg)
reg_there c tree order gates g is r x at =
    let number : ℕ → ℕ = number_by (drivers_by c order) in
    let reg_of : Flop → Reg = λ y. y.reg in
    let regs : g.design.regs ≡ map (moved_reg number) (map reg_of (flops_of c)) =
    is.design.regs ∙ ap (λ (rs : List Reg). map (moved_reg number) rs) (sym (flop_regs_are c.parts)) in
    subst (λ (rs : List Reg). slice_get rs r ≡ Some (moved_reg number x.reg)) (sym regs)
    (map_at (moved_reg number) (map reg_of (flops_of c)) r x.reg (map_at reg_of (flops_of c) r x at))

-- what stands at a place of the clock gates stands below one of them
up_is : (gates : List ClockPart) (up : Option ℕ) (gate : ℕ) → place_in gates up ≡ Some gate → (out : ℕ) × (up ≡ Some out)
up_is gates None gate is = cc
up_is gates (Some out) gate is = (out, refl)

same_up : (x y : Option ℕ) (row : List (Option ℕ)) (r : ℕ) → slice_get row r ≡ Some x → slice_get row r ≡ Some y → x ≡ y
same_up x y row r one two = cc

-- a register without room for its enable is a flop of six pins behind a clock gate
pub pins_cause : (wide : Bool) (s : Source) (lib : Library) (flat : Flat) (c : Circuit) (tree : List Bool) (order : List Gate)
    (gates : List ClockPart) (g : Gated) → IsClocked c → IsGatedOf c tree order gates g → (r : ℕ) → IsFull g r → IsAboveLimit wide s lib flat c what.Pins 6
pins_cause wide s lib flat c tree order gates g clocked is r full =
    let (x, at, six) = flop_there c tree order gates g is r full.reg full.at in
    let (up, on) = flop_under c (are_clocked c clocked) r x at in
    let (out, above) = up_is gates up full.gate (same_up (place_in gates up) (Some full.gate) g.of r (is.behind r x up at on) full.behind) in
    link.Pins 6 (link.Of_gated x out (contains_at (flops_of c) r x at) (subst (λ (o : Option ℕ). Under c x.clock o) above on)
    (omega (arith, six, full.pins)))

-- too many nets are told of the circuit
pub nets_full : (wide : Bool) (s : Source) (lib : Library) (flat : Flat) (c : Circuit) (tree : List Bool) (order : List Gate)
    (gates : List ClockPart) (g : Gated) → IsGatedOf c tree order gates g → 200000 < g.design.nets + length g.gates → IsAboveLimit wide s lib flat c what.Nets 200001
nets_full wide s lib flat c tree order gates g is more =
    link.Nets tree is.design.tree_is (omega (arith, more, nets_are c tree order gates g is))

-- where there is room in the design, there is in the circuit
pub room_is : (c : Circuit) (tree : List Bool) (order : List Gate) (gates : List ClockPart) (g : Gated) → AreGated g → IsGatedOf c tree order gates g
    → HasRoom g → IsRoomy c
room_is c tree order gates g are is room = record {
  pins = λ x gate has under wide.
      let (r, at) = at_contains (flops_of c) x has in
      let number : ℕ → ℕ = number_by (drivers_by c order) in
      let there = reg_there c tree order gates g is r x at in
      let few = (all_at (IsRegInRange g.design) g.design.regs are.sound.in_range.regs r (moved_reg number x.reg) there).few in
      room.pins r (record {
        reg = moved_reg number x.reg;
        gate = number_by (gate_outs gates) gate;
        at = there;
        behind = is.behind r x (Some gate) at under;
        pins = omega (arith, wide, few, length-map x.reg.ins number);
      });
  nets = λ other is_other.
      let same = ap (λ (gs : List Gate). length (drivers_by c gs)) (equations_same c other tree is_other is.design.tree_is) in
      omega (arith, same, nets_are c tree order gates g is, room.nets);
}
