-- Two clock gates, the outer one written after the inner one: what stands above each net of the clock tree, and their order.
use Rattle.std.proofs.Common.{◌≡◌, ℕ, zero, suc, List, [], ◌∷◌, Some, None, refl, ap, subst, arith}
use Rattle.std.specs.Prelude.{Option, Ok, slice_get}
use Rattle.std.proofs.lemmas.Bool.Decides.{nat_tests}
use Rattle.sdcv_base.specs.Steps.{after_all}
use Rattle.graph_order.specs.Orders.{order_of, visited}
use Rattle.link_defs.specs.declared.circuits.Circuit.{Circuit}
use Rattle.link_defs.specs.declared.circuits.Part.TheVariants as part
use Rattle.link_defs.specs.Above.{Under, Root, Behind}
use Rattle.link_defs.specs.GateOrders.{ClockPart, IsGateOrderOf, AreGateNeeds, clock_parts, place_in, if_any}
use Rattle.link_gates.proofs.Owners.{IsDrivenOnce}
use Rattle.link_gates.proofs.Standing.{above_is_one}

-- the inner clock gate: its clock pin is on net 4, its enable on net 1
abbrev inner : ClockPart
inner = record { clock = 4; enables = 1 ∷ []; out = 3 }

-- the outer one, which the clock of net 0 reaches, with its enable on net 2
abbrev outer : ClockPart
outer = record { clock = 0; enables = 2 ∷ []; out = 4 }

-- a netlist of both, the inner one first
abbrev two : Circuit
two = record {
  nets = 5;
  clocks = 0 ∷ [];
  inputs = 1 ∷ 2 ∷ [];
  outputs = [];
  parts = part.Gate 4 (1 ∷ []) 3 ∷ part.Gate 0 (2 ∷ []) 4 ∷ [];
}

-- each net has one driver
once : IsDrivenOnce two
once net = grind (arith, nat_tests)

-- the outer one stands below none
outer_under : Under two 0 None
outer_under = Root 0 (0, omega arith, refl)

-- the inner one below the outer one
inner_under : Under two 4 (Some 4)
inner_under = Behind 0 (2 ∷ []) 4 None (1, omega arith, refl) outer_under

-- so the inner one needs the outer one, which has place 1
abbrev needs : List (List ℕ)
needs = (1 ∷ []) ∷ [] ∷ []

-- the clock gate at place 0 needs that at place 1, which needs none
needed_at : (k : ℕ) (x : ClockPart) (up : Option ℕ) → slice_get (clock_parts two) k ≡ Some x → Under two x.clock up
    → slice_get needs k ≡ Some (if_any (place_in (clock_parts two) up))
needed_at zero x up at on =
    let same : inner ≡ x = cc in
    let above = above_is_one two once x.clock (Some 4) up (subst (λ (y : ClockPart). Under two y.clock (Some 4)) same inner_under) on in
    ap (λ (o : Option ℕ). Some (if_any (place_in (clock_parts two) o))) above
needed_at (suc zero) x up at on =
    let same : outer ≡ x = cc in
    let above = above_is_one two once x.clock None up (subst (λ (y : ClockPart). Under two y.clock None) same outer_under) on in
    ap (λ (o : Option ℕ). Some (if_any (place_in (clock_parts two) o))) above
needed_at (suc (suc k)) x up at on = cc

-- and these are all
needed : AreGateNeeds two needs
needed = record { long = refl; each = needed_at }

-- so place 1 comes first
found : order_of needs ≡ Ok (1 ∷ 0 ∷ [])
unfolding order_of visited after_all
found = refl

-- the outer one comes first in their order
pub outer_first : IsGateOrderOf two (outer ∷ inner ∷ [])
outer_first = record { needs = needs; needed = needed; places = 1 ∷ 0 ∷ []; found = found; is = refl }
