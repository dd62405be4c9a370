-- Where a register or a clock gate stands on the clock tree.
use Rattle.std.proofs.Common.{◌≡◌, ℕ, zero, suc, Bool, true, false, List, [], ◌∷◌, Some, None, refl, sym, arith, ap}
use Rattle.std.specs.Prelude.{Contains}
use Rattle.std.specs.List.{position}
use Rattle.net_model.specs.Form.{PinForm, NotForm}
use Rattle.net_model.specs.declared.netlist.Gate.{Gate}
use Rattle.net_model.specs.declared.netlist.Reg.{Reg}
use Rattle.link_defs.specs.declared.circuits.Part.{Part}
use Rattle.link_defs.specs.declared.circuits.Part.TheVariants as part
use Rattle.link_defs.specs.declared.circuits.Circuit.{Circuit}
use Rattle.link_defs.specs.Circuits.{OnTree, Root, Buffered, Gated, clock_of}
use Rattle.link_defs.specs.Above.{Under, Behind, IsAboveRow}
use Rattle.link_defs.specs.Above.{Root as Root_under}
use Rattle.link_design.specs.Made.{IsClocked}
use Rattle.link_design.specs.Branches.{past_buffer, past_gate, root_branch}
use Rattle.link_design.specs.Trees.{is_off, is_off_clock}

-- nets 0 and 1 are on the clock tree
abbrev tree : List Bool
tree = true ∷ true ∷ false ∷ []

-- net 1 is there after an odd number of inversions
abbrev odd : List Bool
odd = false ∷ true ∷ false ∷ []

-- a register without controls
abbrev flop : Reg
flop = record { next = PinForm 0; clear = None; preset = None; both = false; ins = 2 ∷ []; outs = [] }

-- a clock pin on the clock itself is right
clock_is_on_the_clock : is_off tree odd 0 ≡ false
clock_is_on_the_clock = refl

-- one after an inverter is not
inverted_clock_is_off_the_clock : is_off tree odd 1 ≡ true
inverted_clock_is_off_the_clock = refl

-- and neither is one on a net that the clock doesn't come to
data_net_is_off_the_clock : is_off tree odd 2 ≡ true
data_net_is_off_the_clock = refl

-- a register whose clock pin is on the inverted clock
register_on_the_inverted_clock_is_off_the_clock : is_off_clock tree odd (part.Flop 1 flop) ≡ true
register_on_the_inverted_clock_is_off_the_clock = refl

-- a clock gate on the inverted clock
gate_on_the_inverted_clock_is_off_the_clock : is_off_clock tree odd (part.Gate 1 (2 ∷ []) 3) ≡ true
gate_on_the_inverted_clock_is_off_the_clock = refl

-- a clock gate on the clock
gate_on_the_clock_is_on_the_clock : is_off_clock tree odd (part.Gate 0 (2 ∷ []) 3) ≡ false
gate_on_the_clock_is_on_the_clock = refl

-- behind a clock gate and then one that drives net 5, a net stands behind that of net 5
net_stands_behind_the_inner_gate : (past_gate (past_gate root_branch 3) 5).above ≡ Some 5
net_stands_behind_the_inner_gate = refl

-- an inverter
abbrev inverter : Gate
inverter = record { func = NotForm (PinForm 0); ins = 0 ∷ []; out = 1 }

-- the register on the inverted clock, or the clock gate there, in a netlist whose clock is net 0
abbrev on_inverted : Part → Circuit
on_inverted p = record { nets = 4; clocks = 0 ∷ []; inputs = 2 ∷ []; outputs = []; parts = part.Comb true (0 ∷ []) (inverter ∷ []) ∷ p ∷ [] }

-- the part has a clock pin, and drives no other net with the clock than net 3
pub record IsSide (p : Part) : Type 0 where
  pub clock : ℕ
  pub has_clock : clock_of p ≡ Some clock
  pub drives : (from : ℕ) (enables : List ℕ) (out : ℕ) → p ≡ part.Gate from enables out → out ≡ 3

-- the one buffer or inverter of that netlist
inverter_alone : (p : Part) → IsSide p → (from : ℕ) (gates : List Gate)
    → Contains (on_inverted p).parts (part.Comb true (from ∷ []) gates) → (from ≡ 0) × (gates ≡ inverter ∷ [])
inverter_alone p side from gates (zero, below, is) =
    let e : part.Comb true (0 ∷ []) (inverter ∷ []) ≡ part.Comb true (from ∷ []) gates = is in (cc, cc)
inverter_alone p side from gates (suc zero, below, is) = let e = rw is at side.has_clock in cc
inverter_alone p side from gates (suc (suc k), below, is) = absurd (omega (arith, below))

-- its one gate drives net 1
inverter_drives : (gates : List Gate) (g : Gate) → gates ≡ inverter ∷ [] → Contains gates g → g ≡ inverter
inverter_drives gates g one has = only (rw one at has)
  where
    only : Contains (inverter ∷ []) g → g ≡ inverter
    only (zero, below, is) = sym is
    only (suc k, below, is) = absurd (omega (arith, below))

-- the clock's own net is on the tree without an inversion
clock_is_not_inverted : (p : Part) → IsSide p → (net : ℕ) (inverted : Bool) → OnTree (on_inverted p) net inverted → net ≡ 0 → inverted ≡ false
clock_is_not_inverted p side net inverted (Root here has) at = refl
clock_is_not_inverted p side net inverted (Buffered from gates g even stands there on) at =
    let out : g.out ≡ 1 = ap (λ (x : Gate). x.out) (inverter_drives gates g (inverter_alone p side from gates stands).1 there) in
    absurd (omega (arith, out, at))
clock_is_not_inverted p side net inverted (Gated from enables out (zero, below, is) on) at = cc
clock_is_not_inverted p side net inverted (Gated from enables out (suc zero, below, is) on) at =
    absurd (omega (arith, side.drives from enables out is, at))
clock_is_not_inverted p side net inverted (Gated from enables out (suc (suc k), below, is) on) at = absurd (omega (arith, below))

-- net 1 is on it after an inversion
inverted_clock_is_inverted : (p : Part) → IsSide p → (net : ℕ) (inverted : Bool) → OnTree (on_inverted p) net inverted → net ≡ 1 → inverted ≡ true
inverted_clock_is_inverted p side net inverted (Root here has) at = absurd (only (rw at at has))
  where
    only : Contains {X = ℕ} (0 ∷ []) 1 → ⊥
    only (zero, below, is) = omega (arith, is)
    only (suc k, below, is) = omega (arith, below)
inverted_clock_is_inverted p side net inverted (Buffered from gates g before stands there on) at =
    let (from_clock, one) = inverter_alone p side from gates stands in
    let even = clock_is_not_inverted p side from before on from_clock in
    let func : g.func ≡ NotForm (PinForm 0) = ap (λ (x : Gate). x.func) (inverter_drives gates g one there) in rw (even, func) refl
inverted_clock_is_inverted p side net inverted (Gated from enables out (zero, below, is) on) at = cc
inverted_clock_is_inverted p side net inverted (Gated from enables out (suc zero, below, is) on) at =
    absurd (omega (arith, side.drives from enables out is, at))
inverted_clock_is_inverted p side net inverted (Gated from enables out (suc (suc k), below, is) on) at = absurd (omega (arith, below))

-- a register on net 1
abbrev register : Part
register = part.Flop 1 flop

-- a clock gate on net 1 that drives net 3
abbrev gate : Part
gate = part.Gate 1 (2 ∷ []) 3

-- a register drives no net with the clock
register_is_a_side : IsSide register
register_is_a_side = record { clock = 1; has_clock = refl; drives = λ from enables out is. cc }

-- that clock gate drives net 3 alone
gate_is_a_side : IsSide gate
gate_is_a_side = record { clock = 1; has_clock = refl; drives = λ from enables out is. cc }

-- so a netlist with a register on the inverted clock is refused
register_on_the_inverted_clock_is_refused : ¬ IsClocked (on_inverted register)
register_on_the_inverted_clock_is_refused clocked =
    let e = inverted_clock_is_inverted register register_is_a_side 1 false (clocked.clocks 1 1 register refl refl) refl in cc

-- and one with a clock gate there
gate_on_the_inverted_clock_is_refused : ¬ IsClocked (on_inverted gate)
gate_on_the_inverted_clock_is_refused clocked =
    let e = inverted_clock_is_inverted gate gate_is_a_side 1 false (clocked.clocks 1 1 gate refl refl) refl in cc

-- that clock gate carries on no clock: net 3 is not on the tree
behind_gate_on_the_inverted_clock : (net : ℕ) (inverted : Bool) → OnTree (on_inverted gate) net inverted → net ≡ 3 → ⊥
behind_gate_on_the_inverted_clock net inverted (Root here has) at = only (rw at at has)
  where
    only : Contains {X = ℕ} (0 ∷ []) 3 → ⊥
    only (zero, below, is) = omega (arith, is)
    only (suc k, below, is) = omega (arith, below)
behind_gate_on_the_inverted_clock net inverted (Buffered from gates g even stands there on) at =
    let one = (inverter_alone gate gate_is_a_side from gates stands).1 in
    let out : g.out ≡ 1 = ap (λ (x : Gate). x.out) (inverter_drives gates g one there) in omega (arith, out, at)
behind_gate_on_the_inverted_clock net inverted (Gated from enables out (zero, below, is) on) at = cc
behind_gate_on_the_inverted_clock net inverted (Gated from enables out (suc zero, below, is) on) at =
    let here : from ≡ 1 = (let e : part.Gate 1 (2 ∷ []) 3 ≡ part.Gate from enables out = is in cc) in
    let e = inverted_clock_is_inverted gate gate_is_a_side from false on here in cc
behind_gate_on_the_inverted_clock net inverted (Gated from enables out (suc (suc k), below, is) on) at = omega (arith, below)

net_behind_gate_on_the_inverted_clock_is_off_the_tree : (inverted : Bool) → ¬ OnTree (on_inverted gate) 3 inverted
net_behind_gate_on_the_inverted_clock_is_off_the_tree inverted on = behind_gate_on_the_inverted_clock 3 inverted on refl

-- behind it and one more inverter a net is below the clock after two inversions, and lost
net_behind_both_is_even : (past_buffer (past_gate (past_buffer root_branch (NotForm (PinForm 0))) 3) (NotForm (PinForm 0))).odd ≡ false
net_behind_both_is_even = refl

net_behind_both_is_lost : (past_buffer (past_gate (past_buffer root_branch (NotForm (PinForm 0))) 3) (NotForm (PinForm 0))).lost ≡ true
net_behind_both_is_lost = refl

-- so of a register there and that clock gate it is the clock gate that is refused, wherever the register stands
clock_gate_is_refused_alone : position (is_off_clock (true ∷ true ∷ false ∷ true ∷ true ∷ []) (false ∷ true ∷ false ∷ true ∷ false ∷ []))
    (part.Flop 4 flop ∷ part.Gate 1 (2 ∷ []) 3 ∷ part.Flop 4 flop ∷ []) ≡ Some 1
clock_gate_is_refused_alone = refl

-- two clock gates: the outer one drives net 4 with the clock of net 0, the inner one net 3
abbrev gates : Circuit
gates = record { nets = 5; clocks = 0 ∷ []; inputs = 1 ∷ 2 ∷ []; outputs = []; parts = part.Gate 0 (2 ∷ []) 4 ∷ part.Gate 4 (1 ∷ []) 3 ∷ [] }

-- net 3 stands behind the inner one
net_is_under_the_inner_gate : Under gates 3 (Some 3)
net_is_under_the_inner_gate =
    Behind 4 (1 ∷ []) 3 (Some 4) (1, omega arith, refl) (Behind 0 (2 ∷ []) 4 None (0, omega arith, refl) (Root_under 0 (0, omega arith, refl)))

-- so it is wrong to tell the outer one
outermost_gate_is_not_told : ¬ IsAboveRow gates (None ∷ None ∷ None ∷ Some 4 ∷ Some 4 ∷ [])
outermost_gate_is_not_told row_is = let e = row_is 3 (Some 3) net_is_under_the_inner_gate in cc
