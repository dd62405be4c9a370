-- Which clock gates pass: those through which the clock comes, and no others.
use Rattle.std.proofs.Common.{◌≡◌, ℕ, zero, suc, ◌<◌, Bool, true, false, ◌&&◌, List, length, map, refl, ap, subst, sym, ◌∙◌, arith}
use Rattle.std.specs.Prelude.{◌↔◌, Contains, Option, Some, None, slice_get, slice_index}
use Rattle.std.specs.List.{list_any}
use Rattle.std.proofs.lemmas.List.{get_or-map, length-map}
use Rattle.net_model.specs.Cycles.{bit_at, gate_pins}
use Rattle.net_model.specs.declared.netlist.Gate.{Gate}
use Rattle.icg_rewrite.specs.Gated.{IsBelowIfAny, AreGated}
use Rattle.icg_rewrite.specs.Runs.{passes, ArePassing}
use Rattle.icg_rewrite.specs.declared.clock_gates.Gated.{Gated}
use Rattle.link_defs.specs.declared.circuits.Circuit.{Circuit}
use Rattle.link_defs.specs.declared.circuits.Part.TheVariants as part
use Rattle.link_defs.specs.Designs.{number_by, drivers_by}
use Rattle.link_defs.specs.Above.{Under, Passes, Ungated, Open}
use Rattle.link_defs.specs.GateOrders.{ClockPart, place_in, IsGateOrderOf}
use Rattle.link_defs.specs.GatedDesigns.{IsGatedOf, gate_by}
use Rattle.link_gates.proofs.Owners.{IsDrivenOnce, one_clock_gate}
use Rattle.link_gates.proofs.Standing.{above_is_one, gate_above}
use Rattle.link_gates.proofs.GatePlaces.{part_at, at_part, place_is}
use Rattle.link_gates.proofs.EnableForms.{value-any_of}

-- nets of a design, by the numbers of nets of its circuit, have these bits
abbrev pub HaveBits : ℕ → (ℕ → ℕ) → List Bool → (ℕ → Bool) → Type 0
HaveBits count number nets v = (net : ℕ) → number net < count → bit_at nets (number net) ≡ v net

-- the clock comes through the clock gate that drives this net
record IsOpen (c : Circuit) (v : ℕ → Bool) (out : ℕ) : Type 0 where
  clock : ℕ
  enables : List ℕ
  up : Option ℕ
  stands : Contains c.parts (part.Gate clock enables out)
  any : list_any v enables ≡ true
  on : Under c clock up
  above : Passes c v up

-- where it does, an enable is 1 and it comes through what stands above
open_if : (c : Circuit) (v : ℕ → Bool) (a : Option ℕ) (out : ℕ) → Passes c v a → a ≡ Some out → IsOpen c v out
open_if c v a out Ungated same = cc
open_if c v a out (Open clock enables own up stands any on above) same =
    let is : own ≡ out = cc in
    record {
      clock = clock;
      enables = enables;
      up = up;
      stands = subst (λ (k : ℕ). Contains c.parts (part.Gate clock enables k)) is stands;
      any = any;
      on = on;
      above = above;
    }

-- clock gates that are one have one clock pin
same_clock : (a b out : ℕ) (xs ys : List ℕ) → part.Gate a xs out ≡ part.Gate b ys out → a ≡ b
same_clock a b out xs ys same = cc

-- and the same enables
same_enables : (a b out : ℕ) (xs ys : List ℕ) → part.Gate a xs out ≡ part.Gate b ys out → xs ≡ ys
same_enables a b out xs ys same = cc

-- the clock comes through a clock gate only where an enable is 1 and it comes through what stands above
opens : (c : Circuit) (v : ℕ → Bool) → IsDrivenOnce c → (x : ClockPart) (up : Option ℕ) → Contains c.parts (part.Gate x.clock x.enables x.out)
    → Under c x.clock up → Passes c v (Some x.out) → (list_any v x.enables ≡ true) × Passes c v up
opens c v once x up stands on pass =
    let open_here = open_if c v (Some x.out) x.out pass refl in
    let same = one_clock_gate c once open_here.clock x.clock open_here.enables x.enables x.out open_here.stands stands in
    let enables = same_enables open_here.clock x.clock x.out open_here.enables x.enables same in
    let clock = same_clock open_here.clock x.clock x.out open_here.enables x.enables same in
    let above = above_is_one c once x.clock open_here.up up (subst (λ (n : ℕ). Under c n open_here.up) clock open_here.on) on in
    (subst (λ (xs : List ℕ). list_any v xs ≡ true) enables open_here.any, subst (λ (o : Option ℕ). Passes c v o) above open_here.above)

-- the bit of clock gate k tells whether the clock comes through it
abbrev Tells : Circuit → (ℕ → Bool) → List ClockPart → List Bool → ℕ → Type 0
Tells c v gates row k =
    (x : ClockPart) (up : Option ℕ) → slice_get gates k ≡ Some x → Under c x.clock up → (bit_at row k ≡ true) ↔ Passes c v (Some x.out)

-- so does what the row says of the clock gate above a net
above_tells : (c : Circuit) (v : ℕ → Bool) (gates : List ClockPart) (row : List Bool) → IsDrivenOnce c → (ordered : IsGateOrderOf c gates)
    → (net : ℕ) (up : Option ℕ) → Under c net up → ((j : ℕ) → place_in gates up ≡ Some j → Tells c v gates row j)
    → (passes row (place_in gates up) ≡ true) ↔ Passes c v up
above_tells c v gates row once ordered net None on tells = ((λ is. Ungated), λ pass. refl)
above_tells c v gates row once ordered net (Some out) on tells =
    let above = gate_above c net out on in
    let x : ClockPart = record { clock = above.clock; enables = above.enables; out = out } in
    let (j, at) = at_part c gates ordered x above.stands in
    let place = place_is c gates once ordered j x at in
    let told = tells j (ap (λ (k : ℕ). Some k) place) x above.up at above.on in
    ((λ is. told.0 (subst (λ (k : ℕ). bit_at row k ≡ true) place is)), λ pass. subst (λ (k : ℕ). bit_at row k ≡ true) (sym place) (told.1 pass))

-- two bits whose conjunction is 1 are 1
both_true : (a b : Bool) → (a && b) ≡ true → (a ≡ true) × (b ≡ true)
both_true true b is = (refl, is)
both_true false b is = cc

-- and two bits that are 1 have the conjunction 1
and_true : (a b : Bool) → a ≡ true → b ≡ true → (a && b) ≡ true
and_true a b x y = cc

-- the bit of a clock gate: an enable is 1, and what stands above it passes
gate_bit : (c : Circuit) (tree : List Bool) (order : List Gate) (gates : List ClockPart) (g : Gated) → AreGated g
    → IsGatedOf c tree order gates g → (v : ℕ → Bool) (nets row : List Bool) → HaveBits g.design.nets (number_by (drivers_by c order)) nets v
    → ArePassing g.gates nets row → (k : ℕ) (x : ClockPart) (up : Option ℕ) → slice_get gates k ≡ Some x → Under c x.clock up
    → IsBelowIfAny k (place_in gates up) × (bit_at row k ≡ (list_any v x.enables && passes row (place_in gates up)))
gate_bit c tree order gates g are is v nets row have passing k x up at on =
    let number : ℕ → ℕ = number_by (drivers_by c order) in
    let here = is.gates_are k x up at on in
    let own = are.gates k (gate_by number gates x up) here in
    let pins : (i : ℕ) → i < length x.enables → gate_pins (map number x.enables) nets i ≡ v (slice_index x.enables i) =
    λ i lt.
    let moved : slice_index (map number x.enables) i ≡ number (slice_index x.enables i) = get_or-map number x.enables i 0 0 lt in
    let below : number (slice_index x.enables i) < g.design.nets =
    subst (λ (n : ℕ). n < g.design.nets) moved (own.ins i 0 (omega (arith, lt, length-map x.enables number))) in
    ap (λ (n : ℕ). bit_at nets n) moved ∙ have (slice_index x.enables i) below in (
      own.parent,
      passing.each k (gate_by number gates x up) here
          ∙ ap (λ (b : Bool). b && passes row (place_in gates up)) (value-any_of v (gate_pins (map number x.enables) nets) x.enables pins),
    )

-- clock gates below a limit have bits that tell whether the clock comes through them
tells_below : (c : Circuit) (tree : List Bool) (order : List Gate) (gates : List ClockPart) (g : Gated) → IsDrivenOnce c → AreGated g
    → IsGatedOf c tree order gates g → (v : ℕ → Bool) (nets row : List Bool) → HaveBits g.design.nets (number_by (drivers_by c order)) nets v
    → ArePassing g.gates nets row → (limit k : ℕ) → k < limit → Tells c v gates row k
tells_below c tree order gates g once are is v nets row have passing zero k lt x up at on = absurd (omega (arith, lt))
tells_below c tree order gates g once are is v nets row have passing (suc limit) k lt x up at on =
    let (below, bit) = gate_bit c tree order gates g are is v nets row have passing k x up at on in
    let above = above_tells c v gates row once is.ordered x.clock up on (λ j place.
    let less = subst (IsBelowIfAny k) place below in
    tells_below c tree order gates g once are is v nets row have passing limit j (omega (arith, less, lt))) in
    let stands = part_at c gates is.ordered k x at in (
      (λ hit.
          let (any, through) = both_true (list_any v x.enables) (passes row (place_in gates up)) (sym bit ∙ hit) in
          Open x.clock x.enables x.out up stands any on (above.0 through)),
      λ pass.
          let (any, through) = opens c v once x up stands on pass in
          bit ∙ and_true (list_any v x.enables) (passes row (place_in gates up)) any (above.1 through),
    )

-- the bits of the clock gates tell of each net of the clock tree whether the clock comes through to it
pub passes_tells : (c : Circuit) (tree : List Bool) (order : List Gate) (gates : List ClockPart) (g : Gated) → IsDrivenOnce c → AreGated g
    → IsGatedOf c tree order gates g → (v : ℕ → Bool) (nets row : List Bool) → HaveBits g.design.nets (number_by (drivers_by c order)) nets v
    → ArePassing g.gates nets row → (net : ℕ) (up : Option ℕ) → Under c net up → (passes row (place_in gates up) ≡ true) ↔ Passes c v up
passes_tells c tree order gates g once are is v nets row have passing net up on =
    above_tells c v gates row once is.ordered net up on
    (λ j place. tells_below c tree order gates g once are is v nets row have passing (suc j) j (omega arith))
