-- Each cause of a refusal, but want of memory, is one by which a design is not sound.
use Rattle.std.proofs.Common.{◌≡◌, ◌≢◌, ℕ, ◌+◌, ◌<◌, ◌++◌, Bool, true, false, ◌||◌, List, length, take, Some, None, refl, arith, eqb-true, inl, inr}
use Rattle.std.specs.Prelude.{Option, Contains, ◌⊎◌}
use Rattle.std.proofs.lemmas.List.Elements.{All-contains}
use Rattle.net_model.specs.Form.{Form, ZeroForm, OneForm, PinForm, NotForm, AndForm, OrForm, XorForm, IsOver}
use Rattle.net_model.specs.Mentions.{mentions, mentions_if_any}
use Rattle.net_model.specs.Netlist.{AllBelow, IsOptionOver, IsGateInRange, IsRegInRange, IsSound, source_nets, gate_nets, reg_nets, held_inputs}
use Rattle.net_model.specs.Faults.{IsBeyond, IsGateBeyond, GatePlace, GateInput, GateOutput, IsRegBeyond, RegPlace, RegInput, RegOutput, IsOutOfRange}
use Rattle.net_model.specs.Faults.{OfGate, OfReg, OfInputs, OfOutputs, OfHeld, IsAboveLimit, Nets, Registers, Inputs, Outputs, GatePins, RegPins}
use Rattle.net_model.specs.Faults.{ResetCycles, IsCause}
use Rattle.net_model.proofs.Settling.{All-at}
use Rattle.net_model.specs.declared.netlist.Design.{Design}
use Rattle.net_model.specs.declared.netlist.Gate.{Gate}
use Rattle.net_model.specs.declared.netlist.Reg.{Reg}
use Rattle.net_model.specs.declared.faults.DesignFault.{DesignFault}
use Rattle.net_model.specs.declared.faults.DesignFault.TheVariants.{PlaceOutOfRange, ManyDrivers, Undriven, Order, Twice, Limit, Memory}

or_cases : (a b : Bool) → (a || b) ≡ true → (a ≡ true) ⊎ (b ≡ true)
or_cases true b e = inl refl
or_cases false b e = inr e

-- a place that a function mentions is below each n over which it is
pub mentioned_below : (n place : ℕ) (f : Form) → IsOver n f → mentions place f ≡ true → place < n
mentioned_below n place ZeroForm over e = cc
mentioned_below n place OneForm over e = cc
mentioned_below n place (PinForm i) over e = let same : i ≡ place = eqb-true i place e in omega arith
mentioned_below n place (NotForm f) over e = mentioned_below n place f over e
mentioned_below n place (AndForm f g) over e =
    elim (or_cases (mentions place f) (mentions place g) e) [
      | inl left ↦ mentioned_below n place f over.0 left
      | inr right ↦ mentioned_below n place g over.1 right
    ]
mentioned_below n place (OrForm f g) over e =
    elim (or_cases (mentions place f) (mentions place g) e) [
      | inl left ↦ mentioned_below n place f over.0 left
      | inr right ↦ mentioned_below n place g over.1 right
    ]
mentioned_below n place (XorForm f g) over e =
    elim (or_cases (mentions place f) (mentions place g) e) [
      | inl left ↦ mentioned_below n place f over.0 left
      | inr right ↦ mentioned_below n place g over.1 right
    ]

if_any_below : (n place : ℕ) (o : Option Form) → IsOptionOver n o → mentions_if_any place o ≡ true → place < n
if_any_below n place None over e = cc
if_any_below n place (Some f) over e = mentioned_below n place f over e

not_beyond : (limit : ℕ) (numbers : List ℕ) (n : ℕ) → IsBeyond limit numbers n → AllBelow limit numbers → ⊥
not_beyond limit numbers n out all =
    let low : n < limit = All-contains (λ m. m < limit) numbers n all out.listed in
    let high = out.beyond in
    absurd (omega arith)

gate_within : (d : Design) (g : Gate) (n : ℕ) → IsGateBeyond d g n → IsGateInRange d g → ⊥
gate_within d g n (GatePlace mentioned high) fine =
    let low = mentioned_below (length g.ins) n g.func fine.func mentioned in absurd (omega arith)
gate_within d g n (GateInput out) fine = not_beyond d.nets g.ins n out fine.ins
gate_within d g n (GateOutput is high) fine = let low = fine.out in absurd (omega arith)

reg_within : (d : Design) (r : Reg) (n : ℕ) → IsRegBeyond d r n → IsRegInRange d r → ⊥
reg_within d r n (RegPlace mentioned high) fine =
    elim (or_cases (mentions n r.next) (mentions_if_any n r.clear || mentions_if_any n r.preset) mentioned) [
      | inl next ↦ let low = mentioned_below (length r.ins + 1) n r.next fine.next next in absurd (omega arith)
      | inr control ↦ elim (or_cases (mentions_if_any n r.clear) (mentions_if_any n r.preset) control) [
        | inl clear ↦ let low = if_any_below (length r.ins + 1) n r.clear fine.clear clear in absurd (omega arith)
        | inr preset ↦ let low = if_any_below (length r.ins + 1) n r.preset fine.preset preset in absurd (omega arith)
      ]
    ]
reg_within d r n (RegInput out) fine = not_beyond d.nets r.ins n out fine.ins
reg_within d r n (RegOutput out) fine = not_beyond d.nets (reg_nets r) n out fine.outs

range_sound : (d : Design) (n : ℕ) → IsOutOfRange d n → IsSound d → ⊥
range_sound d n (OfGate k g at out) sound = gate_within d g n out (All-at (IsGateInRange d) d.gates k g at sound.in_range.gates)
range_sound d n (OfReg r reg at out) sound = reg_within d reg n out (All-at (IsRegInRange d) d.regs r reg at sound.in_range.regs)
range_sound d n (OfInputs out) sound = not_beyond d.nets d.inputs n out sound.in_range.inputs
range_sound d n (OfOutputs out) sound = not_beyond d.nets d.outputs n out sound.in_range.outputs
range_sound d n (OfHeld out) sound = not_beyond (length d.inputs) (held_inputs d) n out sound.in_range.held

limit_sound : (d : Design) (n : ℕ) → IsAboveLimit d n → IsSound d → ⊥
limit_sound d n (Nets p) sound = let high = p.above in let low = sound.limits.nets in absurd (omega arith)
limit_sound d n (Registers p) sound = let high = p.above in let low = sound.limits.regs in absurd (omega arith)
limit_sound d n (Inputs p) sound = let high = p.above in let low = sound.limits.inputs in absurd (omega arith)
limit_sound d n (Outputs p) sound = let high = p.above in let low = sound.limits.outputs in absurd (omega arith)
limit_sound d n (GatePins k g at p) sound =
    let high = p.above in
    let low = (All-at (IsGateInRange d) d.gates k g at sound.in_range.gates).few in absurd (omega arith)
limit_sound d n (RegPins r reg at p) sound =
    let high = p.above in
    let low = (All-at (IsRegInRange d) d.regs r reg at sound.in_range.regs).few in absurd (omega arith)
limit_sound d n (ResetCycles p) sound = let high = p.above in let low = sound.limits.reset_len in absurd (omega arith)

pub unsound : (d : Design) (fault : DesignFault) → fault ≢ Memory → IsCause d fault → IsSound d → ⊥
unsound d (PlaceOutOfRange n) other cause sound = range_sound d n cause sound
unsound d (ManyDrivers net) other cause sound = let one = sound.one_driver net cause.0 in let two = cause.1 in absurd (omega arith)
unsound d (Undriven net) other cause sound = let one = sound.one_driver net cause.0 in let none = cause.1 in absurd (omega arith)
unsound d (Order k) other cause sound =
    cause.early (All-contains (Contains (source_nets d ++ gate_nets (take k d.gates))) cause.gate.ins cause.net (sound.in_order k cause.gate cause.at)
    cause.reads)
unsound d (Twice i) other cause sound = let once = sound.once i cause.0 in let two = cause.1 in absurd (omega arith)
unsound d (Limit n) other cause sound = limit_sound d n cause sound
unsound d Memory other cause sound = absurd (other refl)
