-- What the keys of a query's cycles read are keys of these cycles.
use Rattle.std.proofs.Common.{◌≡◌, ℕ, zero, suc, ◌+◌, ◌-◌, ◌<◌, ◌≤◌, Bool, true, false, cond, List, [], ◌∷◌, ◌++◌, length, map, Option, Some, None}
use Rattle.std.proofs.Common.{refl, subst, arith, inl, inr, nat_lt}
use Rattle.std.specs.Prelude.{slice_get, slice_index, ◌==◌, ◌&&◌, not}
use Rattle.std.proofs.lemmas.Bool.{ltb-true}
use Rattle.std.proofs.lemmas.Option.{slice_get_within}
use Rattle.net_model.specs.Form.{value}
use Rattle.net_model.specs.Judge.{judged_count}
use Rattle.net_model.specs.Cycles.{reg_capture}
use Rattle.net_model.specs.Netlist.{IsSound, IsGateInRange, IsRegInRange, AllBelow}
use Rattle.net_model.specs.Fits.{Fits, IsStartIn, IsEndIn}
use Rattle.net_model.specs.Pins.{is_in}
use Rattle.net_model.specs.Layers.{net_at, held_set}
use Rattle.net_model.specs.declared.netlist.Design.{Design}
use Rattle.net_model.specs.declared.netlist.Gate.{Gate}
use Rattle.net_model.specs.declared.netlist.Reg.{Reg}
use Rattle.sdcv_base.specs.declared.kinds.Edge.{Edge}
use Rattle.sdcv_base.specs.declared.kinds.Edge.TheVariants.{Any, Rise, Fall}
use Rattle.net_model.specs.declared.claims.Claim.{Claim}
use Rattle.net_model.specs.declared.claims.PinRef.{PinRef}
use Rattle.net_model.specs.declared.claims.PinRef.TheVariants.{Net, GateIn, RegIn, OutPort}
use Rattle.net_model.specs.declared.claims.Start.{Start}
use Rattle.net_model.specs.declared.claims.Start.TheVariants.{Reg as RegStart, Input as InputStart}
use Rattle.net_model.specs.declared.claims.End.{End}
use Rattle.net_model.specs.declared.claims.End.TheVariants.{Reg as RegEnd, Output as OutputEnd}
use Rattle.net_model.proofs.Members.{In, In-from_Contains, In-cases, from_map}
use Rattle.net_model.proofs.Settling.{All-at}
use Rattle.query_model.specs.Keys.{key, lit, opposite, flipped}
use Rattle.query_model.specs.Reads.{bit_key, shown_in, bit_or, read_from, read_base, is_start_net, read_late, read, read_pin}
use Rattle.net_model.specs.Mentions.{reads_own}
use Rattle.query_model.specs.Defined.{numbered, with_own, late_key, toggle_key, start_lit, capture_lit, late_capture_lit}
use Rattle.query_model.specs.declared.keys.Key.{Key}
use Rattle.query_model.specs.declared.keys.KeyLit.{KeyLit}
use Rattle.query_model.proofs.Based.{placed, in_place, from_numbered}
use Rattle.query_model.specs.declared.keys.Coding.{Coding}
use Rattle.frame_unroll.specs.Sites.{own_sign}
use Rattle.frame_unroll.specs.Pairs.{reads_of, edge_pair}
use Rattle.frame_unroll.specs.declared.origins.Origin.{Origin}
use Rattle.frame_unroll.specs.declared.origins.Origin.TheVariants.{Free, Gate as OfGate, Reg as OfReg, Toggle, Change, Differ, Stale}
use Rattle.frame_unroll.specs.Origins.{gate_of, of_gate, base_origin, extra_origin, layer_origin, clause_origin, gate_base, reg_base, reads_of_origin}
use Rattle.frame_unroll.specs.Origins.{on_rails, gate_late, reg_late, late_reads, reads_in_layer, claim_reads, clause_reads}
use Rattle.frame_unroll.specs.Framed.{IsWithin}
use Rattle.frame_unroll.specs.Found.{IsReached, Started, Read, AreKeysWithin}
use Rattle.frame_unroll.specs.Counting.{counted}
use Rattle.frame_unroll.proofs.Marks.{counted_place}
use Rattle.frame_unroll.proofs.OriginRange.{if_holds}

abbrev pub IsLitWithin : Design → ℕ → KeyLit → Type 0
IsLitWithin d cycles l = IsWithin d cycles l.key

abbrev pub AreLitsWithin : Design → ℕ → List KeyLit → Type 0
AreLitsWithin d cycles ls = (l : KeyLit) → In l ls → IsWithin d cycles l.key

none_within : (d : Design) (cycles : ℕ) → AreLitsWithin d cycles []
none_within d cycles l has = absurd has

one_within : (d : Design) (cycles : ℕ) (a : KeyLit) → IsLitWithin d cycles a → AreLitsWithin d cycles (a ∷ [])
one_within d cycles a is l (inl here) = subst (IsLitWithin d cycles) here is
one_within d cycles a is l (inr none) = absurd none

two_within : (d : Design) (cycles : ℕ) (a b : KeyLit) → IsLitWithin d cycles a → IsLitWithin d cycles b → AreLitsWithin d cycles (a ∷ b ∷ [])
two_within d cycles a b first second l (inl here) = subst (IsLitWithin d cycles) here first
two_within d cycles a b first second l (inr later) = one_within d cycles b second l later

both_within : (d : Design) (cycles : ℕ) (xs ys : List KeyLit) → AreLitsWithin d cycles xs → AreLitsWithin d cycles ys → AreLitsWithin d cycles (xs ++ ys)
both_within d cycles xs ys left right l has = elim (In-cases l xs ys has) [ inl before ↦ left l before | inr after ↦ right l after ]

low_in : (limit n : ℕ) (xs : List ℕ) → AllBelow limit xs → In n xs → n < limit
low_in limit n xs all has = let place = placed n xs has in All-at (λ m. m < limit) xs place.0 n place.1 all

net_within : (d : Design) (cycles c layer rail n : ℕ) → c ≤ cycles → layer ≤ 5 → rail ≤ 1 → n < d.nets → IsWithin d cycles (key c layer rail n)
net_within d cycles c layer rail n in_time in_layers on_rail low = record { cycle = in_time; layer = in_layers; rail = on_rail; point = omega arith }

bit_within : (d : Design) (cycles c r : ℕ) → c ≤ cycles → r < length d.regs → IsWithin d cycles (bit_key d c r)
bit_within d cycles c r in_time low = record { cycle = in_time; layer = omega arith; rail = omega arith; point = omega arith }

late_within : (d : Design) (claim : Claim) (cycles c rail : ℕ) → Fits d claim → c ≤ cycles → rail ≤ 1 → IsWithin d cycles (late_key d claim c rail)
late_within d claim cycles c rail fits in_time on_rail = let few = fits.few in
    record { cycle = in_time; layer = omega arith; rail = on_rail; point = omega arith }

flipped_within : (d : Design) (cycles : ℕ) (flip : Bool) (l : KeyLit) → IsLitWithin d cycles l → IsLitWithin d cycles (flipped flip l)
flipped_within d cycles false l is = is
flipped_within d cycles true l is = is

bit_or_within : (d : Design) (cycles c r : ℕ) (rest : KeyLit) (shown : Option Bool) → c ≤ cycles → r < length d.regs → IsLitWithin d cycles rest
    → IsLitWithin d cycles (bit_or d c r rest shown)
bit_or_within d cycles c r rest None in_time low is = is
bit_or_within d cycles c r rest (Some inverted) in_time low is = bit_within d cycles c r in_time low

read_from_within : (d : Design) (cycles c : ℕ) (regs : List Reg) (r n : ℕ) → c ≤ cycles → n < d.nets → r + length regs ≤ length d.regs
    → IsLitWithin d cycles (read_from d c regs r n)
read_from_within d cycles c [] r n in_time low le = net_within d cycles c 0 0 n in_time (omega arith) (omega arith) low
read_from_within d cycles c (reg ∷ regs) r n in_time low le =
    bit_or_within d cycles c r (read_from d c regs (r + 1) n) (shown_in reg.outs n) in_time (omega arith)
    (read_from_within d cycles c regs (r + 1) n in_time low (omega arith))

base_within : (d : Design) (cycles c n : ℕ) → c ≤ cycles → n < d.nets → IsLitWithin d cycles (read_base d c n)
base_within d cycles c n in_time low = read_from_within d cycles c d.regs 0 n in_time low (omega arith)

read_late_within : (d : Design) (claim : Claim) (cycles c l rail n : ℕ) → c ≤ cycles → suc l ≤ 5 → rail ≤ 1 → n < d.nets
    → IsLitWithin d cycles (read_late d claim c l rail n)
read_late_within d claim cycles c zero rail n in_time in_layers on_rail low =
    if_holds (IsLitWithin d cycles) (is_start_net d claim n && not claim.hazard) (opposite (read_base d c n)) (lit true (key c 1 rail n))
    (λ flips. base_within d cycles c n in_time low) (λ other. net_within d cycles c 1 rail n in_time in_layers on_rail low)
read_late_within d claim cycles c (suc l) rail n in_time in_layers on_rail low = net_within d cycles c (suc (suc l)) rail n in_time in_layers on_rail low

read_within : (d : Design) (claim : Claim) (moved : List (List Bool)) (cycles c layer rail n : ℕ) → c ≤ cycles → layer ≤ 5 → rail ≤ 1 → n < d.nets
    → IsLitWithin d cycles (read d claim moved c layer rail n)
read_within d claim moved cycles c zero rail n in_time in_layers on_rail low = flipped_within d cycles (rail == 1) (read_base d c n)
    (base_within d cycles c n in_time low)
read_within d claim moved cycles c (suc l) rail n in_time in_layers on_rail low =
    let held = is_in (Net n) (held_set claim.through l) in
    let before = read_within d claim moved cycles c l rail n in_time (omega arith) on_rail low in
    if_holds (IsLitWithin d cycles) (not (net_at false moved l n)) (flipped (rail == 1) (read_base d c n))
    (cond held (read d claim moved c l rail n) (read_late d claim c l rail n))
    (λ still. flipped_within d cycles (rail == 1) (read_base d c n) (base_within d cycles c n in_time low))
    (λ moves. if_holds (IsLitWithin d cycles) held (read d claim moved c l rail n) (read_late d claim c l rail n) (λ is. before)
    (λ other. read_late_within d claim cycles c l rail n in_time in_layers on_rail low))

pin_within : (d : Design) (claim : Claim) (moved : List (List Bool)) (cycles c layer rail : ℕ) (pin : PinRef) (n : ℕ) → c ≤ cycles → layer ≤ 5
    → rail ≤ 1 → n < d.nets → IsLitWithin d cycles (read_pin d claim moved c layer rail pin n)
pin_within d claim moved cycles c zero rail pin n in_time in_layers on_rail low = read_within d claim moved cycles c 0 rail n in_time in_layers on_rail low
pin_within d claim moved cycles c (suc l) rail pin n in_time in_layers on_rail low =
    let before = pin_within d claim moved cycles c l rail pin n in_time (omega arith) on_rail low in
    if_holds (IsLitWithin d cycles) (is_in pin (held_set claim.through l)) (read_pin d claim moved c l rail pin n) (read d claim moved c (suc l) rail n)
    (λ held. before) (λ other. read_within d claim moved cycles c (suc l) rail n in_time in_layers on_rail low)

pins_within : (d : Design) (claim : Claim) (moved : List (List Bool)) (cycles c layer rail : ℕ) (pin : ℕ → PinRef) (ins : List ℕ) → c ≤ cycles
    → layer ≤ 5 → rail ≤ 1 → AllBelow d.nets ins → AreLitsWithin d cycles (numbered (λ i n. read_pin d claim moved c layer rail (pin i) n) 0 ins)
pins_within d claim moved cycles c layer rail pin ins in_time in_layers on_rail all l has =
    let from = from_numbered (λ i n. read_pin d claim moved c layer rail (pin i) n) l 0 ins has in
    subst (IsLitWithin d cycles) from.3 (pin_within d claim moved cycles c layer rail (pin (0 + from.0)) from.1 in_time in_layers on_rail
    (All-at (λ m. m < d.nets) ins from.0 from.1 from.2 all))

nets_within : (d : Design) (cycles c : ℕ) (ins : List ℕ) → c ≤ cycles → AllBelow d.nets ins → AreLitsWithin d cycles (map (read_base d c) ins)
nets_within d cycles c ins in_time all l has =
    let from = from_map (read_base d c) l ins has in
    subst (IsLitWithin d cycles) from.2 (base_within d cycles c from.0 in_time (low_in d.nets from.0 ins all from.1))

own_within : (d : Design) (cycles : ℕ) (reg : Reg) (own : KeyLit) (pins : List KeyLit) → IsLitWithin d cycles own → AreLitsWithin d cycles pins
    → AreLitsWithin d cycles (with_own reg own pins)
own_within d cycles reg own pins is all =
    both_within d cycles pins (cond (reads_own reg) (own ∷ []) []) all
    (if_holds (AreLitsWithin d cycles) (reads_own reg) (own ∷ []) [] (λ reads. one_within d cycles own is) (λ other. none_within d cycles))

rails_within : (d : Design) (claim : Claim) (cycles : ℕ) (f : ℕ → List KeyLit) → ((rail : ℕ) → rail ≤ 1 → AreLitsWithin d cycles (f rail))
    → AreLitsWithin d cycles (on_rails claim f)
rails_within d claim cycles f each =
    both_within d cycles (f 0) (cond claim.hazard (f 1) []) (each 0 (omega arith))
    (if_holds (AreLitsWithin d cycles) claim.hazard (f 1) [] (λ hazard. each 1 (omega arith)) (λ plain. none_within d cycles))

-- those that count are among those that are read
counted_within : (coding : Coding) (cell : (ℕ → Bool) → Bool) (d : Design) (cycles : ℕ) (reads : List KeyLit) → AreLitsWithin d cycles reads
    → AreLitsWithin d cycles (counted coding cell reads)
counted_within coding cell d cycles reads all l has = let at = counted_place coding cell reads l has in all l (in_place l reads at.0 at.1)

gate_base_within : (coding : Coding) (d : Design) (cycles c i : ℕ) (gate : Option Gate) → IsSound d → c ≤ cycles → slice_get d.gates i ≡ gate
    → AreLitsWithin d cycles
    (gate_base coding d c gate)
gate_base_within coding d cycles c i None sound in_time at = none_within d cycles
gate_base_within coding d cycles c i (Some g) sound in_time at =
    counted_within coding (value g.func) d cycles (map (read_base d c) g.ins)
    (nets_within d cycles c g.ins in_time (All-at (IsGateInRange d) d.gates i g at sound.in_range.gates).ins)

reg_base_within : (coding : Coding) (d : Design) (cycles c r : ℕ) (reg : Option Reg) → IsSound d → c ≤ cycles → slice_get d.regs r ≡ reg
    → AreLitsWithin d cycles
    (reg_base coding d c r reg)
reg_base_within coding d cycles c r None sound in_time at = none_within d cycles
reg_base_within coding d cycles c r (Some reg) sound in_time at =
    counted_within coding (reg_capture reg) d cycles (with_own reg (lit true (bit_key d c r)) (map (read_base d c) reg.ins))
    (own_within d cycles reg (lit true (bit_key d c r)) (map (read_base d c) reg.ins) (bit_within d cycles c r in_time (slice_get_within d.regs r reg at))
    (nets_within d cycles c reg.ins in_time (All-at (IsRegInRange d) d.regs r reg at sound.in_range.regs).ins))

base_reads_within : (coding : Coding) (d : Design) (cycles : ℕ) (k : Key) (origin : Origin) → IsSound d → k.cycle ≤ cycles
    → AreLitsWithin d cycles (reads_of_origin coding d k origin)
base_reads_within coding d cycles k Free sound in_time = none_within d cycles
base_reads_within coding d cycles k (OfGate i) sound in_time = gate_base_within coding d cycles k.cycle i (slice_get d.gates i) sound in_time refl
base_reads_within coding d cycles k (OfReg r) sound in_time = reg_base_within coding d cycles (k.cycle - 1) r (slice_get d.regs r) sound (omega arith) refl
base_reads_within coding d cycles k Toggle sound in_time = none_within d cycles
base_reads_within coding d cycles k Change sound in_time = none_within d cycles
base_reads_within coding d cycles k Differ sound in_time = none_within d cycles
base_reads_within coding d cycles k (Stale r) sound in_time = none_within d cycles

gate_late_within : (coding : Coding) (d : Design) (claim : Claim) (moved : List (List Bool)) (cycles c l i : ℕ) (gate : Option Gate) → IsSound d → c ≤ cycles
    → suc l ≤ 5 → slice_get d.gates i ≡ gate → AreLitsWithin d cycles (gate_late coding d claim moved c l i gate)
gate_late_within coding d claim moved cycles c l i None sound in_time in_layers at = none_within d cycles
gate_late_within coding d claim moved cycles c l i (Some g) sound in_time in_layers at =
    let range = All-at (IsGateInRange d) d.gates i g at sound.in_range.gates in
    let pins : ℕ → List KeyLit = λ rail. numbered (λ j n. read_pin d claim moved c (suc l) rail (GateIn i j) n) 0 g.ins in
    rails_within d claim cycles (λ rail. counted coding (value g.func) (pins rail) ++ lit true (key c (suc l) rail g.out) ∷ [])
    (λ rail on_rail. both_within d cycles (counted coding (value g.func) (pins rail)) (lit true (key c (suc l) rail g.out) ∷ [])
    (counted_within coding (value g.func) d cycles (pins rail)
    (pins_within d claim moved cycles c (suc l) rail (GateIn i) g.ins in_time in_layers on_rail range.ins))
    (one_within d cycles (lit true (key c (suc l) rail g.out)) (net_within d cycles c (suc l) rail g.out in_time in_layers on_rail range.out)))

reg_late_within : (coding : Coding) (d : Design) (claim : Claim) (moved : List (List Bool)) (cycles c r : ℕ) (reg : Option Reg) → IsSound d → Fits d claim
    → c ≤ cycles
    → slice_get d.regs r ≡ reg → AreLitsWithin d cycles (reg_late coding d claim moved c r reg)
reg_late_within coding d claim moved cycles c r None sound fits in_time at = none_within d cycles
reg_late_within coding d claim moved cycles c r (Some reg) sound fits in_time at =
    let range = All-at (IsRegInRange d) d.regs r reg at sound.in_range.regs in
    let few = fits.few in
    let last = length claim.through + 1 in
    let pins : ℕ → List KeyLit = λ rail. numbered (λ j n. read_pin d claim moved c last rail (RegIn r j) n) 0 reg.ins in
    let reads : ℕ → List KeyLit = λ rail. with_own reg (lit (own_sign rail) (bit_key d c r)) (pins rail) in
    rails_within d claim cycles (λ rail. counted coding (reg_capture reg) (reads rail) ++ lit true (late_key d claim c rail) ∷ [])
    (λ rail on_rail. both_within d cycles (counted coding (reg_capture reg) (reads rail)) (lit true (late_key d claim c rail) ∷ [])
    (counted_within coding (reg_capture reg) d cycles (reads rail)
    (own_within d cycles reg (lit (own_sign rail) (bit_key d c r)) (pins rail) (bit_within d cycles c r in_time (slice_get_within d.regs r reg at))
    (pins_within d claim moved cycles c last rail (RegIn r) reg.ins in_time (omega arith) on_rail range.ins)))
    (one_within d cycles (lit true (late_key d claim c rail)) (late_within d claim cycles c rail fits in_time on_rail)))

late_reads_within : (coding : Coding) (d : Design) (claim : Claim) (moved : List (List Bool)) (cycles : ℕ) (k : Key) (l : ℕ) (origin : Origin) → IsSound d
    → Fits d claim → k.cycle ≤ cycles → suc l ≤ 5 → AreLitsWithin d cycles (late_reads coding d claim moved k l origin)
late_reads_within coding d claim moved cycles k l Free sound fits in_time in_layers = none_within d cycles
late_reads_within coding d claim moved cycles k l (OfGate i) sound fits in_time in_layers = gate_late_within coding d claim moved cycles k.cycle l i
    (slice_get d.gates i) sound in_time in_layers refl
late_reads_within coding d claim moved cycles k l (OfReg r) sound fits in_time in_layers = reg_late_within coding d claim moved cycles k.cycle r
    (slice_get d.regs r) sound fits in_time refl
late_reads_within coding d claim moved cycles k l Toggle sound fits in_time in_layers = none_within d cycles
late_reads_within coding d claim moved cycles k l Change sound fits in_time in_layers = none_within d cycles
late_reads_within coding d claim moved cycles k l Differ sound fits in_time in_layers = none_within d cycles
late_reads_within coding d claim moved cycles k l (Stale r) sound fits in_time in_layers = none_within d cycles

start_within : (d : Design) (cycles c : ℕ) (start : Start) → IsSound d → IsStartIn d start → c ≤ cycles → IsLitWithin d cycles (start_lit d start c)
start_within d cycles c (RegStart r) sound is in_time = bit_within d cycles c r in_time is
start_within d cycles c (InputStart i) sound is in_time = base_within d cycles c (slice_index d.inputs i) in_time (sound.in_range.inputs i 0 is)

capture_within : (d : Design) (cycles c : ℕ) (end : End) → IsSound d → IsEndIn d end → c < cycles → IsLitWithin d cycles (capture_lit d end c)
capture_within d cycles c (RegEnd r) sound is early = bit_within d cycles (c + 1) r (omega arith) is
capture_within d cycles c (OutputEnd o) sound is early = base_within d cycles c (slice_index d.outputs o) (omega arith) (sound.in_range.outputs o 0 is)

late_lit_within : (d : Design) (claim : Claim) (moved : List (List Bool)) (cycles c rail : ℕ) (end : End) → IsSound d → Fits d claim → IsEndIn d end
    → c ≤ cycles → rail ≤ 1 → IsLitWithin d cycles (late_capture_lit d claim moved c rail end)
late_lit_within d claim moved cycles c rail (RegEnd r) sound fits is in_time on_rail = late_within d claim cycles c rail fits in_time on_rail
late_lit_within d claim moved cycles c rail (OutputEnd o) sound fits is in_time on_rail =
    let few = fits.few in
    pin_within d claim moved cycles c (length claim.through + 1) rail (OutPort o) (slice_index d.outputs o) in_time (omega arith) on_rail
    (sound.in_range.outputs o 0 is)

-- what reads the next cycle too is a point of a cycle before the last
abbrev IsBeforeLast : ℕ → Key → Origin → Type 0
IsBeforeLast cycles k Change = k.cycle < cycles
IsBeforeLast cycles k Differ = k.cycle < cycles
IsBeforeLast cycles k _ = Unit {0}

gate_before : (cycles : ℕ) (k : Key) (gate : Option ℕ) → IsBeforeLast cycles k (of_gate gate)
gate_before cycles k None = tt
gate_before cycles k (Some i) = tt

base_before : (d : Design) (cycles : ℕ) (k : Key) → IsBeforeLast cycles k (base_origin d cycles k)
base_before d cycles k =
    let P : Origin → Type 0 = IsBeforeLast cycles k in
    let is_bit = nat_lt 0 k.cycle && (nat_lt k.cycle (cycles + 1) && nat_lt k.point (d.nets + length d.regs)) in
    if_holds P (nat_lt k.point d.nets) (cond (nat_lt k.cycle cycles) (of_gate (gate_of d.gates 0 k.point)) Free) (cond is_bit (OfReg (k.point - d.nets)) Free)
    (λ low. if_holds P (nat_lt k.cycle cycles) (of_gate (gate_of d.gates 0 k.point)) Free (λ early. gate_before cycles k (gate_of d.gates 0 k.point))
    (λ late. tt))
    (λ high. if_holds P is_bit (OfReg (k.point - d.nets)) Free (λ bit. tt) (λ other. tt))

extra_before : (claim : Claim) (cycles : ℕ) (k : Key) (place : ℕ) → k.cycle < cycles → IsBeforeLast cycles k (extra_origin claim place)
extra_before claim cycles k zero early = tt
extra_before claim cycles k (suc zero) early = early
extra_before claim cycles k (suc (suc zero)) early = early
extra_before claim cycles k (suc (suc (suc r))) early =
    if_holds (IsBeforeLast cycles k) (nat_lt r (judged_count claim - 1)) (Stale (r + 1)) Free (λ judged. tt) (λ other. tt)

cycle_before : (d : Design) (claim : Claim) (moved : List (List Bool)) (cycles : ℕ) (k : Key) → IsBeforeLast cycles k (layer_origin d claim moved cycles k 0)
cycle_before d claim moved cycles k =
    let P : Origin → Type 0 = IsBeforeLast cycles k in
    let extra : Origin = extra_origin claim (k.point - (d.nets + length d.regs)) in
    let high : Origin = cond (nat_lt k.cycle cycles) extra Free in
    if_holds P (not (k.rail == 0)) Free (cond (nat_lt k.point (d.nets + length d.regs)) (base_origin d cycles k) high) (λ railed. tt)
    (λ plain. if_holds P (nat_lt k.point (d.nets + length d.regs)) (base_origin d cycles k) high (λ low. base_before d cycles k)
    (λ above. if_holds P (nat_lt k.cycle cycles) extra Free (λ early. extra_before claim cycles k (k.point - (d.nets + length d.regs))
    (ltb-true k.cycle cycles early)) (λ late. tt)))

differ_within : (coding : Coding) (d : Design) (claim : Claim) (moved : List (List Bool)) (cycles : ℕ) (k : Key) → IsSound d → Fits d claim → k.cycle < cycles
    → AreLitsWithin d cycles (reads_in_layer coding d claim moved k 0 Differ)
differ_within coding d claim moved cycles k sound fits early =
    let late = late_capture_lit d claim moved k.cycle 1 claim.end in
    let capture = capture_lit d claim.end k.cycle in
    two_within d cycles (late_capture_lit d claim moved k.cycle 0 claim.end) (cond claim.hazard late capture)
    (late_lit_within d claim moved cycles k.cycle 0 claim.end sound fits fits.end_ (omega arith) (omega arith))
    (if_holds (IsLitWithin d cycles) claim.hazard late capture (λ hazard. late_lit_within d claim moved cycles k.cycle 1 claim.end sound fits
    fits.end_ (omega arith) (omega arith))
    (λ plain. capture_within d cycles k.cycle claim.end sound fits.end_ early))

edge_within : (d : Design) (cycles : ℕ) (edge : Edge) (z : Key) (x y : KeyLit) → IsLitWithin d cycles x → IsLitWithin d cycles y
    → AreLitsWithin d cycles (reads_of (edge_pair edge z x y))
edge_within d cycles Any z x y first second = two_within d cycles x y first second
edge_within d cycles Rise z x y first second = two_within d cycles x (opposite y) first second
edge_within d cycles Fall z x y first second = two_within d cycles (opposite x) y first second

cycle_reads_within : (coding : Coding) (d : Design) (claim : Claim) (moved : List (List Bool)) (cycles : ℕ) (k : Key) (origin : Origin) → IsSound d
    → Fits d claim
    → k.cycle ≤ cycles → IsBeforeLast cycles k origin → AreLitsWithin d cycles (reads_in_layer coding d claim moved k 0 origin)
cycle_reads_within coding d claim moved cycles k Free sound fits in_time before = none_within d cycles
cycle_reads_within coding d claim moved cycles k (OfGate i) sound fits in_time before = base_reads_within coding d cycles k (OfGate i) sound in_time
cycle_reads_within coding d claim moved cycles k (OfReg r) sound fits in_time before = base_reads_within coding d cycles k (OfReg r) sound in_time
cycle_reads_within coding d claim moved cycles k Toggle sound fits in_time before =
    edge_within d cycles claim.edge (toggle_key d k.cycle) (start_lit d claim.start k.cycle) (start_lit d claim.start (k.cycle - 1))
    (start_within d cycles k.cycle claim.start sound fits.start in_time)
    (start_within d cycles (k.cycle - 1) claim.start sound fits.start (omega arith))
cycle_reads_within coding d claim moved cycles k Change sound fits in_time before =
    two_within d cycles (capture_lit d claim.end k.cycle) (capture_lit d claim.end (k.cycle - 1))
    (capture_within d cycles k.cycle claim.end sound fits.end_ before)
    (capture_within d cycles (k.cycle - 1) claim.end sound fits.end_ (omega arith))
cycle_reads_within coding d claim moved cycles k Differ sound fits in_time before = differ_within coding d claim moved cycles k sound fits before
cycle_reads_within coding d claim moved cycles k (Stale r) sound fits in_time before =
    two_within d cycles (start_lit d claim.start k.cycle) (start_lit d claim.start (k.cycle - r - 1))
    (start_within d cycles k.cycle claim.start sound fits.start in_time)
    (start_within d cycles (k.cycle - r - 1) claim.start sound fits.start (omega arith))

layer_reads_within : (coding : Coding) (d : Design) (claim : Claim) (moved : List (List Bool)) (cycles : ℕ) (k : Key) (layer : ℕ) → IsSound d → Fits d claim
    → k.cycle ≤ cycles → layer ≤ 5 → AreLitsWithin d cycles (reads_in_layer coding d claim moved k layer (layer_origin d claim moved cycles k layer))
layer_reads_within coding d claim moved cycles k zero sound fits in_time in_layers =
    cycle_reads_within coding d claim moved cycles k (layer_origin d claim moved cycles k 0) sound fits in_time (cycle_before d claim moved cycles k)
layer_reads_within coding d claim moved cycles k (suc l) sound fits in_time in_layers =
    late_reads_within coding d claim moved cycles k l (layer_origin d claim moved cycles k (suc l)) sound fits in_time in_layers

claim_reads_within : (coding : Coding) (d : Design) (claim : Claim) (moved : List (List Bool)) (cycles : ℕ) (k : Key) → IsSound d → Fits d claim
    → IsWithin d cycles k
    → AreLitsWithin d cycles (claim_reads coding d claim moved cycles k)
claim_reads_within coding d claim moved cycles k sound fits is = layer_reads_within coding d claim moved cycles k k.layer sound fits is.cycle is.layer

-- where it is asked about a claim
pub claim_keys_within : (coding : Coding) (d : Design) (claim : Claim) (moved : List (List Bool)) (cycles : ℕ) (start : List Key) → IsSound d → Fits d claim
    → AreKeysWithin d cycles start → (k : Key) → IsReached (claim_reads coding d claim moved cycles) start k → IsWithin d cycles k
claim_keys_within coding d claim moved cycles start sound fits within m (Started k has) = within k has
claim_keys_within coding d claim moved cycles start sound fits within m (Read j l from has) =
    claim_reads_within coding d claim moved cycles j sound fits (claim_keys_within coding d claim moved cycles start sound fits within j from) l
    (In-from_Contains (claim_reads coding d claim moved cycles j) l has)

-- and where a clause over register bits is
pub clause_keys_within : (coding : Coding) (d : Design) (cycles : ℕ) (start : List Key) → IsSound d → AreKeysWithin d cycles start → (k : Key)
    → IsReached (clause_reads coding d cycles) start k → IsWithin d cycles k
clause_keys_within coding d cycles start sound within m (Started k has) = within k has
clause_keys_within coding d cycles start sound within m (Read j l from has) =
    base_reads_within coding d cycles j (clause_origin d cycles j) sound ((clause_keys_within coding d cycles start sound within j from).cycle) l
    (In-from_Contains (clause_reads coding d cycles j) l has)
