-- Where each key is defined, and which keys are read there.
use Rattle.std.specs.Prelude.{ℕ, zero, suc, ◌+◌, ◌-◌, ◌==◌, ◌&&◌, ◌||◌, Bool, not, List, [], ◌∷◌, ◌++◌, length, Contains, Option, Some}
use Rattle.std.specs.Prelude.{None, slice_get, nat_lt, if◌then◌else◌}
use Rattle.net_model.specs.Form.{value}
use Rattle.net_model.specs.Cycles.{reg_capture}
use Rattle.net_model.specs.Judge.{judged_count}
use Rattle.net_model.specs.declared.netlist.Design.{Design}
use Rattle.net_model.specs.declared.netlist.Gate.{Gate}
use Rattle.net_model.specs.declared.netlist.Reg.{Reg}
use Rattle.net_model.specs.declared.claims.Claim.{Claim}
use Rattle.net_model.specs.declared.claims.End.{End}
use Rattle.net_model.specs.declared.claims.End.TheVariants.{Reg as RegEnd, Output as OutputEnd}
use Rattle.query_model.specs.Defined.{Definition, has_own}
use Rattle.query_model.specs.Formula.{Mentions}
use Rattle.query_model.specs.declared.keys.Key.{Key}
use Rattle.query_model.specs.declared.keys.KeyLit.{KeyLit}
use Rattle.query_model.specs.declared.keys.Coding.{Coding}
use Rattle.frame_unroll.specs.Counting.{counted}
use Rattle.frame_unroll.specs.Sites.{gate_site, bit_site, gate_rail, own_sign, reg_rail, counted_rail}
use Rattle.frame_unroll.specs.Pairs.{reads_of, toggle_pair, change_pair, differ_pair, stale_pair}
use Rattle.frame_unroll.specs.declared.origins.Origin.{Origin}
use Rattle.frame_unroll.specs.declared.origins.Origin.TheVariants.{Free, Gate as OfGate, Reg as OfReg, Toggle, Change, Differ, Stale}

-- a definition of the key mentions the other one
abbrev pub Uses : List Definition → Key → Key → Type 0
Uses defs k j = (def : Definition) × Contains defs def × Contains def.outs k × Mentions def.clauses j

-- the gate that drives a net, where the first of these gates has number k
abbrev pub gate_of : List Gate → ℕ → ℕ → Option ℕ
gate_of [] k net = None
gate_of (g ∷ gs) k net = if g.out == net then Some k else gate_of gs (k + 1) net

-- a net that no gate drives is free
abbrev pub of_gate : Option ℕ → Origin
of_gate None = Free
of_gate (Some k) = OfGate k

-- of a net of a cycle, or of a register bit
abbrev pub base_origin : Design → ℕ → Key → Origin
base_origin d cycles k =
    if nat_lt k.point d.nets then (if nat_lt k.cycle cycles then of_gate (gate_of d.gates 0 k.point) else Free)
    else (if nat_lt 0 k.cycle && (nat_lt k.cycle (cycles + 1) && nat_lt k.point (d.nets + length d.regs)) then OfReg (k.point - d.nets) else Free)

-- of a key where no claim is asked about
abbrev pub clause_origin : Design → ℕ → Key → Origin
clause_origin d cycles k = if (k.layer == 0) && (k.rail == 0) then base_origin d cycles k else Free

-- of a further point of a cycle, by its number
abbrev pub extra_origin : Claim → ℕ → Origin
extra_origin claim zero = Toggle
extra_origin claim (suc zero) = Change
extra_origin claim (suc (suc zero)) = Differ
extra_origin claim (suc (suc (suc r))) = if nat_lt r (judged_count claim - 1) then Stale (r + 1) else Free

-- of the late capture: a register end
abbrev pub end_origin : End → Origin
end_origin (RegEnd r) = OfReg r
end_origin (OutputEnd o) = Free

-- whether a layer has keys on the rail
abbrev pub has_rail : Claim → ℕ → Bool
has_rail claim rail = (rail == 0) || (claim.hazard && (rail == 1))

-- of a net in layer suc l, or of the late capture
abbrev pub late_origin : Design → Claim → List (List Bool) → ℕ → Key → Origin
late_origin d claim moved l k =
    if nat_lt k.point d.nets then (if has_own claim moved l k.point then of_gate (gate_of d.gates 0 k.point) else Free)
    else (if (k.point == d.nets + length d.regs) && (l == length claim.through) then end_origin claim.end else Free)

-- of a key of a formula layer
abbrev pub layer_origin : Design → Claim → List (List Bool) → ℕ → Key → ℕ → Origin
layer_origin d claim moved cycles k zero =
    if not (k.rail == 0) then Free
    else (if nat_lt k.point (d.nets + length d.regs) then base_origin d cycles k
    else (if nat_lt k.cycle cycles then extra_origin claim (k.point - (d.nets + length d.regs)) else Free))
layer_origin d claim moved cycles k (suc l) =
    if nat_lt k.cycle cycles && (nat_lt l (length claim.through + 1) && has_rail claim k.rail) then late_origin d claim moved l k else Free

-- of a key where a claim is asked about
abbrev pub claim_origin : Design → Claim → List (List Bool) → ℕ → Key → Origin
claim_origin d claim moved cycles k = layer_origin d claim moved cycles k k.layer

-- what the pins of a gate that count read in a cycle, if there is one
abbrev pub gate_base : Coding → Design → ℕ → Option Gate → List KeyLit
gate_base coding d c None = []
gate_base coding d c (Some g) = counted coding (value g.func) (gate_site d c g).high.reads

-- the same of a register
abbrev pub reg_base : Coding → Design → ℕ → ℕ → Option Reg → List KeyLit
reg_base coding d c r None = []
reg_base coding d c r (Some reg) = counted coding (reg_capture reg) (bit_site d c r reg).high.reads

-- the literals by which a net or a bit is defined
abbrev pub reads_of_origin : Coding → Design → Key → Origin → List KeyLit
reads_of_origin coding d k (OfGate i) = gate_base coding d k.cycle (slice_get d.gates i)
reads_of_origin coding d k (OfReg r) = reg_base coding d (k.cycle - 1) r (slice_get d.regs r)
reads_of_origin coding d k _ = []

-- what is read on each rail of a layer
abbrev pub on_rails : Claim → (ℕ → List KeyLit) → List KeyLit
on_rails claim f = f 0 ++ (if claim.hazard then f 1 else [])

-- what the pins that count read in layer suc l, and beside it the defined keys themselves
abbrev pub gate_late : Coding → Design → Claim → List (List Bool) → ℕ → ℕ → ℕ → Option Gate → List KeyLit
gate_late coding d claim moved c l k None = []
gate_late coding d claim moved c l k (Some g) =
    on_rails claim (λ rail. counted_rail coding (value g.func) (gate_rail d claim moved c (suc l) rail k g))

-- the same of a register, in the last layer
abbrev pub reg_late : Coding → Design → Claim → List (List Bool) → ℕ → ℕ → Option Reg → List KeyLit
reg_late coding d claim moved c r None = []
reg_late coding d claim moved c r (Some reg) =
    on_rails claim (λ rail. counted_rail coding (reg_capture reg) (reg_rail d claim moved c rail (own_sign rail) r reg))

-- the literals by which a net in layer suc l, or the late capture, is defined
abbrev pub late_reads : Coding → Design → Claim → List (List Bool) → Key → ℕ → Origin → List KeyLit
late_reads coding d claim moved k l (OfGate i) = gate_late coding d claim moved k.cycle l i (slice_get d.gates i)
late_reads coding d claim moved k l (OfReg r) = reg_late coding d claim moved k.cycle r (slice_get d.regs r)
late_reads coding d claim moved k l _ = []

-- the literals by which a key is defined
abbrev pub reads_in_layer : Coding → Design → Claim → List (List Bool) → Key → ℕ → Origin → List KeyLit
reads_in_layer coding d claim moved k zero Toggle = reads_of (toggle_pair d claim k.cycle)
reads_in_layer coding d claim moved k zero Change = reads_of (change_pair d claim k.cycle)
reads_in_layer coding d claim moved k zero Differ = reads_of (differ_pair d claim moved k.cycle)
reads_in_layer coding d claim moved k zero (Stale later) = reads_of (stale_pair d claim k.cycle later)
reads_in_layer coding d claim moved k zero origin = reads_of_origin coding d k origin
reads_in_layer coding d claim moved k (suc l) origin = late_reads coding d claim moved k l origin

-- the literals by which the key is defined where a claim is asked about
abbrev pub claim_reads : Coding → Design → Claim → List (List Bool) → ℕ → Key → List KeyLit
claim_reads coding d claim moved cycles k = reads_in_layer coding d claim moved k k.layer (claim_origin d claim moved cycles k)

-- the same where a clause over register bits is
abbrev pub clause_reads : Coding → Design → ℕ → Key → List KeyLit
clause_reads coding d cycles k = reads_of_origin coding d k (clause_origin d cycles k)
