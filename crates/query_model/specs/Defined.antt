-- The definitions of keys by clauses, cycle by cycle, in the order of the formula.
--
-- The points of a cycle, from 0: its nets; its register bits; and then in formula layer 0 further points, each after the
-- register bits: 0 that the start toggles, 1 that the end's capture changes, 2 that the end's late capture differs, 2 + r
-- that the start's bit r cycles after a toggle is not the one before it, and 20 + a that alternative a is chosen. In the
-- last layer the point after the register bits is the late capture of an end that is a register.
use Rattle.std.specs.Prelude.{ℕ, zero, suc, ◌+◌, ◌-◌, ◌==◌, ◌&&◌, Bool, true, false, not, List, [], ◌∷◌, ◌++◌, map, length, flat_map, filter, Option, Some}
use Rattle.std.specs.Prelude.{None, slice_get, slice_index, nat_lt, if◌then◌else◌}
use Rattle.std.specs.List.{list_any}
use Rattle.net_model.specs.Form.{value}
use Rattle.net_model.specs.Mentions.{reads_own}
use Rattle.net_model.specs.Cycles.{reg_capture}
use Rattle.net_model.specs.Judge.{judged_count}
use Rattle.sdcv_base.specs.declared.kinds.Edge.{Edge}
use Rattle.sdcv_base.specs.declared.kinds.Edge.TheVariants.{Any, Rise, Fall}
use Rattle.net_model.specs.Layers.{net_at, held_set}
use Rattle.net_model.specs.Pins.{is_in}
use Rattle.net_model.specs.declared.netlist.Design.{Design}
use Rattle.net_model.specs.declared.netlist.Gate.{Gate}
use Rattle.net_model.specs.declared.netlist.Reg.{Reg}
use Rattle.net_model.specs.declared.netlist.Fixed.{Fixed}
use Rattle.net_model.specs.declared.claims.Claim.{Claim}
use Rattle.net_model.specs.declared.claims.PinRef.TheVariants.{Net, GateIn, RegIn, OutPort}
use Rattle.net_model.specs.declared.claims.Start.{Start}
use Rattle.net_model.specs.declared.claims.Start.TheVariants.{Reg as RegStart, Input as InputStart}
use Rattle.net_model.specs.declared.claims.End.{End}
use Rattle.net_model.specs.declared.claims.End.TheVariants.{Reg as RegEnd, Output as OutputEnd}
use Rattle.net_model.specs.declared.terns.Tern.{Tern}
use Rattle.net_model.specs.declared.terns.Tern.TheVariants.{Zero, One, Unknown}
use Rattle.query_model.specs.Keys.{key, lit, opposite, below}
use Rattle.query_model.specs.Tables.{Cube, row_cubes, constant_cubes, plain_clauses, hazard_clauses}
use Rattle.query_model.specs.Reads.{bit_key, input_key, read_base, read_pin, is_start_net}
use Rattle.query_model.specs.declared.keys.Key.{Key}
use Rattle.query_model.specs.declared.keys.KeyLit.{KeyLit}
use Rattle.query_model.specs.declared.keys.Coding.{Coding}
use Rattle.query_model.specs.declared.keys.Coding.TheVariants.{Rows, Primes}

-- keys, and the clauses that define them from the other keys in these clauses
pub record Definition : Type 0 where
  pub outs : List Key
  pub clauses : List (List KeyLit)

-- each item with its number
abbrev pub numbered : {X A : Type 0} → (ℕ → X → A) → ℕ → List X → List A
numbered f i [] = []
numbered f i (x ∷ xs) = f i x ∷ numbered f (i + 1) xs

-- the first cube fixes each place that the second one fixes, in the same way
abbrev pub tern_within : Tern → Tern → Bool
tern_within Zero Zero = true
tern_within One One = true
tern_within t Unknown = true
tern_within _ _ = false

-- so does it at every place
abbrev pub lies_in : List Tern → List Tern → Bool
lies_in [] [] = true
lies_in (t ∷ ts) (s ∷ ss) = tern_within t s && lies_in ts ss
lies_in _ _ = false

-- no other of these cubes fixes fewer places and has this one in it
abbrev pub is_prime : List Cube → Cube → Bool
is_prime cubes cube = not (list_any (λ (e : Cube). lies_in cube.fixed e.fixed && not (lies_in e.fixed cube.fixed)) cubes)

-- the prime cubes of a function: those on which it is constant, and that lie in no larger one
abbrev pub prime_cubes : ((ℕ → Bool) → Bool) → ℕ → List Cube
prime_cubes cell places = filter (is_prime (constant_cubes cell places)) (constant_cubes cell places)

-- the cubes by which an output is what the function gives: rows, or prime cubes
abbrev pub covering : Coding → ((ℕ → Bool) → Bool) → ℕ → List Cube
covering Rows cell places = row_cubes cell places
covering Primes cell places = prime_cubes cell places

-- and those by which it is nothing else where hazards count: all on which the function is constant, or its prime cubes
abbrev pub settling : Coding → ((ℕ → Bool) → Bool) → ℕ → List Cube
settling Rows cell places = constant_cubes cell places
settling Primes cell places = prime_cubes cell places

-- the output is the function of what its pins read
abbrev pub plain : Coding → ((ℕ → Bool) → Bool) → List KeyLit → Key → Definition
plain coding cell reads out =
    record { outs = out ∷ []; clauses = plain_clauses reads (lit true out) (covering coding cell (length reads)) }

-- the output, of which `high` says that it may be 1 and `low` that it may be 0, is the function of what its pins may read
abbrev pub rails : Coding → ((ℕ → Bool) → Bool) → List KeyLit → List KeyLit → Key → Key → Definition
rails coding cell hs ls high low =
    record {
      outs = high ∷ low ∷ [];
      clauses = hazard_clauses hs ls (lit true high) (lit true low) (covering coding cell (length hs)) (settling coding cell (length hs));
    }

-- the key has this value
abbrev pub unit : Bool → Key → Definition
unit value out = record { outs = out ∷ []; clauses = (lit value out ∷ []) ∷ [] }

-- z is the exclusive or of x and y
abbrev pub exclusive : Key → KeyLit → KeyLit → Definition
exclusive z x y =
    record {
      outs = z ∷ [];
      clauses =
          (lit false z ∷ x ∷ y ∷ []) ∷ (lit false z ∷ opposite x ∷ opposite y ∷ [])
          ∷ (lit true z ∷ opposite x ∷ y ∷ []) ∷ (lit true z ∷ x ∷ opposite y ∷ []) ∷ [];
    }

-- the value of a setting for an input, if there is one
abbrev pub set_in : List Fixed → ℕ → Option Bool
set_in [] i = None
set_in (f ∷ fs) i = if f.input == i then Some f.value else set_in fs i

-- the key has the value of a setting, if there is one, or the other value
abbrev pub unit_if : Option Bool → Bool → Key → List Definition
unit_if None flip out = []
unit_if (Some v) flip out = unit (if flip then not v else v) out ∷ []

-- a fixed input has its value, and a reset its active value in the cycles below `live`
abbrev pub input_definition : Design → ℕ → ℕ → ℕ → List Definition
input_definition d live c i =
    unit_if (set_in d.fixed i) false (input_key d c i)
    ++ unit_if (set_in d.resets i) (not (nat_lt c live)) (input_key d c i)

-- a gate's net in a cycle is the gate's function of its pins
abbrev pub gate_definition : Coding → Design → ℕ → Gate → Definition
gate_definition coding d c g = plain coding (value g.func) (map (read_base d c) g.ins) (key c 0 0 g.out)

-- the literals of a register's pins, and where it reads its own bit of that
abbrev pub with_own : Reg → KeyLit → List KeyLit → List KeyLit
with_own reg own pins = pins ++ (if reads_own reg then own ∷ [] else [])

-- a register's bit in the cycle after this one is what it captures in this one
abbrev pub bit_definition : Coding → Design → ℕ → ℕ → Reg → Definition
bit_definition coding d c r reg =
    plain coding (reg_capture reg) (with_own reg (lit true (bit_key d c r)) (map (read_base d c) reg.ins)) (bit_key d (c + 1) r)

-- the definitions of a cycle itself: its inputs, its gates, and the register bits of the cycle after
abbrev pub base_definitions : Coding → Design → ℕ → ℕ → List Definition
base_definitions coding d live c =
    flat_map (input_definition d live c) (below (length d.inputs))
    ++ (map (gate_definition coding d c) d.gates ++ numbered (bit_definition coding d c) 0 d.regs)

-- a net has keys of its own in W(l) where it is moved there and isn't held
abbrev pub has_own : Claim → List (List Bool) → ℕ → ℕ → Bool
has_own claim moved l net = net_at false moved l net && not (is_in (Net net) (held_set claim.through l))

-- what the pins of gate k read on a rail of a formula layer
abbrev pub gate_reads : (d : Design) (claim : Claim) (moved : List (List Bool)) (c layer rail k : ℕ) (g : Gate) → List KeyLit
gate_reads d claim moved c layer rail k g = numbered (λ i n. read_pin d claim moved c layer rail (GateIn k i) n) 0 g.ins

-- the gate's net in a formula layer where it has keys of its own is the gate's function of its pins there
abbrev pub plain_gate : (coding : Coding) (d : Design) (claim : Claim) (moved : List (List Bool)) (c layer k : ℕ) (g : Gate) → Definition
plain_gate coding d claim moved c layer k g =
    plain coding (value g.func) (gate_reads d claim moved c layer 0 k g) (key c layer 0 g.out)

-- the same where hazards count
abbrev pub rails_gate : (coding : Coding) (d : Design) (claim : Claim) (moved : List (List Bool)) (c layer k : ℕ) (g : Gate) → Definition
rails_gate coding d claim moved c layer k g =
    rails coding (value g.func) (gate_reads d claim moved c layer 0 k g) (gate_reads d claim moved c layer 1 k g) (key c layer 0 g.out) (key c layer 1 g.out)

-- the definition of a gate's net in W(l), if it has one
abbrev pub layer_gate : Coding → Design → Claim → List (List Bool) → ℕ → ℕ → ℕ → Gate → List Definition
layer_gate coding d claim moved c l k g =
    if not (has_own claim moved l g.out) then []
    else (if claim.hazard then rails_gate coding d claim moved c (suc l) k g ∷ [] else plain_gate coding d claim moved c (suc l) k g ∷ [])

-- a net of the start may be 1 and may be 0 in W(0)
abbrev pub start_net : ℕ → ℕ → List Definition
start_net c n = unit true (key c 1 0 n) ∷ unit true (key c 1 1 n) ∷ []

-- so may each of them where hazards count
abbrev pub start_units : Design → Claim → ℕ → ℕ → List Definition
start_units d claim c zero =
    if claim.hazard then flat_map (start_net c) (filter (is_start_net d claim) (below d.nets)) else []
start_units d claim c (suc l) = []

-- the definitions of the gates' nets in W(l)
abbrev pub layer_gates : Coding → Design → Claim → List (List Bool) → ℕ → ℕ → List Definition
layer_gates coding d claim moved c l = flat_map (λ x. x) (numbered (layer_gate coding d claim moved c l) 0 d.gates)

-- the definitions of W(l): the start's nets, and the gates
abbrev pub layer_definitions : Coding → Design → Claim → List (List Bool) → ℕ → ℕ → List Definition
layer_definitions coding d claim moved c l =
    start_units d claim c l ++ layer_gates coding d claim moved c l

-- the key of what a register end captures over the last layer, on a rail
abbrev pub late_key : Design → Claim → ℕ → ℕ → Key
late_key d claim c rail = key c (length claim.through + 1) rail (d.nets + length d.regs)

-- what register r reads on a rail of the last layer: its own bit, shown by a literal of this sign, is what it is in the cycle
abbrev pub reg_reads : (d : Design) (claim : Claim) (moved : List (List Bool)) (c rail : ℕ) (own : Bool) (r : ℕ) (reg : Reg) → List KeyLit
reg_reads d claim moved c rail own r reg =
    with_own reg (lit own (bit_key d c r)) (numbered (λ i n. read_pin d claim moved c (length claim.through + 1) rail (RegIn r i) n) 0 reg.ins)

-- its late capture is what it captures of that
abbrev pub plain_reg : (coding : Coding) (d : Design) (claim : Claim) (moved : List (List Bool)) (c r : ℕ) (reg : Reg) → Definition
plain_reg coding d claim moved c r reg = plain coding (reg_capture reg) (reg_reads d claim moved c 0 true r reg) (late_key d claim c 0)

-- the same where hazards count
abbrev pub rails_reg : (coding : Coding) (d : Design) (claim : Claim) (moved : List (List Bool)) (c r : ℕ) (reg : Reg) → Definition
rails_reg coding d claim moved c r reg =
    rails coding (reg_capture reg) (reg_reads d claim moved c 0 true r reg) (reg_reads d claim moved c 1 false r reg)
    (late_key d claim c 0) (late_key d claim c 1)

-- the definition of the late capture of the register of this number, if there is one
abbrev pub late_reg : Coding → Design → Claim → List (List Bool) → ℕ → ℕ → Option Reg → List Definition
late_reg coding d claim moved c r None = []
late_reg coding d claim moved c r (Some reg) =
    if claim.hazard then rails_reg coding d claim moved c r reg ∷ [] else plain_reg coding d claim moved c r reg ∷ []

-- an end that is a register has a late capture; what an output captures is what its pin reads
abbrev pub end_definition : Coding → Design → Claim → List (List Bool) → ℕ → End → List Definition
end_definition coding d claim moved c (RegEnd r) = late_reg coding d claim moved c r (slice_get d.regs r)
end_definition coding d claim moved c (OutputEnd o) = []

-- the bit of a start in a cycle
abbrev pub start_lit : Design → Start → ℕ → KeyLit
start_lit d (RegStart r) c = lit true (bit_key d c r)
start_lit d (InputStart i) c = read_base d c (slice_index d.inputs i)

-- what an end captures in a cycle
abbrev pub capture_lit : Design → End → ℕ → KeyLit
capture_lit d (RegEnd r) c = lit true (bit_key d (c + 1) r)
capture_lit d (OutputEnd o) c = read_base d c (slice_index d.outputs o)

-- what the end captures on a rail where the start is late
abbrev pub late_capture_lit : Design → Claim → List (List Bool) → ℕ → ℕ → End → KeyLit
late_capture_lit d claim moved c rail (RegEnd r) = lit true (late_key d claim c rail)
late_capture_lit d claim moved c rail (OutputEnd o) = read_pin d claim moved c (length claim.through + 1) rail (OutPort o) (slice_index d.outputs o)

-- a further point of a cycle, by its number after the register bits
abbrev pub extra : Design → ℕ → ℕ → Key
extra d c i = key c 0 0 (d.nets + length d.regs + i)

-- the start's bit has changed from the cycle before, with the claim's edge
abbrev pub toggle_key : Design → ℕ → Key
toggle_key d c = extra d c 0

-- the end's capture differs from the one in the cycle before
abbrev pub change_key : Design → ℕ → Key
change_key d c = extra d c 1

-- the end's late capture differs from its capture, or may be either where hazards count
abbrev pub differ_key : Design → ℕ → Key
differ_key d c = extra d c 2

-- the start's bit differs from the one before a toggle r cycles ago, for r from 1
abbrev pub stale_key : Design → ℕ → ℕ → Key
stale_key d c r = extra d c (2 + r)

-- alternative a is the one that is chosen, of those by which the toggle in this cycle is a violation
abbrev pub bad_key : Design → ℕ → ℕ → Key
bad_key d c a = extra d c (20 + a)

-- z says that both may be
abbrev pub both : Key → KeyLit → KeyLit → Definition
both z x y =
    record { outs = z ∷ []; clauses = (lit false z ∷ x ∷ []) ∷ (lit false z ∷ y ∷ []) ∷ (lit true z ∷ opposite x ∷ opposite y ∷ []) ∷ [] }

-- whether the late capture differs: from the capture, or where hazards count it may be both
abbrev pub differ_definition : Design → Claim → List (List Bool) → ℕ → Definition
differ_definition d claim moved c =
    if claim.hazard then both (differ_key d c) (late_capture_lit d claim moved c 0 claim.end) (late_capture_lit d claim moved c 1 claim.end)
    else exclusive (differ_key d c) (late_capture_lit d claim moved c 0 claim.end) (capture_lit d claim.end c)

-- z says that y changes to x with this edge
abbrev pub edge_definition : Edge → Key → KeyLit → KeyLit → Definition
edge_definition Any z x y = exclusive z x y
edge_definition Rise z x y = both z x (opposite y)
edge_definition Fall z x y = both z (opposite x) y

-- whether the start toggles with this edge
abbrev pub toggle_definition : Design → Edge → Start → ℕ → Definition
toggle_definition d edge start c = edge_definition edge (toggle_key d c) (start_lit d start c) (start_lit d start (c - 1))

-- whether the capture changes
abbrev pub change_definition : Design → End → ℕ → Definition
change_definition d end c = exclusive (change_key d c) (capture_lit d end c) (capture_lit d end (c - 1))

-- whether the start's bit is another one than before a toggle r + 1 cycles ago
abbrev pub stale_definition : Design → Start → ℕ → ℕ → Definition
stale_definition d start c r = exclusive (stale_key d c (r + 1)) (start_lit d start c) (start_lit d start (c - r - 2))

-- those of a claim's later captures
abbrev pub stale_definitions : Design → Claim → ℕ → List Definition
stale_definitions d claim c = map (stale_definition d claim.start c) (below (judged_count claim - 1))

-- the definitions of the further points of a cycle, but for those of alternatives, which are free
abbrev pub extra_definitions : Design → Claim → List (List Bool) → ℕ → List Definition
extra_definitions d claim moved c =
    toggle_definition d claim.edge claim.start c
    ∷ change_definition d claim.end c
    ∷ differ_definition d claim moved c
    ∷ stale_definitions d claim c

-- those of all layers, from W(0) on
abbrev pub all_layers : Coding → Design → Claim → List (List Bool) → ℕ → List Definition
all_layers coding d claim moved c = flat_map (layer_definitions coding d claim moved c) (below (length claim.through + 1))

-- what a claim adds to a cycle: the layers from W(0) on, the late capture, and the further points
abbrev pub claim_definitions : Coding → Design → Claim → List (List Bool) → ℕ → List Definition
claim_definitions coding d claim moved c =
    all_layers coding d claim moved c ++ (end_definition coding d claim moved c claim.end ++ extra_definitions d claim moved c)
