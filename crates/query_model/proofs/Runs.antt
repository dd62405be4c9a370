-- The base definitions of a run: its bits make them true, and what they make of the needed keys is its bits.
use Rattle.std.proofs.Common.{length-append, ◌≡◌, ℕ, ◌+◌, ◌-◌, ◌<◌, ◌≤◌, Bool, true, false, not, cond, List, [], ◌∷◌, ◌++◌, map, length, Option, Some}
use Rattle.std.proofs.Common.{None, refl, ap, sym, ◌∙◌, arith}
use Rattle.std.specs.Prelude.{All, slice_get, ◌||◌}
use Rattle.std.proofs.lemmas.List.{length-map}
use Rattle.net_model.specs.Form.{value, IsOver}
use Rattle.net_model.specs.FormLaws.{IsOver-weaker}
use Rattle.net_model.specs.Completions.{ReadsOnly, value_reads}
use Rattle.net_model.specs.Netlist.{IsSound, IsGateInRange, IsRegInRange, IsOptionOver}
use Rattle.net_model.specs.Cycles.{bit_at, gate_pins, reg_pins, reg_capture, value_if_any, capture, IsSettled, IsNext, HasFixed, HasResets, IsLinked}
use Rattle.net_model.proofs.Settling.{All-at}
use Rattle.net_model.specs.declared.netlist.Design.{Design}
use Rattle.net_model.specs.declared.netlist.Gate.{Gate}
use Rattle.net_model.specs.declared.netlist.Reg.{Reg}
use Rattle.net_model.specs.declared.cycles.Cycle.{Cycle}
use Rattle.net_model.specs.declared.claims.End.TheVariants.{Reg as RegEnd}
use Rattle.query_model.specs.Keys.{key, lit, AllTrue}
use Rattle.query_model.specs.Tables.{on_list}
use Rattle.query_model.specs.Reads.{bit_key, read_base}
use Rattle.net_model.specs.Mentions.{reads_own}
use Rattle.query_model.specs.Defined.{Definition, covering, gate_definition, bit_definition, with_own}
use Rattle.net_model.proofs.Members.{In}
use Rattle.query_model.proofs.Tabled.{Covers, says_plain, rows_cover}
use Rattle.query_model.proofs.Told.{LitTells, TellEach, BitsTell, ReadTells, reads_tell, values_told, plain_gives}
use Rattle.query_model.proofs.Celled.{on_gate, on_reg, own_bits, tell_own}
use Rattle.query_model.specs.declared.keys.Key.{Key}
use Rattle.query_model.specs.declared.keys.KeyLit.{KeyLit}
use Rattle.query_model.specs.declared.keys.Coding.{Coding}
use Rattle.query_model.specs.declared.keys.Coding.TheVariants.{Rows}

-- the register bits of a cycle of a run, and of the one after its last
abbrev pub state_bit : Design → Option Cycle → Option Cycle → ℕ → Bool
state_bit d before (Some c) r = bit_at c.bits r
state_bit d (Some c) None r = capture d (RegEnd r) c
state_bit d None None r = false

abbrev pub bits_of : Design → List Cycle → ℕ → ℕ → Bool
bits_of d run t r = state_bit d (slice_get run (t - 1)) (slice_get run t) r

pub now_bits : (d : Design) (run : List Cycle) (t : ℕ) (c : Cycle) (r : ℕ) → slice_get run t ≡ Some c → bits_of d run t r ≡ bit_at c.bits r
now_bits d run t c r at = ap (λ (o : Option Cycle). state_bit d (slice_get run (t - 1)) o r) at

pub next_bits : (d : Design) (run : List Cycle) (t : ℕ) (c : Cycle) (r : ℕ) → IsLinked d run → slice_get run t ≡ Some c → r < length d.regs
    → bits_of d run (t + 1) r ≡ capture d (RegEnd r) c
next_bits d run t c r linked at within = by_next (slice_get run (t + 1)) refl where
  by_next : (o : Option Cycle) → slice_get run (t + 1) ≡ o → bits_of d run (t + 1) r ≡ capture d (RegEnd r) c
  by_next (Some next) e = now_bits d run (t + 1) next r e ∙ linked.next t c next at e r within
  by_next None e =
      let back : t + 1 - 1 ≡ t = omega arith in
      let before : slice_get run (t + 1 - 1) ≡ Some c = ap (slice_get run) back ∙ at in
      ap (λ (o : Option Cycle). state_bit d (slice_get run (t + 1 - 1)) o r) e ∙ ap (λ (o : Option Cycle). state_bit d o None r) before

-- the keys of a kind tell the bits of a run
pub record Told (kind : Key → Type 0) (v : Key → Bool) (d : Design) (run : List Cycle) : Type 0 where
  pub nets : (t : ℕ) (c : Cycle) → slice_get run t ≡ Some c → (n : ℕ) → n < d.nets → ReadTells kind v d t (bit_at c.nets) n
  pub bits : (t : ℕ) → t ≤ length run → BitsTell kind v d t (bits_of d run t)

-- a coding whose cubes cover each cell of at most seven places
abbrev pub CodingCovers : Coding → Type 0
CodingCovers coding =
    (cell : (ℕ → Bool) → Bool) (places : ℕ) → places ≤ 7 → ReadsOnly 7 cell → Covers cell places (covering coding cell places)

pub rows_coding : CodingCovers Rows
rows_coding cell places few reads = rows_cover cell places

abbrev pub AnyKey : Key → Type 0
AnyKey k = Unit {0}

-- definitions of keys of the kind are true, and have no other keys
pub record Forces (kind : Key → Type 0) (v : Key → Bool) (defs : List Definition) : Type 0 where
  pub clauses : (def : Definition) (out : Key) → In def defs → In out def.outs → kind out → AllTrue v def.clauses
  pub closed : (def : Definition) (out : Key) → In def defs → In out def.outs → kind out → (c : List KeyLit) (l : KeyLit) → In c def.clauses → In l c
      → kind l.key

-- units
pub unit_true : (v : Key → Bool) (value : Bool) (k : Key) → v k ≡ value → AllTrue v ((lit value k ∷ []) ∷ [])
unit_true v true k e = (ap (λ (b : Bool). b || false) e, tt)
unit_true v false k e = (ap (λ (b : Bool). not b || false) e, tt)

or_false : (b : Bool) → (b || false) ≡ b
or_false true = refl
or_false false = refl

not_is : (b : Bool) → not b ≡ true → b ≡ false
not_is true e = sym e
not_is false e = refl

pub unit_says : (v : Key → Bool) (value : Bool) (k : Key) → AllTrue v ((lit value k ∷ []) ∷ []) → v k ≡ value
unit_says v true k all = sym (or_false (v k)) ∙ all.0
unit_says v false k all = not_is (v k) (sym (or_false (not (v k))) ∙ all.0)

-- gates
gate_cell : (d : Design) (k : ℕ) (g : Gate) → IsSound d → slice_get d.gates k ≡ Some g → (length (map (read_base d k) g.ins) ≤ 7) × ReadsOnly 7 (value g.func)
gate_cell d k g sound at =
    let range = All-at (IsGateInRange d) d.gates k g at sound.in_range.gates in (
      omega (arith, length-map g.ins (read_base d k), range.few),
      value_reads 7 g.func
          (IsOver-weaker (length g.ins) 7 g.func (omega (arith, range.few)) range.func),
    )

gate_covers : (coding : Coding) (d : Design) (t k : ℕ) (g : Gate) → CodingCovers coding → IsSound d → slice_get d.gates k ≡ Some g
    → Covers (value g.func) (length (map (read_base d t) g.ins)) (covering coding (value g.func) (length (map (read_base d t) g.ins)))
gate_covers coding d t k g covers sound at =
    let range = All-at (IsGateInRange d) d.gates k g at sound.in_range.gates in
    covers (value g.func) (length (map (read_base d t) g.ins)) (omega (arith, length-map g.ins (read_base d t), range.few))
    (value_reads 7 g.func (IsOver-weaker (length g.ins) 7 g.func (omega (arith, range.few)) range.func))

pub gate_true : (coding : Coding) (v : Key → Bool) (d : Design) (t k : ℕ) (g : Gate) (c : Cycle) → CodingCovers coding → IsSound d → IsSettled d c
    → slice_get d.gates k ≡ Some g → v (key t 0 0 g.out) ≡ bit_at c.nets g.out → All (ReadTells AnyKey v d t (bit_at c.nets)) g.ins
    → AllTrue v (gate_definition coding d t g).clauses
gate_true coding v d t k g c covers sound settled at out tell =
    let range = All-at (IsGateInRange d) d.gates k g at sound.in_range.gates in
    let reads = map (read_base d t) g.ins in
    let told = values_told AnyKey v (λ j. tt) reads (map (bit_at c.nets) g.ins) (reads_tell AnyKey v d t (bit_at c.nets) g.ins tell) in
    says_plain v (value g.func) reads (lit true (key t 0 0 g.out)) (covering coding (value g.func) (length reads)) (gate_covers coding d t k g covers sound at)
    (out ∙ settled.gates k g at ∙ sym (on_gate g.func g.ins c.nets range.func) ∙ ap (on_list (value g.func)) (sym told))

pub gate_told : (coding : Coding) (kind : Key → Type 0) (v : Key → Bool) (d : Design) (t k : ℕ) (g : Gate) (c : Cycle) → CodingCovers coding
    → IsSound d → IsSettled d c → slice_get d.gates k ≡ Some g → All (ReadTells kind v d t (bit_at c.nets)) g.ins
    → AllTrue v (gate_definition coding d t g).clauses → ((cl : List KeyLit) (l : KeyLit) → In cl (gate_definition coding d t g).clauses → In l cl
    → kind l.key) → v (key t 0 0 g.out) ≡ bit_at c.nets g.out
gate_told coding kind v d t k g c covers sound settled at tell all has =
    let range = All-at (IsGateInRange d) d.gates k g at sound.in_range.gates in
    let reads = map (read_base d t) g.ins in
    plain_gives kind v (value g.func) reads (map (bit_at c.nets) g.ins) (lit true (key t 0 0 g.out)) (covering coding (value g.func) (length reads))
    (gate_covers coding d t k g covers sound at)
    (reads_tell kind v d t (bit_at c.nets) g.ins tell) all has
    ∙ on_gate g.func g.ins c.nets range.func ∙ sym (settled.gates k g at)

-- registers
if_any_reads : (o : Option Rattle.net_model.specs.Form.Form) (n : ℕ) → n ≤ 7 → IsOptionOver n o → ReadsOnly 7 (value_if_any o)
if_any_reads None n le over a b same = refl
if_any_reads (Some f) n le over a b same = value_reads 7 f (IsOver-weaker n 7 f le over) a b same

pub capture_reads : (d : Design) (reg : Reg) → IsRegInRange d reg → ReadsOnly 7 (reg_capture reg)
capture_reads d reg range a b same =
    let n = length reg.ins + 1 in
    let few : n ≤ 7 = omega (arith, range.few) in
    let next = value_reads 7 reg.next (IsOver-weaker n 7 reg.next few range.next) a b same in
    let clear = if_any_reads reg.clear n few range.clear a b same in
    let preset = if_any_reads reg.preset n few range.preset a b same in
    cc

pub own_short : (b : Bool) (own : KeyLit) (ls : List KeyLit) (n : ℕ) → length ls ≤ n → length (ls ++ cond b (own ∷ []) []) ≤ n + 1
own_short true own ls n le = omega (arith, length-append ls (own ∷ []), le)
own_short false own ls n le = omega (arith, length-append ls [], le)

abbrev pub reg_reads : Design → ℕ → ℕ → Reg → List KeyLit
reg_reads d t r reg = with_own reg (lit true (bit_key d t r)) (map (read_base d t) reg.ins)

reg_covers : (coding : Coding) (d : Design) (t r : ℕ) (reg : Reg) → CodingCovers coding → IsSound d → slice_get d.regs r ≡ Some reg
    → Covers (reg_capture reg) (length (reg_reads d t r reg)) (covering coding (reg_capture reg) (length (reg_reads d t r reg)))
reg_covers coding d t r reg covers sound at =
    let range = All-at (IsRegInRange d) d.regs r reg at sound.in_range.regs in
    let short : length (reg_reads d t r reg) ≤ 6 + 1 =
    own_short (reads_own reg) (lit true (bit_key d t r)) (map (read_base d t) reg.ins) 6 (omega (arith, length-map reg.ins (read_base d t), range.few)) in
    covers (reg_capture reg) (length (reg_reads d t r reg)) (omega arith) (capture_reads d reg range)

pub captured : (d : Design) (c : Cycle) (r : ℕ) (reg : Reg) → slice_get d.regs r ≡ Some reg → capture d (RegEnd r) c ≡ reg_capture reg
    (reg_pins reg.ins c.nets (bit_at c.bits r))
captured d c r reg at = ap (λ (o : Option Reg). Rattle.net_model.specs.Cycles.reg_capture_in c r o) at

reg_tells : (kind : Key → Type 0) (v : Key → Bool) (d : Design) (t r : ℕ) (reg : Reg) (c : Cycle) → All (ReadTells kind v d t (bit_at c.nets)) reg.ins
    → LitTells kind v (lit true (bit_key d t r)) (bit_at c.bits r) → TellEach kind v (reg_reads d t r reg)
    (own_bits reg (bit_at c.bits r) (map (bit_at c.nets) reg.ins))
reg_tells kind v d t r reg c pins own =
    tell_own kind v reg (lit true (bit_key d t r)) (bit_at c.bits r) (map (read_base d t) reg.ins) (map (bit_at c.nets) reg.ins) own
    (reads_tell kind v d t (bit_at c.nets) reg.ins pins)

pub bit_true : (coding : Coding) (v : Key → Bool) (d : Design) (t r : ℕ) (reg : Reg) (c : Cycle) → CodingCovers coding → IsSound d
    → slice_get d.regs r ≡ Some reg → v (bit_key d (t + 1) r) ≡ capture d (RegEnd r) c → All (ReadTells AnyKey v d t (bit_at c.nets)) reg.ins
    → v (bit_key d t r) ≡ bit_at c.bits r → AllTrue v (bit_definition coding d t r reg).clauses
bit_true coding v d t r reg c covers sound at out pins own =
    let range = All-at (IsRegInRange d) d.regs r reg at sound.in_range.regs in
    let reads = reg_reads d t r reg in
    let bits = own_bits reg (bit_at c.bits r) (map (bit_at c.nets) reg.ins) in
    let told = values_told AnyKey v (λ j. tt) reads bits (reg_tells AnyKey v d t r reg c pins (λ any. own)) in
    says_plain v (reg_capture reg) reads (lit true (bit_key d (t + 1) r)) (covering coding (reg_capture reg) (length reads))
    (reg_covers coding d t r reg covers sound at)
    (out ∙ captured d c r reg at ∙ sym (on_reg d reg c.nets (bit_at c.bits r) range) ∙ ap (on_list (reg_capture reg)) (sym told))

pub bit_told : (coding : Coding) (kind : Key → Type 0) (v : Key → Bool) (d : Design) (t r : ℕ) (reg : Reg) (c : Cycle) → CodingCovers coding
    → IsSound d → slice_get d.regs r ≡ Some reg → All (ReadTells kind v d t (bit_at c.nets)) reg.ins → LitTells kind v (lit true (bit_key d t r))
    (bit_at c.bits r) → AllTrue v (bit_definition coding d t r reg).clauses
    → ((cl : List KeyLit) (l : KeyLit) → In cl (bit_definition coding d t r reg).clauses → In l cl → kind l.key) → v (bit_key d (t + 1) r) ≡ capture d
    (RegEnd r) c
bit_told coding kind v d t r reg c covers sound at pins own all has =
    let range = All-at (IsRegInRange d) d.regs r reg at sound.in_range.regs in
    let reads = reg_reads d t r reg in
    let bits = own_bits reg (bit_at c.bits r) (map (bit_at c.nets) reg.ins) in
    plain_gives kind v (reg_capture reg) reads bits (lit true (bit_key d (t + 1) r)) (covering coding (reg_capture reg) (length reads))
    (reg_covers coding d t r reg covers sound at)
    (reg_tells kind v d t r reg c pins own) all has
    ∙ on_reg d reg c.nets (bit_at c.bits r) range ∙ sym (captured d c r reg at)
