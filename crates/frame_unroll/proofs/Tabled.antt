-- What the tables of a design say of the places that count.
use Rattle.std.proofs.Common.{◌≡◌, ◌+◌, ◌∙◌, ℕ, zero, suc, Bool, true, false, cond, List, [], ◌∷◌, ◌++◌, length, map, take, Some, ap, sym, subst, arith}
use Rattle.std.specs.Prelude.{slice_get}
use Rattle.std.proofs.lemmas.List.{length-append, length-map}
use Rattle.net_model.specs.Form.{value}
use Rattle.net_model.specs.Cycles.{reg_capture}
use Rattle.net_model.specs.Mentions.{reads_own}
use Rattle.net_model.specs.declared.netlist.Design.{Design}
use Rattle.net_model.specs.declared.netlist.Gate.{Gate}
use Rattle.net_model.specs.declared.netlist.Reg.{Reg}
use Rattle.net_model.specs.declared.claims.Claim.{Claim}
use Rattle.net_model.specs.declared.claims.PinRef.TheVariants.{GateIn, RegIn}
use Rattle.query_model.specs.Keys.{lit}
use Rattle.query_model.specs.Reads.{bit_key, read_base, read_pin}
use Rattle.query_model.specs.Defined.{numbered, with_own, gate_reads, reg_reads}
use Rattle.query_model.proofs.Lists.{length-numbered}
use Rattle.query_model.specs.declared.keys.KeyLit.{KeyLit}
use Rattle.frame_unroll.specs.Counting.{counted, marked}
use Rattle.frame_unroll.specs.Counted.{gate_marks, reg_marks, capture_places}
use Rattle.frame_unroll.specs.Tabled.{CodedDesign}
use Rattle.frame_unroll.specs.Sites.{bit_reads}
use Rattle.frame_unroll.proofs.Marks.{length-marks, marked_counted}

-- what a table says of a gate of the design
gate_says : (t : CodedDesign) (d : Design) (k : ℕ) (g : Gate) (ms : List Bool) → t.design ≡ d → slice_get d.gates k ≡ Some g
    → ((h : Gate) → slice_get t.design.gates k ≡ Some h → ms ≡ gate_marks t.coding h) → ms ≡ gate_marks t.coding g
gate_says t d k g ms same at says = says g (subst (λ (e : Design). slice_get e.gates k ≡ Some g) (sym same) at)

pub gate_long : (t : CodedDesign) (d : Design) (k : ℕ) (g : Gate) (ms : List Bool) (reads : List KeyLit) → t.design ≡ d → slice_get d.gates k ≡ Some g
    → ((h : Gate) → slice_get t.design.gates k ≡ Some h → ms ≡ gate_marks t.coding h) → length reads ≡ length g.ins → length ms ≡ length reads
gate_long t d k g ms reads same at says long =
    ap length (gate_says t d k g ms same at says) ∙ length-marks t.coding (value g.func) (length g.ins) ∙ sym long

pub gate_counted : (t : CodedDesign) (d : Design) (k : ℕ) (g : Gate) (ms : List Bool) (reads : List KeyLit) → t.design ≡ d → slice_get d.gates k ≡ Some g
    → ((h : Gate) → slice_get t.design.gates k ≡ Some h → ms ≡ gate_marks t.coding h) → length reads ≡ length g.ins
    → marked ms reads ≡ counted t.coding (value g.func) reads
gate_counted t d k g ms reads same at says long =
    ap (λ (xs : List Bool). marked xs reads) (gate_says t d k g ms same at says) ∙ marked_counted t.coding (value g.func) reads (length g.ins) (sym long)

-- the places of a register's capture are those of its pins and of its own bit
pub length-own : (reg : Reg) (own : KeyLit) (pins : List KeyLit) → length pins ≡ length reg.ins → length (with_own reg own pins) ≡ capture_places reg
length-own reg own pins long = by (reads_own reg)
  where
    by : (b : Bool) → length (pins ++ cond b (own ∷ []) []) ≡ length reg.ins + cond b 1 0
    by true = omega (arith, length-append pins (own ∷ []), long)
    by false = omega (arith, length-append pins [], long)

-- as much is read on each rail: of a gate, of a register in a cycle, and of its late capture
pub length-gate_reads : (d : Design) (claim : Claim) (moved : List (List Bool)) (c layer rail k : ℕ) (g : Gate)
    → length (gate_reads d claim moved c layer rail k g) ≡ length g.ins
length-gate_reads d claim moved c layer rail k g = length-numbered (λ i n. read_pin d claim moved c layer rail (GateIn k i) n) 0 g.ins

pub length-bit_reads : (d : Design) (c r : ℕ) (reg : Reg) → length (bit_reads d c r reg) ≡ capture_places reg
length-bit_reads d c r reg = length-own reg (lit true (bit_key d c r)) (map (read_base d c) reg.ins) (length-map reg.ins (read_base d c))

pub length-reg_reads : (d : Design) (claim : Claim) (moved : List (List Bool)) (c rail : ℕ) (own : Bool) (r : ℕ) (reg : Reg)
    → length (reg_reads d claim moved c rail own r reg) ≡ capture_places reg
length-reg_reads d claim moved c rail own r reg =
    let read : ℕ → ℕ → KeyLit = λ i n. read_pin d claim moved c (length claim.through + 1) rail (RegIn r i) n in
    length-own reg (lit own (bit_key d c r)) (numbered read 0 reg.ins) (length-numbered read 0 reg.ins)

-- what a table says of a register of the design
reg_says : (t : CodedDesign) (d : Design) (r : ℕ) (reg : Reg) (ms : List Bool) → t.design ≡ d → slice_get d.regs r ≡ Some reg
    → ((h : Reg) → slice_get t.design.regs r ≡ Some h → ms ≡ reg_marks t.coding h) → ms ≡ reg_marks t.coding reg
reg_says t d r reg ms same at says = says reg (subst (λ (e : Design). slice_get e.regs r ≡ Some reg) (sym same) at)

pub reg_long : (t : CodedDesign) (d : Design) (r : ℕ) (reg : Reg) (ms : List Bool) (reads : List KeyLit) → t.design ≡ d → slice_get d.regs r ≡ Some reg
    → ((h : Reg) → slice_get t.design.regs r ≡ Some h → ms ≡ reg_marks t.coding h) → length reads ≡ capture_places reg → length ms ≡ length reads
reg_long t d r reg ms reads same at says long =
    ap length (reg_says t d r reg ms same at says) ∙ length-marks t.coding (reg_capture reg) (capture_places reg) ∙ sym long

pub reg_counted : (t : CodedDesign) (d : Design) (r : ℕ) (reg : Reg) (ms : List Bool) (reads : List KeyLit) → t.design ≡ d → slice_get d.regs r ≡ Some reg
    → ((h : Reg) → slice_get t.design.regs r ≡ Some h → ms ≡ reg_marks t.coding h) → length reads ≡ capture_places reg
    → marked ms reads ≡ counted t.coding (reg_capture reg) reads
reg_counted t d r reg ms reads same at says long =
    ap (λ (xs : List Bool). marked xs reads) (reg_says t d r reg ms same at says)
    ∙ marked_counted t.coding (reg_capture reg) reads (capture_places reg) (sym long)

-- one more item of a list
pub mapped_take : {X A : Type 0} (f : X → A) (xs : List X) (k : ℕ) (x : X) → slice_get xs k ≡ Some x → map f (take (k + 1) xs) ≡ map f (take k xs) ++ f x ∷ []
mapped_take f [] k x at = absurd cc
mapped_take {X} {A} f (y ∷ ys) zero x at = let is : y ≡ x = cc in ap (λ (z : X). f z ∷ []) is
mapped_take {X} {A} f (y ∷ ys) (suc k) x at =
    let next : suc k + 1 ≡ suc (k + 1) = omega arith in
    ap (λ n. map f (take n (y ∷ ys))) next ∙ ap (λ (zs : List A). f y ∷ zs) (mapped_take f ys k x at)
