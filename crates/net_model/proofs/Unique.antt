-- Two settled cycles with the same bits and inputs are the same.
use Rattle.std.proofs.Common.{◌≡◌, ℕ, zero, suc, ◌<◌, ◌≤◌, Bool, true, false, cond, List, [], ◌∷◌, map, length, take, get_or, Some, refl, ap, subst}
use Rattle.std.proofs.Common.{sym, ◌∙◌, arith, inl, inr, below_more}
use Rattle.std.specs.Prelude.{Contains, count_by, slice_get, slice_index, ◌==◌, flat_map}
use Rattle.std.proofs.lemmas.List.{same_lists, get_or_default}
use Rattle.std.proofs.lemmas.Option.{slice_get_within, get_or_from_slice_get}
use Rattle.std.proofs.lemmas.Bool.{eqb-true}
use Rattle.std.proofs.lemmas.List.Elements.{Contains-append_cases, Contains-append_left, Contains-append_right, Contains-get_or}
use Rattle.net_model.specs.Form.{value}
use Rattle.net_model.specs.FormLaws.{value_agrees}
use Rattle.net_model.specs.Rows.{AreGatesSettled}
use Rattle.net_model.specs.Netlist.{IsSound, IsGateInRange, source_nets, gate_nets, driven_nets, reg_nets}
use Rattle.net_model.specs.Cycles.{bit_at, shown, gate_pins, IsSettled}
use Rattle.net_model.proofs.Order.{before, count_cons}
use Rattle.net_model.proofs.Settling.{All-at}
use Rattle.net_model.proofs.Sources.{net_of, ShowsBit, out_contains, flat_has}
use Rattle.net_model.specs.declared.netlist.Design.{Design}
use Rattle.net_model.specs.declared.netlist.Gate.{Gate}
use Rattle.net_model.specs.declared.netlist.Reg.{Reg}
use Rattle.net_model.specs.declared.netlist.RegOut.{RegOut}
use Rattle.net_model.specs.declared.cycles.Cycle.{Cycle}

first_or : (n x : ℕ) (xs : List ℕ) → (1 ≤ count_by (λ m. m == n) xs → Contains xs n) → 1 ≤ count_by (λ m. m == n) (x ∷ xs) → (b : Bool) → (x == n) ≡ b
    → Contains (x ∷ xs) n
first_or n x xs later h true e = (0, omega arith, eqb-true x n e)
first_or n x xs later h false e =
    let rest = count_cons (λ m. m == n) x xs in
    let none = ap (λ (b : Bool). cond {A = ℕ} b 1 0) e in
    Contains-append_right (x ∷ []) xs n (later (omega arith))

-- what is counted stands in the list
pub counted_contains : (n : ℕ) (xs : List ℕ) → 1 ≤ count_by (λ m. m == n) xs → Contains xs n
counted_contains n [] h = absurd (omega arith)
counted_contains n (x ∷ xs) h = first_or n x xs (counted_contains n xs) h (x == n) refl

-- an element of a mapped list comes from a place
pub from_taken : {X : Type 0} (f : X → ℕ) (xs : List X) (k : ℕ) (n : ℕ) → Contains (map f (take k xs)) n → (j : ℕ) × (x : X) × (j < k)
    × (slice_get xs j ≡ Some x) × (f x ≡ n)
from_taken f xs zero n has = absurd (omega (arith, has.1))
from_taken f [] (suc k) n has = absurd (omega (arith, has.1))
from_taken f (x ∷ xs) (suc k) n (zero, within, same) = (0, x, omega arith, refl, same)
from_taken f (x ∷ xs) (suc k) n (suc i, within, same) =
    let more = from_taken f xs k n (i, omega arith, same) in
    (suc more.0, more.1, omega (arith, more.2), more.3, more.4)

pub from_whole : {X : Type 0} (f : X → ℕ) (xs : List X) (n : ℕ) → Contains (map f xs) n → (j : ℕ) × (x : X) × (slice_get xs j ≡ Some x) × (f x ≡ n)
from_whole f [] n has = absurd (omega (arith, has.1))
from_whole f (x ∷ xs) n (zero, within, same) = (0, x, refl, same)
from_whole f (x ∷ xs) n (suc i, within, same) =
    let more = from_whole f xs n (i, omega arith, same) in (suc more.0, more.1, more.2, more.3)

pub from_flat : {X : Type 0} (f : X → List ℕ) (xs : List X) (n : ℕ) → Contains (flat_map f xs) n → (j : ℕ) × (x : X) × (slice_get xs j ≡ Some x)
    × Contains (f x) n
from_flat f [] n has = absurd (omega (arith, has.1))
from_flat f (x ∷ xs) n has =
    elim (Contains-append_cases (f x) (flat_map f xs) n has) [
      | inl here ↦ (0, x, refl, here)
      | inr later ↦ let more = from_flat f xs n later in (suc more.0, more.1, more.2, more.3)
    ]

-- two rows agree at each net that is driven from a list
abbrev pub Agree : List ℕ → List Bool → List Bool → Type 0
Agree nets a b = (n : ℕ) → Contains nets n → bit_at a n ≡ bit_at b n

pub sources_agree : (d : Design) (a b : Cycle) → IsSettled d a → IsSettled d b → a.bits ≡ b.bits → a.ins ≡ b.ins → Agree (source_nets d) a.nets b.nets
sources_agree d a b s t bits ins n has =
    elim (Contains-append_cases d.inputs (flat_map reg_nets d.regs) n has) [
      | inl here ↦
          let at : slice_index d.inputs here.0 ≡ n = get_or_default d.inputs here.0 0 n here.1 ∙ here.2 in
          let l = s.inputs here.0 here.1 in
          let r = t.inputs here.0 here.1 in
          cc
      | inr later ↦
          let reg = from_flat reg_nets d.regs n later in
          let out = from_whole net_of reg.1.outs n reg.3 in
          let at : get_or reg.1.outs out.0 out.1 ≡ out.1 = get_or_from_slice_get reg.1.outs out.0 out.1 out.1 out.2 in
          let l = subst (λ (o : RegOut). bit_at a.nets o.net ≡ shown o (bit_at a.bits reg.0)) at
          (s.regs reg.0 reg.1 reg.2 out.0 out.1 (slice_get_within reg.1.outs out.0 out.1 out.2)) in
          let r = subst (λ (o : RegOut). bit_at b.nets o.net ≡ shown o (bit_at b.bits reg.0)) at
          (t.regs reg.0 reg.1 reg.2 out.0 out.1 (slice_get_within reg.1.outs out.0 out.1 out.2)) in
          let same : shown out.1 (bit_at a.bits reg.0) ≡ shown out.1 (bit_at b.bits reg.0) = ap (λ (xs : List Bool). shown out.1 (bit_at xs reg.0)) bits in
          subst (λ m. bit_at a.nets m ≡ bit_at b.nets m) out.3 (l ∙ (same ∙ sym r))
    ]

-- what is driven before a gate agrees, where the earlier gates do
pub net_agrees : (d : Design) (a b : Cycle) → Agree (source_nets d) a.nets b.nets → (k : ℕ)
    → ((j : ℕ) → j < k → (g : Gate) → slice_get d.gates j ≡ Some g → bit_at a.nets g.out ≡ bit_at b.nets g.out) → Agree (before d k) a.nets b.nets
net_agrees d a b sources k below n has =
    elim (Contains-append_cases (source_nets d) (gate_nets (take k d.gates)) n has) [
      | inl here ↦ sources n here
      | inr later ↦
          let gate = from_taken (λ (g : Gate). g.out) d.gates k n later in
          subst (λ m. bit_at a.nets m ≡ bit_at b.nets m) gate.4 (below gate.0 gate.2 gate.1 gate.3)
    ]

pub gate_agrees : (d : Design) (a b : Cycle) → IsSound d → IsSettled d a → IsSettled d b → Agree (source_nets d) a.nets b.nets → (k : ℕ)
    → ((j : ℕ) → j < k → (g : Gate) → slice_get d.gates j ≡ Some g → bit_at a.nets g.out ≡ bit_at b.nets g.out) → (h : Gate)
    → slice_get d.gates k ≡ Some h → bit_at a.nets h.out ≡ bit_at b.nets h.out
gate_agrees d a b sound s t sources k below h here =
    s.gates k h here
    ∙ (value_agrees h.func (length h.ins) (gate_pins h.ins a.nets) (gate_pins h.ins b.nets)
    (All-at (IsGateInRange d) d.gates k h here sound.in_range.gates).func
    (λ i within. net_agrees d a b sources k below (slice_index h.ins i) (sound.in_order k h here i 0 within))
    ∙ sym (t.gates k h here))

pub gates_agree : (d : Design) (a b : Cycle) → IsSound d → IsSettled d a → IsSettled d b → Agree (source_nets d) a.nets b.nets → (k : ℕ) → (j : ℕ)
    → j < k → (g : Gate) → slice_get d.gates j ≡ Some g → bit_at a.nets g.out ≡ bit_at b.nets g.out
gates_agree d a b sound s t sources zero j lt g at = absurd (omega arith)
gates_agree d a b sound s t sources (suc k) j lt g at =
    below_more (λ i. (h : Gate) → slice_get d.gates i ≡ Some h → bit_at a.nets h.out ≡ bit_at b.nets h.out) k
    (gates_agree d a b sound s t sources k)
    (λ h here. gate_agrees d a b sound s t sources k (gates_agree d a b sound s t sources k) h here)
    j (omega arith) g at

-- the nets of settled cycles with the same bits and inputs are the same
pub settled_once : (d : Design) (a b : Cycle) → IsSound d → IsSettled d a → IsSettled d b → a.bits ≡ b.bits → a.ins ≡ b.ins → a.nets ≡ b.nets
settled_once d a b sound s t bits ins =
    let sources = sources_agree d a b s t bits ins in
    let same_len : length a.nets ≡ length b.nets = s.shape.nets ∙ sym t.shape.nets in
    same_lists a.nets b.nets same_len
    (λ n o within.
    let driven = counted_contains n (driven_nets d) (omega (arith, sound.one_driver n (omega (arith, s.shape.nets)))) in
    let agree : bit_at a.nets n ≡ bit_at b.nets n =
    elim (Contains-append_cases (source_nets d) (gate_nets d.gates) n driven) [
      | inl here ↦ sources n here
      | inr later ↦
          let gate = from_whole (λ (g : Gate). g.out) d.gates n later in
          let agrees = gates_agree d a b sound s t sources (length d.gates) gate.0 (slice_get_within d.gates gate.0 gate.1 gate.2) gate.1 gate.2 in
          subst (λ m. bit_at a.nets m ≡ bit_at b.nets m) gate.3 agrees
    ] in
    get_or_default a.nets n o false within ∙ (agree ∙ get_or_default b.nets n false o (omega arith)))

pub cycles_same : (a b : Cycle) → a.bits ≡ b.bits → a.ins ≡ b.ins → a.nets ≡ b.nets → a ≡ b
cycles_same a b bits ins nets =
    let made : List Bool → List Bool → List Bool → Cycle = λ x y z. record { bits = x; ins = y; nets = z } in
    ap (λ (x : List Bool). made x a.ins a.nets) bits
    ∙ (ap (λ (y : List Bool). made b.bits y a.nets) ins ∙ ap (λ (z : List Bool). made b.bits b.ins z) nets)

pub settled_same : (d : Design) (a b : Cycle) → IsSound d → IsSettled d a → IsSettled d b → a.bits ≡ b.bits → a.ins ≡ b.ins → a ≡ b
settled_same d a b sound s t bits ins = cycles_same a b bits ins (settled_once d a b sound s t bits ins)

-- inputs, registers and gates that are put one after another are settled
pub settled_made : (d : Design) (bits ins first second nets : List Bool) → length bits ≡ length d.regs → length ins ≡ length d.inputs
    → length nets ≡ d.nets → ((i : ℕ) → i < length d.inputs → bit_at first (slice_index d.inputs i) ≡ bit_at ins i) → Agree d.inputs second first
    → ((r : ℕ) (reg : Reg) → slice_get d.regs r ≡ Some reg → ShowsBit second (bit_at bits r) reg) → Agree (source_nets d) nets second
    → AreGatesSettled value false d.gates nets → IsSettled d (record { bits = bits; ins = ins; nets = nets })
settled_made d bits ins first second nets some_bits some_ins some_nets inputs kept regs sources gates =
    record {
      shape = record { bits = some_bits; ins = some_ins; nets = some_nets };
      inputs = λ i within.
          let has = Contains-get_or d.inputs i 0 within in
          sources (slice_index d.inputs i) (Contains-append_left d.inputs (flat_map reg_nets d.regs) (slice_index d.inputs i) has)
          ∙ (kept (slice_index d.inputs i) has ∙ inputs i within);
      regs = λ r reg at k o within.
          sources (get_or reg.outs k o).net (Contains-append_right d.inputs (flat_map reg_nets d.regs) (get_or reg.outs k o).net
          (flat_has reg_nets d.regs r reg (get_or reg.outs k o).net at (out_contains reg.outs k o within)))
          ∙ regs r reg at k o within;
      gates = gates;
    }
