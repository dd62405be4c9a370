-- The nets whose own keys of layer 0 stand in a formula: none of them is a register's output, so each key is what is read.
use Rattle.std.proofs.Common.{◌≡◌, ℕ, suc, ◌+◌, ◌<◌, Bool, true, not, List, [], ◌∷◌, length, Option, Some, None, refl, sym, arith, inl, inr, ◌⊎◌, subst}
use Rattle.std.specs.Prelude.{Contains, slice_get, slice_index, flat_map, nat_lt, if◌then◌else◌, ◌&&◌, filter}
use Rattle.std.proofs.lemmas.List.Elements.{Contains-get_or}
use Rattle.net_model.specs.Netlist.{IsSound, reg_nets, gate_nets, source_nets}
use Rattle.net_model.proofs.Order.{count_append, count_contains}
use Rattle.net_model.proofs.Members.{In, In-left, In-right, Contains-from_In, In-map}
use Rattle.net_model.specs.declared.netlist.Design.{Design}
use Rattle.net_model.specs.declared.netlist.Gate.{Gate}
use Rattle.net_model.specs.declared.netlist.Reg.{Reg}
use Rattle.net_model.specs.declared.netlist.RegOut.{RegOut}
use Rattle.query_model.specs.Keys.{key, lit}
use Rattle.query_model.specs.Reads.{bit_key, shown_in, bit_or, read_from, read_base}
use Rattle.net_model.specs.Queries.{Query, Question, Violates, Breaks}
use Rattle.query_model.specs.Formula.{asked_clauses, definitions, IsNeeded}
use Rattle.query_model.proofs.Told.{found_shown}
use Rattle.query_laws.proofs.Mentioned.{QuestionHas, needed_has}
use Rattle.query_model.proofs.Based.{placed, from_numbered}
use Rattle.query_model.specs.declared.keys.Key.{Key}
use Rattle.query_model.specs.declared.keys.KeyLit.{KeyLit}
use Rattle.query_model.specs.declared.keys.Coding.{Coding}

-- where the key is a net's own in layer 0, it is what is read for the net
abbrev pub OwnNet : Design → Key → Type 0
OwnNet d k = k.layer ≡ 0 → k.point < d.nets → read_base d k.cycle k.point ≡ lit true k

-- keys past the nets, and keys of the layers of a late start
past : (d : Design) (c i : ℕ) → OwnNet d (key c 0 0 (d.nets + i))
past d c i zero_layer low = absurd (omega arith)

higher : (d : Design) (c l rail n : ℕ) → OwnNet d (key c (suc l) rail n)
higher d c l rail n zero_layer low = absurd (omega arith)

-- what is read is a register's bit, or the net's own key
pub read_is : (d : Design) (c : ℕ) (regs : List Reg) (r n : ℕ) → ((s : Bool) × ((j : ℕ) × (read_from d c regs r n ≡ lit s (bit_key d c j)))) ⊎
    (read_from d c regs r n ≡ lit true (key c 0 0 n))
read_is d c [] r n = inr refl
read_is d c (reg ∷ regs) r n = by_shown (shown_in reg.outs n) (read_is d c regs (r + 1) n)
  where
    by_shown : (s : Option Bool) → ((b : Bool) × ((j : ℕ) × (read_from d c regs (r + 1) n ≡ lit b (bit_key d c j)))) ⊎
        (read_from d c regs (r + 1) n ≡ lit true (key c 0 0 n)) → ((b : Bool)
        × ((j : ℕ) × (bit_or d c r (read_from d c regs (r + 1) n) s ≡ lit b (bit_key d c j)))) ⊎
        (bit_or d c r (read_from d c regs (r + 1) n) s ≡ lit true (key c 0 0 n))
    by_shown None rest = rest
    by_shown (Some inverted) rest = inl (not inverted, (r, refl))

read_own : (d : Design) (c n : ℕ) → OwnNet d (read_base d c n).key
read_own d c n =
    elim (read_is d c d.regs 0 n) [
      | inl bit ↦ subst (λ (l : KeyLit). OwnNet d l.key) (sym bit.1.1) (past d c bit.1.0)
      | inr own ↦ subst (λ (l : KeyLit). OwnNet d l.key) (sym own) (λ zero_layer low. own)
    ]

-- a net that no register shows is read by its own key
unshown : (d : Design) (c : ℕ) (regs : List Reg) (r n : ℕ) → (In n (flat_map reg_nets regs) → ⊥) → read_from d c regs r n ≡ lit true (key c 0 0 n)
unshown d c [] r n none = refl
unshown d c (reg ∷ regs) r n none = by_shown (shown_in reg.outs n) refl
    (unshown d c regs (r + 1) n (λ has. none (In-right n (reg_nets reg) (flat_map reg_nets regs) has)))
  where
    by_shown : (s : Option Bool) → shown_in reg.outs n ≡ s → read_from d c regs (r + 1) n ≡ lit true (key c 0 0 n)
        → bit_or d c r (read_from d c regs (r + 1) n) s ≡ lit true (key c 0 0 n)
    by_shown None e rest = rest
    by_shown (Some inverted) e rest =
        let found = found_shown reg.outs n inverted e in
        let there = Rattle.query_model.proofs.Based.in_place found.1 reg.outs found.0 found.2 in
        absurd (none (In-left n (reg_nets reg) (flat_map reg_nets regs)
        (subst (λ m. In m (reg_nets reg)) found.3 (In-map (λ (o : RegOut). o.net) found.1 reg.outs there))))

-- an input's net and a gate's are no register's output, since each net has one driver
input_own : (d : Design) (c i : ℕ) → IsSound d → i < length d.inputs → OwnNet d (key c 0 0 (slice_index d.inputs i))
input_own d c i sound lt zero_layer low =
    let n = slice_index d.inputs i in
    unshown d c d.regs 0 n
    (λ has.
    let one = sound.one_driver n low in
    let of_input = count_contains n d.inputs (Contains-get_or d.inputs i 0 lt) in
    let of_reg = count_contains n (flat_map reg_nets d.regs) (Contains-from_In (flat_map reg_nets d.regs) n has) in
    absurd (omega (
      arith,
      one,
      of_input,
      of_reg,
      count_append (λ m. Rattle.std.specs.Prelude.nat_eq m n) (source_nets d) (gate_nets d.gates),
      count_append (λ m. Rattle.std.specs.Prelude.nat_eq m n) d.inputs (flat_map reg_nets d.regs),
    )))

gate_own : (d : Design) (c k : ℕ) (g : Gate) → IsSound d → slice_get d.gates k ≡ Some g → OwnNet d (key c 0 0 g.out)
gate_own d c k g sound at zero_layer low =
    let n = g.out in
    let there = Rattle.query_model.proofs.Based.in_place g d.gates k at in
    unshown d c d.regs 0 n
    (λ has.
    let one = sound.one_driver n low in
    let of_gate = count_contains n (gate_nets d.gates) (Contains-from_In (gate_nets d.gates) n (In-map (λ (h : Gate). h.out) g d.gates there)) in
    let of_reg = count_contains n (flat_map reg_nets d.regs) (Contains-from_In (flat_map reg_nets d.regs) n has) in
    absurd (omega (
      arith,
      one,
      of_gate,
      of_reg,
      count_append (λ m. Rattle.std.specs.Prelude.nat_eq m n) (source_nets d) (gate_nets d.gates),
      count_append (λ m. Rattle.std.specs.Prelude.nat_eq m n) d.inputs (flat_map reg_nets d.regs),
    )))

-- each needed key that is a net's own in layer 0 is what is read for that net
pub needed_own : (coding : Coding) (q : Query) (moved : List (List Bool)) (k : Key) → IsSound q.design → IsNeeded (definitions coding q moved)
    (asked_clauses q) k → OwnNet q.design k
needed_own coding q moved k sound needed =
    needed_has coding (OwnNet q.design) q moved k
    (record {
      past = past q.design;
      reads = read_own q.design;
      inputs = λ c i lt. input_own q.design c i sound lt;
      gates = λ c j g at. gate_own q.design c j g sound at;
    })
    (of_question q.question) needed
  where
    of_question : (w : Question) → QuestionHas (OwnNet q.design) q.design moved w
    of_question (Violates claim offset clean) =
        record {
          own = λ c l rail n own. higher q.design c l rail n;
          starts = λ c rail n is. higher q.design c 0 rail n;
          ends = λ c rail r is zero_layer low. absurd (omega arith);
        }
    of_question (Breaks clause) = tt
