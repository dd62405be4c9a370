-- Each choice of register bits and input bits has a settled cycle.
use Rattle.std.proofs.Common.{◌≡◌, ℕ, zero, suc, ◌+◌, ◌<◌, ◌≤◌, Bool, false, List, [], ◌∷◌, length, set, replicate, Some, refl, subst, ◌∙◌, arith, add-one}
use Rattle.std.specs.Prelude.{Contains, slice_get, flat_map, take}
use Rattle.std.proofs.lemmas.List.{length-replicate}
use Rattle.std.proofs.lemmas.List.Elements.{Contains-append_left}
use Rattle.std.proofs.lemmas.Option.{slice_get_within, slice_get-get_or}
use Rattle.net_model.specs.Form.{value}
use Rattle.net_model.specs.FormLaws.{value_agrees}
use Rattle.net_model.specs.Netlist.{IsSound, reg_nets}
use Rattle.net_model.specs.Rows.{pins_of}
use Rattle.net_model.specs.Cycles.{bit_at, shown, IsSettled}
use Rattle.net_model.proofs.Settling.{GatesDone, gates_more}
use Rattle.net_model.proofs.Sources.{InputsDone, inputs_more, RegDone, reg_more, RegsShown, regs_more, ShowsBit}
use Rattle.net_model.proofs.Unique.{settled_made}
use Rattle.net_model.specs.declared.netlist.Design.{Design}
use Rattle.net_model.specs.declared.netlist.Reg.{Reg}

-- a place below the length has an item
pub item_at : {X : Type 0} (xs : List X) (k : ℕ) → k < length xs → (x : X) × (slice_get xs k ≡ Some x)
item_at [] k lt = absurd (omega arith)
item_at (x ∷ xs) zero lt = (x, refl)
item_at (x ∷ xs) (suc k) lt = item_at xs k (omega arith)

inputs_exist : (d : Design) (ins : List Bool) (k : ℕ) → IsSound d → length ins ≡ length d.inputs → k ≤ length d.inputs → (nets : List Bool)
    × InputsDone d ins nets k
inputs_exist d ins zero sound same le =
    (replicate d.nets false, record { len = length-replicate d.nets false; shown = λ j lt. absurd (omega arith) })
inputs_exist d ins (suc k) sound same le =
    let more = inputs_exist d ins k sound same (omega arith) in
    let net = item_at d.inputs k (omega arith) in
    let bit = item_at ins k (omega arith) in
    (set more.0 net.0 bit.0, subst (InputsDone d ins (set more.0 net.0 bit.0)) (add-one k) (inputs_more d ins more.0 k net.0 bit.0 sound net.1 bit.1 more.1))

outs_exist : (d : Design) (r : ℕ) (reg : Reg) (bit : Bool) (start : List Bool) (o : ℕ) → IsSound d → slice_get d.regs r ≡ Some reg
    → length start ≡ d.nets → o ≤ length reg.outs → (nets : List Bool) × RegDone d r reg.outs bit start nets o
outs_exist d r reg bit start zero sound at len le =
    (start, record { len = len; kept = λ n has. refl; shown = λ p lt. absurd (omega arith) })
outs_exist d r reg bit start (suc o) sound at len le =
    let more = outs_exist d r reg bit start o sound at len (omega arith) in
    let out = item_at reg.outs o (omega arith) in (
      set more.0 out.0.net (shown out.0 bit),
      subst (RegDone d r reg.outs bit start (set more.0 out.0.net (shown out.0 bit))) (add-one o)
          (reg_more d r reg bit start more.0 o out.0 (shown out.0 bit) sound at out.1 refl more.1),
    )

-- the first r registers show their bits, and the input nets are as at the start
record AreRegsPut (d : Design) (bits start nets : List Bool) (r : ℕ) : Type 0 where
  len : length nets ≡ d.nets
  kept : (n : ℕ) → Contains d.inputs n → bit_at nets n ≡ bit_at start n
  shown : RegsShown d bits nets r

one_more_reg : (d : Design) (bits start nets next : List Bool) (r : ℕ) (reg : Reg) → slice_get d.regs r ≡ Some reg → AreRegsPut d bits start nets r
    → RegDone d r reg.outs (bit_at bits r) nets next (length reg.outs) → AreRegsPut d bits start next (r + 1)
one_more_reg d bits start nets next r reg at put done =
    record {
      len = done.len;
      kept = λ n has. done.kept n (Contains-append_left d.inputs (flat_map reg_nets (take r d.regs)) n has) ∙ put.kept n has;
      shown =
          regs_more d bits nets next r done.kept
          (λ other there.
          let same : reg ≡ other = cc in
          subst (ShowsBit next (bit_at bits r)) same (λ k o within. done.shown k within _ (slice_get-get_or reg.outs k o within)))
          put.shown;
    }

regs_exist : (d : Design) (bits start : List Bool) (r : ℕ) → IsSound d → length start ≡ d.nets → r ≤ length d.regs → (nets : List Bool)
    × AreRegsPut d bits start nets r
regs_exist d bits start zero sound len le =
    (start, record { len = len; kept = λ n has. refl; shown = λ q lt. absurd (omega arith) })
regs_exist d bits start (suc r) sound len le =
    let more = regs_exist d bits start r sound len (omega arith) in
    let reg = item_at d.regs r (omega arith) in
    let done = outs_exist d r reg.0 (bit_at bits r) more.0 (length reg.0.outs) sound reg.1 more.1.len (omega arith) in
    (done.0, subst (AreRegsPut d bits start done.0) (add-one r) (one_more_reg d bits start more.0 done.0 r reg.0 reg.1 more.1 done.1))

gates_exist : (d : Design) (start : List Bool) (k : ℕ) → IsSound d → length start ≡ d.nets → k ≤ length d.gates → (nets : List Bool)
    × GatesDone value false d start nets k
gates_exist d start zero sound len le =
    (start, record { len = len; sources = λ n has. refl; gates = λ j lt. absurd (omega arith) })
gates_exist d start (suc k) sound len le =
    let more = gates_exist d start k sound len (omega arith) in
    let gate = item_at d.gates k (omega arith) in
    let bit = value gate.0.func (pins_of false gate.0.ins more.0) in (
      set more.0 gate.0.out bit,
      subst (GatesDone value false d start (set more.0 gate.0.out bit)) (add-one k)
          (gates_more value value_agrees false d start more.0 k gate.0 bit sound gate.1 refl more.1),
    )

-- each choice of bits and inputs has a settled cycle
pub settled_exists : (d : Design) (bits ins : List Bool) → IsSound d → length bits ≡ length d.regs → length ins ≡ length d.inputs → (nets : List Bool)
    × IsSettled d (record { bits = bits; ins = ins; nets = nets })
settled_exists d bits ins sound some_bits some_ins =
    let first = inputs_exist d ins (length d.inputs) sound some_ins (omega arith) in
    let second = regs_exist d bits first.0 (length d.regs) sound first.1.len (omega arith) in
    let third = gates_exist d second.0 (length d.gates) sound second.1.len (omega arith) in (
      third.0,
      settled_made d bits ins first.0 second.0 third.0 some_bits some_ins third.1.len first.1.shown second.1.kept
          (λ r reg at. second.1.shown r (slice_get_within d.regs r reg at) reg at)
          third.1.sources
          (λ k g at. third.1.gates k (slice_get_within d.gates k g at) g at),
    )
