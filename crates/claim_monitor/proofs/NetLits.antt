-- The literals of nets that are written so far, and one more.
use Rattle.std.proofs.Common.{◌≡◌, ℕ, ◌<◌, ◌+◌, Bool, false, List, length, set, Some, refl, ap, sym, ◌∙◌, subst, arith}
use Rattle.std.proofs.Common.{length-set, inl, inr}
use Rattle.std.specs.Prelude.{slice_get, slice_index}
use Rattle.std.proofs.lemmas.Bool.{cases_lt}
use Rattle.std.proofs.lemmas.List.Elements.{All-set, All-get_or}
use Rattle.std.proofs.lemmas.Option.{slice_get-get_or}
use Rattle.net_model.specs.Args.{arg_at}
use Rattle.net_model.specs.Form.{Form, value, IsOver}
use Rattle.net_model.specs.FormLaws.{value_agrees}
use Rattle.net_model.specs.Netlist.{IsSound, AllBelow}
use Rattle.net_model.specs.Rows.{pins_of}
use Rattle.net_model.specs.Cycles.{bit_at, shown}
use Rattle.net_model.proofs.Sources.{InputsDone, inputs_more, RegDone, reg_more}
use Rattle.net_model.proofs.Settling.{GatesDone, gates_more, All-at}
use Rattle.net_model.specs.declared.netlist.Design.{Design}
use Rattle.net_model.specs.declared.netlist.Gate.{Gate}
use Rattle.net_model.specs.declared.netlist.Reg.{Reg}
use Rattle.net_model.specs.declared.netlist.RegOut.{RegOut}
use Rattle.net_model.specs.declared.arguments.Args.{Args}
use Rattle.and_graphs.specs.Graphs.{IsIn, Means, Keeps, Lowers, bit_of}
use Rattle.and_graphs.specs.declared.graphs.AndGraph.{AndGraph}
use Rattle.claim_monitor.specs.Shown.{AreIn, ArePinLiterals, shown_row}
use Rattle.claim_monitor.proofs.Showing.{shown_at, shown_bit, shown_set, shown_kept, length-shown_row, means_self, AreIn-kept, zero_in}
use Rattle.and_graphs.proofs.Growing.{means_same, keeps_on}

-- the first k inputs show their literals
pub record InputNetsDone (d : Design) (ins start nets : List ℕ) (k : ℕ) : Type 0 where
  pub len : length nets ≡ d.nets
  pub in_ : (g : AndGraph) → AreIn g ins → AreIn g start → AreIn g nets
  pub bits : (g : AndGraph) (x : List Bool) → InputsDone d (shown_row g x ins) (shown_row g x nets) k

pub input_nets_none : (d : Design) (ins nets : List ℕ) → length nets ≡ d.nets → InputNetsDone d ins nets nets 0
input_nets_none d ins nets len =
    record { len = len; in_ = λ g of all. all; bits = λ g x. record { len = length-shown_row g x nets ∙ len; shown = λ j low. absurd (omega arith) } }

pub input_nets_more : (d : Design) (ins start nets : List ℕ) (k m l : ℕ) → IsSound d → slice_get d.inputs k ≡ Some m → slice_get ins k ≡ Some l
    → InputNetsDone d ins start nets k → InputNetsDone d ins start (set nets m l) (k + 1)
input_nets_more d ins start nets k m l sound at there done =
    record {
      len = length-set nets m l ∙ done.len;
      in_ = λ g of all. All-set (IsIn g) nets m l (All-at (IsIn g) ins k l there of) (done.in_ g of all);
      bits = λ g x.
          subst (λ (row : List Bool). InputsDone d (shown_row g x ins) row (k + 1)) (sym (shown_set g x nets m l))
          (inputs_more d (shown_row g x ins) (shown_row g x nets) k m (bit_of g x l) sound at (shown_at g x ins k l there) (done.bits g x));
    }

-- the first outputs of a register show its literal, and what is driven before is as at the start
pub record RegNetsDone (d : Design) (r : ℕ) (outs : List RegOut) (bit : ℕ) (start nets : List ℕ) (o : ℕ) : Type 0 where
  pub len : length nets ≡ d.nets
  pub in_ : (g : AndGraph) → IsIn g bit → AreIn g start → AreIn g nets
  pub bits : (g : AndGraph) (x : List Bool) → IsIn g bit → length x ≡ g.front
      → RegDone d r outs (bit_of g x bit) (shown_row g x start) (shown_row g x nets) o

pub reg_nets_none : (d : Design) (r : ℕ) (outs : List RegOut) (bit : ℕ) (nets : List ℕ) → length nets ≡ d.nets → RegNetsDone d r outs bit nets nets 0
reg_nets_none d r outs bit nets len =
    record {
      len = len;
      in_ = λ g of all. all;
      bits = λ g x of same. record { len = length-shown_row g x nets ∙ len; kept = λ n has. refl; shown = λ p low. absurd (omega arith) };
    }

pub reg_nets_more : (d : Design) (r : ℕ) (reg : Reg) (bit : ℕ) (start nets : List ℕ) (o l : ℕ) (out : RegOut) → IsSound d → slice_get d.regs r ≡ Some reg
    → slice_get reg.outs o ≡ Some out → ((g : AndGraph) (f : List Bool → Bool) → Means g bit f → Means g l (λ x. shown out (f x)))
    → RegNetsDone d r reg.outs bit start nets o → RegNetsDone d r reg.outs bit start (set nets out.net l) (o + 1)
reg_nets_more d r reg bit start nets o l out sound at there means done =
    record {
      len = length-set nets out.net l ∙ done.len;
      in_ = λ g of all. All-set (IsIn g) nets out.net l (means g (λ x. bit_of g x bit) (means_self g bit of)).here (done.in_ g of all);
      bits = λ g x of same.
          subst (λ (row : List Bool). RegDone d r reg.outs (bit_of g x bit) (shown_row g x start) row (o + 1)) (sym (shown_set g x nets out.net l))
          (reg_more d r reg (bit_of g x bit) (shown_row g x start) (shown_row g x nets) o out (bit_of g x l) sound at there
          ((means g (λ y. bit_of g y bit) (means_self g bit of)).bit x same) (done.bits g x of same));
    }

-- a net's literal
pub net_in : (g : AndGraph) (nets : List ℕ) (n : ℕ) → n < length nets → AreIn g nets → IsIn g (slice_index nets n)
net_in g nets n low all = All-get_or (IsIn g) nets n 0 low all

pub net_bit : (g : AndGraph) (x : List Bool) (nets : List ℕ) (n : ℕ) → n < length nets → bit_of g x (slice_index nets n) ≡ bit_at (shown_row g x nets) n
net_bit g x nets n low = sym (shown_bit g x nets n (slice_index nets n) (slice_get-get_or nets n 0 low))

-- the literal of a function whose first n places have literals with these bits
pub lowered : (old new : AndGraph) (form : Form) (n : ℕ) (args : Args ℕ) (l : ℕ) (pins : List Bool → ℕ → Bool) → Keeps old new → IsOver n form
    → ((i : ℕ) → i < 7 → IsIn old (arg_at args i))
    → ((x : List Bool) (i : ℕ) → length x ≡ old.front → i < n → bit_of old x (arg_at args i) ≡ pins x i) → Lowers old args form new l
    → Means new l (λ x. value form (pins x))
lowered old new form n args l pins keeps over here same lowers =
    means_same new l (λ x. value form (λ i. bit_of old x (arg_at args i))) (λ x. value form (pins x))
    (λ x len. value_agrees form n (λ i. bit_of old x (arg_at args i)) (pins x) over (λ i low. same x i (len ∙ keeps.front) low))
    (lowers (λ i x. bit_of old x (arg_at args i)) (λ i low. means_self old (arg_at args i) (here i low)))

-- the literals of pins
pub pins_in : (g : AndGraph) (ins nets : List ℕ) (args : Args ℕ) → AllBelow (length nets) ins → AreIn g nets → ArePinLiterals ins nets args → (i : ℕ) → i < 7
    → IsIn g (arg_at args i)
pins_in g ins nets args below all are i low =
    elim (cases_lt i (length ins)) [
      | inl within ↦ rw (are.pins i within) (net_in g nets (slice_index ins i) (below i 0 within) all)
      | inr past ↦ rw (are.rest i past low) (zero_in g)
    ]

pub pin_bit : (g : AndGraph) (x : List Bool) (ins nets : List ℕ) (args : Args ℕ) → AllBelow (length nets) ins → ArePinLiterals ins nets args → (i : ℕ)
    → i < length ins → bit_of g x (arg_at args i) ≡ pins_of false ins (shown_row g x nets) i
pin_bit g x ins nets args below are i within = rw (are.pins i within) (net_bit g x nets (slice_index ins i) (below i 0 within))

-- the literal of a gate's output
pub gate_means : (old new : AndGraph) (gate : Gate) (nets : List ℕ) (args : Args ℕ) (l : ℕ) → Keeps old new → AllBelow (length nets) gate.ins
    → IsOver (length gate.ins) gate.func → AreIn old nets → ArePinLiterals gate.ins nets args → Lowers old args gate.func new l
    → Means new l (λ x. value gate.func (pins_of false gate.ins (shown_row old x nets)))
gate_means old new gate nets args l keeps below over all are lowers =
    lowered old new gate.func (length gate.ins) args l (λ x. pins_of false gate.ins (shown_row old x nets)) keeps over
    (pins_in old gate.ins nets args below all are) (λ x i len within. pin_bit old x gate.ins nets args below are i within) lowers

-- the first k gates are settled
pub record GateNetsDone (d : Design) (first : AndGraph) (start : List ℕ) (g : AndGraph) (nets : List ℕ) (k : ℕ) : Type 0 where
  pub keeps : Keeps first g
  pub len : length nets ≡ d.nets
  pub in_ : AreIn g nets
  pub bits : (x : List Bool) → length x ≡ g.front → GatesDone value false d (shown_row g x start) (shown_row g x nets) k

pub gate_nets_none : (d : Design) (g : AndGraph) (nets : List ℕ) → length nets ≡ d.nets → AreIn g nets → GateNetsDone d g nets g nets 0
gate_nets_none d g nets len all =
    record {
      keeps = record { front = refl; ordered = λ o. o; means = λ l f m. m };
      len = len;
      in_ = all;
      bits = λ x same. record { len = length-shown_row g x nets ∙ len; sources = λ n has. refl; gates = λ j lt. absurd (omega arith) };
    }

pub gate_nets_more : (d : Design) (first : AndGraph) (start : List ℕ) (old new : AndGraph) (nets : List ℕ) (k l : ℕ) (gate : Gate) → IsSound d
    → slice_get d.gates k ≡ Some gate → AreIn first start → Keeps old new
    → Means new l (λ x. value gate.func (pins_of false gate.ins (shown_row old x nets))) → GateNetsDone d first start old nets k
    → GateNetsDone d first start new (set nets gate.out l) (k + 1)
gate_nets_more d first start old new nets k l gate sound at of_start keeps means done =
    record {
      keeps = keeps_on first old new done.keeps keeps;
      len = length-set nets gate.out l ∙ done.len;
      in_ = All-set (IsIn new) nets gate.out l means.here (AreIn-kept old new nets keeps done.in_);
      bits = λ x len.
          let before : length x ≡ old.front = len ∙ keeps.front in
          let same : shown_row new x nets ≡ shown_row old x nets = shown_kept old new x nets keeps done.in_ len in
          let same_start : shown_row new x start ≡ shown_row old x start =
          shown_kept old new x start keeps (AreIn-kept first old start done.keeps of_start) len in
          let bit : bit_of new x l ≡ value gate.func (pins_of false gate.ins (shown_row old x nets)) = means.bit x len in
          let row : shown_row new x (set nets gate.out l) ≡ set (shown_row old x nets) gate.out (bit_of new x l) =
          shown_set new x nets gate.out l ∙ ap (λ (r : List Bool). set r gate.out (bit_of new x l)) same in
          rw (row, same_start) (gates_more value value_agrees false d (shown_row old x start) (shown_row old x nets) k gate (bit_of new x l) sound at bit
          (done.bits x before));
    }
