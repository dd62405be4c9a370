-- Literals of captures.
use Rattle.std.proofs.Common.{◌≡◌, ℕ, ◌<◌, ◌≤◌, ◌+◌, ◌-◌, Bool, List, [], ◌∷◌, ◌++◌, length, Some, refl, ap, sym, ◌∙◌, subst, arith, inl, inr, below_more}
use Rattle.std.specs.Prelude.{slice_get, slice_index}
use Rattle.std.proofs.lemmas.Bool.{cases_lt, cases_eq, cond_below, cond_above}
use Rattle.std.proofs.lemmas.List.{get_or_append_left, get_or-append_right}
use Rattle.net_model.specs.Args.{arg_at}
use Rattle.net_model.specs.Form.{Form, value}
use Rattle.net_model.specs.Netlist.{IsSound, IsRegInRange, AllBelow}
use Rattle.net_model.specs.Mentions.{IsRegOver}
use Rattle.net_model.specs.Cycles.{bit_at, capture, reg_capture, gate_pins, reg_pins}
use Rattle.net_model.proofs.Settling.{All-at}
use Rattle.net_model.proofs.RegCaptures.{capture_agrees, IsOptionOver-weaker}
use Rattle.net_model.specs.FormLaws.{IsOver-weaker}
use Rattle.net_model.specs.declared.arguments.Args.{Args}
use Rattle.net_model.specs.declared.netlist.Design.{Design}
use Rattle.net_model.specs.declared.netlist.Reg.{Reg}
use Rattle.net_model.specs.declared.cycles.Cycle.{Cycle}
use Rattle.net_model.specs.declared.claims.End.TheVariants.{Reg as RegEnd}
use Rattle.and_graphs.specs.Graphs.{IsIn, Means, Keeps, Lowers, bit_of}
use Rattle.and_graphs.specs.declared.graphs.AndGraph.{AndGraph}
use Rattle.and_graphs.proofs.Growing.{means_same, keeps_on}
use Rattle.claim_monitor.specs.Shown.{AreIn, AreLiteralsFor, shown_row, shown_cycle}
use Rattle.claim_monitor.specs.Captured.{AreRegLiterals, LowersCapture, AreCaptureLiterals}
use Rattle.claim_monitor.specs.declared.cycle_literals.Literals.{Literals}
use Rattle.claim_monitor.proofs.Showing.{means_self, shown_kept, shown_bit, AreIn-kept, zero_in}
use Rattle.claim_monitor.proofs.NetLits.{net_in, net_bit}

-- the literal of the function that a register captures
pub capture_lowered : (old new : AndGraph) (reg : Reg) (func : Form) (args : Args ℕ) (l : ℕ)
    → ((pins : ℕ → Bool) → value func pins ≡ reg_capture reg pins) → Lowers old args func new l → LowersCapture old args reg new l
capture_lowered old new reg func args l same lowers f means =
    means_same new l (λ x. value func (λ i. f i x)) (λ x. reg_capture reg (λ i. f i x)) (λ x len. same (λ i. f i x)) (lowers f means)

-- the literal of a capture whose first n places have literals with these bits
pub lowered_capture : (old new : AndGraph) (reg : Reg) (n : ℕ) (args : Args ℕ) (l : ℕ) (pins : List Bool → ℕ → Bool) → Keeps old new → IsRegOver n reg
    → ((i : ℕ) → i < 7 → IsIn old (arg_at args i))
    → ((x : List Bool) (i : ℕ) → length x ≡ old.front → i < n → bit_of old x (arg_at args i) ≡ pins x i) → LowersCapture old args reg new l
    → Means new l (λ x. reg_capture reg (pins x))
lowered_capture old new reg n args l pins keeps over here same lowers =
    means_same new l (λ x. reg_capture reg (λ i. bit_of old x (arg_at args i))) (λ x. reg_capture reg (pins x))
    (λ x len. capture_agrees reg n (λ i. bit_of old x (arg_at args i)) (pins x) over.next over.clear over.preset
    (λ i low. same x i (len ∙ keeps.front) low))
    (lowers (λ i x. bit_of old x (arg_at args i)) (λ i low. means_self old (arg_at args i) (here i low)))

-- the places of a register are literals of the graph
pub reg_places_in : (g : AndGraph) (ins nets : List ℕ) (own : ℕ) (args : Args ℕ) → AllBelow (length nets) ins → AreIn g nets → IsIn g own
    → AreRegLiterals ins nets own args → (i : ℕ) → i < 7 → IsIn g (arg_at args i)
reg_places_in g ins nets own args below all own_in are i low =
    elim (cases_lt i (length ins)) [
      | inl within ↦ rw (are.pins i within) (net_in g nets (slice_index ins i) (below i 0 within) all)
      | inr past ↦ elim (cases_eq i (length ins)) [
        | inl here ↦ rw (here, are.own) own_in
        | inr apart ↦ rw (are.rest i (omega arith) low) (zero_in g)
      ]
    ]

-- they show what the register reads
pub reg_place_bit : (g : AndGraph) (x : List Bool) (ins nets : List ℕ) (own : ℕ) (args : Args ℕ) → AllBelow (length nets) ins
    → AreRegLiterals ins nets own args → (i : ℕ) → i < length ins + 1
    → bit_of g x (arg_at args i) ≡ reg_pins ins (shown_row g x nets) (bit_of g x own) i
reg_place_bit g x ins nets own args below are i low =
    elim (cases_lt i (length ins)) [
      | inl within ↦
          ap (bit_of g x) (are.pins i within) ∙ (net_bit g x nets (slice_index ins i) (below i 0 within)
          ∙ cond_below i (length ins) (gate_pins ins (shown_row g x nets) i) (bit_of g x own) within)
      | inr past ↦
          let here : i ≡ length ins = omega arith in
          ap (bit_of g x) (ap (arg_at args) here ∙ are.own)
          ∙ cond_above i (length ins) (gate_pins ins (shown_row g x nets) i) (bit_of g x own) (bit_of g x own) past refl
    ]

pub reg_over : (d : Design) (r : ℕ) (reg : Reg) → IsSound d → slice_get d.regs r ≡ Some reg → IsRegOver (length reg.ins + 1) reg
reg_over d r reg sound at =
    let range = All-at (IsRegInRange d) d.regs r reg at sound.in_range.regs in
    record { next = range.next; clear = range.clear; preset = range.preset }

pub reg_over_seven : (d : Design) (r : ℕ) (reg : Reg) → IsSound d → slice_get d.regs r ≡ Some reg → IsRegOver 7 reg
reg_over_seven d r reg sound at =
    let range = All-at (IsRegInRange d) d.regs r reg at sound.in_range.regs in
    let few : length reg.ins + 1 ≤ 7 = omega (arith, range.few) in
    record {
      next = IsOver-weaker (length reg.ins + 1) 7 reg.next few range.next;
      clear = IsOptionOver-weaker (length reg.ins + 1) 7 reg.clear few range.clear;
      preset = IsOptionOver-weaker (length reg.ins + 1) 7 reg.preset few range.preset;
    }

-- the literal of a register's capture
pub next_means : (old new : AndGraph) (d : Design) (ls : Literals) (r : ℕ) (reg : Reg) (own : ℕ) (args : Args ℕ) (l : ℕ) → IsSound d
    → slice_get d.regs r ≡ Some reg → slice_get ls.bits r ≡ Some own → Keeps old new → AreLiteralsFor old d ls → AreRegLiterals reg.ins ls.nets own args
    → LowersCapture old args reg new l → Means new l (λ x. capture d (RegEnd r) (shown_cycle old x ls))
next_means old new d ls r reg own args l sound at bit keeps literals are lowers =
    let range = All-at (IsRegInRange d) d.regs r reg at sound.in_range.regs in
    let below : AllBelow (length ls.nets) reg.ins = subst (λ (n : ℕ). AllBelow n reg.ins) (sym literals.nets) range.ins in
    let own_in = All-at (IsIn old) ls.bits r own bit literals.in_bits in
    rw at (means_same new l (λ x. reg_capture reg (reg_pins reg.ins (shown_row old x ls.nets) (bit_of old x own)))
    (λ x. reg_capture reg (reg_pins reg.ins (shown_row old x ls.nets) (bit_at (shown_row old x ls.bits) r)))
    (λ x len. ap (λ (b : Bool). reg_capture reg (reg_pins reg.ins (shown_row old x ls.nets) b)) (sym (shown_bit old x ls.bits r own bit)))
    (lowered_capture old new reg (length reg.ins + 1) args l (λ x. reg_pins reg.ins (shown_row old x ls.nets) (bit_of old x own)) keeps
    (reg_over d r reg sound at) (reg_places_in old reg.ins ls.nets own args below literals.in_nets own_in are)
    (λ x i len low. reg_place_bit old x reg.ins ls.nets own args below are i low) lowers))

-- literals of a graph are those of each that keeps it
pub literals_kept : (old new : AndGraph) (d : Design) (ls : Literals) → Keeps old new → AreLiteralsFor old d ls → AreLiteralsFor new d ls
literals_kept old new d ls keeps literals =
    record {
      bits = literals.bits;
      ins = literals.ins;
      nets = literals.nets;
      in_bits = AreIn-kept old new ls.bits keeps literals.in_bits;
      in_ins = AreIn-kept old new ls.ins keeps literals.in_ins;
      in_nets = AreIn-kept old new ls.nets keeps literals.in_nets;
    }

-- and they show the same cycle
pub cycle_kept : (old new : AndGraph) (d : Design) (x : List Bool) (ls : Literals) → Keeps old new → AreLiteralsFor old d ls → length x ≡ new.front
    → shown_cycle new x ls ≡ shown_cycle old x ls
cycle_kept old new d x ls keeps literals len =
    let bits = shown_kept old new x ls.bits keeps literals.in_bits len in
    let ins = shown_kept old new x ls.ins keeps literals.in_ins len in
    let nets = shown_kept old new x ls.nets keeps literals.in_nets len in
    let made : List Bool → List Bool → List Bool → Cycle = λ a b c. record { bits = a; ins = b; nets = c } in
    ap (λ (a : List Bool). made a (shown_row new x ls.ins) (shown_row new x ls.nets)) bits
    ∙ (ap (λ (b : List Bool). made (shown_row old x ls.bits) b (shown_row new x ls.nets)) ins
    ∙ ap (λ (c : List Bool). made (shown_row old x ls.bits) (shown_row old x ls.ins) c) nets)

-- the literals of the first k captures
pub record NextsDone (d : Design) (ls : Literals) (first : AndGraph) (g : AndGraph) (nexts : List ℕ) (k : ℕ) : Type 0 where
  pub keeps : Keeps first g
  pub count : length nexts ≡ k
  pub each : (r : ℕ) → r < k → Means g (slice_index nexts r) (λ x. capture d (RegEnd r) (shown_cycle first x ls))

pub nexts_none : (d : Design) (ls : Literals) (g : AndGraph) → NextsDone d ls g g [] 0
nexts_none d ls g =
    record { keeps = record { front = refl; ordered = λ o. o; means = λ l f m. m }; count = refl; each = λ r low. absurd (omega arith) }

pub nexts_more : (d : Design) (ls : Literals) (first old new : AndGraph) (nexts : List ℕ) (k l : ℕ) → Keeps old new → AreLiteralsFor first d ls
    → Means new l (λ x. capture d (RegEnd k) (shown_cycle old x ls)) → NextsDone d ls first old nexts k → NextsDone d ls first new (nexts ++ l ∷ []) (k + 1)
nexts_more d ls first old new nexts k l keeps literals means done =
    record {
      keeps = keeps_on first old new done.keeps keeps;
      count = more nexts l ∙ ap (λ (n : ℕ). n + 1) done.count;
      each =
          below_more (λ r. Means new (slice_index (nexts ++ l ∷ []) r) (λ x. capture d (RegEnd r) (shown_cycle first x ls))) k
          (λ r low. let within : r < length nexts = let count = done.count in omega arith in
          rw (get_or_append_left nexts (l ∷ []) 0 r within) (keeps.means (slice_index nexts r) (λ x. capture d (RegEnd r) (shown_cycle first x ls)) (done.each r low)))
          (rw (last nexts l k done.count) (means_same new l (λ x. capture d (RegEnd k) (shown_cycle old x ls)) (λ x. capture d (RegEnd k) (shown_cycle first x ls))
          (λ x len. ap (capture d (RegEnd k)) (cycle_kept first old d x ls done.keeps literals (len ∙ keeps.front))) means));
    }
  where
    more : (xs : List ℕ) (x : ℕ) → length (xs ++ x ∷ []) ≡ length xs + 1
    more [] x = refl
    more (y ∷ xs) x = let go = more xs x in omega arith

    last : (xs : List ℕ) (x k : ℕ) → length xs ≡ k → slice_index (xs ++ x ∷ []) k ≡ x
    last xs x k at = let e : k - k ≡ 0 = omega arith in get_or-append_right xs (x ∷ []) k k 0 at (omega arith) ∙ ap (slice_index (x ∷ [])) e

pub nexts_all : (d : Design) (ls : Literals) (first g : AndGraph) (nexts : List ℕ) (k : ℕ) → k ≡ length d.regs → AreLiteralsFor first d ls
    → NextsDone d ls first g nexts k → AreCaptureLiterals g d ls nexts
nexts_all d ls first g nexts k all literals done =
    record {
      count = done.count ∙ all;
      each = λ r low. means_same g (slice_index nexts r) (λ x. capture d (RegEnd r) (shown_cycle first x ls))
          (λ x. capture d (RegEnd r) (shown_cycle g x ls))
          (λ x len. ap (capture d (RegEnd r)) (sym (cycle_kept first g d x ls done.keeps literals len))) (done.each r (omega arith));
    }
