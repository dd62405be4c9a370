-- A behaviour of two registers beside a memory that is cut out, which drives 1 in cycle 1 alone, and its run of three cycles.
use Rattle.std.proofs.Common.{◌≡◌, ℕ, zero, suc, ◌+◌, ◌<◌, Bool, true, false, ◌&&◌, List, [], ◌∷◌, length, Some, refl, ap, subst, sym}
use Rattle.std.proofs.Common.{arith, inl, inr}
use Rattle.std.specs.Prelude.{All, Contains, Option, None, slice_get, slice_index}
use Rattle.std.proofs.lemmas.List.Elements.{All-nil, All-cons}
use Rattle.net_model.specs.Form.{value}
use Rattle.net_model.specs.Cycles.{bit_at, shown, gate_pins, IsSettled, IsNext, IsRun, HasFixed, AreFixedKept}
use Rattle.net_model.specs.declared.netlist.Fixed.{Fixed}
use Rattle.net_model.specs.declared.netlist.Gate.{Gate}
use Rattle.net_model.specs.declared.netlist.Reg.{Reg}
use Rattle.net_model.specs.declared.netlist.RegOut.{RegOut}
use Rattle.net_model.specs.declared.cycles.Cycle.{Cycle}
use Rattle.net_model.proofs.Members.{In, In-from_Contains}
use Rattle.link_defs.proofs.Solving.{solutions_are}
use Rattle.link_defs.specs.declared.circuits.Part.{Part}
use Rattle.link_defs.specs.declared.circuits.Part.TheVariants as part
use Rattle.link_defs.specs.Circuits.{clock_of, regs_of, OnTree, Root}
use Rattle.link_defs.specs.Designs.{IsSolution, captured, drivers_by, shows}
use Rattle.link_defs.specs.Above.{Under, Passes, Ungated}
use Rattle.link_defs.specs.Above as above
use Rattle.link_defs.specs.GatedDesigns.{Flop, flops_of, AreGatedSolutions}
use Rattle.netlist_runs.specs.Behaviours.{Behaves, ComesThrough, IsShownByOneRun, ShowsBehaviour}
use Rattle.netlist_runs.proofs.Behaving.{IsDesigned, one_run}
use Rattle.netlist_runs.proofs.WorkedDesign.{flop, gate, parts, left, no_buffer, no_gate, design, design_is, design_sound}
use Rattle.netlist_runs.proofs.Firsts.{firsts, first_at, all_firsts}

-- the memory drives 1 in cycle 1 alone
abbrev w : ℕ → Bool
w zero = false
w (suc zero) = true
w (suc (suc t)) = false

-- the first register takes 1 from d, and keeps it
abbrev qa : ℕ → Bool
qa zero = false
qa (suc t) = true

-- the second one has 1 in cycle 2 alone
abbrev y : ℕ → Bool
y zero = false
y (suc zero) = false
y (suc (suc zero)) = true
y (suc (suc (suc t))) = false

-- the flat nets clk, d, w, qa, n, y by the bits of w, qa and y
abbrev row : Bool → Bool → Bool → List Bool
row a b c = true ∷ true ∷ a ∷ b ∷ (b && a) ∷ c ∷ []

-- a bit for each flat net in each cycle
abbrev pub nets : ℕ → ℕ → Bool
nets t net = bit_at (row (w t) (qa t) (y t)) net

-- and one for each register
abbrev pub bits : ℕ → List Bool
bits t = qa t ∷ y t ∷ []

abbrev tree : List Bool
tree = true ∷ []

abbrev order : List Gate
order = gate 3 2 4 ∷ []

-- the outputs of a register show its bit
outs_show : (v : ℕ → Bool) (from to : ℕ) (reg : Reg) (bit : Bool) → flop from to ≡ reg → v to ≡ bit
    → All (λ (o : RegOut). v o.net ≡ shown o bit) reg.outs
outs_show v from to reg bit same is =
    subst (λ (x : Reg). All (λ (o : RegOut). v o.net ≡ shown o bit) x.outs) same
    (All-cons (λ (o : RegOut). v o.net ≡ shown o bit) (record { net = to; inverted = false }) [] is (All-nil (λ (o : RegOut). v o.net ≡ shown o bit)))

-- whatever the bits of w, qa and y, the equation holds
solved : (a b c : Bool) → IsSolution left order (b ∷ c ∷ []) (true ∷ a ∷ []) (bit_at (row a b c))
solved a b c = record { inputs_are = inputs; regs_show = regs; gates_hold = gates }
  where
    inputs : (i : ℕ) → i < length left.inputs → bit_at (row a b c) (slice_index left.inputs i) ≡ bit_at (true ∷ a ∷ []) i
    inputs zero lt = refl
    inputs (suc zero) lt = refl
    inputs (suc (suc i)) lt = absurd (omega (arith, lt))

    regs : (r : ℕ) (reg : Reg) → slice_get (flop 1 3 ∷ flop 4 5 ∷ []) r ≡ Some reg
        → All (λ (o : RegOut). bit_at (row a b c) o.net ≡ shown o (bit_at (b ∷ c ∷ []) r)) reg.outs
    regs zero reg at = let same : flop 1 3 ≡ reg = cc in outs_show (bit_at (row a b c)) 1 3 reg b same refl
    regs (suc zero) reg at = let same : flop 4 5 ≡ reg = cc in outs_show (bit_at (row a b c)) 4 5 reg c same refl
    regs (suc (suc r)) reg at = absurd cc

    gates : (k : ℕ) (g : Gate) → slice_get order k ≡ Some g → bit_at (row a b c) g.out ≡ value g.func (λ i. bit_at (row a b c) (slice_index g.ins i))
    gates zero g at =
        let same : gate 3 2 4 ≡ g = cc in
        subst (λ (x : Gate). bit_at (row a b c) x.out ≡ value x.func (λ i. bit_at (row a b c) (slice_index x.ins i))) same refl
    gates (suc k) g at = absurd cc

-- d is 1
fixed_kept : (a : Bool) → AreFixedKept design (true ∷ a ∷ [])
fixed_kept a =
    let P : Fixed → Type 0 = λ f. bit_at (true ∷ a ∷ []) f.input ≡ f.value in
    All-cons P (record { input = 0; value = true }) [] refl (All-nil P)

-- what the registers have next
next_qa : (t : ℕ) → qa (t + 1) ≡ true
next_qa t = let e : suc t ≡ t + 1 = omega arith in subst (λ (n : ℕ). qa n ≡ true) e refl

y_after : (t : ℕ) → y (suc t) ≡ (qa t && w t)
y_after zero = refl
y_after (suc zero) = refl
y_after (suc (suc t)) = refl

next_y : (t : ℕ) → y (t + 1) ≡ (qa t && w t)
next_y t = let e : suc t ≡ t + 1 = omega arith in subst (λ (n : ℕ). y n ≡ (qa t && w t)) e (y_after t)

abbrev first : Flop
first = record { clock = 0; reg = flop 1 3 }

abbrev second : Flop
second = record { clock = 0; reg = flop 4 5 }

-- so each register captures, and the clock comes through to it
captures : (t r : ℕ) (x : Flop) → slice_get (flops_of left) r ≡ Some x → bit_at (bits (t + 1)) r ≡ captured x.reg (bit_at (bits t) r) (nets t)
captures t zero x at =
    let same : first ≡ x = cc in subst (λ (z : Flop). bit_at (bits (t + 1)) 0 ≡ captured z.reg (bit_at (bits t) 0) (nets t)) same (next_qa t)
captures t (suc zero) x at =
    let same : second ≡ x = cc in subst (λ (z : Flop). bit_at (bits (t + 1)) 1 ≡ captured z.reg (bit_at (bits t) 1) (nets t)) same (next_y t)
captures t (suc (suc r)) x at = absurd cc

-- the clock comes through to each of them
through : (v : ℕ → Bool) (x : Flop) → 0 ≡ x.clock → ComesThrough left v x
through v x same =
    record { up = None; under = subst (λ (n : ℕ). Under left n None) same (above.Root 0 (0, omega arith, refl)); passes = Ungated }

clock_is : (r : ℕ) (x : Flop) → slice_get (flops_of left) r ≡ Some x → 0 ≡ x.clock
clock_is zero x at = let same : first ≡ x = cc in ap (λ (z : Flop). z.clock) same
clock_is (suc zero) x at = let same : second ≡ x = cc in ap (λ (z : Flop). z.clock) same
clock_is (suc (suc r)) x at = absurd cc

-- so it is a behaviour of what is left
pub behaves : Behaves left tree design nets bits
behaves = record {
  long = λ t. refl;
  solved = λ t. solved (w t) (qa t) (y t);
  fixed = λ t. fixed_kept (w t);
  resets = λ t. λ k d lt. absurd (omega (arith, lt));
  passed = λ t r x at there. captures t r x at;
  stopped = λ t r x at none. absurd (none (through (nets t) x (clock_is r x at)));
}

-- the clock comes through everywhere
always : (v : ℕ → Bool) (net : ℕ) (up : Option ℕ) → Under left net up → Passes left v up
always v net up (above.Root clock has) = Ungated
always v net up (above.Buffered from gates g over stands there on) =
    absurd (no_buffer from gates (In-from_Contains parts (part.Comb true (from ∷ []) gates) stands))
always v net up (above.Behind clock enables out over stands on) =
    absurd (no_gate clock enables out (In-from_Contains parts (part.Gate clock enables out) stands))

-- a register by its number
reg_is : (r : ℕ) (x : Flop) → slice_get (flops_of left) r ≡ Some x → slice_get (regs_of left) r ≡ Some x.reg
reg_is zero x at = let same : first ≡ x = cc in ap (λ (z : Flop). Some z.reg) same
reg_is (suc zero) x at = let same : second ≡ x = cc in ap (λ (z : Flop). Some z.reg) same
reg_is (suc (suc r)) x at = absurd cc

-- the design's settled cycles are the solutions
solutions : AreGatedSolutions left tree order design
solutions =
    let known = solutions_are left tree order design design_is design_sound in
    record {
      each = known.each;
      all = known.all;
      passed = λ z r x up settled at on passes. known.captures z r x.reg settled (reg_is r x at);
      stopped = λ z r x up settled at on none. absurd (none (always (shows (drivers_by left order) z) x.clock up on));
    }

clocked_in : (p : Part) (clock : ℕ) → In p parts → clock_of p ≡ Some clock → OnTree left clock false
clocked_in p clock (inl same) is =
    let here : 0 ≡ clock = cc in subst (λ (n : ℕ). OnTree left n false) here (Root 0 (0, omega arith, refl))
clocked_in p clock (inr (inl same)) is = cc
clocked_in p clock (inr (inr (inl same))) is =
    let here : 0 ≡ clock = cc in subst (λ (n : ℕ). OnTree left n false) here (Root 0 (0, omega arith, refl))
clocked_in p clock (inr (inr (inr none))) is = absurd none

-- the nets of the design
abbrev drivers : List ℕ
drivers = 1 ∷ 2 ∷ 3 ∷ 5 ∷ 4 ∷ []

reads_in : (clock : ℕ) (reg : Reg) → In (part.Flop clock reg) parts → All (Contains drivers) reg.ins
reads_in clock reg (inl same) =
    let here : flop 1 3 ≡ reg = cc in
    subst (λ (x : Reg). All (Contains drivers) x.ins) here (All-cons (Contains drivers) 1 [] (0, omega arith, refl) (All-nil (Contains drivers)))
reads_in clock reg (inr (inl same)) = cc
reads_in clock reg (inr (inr (inl same))) =
    let here : flop 4 5 ≡ reg = cc in
    subst (λ (x : Reg). All (Contains drivers) x.ins) here (All-cons (Contains drivers) 4 [] (4, omega arith, refl) (All-nil (Contains drivers)))
reads_in clock reg (inr (inr (inr none))) = absurd none

designed : IsDesigned left tree order design
designed = record {
  sound = design_sound;
  regs = refl;
  inputs = refl;
  clocked = λ p clock has is. clocked_in p clock (In-from_Contains parts p has) is;
  solutions = solutions;
  driven = record {
    regs = λ clock reg has. reads_in clock reg (In-from_Contains parts (part.Flop clock reg) has);
    gates = λ clock enables out has. absurd (no_gate clock enables out (In-from_Contains parts (part.Gate clock enables out) has));
  };
}

-- so exactly one run of three cycles shows it
pub one : IsShownByOneRun design (drivers_by left order) nets bits 3
one = one_run left tree order design nets bits designed behaves 3 (omega arith)

-- a cycle of the design by the bits of w, qa and y; its nets are d, w, qa, y, n
abbrev cycle : Bool → Bool → Bool → Cycle
cycle a b c = record { bits = b ∷ c ∷ []; ins = true ∷ a ∷ []; nets = true ∷ a ∷ b ∷ c ∷ (b && a) ∷ [] }

settled : (a b c : Bool) → IsSettled design (cycle a b c)
settled a b c = record { shape = record { bits = refl; ins = refl; nets = refl }; inputs = inputs; regs = regs; gates = gates }
  where
    inputs : (i : ℕ) → i < 2 → bit_at (cycle a b c).nets (slice_index design.inputs i) ≡ bit_at (cycle a b c).ins i
    inputs zero lt = refl
    inputs (suc zero) lt = refl
    inputs (suc (suc i)) lt = absurd (omega (arith, lt))

    regs : (r : ℕ) (reg : Reg) → slice_get design.regs r ≡ Some reg
        → All (λ (o : RegOut). bit_at (cycle a b c).nets o.net ≡ shown o (bit_at (cycle a b c).bits r)) reg.outs
    regs zero reg at = let same : flop 0 2 ≡ reg = cc in outs_show (bit_at (cycle a b c).nets) 0 2 reg b same refl
    regs (suc zero) reg at = let same : flop 4 3 ≡ reg = cc in outs_show (bit_at (cycle a b c).nets) 4 3 reg c same refl
    regs (suc (suc r)) reg at = absurd cc

    gates : (k : ℕ) (g : Gate) → slice_get design.gates k ≡ Some g → bit_at (cycle a b c).nets g.out ≡ value g.func (gate_pins g.ins (cycle a b c).nets)
    gates zero g at =
        let same : gate 2 1 4 ≡ g = cc in
        subst (λ (x : Gate). bit_at (cycle a b c).nets x.out ≡ value x.func (gate_pins x.ins (cycle a b c).nets)) same refl
    gates (suc k) g at = absurd cc

-- the cycles of the behaviour
abbrev at_cycle : ℕ → Cycle
at_cycle t = cycle (w t) (qa t) (y t)

follows : (t : ℕ) → IsNext design (at_cycle t) (at_cycle (t + 1))
follows t zero low = next_qa t
follows t (suc zero) low = next_y t
follows t (suc (suc r)) low = absurd (omega (arith, low))

-- three cycles, by register bits, input bits and nets
abbrev pub run : List Cycle
run =
    (record { bits = false ∷ false ∷ []; ins = true ∷ false ∷ []; nets = true ∷ false ∷ false ∷ false ∷ false ∷ [] })
    ∷ (record { bits = true ∷ false ∷ []; ins = true ∷ true ∷ []; nets = true ∷ true ∷ true ∷ false ∷ true ∷ [] })
    ∷ (record { bits = true ∷ true ∷ []; ins = true ∷ false ∷ []; nets = true ∷ false ∷ true ∷ true ∷ false ∷ [] })
    ∷ []

first_three : firsts at_cycle 3 ≡ run
first_three = refl

at_place : (t : ℕ) (z : Cycle) → slice_get run t ≡ Some z → at_cycle t ≡ z
at_place t z at = first_at at_cycle 3 t z at

-- they are a run
pub is_run : IsRun design run
is_run = record {
  linked = record {
    some = omega arith;
    settled = all_firsts (IsSettled design) at_cycle 3 (λ t. settled (w t) (qa t) (y t));
    next = λ t before after at then.
        subst (λ (x : Cycle). IsNext design x after) (at_place t before at) (subst (IsNext design (at_cycle t)) (at_place (t + 1) after then) (follows t));
    fixed = all_firsts (HasFixed design) at_cycle 3 (λ t. fixed_kept (w t));
  };
  resets = λ t z at k d lt. absurd (omega (arith, lt));
}

-- a cycle shows the flat nets that the design has
net_shown : (a b c : Bool) (net : ℕ) → In net drivers → shows drivers (cycle a b c) net ≡ bit_at (row a b c) net
net_shown a b c net (inl same) = subst (λ (n : ℕ). shows drivers (cycle a b c) n ≡ bit_at (row a b c) n) same refl
net_shown a b c net (inr (inl same)) = subst (λ (n : ℕ). shows drivers (cycle a b c) n ≡ bit_at (row a b c) n) same refl
net_shown a b c net (inr (inr (inl same))) = subst (λ (n : ℕ). shows drivers (cycle a b c) n ≡ bit_at (row a b c) n) same refl
net_shown a b c net (inr (inr (inr (inl same)))) = subst (λ (n : ℕ). shows drivers (cycle a b c) n ≡ bit_at (row a b c) n) same refl
net_shown a b c net (inr (inr (inr (inr (inl same))))) = subst (λ (n : ℕ). shows drivers (cycle a b c) n ≡ bit_at (row a b c) n) same refl
net_shown a b c net (inr (inr (inr (inr (inr none))))) = absurd none

-- which shows the behaviour
pub is_shown : ShowsBehaviour (drivers_by left order) nets bits run
is_shown = record {
  regs = λ t z at. ap (λ (x : Cycle). x.bits) (sym (at_place t z at));
  nets = λ t z net at has.
      subst (λ (x : Cycle). shows drivers x net ≡ nets t net) (at_place t z at) (net_shown (w t) (qa t) (y t) net (In-from_Contains drivers net has));
}

-- so it is the one that does
pub run_is_the_one : run ≡ one.run
run_is_the_one = one.only run is_run refl is_shown
