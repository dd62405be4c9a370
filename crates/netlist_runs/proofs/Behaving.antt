-- A behaviour of a flat netlist is shown by exactly one run of its design.
use Rattle.std.proofs.Common.{◌≡◌, ℕ, ◌+◌, ◌<◌, nat_lt, Bool, true, false, List, [], ◌∷◌, ◌++◌, map, length, refl, ap, subst, sym, ◌∙◌, arith, inl, inr}
use Rattle.std.specs.Prelude.{Contains, Some, flat_map, slice_get, slice_index}
use Rattle.std.proofs.lemmas.List.{get_or-map, get_or_default, length-map, same_lists}
use Rattle.std.proofs.lemmas.List.Elements.{Contains-append_left}
use Rattle.net_model.specs.Cycles.{bit_at, reg_capture_in, IsSettled, IsNext, IsRun, HasFixed, HasResets, AreFixedKept, AreResets}
use Rattle.net_model.specs.Netlist.{IsSound, reg_nets, gate_nets}
use Rattle.net_model.specs.declared.netlist.Design.{Design}
use Rattle.net_model.specs.declared.netlist.Gate.{Gate}
use Rattle.net_model.specs.declared.cycles.Cycle.{Cycle}
use Rattle.net_model.proofs.Members.{In, In-from_Contains, Contains-from_In, from_flat}
use Rattle.net_model.proofs.Settling.{All-at}
use Rattle.net_model.proofs.Unique.{settled_same}
use Rattle.graph_order.proofs.Marked.{contains_at}
use Rattle.icg_rewrite.proofs.Lists.{item_at}
use Rattle.link_defs.specs.declared.circuits.Circuit.{Circuit}
use Rattle.link_defs.specs.declared.circuits.Part.{Part}
use Rattle.link_defs.specs.declared.circuits.Part.TheVariants as part
use Rattle.link_defs.specs.Circuits.{part_regs, regs_of}
use Rattle.link_defs.specs.Designs.{captured, drivers_by, shows}
use Rattle.link_defs.specs.Above.{Passes}
use Rattle.link_defs.specs.GatedDesigns.{Flop, part_flop, flops_of, kept, AreGatedSolutions}
use Rattle.link_gates.proofs.OneGated.{AreClocked, flop_under}
use Rattle.netlist_runs.specs.Behaviours.{AreDriven, Behaves, ComesThrough, IsShownByOneRun}
use Rattle.netlist_runs.proofs.Driven.{Agree, agree_back, passes_same, captured_same, reg_same}
use Rattle.netlist_runs.proofs.Firsts.{firsts, length-firsts, first_at, all_firsts, firsts_once}

-- what is known of the design of a circuit
pub record IsDesigned (c : Circuit) (tree : List Bool) (order : List Gate) (d : Design) : Type 0 where
  pub sound : IsSound d
  pub regs : length d.regs ≡ length (flops_of c)
  pub inputs : length d.inputs ≡ length c.inputs
  pub clocked : AreClocked c
  pub solutions : AreGatedSolutions c tree order d
  pub driven : AreDriven c (drivers_by c order)

-- as many registers as flops
pub flops_count : (parts : List Part) → length (flat_map part_regs parts) ≡ length (flat_map part_flop parts)
flops_count [] = refl
flops_count (part.Comb buffer ins gates ∷ parts) = flops_count parts
flops_count (part.Flop clock reg ∷ parts) = omega (arith, flops_count parts)
flops_count (part.Gate clock enables out ∷ parts) = flops_count parts

-- a part whose register this is has its nets
flop_part : (p : Part) (x : Flop) → In x (part_flop p) → p ≡ part.Flop x.clock x.reg
flop_part (part.Comb buffer ins gates) x has = absurd has
flop_part (part.Flop clock reg) x (inl here) = ap (λ (y : Flop). part.Flop y.clock y.reg) here
flop_part (part.Flop clock reg) x (inr later) = absurd later
flop_part (part.Gate clock enables out) x has = absurd has

-- a flop is a part
flop_stands : (c : Circuit) (r : ℕ) (x : Flop) → slice_get (flops_of c) r ≡ Some x → Contains c.parts (part.Flop x.clock x.reg)
flop_stands c r x at =
    let (p, stands, own) = from_flat part_flop x c.parts (In-from_Contains (flops_of c) x (contains_at (flops_of c) r x at)) in
    subst (Contains c.parts) (flop_part p x own) (Contains-from_In c.parts p stands)

-- bits that are not apart are one
bits_stable : (a b : Bool) → ((a ≡ b → ⊥) → ⊥) → a ≡ b
bits_stable true true near = refl
bits_stable true false near = absurd (near (λ e. cc))
bits_stable false true near = absurd (near (λ e. cc))
bits_stable false false near = refl

-- so they are one where they are in either case
either_way : (P : Type 0) (a b : Bool) → (P → a ≡ b) → ((P → ⊥) → a ≡ b) → a ≡ b
either_way P a b here there = bits_stable a b (λ apart. apart (there (λ p. apart (here p))))

-- a settled cycle with the behaviour's bits of a cycle
pub record IsCycleOf (c : Circuit) (order : List Gate) (d : Design) (bits : List Bool) (v : ℕ → Bool) (y : Cycle) : Type 0 where
  pub settled : IsSettled d y
  pub regs : y.bits ≡ bits
  pub ins : y.ins ≡ map v c.inputs
  pub nets : Agree (drivers_by c order) (shows (drivers_by c order) y) v

-- there is one
cycle_of : (c : Circuit) (tree : List Bool) (order : List Gate) (d : Design) (v : ℕ → ℕ → Bool) (bits : ℕ → List Bool) → IsDesigned c tree order d
    → Behaves c tree d v bits → (t : ℕ) → (y : Cycle) × IsCycleOf c order d (bits t) (v t) y
cycle_of c tree order d v bits is b t =
    let long : length (bits t) ≡ length d.regs = b.long t ∙ flops_count c.parts ∙ sym is.regs in
    let wide : length (map (v t) c.inputs) ≡ length d.inputs = length-map c.inputs (v t) ∙ sym is.inputs in
    let (y, settled, same_bits, same_ins, same) = is.solutions.all (bits t) (map (v t) c.inputs) (v t) long wide (b.solved t) in
    (y, record { settled = settled; regs = same_bits; ins = same_ins; nets = same })

-- the clock comes through to a register in the one where it does in the other
through_same : (c : Circuit) (drivers : List ℕ) (v w : ℕ → Bool) (x : Flop) → AreDriven c drivers → Agree drivers v w → ComesThrough c v x
    → ComesThrough c w x
through_same c drivers v w x driven same through =
    record { up = through.up; under = through.under; passes = passes_same c drivers v w driven same through.up through.passes }

-- the behaviour's next bit of a register is what that of the design captures
next_bit : (c : Circuit) (tree : List Bool) (order : List Gate) (d : Design) (v : ℕ → ℕ → Bool) (bits : ℕ → List Bool) → IsDesigned c tree order d
    → Behaves c tree d v bits → (t : ℕ) (y : Cycle) → IsCycleOf c order d (bits t) (v t) y → (r : ℕ) (x : Flop) → slice_get (flops_of c) r ≡ Some x
    → bit_at (bits (t + 1)) r ≡ reg_capture_in y r (slice_get d.regs r)
next_bit c tree order d v bits is b t y here r x at =
    let drivers : List ℕ = drivers_by c order in
    let w : ℕ → Bool = shows drivers y in
    let back : Agree drivers (v t) w = agree_back drivers w (v t) here.nets in
    let reads = reg_same c drivers (v t) w x.clock x.reg is.driven back (flop_stands c r x at) in
    let own : bit_at (bits t) r ≡ bit_at y.bits r = ap (λ (row : List Bool). bit_at row r) (sym here.regs) in
    let (up, on) = flop_under c is.clocked r x at in
    either_way (ComesThrough c (v t) x) (bit_at (bits (t + 1)) r) (reg_capture_in y r (slice_get d.regs r))
    (λ through.
    let there = through_same c drivers (v t) w x is.driven back through in
    b.passed t r x at through ∙ captured_same x.reg (bit_at (bits t) r) (v t) w reads ∙ ap (λ (bit : Bool). captured x.reg bit w) own
    ∙ sym (is.solutions.passed y r x there.up here.settled at there.under there.passes))
    (λ none.
    let shut : Passes c w up → ⊥ = λ passes.
    none (through_same c drivers w (v t) x is.driven here.nets (record { up = up; under = on; passes = passes })) in
    b.stopped t r x at none ∙ captured_same (kept x.reg) (bit_at (bits t) r) (v t) w reads ∙ ap (λ (bit : Bool). captured (kept x.reg) bit w) own
    ∙ sym (is.solutions.stopped y r x up here.settled at on shut))

-- so the cycles of a behaviour follow one another
next_is : (c : Circuit) (tree : List Bool) (order : List Gate) (d : Design) (v : ℕ → ℕ → Bool) (bits : ℕ → List Bool) → IsDesigned c tree order d
    → Behaves c tree d v bits → (t : ℕ) (y z : Cycle) → IsCycleOf c order d (bits t) (v t) y → IsCycleOf c order d (bits (t + 1)) (v (t + 1)) z
    → IsNext d y z
next_is c tree order d v bits is b t y z here then r low =
    let (x, at) = item_at (flops_of c) r (omega (arith, low, is.regs)) in
    ap (λ (row : List Bool). bit_at row r) then.regs ∙ next_bit c tree order d v bits is b t y here r x at

-- two cycles of a behaviour's cycle are one
cycle_once : (c : Circuit) (order : List Gate) (d : Design) (bits : List Bool) (v : ℕ → Bool) (y z : Cycle) → IsSound d → IsCycleOf c order d bits v y
    → IsCycleOf c order d bits v z → y ≡ z
cycle_once c order d bits v y z sound a b = settled_same d y z sound a.settled b.settled (a.regs ∙ sym b.regs) (a.ins ∙ sym b.ins)

-- a cycle that shows the behaviour's bits is one
shown_cycle : (c : Circuit) (tree : List Bool) (order : List Gate) (d : Design) (bits : List Bool) (v : ℕ → Bool) (y : Cycle) → IsDesigned c tree order d
    → IsSettled d y → y.bits ≡ bits → Agree (drivers_by c order) (shows (drivers_by c order) y) v → IsCycleOf c order d bits v y
shown_cycle c tree order d bits v y is settled same nets =
    let drivers : List ℕ = drivers_by c order in
    let sol = is.solutions.each y settled in
    let count : length y.ins ≡ length (map v c.inputs) = settled.shape.ins ∙ is.inputs ∙ sym (length-map c.inputs v) in
    record {
      settled = settled;
      regs = same;
      ins = same_lists y.ins (map v c.inputs) count (λ i e within.
          let low : i < length c.inputs = omega (arith, within, count, length-map c.inputs v) in
          let net : ℕ = slice_index c.inputs i in
          let outs : List ℕ = flat_map reg_nets (regs_of c) in
          let input : Contains c.inputs net = (i, low, get_or_default c.inputs i net 0 low) in
          let has : Contains drivers net =
          Contains-append_left (c.inputs ++ outs) (gate_nets order) net (Contains-append_left c.inputs outs net input) in
          get_or_default y.ins i e false within ∙ sym (sol.inputs_are i low) ∙ nets net has ∙ sym (get_or-map v c.inputs i 0 e low));
      nets = nets;
    }

-- the run: so many cycles of the behaviour
behaviour_run : (c : Circuit) (tree : List Bool) (order : List Gate) (d : Design) (v : ℕ → ℕ → Bool) (bits : ℕ → List Bool) → IsDesigned c tree order d
    → Behaves c tree d v bits → (f : ℕ → Cycle) → ((t : ℕ) → IsCycleOf c order d (bits t) (v t) (f t)) → (n : ℕ) → 0 < n → IsRun d (firsts f n)
behaviour_run c tree order d v bits is b f are n some = record {
  linked = record {
    some = omega (arith, some, length-firsts f n);
    settled = all_firsts (IsSettled d) f n (λ t. (are t).settled);
    next = λ t y z at then.
        subst (λ (x : Cycle). IsNext d x z) (first_at f n t y at)
        (subst (IsNext d (f t)) (first_at f n (t + 1) z then) (next_is c tree order d v bits is b t (f t) (f (t + 1)) (are t) (are (t + 1))));
    fixed = all_firsts (HasFixed d) f n (λ t. subst (AreFixedKept d) (sym (are t).ins) (b.fixed t));
  };
  resets = λ t y at.
      subst (HasResets d (nat_lt t d.reset_len)) (first_at f n t y at) (subst (AreResets d (nat_lt t d.reset_len)) (sym (are t).ins) (b.resets t));
}

-- each behaviour is shown by exactly one run
pub one_run : (c : Circuit) (tree : List Bool) (order : List Gate) (d : Design) (v : ℕ → ℕ → Bool) (bits : ℕ → List Bool) → IsDesigned c tree order d
    → Behaves c tree d v bits → (n : ℕ) → 0 < n → IsShownByOneRun d (drivers_by c order) v bits n
one_run c tree order d v bits is b n some =
    let f : ℕ → Cycle = λ t. (cycle_of c tree order d v bits is b t).0 in
    let are : (t : ℕ) → IsCycleOf c order d (bits t) (v t) (f t) = λ t. (cycle_of c tree order d v bits is b t).1 in
    record {
      run = firsts f n;
      from_reset = behaviour_run c tree order d v bits is b f are n some;
      long = length-firsts f n;
      shown = record {
        regs = λ t y at. subst (λ (x : Cycle). x.bits ≡ bits t) (first_at f n t y at) (are t).regs;
        nets = λ t y net at has.
            subst (λ (x : Cycle). shows (drivers_by c order) x net ≡ v t net) (first_at f n t y at) ((are t).nets net has);
      };
      only = λ other run long shown. firsts_once f n other long (λ t y at.
          let own = shown_cycle c tree order d (bits t) (v t) y is (All-at (IsSettled d) other t y at run.linked.settled) (shown.regs t y at)
          (λ net has. shown.nets t y net at has) in
          cycle_once c order d (bits t) (v t) y (f t) is.sound own (are t));
    }
