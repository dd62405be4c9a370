-- A design with clock gates and its rewritten design have the same runs.
use Rattle.std.proofs.Common.{◌≡◌, ℕ, ◌+◌, Bool, List, length, map, take, refl, ap, sym, ◌∙◌, subst, arith}
use Rattle.std.specs.Prelude.{Option, Some, slice_get, drop, nat_lt}
use Rattle.std.proofs.lemmas.List.{length-map, take-append-drop, length-take-le, length-drop}
use Rattle.std.proofs.lemmas.Option.{slice_get_within}
use Rattle.net_model.specs.Cycles.{bit_at, reg_pins, capture, IsSettled, IsNext, IsRun, HasFixed, HasResets}
use Rattle.net_model.proofs.Settling.{All-at}
use Rattle.net_model.proofs.Driving.{all_from_places}
use Rattle.net_model.proofs.Unique.{cycles_same}
use Rattle.net_model.specs.declared.netlist.Reg.{Reg}
use Rattle.net_model.specs.declared.cycles.Cycle.{Cycle}
use Rattle.net_model.specs.declared.claims.End.TheVariants.{Reg as RegEnd}
use Rattle.icg_rewrite.specs.declared.clock_gates.Gated.{Gated}
use Rattle.icg_rewrite.specs.Gated.{AreGated}
use Rattle.icg_rewrite.specs.Rewritten.{rewritten}
use Rattle.icg_rewrite.specs.Runs.{passes, ArePassing, gated_capture, IsGatedNext, IsGatedRun, ShowsCycle, ShowSame}
use Rattle.icg_rewrite.proofs.Lists.{map_from, item_at, length-gated_regs}
use Rattle.icg_rewrite.proofs.Capturing.{old_net}
use Rattle.icg_rewrite.proofs.Passing.{row_of, row_is_passing, row_once}
use Rattle.icg_rewrite.proofs.Settled.{extended, settled_with, settled_without, same_capture}

-- the cycle of the rewritten design that shows a cycle of the design
abbrev with_gates : (g : Gated) → AreGated g → Cycle → Cycle
with_gates g are c = extended c (row_of g are c.nets)

-- a register's next bit, by rows of the clock gates that are one
next_bit : (g : Gated) (before c : Cycle) (row other : List Bool) (r : ℕ) (reg : Reg) (gate : Option ℕ) → AreGated g → length before.nets ≡ g.design.nets
    → slice_get g.design.regs r ≡ Some reg → slice_get g.of r ≡ Some gate → row ≡ other
    → bit_at c.bits r ≡ gated_capture (passes row gate) reg (reg_pins reg.ins before.nets (bit_at before.bits r))
    → bit_at c.bits r ≡ capture (rewritten g) (RegEnd r) (extended before other)
next_bit g before c row other r reg gate are len at there same next =
    next
    ∙ (ap (λ (bits : List Bool). gated_capture (passes bits gate) reg (reg_pins reg.ins before.nets (bit_at before.bits r))) same
    ∙ sym (same_capture g before other r reg gate are len at there))

-- where the captures behind clock gates come next, those of the rewritten design do
next_with : (g : Gated) (are : AreGated g) (before c : Cycle) → IsSettled g.design before → IsGatedNext g before c
    → IsNext (rewritten g) (with_gates g are before) (with_gates g are c)
unfolding rewritten
next_with g are before c settled next r lt =
    let reg = item_at g.design.regs r (omega (arith, length-gated_regs g.design.nets g.design.regs g.of are.each)) in
    let gate = item_at g.of r (let low = slice_get_within g.design.regs r reg.0 reg.1 in omega (arith, are.each)) in
    next_bit g before c next.row (row_of g are before.nets) r reg.0 gate.0 are settled.shape.nets reg.1 gate.1
    (row_once g before.nets next.row (row_of g are before.nets) are next.passing (row_is_passing g are before.nets))
    (next.captured r reg.0 gate.0 reg.1 gate.1)

-- each run of the design with its clock gates is shown by one of the rewritten design
pub forth : (g : Gated) (run : List Cycle) → AreGated g → IsGatedRun g run → (other : List Cycle) × IsRun (rewritten g) other × ShowSame g.design run other
unfolding rewritten
forth g run are is = (
  map (with_gates g are) run,
  record {
    linked = record {
      some = omega (arith, length-map run (with_gates g are), is.some);
      settled = all_from_places (IsSettled (rewritten g)) (map (with_gates g are) run) (λ t lt e at.
          let from = map_from (with_gates g are) run t e at in
          subst (IsSettled (rewritten g)) from.2
          (settled_with g from.0 (row_of g are from.0.nets) are (All-at (IsSettled g.design) run t from.0 from.1 is.settled)
          (row_is_passing g are from.0.nets)));
      next = λ t e after at then.
          let from = map_from (with_gates g are) run t e at in
          let next = map_from (with_gates g are) run (t + 1) after then in
          subst (λ (x : Cycle). IsNext (rewritten g) x after) from.2
          (subst (λ (y : Cycle). IsNext (rewritten g) (with_gates g are from.0) y) next.2
          (next_with g are from.0 next.0 (All-at (IsSettled g.design) run t from.0 from.1 is.settled) (is.next t from.0 next.0 from.1 next.1)));
      fixed = all_from_places (HasFixed g.design) (map (with_gates g are) run) (λ t lt e at.
          let from = map_from (with_gates g are) run t e at in
          subst (HasFixed g.design) from.2 (All-at (HasFixed g.design) run t from.0 from.1 is.fixed));
    };
    resets = λ t e at.
        let from = map_from (with_gates g are) run t e at in
        subst (HasResets g.design (nat_lt t g.design.reset_len)) from.2 (is.resets t from.0 from.1);
  },
  record {
    len = length-map run (with_gates g are);
    each = λ t c e at there.
        let from = map_from (with_gates g are) run t e there in
        let same : from.0 ≡ c = cc in
        let len = (All-at (IsSettled g.design) run t c at is.settled).shape.nets in
        subst (ShowsCycle g.design c) (ap (with_gates g are) (sym same) ∙ from.2)
        (record { bits = refl; ins = refl; nets = λ net lt. old_net g.design.nets c.nets (row_of g are c.nets) net len lt });
  },
)

-- the cycle of the design that a cycle of the rewritten design shows
abbrev without_gates : Gated → Cycle → Cycle
without_gates g e = record { bits = e.bits; ins = e.ins; nets = take g.design.nets e.nets }

-- the bits of the clock gates in it
abbrev gate_bits : Gated → Cycle → List Bool
gate_bits g e = drop g.design.nets e.nets

extended_back : (g : Gated) (e : Cycle) → extended (without_gates g e) (gate_bits g e) ≡ e
extended_back g e = cycles_same (extended (without_gates g e) (gate_bits g e)) e refl refl (take-append-drop g.design.nets e.nets)

-- it is settled, and the clock gates have these bits
settled_back : (g : Gated) (e : Cycle) → AreGated g → IsSettled (rewritten g) e
    → IsSettled g.design (without_gates g e) × ArePassing g.gates (take g.design.nets e.nets) (gate_bits g e)
unfolding rewritten
settled_back g e are settled =
    let nets : length e.nets ≡ g.design.nets + length g.gates = settled.shape.nets in
    settled_without g (without_gates g e) (gate_bits g e) are
    (length-take-le g.design.nets e.nets (omega (arith, nets))) (omega (arith, length-drop g.design.nets e.nets, nets))
    (subst (IsSettled (rewritten g)) (sym (extended_back g e)) settled)

-- where the captures of the rewritten design come next, those behind clock gates do
next_back : (g : Gated) (e after : Cycle) → AreGated g → IsSettled (rewritten g) e → IsNext (rewritten g) e after
    → IsGatedNext g (without_gates g e) (without_gates g after)
unfolding rewritten
next_back g e after are settled next =
    let back = settled_back g e are settled in
    record {
      row = gate_bits g e;
      passing = back.1;
      captured = λ r reg gate at there.
          let low = slice_get_within g.design.regs r reg at in
          next r (omega (arith, length-gated_regs g.design.nets g.design.regs g.of are.each))
          ∙ ap (capture (rewritten g) (RegEnd r)) (sym (extended_back g e))
          ∙ same_capture g (without_gates g e) (gate_bits g e) r reg gate are back.0.shape.nets at there;
    }

-- each run of the rewritten design shows one of the design with its clock gates
pub back : (g : Gated) (other : List Cycle) → AreGated g → IsRun (rewritten g) other → (run : List Cycle) × IsGatedRun g run × ShowSame g.design run other
unfolding rewritten
back g other are is = (
  map (without_gates g) other,
  record {
    some = omega (arith, length-map other (without_gates g), is.linked.some);
    settled = all_from_places (IsSettled g.design) (map (without_gates g) other) (λ t lt c at.
        let from = map_from (without_gates g) other t c at in
        subst (IsSettled g.design) from.2 (settled_back g from.0 are (All-at (IsSettled (rewritten g)) other t from.0 from.1 is.linked.settled)).0);
    next = λ t before c at then.
        let from = map_from (without_gates g) other t before at in
        let next = map_from (without_gates g) other (t + 1) c then in
        subst (λ (x : Cycle). IsGatedNext g x c) from.2
        (subst (λ (y : Cycle). IsGatedNext g (without_gates g from.0) y) next.2
        (next_back g from.0 next.0 are (All-at (IsSettled (rewritten g)) other t from.0 from.1 is.linked.settled)
        (is.linked.next t from.0 next.0 from.1 next.1)));
    fixed = all_from_places (HasFixed g.design) (map (without_gates g) other) (λ t lt c at.
        let from = map_from (without_gates g) other t c at in
        subst (HasFixed g.design) from.2 (All-at (HasFixed (rewritten g)) other t from.0 from.1 is.linked.fixed));
    resets = λ t c at.
        let from = map_from (without_gates g) other t c at in
        subst (HasResets g.design (nat_lt t g.design.reset_len)) from.2 (is.resets t from.0 from.1);
  },
  record {
    len = sym (length-map other (without_gates g));
    each = λ t c e at there.
        let from = map_from (without_gates g) other t c at in
        let same : from.0 ≡ e = cc in
        let back = (settled_back g e are (All-at (IsSettled (rewritten g)) other t e there is.linked.settled)).0 in
        subst (λ (x : Cycle). ShowsCycle g.design x e) (ap (without_gates g) (sym same) ∙ from.2)
        (record {
          bits = refl;
          ins = refl;
          nets = λ net lt. ap (λ (x : Cycle). bit_at x.nets net) (sym (extended_back g e))
              ∙ old_net g.design.nets (take g.design.nets e.nets) (gate_bits g e) net back.shape.nets lt;
        });
  },
)
