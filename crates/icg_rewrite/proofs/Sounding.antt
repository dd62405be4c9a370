-- A rewritten design is sound.
use Rattle.std.proofs.Common.{◌≡◌, ◌≢◌, ℕ, suc, ◌+◌, ◌<◌, ◌≤◌, ◌==◌, true, false, List, [], ◌∷◌, ◌++◌, length, take, All, refl, ap, sym, ◌∙◌, subst}
use Rattle.std.proofs.Common.{arith, inl, inr, cond, append_assoc, get_or}
use Rattle.std.specs.Prelude.{Contains, Option, Some, None, option_map, slice_get, count_by, flat_map, nat_lt, if◌then◌else◌}
use Rattle.std.proofs.lemmas.Bool.{cases_eq, cases_lt}
use Rattle.std.proofs.lemmas.Bool.Decides.{nat_tests}
use Rattle.std.proofs.lemmas.List.{length_push, map-append, take-append-le}
use Rattle.std.proofs.Math.Seq.{take-append-add}
use Rattle.std.proofs.lemmas.List.Elements.{All-nil, All-cons, All-append, Contains-append_cases, Contains-append_left, Contains-append_right}
use Rattle.std.proofs.lemmas.Option.{slice_get_within}
use Rattle.net_model.specs.Form.{Form, ZeroForm, OneForm, PinForm, NotForm, AndForm, OrForm, XorForm, IsOver}
use Rattle.net_model.specs.FormLaws.{IsOver-weaker}
use Rattle.net_model.specs.Netlist.{IsSound, IsInRange, IsGateInRange, IsRegInRange, IsOptionOver, AllBelow, reg_nets}
use Rattle.net_model.specs.Netlist.{gate_nets, source_nets, driven_nets, driver_count}
use Rattle.net_model.proofs.Settling.{All-at}
use Rattle.net_model.proofs.Order.{count_append, count_cons, counted, out_taken}
use Rattle.net_model.proofs.Unique.{counted_contains, from_flat, from_whole}
use Rattle.net_model.proofs.Driving.{all_from_places}
use Rattle.net_model.specs.declared.netlist.Design.{Design}
use Rattle.net_model.specs.declared.netlist.Gate.{Gate}
use Rattle.net_model.specs.declared.netlist.Reg.{Reg}
use Rattle.icg_rewrite.specs.declared.clock_gates.ClockGate.{ClockGate}
use Rattle.icg_rewrite.specs.declared.clock_gates.Gated.{Gated}
use Rattle.icg_rewrite.specs.Gated.{IsBelowIfAny, AreGated}
use Rattle.icg_rewrite.specs.Rewritten.{raised, gated_reg, gated_regs, enable_func, enable_ins, enable_gate, enable_gates, rewritten}
use Rattle.icg_rewrite.specs.Faults.{HasRoom}
use Rattle.icg_rewrite.proofs.Lists.{at_append, item_at, reg_from, length-gated_regs, same_nets, enable_from, enable_at}

-- numbers below n are below what is not below n
AllBelow-weaker : (n m : ℕ) (xs : List ℕ) → n ≤ m → AllBelow n xs → AllBelow m xs
AllBelow-weaker n m xs le below k o lt = let here = below k o lt in omega arith

-- and one more
AllBelow-push : (n m : ℕ) (xs : List ℕ) (x : ℕ) → n ≤ m → x < m → AllBelow n xs → AllBelow m (xs ++ x ∷ [])
AllBelow-push n m xs x le lt below =
    All-append (λ y. y < m) xs (x ∷ []) (AllBelow-weaker n m xs le below) (All-cons (λ y. y < m) x [] lt (All-nil (λ y. y < m)))

-- a gate of a design is one of a design with more nets
more_nets : (d more : Design) (g : Gate) → d.nets ≤ more.nets → IsGateInRange d g → IsGateInRange more g
more_nets d more g le fits =
    record {
      func = fits.func;
      ins = AllBelow-weaker d.nets more.nets g.ins le fits.ins;
      out = let lt = fits.out in omega arith;
      few = fits.few;
    }

-- so is a register
more_reg_nets : (d more : Design) (reg : Reg) → d.nets ≤ more.nets → IsRegInRange d reg → IsRegInRange more reg
more_reg_nets d more reg le fits =
    record {
      next = fits.next;
      clear = fits.clear;
      preset = fits.preset;
      ins = AllBelow-weaker d.nets more.nets reg.ins le fits.ins;
      outs = AllBelow-weaker d.nets more.nets (reg_nets reg) le fits.outs;
      few = fits.few;
    }

-- the gate of a clock gate reads its own pins, and nets of the rewritten design
enable_fits : (d more : Design) (f : Form) (ins : List ℕ) (parent : Option ℕ) (k : ℕ) → d.nets + k < more.nets → IsOver (length ins) f
    → AllBelow d.nets ins → length ins ≤ 5 → IsBelowIfAny k parent
    → IsGateInRange more (record { func = enable_func (length ins) f parent; ins = enable_ins d.nets ins parent; out = d.nets + k })
enable_fits d more f ins None k lt over below few up =
    record { func = over; ins = AllBelow-weaker d.nets more.nets ins (omega arith) below; out = lt; few = omega arith }
enable_fits d more f ins (Some p) k lt over below few up =
    let long = length_push ins (d.nets + p) in
    record {
      func = (IsOver-weaker (length ins) (length (ins ++ (d.nets + p) ∷ [])) f (omega (arith, long)) over, omega (arith, long));
      ins = AllBelow-push d.nets more.nets ins (d.nets + p) (omega arith) (omega arith) below;
      out = lt;
      few = omega (arith, long);
    }

-- a place of a function with a new place
place_below : (i w m : ℕ) → i + 1 < m → (if nat_lt i w then i else i + 1) < m
place_below i w m lt = elim (cases_lt i w) [
  | inl less ↦ let hit : nat_lt i w ≡ true = grind (arith, nat_tests) in rw hit (omega arith)
  | inr le ↦ let miss : nat_lt i w ≡ false = grind (arith, nat_tests) in rw miss lt
]

-- with a new place a function has one place more
IsOver-raised : (w n m : ℕ) (f : Form) → n + 1 ≤ m → IsOver n f → IsOver m (raised w f)
IsOver-raised w n m ZeroForm le over = tt
IsOver-raised w n m OneForm le over = tt
IsOver-raised w n m (PinForm i) le over = place_below i w m (omega (arith, over))
IsOver-raised w n m (NotForm f) le over = IsOver-raised w n m f le over
IsOver-raised w n m (AndForm f g) le over = (IsOver-raised w n m f le over.0, IsOver-raised w n m g le over.1)
IsOver-raised w n m (OrForm f g) le over = (IsOver-raised w n m f le over.0, IsOver-raised w n m g le over.1)
IsOver-raised w n m (XorForm f g) le over = (IsOver-raised w n m f le over.0, IsOver-raised w n m g le over.1)

-- so has a control
control_over : (w n m : ℕ) (f : Option Form) → n + 1 ≤ m → IsOptionOver n f → IsOptionOver m (option_map (raised w) f)
control_over w n m None le over = tt
control_over w n m (Some f) le over = IsOver-raised w n m f le over

-- a register with an enable reads its own pins, and nets of the rewritten design
reg_fits : (d more : Design) (count : ℕ) (reg : Reg) (gate : Option ℕ) → more.nets ≡ d.nets + count → IsBelowIfAny count gate → IsRegInRange d reg
    → ((k : ℕ) → gate ≡ Some k → length reg.ins ≤ 5) → IsRegInRange more (gated_reg d.nets reg gate)
reg_fits d more count reg None nets up fits few = more_reg_nets d more reg (omega (arith, nets)) fits
reg_fits d more count reg (Some k) nets up fits few =
    let long = length_push reg.ins (d.nets + k) in
    let room = few k refl in
    let enable : length reg.ins < length (reg.ins ++ (d.nets + k) ∷ []) + 1 = omega (arith, long) in
    let own : length reg.ins + 1 < length (reg.ins ++ (d.nets + k) ∷ []) + 1 = omega (arith, long) in
    let le : length reg.ins + 1 + 1 ≤ length (reg.ins ++ (d.nets + k) ∷ []) + 1 = omega (arith, long) in
    record {
      next = ((enable, IsOver-raised (length reg.ins) (length reg.ins + 1) (length (reg.ins ++ (d.nets + k) ∷ []) + 1) reg.next le fits.next), (enable, own));
      clear = control_over (length reg.ins) (length reg.ins + 1) (length (reg.ins ++ (d.nets + k) ∷ []) + 1) reg.clear le fits.clear;
      preset = control_over (length reg.ins) (length reg.ins + 1) (length (reg.ins ++ (d.nets + k) ∷ []) + 1) reg.preset le fits.preset;
      ins = AllBelow-push d.nets more.nets reg.ins (d.nets + k) (omega (arith, nets)) (omega (arith, nets, up)) fits.ins;
      outs = AllBelow-weaker d.nets more.nets (reg_nets reg) (omega (arith, nets)) fits.outs;
      few = omega (arith, long, room);
    }

-- another number counts 0
not_counted : (n m : ℕ) → m ≢ n → ◌≡◌ {A = ℕ} (cond (m == n) 1 0) 0
not_counted n m apart = grind (arith, nat_tests)

-- no gate of a clock gate drives a net below the first of them
none_below : (n k : ℕ) (xs : List ClockGate) (net : ℕ) → net < n + k → count_by (λ m. m == net) (gate_nets (enable_gates n k xs)) ≡ 0
none_below n k [] net lt = refl
none_below n k (x ∷ xs) net lt =
    let rest = none_below n (suc k) xs net (omega arith) in
    let first = not_counted net (n + k) (omega arith) in
    omega (arith, count_cons (λ m. m == net) (n + k) (gate_nets (enable_gates n (suc k) xs)), rest, first)

-- and one drives each of theirs
one_within : (n k : ℕ) (xs : List ClockGate) (net : ℕ) → n + k ≤ net → net < n + k + length xs
    → count_by (λ m. m == net) (gate_nets (enable_gates n k xs)) ≡ 1
one_within n k [] net low high = absurd (omega arith)
one_within n k (x ∷ xs) net low high =
    let more = count_cons (λ m. m == net) (n + k) (gate_nets (enable_gates n (suc k) xs)) in
    elim (cases_eq (n + k) net) [
      | inl here ↦ omega (arith, more, counted net (n + k) here, none_below n (suc k) xs net (omega arith))
      | inr apart ↦ omega (arith, more, not_counted net (n + k) apart, one_within n (suc k) xs net (omega arith) (omega arith))
    ]

-- what is driven is a net of the design
driven_below : (d : Design) (net : ℕ) → IsInRange d → Contains (driven_nets d) net → net < d.nets
driven_below d net fits has = elim (Contains-append_cases (source_nets d) (gate_nets d.gates) net has) [
  | inl source ↦ elim (Contains-append_cases d.inputs (flat_map reg_nets d.regs) net source) [
    | inl input ↦ subst (λ (n : ℕ). n < d.nets) input.2 (fits.inputs input.0 net input.1)
    | inr reg ↦
        let from = from_flat reg_nets d.regs net reg in
        let own = All-at (IsRegInRange d) d.regs from.0 from.1 from.2 fits.regs in
        subst (λ (n : ℕ). n < d.nets) from.3.2 (own.outs from.3.0 net from.3.1)
  ]
  | inr gate ↦
      let from = from_whole (λ (g : Gate). g.out) d.gates net gate in
      subst (λ (n : ℕ). n < d.nets) from.3 (All-at (IsGateInRange d) d.gates from.0 from.1 from.2 fits.gates).out
]

-- so a number that is none of its nets counts 0 among what is driven
beyond_driven : (d : Design) (net : ℕ) → IsInRange d → d.nets ≤ net → driver_count d net ≡ 0
beyond_driven d net fits le = elim (cases_eq (driver_count d net) 0) [
  | inl none ↦ none
  | inr some ↦
      let lt = driven_below d net fits (counted_contains net (driven_nets d) (omega arith)) in absurd (omega arith)
]

-- the drivers of the rewritten design are those of the design, and the gates of clock gates
driven_with : (g : Gated) → length g.of ≡ length g.design.regs
    → driven_nets (rewritten g) ≡ source_nets g.design ++ (gate_nets g.design.gates ++ gate_nets (enable_gates g.design.nets 0 g.gates))
unfolding rewritten
driven_with g each =
    ap (λ (ns : List ℕ). (g.design.inputs ++ ns) ++ gate_nets (g.design.gates ++ enable_gates g.design.nets 0 g.gates))
    (same_nets g.design.nets g.design.regs g.of each)
    ∙ ap (λ (ns : List ℕ). source_nets g.design ++ ns) (map-append (λ (h : Gate). h.out) g.design.gates (enable_gates g.design.nets 0 g.gates))

-- each net of the rewritten design has one driver
one_driver : (g : Gated) → AreGated g → (net : ℕ) → net < g.design.nets + length g.gates → driver_count (rewritten g) net ≡ 1
one_driver g are net lt =
    let all = ap (λ (ns : List ℕ). count_by (λ m. m == net) ns) (driven_with g are.each) in
    let outer = count_append (λ m. m == net) (source_nets g.design) (gate_nets g.design.gates ++ gate_nets (enable_gates g.design.nets 0 g.gates)) in
    let inner = count_append (λ m. m == net) (gate_nets g.design.gates) (gate_nets (enable_gates g.design.nets 0 g.gates)) in
    let old = count_append (λ m. m == net) (source_nets g.design) (gate_nets g.design.gates) in
    elim (cases_lt net g.design.nets) [
      | inl low ↦
          let one = are.sound.one_driver net low in
          let none = none_below g.design.nets 0 g.gates net (omega arith) in
          omega (arith, all, outer, inner, old, one, none)
      | inr high ↦
          let none = beyond_driven g.design net are.sound.in_range high in
          let one = one_within g.design.nets 0 g.gates net (omega arith) (omega arith) in
          omega (arith, all, outer, inner, old, one, none)
    ]

-- what is driven before a gate of the rewritten design: of the design's gates what was driven there
before_old : (g : Gated) (k n : ℕ) → length g.of ≡ length g.design.regs → k ≤ length g.design.gates
    → Contains (source_nets g.design ++ gate_nets (take k g.design.gates)) n
    → Contains (source_nets (rewritten g) ++ gate_nets (take k (rewritten g).gates)) n
unfolding rewritten
before_old g k n each le has =
    subst (λ (ns : List ℕ). Contains (g.design.inputs ++ ns ++ gate_nets (take k (g.design.gates ++ enable_gates g.design.nets 0 g.gates))) n)
    (sym (same_nets g.design.nets g.design.regs g.of each))
    (subst (λ (gs : List Gate). Contains (source_nets g.design ++ gate_nets gs) n)
    (sym (take-append-le k g.design.gates (enable_gates g.design.nets 0 g.gates) le)) has)

-- and of clock gates all that is driven in the design, and the earlier clock gates
before_new : (g : Gated) (j n : ℕ) → length g.of ≡ length g.design.regs
    → Contains (driven_nets g.design ++ gate_nets (take j (enable_gates g.design.nets 0 g.gates))) n
    → Contains (source_nets (rewritten g) ++ gate_nets (take (length g.design.gates + j) (rewritten g).gates)) n
unfolding rewritten
before_new g j n each has =
    let taken : gate_nets (take (length g.design.gates + j) (g.design.gates ++ enable_gates g.design.nets 0 g.gates)) ≡
    gate_nets g.design.gates ++ gate_nets (take j (enable_gates g.design.nets 0 g.gates)) =
    ap gate_nets (take-append-add g.design.gates (enable_gates g.design.nets 0 g.gates) j)
    ∙ map-append (λ (h : Gate). h.out) g.design.gates (take j (enable_gates g.design.nets 0 g.gates)) in
    let whole : driven_nets g.design ++ gate_nets (take j (enable_gates g.design.nets 0 g.gates)) ≡
    source_nets g.design ++ (gate_nets g.design.gates ++ gate_nets (take j (enable_gates g.design.nets 0 g.gates))) =
    append_assoc (source_nets g.design) (gate_nets g.design.gates) (gate_nets (take j (enable_gates g.design.nets 0 g.gates))) in
    subst (λ (ns : List ℕ). Contains (g.design.inputs ++ ns ++ gate_nets (take (length g.design.gates + j)
    (g.design.gates ++ enable_gates g.design.nets 0 g.gates))) n)
    (sym (same_nets g.design.nets g.design.regs g.of each))
    (subst (λ (ns : List ℕ). Contains (source_nets g.design ++ ns) n) (sym taken) (subst (λ (ns : List ℕ). Contains ns n) whole has))

-- nets of the design are driven before the gates of clock gates
nets_driven : (g : Gated) (j : ℕ) (ins : List ℕ) → AreGated g → AllBelow g.design.nets ins
    → All (Contains (driven_nets g.design ++ gate_nets (take j (enable_gates g.design.nets 0 g.gates)))) ins
nets_driven g j ins are below i o within =
    Contains-append_left (driven_nets g.design) (gate_nets (take j (enable_gates g.design.nets 0 g.gates))) (get_or ins i o)
    (counted_contains (get_or ins i o) (driven_nets g.design) (omega (arith, are.sound.one_driver (get_or ins i o) (below i o within))))

-- and so are the nets that the gate of a clock gate reads
enable_reads : (g : Gated) (j : ℕ) (ins : List ℕ) (parent : Option ℕ) → AreGated g → j < length g.gates → AllBelow g.design.nets ins → IsBelowIfAny j parent
    → All (Contains (driven_nets g.design ++ gate_nets (take j (enable_gates g.design.nets 0 g.gates)))) (enable_ins g.design.nets ins parent)
enable_reads g j ins None are lt below up = nets_driven g j ins are below
enable_reads g j ins (Some p) are lt below up =
    let x = item_at g.gates p (omega (arith, up)) in
    let parent = out_taken (enable_gates g.design.nets 0 g.gates) p j (enable_gate g.design.nets p x.0) up (enable_at g.design.nets g.gates p x.0 x.1) in
    let has : ℕ → Type 0 = Contains (driven_nets g.design ++ gate_nets (take j (enable_gates g.design.nets 0 g.gates))) in
    All-append has ins ((g.design.nets + p) ∷ []) (nets_driven g j ins are below)
    (All-cons has (g.design.nets + p) []
    (Contains-append_right (driven_nets g.design) (gate_nets (take j (enable_gates g.design.nets 0 g.gates))) (g.design.nets + p) parent) (All-nil has))

-- a gate of the rewritten design is in range and reads what is driven before it
gate_in_order : (g : Gated) → AreGated g → (k : ℕ) (h : Gate) → slice_get (g.design.gates ++ enable_gates g.design.nets 0 g.gates) k ≡ Some h
    → All (Contains (source_nets (rewritten g) ++ gate_nets (take k (rewritten g).gates))) h.ins
gate_in_order g are k h at = elim (at_append g.design.gates (enable_gates g.design.nets 0 g.gates) k h at) [
  | inl old ↦
      λ i o within. before_old g k (get_or h.ins i o) are.each (let lt = slice_get_within g.design.gates k h old in omega arith)
      (are.sound.in_order k h old i o within)
  | inr new ↦
      let from = enable_from g.design.nets g.gates new.0 h new.2 in
      let own = are.gates new.0 from.0 from.1 in
      let reads = enable_reads g new.0 from.0.ins from.0.parent are (slice_get_within g.gates new.0 from.0 from.1) own.ins own.parent in
      let here : All (Contains (source_nets (rewritten g) ++ gate_nets (take (length g.design.gates + new.0) (rewritten g).gates)))
      (enable_ins g.design.nets from.0.ins from.0.parent) =
      λ i o within. before_new g new.0 (get_or (enable_ins g.design.nets from.0.ins from.0.parent) i o) are.each (reads i o within) in
      subst (λ (m : ℕ). All (Contains (source_nets (rewritten g) ++ gate_nets (take m (rewritten g).gates))) h.ins) (sym new.1)
      (subst (λ (x : Gate). All (Contains (source_nets (rewritten g) ++ gate_nets (take (length g.design.gates + new.0) (rewritten g).gates))) x.ins) from.2
      here)
]

gate_in_range : (g : Gated) (more : Design) → AreGated g → more.nets ≡ g.design.nets + length g.gates → (k : ℕ) (h : Gate)
    → slice_get (g.design.gates ++ enable_gates g.design.nets 0 g.gates) k ≡ Some h → IsGateInRange more h
gate_in_range g more are nets k h at = elim (at_append g.design.gates (enable_gates g.design.nets 0 g.gates) k h at) [
  | inl old ↦ more_nets g.design more h (omega (arith, nets)) (All-at (IsGateInRange g.design) g.design.gates k h old are.sound.in_range.gates)
  | inr new ↦
      let from = enable_from g.design.nets g.gates new.0 h new.2 in
      let own = are.gates new.0 from.0 from.1 in
      let lt = slice_get_within g.gates new.0 from.0 from.1 in
      subst (IsGateInRange more) from.2
      (enable_fits g.design more from.0.func from.0.ins from.0.parent new.0 (omega (arith, nets, lt)) own.func own.ins own.few own.parent)
]

-- a gated register of a design with room has at most five pins
room_of : (g : Gated) (r : ℕ) (reg : Reg) (gate : Option ℕ) → AreGated g → HasRoom g → slice_get g.design.regs r ≡ Some reg → slice_get g.of r ≡ Some gate
    → (k : ℕ) → gate ≡ Some k → length reg.ins ≤ 5
room_of g r reg gate are room at there k is = elim (cases_eq (length reg.ins) 6) [
  | inl six ↦ absurd (room.pins r (record { reg = reg; gate = k; at = at; behind = there ∙ ap (λ (o : Option ℕ). Some o) is; pins = six }))
  | inr other ↦
      let few = (All-at (IsRegInRange g.design) g.design.regs r reg at are.sound.in_range.regs).few in omega arith
]

reg_in_range : (g : Gated) (more : Design) → AreGated g → HasRoom g → more.nets ≡ g.design.nets + length g.gates → (r : ℕ) (q : Reg)
    → slice_get (gated_regs g.design.nets g.design.regs g.of) r ≡ Some q → IsRegInRange more q
reg_in_range g more are room nets r q at =
    let from = reg_from g.design.nets g.design.regs g.of r q at in
    subst (IsRegInRange more) from.4
    (reg_fits g.design more (length g.gates) from.0 from.1 nets
    (All-at (IsBelowIfAny (length g.gates)) g.of r from.1 from.3 are.behind)
    (All-at (IsRegInRange g.design) g.design.regs r from.0 from.2 are.sound.in_range.regs)
    (room_of g r from.0 from.1 are room from.2 from.3))

-- the rewritten design is sound
pub rewritten_is_sound : (g : Gated) → AreGated g → HasRoom g → IsSound (rewritten g)
unfolding rewritten
rewritten_is_sound g are room =
    record {
      in_range = record {
        gates = all_from_places (IsGateInRange (rewritten g)) (g.design.gates ++ enable_gates g.design.nets 0 g.gates)
            (λ k lt h at. gate_in_range g (rewritten g) are refl k h at);
        regs = all_from_places (IsRegInRange (rewritten g)) (gated_regs g.design.nets g.design.regs g.of)
            (λ r lt q at. reg_in_range g (rewritten g) are room refl r q at);
        inputs = AllBelow-weaker g.design.nets (g.design.nets + length g.gates) g.design.inputs (omega arith) are.sound.in_range.inputs;
        outputs = AllBelow-weaker g.design.nets (g.design.nets + length g.gates) g.design.outputs (omega arith) are.sound.in_range.outputs;
        held = are.sound.in_range.held;
      };
      one_driver = one_driver g are;
      in_order = gate_in_order g are;
      once = are.sound.once;
      limits = record {
        nets = room.nets;
        regs = omega (arith, length-gated_regs g.design.nets g.design.regs g.of are.each, are.sound.limits.regs);
        inputs = are.sound.limits.inputs;
        outputs = are.sound.limits.outputs;
        reset_len = are.sound.limits.reset_len;
      };
    }
