-- The end is moved in the last layer exactly where there is a path through the sets.
use Rattle.std.proofs.Common.{◌≡◌, ℕ, zero, suc, ◌+◌, ◌<◌, ◌≤◌, Bool, true, false, cond, List, [], ◌∷◌}
use Rattle.std.proofs.Common.{length, drop, get_or, Some, refl, ap, subst, sym, ◌∙◌, arith, inl, inr, add-one, below_more}
use Rattle.std.specs.Prelude.{Contains, slice_get, slice_index, ◌↔◌}
use Rattle.std.proofs.lemmas.Bool.{cases_Bool, or_cases, or_left, or_right}
use Rattle.std.proofs.lemmas.List.{drop_more, drop_all}
use Rattle.std.proofs.lemmas.Option.{slice_get_within, slice_get-get_or, get_or_from_slice_get}
use Rattle.net_model.specs.Netlist.{IsSound, IsGateInRange, source_nets}
use Rattle.net_model.specs.Fits.{IsEndIn}
use Rattle.net_model.specs.Pins.{is_in, start_nets}
use Rattle.net_model.specs.Layers.{row_at, net_at, held_set, pin_reads, layer_pins}
use Rattle.net_model.specs.Paths.{LeadsTo, To_gate, Through_gate, To_reg, To_output, EndsAt, GoesOn, Meets, HasPath}
use Rattle.net_model.specs.Moved.{any_below, AreMoved, IsEndMoved}
use Rattle.net_model.proofs.Settling.{All-at}
use Rattle.net_model.proofs.LayersOnce.{contains_or}
use Rattle.net_model.proofs.NetOrder.{over_nets}
use Rattle.net_model.proofs.PinTests.{is_in-Contains, Contains-is_in}
use Rattle.net_model.specs.declared.netlist.Design.{Design}
use Rattle.net_model.specs.declared.netlist.Gate.{Gate}
use Rattle.net_model.specs.declared.netlist.Reg.{Reg}
use Rattle.net_model.specs.declared.claims.Claim.{Claim}
use Rattle.net_model.specs.declared.claims.Start.{Start}
use Rattle.net_model.specs.declared.claims.PinRef.{PinRef}
use Rattle.net_model.specs.declared.claims.PinRef.TheVariants.{Net, GateIn, RegIn, OutPort}
use Rattle.net_model.specs.declared.claims.End.{End}
use Rattle.net_model.specs.declared.claims.End.TheVariants.{Reg as RegEnd, Output as OutputEnd}

-- a path from the start comes to this pin, and has met the first so many sets there
data Comes (d : Design) (start : Start) (sets : List (List PinRef)) : ℕ → PinRef → Type 0 where
  At_start : (net : ℕ) → Contains (start_nets d start) net → Comes d start sets 0 (Net net)
  Goes_on : (l : ℕ) (pin next : PinRef) → Comes d start sets l pin → LeadsTo d pin next → Comes d start sets l next
  Meets_set : (l : ℕ) (pin : PinRef) (set : List PinRef) → Comes d start sets l pin → slice_get sets l ≡ Some set → Contains set pin
      → Comes d start sets (suc l) pin

meets_before : (sets : List (List PinRef)) (pin : PinRef) (path : List PinRef) → Meets sets path → Meets sets (pin ∷ path)
meets_before [] pin path meets = tt
meets_before (set ∷ sets) pin path (place, here, rest) = (suc place, here, rest)

left_at : (sets : List (List PinRef)) (l : ℕ) (set : List PinRef) → slice_get sets l ≡ Some set → drop l sets ≡ set ∷ drop (suc l) sets
left_at sets l set at =
    drop_more sets l [] (slice_get_within sets l set at)
    ∙ (ap (λ (s : List PinRef). s ∷ drop (l + 1) sets) (get_or_from_slice_get sets l set [] at)
    ∙ ap (λ (m : ℕ). set ∷ drop m sets) (add-one l))

-- what goes on from a pin that a path has come to is a path
path_through : (d : Design) (start : Start) (end_ : End) (sets : List (List PinRef)) (l : ℕ) (pin : PinRef) (rest : List PinRef) → Comes d start sets l pin
    → GoesOn d end_ pin rest → Meets (drop l sets) (pin ∷ rest) → HasPath d start end_ sets
path_through d start end_ sets _ _ rest (At_start net has) goes meets = (Net net ∷ rest, ((net, has, refl), goes), meets)
path_through d start end_ sets _ _ rest (Goes_on l pin next comes leads) goes meets =
    path_through d start end_ sets l pin (next ∷ rest) comes (leads, goes) (meets_before (drop l sets) pin (next ∷ rest) meets)
path_through d start end_ sets _ _ rest (Meets_set l pin set comes at has) goes meets =
    path_through d start end_ sets l pin rest comes goes
    (subst (λ (s : List (List PinRef)). Meets s (pin ∷ rest)) (sym (left_at sets l set at)) (0, (pin, refl, has), meets))

-- a path comes to a pin of the end with all sets met
record Arrives (d : Design) (start : Start) (end_ : End) (sets : List (List PinRef)) : Type 0 where
  pin : PinRef
  comes : Comes d start sets (length sets) pin
  ends : EndsAt d end_ pin

-- along a path to the pin at a place of it
record Walked (d : Design) (start : Start) (end_ : End) (sets : List (List PinRef)) (l place : ℕ) (path : List PinRef) (at : PinRef) : Type 0 where
  rest : List PinRef
  comes : Comes d start sets l at
  goes : GoesOn d end_ at rest
  left : drop place path ≡ at ∷ rest

walk : (d : Design) (start : Start) (end_ : End) (sets : List (List PinRef)) (l place : ℕ) (pin : PinRef) (rest : List PinRef) (at : PinRef)
    → Comes d start sets l pin → GoesOn d end_ pin rest → slice_get (pin ∷ rest) place ≡ Some at → Walked d start end_ sets l place (pin ∷ rest) at
walk d start end_ sets l zero pin rest at comes goes is =
    let same : pin ≡ at = cc in
    subst (λ (p : PinRef). Walked d start end_ sets l zero (pin ∷ rest) p) same (record { rest = rest; comes = comes; goes = goes; left = refl })
walk d start end_ sets l (suc place) pin [] at comes goes is = cc
walk d start end_ sets l (suc place) pin (next ∷ rest) at comes (leads, goes) is =
    let more = walk d start end_ sets l place next rest at (Goes_on l pin next comes leads) goes is in
    record { rest = more.rest; comes = more.comes; goes = more.goes; left = more.left }

to_end : (d : Design) (start : Start) (end_ : End) (sets : List (List PinRef)) (pin : PinRef) (rest : List PinRef) → Comes d start sets (length sets) pin
    → GoesOn d end_ pin rest → Arrives d start end_ sets
to_end d start end_ sets pin [] comes goes = record { pin = pin; comes = comes; ends = goes }
to_end d start end_ sets pin (next ∷ rest) comes (leads, goes) =
    to_end d start end_ sets next rest (Goes_on (length sets) pin next comes leads) goes

-- these sets are those from number l on
record AreLeft (sets left : List (List PinRef)) (l : ℕ) : Type 0 where
  count : l + length left ≡ length sets
  at : (j : ℕ) → slice_get left j ≡ slice_get sets (l + j)

left_more : (sets : List (List PinRef)) (set : List PinRef) (left : List (List PinRef)) (l : ℕ) → AreLeft sets (set ∷ left) l → AreLeft sets left (suc l)
left_more sets set left l are =
    record {
      count = omega (arith, are.count);
      at = λ j. are.at (suc j) ∙ ap (λ (k : ℕ). slice_get sets k) (let e : l + suc j ≡ suc l + j = omega arith in e);
    }

arrive : (d : Design) (start : Start) (end_ : End) (sets left : List (List PinRef)) (l : ℕ) (pin : PinRef) (rest : List PinRef) → AreLeft sets left l
    → Comes d start sets l pin → GoesOn d end_ pin rest → Meets left (pin ∷ rest) → Arrives d start end_ sets
arrive d start end_ sets [] l pin rest are comes goes meets =
    let all : l ≡ length sets = omega (arith, are.count) in
    to_end d start end_ sets pin rest (subst (λ (m : ℕ). Comes d start sets m pin) all comes) goes
arrive d start end_ sets (set ∷ left) l pin rest are comes goes (place, (at, here, has), later) =
    let w = walk d start end_ sets l place pin rest at comes goes here in
    let e : l + 0 ≡ l = omega arith in
    let this : slice_get sets l ≡ Some set = ap (λ (k : ℕ). slice_get sets k) (sym e) ∙ sym (are.at 0) in
    arrive d start end_ sets left (suc l) at w.rest (left_more sets set left l are) (Meets_set l at set w.comes this has) w.goes
    (subst (Meets left) w.left later)

arrives : (d : Design) (start : Start) (end_ : End) (sets : List (List PinRef)) → HasPath d start end_ sets → Arrives d start end_ sets
arrives d start end_ sets ([], is_path, meets) = absurd is_path
arrives d start end_ sets (pin ∷ rest, ((net, has, is), goes), meets) =
    arrive d start end_ sets sets 0 pin rest
    (record { count = omega arith; at = λ j. ap (λ (k : ℕ). slice_get sets k) (let e : j ≡ 0 + j = omega arith in e) })
    (subst (Comes d start sets 0) (sym is) (At_start net has)) goes meets

any_one : (n : ℕ) (f : ℕ → Bool) (i : ℕ) → i < n → f i ≡ true → any_below n f ≡ true
any_one zero f i lt is = absurd (omega arith)
any_one (suc n) f i lt is =
    below_more (λ j. f j ≡ true → any_below (suc n) f ≡ true) n
    (λ j low here. or_left (any_below n f) (f n) (any_one n f j low here))
    (λ here. or_right (any_below n f) (f n) here)
    i (omega arith) is

some_below : (n : ℕ) (f : ℕ → Bool) → any_below n f ≡ true → (i : ℕ) × (i < n) × (f i ≡ true)
some_below zero f is = cc
some_below (suc n) f is =
    elim (or_cases (any_below n f) (f n) is) [
      | inl below ↦ let more = some_below n f below in (more.0, omega (arith, more.1), more.2)
      | inr here ↦ (n, omega arith, here)
    ]

-- what a pin reads in a layer is moved
abbrev ReadsMoved : Design → List (List PinRef) → List (List Bool) → ℕ → PinRef → Type 0
ReadsMoved d sets rows l (Net n) = net_at false rows l n ≡ true
ReadsMoved d sets rows l (GateIn k i) =
    (g : Gate) × (slice_get d.gates k ≡ Some g) × (i < length g.ins) × (pin_reads false sets rows l (GateIn k i) (slice_index g.ins i) ≡ true)
ReadsMoved d sets rows l (RegIn r i) =
    (reg : Reg) × (slice_get d.regs r ≡ Some reg) × (i < length reg.ins) × (pin_reads false sets rows l (RegIn r i) (slice_index reg.ins i) ≡ true)
ReadsMoved d sets rows l (OutPort o) =
    (o < length d.outputs) × (pin_reads false sets rows l (OutPort o) (slice_index d.outputs o) ≡ true)

reads_held : (sets : List (List PinRef)) (rows : List (List Bool)) (l : ℕ) (pin : PinRef) (net : ℕ) → is_in pin (held_set sets (suc l)) ≡ true
    → pin_reads false sets rows (suc l) pin net ≡ pin_reads false sets rows l pin net
reads_held sets rows l pin net is =
    ap (λ (b : Bool). cond b (pin_reads false sets rows l pin net) (net_at false rows (suc l) net)) is

reads_net : (sets : List (List PinRef)) (rows : List (List Bool)) (l : ℕ) (pin : PinRef) (net : ℕ) → is_in pin (held_set sets (suc l)) ≡ false
    → pin_reads false sets rows (suc l) pin net ≡ net_at false rows (suc l) net
reads_net sets rows l pin net is =
    ap (λ (b : Bool). cond b (pin_reads false sets rows l pin net) (net_at false rows (suc l) net)) is

-- a pin on a net that is moved in all layers up to one reads it moved in each of them
pin_moved : (sets : List (List PinRef)) (rows : List (List Bool)) (l : ℕ) (pin : PinRef) (net : ℕ) → ((m : ℕ) → m ≤ l → net_at false rows m net ≡ true)
    → (m : ℕ) → m ≤ l → pin_reads false sets rows m pin net ≡ true
pin_moved sets rows l pin net all zero le = all 0 le
pin_moved sets rows l pin net all (suc m) le =
    elim (cases_Bool (is_in pin (held_set sets (suc m)))) [
      | inl held ↦ reads_held sets rows m pin net held ∙ pin_moved sets rows l pin net all m (omega arith)
      | inr free ↦ reads_net sets rows m pin net free ∙ all (suc m) le
    ]

true_low : (xs : List Bool) (n : ℕ) → get_or xs n false ≡ true → n < length xs
true_low [] n is = cc
true_low (x ∷ xs) zero is = omega arith
true_low (x ∷ xs) (suc n) is = let more = true_low xs n is in omega (arith, more)

-- a moved net is one of the design
moved_low : (d : Design) (claim : Claim) (rows : List (List Bool)) (l n : ℕ) → AreMoved d claim rows → l ≤ length claim.through
    → net_at false rows l n ≡ true → n < d.nets
moved_low d claim rows l n are le is =
    let low = true_low (row_at rows l) n is in
    let len : length (row_at rows l) ≡ d.nets = are.lens l [] (omega (arith, are.count)) in
    omega (arith, low, len)

held_next : (d : Design) (claim : Claim) (rows : List (List Bool)) (l n : ℕ) → AreMoved d claim rows → l < length claim.through → n < d.nets
    → is_in (Net n) (held_set claim.through (suc l)) ≡ true → net_at false rows (suc l) n ≡ net_at false rows l n
held_next d claim rows l n are lt low is =
    subst (λ (m : ℕ). net_at false rows m n ≡ net_at false rows l n) (add-one l) (are.held l lt n low is)

source_next : (d : Design) (claim : Claim) (rows : List (List Bool)) (l n : ℕ) → AreMoved d claim rows → l < length claim.through
    → Contains (source_nets d) n → is_in (Net n) (held_set claim.through (suc l)) ≡ false → net_at false rows (suc l) n ≡ false
source_next d claim rows l n are lt has is =
    subst (λ (m : ℕ). net_at false rows m n ≡ false) (add-one l) (are.sources l lt n has is)

gate_range : (d : Design) (k : ℕ) (g : Gate) → IsSound d → slice_get d.gates k ≡ Some g → IsGateInRange d g
gate_range d k g sound at = All-at (IsGateInRange d) d.gates k g at sound.in_range.gates

-- the output of a gate is moved where one of its pins is, in the layers up to one
out_moved : (d : Design) (claim : Claim) (rows : List (List Bool)) (l k i : ℕ) (g : Gate) → IsSound d → AreMoved d claim rows → l ≤ length claim.through
    → slice_get d.gates k ≡ Some g → i < length g.ins → ((m : ℕ) → m ≤ l → pin_reads false claim.through rows m (GateIn k i) (slice_index g.ins i) ≡ true)
    → (m : ℕ) → m ≤ l → net_at false rows m g.out ≡ true
out_moved d claim rows l k i g sound are le at lt all zero low =
    are.gates 0 (omega arith) k g at refl ∙ any_one (length g.ins) (layer_pins false claim.through rows 0 k g.ins) i lt (all 0 low)
out_moved d claim rows l k i g sound are le at lt all (suc m) low =
    elim (cases_Bool (is_in (Net g.out) (held_set claim.through (suc m)))) [
      | inl held ↦
          held_next d claim rows m g.out are (omega arith) (gate_range d k g sound at).out held
          ∙ out_moved d claim rows l k i g sound are le at lt all m (omega arith)
      | inr free ↦ are.gates (suc m) (omega arith) k g at free ∙ any_one (length g.ins) (layer_pins false claim.through rows (suc m) k g.ins) i lt
          (all (suc m) low)
    ]

same_gate : (d : Design) (k : ℕ) (g h : Gate) → slice_get d.gates k ≡ Some g → slice_get d.gates k ≡ Some h → g ≡ h
same_gate d k g h a b = cc

-- what is moved in the layers up to one leads to what is moved in them
next_moved : (d : Design) (claim : Claim) (rows : List (List Bool)) (l : ℕ) (pin next : PinRef) → IsSound d → AreMoved d claim rows
    → l ≤ length claim.through → LeadsTo d pin next → ((m : ℕ) → m ≤ l → ReadsMoved d claim.through rows m pin) → (m : ℕ) → m ≤ l
    → ReadsMoved d claim.through rows m next
next_moved d claim rows l _ _ sound are le (To_gate k g i at here) all m low =
    (g, at, here, pin_moved claim.through rows l (GateIn k i) (slice_index g.ins i) all m low)
next_moved d claim rows l _ _ sound are le (Through_gate k g i at here) all m low =
    out_moved d claim rows l k i g sound are le at here
    (λ j lj. let own = all j lj in subst (λ (h : Gate). pin_reads false claim.through rows j (GateIn k i) (slice_index h.ins i) ≡ true)
    (same_gate d k own.0 g own.1 at) own.3)
    m low
next_moved d claim rows l _ _ sound are le (To_reg r reg i at here) all m low =
    (reg, at, here, pin_moved claim.through rows l (RegIn r i) (slice_index reg.ins i) all m low)
next_moved d claim rows l _ _ sound are le (To_output o here) all m low =
    (here, pin_moved claim.through rows l (OutPort o) (slice_index d.outputs o) all m low)

-- a pin of a layer's set reads what it reads in the layer before
met_moved : (d : Design) (claim : Claim) (rows : List (List Bool)) (l : ℕ) (pin : PinRef) → AreMoved d claim rows → l < length claim.through
    → is_in pin (held_set claim.through (suc l)) ≡ true → ReadsMoved d claim.through rows l pin → ReadsMoved d claim.through rows (suc l) pin
met_moved d claim rows l (Net n) are lt is moved =
    held_next d claim rows l n are lt (moved_low d claim rows l n are (omega arith) moved) is ∙ moved
met_moved d claim rows l (GateIn k i) are lt is (g, at, here, moved) =
    (g, at, here, reads_held claim.through rows l (GateIn k i) (slice_index g.ins i) is ∙ moved)
met_moved d claim rows l (RegIn r i) are lt is (reg, at, here, moved) =
    (reg, at, here, reads_held claim.through rows l (RegIn r i) (slice_index reg.ins i) is ∙ moved)
met_moved d claim rows l (OutPort o) are lt is (here, moved) =
    (here, reads_held claim.through rows l (OutPort o) (slice_index d.outputs o) is ∙ moved)

in_held : (sets : List (List PinRef)) (l : ℕ) (pin : PinRef) (set : List PinRef) → slice_get sets l ≡ Some set → Contains set pin
    → is_in pin (held_set sets (suc l)) ≡ true
in_held sets l pin set at has =
    ap (is_in pin) (get_or_from_slice_get sets l set [] at) ∙ is_in-Contains pin set has

-- where a path comes with so many sets met, it is moved in that layer and those before it
come_moved : (d : Design) (claim : Claim) (rows : List (List Bool)) (l : ℕ) (pin : PinRef) → IsSound d → AreMoved d claim rows
    → Comes d claim.start claim.through l pin → l ≤ length claim.through → (m : ℕ) → m ≤ l → ReadsMoved d claim.through rows m pin
come_moved d claim rows _ _ sound are (At_start net has) le m low =
    let e : 0 ≡ m = omega arith in subst (λ (j : ℕ). net_at false rows j net ≡ true) e (are.late net has)
come_moved d claim rows _ _ sound are (Goes_on l pin next comes leads) le m low =
    next_moved d claim rows l pin next sound are le leads (come_moved d claim rows l pin sound are comes le) m low
come_moved d claim rows _ _ sound are (Meets_set l pin set comes at has) le m low =
    let before = come_moved d claim rows l pin sound are comes (omega arith) in
    below_more (λ j. ReadsMoved d claim.through rows j pin) (suc l)
    (λ j lt. before j (omega arith))
    (met_moved d claim rows l pin are (omega arith) (in_held claim.through l pin set at has) (before l (omega arith)))
    m (omega arith)

-- what a layer's set has is met there
meets_held : (d : Design) (claim : Claim) (l : ℕ) (pin : PinRef) → l < length claim.through → is_in pin (held_set claim.through (suc l)) ≡ true
    → Comes d claim.start claim.through l pin → Comes d claim.start claim.through (suc l) pin
meets_held d claim l pin lt is comes =
    Meets_set l pin (get_or claim.through l []) comes (slice_get-get_or claim.through l [] lt) (Contains-is_in pin (get_or claim.through l []) is)

-- a path comes to each moved net of a layer with its sets met
abbrev NetsCome : Design → Claim → List (List Bool) → ℕ → Type 0
NetsCome d claim rows l = l ≤ length claim.through → (n : ℕ) → net_at false rows l n ≡ true → Comes d claim.start claim.through l (Net n)

-- so to a pin that reads it
pin_comes : (d : Design) (claim : Claim) (rows : List (List Bool)) (l : ℕ) (pin : PinRef) (net : ℕ) → LeadsTo d (Net net) pin → l ≤ length claim.through
    → ((m : ℕ) → m ≤ l → net_at false rows m net ≡ true → Comes d claim.start claim.through m (Net net))
    → pin_reads false claim.through rows l pin net ≡ true → Comes d claim.start claim.through l pin
pin_comes d claim rows zero pin net leads le nets is = Goes_on 0 (Net net) pin (nets 0 (omega arith) is) leads
pin_comes d claim rows (suc l) pin net leads le nets is =
    elim (cases_Bool (is_in pin (held_set claim.through (suc l)))) [
      | inl held ↦ meets_held d claim l pin (omega arith) held
          (pin_comes d claim rows l pin net leads (omega arith) (λ m low. nets m (omega arith)) (sym (reads_held claim.through rows l pin net held) ∙ is))
      | inr free ↦ Goes_on (suc l) (Net net) pin (nets (suc l) (omega arith) (sym (reads_net claim.through rows l pin net free) ∙ is)) leads
    ]

not_both : {X : Type 0} (b : Bool) → b ≡ true → b ≡ false → X
not_both b on off = let wrong : true ≡ false = sym on ∙ off in absurd cc

source_comes : (d : Design) (claim : Claim) (rows : List (List Bool)) (l : ℕ) → AreMoved d claim rows → ((m : ℕ) → m < l → NetsCome d claim rows m)
    → l ≤ length claim.through → (n : ℕ) → Contains (source_nets d) n → net_at false rows l n ≡ true → Comes d claim.start claim.through l (Net n)
source_comes d claim rows zero are lower le n has is =
    elim (contains_or (start_nets d claim.start) n) [
      | inl starts ↦ At_start n starts
      | inr none ↦ not_both (net_at false rows 0 n) is (are.others n has none)
    ]
source_comes d claim rows (suc l) are lower le n has is =
    elim (cases_Bool (is_in (Net n) (held_set claim.through (suc l)))) [
      | inl held ↦ meets_held d claim l (Net n) (omega arith) held
          (lower l (omega arith) (omega arith) n (sym (held_next d claim rows l n are (omega arith) (moved_low d claim rows (suc l) n are le is) held) ∙ is))
      | inr free ↦ not_both (net_at false rows (suc l) n) is (source_next d claim rows l n are (omega arith) has free)
    ]

-- out of a gate, by the pin that reads a moved net
out_comes : (d : Design) (claim : Claim) (rows : List (List Bool)) (l k : ℕ) (g : Gate) → AreMoved d claim rows
    → ((m : ℕ) → m < l → NetsCome d claim rows m) → l ≤ length claim.through → slice_get d.gates k ≡ Some g
    → ((i : ℕ) → i < length g.ins → net_at false rows l (slice_index g.ins i) ≡ true → Comes d claim.start claim.through l (Net (slice_index g.ins i)))
    → net_at false rows l g.out ≡ true → is_in (Net g.out) (held_set claim.through l) ≡ false → Comes d claim.start claim.through l (Net g.out)
out_comes d claim rows l k g are lower le at ins is free =
    let some = some_below (length g.ins) (layer_pins false claim.through rows l k g.ins) (sym (are.gates l le k g at free) ∙ is) in
    let net = slice_index g.ins some.0 in
    let nets : (m : ℕ) → m ≤ l → net_at false rows m net ≡ true → Comes d claim.start claim.through m (Net net) =
    λ m low moved. below_more (λ j. net_at false rows j net ≡ true → Comes d claim.start claim.through j (Net net)) l
    (λ j lt here. lower j lt (omega arith) net here) (ins some.0 some.1) m (omega arith) moved in
    Goes_on l (GateIn k some.0) (Net g.out)
    (pin_comes d claim rows l (GateIn k some.0) net (To_gate k g some.0 at some.1) le nets some.2)
    (Through_gate k g some.0 at some.1)

gate_comes : (d : Design) (claim : Claim) (rows : List (List Bool)) (l k : ℕ) (g : Gate) → AreMoved d claim rows
    → ((m : ℕ) → m < l → NetsCome d claim rows m) → l ≤ length claim.through → slice_get d.gates k ≡ Some g
    → ((i : ℕ) → i < length g.ins → net_at false rows l (slice_index g.ins i) ≡ true → Comes d claim.start claim.through l (Net (slice_index g.ins i)))
    → net_at false rows l g.out ≡ true → Comes d claim.start claim.through l (Net g.out)
gate_comes d claim rows zero k g are lower le at ins is = out_comes d claim rows zero k g are lower le at ins is refl
gate_comes d claim rows (suc l) k g are lower le at ins is =
    elim (cases_Bool (is_in (Net g.out) (held_set claim.through (suc l)))) [
      | inl held ↦ meets_held d claim l (Net g.out) (omega arith) held
          (lower l (omega arith) (omega arith) g.out (sym
          (held_next d claim rows l g.out are (omega arith) (moved_low d claim rows (suc l) g.out are le is) held) ∙ is))
      | inr free ↦ out_comes d claim rows (suc l) k g are lower le at ins is free
    ]

layer_comes : (d : Design) (claim : Claim) (rows : List (List Bool)) (l : ℕ) → IsSound d → AreMoved d claim rows
    → ((m : ℕ) → m < l → NetsCome d claim rows m) → NetsCome d claim rows l
layer_comes d claim rows l sound are lower le n is =
    over_nets d (λ n. net_at false rows l n ≡ true → Comes d claim.start claim.through l (Net n)) sound
    (source_comes d claim rows l are lower le)
    (λ k g at ins moved. gate_comes d claim rows l k g are lower le at (λ i lt. ins i 0 lt) moved)
    n (moved_low d claim rows l n are le is) is

nets_come : (d : Design) (claim : Claim) (rows : List (List Bool)) → IsSound d → AreMoved d claim rows → (l : ℕ) → (m : ℕ) → m < l → NetsCome d claim rows m
nets_come d claim rows sound are zero m lt = absurd (omega arith)
nets_come d claim rows sound are (suc l) m lt =
    let lower = nets_come d claim rows sound are l in
    below_more (NetsCome d claim rows) l lower (layer_comes d claim rows l sound are lower) m (omega arith)

-- a pin of the end to which a path comes through all sets is moved
end_moved : (d : Design) (sets : List (List PinRef)) (rows : List (List Bool)) (end_ : End) (pin : PinRef) → EndsAt d end_ pin
    → ReadsMoved d sets rows (length sets) pin → IsEndMoved d sets rows end_
end_moved d sets rows (RegEnd r) pin ends moved =
    let own = subst (ReadsMoved d sets rows (length sets)) ends.1 moved in (own.0, own.1, (ends.0, own.2, own.3))
end_moved d sets rows (OutputEnd o) pin ends moved = (subst (ReadsMoved d sets rows (length sets)) ends moved).1

-- to a moved pin of the end there is a path
end_path : (d : Design) (claim : Claim) (rows : List (List Bool)) (end_ : End) → IsSound d → IsEndIn d end_ → AreMoved d claim rows
    → IsEndMoved d claim.through rows end_ → HasPath d claim.start end_ claim.through
end_path d claim rows (RegEnd r) sound is are (reg, at, (i, lt, moved)) =
    let last = length claim.through in
    let comes = pin_comes d claim rows last (RegIn r i) (slice_index reg.ins i) (To_reg r reg i at lt) (omega arith)
    (λ m low. nets_come d claim rows sound are (last + 1) m (omega arith) (omega arith) (slice_index reg.ins i)) moved in
    path_through d claim.start (RegEnd r) claim.through last (RegIn r i) [] comes (i, refl)
    (subst (λ (s : List (List PinRef)). Meets s (RegIn r i ∷ [])) (sym (drop_all last claim.through (omega arith))) tt)
end_path d claim rows (OutputEnd o) sound is are moved =
    let last = length claim.through in
    let comes = pin_comes d claim rows last (OutPort o) (slice_index d.outputs o) (To_output o is) (omega arith)
    (λ m low. nets_come d claim rows sound are (last + 1) m (omega arith) (omega arith) (slice_index d.outputs o)) moved in
    path_through d claim.start (OutputEnd o) claim.through last (OutPort o) [] comes refl
    (subst (λ (s : List (List PinRef)). Meets s (OutPort o ∷ [])) (sym (drop_all last claim.through (omega arith))) tt)

-- the end is moved in the last layer exactly where there is a path through the sets
pub moved_where_path : (d : Design) (claim : Claim) (rows : List (List Bool)) → IsSound d → IsEndIn d claim.end → AreMoved d claim rows
    → (IsEndMoved d claim.through rows claim.end ↔ HasPath d claim.start claim.end claim.through)
moved_where_path d claim rows sound is are = (
  end_path d claim rows claim.end sound is are,
  λ path.
      let there = arrives d claim.start claim.end claim.through path in
      end_moved d claim.through rows claim.end there.pin there.ends
      (come_moved d claim rows (length claim.through) there.pin sound are there.comes (omega arith) (length claim.through) (omega arith)),
)
