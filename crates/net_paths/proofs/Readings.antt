-- Lists of readers that grow pin by pin.
use Rattle.std.proofs.Common.{arith, ◌≡◌, ◌≢◌, ℕ, zero, suc, ◌+◌, ◌<◌, ◌≤◌, List, [], ◌∷◌, ◌++◌, length, set, refl, sym, ap, ◌∙◌, subst, ◌⊎◌, inl}
use Rattle.std.proofs.Common.{inr, get_or-set_same, get_or-set_other, length-set, replicate}
use Rattle.std.specs.Prelude.{Some, slice_get, slice_index, Contains}
use Rattle.std.proofs.lemmas.Bool.{cases_lt, cases_eq}
use Rattle.std.proofs.lemmas.Option.{slice_get_within}
use Rattle.std.proofs.lemmas.List.{length-replicate}
use Rattle.std.proofs.lemmas.List.Elements.{Contains-append_left, Contains-append_right, Contains-append_cases}
use Rattle.net_model.specs.Paths.{LeadsTo, To_gate, To_reg, To_output}
use Rattle.net_model.specs.declared.netlist.Design.{Design}
use Rattle.net_model.specs.declared.netlist.Gate.{Gate}
use Rattle.net_model.specs.declared.netlist.Reg.{Reg}
use Rattle.net_model.specs.declared.claims.PinRef.{PinRef}
use Rattle.net_model.specs.declared.claims.PinRef.TheVariants.{Net, GateIn, RegIn, OutPort}
use Rattle.net_paths.specs.Readers.{readers_at, AreReadersOf, AreReaders, IsAdded, NoPin, IsGatePin, IsRegPin, IsPortPin}
use Rattle.net_paths.proofs.Reaching.{Into_gate, Out_of_gate, Into_reg, Into_port, lead_of}
use Rattle.net_paths.proofs.Growing.{some_is, gate_of_pin}

only_pin : (x p : PinRef) → Contains (x ∷ []) p → x ≡ p
only_pin x p (zero, below, is) = is
only_pin x p (suc i, below, is) = absurd (omega arith)

row_same : (old new : List (List PinRef)) (net n : ℕ) (pin : PinRef) → net < length old → n ≡ net → IsAdded net pin old new
    → readers_at new n ≡ readers_at old n ++ pin ∷ []
row_same old new net n pin within same added =
    ap (λ (l : List (List PinRef)). readers_at l n) added ∙ ap (readers_at (set old net (readers_at old net ++ pin ∷ []))) same
    ∙ get_or-set_same old net (readers_at old net ++ pin ∷ []) [] within
    ∙ ap (λ q. readers_at old q ++ pin ∷ []) (sym same)

row_other : (old new : List (List PinRef)) (net n : ℕ) (pin : PinRef) → n ≢ net → IsAdded net pin old new → readers_at new n ≡ readers_at old n
row_other old new net n pin differs added = ap (λ (l : List (List PinRef)). readers_at l n) added ∙ get_or-set_other old net n
    (readers_at old net ++ pin ∷ []) [] differs

-- one more pin, which only this net leads to
pub reader_added : (d : Design) (Looked More : PinRef → Type 0) (net : ℕ) (pin : PinRef) (old new : List (List PinRef)) → net < d.nets
    → LeadsTo d (Net net) pin → ((n : ℕ) → LeadsTo d (Net n) pin → n ≡ net)
    → ((p : PinRef) → More p → Looked p ⊎ (p ≡ pin)) → AreReadersOf d Looked old → IsAdded net pin old new → AreReadersOf d More new
reader_added d Looked More net pin old new below leads one split are added =
    let within : net < length old = subst (λ n. net < n) (sym are.len) below in
    record {
      len = ap length added ∙ length-set old net (readers_at old net ++ pin ∷ []) ∙ are.len;
      reads = λ n p has. elim (cases_eq n net) [
        | inl same ↦ elim (Contains-append_cases (readers_at old n) (pin ∷ []) p
            (subst (λ (l : List PinRef). Contains l p) (row_same old new net n pin within same added) has)) [
              | inl earlier ↦ are.reads n p earlier
              | inr last ↦ subst (λ q. LeadsTo d (Net q) p) (sym same) (subst (LeadsTo d (Net net)) (only_pin pin p last) leads)
            ]
        | inr differs ↦ are.reads n p (subst (λ (l : List PinRef). Contains l p) (row_other old new net n pin differs added) has)
      ];
      all = λ n p lead more. elim (split p more) [
        | inl looked ↦
            let old_has : Contains (readers_at old n) p = are.all n p lead looked in
            elim (cases_eq n net) [
              | inl same ↦ subst (λ (l : List PinRef). Contains l p) (sym (row_same old new net n pin within same added))
                  (Contains-append_left (readers_at old n) (pin ∷ []) p old_has)
              | inr differs ↦ subst (λ (l : List PinRef). Contains l p) (sym (row_other old new net n pin differs added)) old_has
            ]
        | inr is ↦
            let same : n ≡ net = one n (subst (LeadsTo d (Net n)) is lead) in
            subst (λ (l : List PinRef). Contains l p) (sym (row_same old new net n pin within same added))
            (Contains-append_right (readers_at old n) (pin ∷ []) p (0, omega arith, sym is))
      ];
    }

pub readers_fewer : (d : Design) (Looked More : PinRef → Type 0) (rows : List (List PinRef))
    → ((n : ℕ) (p : PinRef) → LeadsTo d (Net n) p → More p → Looked p) → AreReadersOf d Looked rows → AreReadersOf d More rows
readers_fewer d Looked More rows fewer are = record { len = are.len; reads = are.reads; all = λ n p lead more. are.all n p lead (fewer n p lead more) }

-- the register of a pin that a net leads to, and the output port
pub reg_of_pin : (d : Design) (net r i : ℕ) → LeadsTo d (Net net) (RegIn r i) → (reg : Reg) × (slice_get d.regs r ≡ Some reg) × (i < length reg.ins)
    × (slice_index reg.ins i ≡ net)
reg_of_pin d net r i leads =
    elim (lead_of d (Net net) (RegIn r i) leads) [
      | Into_gate j g p at here from to ↦ absurd (grind arith)
      | Out_of_gate j g p at here from to ↦ absurd (grind arith)
      | Into_reg q reg p at here from to ↦
          let same_reg : q ≡ r = grind arith in
          let same_place : p ≡ i = grind arith in
          let same_net : slice_index reg.ins p ≡ net = grind arith in (
            reg,
            subst (λ n. slice_get d.regs n ≡ Some reg) same_reg at,
            subst (λ n. n < length reg.ins) same_place here,
            subst (λ n. slice_index reg.ins n ≡ net) same_place same_net,
          )
      | Into_port o here from to ↦ absurd (grind arith)
    ]

pub port_of_pin : (d : Design) (net o : ℕ) → LeadsTo d (Net net) (OutPort o) → (o < length d.outputs) × (slice_index d.outputs o ≡ net)
port_of_pin d net o leads =
    elim (lead_of d (Net net) (OutPort o) leads) [
      | Into_gate j g p at here from to ↦ absurd (grind arith)
      | Out_of_gate j g p at here from to ↦ absurd (grind arith)
      | Into_reg q reg p at here from to ↦ absurd (grind arith)
      | Into_port q here from to ↦
          let same : q ≡ o = grind arith in
          let same_net : slice_index d.outputs q ≡ net = grind arith in
          (subst (λ n. n < length d.outputs) same here, subst (λ n. slice_index d.outputs n ≡ net) same same_net)
    ]

net_only_pin : (d : Design) (n m : ℕ) → LeadsTo d (Net n) (Net m) → ⊥
net_only_pin d n m leads =
    elim (lead_of d (Net n) (Net m) leads) [
      | Into_gate j g p at here from to ↦ grind arith
      | Out_of_gate j g p at here from to ↦ grind arith
      | Into_reg q reg p at here from to ↦ grind arith
      | Into_port q here from to ↦ grind arith
    ]

next_gate_pin : (k i : ℕ) (p : PinRef) → IsGatePin k (i + 1) p → IsGatePin k i p ⊎ (p ≡ GateIn k i)
next_gate_pin k i (Net n) more = absurd more
next_gate_pin k i (GateIn j q) (inl earlier) = inl (inl earlier)
next_gate_pin k i (GateIn j q) (inr (same, low)) = elim (cases_lt q i) [
  | inl less ↦ inl (inr (same, less))
  | inr past ↦ let here : q ≡ i = omega (arith, low, past) in inr (ap (λ a. GateIn a q) same ∙ ap (GateIn k) here)
]
next_gate_pin k i (RegIn r q) more = absurd more
next_gate_pin k i (OutPort o) more = absurd more

pub gate_pin_added : (d : Design) (k i net : ℕ) (g : Gate) (old new : List (List PinRef)) → slice_get d.gates k ≡ Some g → i < length g.ins
    → slice_index g.ins i ≡ net → net < d.nets
    → AreReadersOf d (IsGatePin k i) old → IsAdded net (GateIn k i) old new → AreReadersOf d (IsGatePin k (i + 1)) new
gate_pin_added d k i net g old new at low from below are added =
    reader_added d (IsGatePin k i) (IsGatePin k (i + 1)) net (GateIn k i) old new below
    (subst (λ n. LeadsTo d (Net n) (GateIn k i)) from (To_gate k g i at low))
    (λ n lead.
    let (h, at', low', from') = gate_of_pin d n k i (GateIn k i) lead refl in
    let same : h ≡ g = some_is h g (sym at' ∙ at) in
    sym from' ∙ ap (λ (q : Gate). slice_index q.ins i) same ∙ from)
    (next_gate_pin k i) are added

all_gate_pins : (d : Design) (k : ℕ) (g : Gate) (n : ℕ) (p : PinRef) → slice_get d.gates k ≡ Some g → LeadsTo d (Net n) p → IsGatePin (k + 1) 0 p
    → IsGatePin k (length g.ins) p
all_gate_pins d k g n (Net m) at lead more = absurd more
all_gate_pins d k g n (GateIn j q) at lead (inl earlier) = elim (cases_lt j k) [
  | inl less ↦ inl less
  | inr past ↦
      let same : j ≡ k = omega (arith, earlier, past) in
      let (h, at', low, from) = gate_of_pin d n j q (GateIn j q) lead refl in
      let is : h ≡ g = some_is h g (sym (subst (λ a. slice_get d.gates a ≡ Some h) same at') ∙ at) in
      inr (same, subst (λ (e : Gate). q < length e.ins) is low)
]
all_gate_pins d k g n (GateIn j q) at lead (inr (same, low)) = absurd (omega (arith, low))
all_gate_pins d k g n (RegIn r q) at lead more = absurd more
all_gate_pins d k g n (OutPort o) at lead more = absurd more

gate_pins_longer : (k a b : ℕ) (p : PinRef) → a ≤ b → IsGatePin k a p → IsGatePin k b p
gate_pins_longer k a b (Net m) le more = absurd more
gate_pins_longer k a b (GateIn j q) le (inl earlier) = inl earlier
gate_pins_longer k a b (GateIn j q) le (inr (same, low)) = inr (same, omega (arith, le, low))
gate_pins_longer k a b (RegIn r q) le more = absurd more
gate_pins_longer k a b (OutPort o) le more = absurd more

pub gate_is_added : (d : Design) (k i : ℕ) (g : Gate) (rows : List (List PinRef)) → slice_get d.gates k ≡ Some g → length g.ins ≤ i
    → AreReadersOf d (IsGatePin k i) rows → AreReadersOf d (IsGatePin (k + 1) 0) rows
gate_is_added d k i g rows at past are =
    readers_fewer d (IsGatePin k i) (IsGatePin (k + 1) 0) rows (λ n p lead more. gate_pins_longer k (length g.ins) i p past
    (all_gate_pins d k g n p at lead more)) are

next_reg_pin : (r i : ℕ) (p : PinRef) → IsRegPin r (i + 1) p → IsRegPin r i p ⊎ (p ≡ RegIn r i)
next_reg_pin r i (Net n) more = absurd more
next_reg_pin r i (GateIn j q) more = inl tt
next_reg_pin r i (RegIn j q) (inl earlier) = inl (inl earlier)
next_reg_pin r i (RegIn j q) (inr (same, low)) = elim (cases_lt q i) [
  | inl less ↦ inl (inr (same, less))
  | inr past ↦ let here : q ≡ i = omega (arith, low, past) in inr (ap (λ a. RegIn a q) same ∙ ap (RegIn r) here)
]
next_reg_pin r i (OutPort o) more = absurd more

pub reg_pin_added : (d : Design) (r i net : ℕ) (reg : Reg) (old new : List (List PinRef)) → slice_get d.regs r ≡ Some reg → i < length reg.ins
    → slice_index reg.ins i ≡ net → net < d.nets
    → AreReadersOf d (IsRegPin r i) old → IsAdded net (RegIn r i) old new → AreReadersOf d (IsRegPin r (i + 1)) new
reg_pin_added d r i net reg old new at low from below are added =
    reader_added d (IsRegPin r i) (IsRegPin r (i + 1)) net (RegIn r i) old new below (subst (λ n. LeadsTo d (Net n) (RegIn r i)) from (To_reg r reg i at low))
    (λ n lead.
    let (h, at', low', from') = reg_of_pin d n r i lead in
    let same : h ≡ reg = some_is h reg (sym at' ∙ at) in
    sym from' ∙ ap (λ (q : Reg). slice_index q.ins i) same ∙ from)
    (next_reg_pin r i) are added

all_reg_pins : (d : Design) (r i : ℕ) (reg : Reg) (n : ℕ) (p : PinRef) → slice_get d.regs r ≡ Some reg → length reg.ins ≤ i → LeadsTo d (Net n) p
    → IsRegPin (r + 1) 0 p → IsRegPin r i p
all_reg_pins d r i reg n (Net m) at past lead more = absurd more
all_reg_pins d r i reg n (GateIn j q) at past lead more = tt
all_reg_pins d r i reg n (RegIn j q) at past lead (inl earlier) = elim (cases_lt j r) [
  | inl less ↦ inl less
  | inr late ↦
      let same : j ≡ r = omega (arith, earlier, late) in
      let (h, at', low, from) = reg_of_pin d n j q lead in
      let is : h ≡ reg = some_is h reg (sym (subst (λ a. slice_get d.regs a ≡ Some h) same at') ∙ at) in
      let within : q < length reg.ins = subst (λ (e : Reg). q < length e.ins) is low in
      inr (same, omega (arith, within, past))
]
all_reg_pins d r i reg n (RegIn j q) at past lead (inr (same, low)) = absurd (omega (arith, low))
all_reg_pins d r i reg n (OutPort o) at past lead more = absurd more

pub reg_is_added : (d : Design) (r i : ℕ) (reg : Reg) (rows : List (List PinRef)) → slice_get d.regs r ≡ Some reg → length reg.ins ≤ i
    → AreReadersOf d (IsRegPin r i) rows → AreReadersOf d (IsRegPin (r + 1) 0) rows
reg_is_added d r i reg rows at past are = readers_fewer d (IsRegPin r i) (IsRegPin (r + 1) 0) rows
    (λ n p lead more. all_reg_pins d r i reg n p at past lead more) are

first_reg_pins : (d : Design) (n : ℕ) (p : PinRef) → LeadsTo d (Net n) p → IsRegPin 0 0 p → IsGatePin (length d.gates) 0 p
first_reg_pins d n (Net m) lead more = absurd more
first_reg_pins d n (GateIn j q) lead more = let (h, at, low, from) = gate_of_pin d n j q (GateIn j q) lead refl in inl (slice_get_within d.gates j h at)
first_reg_pins d n (RegIn j q) lead (inl earlier) = absurd (omega (arith, earlier))
first_reg_pins d n (RegIn j q) lead (inr (same, low)) = absurd (omega (arith, low))
first_reg_pins d n (OutPort o) lead more = absurd more

pub gates_are_added : (d : Design) (rows : List (List PinRef)) → AreReadersOf d (IsGatePin (length d.gates) 0) rows → AreReadersOf d (IsRegPin 0 0) rows
gates_are_added d rows are = readers_fewer d (IsGatePin (length d.gates) 0) (IsRegPin 0 0) rows (first_reg_pins d) are

first_port_pins : (d : Design) (n : ℕ) (p : PinRef) → LeadsTo d (Net n) p → IsPortPin 0 p → IsRegPin (length d.regs) 0 p
first_port_pins d n (Net m) lead more = absurd more
first_port_pins d n (GateIn j q) lead more = tt
first_port_pins d n (RegIn j q) lead more = let (h, at, low, from) = reg_of_pin d n j q lead in inl (slice_get_within d.regs j h at)
first_port_pins d n (OutPort o) lead more = absurd (omega (arith, more))

pub regs_are_added : (d : Design) (rows : List (List PinRef)) → AreReadersOf d (IsRegPin (length d.regs) 0) rows → AreReadersOf d (IsPortPin 0) rows
regs_are_added d rows are = readers_fewer d (IsRegPin (length d.regs) 0) (IsPortPin 0) rows (first_port_pins d) are

next_port_pin : (o : ℕ) (p : PinRef) → IsPortPin (o + 1) p → IsPortPin o p ⊎ (p ≡ OutPort o)
next_port_pin o (Net n) more = absurd more
next_port_pin o (GateIn j q) more = inl tt
next_port_pin o (RegIn j q) more = inl tt
next_port_pin o (OutPort q) more = elim (cases_lt q o) [
  | inl less ↦ inl less
  | inr past ↦ let here : q ≡ o = omega (arith, more, past) in
      inr (ap OutPort here)
]

pub port_added : (d : Design) (o net : ℕ) (old new : List (List PinRef)) → o < length d.outputs → slice_index d.outputs o ≡ net → net < d.nets
    → AreReadersOf d (IsPortPin o) old → IsAdded net (OutPort o) old new → AreReadersOf d (IsPortPin (o + 1)) new
port_added d o net old new here from below are added =
    reader_added d (IsPortPin o) (IsPortPin (o + 1)) net (OutPort o) old new below (subst (λ n. LeadsTo d (Net n) (OutPort o)) from (To_output o here))
    (λ n lead. let (low, from') = port_of_pin d n o lead in sym from' ∙ from)
    (next_port_pin o) are added

all_port_pins : (d : Design) (o n : ℕ) (p : PinRef) → length d.outputs ≤ o → LeadsTo d (Net n) p → IsPortPin o p
all_port_pins d o n (Net m) past lead = net_only_pin d n m lead
all_port_pins d o n (GateIn j q) past lead = tt
all_port_pins d o n (RegIn j q) past lead = tt
all_port_pins d o n (OutPort q) past lead = let (low, from) = port_of_pin d n q lead in omega (arith, low, past)

pub ports_are_added : (d : Design) (o : ℕ) (rows : List (List PinRef)) → length d.outputs ≤ o → AreReadersOf d (IsPortPin o) rows → AreReaders d rows
ports_are_added d o rows past are = readers_fewer d (IsPortPin o) (λ pin. Unit {0}) rows (λ n p lead more. all_port_pins d o n p past lead) are

nothing_read : (n m : ℕ) (p : PinRef) → Contains (readers_at (replicate n []) m) p → ⊥
nothing_read zero m p (i, low, is) = omega (arith, low)
nothing_read (suc n) zero p (i, low, is) = omega (arith, low)
nothing_read (suc n) (suc m) p has = nothing_read n m p has

pub no_readers : (d : Design) (rows : List (List PinRef)) → rows ≡ replicate d.nets [] → AreReadersOf d NoPin rows
no_readers d rows none = record {
  len = ap length none ∙ length-replicate d.nets [];
  reads = λ n p has. absurd (nothing_read d.nets n p (subst (λ (l : List (List PinRef)). Contains (readers_at l n) p) none has));
  all = λ n p lead looked. absurd looked;
}
