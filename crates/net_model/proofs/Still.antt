-- Nets that a late start leaves as they are in the cycle.
use Rattle.std.proofs.Common.{◌≡◌, ℕ, zero, suc, ◌+◌, ◌<◌, ◌≤◌, Bool, true, false, cond, List, [], length, Some, ap, sym, ◌∙◌, arith, inl, inr, subst}
use Rattle.std.proofs.Common.{add-one, below_more}
use Rattle.std.specs.Prelude.{Contains, slice_get, slice_index, slice_index_or}
use Rattle.std.proofs.lemmas.Bool.{cases_Bool, cases_lt}
use Rattle.net_model.specs.Rows.{Applied, pins_of, AreGatesSettled}
use Rattle.net_model.specs.Netlist.{IsSound, IsGateInRange, source_nets}
use Rattle.net_model.specs.Pins.{is_in, start_nets}
use Rattle.net_model.specs.Layers.{net_at, held_set, pin_reads, layer_pins, AreLayers}
use Rattle.net_model.proofs.Settling.{All-at, ReadsPlaces}
use Rattle.net_model.proofs.LayerRows.{source_low}
use Rattle.net_model.proofs.Members.{In-from_Contains, Contains-from_In, in_or}
use Rattle.net_model.proofs.NetOrder.{over_nets}
use Rattle.net_model.specs.declared.netlist.Design.{Design}
use Rattle.net_model.specs.declared.netlist.Gate.{Gate}
use Rattle.net_model.specs.declared.netlist.RegOut.{RegOut}
use Rattle.net_model.specs.declared.claims.Start.{Start}
use Rattle.net_model.specs.declared.claims.PinRef.{PinRef}
use Rattle.net_model.specs.declared.claims.PinRef.TheVariants.{Net, GateIn}

-- nets and pins, by layer, that don't move where what they stand on doesn't
pub record IsStill (d : Design) (sets : List (List PinRef)) (U : ℕ → ℕ → Type 0) (P : ℕ → PinRef → ℕ → Type 0) : Type 0 where
  pub held : (l n : ℕ) → l < length sets → n < d.nets → U (suc l) n → is_in (Net n) (slice_index_or sets l []) ≡ true → U l n
  pub gates : (l k : ℕ) (g : Gate) → l ≤ length sets → slice_get d.gates k ≡ Some g → is_in (Net g.out) (held_set sets l) ≡ false → U l g.out
      → (i : ℕ) → i < length g.ins → P l (GateIn k i) (slice_index g.ins i)
  pub first : (pin : PinRef) (n : ℕ) → P 0 pin n → U 0 n
  pub later : (l : ℕ) (pin : PinRef) (n : ℕ) → P (suc l) pin n → is_in pin (slice_index_or sets l []) ≡ true → P l pin n
  pub own : (l : ℕ) (pin : PinRef) (n : ℕ) → P (suc l) pin n → is_in pin (slice_index_or sets l []) ≡ false → U (suc l) n

-- a net that doesn't move shows its value in the cycle
abbrev pub StillAt : {V : Type 0} → V → (ℕ → ℕ → Type 0) → List (List V) → List V → ℕ → ℕ → Type 0
StillAt blank U rows base l n = U l n → net_at blank rows l n ≡ slice_index_or base n blank

-- the layers of a cycle whose gates are settled, in which the start's nets that don't move show the cycle
pub record IsLate {V : Type 0} (applied : Applied V) (blank : V) (d : Design) (start : Start) (sets : List (List PinRef)) (late : RegOut → V)
    (base : List V) (rows : List (List V)) (U : ℕ → ℕ → Type 0) (P : ℕ → PinRef → ℕ → Type 0) : Type 0 where
  pub reads : ReadsPlaces applied
  pub sound : IsSound d
  pub settled : AreGatesSettled applied blank d.gates base
  pub layers : AreLayers applied blank d start sets late base rows
  pub still : IsStill d sets U P
  pub start_same : (n : ℕ) → Contains (start_nets d start) n → StillAt blank U rows base 0 n

pub pin_still : {V : Type 0} (blank : V) (d : Design) (sets : List (List PinRef)) (U : ℕ → ℕ → Type 0) (P : ℕ → PinRef → ℕ → Type 0)
    (rows : List (List V)) (base : List V) → IsStill d sets U P → (l : ℕ) (pin : PinRef) (n : ℕ) → ((j : ℕ) → j ≤ l → StillAt blank U rows base j n)
    → P l pin n → pin_reads blank sets rows l pin n ≡ slice_index_or base n blank
pin_still blank d sets U P rows base still zero pin n same is = same 0 (omega arith) (still.first pin n is)
pin_still {V} blank d sets U P rows base still (suc l) pin n same is =
    let reads : Bool → V = λ b. cond b (pin_reads blank sets rows l pin n) (net_at blank rows (suc l) n) in
    elim (cases_Bool (is_in pin (slice_index_or sets l []))) [
      | inl inside ↦ ap reads inside ∙ pin_still blank d sets U P rows base still l pin n (λ j le. same j (omega arith)) (still.later l pin n is inside)
      | inr outside ↦ ap reads outside ∙ same (suc l) (omega arith) (still.own l pin n is outside)
    ]

-- the layers below l show the cycle where nothing moves
abbrev Below : {V : Type 0} → V → Design → (ℕ → ℕ → Type 0) → List (List V) → List V → ℕ → Type 0
Below blank d U rows base l = (j : ℕ) → j < l → (n : ℕ) → n < d.nets → StillAt blank U rows base j n

-- a held net shows what it shows in the layer before
held_still : {V : Type 0} (applied : Applied V) (blank : V) (d : Design) (start : Start) (sets : List (List PinRef)) (late : RegOut → V)
    (base : List V) (rows : List (List V)) (U : ℕ → ℕ → Type 0) (P : ℕ → PinRef → ℕ → Type 0) → IsLate applied blank d start sets late base rows U P
    → (l : ℕ) → l ≤ length sets → Below blank d U rows base l → (n : ℕ) → n < d.nets → is_in (Net n) (held_set sets l) ≡ true
    → StillAt blank U rows base l n
held_still {V} applied blank d start sets late base rows U P is zero le lower n low held = cc
held_still {V} applied blank d start sets late base rows U P is (suc l) le lower n low held =
    λ u. subst (λ (m : ℕ). net_at blank rows m n ≡ slice_index_or base n blank) (add-one l)
    (is.layers.held l (omega arith) n low held ∙ lower l (omega arith) n low (is.still.held l n (omega arith) low u held))

source_still : {V : Type 0} (applied : Applied V) (blank : V) (d : Design) (start : Start) (sets : List (List PinRef)) (late : RegOut → V)
    (base : List V) (rows : List (List V)) (U : ℕ → ℕ → Type 0) (P : ℕ → PinRef → ℕ → Type 0) → IsLate applied blank d start sets late base rows U P
    → (l : ℕ) → l ≤ length sets → Below blank d U rows base l → (n : ℕ) → Contains (source_nets d) n → StillAt blank U rows base l n
source_still {V} applied blank d start sets late base rows U P is zero le lower n has =
    elim (in_or n (start_nets d start)) [
      | inl here ↦ is.start_same n (Contains-from_In (start_nets d start) n here)
      | inr other ↦ λ u. is.layers.others n has (λ h. other (In-from_Contains (start_nets d start) n h))
    ]
source_still {V} applied blank d start sets late base rows U P is (suc l) le lower n has =
    elim (cases_Bool (is_in (Net n) (slice_index_or sets l []))) [
      | inl inside ↦ held_still applied blank d start sets late base rows U P is (suc l) le lower n (source_low d n is.sound has) inside
      | inr outside ↦ λ u. subst (λ (m : ℕ). net_at blank rows m n ≡ slice_index_or base n blank) (add-one l) (is.layers.sources l (omega arith) n has outside)
    ]

gate_still : {V : Type 0} (applied : Applied V) (blank : V) (d : Design) (start : Start) (sets : List (List PinRef)) (late : RegOut → V)
    (base : List V) (rows : List (List V)) (U : ℕ → ℕ → Type 0) (P : ℕ → PinRef → ℕ → Type 0) → IsLate applied blank d start sets late base rows U P
    → (l : ℕ) → l ≤ length sets → Below blank d U rows base l → (k : ℕ) (g : Gate) → slice_get d.gates k ≡ Some g
    → ((i : ℕ) → i < length g.ins → StillAt blank U rows base l (slice_index g.ins i)) → is_in (Net g.out) (held_set sets l) ≡ false
    → StillAt blank U rows base l g.out
gate_still {V} applied blank d start sets late base rows U P is l le lower k g at pins free u =
    let range = All-at (IsGateInRange d) d.gates k g at is.sound.in_range.gates in
    is.layers.gates l le k g at free
    ∙ is.reads g.func (length g.ins) (layer_pins blank sets rows l k g.ins) (pins_of blank g.ins base) range.func
    (λ i lt.
    let n = slice_index g.ins i in
    pin_still blank d sets U P rows base is.still l (GateIn k i) n
    (λ j small. elim (cases_lt j l) [
      | inl less ↦ lower j less n (range.ins i 0 lt)
      | inr same ↦ let e : l ≡ j = omega arith in subst (λ m. StillAt blank U rows base m n) e (pins i lt)
    ])
    (is.still.gates l k g le at free u i lt))
    ∙ sym (is.settled k g at)

layer_still : {V : Type 0} (applied : Applied V) (blank : V) (d : Design) (start : Start) (sets : List (List PinRef)) (late : RegOut → V)
    (base : List V) (rows : List (List V)) (U : ℕ → ℕ → Type 0) (P : ℕ → PinRef → ℕ → Type 0) → IsLate applied blank d start sets late base rows U P
    → (l : ℕ) → l ≤ length sets → Below blank d U rows base l → (n : ℕ) → n < d.nets → StillAt blank U rows base l n
layer_still {V} applied blank d start sets late base rows U P is l le lower =
    over_nets d (StillAt blank U rows base l) is.sound
    (source_still applied blank d start sets late base rows U P is l le lower)
    (λ k g at pins.
    elim (cases_Bool (is_in (Net g.out) (held_set sets l))) [
      | inl held ↦ held_still applied blank d start sets late base rows U P is l le lower g.out
          (All-at (IsGateInRange d) d.gates k g at is.sound.in_range.gates).out held
      | inr free ↦ gate_still applied blank d start sets late base rows U P is l le lower k g at (λ i lt. pins i 0 lt) free
    ])

still_below : {V : Type 0} (applied : Applied V) (blank : V) (d : Design) (start : Start) (sets : List (List PinRef)) (late : RegOut → V)
    (base : List V) (rows : List (List V)) (U : ℕ → ℕ → Type 0) (P : ℕ → PinRef → ℕ → Type 0) → IsLate applied blank d start sets late base rows U P
    → (l : ℕ) → l ≤ length sets + 1 → Below blank d U rows base l
still_below {V} applied blank d start sets late base rows U P is zero le j lt = absurd (omega arith)
still_below {V} applied blank d start sets late base rows U P is (suc l) le j lt =
    let lower = still_below applied blank d start sets late base rows U P is l (omega arith) in
    below_more (λ i. (n : ℕ) → n < d.nets → StillAt blank U rows base i n) l lower
    (layer_still applied blank d start sets late base rows U P is l (omega arith) lower) j (omega arith)

-- what doesn't move shows what it shows in the cycle
pub stays : {V : Type 0} (applied : Applied V) (blank : V) (d : Design) (start : Start) (sets : List (List PinRef)) (late : RegOut → V)
    (base : List V) (rows : List (List V)) (U : ℕ → ℕ → Type 0) (P : ℕ → PinRef → ℕ → Type 0) → IsLate applied blank d start sets late base rows U P
    → (l : ℕ) → l ≤ length sets → (n : ℕ) → n < d.nets → StillAt blank U rows base l n
stays {V} applied blank d start sets late base rows U P is l le n low =
    still_below applied blank d start sets late base rows U P is (length sets + 1) (omega arith) l (omega arith) n low
