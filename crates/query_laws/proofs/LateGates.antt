-- The definitions of the layers of a cycle, in plain mode.
use Rattle.std.proofs.Common.{◌≡◌, ℕ, zero, suc, ◌+◌, ◌<◌, ◌≤◌, Bool, true, false, not, cond, List, [], ◌∷◌, length, Option, Some, None, refl, ap}
use Rattle.std.proofs.Common.{sym, ◌∙◌, arith, inl, inr, ◌⊎◌, subst, add-one, below_more}
use Rattle.std.specs.Prelude.{All, Contains, slice_get, slice_index, slice_index_or, if◌then◌else◌, flat_map, ◌&&◌}
use Rattle.std.proofs.lemmas.Bool.{cases_Bool, cases_lt, and_from, and_parts}
use Rattle.std.proofs.lemmas.Option.{slice_get_within}
use Rattle.std.proofs.lemmas.List.Elements.{Contains-append_cases}
use Rattle.net_model.specs.Form.{value}
use Rattle.net_model.specs.FormLaws.{value_agrees, IsOver-weaker}
use Rattle.net_model.specs.Completions.{value_reads}
use Rattle.net_model.specs.Netlist.{IsSound, IsGateInRange, IsRegInRange, source_nets}
use Rattle.net_model.specs.Cycles.{bit_at, reg_capture}
use Rattle.net_model.specs.Pins.{is_in, start_nets}
use Rattle.net_model.specs.Layers.{net_at, held_set, pin_reads, layer_pins, capture_over, late_reg_capture, late_reg_pins}
use Rattle.net_model.proofs.Settling.{All-at}
use Rattle.net_model.specs.declared.netlist.Design.{Design}
use Rattle.net_model.specs.declared.netlist.Gate.{Gate}
use Rattle.net_model.specs.declared.netlist.Reg.{Reg}
use Rattle.net_model.specs.declared.cycles.Cycle.{Cycle}
use Rattle.net_model.specs.declared.claims.Claim.{Claim}
use Rattle.net_model.specs.declared.claims.PinRef.TheVariants.{Net, GateIn, RegIn, OutPort}
use Rattle.net_model.specs.declared.claims.End.{End}
use Rattle.net_model.specs.declared.claims.End.TheVariants.{Reg as RegEnd, Output as OutputEnd}
use Rattle.query_model.specs.Keys.{key, lit, AllTrue}
use Rattle.query_model.specs.Tables.{on_list}
use Rattle.query_model.specs.Reads.{bit_key, read_pin, is_start_net}
use Rattle.query_model.specs.Defined.{Definition, numbered, plain, covering, has_own, layer_gate, layer_definitions, start_units, with_own, late_key}
use Rattle.query_model.specs.Defined.{late_reg, end_definition, late_capture_lit}
use Rattle.net_model.proofs.Members.{In, In-right, In-flat, In-cases, In-from_Contains, from_flat}
use Rattle.query_model.proofs.Tabled.{Covers, says_plain}
use Rattle.net_model.proofs.NetOrder.{over_nets}
use Rattle.query_model.proofs.Told.{LitTells, TellEach, ReadTells, values_told, plain_gives}
use Rattle.query_model.proofs.Celled.{own_bits, tell_own}
use Rattle.query_model.proofs.Runs.{CodingCovers, AnyKey, Forces, capture_reads}
use Rattle.query_model.proofs.Based.{placed, in_place, from_numbered, in_numbered}
use Rattle.net_model.proofs.Members.{in_or}
use Rattle.query_laws.proofs.Late.{IsFlipped, LayerTells, OwnTells, layer_tells, pin_tells}
use Rattle.query_model.proofs.Lists.{length-numbered, numbered_tell, numbered_only, on_pins}
use Rattle.query_model.specs.declared.keys.Key.{Key}
use Rattle.query_model.specs.declared.keys.KeyLit.{KeyLit}
use Rattle.query_model.specs.declared.keys.Coding.{Coding}

abbrev pub gate_reads : Design → Claim → List (List Bool) → ℕ → ℕ → ℕ → Gate → List KeyLit
gate_reads d claim moved t l k g = numbered (λ i n. read_pin d claim moved t (suc l) 0 (GateIn k i) n) 0 g.ins

abbrev pub plain_gate : Coding → Design → Claim → List (List Bool) → ℕ → ℕ → ℕ → Gate → Definition
plain_gate coding d claim moved t l k g =
    plain coding (value g.func) (gate_reads d claim moved t l k g) (key t (suc l) 0 g.out)

pub layer_gate_is : (coding : Coding) (d : Design) (claim : Claim) (moved : List (List Bool)) (t l k : ℕ) (g : Gate)
    → has_own claim moved l g.out ≡ true → claim.hazard ≡ false → layer_gate coding d claim moved t l k g ≡ plain_gate coding d claim moved t l k g
    ∷ []
layer_gate_is coding d claim moved t l k g own mode = by_tests (has_own claim moved l g.out) own claim.hazard mode where
  by_tests : (o : Bool) → o ≡ true → (h : Bool) → h ≡ false → cond (not o) []
      (cond h (Rattle.query_model.specs.Defined.rails coding (value g.func) (gate_reads d claim moved t l k g)
      (numbered (λ i n. read_pin d claim moved t (suc l) 1 (GateIn k i) n) 0 g.ins) (key t (suc l) 0 g.out) (key t (suc l) 1 g.out) ∷ [])
      (plain_gate coding d claim moved t l k g ∷ [])) ≡ plain_gate coding d claim moved t l k g ∷ []
  by_tests true a false b = refl
  by_tests true a true b = absurd cc
  by_tests false a h b = absurd cc

gate_covers : (coding : Coding) (d : Design) (k : ℕ) (g : Gate) (ls : List KeyLit) → CodingCovers coding → IsSound d → slice_get d.gates k ≡ Some g
    → length ls ≡ length g.ins → Covers (value g.func) (length ls) (covering coding (value g.func) (length ls))
gate_covers coding d k g ls covers sound at len =
    let range = All-at (IsGateInRange d) d.gates k g at sound.in_range.gates in
    covers (value g.func) (length ls) (omega (arith, len, range.few))
    (value_reads 7 g.func (IsOver-weaker (length g.ins) 7 g.func (omega (arith, range.few)) range.func))

-- the bits that a gate's pins read in a layer
abbrev pub layer_bits : Claim → List (List Bool) → ℕ → ℕ → Gate → List Bool
layer_bits claim rows l k g = numbered (λ i n. pin_reads false claim.through rows l (GateIn k i) n) 0 g.ins

on_layer : (d : Design) (claim : Claim) (rows : List (List Bool)) (l k : ℕ) (g : Gate) → IsGateInRange d g → on_list (value g.func)
    (layer_bits claim rows l k g) ≡ value g.func (layer_pins false claim.through rows l k g.ins)
on_layer d claim rows l k g range =
    value_agrees g.func (length g.ins) (λ i. slice_index_or (layer_bits claim rows l k g) i false) (layer_pins false claim.through rows l k g.ins) range.func
    (λ i lt. numbered_only (λ j n. pin_reads false claim.through rows l (GateIn k j) n) g.ins i lt)

-- the literals of a gate's pins in a layer tell what the pins read
gate_tell : (kind : Key → Type 0) (v : Key → Bool) (d : Design) (claim : Claim) (moved : List (List Bool)) (t : ℕ) (rows : List (List Bool)) (l k : ℕ)
    (g : Gate) → IsGateInRange d g → ((j : ℕ) → j < l → (n : ℕ) → n < d.nets → LayerTells kind v d claim moved t rows j n)
    → All (LayerTells kind v d claim moved t rows l) g.ins → TellEach kind v (gate_reads d claim moved t l k g) (layer_bits claim rows l k g)
gate_tell kind v d claim moved t rows l k g range lower pins =
    numbered_tell kind v (λ i n. read_pin d claim moved t (suc l) 0 (GateIn k i) n) (λ i n. pin_reads false claim.through rows l (GateIn k i) n) 0 g.ins
    (λ j n at.
    let lt = slice_get_within g.ins j n at in
    let low = All-at (λ m. m < d.nets) g.ins j n at range.ins in
    pin_tells kind v d claim moved t rows l (GateIn k (0 + j)) n
    (λ i le. elim (cases_lt i l) [
      | inl less ↦ lower i less n low
      | inr same ↦ let e : l ≡ i = omega arith in subst (λ m. LayerTells kind v d claim moved t rows m n) e
          (All-at (LayerTells kind v d claim moved t rows l) g.ins j n at pins)
    ]))

-- a source is not read by a key of its own, apart from the start's
source_own : (kind : Key → Type 0) (v : Key → Bool) (d : Design) (claim : Claim) (moved : List (List Bool)) (t : ℕ) (c : Cycle)
    (rows : List (List Bool)) → IsFlipped d claim moved c rows → (l : ℕ) → l ≤ length claim.through → (n : ℕ) → Contains (source_nets d) n
    → OwnTells kind v d claim moved t rows l n
source_own kind v d claim moved t c rows flip zero le n has =
    λ m free start. absurd (none_moved (in_or n (start_nets d claim.start)) m (start refl)) where
      none_moved : In n (start_nets d claim.start) ⊎ (In n (start_nets d claim.start) → ⊥) → net_at false moved 0 n ≡ true → is_start_net d claim n ≡ false → ⊥
      none_moved (inl is) m e =
          let hit : is_start_net d claim n ≡ true = Rattle.query_model.proofs.Needs.any_in (λ x. Rattle.std.specs.Prelude.nat_eq x n) n
          (start_nets d claim.start) is (Rattle.std.proofs.lemmas.Bool.eq-eqb n n refl) in
          Rattle.std.proofs.lemmas.Bool.both_ways (is_start_net d claim n) e hit
      none_moved (inr other) m e =
          let still = flip.are_moved.others n has (λ h. other (In-from_Contains (start_nets d claim.start) n h)) in
          Rattle.std.proofs.lemmas.Bool.both_ways (net_at false moved 0 n) still m
source_own kind v d claim moved t c rows flip (suc l) le n has =
    λ m free start.
    let still = flip.are_moved.sources l (omega arith) n has free in
    absurd (Rattle.std.proofs.lemmas.Bool.both_ways (net_at false moved (suc l) n) (subst (λ i. net_at false moved i n ≡ false) (add-one l) still) m)

-- a gate's key in a layer tells what the gate shows there
gate_own : (coding : Coding) (kind : Key → Type 0) (v : Key → Bool) (d : Design) (claim : Claim) (moved : List (List Bool)) (t : ℕ) (c : Cycle)
    (rows : List (List Bool)) → CodingCovers coding → IsFlipped d claim moved c rows → (l : ℕ) → l ≤ length claim.through
    → Forces kind v (layer_definitions coding d claim moved t l) → ((j : ℕ) → j < l → (n : ℕ) → n < d.nets
    → LayerTells kind v d claim moved t rows j n) → (k : ℕ) (g : Gate) → slice_get d.gates k ≡ Some g
    → All (LayerTells kind v d claim moved t rows l) g.ins → OwnTells kind v d claim moved t rows l g.out
gate_own coding kind v d claim moved t c rows covers flip l le forces lower k g at pins =
    λ m free start has.
    let range = All-at (IsGateInRange d) d.gates k g at flip.sound.in_range.gates in
    let own = and_from (net_at false moved l g.out) (not (is_in (Net g.out) (held_set claim.through l))) m (ap not free) in
    let def = plain_gate coding d claim moved t l k g in
    let is = layer_gate_is coding d claim moved t l k g own flip.plain in
    let here : In def (layer_gate coding d claim moved t l k g) = subst (In def) (sym is) (inl refl) in
    let row : In (layer_gate coding d claim moved t l k g) (numbered (layer_gate coding d claim moved t l) 0 d.gates) =
    subst (λ i. In (layer_gate coding d claim moved t l i g) (numbered (layer_gate coding d claim moved t l) 0 d.gates)) (omega arith)
    (in_numbered (layer_gate coding d claim moved t l) 0 d.gates k g at) in
    let there : In def (layer_definitions coding d claim moved t l) =
    In-right def (start_units d claim t l) (flat_map (λ x. x) (numbered (layer_gate coding d claim moved t l) 0 d.gates))
    (In-flat (λ x. x) def (layer_gate coding d claim moved t l k g) (numbered (layer_gate coding d claim moved t l) 0 d.gates) row here) in
    let out = key t (suc l) 0 g.out in
    let reads = gate_reads d claim moved t l k g in
    let len = length-numbered (λ i n. read_pin d claim moved t (suc l) 0 (GateIn k i) n) 0 g.ins in
    plain_gives kind v (value g.func) reads (layer_bits claim rows l k g) (lit true out) (covering coding (value g.func) (length reads))
    (gate_covers coding d k g reads covers flip.sound at len)
    (gate_tell kind v d claim moved t rows l k g range lower pins) (forces.clauses def out there (inl refl) has) (forces.closed def out there (inl refl) has)
    ∙ on_layer d claim rows l k g range ∙ sym (flip.layers.gates l le k g at free)

layer_told : (coding : Coding) (kind : Key → Type 0) (v : Key → Bool) (d : Design) (claim : Claim) (moved : List (List Bool)) (t : ℕ) (c : Cycle)
    (rows : List (List Bool)) → CodingCovers coding → IsFlipped d claim moved c rows → ((n : ℕ) → n < d.nets → ReadTells kind v d t (bit_at c.nets) n)
    → (l : ℕ) → l ≤ length claim.through → Forces kind v (layer_definitions coding d claim moved t l)
    → ((j : ℕ) → j < l → (n : ℕ) → n < d.nets → LayerTells kind v d claim moved t rows j n) → (n : ℕ) → n < d.nets
    → LayerTells kind v d claim moved t rows l n
layer_told coding kind v d claim moved t c rows covers flip base l le forces lower =
    over_nets d (LayerTells kind v d claim moved t rows l) flip.sound
    (λ n has.
    let low = Rattle.net_model.proofs.LayerRows.source_low d n flip.sound has in
    layer_tells kind v d claim moved t c rows flip l n le low (base n low) (λ j lt. lower j lt n low)
    (source_own kind v d claim moved t c rows flip l le n has))
    (λ k g at pins.
    let range = All-at (IsGateInRange d) d.gates k g at flip.sound.in_range.gates in
    layer_tells kind v d claim moved t c rows flip l g.out le range.out (base g.out range.out) (λ j lt. lower j lt g.out range.out)
    (gate_own coding kind v d claim moved t c rows covers flip l le forces lower k g at pins))

layers_below : (coding : Coding) (kind : Key → Type 0) (v : Key → Bool) (d : Design) (claim : Claim) (moved : List (List Bool)) (t : ℕ) (c : Cycle)
    (rows : List (List Bool)) → CodingCovers coding → IsFlipped d claim moved c rows → ((n : ℕ) → n < d.nets → ReadTells kind v d t (bit_at c.nets) n)
    → ((l : ℕ) → l ≤ length claim.through → Forces kind v (layer_definitions coding d claim moved t l)) → (l : ℕ) → l ≤ length claim.through + 1
    → (j : ℕ) → j < l → (n : ℕ) → n < d.nets → LayerTells kind v d claim moved t rows j n
layers_below coding kind v d claim moved t c rows covers flip base forces zero le j lt = absurd (omega arith)
layers_below coding kind v d claim moved t c rows covers flip base forces (suc l) le j lt =
    let lower = layers_below coding kind v d claim moved t c rows covers flip base forces l (omega arith) in
    below_more (λ i. (n : ℕ) → n < d.nets → LayerTells kind v d claim moved t rows i n) l lower
    (layer_told coding kind v d claim moved t c rows covers flip base l (omega arith) (forces l (omega arith)) lower) j (omega arith)

-- what makes the layers' definitions of needed keys true tells the layers
pub layers_told : (coding : Coding) (kind : Key → Type 0) (v : Key → Bool) (d : Design) (claim : Claim) (moved : List (List Bool)) (t : ℕ) (c : Cycle)
    (rows : List (List Bool)) → CodingCovers coding → IsFlipped d claim moved c rows → ((n : ℕ) → n < d.nets → ReadTells kind v d t (bit_at c.nets) n)
    → ((l : ℕ) → l ≤ length claim.through → Forces kind v (layer_definitions coding d claim moved t l)) → (l : ℕ) → l ≤ length claim.through → (n : ℕ)
    → n < d.nets → LayerTells kind v d claim moved t rows l n
layers_told coding kind v d claim moved t c rows covers flip base forces l le n low =
    layers_below coding kind v d claim moved t c rows covers flip base forces (length claim.through + 1) (omega arith) l (omega arith) n low

-- the other way round: keys that say the layers
pub record SaysLayers (v : Key → Bool) (d : Design) (claim : Claim) (t : ℕ) (rows : List (List Bool)) : Type 0 where
  pub nets : (l n : ℕ) → l ≤ length claim.through → n < d.nets → v (key t (suc l) 0 n) ≡ net_at false rows l n

layers_said_below : (v : Key → Bool) (d : Design) (claim : Claim) (moved : List (List Bool)) (t : ℕ) (c : Cycle) (rows : List (List Bool))
    → IsFlipped d claim moved c rows → ((n : ℕ) → n < d.nets → ReadTells AnyKey v d t (bit_at c.nets) n) → SaysLayers v d claim t rows → (l : ℕ)
    → l ≤ length claim.through + 1 → (j : ℕ) → j < l → (n : ℕ) → n < d.nets → LayerTells AnyKey v d claim moved t rows j n
layers_said_below v d claim moved t c rows flip base says zero le j lt = absurd (omega arith)
layers_said_below v d claim moved t c rows flip base says (suc l) le j lt =
    let lower = layers_said_below v d claim moved t c rows flip base says l (omega arith) in
    below_more (λ i. (n : ℕ) → n < d.nets → LayerTells AnyKey v d claim moved t rows i n) l lower
    (λ n low. layer_tells AnyKey v d claim moved t c rows flip l n (omega arith) low (base n low) (λ i less. lower i less n low)
    (λ m free start any. says.nets l n (omega arith) low))
    j (omega arith)

pub layers_said : (v : Key → Bool) (d : Design) (claim : Claim) (moved : List (List Bool)) (t : ℕ) (c : Cycle) (rows : List (List Bool))
    → IsFlipped d claim moved c rows → ((n : ℕ) → n < d.nets → ReadTells AnyKey v d t (bit_at c.nets) n) → SaysLayers v d claim t rows → (l : ℕ)
    → l ≤ length claim.through → (n : ℕ) → n < d.nets → LayerTells AnyKey v d claim moved t rows l n
layers_said v d claim moved t c rows flip base says l le n low =
    layers_said_below v d claim moved t c rows flip base says (length claim.through + 1) (omega arith) l (omega arith) n low

from_layer_gate : (coding : Coding) (d : Design) (claim : Claim) (moved : List (List Bool)) (t l k : ℕ) (g : Gate) (def : Definition)
    → claim.hazard ≡ false → In def (layer_gate coding d claim moved t l k g) → (has_own claim moved l g.out ≡ true)
    × (plain_gate coding d claim moved t l k g ≡ def)
from_layer_gate coding d claim moved t l k g def mode has =
    elim (cases_Bool (has_own claim moved l g.out)) [
      | inl own ↦ (own, only (subst (In def) (layer_gate_is coding d claim moved t l k g own mode) has))
      | inr none ↦ absurd (nothing _ (has_own claim moved l g.out) none has)
    ] where
      only : In def (plain_gate coding d claim moved t l k g ∷ []) → plain_gate coding d claim moved t l k g ≡ def
      only (inl here) = here
      only (inr none) = absurd none

      nothing : (xs : List Definition) (b : Bool) → b ≡ false → In def (cond (not b) [] xs) → ⊥
      nothing xs false e has = has
      nothing xs true e has = absurd cc

no_units : (d : Design) (claim : Claim) (t l : ℕ) (def : Definition) → claim.hazard ≡ false → In def (start_units d claim t l) → ⊥
no_units d claim t zero def mode has = by_mode _ claim.hazard mode has where
  by_mode : (xs : List Definition) (h : Bool) → h ≡ false → In def (cond h xs []) → ⊥
  by_mode xs false e has = has
  by_mode xs true e has = absurd cc
no_units d claim t (suc l) def mode has = has

pub layer_true : (coding : Coding) (v : Key → Bool) (d : Design) (claim : Claim) (moved : List (List Bool)) (t : ℕ) (c : Cycle)
    (rows : List (List Bool)) → CodingCovers coding → IsFlipped d claim moved c rows
    → ((n : ℕ) → n < d.nets → ReadTells AnyKey v d t (bit_at c.nets) n) → SaysLayers v d claim t rows → (l : ℕ) → l ≤ length claim.through
    → (def : Definition) → In def (layer_definitions coding d claim moved t l) → AllTrue v def.clauses
layer_true coding v d claim moved t c rows covers flip base says l le def has =
    let tell = layers_said v d claim moved t c rows flip base says in
    elim (In-cases def (start_units d claim t l) (flat_map (λ x. x) (numbered (layer_gate coding d claim moved t l) 0 d.gates)) has) [
      | inl in_units ↦ absurd (no_units d claim t l def flip.plain in_units)
      | inr gates ↦
          let list = from_flat (λ x. x) def (numbered (layer_gate coding d claim moved t l) 0 d.gates) gates in
          let of = from_numbered (layer_gate coding d claim moved t l) list.0 0 d.gates list.1 in
          let k = of.0 in
          let g = of.1 in
          let same : layer_gate coding d claim moved t l k g ≡ list.0 = ap (λ i. layer_gate coding d claim moved t l i g) (omega arith) ∙ of.3 in
          let is = from_layer_gate coding d claim moved t l k g def flip.plain (subst (In def) (sym same) list.2) in
          let range = All-at (IsGateInRange d) d.gates k g of.2 flip.sound.in_range.gates in
          let free : is_in (Net g.out) (held_set claim.through l) ≡ false =
          Rattle.std.proofs.lemmas.Bool.not-true (is_in (Net g.out) (held_set claim.through l))
          (and_parts (net_at false moved l g.out) (not (is_in (Net g.out) (held_set claim.through l))) is.0).1 in
          let reads = gate_reads d claim moved t l k g in
          let len = length-numbered (λ i n. read_pin d claim moved t (suc l) 0 (GateIn k i) n) 0 g.ins in
          let bits = layer_bits claim rows l k g in
          let told = values_told AnyKey v (λ j. tt) reads bits (gate_tell AnyKey v d claim moved t rows l k g range
          (λ j lt n low. tell j (omega arith) n low) (Rattle.std.proofs.lemmas.List.Elements.All-weaker (λ n. n < d.nets)
          (LayerTells AnyKey v d claim moved t rows l) (λ n low. tell l le n low) g.ins range.ins)) in
          subst (λ (e : Definition). AllTrue v e.clauses) is.1
          (says_plain v (value g.func) reads (lit true (key t (suc l) 0 g.out)) (covering coding (value g.func) (length reads))
          (gate_covers coding d k g reads covers flip.sound of.2 len)
          (says.nets l g.out le range.out ∙ flip.layers.gates l le k g of.2 free ∙ sym (on_layer d claim rows l k g range)
          ∙ ap (on_list (value g.func)) (sym told)))
    ]

-- what the end takes over in the last layer
abbrev pub late_reads : Design → Claim → List (List Bool) → ℕ → ℕ → Reg → List KeyLit
late_reads d claim moved t r reg =
    with_own reg (lit true (bit_key d t r)) (numbered (λ i n. read_pin d claim moved t (length claim.through + 1) 0 (RegIn r i) n) 0 reg.ins)

abbrev pub late_bits : Claim → List (List Bool) → ℕ → Reg → Bool → List Bool
late_bits claim rows r reg own =
    own_bits reg own (numbered (λ i n. pin_reads false claim.through rows (length claim.through) (RegIn r i) n) 0 reg.ins)

abbrev pub plain_end : Coding → Design → Claim → List (List Bool) → ℕ → ℕ → Reg → Definition
plain_end coding d claim moved t r reg =
    plain coding (reg_capture reg) (late_reads d claim moved t r reg) (late_key d claim t 0)

end_is : (coding : Coding) (d : Design) (claim : Claim) (moved : List (List Bool)) (t r : ℕ) (reg : Reg) → claim.hazard ≡ false
    → slice_get d.regs r ≡ Some reg → end_definition coding d claim moved t (RegEnd r) ≡ plain_end coding d claim moved t r reg ∷ []
end_is coding d claim moved t r reg mode at = ap (late_reg coding d claim moved t r) at ∙ by_mode _ claim.hazard mode where
  by_mode : (xs : List Definition) (h : Bool) → h ≡ false → cond h xs (plain_end coding d claim moved t r reg ∷ []) ≡ plain_end coding d claim moved t
      r reg ∷ []
  by_mode xs false e = refl
  by_mode xs true e = absurd cc

end_tell : (kind : Key → Type 0) (v : Key → Bool) (d : Design) (claim : Claim) (moved : List (List Bool)) (t : ℕ) (c : Cycle)
    (rows : List (List Bool)) (r : ℕ) (reg : Reg) → IsRegInRange d reg
    → ((l : ℕ) → l ≤ length claim.through → (n : ℕ) → n < d.nets → LayerTells kind v d claim moved t rows l n)
    → LitTells kind v (lit true (bit_key d t r)) (bit_at c.bits r) → TellEach kind v (late_reads d claim moved t r reg)
    (late_bits claim rows r reg (bit_at c.bits r))
end_tell kind v d claim moved t c rows r reg range tell own =
    tell_own kind v reg (lit true (bit_key d t r)) (bit_at c.bits r)
    (numbered (λ i n. read_pin d claim moved t (length claim.through + 1) 0 (RegIn r i) n) 0 reg.ins)
    (numbered (λ i n. pin_reads false claim.through rows (length claim.through) (RegIn r i) n) 0 reg.ins) own
    (numbered_tell kind v (λ i n. read_pin d claim moved t (length claim.through + 1) 0 (RegIn r i) n)
    (λ i n. pin_reads false claim.through rows (length claim.through) (RegIn r i) n) 0 reg.ins
    (λ j n at.
    let low = All-at (λ m. m < d.nets) reg.ins j n at range.ins in
    subst (λ m. LitTells kind v (read_pin d claim moved t m 0 (RegIn r (0 + j)) n)
    (pin_reads false claim.through rows (length claim.through) (RegIn r (0 + j)) n)) (sym (add-one (length claim.through)))
    (pin_tells kind v d claim moved t rows (length claim.through) (RegIn r (0 + j)) n (λ i le. tell i le n low))))

end_covers : (coding : Coding) (d : Design) (claim : Claim) (moved : List (List Bool)) (t r : ℕ) (reg : Reg) → CodingCovers coding
    → IsRegInRange d reg → Covers (reg_capture reg) (length (late_reads d claim moved t r reg))
    (covering coding (reg_capture reg) (length (late_reads d claim moved t r reg)))
end_covers coding d claim moved t r reg covers range =
    let pins = numbered (λ i n. read_pin d claim moved t (length claim.through + 1) 0 (RegIn r i) n) 0 reg.ins in
    let short : length (late_reads d claim moved t r reg) ≤ 6 + 1 =
    Rattle.query_model.proofs.Runs.own_short (Rattle.net_model.specs.Mentions.reads_own reg) (lit true (bit_key d t r)) pins 6
    (omega (arith, length-numbered (λ i n. read_pin d claim moved t (length claim.through + 1) 0 (RegIn r i) n) 0 reg.ins, range.few)) in
    covers (reg_capture reg) (length (late_reads d claim moved t r reg)) (omega arith) (capture_reads d reg range)

late_of : (d : Design) (claim : Claim) (rows : List (List Bool)) (c : Cycle) (r : ℕ) (reg : Reg) → slice_get d.regs r ≡ Some reg
    → capture_over d claim.through rows (RegEnd r) c ≡ reg_capture reg (late_reg_pins false claim.through rows r reg (bit_at c.bits r))
late_of d claim rows c r reg at = ap (λ (o : Option Reg). late_reg_capture claim.through rows r o (bit_at c.bits r)) at

pub end_told : (coding : Coding) (kind : Key → Type 0) (v : Key → Bool) (d : Design) (claim : Claim) (moved : List (List Bool)) (t : ℕ) (c : Cycle)
    (rows : List (List Bool)) → CodingCovers coding → IsFlipped d claim moved c rows → (e : End) → Rattle.net_model.specs.Fits.IsEndIn d e
    → ((l : ℕ) → l ≤ length claim.through → (n : ℕ) → n < d.nets → LayerTells kind v d claim moved t rows l n)
    → ((r : ℕ) → r < length d.regs → LitTells kind v (lit true (bit_key d t r)) (bit_at c.bits r))
    → Forces kind v (end_definition coding d claim moved t e) → LitTells kind v (late_capture_lit d claim moved t 0 e)
    (capture_over d claim.through rows e c)
end_told coding kind v d claim moved t c rows covers flip (RegEnd r) is tell own forces =
    λ has.
    let reg = Rattle.query_model.proofs.Based.get_within d.regs r is in
    let range = All-at (IsRegInRange d) d.regs r reg.0 reg.1 flip.sound.in_range.regs in
    let def = plain_end coding d claim moved t r reg.0 in
    let there : In def (end_definition coding d claim moved t (RegEnd r)) =
    subst (In def) (sym (end_is coding d claim moved t r reg.0 flip.plain reg.1)) (inl refl) in
    let reads = late_reads d claim moved t r reg.0 in
    plain_gives kind v (reg_capture reg.0) reads (late_bits claim rows r reg.0 (bit_at c.bits r)) (lit true (late_key d claim t 0))
    (covering coding (reg_capture reg.0) (length reads)) (end_covers coding d claim moved t r reg.0 covers range)
    (end_tell kind v d claim moved t c rows r reg.0 range tell (own r is)) (forces.clauses def (late_key d claim t 0) there (inl refl) has)
    (forces.closed def (late_key d claim t 0) there (inl refl) has)
    ∙ on_pins d reg.0 (λ i n. pin_reads false claim.through rows (length claim.through) (RegIn r i) n) (bit_at c.bits r) range
    ∙ sym (late_of d claim rows c r reg.0 reg.1)
end_told coding kind v d claim moved t c rows covers flip (OutputEnd o) is tell own forces =
    let n = slice_index d.outputs o in
    subst (λ m. LitTells kind v (read_pin d claim moved t m 0 (OutPort o) n)
    (pin_reads false claim.through rows (length claim.through) (OutPort o) n)) (sym (add-one (length claim.through)))
    (pin_tells kind v d claim moved t rows (length claim.through) (OutPort o) n (λ i le. tell i le n (flip.sound.in_range.outputs o 0 is)))

pub end_true : (coding : Coding) (v : Key → Bool) (d : Design) (claim : Claim) (moved : List (List Bool)) (t : ℕ) (c : Cycle)
    (rows : List (List Bool)) → CodingCovers coding → IsFlipped d claim moved c rows → (e : End)
    → ((l : ℕ) → l ≤ length claim.through → (n : ℕ) → n < d.nets → LayerTells AnyKey v d claim moved t rows l n)
    → ((r : ℕ) → r < length d.regs → v (bit_key d t r) ≡ bit_at c.bits r) → v (late_key d claim t 0) ≡ capture_over d claim.through rows e c
    → (def : Definition) → In def (end_definition coding d claim moved t e) → AllTrue v def.clauses
end_true coding v d claim moved t c rows covers flip (RegEnd r) tell own late def has =
    by_reg (slice_get d.regs r) refl where
      only : {x : Definition} → In def (x ∷ []) → x ≡ def
      only (inl here) = here
      only (inr none) = absurd none

      by_reg : (o : Option Reg) → slice_get d.regs r ≡ o → AllTrue v def.clauses
      by_reg None e = absurd (subst (λ (x : Option Reg). In def (late_reg coding d claim moved t r x)) e has)
      by_reg (Some reg) e =
          let range = All-at (IsRegInRange d) d.regs r reg e flip.sound.in_range.regs in
          let lt = slice_get_within d.regs r reg e in
          let reads = late_reads d claim moved t r reg in
          let bits = late_bits claim rows r reg (bit_at c.bits r) in
          let told = values_told AnyKey v (λ j. tt) reads bits (end_tell AnyKey v d claim moved t c rows r reg range tell (λ any. own r lt)) in
          let is = only (subst (In def) (end_is coding d claim moved t r reg flip.plain e) has) in
          subst (λ (x : Definition). AllTrue v x.clauses) is
          (says_plain v (reg_capture reg) reads (lit true (late_key d claim t 0)) (covering coding (reg_capture reg) (length reads))
          (end_covers coding d claim moved t r reg covers range)
          (late ∙ late_of d claim rows c r reg e ∙ sym (on_pins d reg (λ i n. pin_reads false claim.through rows (length claim.through) (RegIn r i) n)
          (bit_at c.bits r) range) ∙ ap (on_list (reg_capture reg)) (sym told)))
end_true coding v d claim moved t c rows covers flip (OutputEnd o) tell own late def has = absurd has
