-- The definitions of the layers and of the end's late capture, where hazards count.
use Rattle.std.proofs.Common.{◌≡◌, ℕ, zero, suc, ◌+◌, ◌<◌, ◌≤◌, Bool, true, false, not, cond, List, [], ◌∷◌, ◌++◌, length, Option, Some, refl, ap}
use Rattle.std.proofs.Common.{sym, ◌∙◌, arith, inl, inr, subst, add-one}
use Rattle.std.specs.Prelude.{slice_get, slice_index, if◌then◌else◌, flat_map, filter}
use Rattle.std.proofs.lemmas.Bool.{cases_Bool, and_parts, not-true}
use Rattle.std.proofs.lemmas.List.Elements.{All-weaker}
use Rattle.net_model.specs.Form.{value}
use Rattle.net_model.specs.Netlist.{IsSound, IsGateInRange, IsRegInRange}
use Rattle.net_model.specs.Fits.{IsEndIn}
use Rattle.net_model.specs.Cycles.{bit_at, reg_capture}
use Rattle.net_model.specs.Pins.{is_in}
use Rattle.net_model.specs.Layers.{net_at, held_set, pin_reads}
use Rattle.net_model.specs.Ternary.{tern_of}
use Rattle.net_model.proofs.TernaryOnce.{tern_reg_capture, tern_capture_over}
use Rattle.net_model.proofs.Settling.{All-at}
use Rattle.net_model.proofs.Members.{In, In-cases, from_flat}
use Rattle.net_model.specs.declared.netlist.Design.{Design}
use Rattle.net_model.specs.declared.netlist.Gate.{Gate}
use Rattle.net_model.specs.declared.netlist.Reg.{Reg}
use Rattle.net_model.specs.declared.cycles.Cycle.{Cycle}
use Rattle.net_model.specs.declared.claims.Claim.{Claim}
use Rattle.net_model.specs.declared.claims.PinRef.TheVariants.{Net, GateIn, RegIn, OutPort}
use Rattle.net_model.specs.declared.claims.End.{End}
use Rattle.net_model.specs.declared.claims.End.TheVariants.{Reg as RegEnd, Output as OutputEnd}
use Rattle.net_model.specs.declared.terns.Tern.{Tern}
use Rattle.net_model.specs.declared.terns.Tern.TheVariants.{Zero}
use Rattle.query_model.specs.Keys.{key, lit, AllTrue, below}
use Rattle.query_model.specs.Reads.{bit_key, read_pin, is_start_net}
use Rattle.net_model.specs.Mentions.{reads_own}
use Rattle.query_model.specs.Defined.{Definition, numbered, rails, has_own, layer_gate, layer_definitions, start_units, with_own, late_key, late_reg}
use Rattle.query_model.specs.Defined.{end_definition, late_capture_lit}
use Rattle.query_model.proofs.Members.{below_less}
use Rattle.query_model.proofs.Told.{LitTells, ReadTells}
use Rattle.query_model.proofs.Runs.{AnyKey, Forces, unit_true, capture_reads}
use Rattle.query_model.proofs.Based.{get_within, from_numbered}
use Rattle.query_model.proofs.Lists.{length-numbered}
use Rattle.query_model.proofs.Prime.{from_filter}
use Rattle.query_laws.proofs.Late.{start_net_in}
use Rattle.query_model.specs.Laws.{may_one, may_zero}
use Rattle.query_model.proofs.Hazard.{RailsTell}
use Rattle.query_laws.proofs.RailValues.{RailTells, AreRails, on_terns}
use Rattle.query_laws.proofs.TernCells.{on_gate_terns, own_terns, on_reg_terns}
use Rattle.query_laws.proofs.Hazy.{IsHazy, LayerMay, pin_may, known_rails}
use Rattle.query_laws.proofs.HazyGates.{IsCoding, given_rails, true_rails, numbered_rails, pin_rails, hazy_gate, hazy_gate_is, layer_terns}
use Rattle.query_laws.proofs.HazyGates.{gate_may_tell, gate_reads_few, start_unknown, net_units, units_are, SaysRails, layers_may_said}
use Rattle.query_model.specs.declared.keys.Key.{Key}
use Rattle.query_model.specs.declared.keys.KeyLit.{KeyLit}
use Rattle.query_model.specs.declared.keys.Coding.{Coding}

-- a definition of a gate's rails is that of a net with keys of its own
from_hazy_gate : (coding : Coding) (d : Design) (claim : Claim) (moved : List (List Bool)) (t l k : ℕ) (g : Gate) (def : Definition)
    → claim.hazard ≡ true → In def (layer_gate coding d claim moved t l k g) → (has_own claim moved l g.out ≡ true)
    × (hazy_gate coding d claim moved t l k g ≡ def)
from_hazy_gate coding d claim moved t l k g def mode has =
    elim (cases_Bool (has_own claim moved l g.out)) [
      | inl own ↦ (own, only (subst (In def) (hazy_gate_is coding d claim moved t l k g own mode) has))
      | inr none ↦ absurd (nothing _ (has_own claim moved l g.out) none has)
    ]
  where
    only : In def (hazy_gate coding d claim moved t l k g ∷ []) → hazy_gate coding d claim moved t l k g ≡ def
    only (inl here) = here
    only (inr none) = absurd none

    nothing : (xs : List Definition) (b : Bool) → b ≡ false → In def (cond (not b) [] xs) → ⊥
    nothing xs false e has = has
    nothing xs true e has = absurd cc

-- the units of a start's net are true
units_true : (v : Key → Bool) (d : Design) (claim : Claim) (moved : List (List Bool)) (t l : ℕ) (c : Cycle) (rows : List (List Tern))
    (def : Definition) → IsHazy d claim moved c rows → SaysRails v d claim t rows → In def (start_units d claim t l) → AllTrue v def.clauses
units_true v d claim moved t (suc l) c rows def hazy says has = absurd has
units_true v d claim moved t zero c rows def hazy says has =
    let of = from_flat (net_units t) def (filter (is_start_net d claim) (below d.nets)) (subst (In def) (units_are d claim t hazy.hazard) has) in
    let n = of.0 in
    let kept = from_filter (is_start_net d claim) n (below d.nets) of.1 in
    let low = below_less d.nets n kept.0 in
    let unknown = start_unknown d claim moved c rows hazy n (start_net_in d claim n kept.1) in
    elim of.2 [
      | inl high_is ↦ subst (λ (x : Definition). AllTrue v x.clauses) high_is
          (unit_true v true (key t 1 0 n) (says.high 0 n (omega arith) low ∙ ap may_one unknown))
      | inr later ↦ elim later [
        | inl low_is ↦ subst (λ (x : Definition). AllTrue v x.clauses) low_is
            (unit_true v true (key t 1 1 n) (says.low 0 n (omega arith) low ∙ ap may_zero unknown))
        | inr none ↦ absurd none
      ]
    ]

-- the definition of a gate's rails is true
gate_hazy_true : (coding : Coding) (v : Key → Bool) (d : Design) (claim : Claim) (moved : List (List Bool)) (t : ℕ) (c : Cycle)
    (rows : List (List Tern)) → IsCoding coding → IsHazy d claim moved c rows → SaysRails v d claim t rows
    → ((l : ℕ) → l ≤ length claim.through → (n : ℕ) → n < d.nets → LayerMay AnyKey v d claim moved t rows l n) → (l : ℕ) → l ≤ length claim.through
    → (k : ℕ) (g : Gate) → slice_get d.gates k ≡ Some g → has_own claim moved l g.out ≡ true
    → AllTrue v (hazy_gate coding d claim moved t l k g).clauses
gate_hazy_true coding v d claim moved t c rows is hazy says tell l le k g at own =
    let range = All-at (IsGateInRange d) d.gates k g at hazy.sound.in_range.gates in
    let free : is_in (Net g.out) (held_set claim.through l) ≡ false =
    not-true (is_in (Net g.out) (held_set claim.through l)) (and_parts (net_at false moved l g.out)
    (not (is_in (Net g.out) (held_set claim.through l))) own).1 in
    let hs = pin_rails d claim moved t 0 l k g in
    let ls = pin_rails d claim moved t 1 l k g in
    let ts = layer_terns claim rows l k g in
    let high = key t (suc l) 0 g.out in
    let low = key t (suc l) 1 g.out in
    let len_hs : length hs ≡ length g.ins = length-numbered (λ i n. read_pin d claim moved t (suc l) 0 (GateIn k i) n) 0 g.ins in
    let len_ts : length ts ≡ length g.ins = length-numbered (λ i n. pin_reads Zero claim.through rows l (GateIn k i) n) 0 g.ins in
    let few : length ts ≤ 7 = omega (arith, range.few) in
    let shows : net_at Zero rows l g.out ≡ on_terns (value g.func) ts =
    hazy.layers.gates l le k g at free ∙ sym (on_gate_terns g.func (λ i n. pin_reads Zero claim.through rows l (GateIn k i) n) g.ins range.func) in
    true_rails coding v (value g.func) hs ls high low ts is (len_hs ∙ sym len_ts) few (gate_reads_few d g range)
    (gate_may_tell AnyKey v d claim moved t rows l k g range (λ j lt n small. tell j (omega arith) n small)
    (All-weaker (λ n. n < d.nets) (LayerMay AnyKey v d claim moved t rows l) (λ n small. tell l le n small) g.ins range.ins))
    (says.high l g.out le range.out ∙ ap may_one shows, says.low l g.out le range.out ∙ ap may_zero shows)

-- all definitions of a layer are true
pub layer_hazy_true : (coding : Coding) (v : Key → Bool) (d : Design) (claim : Claim) (moved : List (List Bool)) (t : ℕ) (c : Cycle)
    (rows : List (List Tern)) → IsCoding coding → IsHazy d claim moved c rows → ((n : ℕ) → n < d.nets → ReadTells AnyKey v d t (bit_at c.nets) n)
    → SaysRails v d claim t rows → (l : ℕ) → l ≤ length claim.through → (def : Definition) → In def (layer_definitions coding d claim moved t l)
    → AllTrue v def.clauses
layer_hazy_true coding v d claim moved t c rows is hazy base says l le def has =
    elim (In-cases def (start_units d claim t l) (flat_map (λ x. x) (numbered (layer_gate coding d claim moved t l) 0 d.gates)) has) [
      | inl in_units ↦ units_true v d claim moved t l c rows def hazy says in_units
      | inr gates ↦
          let list = from_flat (λ x. x) def (numbered (layer_gate coding d claim moved t l) 0 d.gates) gates in
          let of = from_numbered (layer_gate coding d claim moved t l) list.0 0 d.gates list.1 in
          let k = of.0 in
          let g = of.1 in
          let same : layer_gate coding d claim moved t l k g ≡ list.0 = ap (λ i. layer_gate coding d claim moved t l i g) (omega arith) ∙ of.3 in
          let from = from_hazy_gate coding d claim moved t l k g def hazy.hazard (subst (In def) (sym same) list.2) in
          subst (λ (e : Definition). AllTrue v e.clauses) from.1
          (gate_hazy_true coding v d claim moved t c rows is hazy says (layers_may_said v d claim moved t c rows hazy base says) l le k g of.2 from.0)
    ]

-- what the end's pins read in the last layer, and its own bit where it reads that
abbrev pub late_rails : Design → Claim → List (List Bool) → ℕ → ℕ → Bool → ℕ → Reg → List KeyLit
late_rails d claim moved t rail positive r reg =
    with_own reg (lit positive (bit_key d t r)) (numbered (λ i n. read_pin d claim moved t (length claim.through + 1) rail (RegIn r i) n) 0 reg.ins)

abbrev pub late_terns : Claim → List (List Tern) → ℕ → Reg → Bool → List Tern
late_terns claim rows r reg own =
    own_terns reg (tern_of own) (numbered (λ i n. pin_reads Zero claim.through rows (length claim.through) (RegIn r i) n) 0 reg.ins)

abbrev pub hazy_end : Coding → Design → Claim → List (List Bool) → ℕ → ℕ → Reg → Definition
hazy_end coding d claim moved t r reg =
    rails coding (reg_capture reg) (late_rails d claim moved t 0 true r reg) (late_rails d claim moved t 1 false r reg) (late_key d claim t 0)
    (late_key d claim t 1)

hazy_end_is : (coding : Coding) (d : Design) (claim : Claim) (moved : List (List Bool)) (t r : ℕ) (reg : Reg) → claim.hazard ≡ true
    → slice_get d.regs r ≡ Some reg → end_definition coding d claim moved t (RegEnd r) ≡ hazy_end coding d claim moved t r reg ∷ []
hazy_end_is coding d claim moved t r reg mode at = ap (late_reg coding d claim moved t r) at ∙ by_mode _ claim.hazard mode
  where
    by_mode : (xs : List Definition) (h : Bool) → h ≡ true → cond h (hazy_end coding d claim moved t r reg ∷ []) xs ≡ hazy_end coding d claim moved t r reg ∷ []
    by_mode xs true e = refl
    by_mode xs false e = absurd cc

rails_append : (kind : Key → Type 0) (v : Key → Bool) (hs ls is js : List KeyLit) (ts us : List Tern) → RailsTell kind v hs ls ts
    → RailsTell kind v is js us → RailsTell kind v (hs ++ is) (ls ++ js) (ts ++ us)
rails_append kind v [] [] is js [] us a b = b
rails_append kind v [] [] is js (t ∷ ts) us a b = absurd a
rails_append kind v [] (l ∷ ls) is js ts us a b = absurd a
rails_append kind v (h ∷ hs) [] is js ts us a b = absurd a
rails_append kind v (h ∷ hs) (l ∷ ls) is js [] us a b = absurd a
rails_append kind v (h ∷ hs) (l ∷ ls) is js (t ∷ ts) us a b = (a.0, (a.1.0, rails_append kind v hs ls is js ts us a.1.1 b))

-- the rails of the end's pins tell what the pins read
end_may_tell : (kind : Key → Type 0) (v : Key → Bool) (d : Design) (claim : Claim) (moved : List (List Bool)) (t : ℕ) (c : Cycle)
    (rows : List (List Tern)) (r : ℕ) (reg : Reg) → IsRegInRange d reg
    → ((l : ℕ) → l ≤ length claim.through → (n : ℕ) → n < d.nets → LayerMay kind v d claim moved t rows l n)
    → LitTells kind v (lit true (bit_key d t r)) (bit_at c.bits r) → RailsTell kind v (late_rails d claim moved t 0 true r reg)
    (late_rails d claim moved t 1 false r reg) (late_terns claim rows r reg (bit_at c.bits r))
end_may_tell kind v d claim moved t c rows r reg range tell own =
    rails_append kind v (pins 0) (pins 1) (mine true) (mine false) (numbered
    (λ i n. pin_reads Zero claim.through rows (length claim.through) (RegIn r i) n) 0 reg.ins)
    (if reads_own reg then tern_of (bit_at c.bits r) ∷ [] else [])
    (numbered_rails kind v (λ i n. read_pin d claim moved t (length claim.through + 1) 0 (RegIn r i) n)
    (λ i n. read_pin d claim moved t (length claim.through + 1) 1 (RegIn r i) n)
    (λ i n. pin_reads Zero claim.through rows (length claim.through) (RegIn r i) n) 0 reg.ins
    (λ j n at.
    let low = All-at (λ m. m < d.nets) reg.ins j n at range.ins in
    subst (λ m. RailTells kind v (read_pin d claim moved t m 0 (RegIn r (0 + j)) n) (read_pin d claim moved t m 1 (RegIn r (0 + j)) n)
    (pin_reads Zero claim.through rows (length claim.through) (RegIn r (0 + j)) n)) (sym (add-one (length claim.through)))
    (pin_may kind v d claim moved t rows (length claim.through) (RegIn r (0 + j)) n (λ i le. tell i le n low))))
    (by_test (reads_own reg))
  where
    pins : ℕ → List KeyLit
    pins rail = numbered (λ i n. read_pin d claim moved t (length claim.through + 1) rail (RegIn r i) n) 0 reg.ins

    mine : Bool → List KeyLit
    mine positive = if reads_own reg then lit positive (bit_key d t r) ∷ [] else []

    by_test : (b : Bool) → RailsTell kind v (cond b (lit true (bit_key d t r) ∷ []) []) (cond b (lit false (bit_key d t r) ∷ []) [])
        (cond b (tern_of (bit_at c.bits r) ∷ []) [])
    by_test true = let rails = known_rails kind v (lit true (bit_key d t r)) (bit_at c.bits r) own in (rails.0, (rails.1, tt))
    by_test false = tt

-- lists of the end's pins have one length, of at most seven
record AreEndPins (d : Design) (claim : Claim) (moved : List (List Bool)) (t : ℕ) (rows : List (List Tern)) (r : ℕ) (reg : Reg) (own : Bool) : Type 0 where
  same : length (late_rails d claim moved t 0 true r reg) ≡ length (late_terns claim rows r reg own)
  few : length (late_terns claim rows r reg own) ≤ 7

end_pins : (d : Design) (claim : Claim) (moved : List (List Bool)) (t : ℕ) (rows : List (List Tern)) (r : ℕ) (reg : Reg) (own : Bool)
    → IsRegInRange d reg → AreEndPins d claim moved t rows r reg own
end_pins d claim moved t rows r reg own range =
    let f : ℕ → ℕ → KeyLit = λ i n. read_pin d claim moved t (length claim.through + 1) 0 (RegIn r i) n in
    let h : ℕ → ℕ → Tern = λ i n. pin_reads Zero claim.through rows (length claim.through) (RegIn r i) n in
    let hs : length (numbered f 0 reg.ins) ≡ length reg.ins = length-numbered f 0 reg.ins in
    let ts : length (numbered h 0 reg.ins) ≡ length reg.ins = length-numbered h 0 reg.ins in
    record {
      same = lens (reads_own reg) (numbered f 0 reg.ins) (numbered h 0 reg.ins) (hs ∙ sym ts);
      few = short (reads_own reg) (numbered h 0 reg.ins) (omega (arith, range.few));
    }
  where
    lens : (b : Bool) (xs : List KeyLit) (ys : List Tern) → length xs ≡ length ys → length (xs ++ cond b (lit true (bit_key d t r) ∷ []) []) ≡ length
        (ys ++ cond b (tern_of own ∷ []) [])
    lens true xs ys e = omega (
      arith,
      e,
      Rattle.std.proofs.lemmas.List.length-append xs (lit true (bit_key d t r) ∷ []),
      Rattle.std.proofs.lemmas.List.length-append ys (tern_of own ∷ []),
    )
    lens false xs ys e = omega (arith, e, Rattle.std.proofs.lemmas.List.length-append xs [], Rattle.std.proofs.lemmas.List.length-append ys [])

    short : (b : Bool) (ys : List Tern) → length ys ≤ 6 → length (ys ++ cond b (tern_of own ∷ []) []) ≤ 7
    short true ys le = omega (arith, le, Rattle.std.proofs.lemmas.List.length-append ys (tern_of own ∷ []))
    short false ys le = omega (arith, le, Rattle.std.proofs.lemmas.List.length-append ys [])

-- what the end register captures of them
hazy_capture : (d : Design) (claim : Claim) (rows : List (List Tern)) (c : Cycle) (r : ℕ) (reg : Reg) → IsRegInRange d reg
    → slice_get d.regs r ≡ Some reg → tern_capture_over d claim.through rows (RegEnd r) c ≡ on_terns (reg_capture reg)
    (late_terns claim rows r reg (bit_at c.bits r))
hazy_capture d claim rows c r reg range at =
    ap (λ (o : Option Reg). tern_reg_capture claim.through rows r o (bit_at c.bits r)) at
    ∙ sym (on_reg_terns d reg (λ i n. pin_reads Zero claim.through rows (length claim.through) (RegIn r i) n) (tern_of (bit_at c.bits r)) range)

-- the rails of the late capture
abbrev pub EndMay : (Key → Type 0) → (Key → Bool) → Design → Claim → List (List Bool) → ℕ → Cycle → List (List Tern) → End → Type 0
EndMay kind v d claim moved t c rows e =
    RailTells kind v (late_capture_lit d claim moved t 0 e) (late_capture_lit d claim moved t 1 e) (tern_capture_over d claim.through rows e c)

output_may : (kind : Key → Type 0) (v : Key → Bool) (d : Design) (claim : Claim) (moved : List (List Bool)) (t : ℕ) (c : Cycle)
    (rows : List (List Tern)) (o : ℕ) → IsSound d → o < length d.outputs
    → ((l : ℕ) → l ≤ length claim.through → (n : ℕ) → n < d.nets → LayerMay kind v d claim moved t rows l n) → EndMay kind v d claim moved t c rows
    (OutputEnd o)
output_may kind v d claim moved t c rows o sound lt tell =
    let n = slice_index d.outputs o in
    subst (λ m. RailTells kind v (read_pin d claim moved t m 0 (OutPort o) n) (read_pin d claim moved t m 1 (OutPort o) n)
    (pin_reads Zero claim.through rows (length claim.through) (OutPort o) n)) (sym (add-one (length claim.through)))
    (pin_may kind v d claim moved t rows (length claim.through) (OutPort o) n (λ i le. tell i le n (sound.in_range.outputs o 0 lt)))

-- what makes the end's definition true tells its ternary capture
pub end_may : (coding : Coding) (kind : Key → Type 0) (v : Key → Bool) (d : Design) (claim : Claim) (moved : List (List Bool)) (t : ℕ) (c : Cycle)
    (rows : List (List Tern)) → IsCoding coding → IsHazy d claim moved c rows → (e : End) → IsEndIn d e
    → ((l : ℕ) → l ≤ length claim.through → (n : ℕ) → n < d.nets → LayerMay kind v d claim moved t rows l n)
    → ((r : ℕ) → r < length d.regs → LitTells kind v (lit true (bit_key d t r)) (bit_at c.bits r))
    → Forces kind v (end_definition coding d claim moved t e) → EndMay kind v d claim moved t c rows e
end_may coding kind v d claim moved t c rows is hazy (OutputEnd o) at_end tell own forces = output_may kind v d claim moved t c rows o hazy.sound at_end tell
end_may coding kind v d claim moved t c rows is hazy (RegEnd r) at_end tell own forces =
    let reg = get_within d.regs r at_end in
    let range = All-at (IsRegInRange d) d.regs r reg.0 reg.1 hazy.sound.in_range.regs in
    let def = hazy_end coding d claim moved t r reg.0 in
    let there : In def (end_definition coding d claim moved t (RegEnd r)) =
    subst (In def) (sym (hazy_end_is coding d claim moved t r reg.0 hazy.hazard reg.1)) (inl refl) in
    let pins = end_pins d claim moved t rows r reg.0 (bit_at c.bits r) range in
    let high = late_key d claim t 0 in
    let low = late_key d claim t 1 in
    let ts = late_terns claim rows r reg.0 (bit_at c.bits r) in
    let given : (out : Key) → In out def.outs → kind out → AreRails v (lit true high) (lit true low) (on_terns (reg_capture reg.0) ts) =
    λ out in_outs has. given_rails coding kind v (reg_capture reg.0) (late_rails d claim moved t 0 true r reg.0)
    (late_rails d claim moved t 1 false r reg.0) high low ts is pins.same pins.few (capture_reads d reg.0 range)
    (end_may_tell kind v d claim moved t c rows r reg.0 range tell (own r at_end)) (forces.clauses def out there in_outs has)
    (forces.closed def out there in_outs has) in
    subst (λ (x : Tern). RailTells kind v (lit true high) (lit true low) x) (sym (hazy_capture d claim rows c r reg.0 range reg.1))
    (λ has. (given high (inl refl) has).0, λ has. (given low (inr (inl refl)) has).1)

-- keys that say the late capture
pub record SaysEnd (v : Key → Bool) (d : Design) (claim : Claim) (t : ℕ) (x : Tern) : Type 0 where
  pub high : v (late_key d claim t 0) ≡ may_one x
  pub low : v (late_key d claim t 1) ≡ may_zero x

pub end_may_said : (v : Key → Bool) (d : Design) (claim : Claim) (moved : List (List Bool)) (t : ℕ) (c : Cycle) (rows : List (List Tern))
    → IsHazy d claim moved c rows → (e : End) → IsEndIn d e → ((l : ℕ) → l ≤ length claim.through → (n : ℕ) → n < d.nets
    → LayerMay AnyKey v d claim moved t rows l n) → SaysEnd v d claim t (tern_capture_over d claim.through rows e c)
    → EndMay AnyKey v d claim moved t c rows e
end_may_said v d claim moved t c rows hazy (RegEnd r) at_end tell says = (λ any. says.high, λ any. says.low)
end_may_said v d claim moved t c rows hazy (OutputEnd o) at_end tell says = output_may AnyKey v d claim moved t c rows o hazy.sound at_end tell

pub end_hazy_true : (coding : Coding) (v : Key → Bool) (d : Design) (claim : Claim) (moved : List (List Bool)) (t : ℕ) (c : Cycle)
    (rows : List (List Tern)) → IsCoding coding → IsHazy d claim moved c rows → (e : End) → IsEndIn d e
    → ((l : ℕ) → l ≤ length claim.through → (n : ℕ) → n < d.nets → LayerMay AnyKey v d claim moved t rows l n)
    → ((r : ℕ) → r < length d.regs → v (bit_key d t r) ≡ bit_at c.bits r) → SaysEnd v d claim t (tern_capture_over d claim.through rows e c)
    → (def : Definition) → In def (end_definition coding d claim moved t e) → AllTrue v def.clauses
end_hazy_true coding v d claim moved t c rows is hazy (OutputEnd o) at_end tell own says def has = absurd has
end_hazy_true coding v d claim moved t c rows is hazy (RegEnd r) at_end tell own says def has =
    let reg = get_within d.regs r at_end in
    let range = All-at (IsRegInRange d) d.regs r reg.0 reg.1 hazy.sound.in_range.regs in
    let pins = end_pins d claim moved t rows r reg.0 (bit_at c.bits r) range in
    let shows = hazy_capture d claim rows c r reg.0 range reg.1 in
    subst (λ (x : Definition). AllTrue v x.clauses) (only (hazy_end coding d claim moved t r reg.0)
    (subst (In def) (hazy_end_is coding d claim moved t r reg.0 hazy.hazard reg.1) has))
    (true_rails coding v (reg_capture reg.0) (late_rails d claim moved t 0 true r reg.0) (late_rails d claim moved t 1 false r reg.0)
    (late_key d claim t 0) (late_key d claim t 1) (late_terns claim rows r reg.0 (bit_at c.bits r)) is pins.same pins.few
    (capture_reads d reg.0 range)
    (end_may_tell AnyKey v d claim moved t c rows r reg.0 range tell (λ any. own r at_end))
    (says.high ∙ ap may_one shows, says.low ∙ ap may_zero shows))
  where
    only : (x : Definition) → In def (x ∷ []) → x ≡ def
    only x (inl here) = here
    only x (inr none) = absurd none
