-- Over the net values of a cycle there are layers, whatever the start shows late.
use Rattle.std.proofs.Common.{◌≡◌, ◌≢◌, ℕ, zero, suc, ◌+◌, ◌<◌, ◌≤◌, Bool, false, List, [], map, length, get_or, replicate, Some, refl, ap, sym, ◌∙◌}
use Rattle.std.proofs.Common.{subst, arith, inl, inr, add-one, get_or-set_same, length-set, set}
use Rattle.std.specs.Prelude.{All, Contains, slice_get, slice_index}
use Rattle.std.proofs.lemmas.Bool.{cases_Bool}
use Rattle.std.proofs.lemmas.List.{length-replicate, get_or-replicate}
use Rattle.std.proofs.lemmas.List.Elements.{All-nil, All-cons}
use Rattle.std.proofs.lemmas.Option.{slice_get_within, slice_get-get_or}
use Rattle.net_model.specs.Rows.{Applied}
use Rattle.net_model.specs.Netlist.{IsSound}
use Rattle.net_model.specs.Fits.{IsStartIn}
use Rattle.net_model.specs.Pins.{is_in, start_outs, start_nets, outs_of_reg, late_value}
use Rattle.net_model.specs.Layers.{first_value, row_at, net_at, held_set, layer_pins, AreLayerGates, AreLayersTo, AreLayers}
use Rattle.net_model.proofs.Settling.{ReadsPlaces}
use Rattle.net_model.proofs.Sources.{net_of}
use Rattle.net_model.proofs.Existence.{item_at}
use Rattle.net_model.proofs.Layered.{written, row_other, row_same, net_other, LayerDone, layer_skip, layer_more, BaseDone, base_more, LateDone, late_more}
use Rattle.net_model.proofs.LayerRows.{layers_first, layers_next, len_kept}
use Rattle.net_model.specs.declared.netlist.Design.{Design}
use Rattle.net_model.specs.declared.netlist.Reg.{Reg}
use Rattle.net_model.specs.declared.netlist.RegOut.{RegOut}
use Rattle.net_model.specs.declared.claims.PinRef.{PinRef}
use Rattle.net_model.specs.declared.claims.PinRef.TheVariants.{Net}
use Rattle.net_model.specs.declared.claims.Start.{Start}
use Rattle.net_model.specs.declared.claims.Start.TheVariants.{Reg as RegStart, Input as InputStart}

base_exists : {V : Type 0} (blank : V) (bit_value : Bool → V) (sets : List (List PinRef)) (l : ℕ) (base : List Bool) (start : List (List V)) (k : ℕ)
    → l < length start → length (row_at start l) ≡ length base → k ≤ length base → (rows : List (List V))
    × BaseDone blank bit_value sets l base start rows k
base_exists {V} blank bit_value sets l base start zero within len le =
    (start, record { count = refl; below = λ m apart. refl; len = len; row = λ n lt. absurd (omega arith) })
base_exists {V} blank bit_value sets l base start (suc k) within len le =
    let more = base_exists blank bit_value sets l base start k within len (omega arith) in
    let v = first_value blank bit_value sets start l base k in (
      written more.0 l k v,
      subst (BaseDone blank bit_value sets l base start (written more.0 l k v)) (add-one k)
          (base_more blank bit_value sets l base start more.0 k v (omega (arith, more.1.count)) (omega arith) refl more.1),
    )

late_exists : {V : Type 0} (blank value inverted : V) (d : Design) (r : ℕ) (reg : Reg) (start : List (List V)) (o : ℕ) → IsSound d → 0 < length start
    → length (row_at start 0) ≡ d.nets → slice_get d.regs r ≡ Some reg → o ≤ length reg.outs → (rows : List (List V))
    × LateDone blank value inverted reg.outs start rows o
late_exists {V} blank value inverted d r reg start zero sound within len at le =
    (start, record { count = refl; below = λ m apart. refl; len = refl; late = λ p lt. absurd (omega arith); others = λ n out. refl })
late_exists {V} blank value inverted d r reg start (suc o) sound within len at le =
    let more = late_exists blank value inverted d r reg start o sound within len at (omega arith) in
    let out = item_at reg.outs o (omega arith) in
    let v = late_value value inverted out.0 in (
      written more.0 0 out.0.net v,
      subst (LateDone blank value inverted reg.outs start (written more.0 0 out.0.net v)) (add-one o)
          (late_more blank value inverted d r reg start more.0 o out.0 v sound (omega (arith, more.1.count)) (more.1.len ∙ len) at out.1 refl more.1),
    )

-- the nets of the start show the late value in the first layer, and all other nets what they showed
record IsShown {V : Type 0} (blank value inverted : V) (d : Design) (start : Start) (old new : List (List V)) : Type 0 where
  count : length new ≡ length old
  below : (m : ℕ) → m ≢ 0 → row_at new m ≡ row_at old m
  len : length (row_at new 0) ≡ length (row_at old 0)
  late : All (λ (o : RegOut). net_at blank new 0 o.net ≡ late_value value inverted o) (start_outs d start)
  others : (n : ℕ) → ¬ Contains (start_nets d start) n → net_at blank new 0 n ≡ net_at blank old 0 n

shown_exists : {V : Type 0} (blank value inverted : V) (d : Design) (start : Start) (old : List (List V)) → IsSound d → IsStartIn d start
    → 0 < length old → length (row_at old 0) ≡ d.nets → (new : List (List V)) × IsShown blank value inverted d start old new
shown_exists {V} blank value inverted d (RegStart r) old sound is within len =
    let reg = item_at d.regs r is in
    let made = late_exists blank value inverted d r reg.0 old (length reg.0.outs) sound within len reg.1 (omega arith) in
    let outs : outs_of_reg (slice_get d.regs r) ≡ reg.0.outs = ap outs_of_reg reg.1 in (
      made.0,
      record {
        count = made.1.count;
        below = made.1.below;
        len = made.1.len;
        late = subst (All (λ (o : RegOut). net_at blank made.0 0 o.net ≡ late_value value inverted o)) (sym outs)
            (λ k x lt. made.1.late k lt (get_or reg.0.outs k x) (slice_get-get_or reg.0.outs k x lt));
        others = λ n out. made.1.others n (λ has. out (subst (λ (os : List RegOut). Contains (map net_of os) n) (sym outs) has));
      },
    )
shown_exists {V} blank value inverted d (InputStart i) old sound is within len =
    let net = slice_index d.inputs i in
    let low = sound.in_range.inputs i 0 is in
    let rows = written old 0 net value in
    let out : RegOut = record { net = net; inverted = false } in
    let late_at : RegOut → Type 0 = λ o. net_at blank rows 0 o.net ≡ late_value value inverted o in (
      rows,
      record {
        count = length-set old 0 (set (row_at old 0) net value);
        below = λ m apart. row_other old 0 net m value apart;
        len = ap length (row_same old 0 net value within) ∙ length-set (row_at old 0) net value;
        late =
            All-cons late_at out []
            (ap (λ (row : List V). get_or row net blank) (row_same old 0 net value within) ∙ get_or-set_same (row_at old 0) net value blank (omega arith))
            (All-nil late_at);
        others = λ n other. net_other blank old 0 net 0 n value within (λ same. other (0, omega arith, sym same));
      },
    )

gates_exist : {V : Type 0} (applied : Applied V) (reads : ReadsPlaces applied) (blank : V) (d : Design) (sets : List (List PinRef)) (l : ℕ)
    (start : List (List V)) (k : ℕ) → IsSound d → l < length start → length (row_at start l) ≡ d.nets → k ≤ length d.gates → (rows : List (List V))
    × LayerDone applied blank d sets l start rows k
gates_exist {V} applied reads blank d sets l start zero sound within len le = (
  start,
  record {
    count = refl;
    below = λ m apart. refl;
    len = len;
    sources = λ n has. refl;
    held = λ n is. refl;
    gates = λ j lt. absurd (omega arith);
  },
)
gates_exist {V} applied reads blank d sets l start (suc k) sound within len le =
    let more = gates_exist applied reads blank d sets l start k sound within len (omega arith) in
    let gate = item_at d.gates k (omega arith) in
    let v = applied gate.0.func (layer_pins blank sets more.0 l k gate.0.ins) in
    elim (cases_Bool (is_in (Net gate.0.out) (held_set sets l))) [
      | inl held ↦ (
        more.0,
        subst (LayerDone applied blank d sets l start more.0) (add-one k)
            (layer_skip applied blank d sets l start more.0 k gate.0 gate.1 held more.1),
      )
      | inr free ↦ (
        written more.0 l gate.0.out v,
        subst (LayerDone applied blank d sets l start (written more.0 l gate.0.out v)) (add-one k)
            (layer_more applied reads blank d sets l start more.0 k gate.0 v sound (omega (arith, more.1.count)) gate.1 free refl more.1),
      )
    ]

-- the layers so far, in rows that have a value for each net
record AreMade {V : Type 0} (applied : Applied V) (bit_value : Bool → V) (value inverted : V) (d : Design) (start : Start) (sets : List (List PinRef))
    (base : List Bool) (last : ℕ) (rows : List (List V)) : Type 0 where
  count : length rows ≡ length sets + 1
  lens : (m : ℕ) → m < length sets + 1 → length (row_at rows m) ≡ d.nets
  layers : AreLayersTo applied (bit_value false) d start sets (late_value value inverted) (map bit_value base) rows last

all_gates : {V : Type 0} (applied : Applied V) (blank : V) (d : Design) (sets : List (List PinRef)) (l : ℕ) (start rows : List (List V))
    → LayerDone applied blank d sets l start rows (length d.gates) → AreLayerGates applied blank d sets rows l
all_gates {V} applied blank d sets l start rows done k g at free = done.gates k (slice_get_within d.gates k g at) g at free

layers_to : {V : Type 0} (applied : Applied V) (reads : ReadsPlaces applied) (bit_value : Bool → V) (value inverted : V) (d : Design) (start : Start)
    (sets : List (List PinRef)) (base : List Bool) (last : ℕ) → IsSound d → IsStartIn d start → length base ≡ d.nets → last ≤ length sets
    → (rows : List (List V)) × AreMade applied bit_value value inverted d start sets base last rows
layers_to {V} applied reads bit_value value inverted d start sets base zero sound is long le =
    let blank = bit_value false in
    let size = length sets + 1 in
    let room : List (List V) = replicate size (replicate d.nets blank) in
    let count : length room ≡ size = length-replicate size (replicate d.nets blank) in
    let row : (m : ℕ) → m < size → length (row_at room m) ≡ d.nets = λ m low. ap length (get_or-replicate size m (replicate d.nets blank) [] low)
    ∙ length-replicate d.nets blank in
    let based = base_exists blank bit_value sets 0 base room (length base) (omega arith) (row 0 (omega arith) ∙ sym long) (omega arith) in
    let shown = shown_exists blank value inverted d start based.0 sound is (omega (arith, based.1.count)) (based.1.len ∙ long) in
    let done = gates_exist applied reads blank d sets 0 shown.0 (length d.gates) sound (omega (arith, shown.1.count, based.1.count))
    (shown.1.len ∙ (based.1.len ∙ long)) (omega arith) in (
      done.0,
      record {
        count = done.1.count ∙ (shown.1.count ∙ (based.1.count ∙ count));
        lens = λ m low. len_kept shown.0 done.0 0 d.nets m done.1.below done.1.len
            (len_kept based.0 shown.0 0 d.nets m shown.1.below (shown.1.len ∙ (based.1.len ∙ long))
            (len_kept room based.0 0 d.nets m based.1.below (based.1.len ∙ long) (row m low)));
        layers =
            layers_first applied bit_value d start sets (late_value value inverted) base based.0 shown.0 done.0 sound is long
            (omega (arith, done.1.count, shown.1.count, based.1.count)) based.1.row shown.1.late shown.1.others done.1.len done.1.sources
            (all_gates applied blank d sets 0 shown.0 done.0 done.1);
      },
    )
layers_to {V} applied reads bit_value value inverted d start sets base (suc last) sound is long le =
    let blank = bit_value false in
    let more = layers_to applied reads bit_value value inverted d start sets base last sound is long (omega arith) in
    let l = last + 1 in
    let based = base_exists blank bit_value sets l base more.0 (length base) (omega (arith, more.1.count)) (more.1.lens l (omega arith) ∙ sym long)
    (omega arith) in
    let done = gates_exist applied reads blank d sets l based.0 (length d.gates) sound (omega (arith, based.1.count, more.1.count))
    (based.1.len ∙ long) (omega arith) in (
      done.0,
      record {
        count = done.1.count ∙ (based.1.count ∙ more.1.count);
        lens = λ m low. len_kept based.0 done.0 l d.nets m done.1.below done.1.len
            (len_kept more.0 based.0 l d.nets m based.1.below (based.1.len ∙ long) (more.1.lens m low));
        layers =
            subst (AreLayersTo applied blank d start sets (late_value value inverted) (map bit_value base) done.0) (add-one last)
            (layers_next applied reads bit_value d start sets (late_value value inverted) base more.0 based.0 done.0 last sound
            (omega (arith, more.1.count)) long more.1.layers (λ m low. based.1.below m (omega arith)) based.1.len based.1.row
            (done.1.count ∙ based.1.count) (λ m low. done.1.below m (omega arith)) done.1.len done.1.sources done.1.held
            (all_gates applied blank d sets l based.0 done.0 done.1));
      },
    )

-- for each value that the start shows late, there are layers
pub layers_exist : {V : Type 0} (applied : Applied V) (reads : ReadsPlaces applied) (bit_value : Bool → V) (value inverted : V) (d : Design)
    (start : Start) (sets : List (List PinRef)) (base : List Bool) → IsSound d → IsStartIn d start → length base ≡ d.nets → (rows : List (List V))
    × AreLayers applied (bit_value false) d start sets (late_value value inverted) (map bit_value base) rows
layers_exist {V} applied reads bit_value value inverted d start sets base sound is long =
    let made = layers_to applied reads bit_value value inverted d start sets base (length sets) sound is long (omega arith) in
    (made.0, made.1.layers)
