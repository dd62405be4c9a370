-- Definitions of the places that the keys of a cycle are about, in place of those of all places.
use Rattle.std.proofs.Common.{◌≡◌, eq-eqb, option_map, nat_lt, ℕ, zero, suc, ◌+◌, ◌<◌, ◌≤◌, Bool, true, false, not, cond, Option, None, Some, List}
use Rattle.std.proofs.Common.{[], ◌∷◌, ◌++◌, map, length, take, refl, ap, sym, ◌∙◌, subst, arith}
use Rattle.std.specs.Prelude.{flat_map, slice_get, slice_index, if◌then◌else◌, ◌||◌, ◌&&◌, ◌==◌}
use Rattle.std.specs.List.{list_any}
use Rattle.std.proofs.lemmas.List.{append-nil, take_all, length-map}
use Rattle.std.proofs.lemmas.List.Concat.{flat_map-append}
use Rattle.std.proofs.lemmas.Option.{slice_get-map, get_or_from_slice_get}
use Rattle.net_model.proofs.Settling.{All-at}
use Rattle.net_model.specs.declared.netlist.Design.{Design}
use Rattle.net_model.specs.declared.netlist.Gate.{Gate}
use Rattle.net_model.specs.declared.netlist.Reg.{Reg}
use Rattle.net_model.specs.declared.claims.Claim.{Claim}
use Rattle.query_model.specs.Keys.{key, below}
use Rattle.query_model.specs.Defined.{Definition, numbered, unit, unit_if, set_in}
use Rattle.query_model.specs.Defined.{has_own, input_definition, gate_definition, bit_definition, layer_gate, base_definitions}
use Rattle.query_model.specs.Formula.{same_key, has_key, listed}
use Rattle.query_model.specs.declared.keys.Key.{Key}
use Rattle.query_model.specs.declared.keys.KeyLit.{KeyLit}
use Rattle.query_model.specs.declared.keys.Coding.{Coding}
use Rattle.query_model.proofs.Based.{get_within}
use Rattle.query_model.proofs.Places.{same_key-true}
use Rattle.cnf_encode.specs.Listed.{IsClosed, Lists, of_item, at_place, alone, gate_alone}
use Rattle.cnf_encode.specs.declared.cones.Cone.{Cone}
use Rattle.query_model.specs.Defined.{plain_gate, rails_gate}
use Rattle.cnf_encode.specs.Coned.{AreRows, IsConeFor, Covers, has_point, gate_points, bit_points, of_cone}
use Rattle.cnf_encode.proofs.Covered.{covered}
use Rattle.cnf_encode.proofs.Standing.{length-below, bit_at_place}
use Rattle.frame_unroll.proofs.Numbering.{take_at, numbered-take}
use Rattle.cnf_encode.proofs.Listing.{Lists-same, Lists-append, Closed-none, Closed-same, Closed-map, Closed-numbered, Closed-flat_numbered, flat-push}

pub at_place_is : {X A : Type 0} (f : ℕ → X → List A) (xs : List X) (k : ℕ) (x : X) → slice_get xs k ≡ Some x → at_place f xs k ≡ f k x
at_place_is f xs k x at = ap (of_item f k) at

-- the definition of an item is closed with those of all
pub Closed-at_place : {keys : List Key} {X : Type 0} (f : ℕ → X → Definition) (xs : List X) (k : ℕ) → IsClosed keys (numbered f 0 xs)
    → IsClosed keys (at_place (alone f) xs k)
Closed-at_place {keys} {X} f xs k closed = by (slice_get xs k) refl
  where
    by : (o : Option X) → slice_get xs k ≡ o → IsClosed keys (at_place (alone f) xs k)
    by None e = Closed-same (sym (ap (of_item (alone f) k) e)) Closed-none
    by (Some x) e = Closed-same (sym (at_place_is (alone f) xs k x e)) (Closed-numbered f xs k x e closed)

-- so is that of a gate's net with those of all gates' nets
pub Closed-gate_at : {keys : List Key} (coding : Coding) (d : Design) (c k : ℕ) → IsClosed keys (map (gate_definition coding d c) d.gates)
    → IsClosed keys (at_place (gate_alone coding d c) d.gates k)
Closed-gate_at {keys} coding d c k closed = by (slice_get d.gates k) refl
  where
    by : (o : Option Gate) → slice_get d.gates k ≡ o → IsClosed keys (at_place (gate_alone coding d c) d.gates k)
    by None e = Closed-same (sym (ap (of_item (gate_alone coding d c) k) e)) Closed-none
    by (Some g) e = Closed-same (sym (at_place_is (gate_alone coding d c) d.gates k g e)) (Closed-map (gate_definition coding d c) d.gates k g e closed)

pub Closed-flat_at_place : {keys : List Key} {X : Type 0} (f : ℕ → X → List Definition) (xs : List X) (k : ℕ)
    → IsClosed keys (flat_map (λ (defs : List Definition). defs) (numbered f 0 xs)) → IsClosed keys (at_place f xs k)
Closed-flat_at_place {keys} {X} f xs k closed = by (slice_get xs k) refl
  where
    by : (o : Option X) → slice_get xs k ≡ o → IsClosed keys (at_place f xs k)
    by None e = Closed-same (sym (ap (of_item f k) e)) Closed-none
    by (Some x) e = Closed-same (sym (at_place_is f xs k x e)) (Closed-flat_numbered f xs k x e closed)

places_to : {X A : Type 0} (f : ℕ → X → List A) (xs : List X) (n : ℕ) → n ≤ length xs → flat_map (at_place f xs) (below n) ≡ flat_map
    (λ (ys : List A). ys) (numbered f 0 (take n xs))
places_to f xs zero le = refl
places_to {X} {A} f xs (suc n) le =
    let id : List A → List A = λ ys. ys in
    let item = get_within xs n (omega arith) in
    let next : take (suc n) xs ≡ take (n + 1) xs = let e : suc n ≡ n + 1 = omega arith in ap (λ m. take m xs) e in
    flat-push (at_place f xs) (below n) n
    ∙ ap (λ (ys : List A). ys ++ at_place f xs n) (places_to f xs n (omega arith))
    ∙ ap (λ (ys : List A). flat_map id (numbered f 0 (take n xs)) ++ ys) (at_place_is f xs n item.0 item.1)
    ∙ sym (ap (λ (ys : List X). flat_map id (numbered f 0 ys)) next ∙ ap (flat_map id) (numbered-take f xs n item.0 item.1)
    ∙ flat-push id (numbered f 0 (take n xs)) (f n item.0))

-- all places, one by one
pub all_places : {X A : Type 0} (f : ℕ → X → List A) (xs : List X) → flat_map (at_place f xs) (below (length xs)) ≡ flat_map (λ (ys : List A). ys)
    (numbered f 0 xs)
all_places {X} {A} f xs =
    places_to f xs (length xs) (omega arith) ∙ ap (λ (ys : List X). flat_map (λ (ys : List A). ys) (numbered f 0 ys)) (take_all (length xs) xs (omega arith))

singles : {X A : Type 0} (f : ℕ → X → A) (i : ℕ) (xs : List X) → flat_map (λ (ys : List A). ys) (numbered (λ k x. f k x ∷ []) i xs) ≡ numbered f i xs
singles f i [] = refl
singles f i (x ∷ xs) = ap (λ ys. f i x ∷ ys) (singles f (i + 1) xs)

unnumbered : {X A : Type 0} (f : X → A) (i : ℕ) (xs : List X) → numbered (λ k x. f x) i xs ≡ map f xs
unnumbered f i [] = refl
unnumbered f i (x ∷ xs) = ap (λ ys. f x ∷ ys) (unnumbered f (i + 1) xs)

flat-flat : {X Y Z : Type 0} (g : Y → List Z) (f : X → List Y) (xs : List X) → flat_map g (flat_map f xs) ≡ flat_map (λ x. flat_map g (f x)) xs
flat-flat g f [] = refl
flat-flat {X} {Y} {Z} g f (x ∷ xs) = flat_map-append g (f x) (flat_map f xs) ∙ ap (λ (zs : List Z). flat_map g (f x) ++ zs) (flat-flat g f xs)

-- one place more
pub Lists-flat_more : {keys : List Key} (f : ℕ → List Definition) (places : List ℕ) (j k : ℕ) {old mid new : List (List ℕ)}
    → slice_get places j ≡ Some k → Lists keys (flat_map f (take j places)) old mid → Lists keys (f k) mid new
    → Lists keys (flat_map f (take (j + 1) places)) old new
Lists-flat_more f places j k at before here =
    Lists-same (sym (ap (flat_map f) (take_at places j k at).0 ∙ flat-push f (take j places) k)) (Lists-append before here)

-- the definitions of other places are of keys that aren't needed
pub Lists-covered : (keys : List Key) (c : ℕ) (points places : List ℕ) (f : ℕ → List Definition) (n : ℕ) {old new : List (List ℕ)}
    → Covers keys c points places → ((k p : ℕ) → slice_get points k ≡ Some p → has_point keys c p ≡ false → flat_map (listed keys) (f k) ≡ [])
    → length places ≤ n → Lists keys (flat_map f (take n places)) old new → Lists keys (flat_map f (below (length points))) old new
Lists-covered keys c points places f n {old} {new} covers absent all lists =
    let whole : Lists keys (flat_map f places) old new = Lists-same (ap (flat_map f) (take_all n places all)) lists in
    let same = flat-flat (listed keys) f places ∙ covered keys c points places (λ k. flat_map (listed keys) (f k)) covers absent
    ∙ sym (flat-flat (listed keys) f (below (length points))) in
    record { adds = rw (sym same) whole.adds }

or_right : (x y : Bool) → (x || y) ≡ false → y ≡ false
or_right true y e = absurd cc
or_right false y e = e

-- a point that none of a cycle's keys is about has no key there
no_key : (keys : List Key) (c p layer rail : ℕ) → has_point keys c p ≡ false → has_key keys (key c layer rail p) ≡ false
no_key [] c p layer rail none = refl
no_key (j ∷ js) c p layer rail none =
    by (same_key (key c layer rail p) j) refl (no_key js c p layer rail (or_right ((j.cycle == c) && (j.point == p)) (has_point js c p) none))
  where
    by : (s : Bool) → same_key (key c layer rail p) j ≡ s → has_key js (key c layer rail p) ≡ false → (s || has_key js (key c layer rail p)) ≡ false
    by false other later = later
    by true same later =
        let is = same_key-true (key c layer rail p) j same in
        let cycle : (j.cycle == c) ≡ true = eq-eqb j.cycle c (sym (ap (λ (k : Key). k.cycle) is)) in
        let point : (j.point == p) ≡ true = eq-eqb j.point p (sym (ap (λ (k : Key). k.point) is)) in
        let hit : has_point (j ∷ js) c p ≡ true = ap (λ (b : Bool). (b && (j.point == p)) || has_point js c p) cycle
        ∙ ap (λ (b : Bool). b || has_point js c p) point in
        absurd cc

-- a definition of keys that aren't needed has no clause in the formula
one_left_out : (keys : List Key) (def : Definition) (out : Key) → def.outs ≡ out ∷ [] → has_key keys out ≡ false → flat_map (listed keys) (def ∷ []) ≡ []
one_left_out keys def out outs none =
    append-nil (listed keys def)
    ∙ ap (λ (os : List Key). cond (list_any (has_key keys) os) def.clauses []) outs ∙ ap (λ (b : Bool). cond (b || false) def.clauses []) none

two_left_out : (keys : List Key) (def : Definition) (high low : Key) → def.outs ≡ high ∷ low ∷ [] → has_key keys high ≡ false
    → has_key keys low ≡ false → flat_map (listed keys) (def ∷ []) ≡ []
two_left_out keys def high low outs no_high no_low =
    append-nil (listed keys def)
    ∙ ap (λ (os : List Key). cond (list_any (has_key keys) os) def.clauses []) outs
    ∙ ap (λ (b : Bool). cond (b || (has_key keys low || false)) def.clauses []) no_high ∙ ap (λ (b : Bool). cond (b || false) def.clauses []) no_low

-- what is made of items whose points none of the keys is about
items_left_out : {X : Type 0} (keys : List Key) (c : ℕ) (point : X → ℕ) (f : ℕ → X → List Definition) (xs : List X)
    → ((k : ℕ) (x : X) → has_point keys c (point x) ≡ false → flat_map (listed keys) (f k x) ≡ []) → (k p : ℕ) → slice_get (map point xs) k ≡ Some p
    → has_point keys c p ≡ false → flat_map (listed keys) (at_place f xs k) ≡ []
items_left_out {X} keys c point f xs none k p at miss = by (slice_get xs k) (sym (slice_get-map point xs k) ∙ at)
  where
    by : (o : Option X) → option_map point o ≡ Some p → flat_map (listed keys) (of_item f k o) ≡ []
    by None is = refl
    by (Some x) is = let same : point x ≡ p = cc in none k x (ap (has_point keys c) same ∙ miss)

-- gates in the cycle itself
pub Lists-gates : (coding : Coding) (d : Design) (keys : List Key) (c : ℕ) (places : List ℕ) (n : ℕ) {old new : List (List ℕ)}
    → Covers keys c (gate_points d) places
    → length places ≤ n → Lists keys (flat_map (at_place (gate_alone coding d c) d.gates) (take n places)) old new
    → Lists keys (map (gate_definition coding d c) d.gates) old new
Lists-gates coding d keys c places n covers all lists =
    Lists-same
    (ap (λ (m : ℕ). flat_map (at_place (gate_alone coding d c) d.gates) (below m)) (length-map d.gates (λ (g : Gate). g.out))
    ∙ all_places (gate_alone coding d c) d.gates ∙ singles (λ k g. gate_definition coding d c g) 0 d.gates ∙ unnumbered (gate_definition coding d c) 0 d.gates)
    (Lists-covered keys c (gate_points d) places (at_place (gate_alone coding d c) d.gates) n covers
    (items_left_out keys c (λ (g : Gate). g.out) (gate_alone coding d c) d.gates
    (λ k g miss. one_left_out keys (gate_definition coding d c g) (key c 0 0 g.out) refl (no_key keys c g.out 0 0 miss)))
    all lists)

-- and in a layer
layer_left_out : (coding : Coding) (d : Design) (claim : Claim) (moved : List (List Bool)) (keys : List Key) (c l k : ℕ) (g : Gate)
    → has_point keys c g.out ≡ false
    → flat_map (listed keys) (layer_gate coding d claim moved c l k g) ≡ []
layer_left_out coding d claim moved keys c l k g miss = by (has_own claim moved l g.out) claim.hazard
  where
    by : (own hazard : Bool) → flat_map (listed keys) (cond (not own) []
        (cond hazard (rails_gate coding d claim moved c (suc l) k g ∷ []) (plain_gate coding d claim moved c (suc l) k g ∷ []))) ≡ []
    by false hazard = refl
    by true true =
        two_left_out keys (rails_gate coding d claim moved c (suc l) k g) (key c (suc l) 0 g.out) (key c (suc l) 1 g.out) refl
        (no_key keys c g.out (suc l) 0 miss) (no_key keys c g.out (suc l) 1 miss)
    by true false = one_left_out keys (plain_gate coding d claim moved c (suc l) k g) (key c (suc l) 0 g.out) refl (no_key keys c g.out (suc l) 0 miss)

pub Lists-layer_gates : (coding : Coding) (d : Design) (claim : Claim) (moved : List (List Bool)) (keys : List Key) (c l : ℕ) (places : List ℕ)
    (n : ℕ) {old new : List (List ℕ)} → Covers keys c (gate_points d) places → length places ≤ n
    → Lists keys (flat_map (at_place (layer_gate coding d claim moved c l) d.gates) (take n places)) old new
    → Lists keys (flat_map (λ (defs : List Definition). defs) (numbered (layer_gate coding d claim moved c l) 0 d.gates)) old new
Lists-layer_gates coding d claim moved keys c l places n covers all lists =
    Lists-same
    (ap (λ (m : ℕ). flat_map (at_place (layer_gate coding d claim moved c l) d.gates) (below m)) (length-map d.gates (λ (g : Gate). g.out))
    ∙ all_places (layer_gate coding d claim moved c l) d.gates)
    (Lists-covered keys c (gate_points d) places (at_place (layer_gate coding d claim moved c l) d.gates) n covers
    (items_left_out keys c (λ (g : Gate). g.out) (layer_gate coding d claim moved c l) d.gates (λ k g miss. layer_left_out coding d claim moved keys c l k g
    miss))
    all lists)

-- register bits, which are those of the cycle after
bits_left_out : (coding : Coding) (d : Design) (keys : List Key) (c k p : ℕ) → slice_get (bit_points d) k ≡ Some p → has_point keys (c + 1) p ≡ false
    → flat_map (listed keys) (at_place (alone (bit_definition coding d c)) d.regs k) ≡ []
bits_left_out coding d keys c k p at miss = by (slice_get d.regs k)
  where
    by : (reg : Option Reg) → flat_map (listed keys) (of_item (alone (bit_definition coding d c)) k reg) ≡ []
    by None = refl
    by (Some reg) =
        let here : p ≡ d.nets + k = (bit_at_place d k p at).0 in
        one_left_out keys (bit_definition coding d c k reg) (key (c + 1) 0 0 (d.nets + k)) refl
        (no_key keys (c + 1) (d.nets + k) 0 0 (ap (has_point keys (c + 1)) (sym here) ∙ miss))

pub length-bit_points : (d : Design) → length (bit_points d) ≡ length d.regs
length-bit_points d = length-map (below (length d.regs)) (λ r. d.nets + r) ∙ length-below (length d.regs)

pub Lists-bits : (coding : Coding) (d : Design) (keys : List Key) (c : ℕ) (places : List ℕ) (n : ℕ) {old new : List (List ℕ)}
    → Covers keys (c + 1) (bit_points d) places → length places ≤ n → Lists keys (flat_map (at_place (alone (bit_definition coding d c)) d.regs) (take n
    places)) old new
    → Lists keys (numbered (bit_definition coding d c) 0 d.regs) old new
Lists-bits coding d keys c places n covers all lists =
    Lists-same
    (ap (λ (m : ℕ). flat_map (at_place (alone (bit_definition coding d c)) d.regs) (below m)) (length-bit_points d)
    ∙ all_places (alone (bit_definition coding d c)) d.regs ∙ singles (bit_definition coding d c) 0 d.regs)
    (Lists-covered keys (c + 1) (bit_points d) places (at_place (alone (bit_definition coding d c)) d.regs) n covers (bits_left_out coding d keys c) all lists)

-- inputs
unit_left_out : (keys : List Key) (o : Option Bool) (flip : Bool) (out : Key) → has_key keys out ≡ false → flat_map (listed keys) (unit_if o flip out) ≡ []
unit_left_out keys None flip out miss = refl
unit_left_out keys (Some v) flip out miss = one_left_out keys (unit (if flip then not v else v) out) out refl miss

inputs_left_out : (d : Design) (keys : List Key) (live c k p : ℕ) → slice_get d.inputs k ≡ Some p → has_point keys c p ≡ false
    → flat_map (listed keys) (input_definition d live c k) ≡ []
inputs_left_out d keys live c k p at miss =
    let out = key c 0 0 (slice_index d.inputs k) in
    let none : has_key keys out ≡ false = ap (λ (n : ℕ). has_key keys (key c 0 0 n)) (get_or_from_slice_get d.inputs k p 0 at) ∙ no_key keys c p 0 0 miss in
    flat_map-append (listed keys) (unit_if (set_in d.fixed k) false out) (unit_if (set_in d.resets k) (not (nat_lt c live)) out)
    ∙ ap (λ (cs : List (List KeyLit)). cs ++ flat_map (listed keys) (unit_if (set_in d.resets k) (not (nat_lt c live)) out))
    (unit_left_out keys (set_in d.fixed k) false out none)
    ∙ unit_left_out keys (set_in d.resets k) (not (nat_lt c live)) out none

pub Lists-inputs : (d : Design) (keys : List Key) (live c : ℕ) (places : List ℕ) (n : ℕ) {old new : List (List ℕ)} → Covers keys c d.inputs places
    → length places ≤ n → Lists keys (flat_map (input_definition d live c) (take n places)) old new
    → Lists keys (flat_map (input_definition d live c) (below (length d.inputs))) old new
Lists-inputs d keys live c places n covers all lists =
    Lists-covered keys c d.inputs places (input_definition d live c) n covers (inputs_left_out d keys live c) all lists

-- the definitions of a cycle of a cone, by the coding and the design of another
pub base_same : (coding : Coding) (d : Design) (cone : Cone) (live c : ℕ) → cone.cells.now.list.coding ≡ coding → cone.design.now ≡ d
    → of_cone base_definitions cone live c ≡ base_definitions coding d live c
base_same coding d cone live c same design =
    ap (λ (k : Coding). base_definitions k cone.design.now live c) same ∙ ap (λ (e : Design). base_definitions coding e live c) design

-- a place is one of the list
pub place_below : (keys : List Key) (c : ℕ) (points places : List ℕ) (j k : ℕ) → Covers keys c points places → slice_get places j ≡ Some k → k < length points
place_below keys c points places j k covers at = All-at (λ m. m < length points) places j k at covers.below

-- the places of a cycle
pub row_covers : (keys : List Key) (points : List ℕ) (n c : ℕ) (rows : List (List ℕ)) (row : List ℕ) → AreRows keys points n rows → c < n
    → slice_get rows c ≡ Some row → Covers keys c points row
row_covers keys points n c rows row are lt at = subst (Covers keys c points) (get_or_from_slice_get rows c row [] at) (are.each c lt)

pub input_places : (keys : List Key) (c : ℕ) (cone : Cone) (row : List ℕ) → IsConeFor keys c cone → slice_get cone.inputs c ≡ Some row
    → Covers keys c cone.design.now.inputs row
input_places keys c cone row is at = row_covers keys cone.design.now.inputs (is.cycles + 1) c cone.inputs row is.of.inputs (omega (arith, is.lt)) at

pub gate_places : (keys : List Key) (c : ℕ) (cone : Cone) (row : List ℕ) → IsConeFor keys c cone → slice_get cone.gates c ≡ Some row
    → Covers keys c (gate_points cone.design.now) row
gate_places keys c cone row is at = row_covers keys (gate_points cone.design.now) (is.cycles + 1) c cone.gates row is.of.gates (omega (arith, is.lt)) at

pub bit_places : (keys : List Key) (c : ℕ) (cone : Cone) (row : List ℕ) → IsConeFor keys c cone
    → slice_get cone.bits (c + 1) ≡ Some row → Covers keys (c + 1) (bit_points cone.design.now) row
bit_places keys c cone row is at = row_covers keys (bit_points cone.design.now) (is.cycles + 1) (c + 1) cone.bits row is.of.bits (omega (arith, is.lt)) at
