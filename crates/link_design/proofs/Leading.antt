-- Cycles of gates, by nets and by places.
use Rattle.std.proofs.Common.{◌≡◌, ℕ, zero, suc, ◌+◌, ◌-◌, ◌<◌, ◌≤◌, nat_lt, true, false, List, [], ◌∷◌, ◌++◌, length, map}
use Rattle.std.proofs.Common.{refl, ap, subst, sym, ◌∙◌, arith, inl, inr, length-append}
use Rattle.std.specs.Prelude.{Contains, Some, slice_get, slice_index_or, option_map, ◌⊎◌}
use Rattle.std.proofs.lemmas.Bool.{cases_lt}
use Rattle.std.proofs.lemmas.Bool.Decides.{nat_tests}
use Rattle.std.proofs.lemmas.List.{length-map}
use Rattle.std.proofs.lemmas.Option.{slice_get_within, get_or_from_slice_get, slice_get-map}
use Rattle.net_model.specs.Netlist.{AllBelow, gate_nets}
use Rattle.net_model.proofs.Settling.{All-at}
use Rattle.net_model.specs.declared.netlist.Gate.{Gate}
use Rattle.graph_order.specs.Needs as place
use Rattle.graph_order.specs.Orders.{IsRightOrder}
use Rattle.graph_order.proofs.Marked.{at_contains, contains_at}
use Rattle.graph_order.proofs.Acyclic.{needs_within, cycle_within}
use Rattle.link_defs.specs.Circuits as net
use Rattle.link_defs.specs.Designs.{number_by}
use Rattle.link_design.specs.Orders.{IsWired, IsGateOrder, need_by, row_needs}
use Rattle.link_design.proofs.DriverPlaces.{number_is, number_at}

-- what a mapped list contains comes from an item
pub map_contains : {X Y : Type 0} (f : X → Y) (xs : List X) (y : Y) → Contains (map f xs) y → (x : X) × Contains xs x × (f x ≡ y)
map_contains f [] y has = absurd (omega (arith, has.1))
map_contains f (x ∷ xs) y (zero, lt, same) = (x, (0, omega arith, refl), same)
map_contains f (x ∷ xs) y (suc k, lt, same) = let (z, (i, less, is), e) = map_contains f xs y (k, omega arith, same) in (z, (suc i, omega arith, is), e)

-- and each item gives one
pub contains_map : {X Y : Type 0} (f : X → Y) (xs : List X) (x : X) → Contains xs x → Contains (map f xs) (f x)
contains_map f [] x has = absurd (omega (arith, has.1))
contains_map f (y ∷ ys) x (zero, lt, same) = (0, omega arith, ap f same)
contains_map f (y ∷ ys) x (suc k, lt, same) = let (i, less, is) = contains_map f ys x (k, omega arith, same) in (suc i, omega arith, is)

-- a place after the first list is one of the second
pub after : (xs ys : List ℕ) (k : ℕ) → slice_get (xs ++ ys) (length xs + k) ≡ slice_get ys k
after [] ys k = ap (λ (i : ℕ). slice_get ys i) (omega arith)
after (x ∷ xs) ys k =
    let next : length (x ∷ xs) + k ≡ suc (length xs + k) = omega arith in ap (λ (i : ℕ). slice_get (x ∷ (xs ++ ys)) i) next ∙ after xs ys k

-- the item at a place of a mapped list
pub map_at : {X Y : Type 0} (f : X → Y) (xs : List X) (k : ℕ) (x : X) → slice_get xs k ≡ Some x → slice_get (map f xs) k ≡ Some (f x)
map_at f xs k x at = slice_get-map f xs k ∙ ap (option_map f) at

-- and where it comes from
pub map_from : {X Y : Type 0} (f : X → Y) (xs : List X) (k : ℕ) (y : Y) → slice_get (map f xs) k ≡ Some y → (x : X) × (slice_get xs k ≡ Some x) × (f x ≡ y)
map_from f [] k y at = cc
map_from f (x ∷ xs) zero y at = (x, refl, cc)
map_from f (x ∷ xs) (suc k) y at = map_from f xs k y at

-- what the row says of a net
pub row_at : (gates : List Gate) (sources row : List ℕ) → IsWired gates sources row → (n : ℕ) → n < length row → slice_index_or row n 0 ≡ number_by
    (sources ++ gate_nets gates) n
row_at gates sources row w n lt = get_or_from_slice_get row n (number_by (sources ++ gate_nets gates) n) 0 (w.row_is.at n lt)

-- the gate that drives a net is the one at the net's place
need_at : (count sources p : ℕ) (row : List ℕ) (n : ℕ) → slice_index_or row n 0 ≡ sources + p → need_by count sources row n ≡ p
unfolding need_by
need_at count sources p row n is =
    let past : nat_lt (sources + p) sources ≡ false = grind (arith, nat_tests) in
    rw (is, past) (omega arith)

-- the gate that drives a net is the one that is needed for it
pub need_is : (gates : List Gate) (sources row : List ℕ) → IsWired gates sources row → (k : ℕ) (h : Gate) → slice_get gates k ≡ Some h
    → need_by (length gates) (length sources) row h.out ≡ k
need_is gates sources row w k h at =
    let out : slice_get (gate_nets gates) k ≡ Some h.out = map_at (λ (g : Gate). g.out) gates k h at in
    let inside : h.out < length row = All-at (λ n. n < length row) (gate_nets gates) k h.out out w.outs in
    let there : slice_get (sources ++ gate_nets gates) (length sources + k) ≡ Some h.out = after sources (gate_nets gates) k ∙ out in
    need_at (length gates) (length sources) k row h.out (row_at gates sources row w h.out inside ∙ number_is (sources ++ gate_nets gates) h.out
    (length sources + k) (w.once h.out) there)

-- what is needed for a net is no gate, or the gate at the place of its driver
pub need_cases : (count sources : ℕ) (row : List ℕ) (n p : ℕ) → slice_index_or row n 0 ≡ p → (need_by count sources row n ≡ count) ⊎
    ((sources ≤ p) × (need_by count sources row n ≡ p - sources))
unfolding need_by
need_cases count sources row n p is = elim (cases_lt p sources) [
  | inl lt ↦ let hit : nat_lt p sources ≡ true = grind (arith, nat_tests) in inl (rw (is, hit) refl)
  | inr le ↦ let miss : nat_lt p sources ≡ false = grind (arith, nat_tests) in inr (le, rw (is, miss) refl)
]

-- and a place that is needed is that of a gate that drives what is read
pub needed_is : (gates : List Gate) (sources row : List ℕ) → IsWired gates sources row → (n j : ℕ) → n < length row → need_by (length gates)
    (length sources) row n ≡ j → j < length gates → (h : Gate) × (slice_get gates j ≡ Some h) × (h.out ≡ n)
needed_is gates sources row w n j lt is less =
    let all : List ℕ = sources ++ gate_nets gates in
    let count = length-map gates (λ (g : Gate). g.out) in
    let total = length-append sources (gate_nets gates) in
    elim (need_cases (length gates) (length sources) row n (number_by all n) (row_at gates sources row w n lt)) [
      | inl none ↦ absurd (omega arith)
      | inr some ↦
          let (le, e) = some in
          let at : slice_get all (number_by all n) ≡ Some n = number_at all n (omega arith) in
          let sum : number_by all n ≡ length sources + j = omega arith in
          let out : slice_get (gate_nets gates) j ≡ Some n = sym (after sources (gate_nets gates) j) ∙ ap (λ (x : ℕ). slice_get all x) (sym sum) ∙ at in
          map_from (λ (g : Gate). g.out) gates j n out
    ]

-- what the gates need, by place
abbrev needs : List Gate → List ℕ → List ℕ → List (List ℕ)
needs gates sources row = row_needs gates (length sources) row

-- what the gate at a place needs
needs_at : (gates : List Gate) (sources row : List ℕ) (k : ℕ) (g : Gate) → slice_get gates k ≡ Some g
    → place.needs_of (needs gates sources row) k ≡ map (need_by (length gates) (length sources) row) g.ins
needs_at gates sources row k g at =
    let give = λ (g : Gate). map (need_by (length gates) (length sources) row) g.ins in
    get_or_from_slice_get (map give gates) k (give g) [] (map_at give gates k g at)

-- a place below the number of gates has a gate
pub gate_of : (gates : List Gate) (k : ℕ) → k < length gates → (g : Gate) × (slice_get gates k ≡ Some g)
gate_of [] k lt = absurd (omega arith)
gate_of (g ∷ gates) zero lt = (g, refl)
gate_of (g ∷ gates) (suc k) lt = gate_of gates k (omega arith)

-- what a gate needs drives a net that it reads
asked_is : (gates : List Gate) (sources row : List ℕ) → IsWired gates sources row → (by j : ℕ)
    → Contains (place.needs_of (needs gates sources row) by) j → j < length gates
    → (g h : Gate) × (slice_get gates by ≡ Some g) × (slice_get gates j ≡ Some h) × Contains g.ins h.out
asked_is gates sources row w by j asked less =
    let count = length-map gates (λ (g : Gate). map (need_by (length gates) (length sources) row) g.ins) in
    let within : by < length gates = omega (arith, needs_within (needs gates sources row) by j asked) in
    let (g, at) = gate_of gates by within in
    let listed : Contains (map (need_by (length gates) (length sources) row) g.ins) j = subst (λ (xs : List ℕ). Contains xs j)
    (needs_at gates sources row by g at) asked in
    let (n, reads, is) = map_contains (need_by (length gates) (length sources) row) g.ins j listed in
    let inside : n < length row = (let (i, lt, same) = reads in let b = All-at (λ (g : Gate). AllBelow (length row) g.ins) gates by g at w.ins in
    subst (λ (x : ℕ). x < length row) same (b i n lt)) in
    let (h, there, out) = needed_is gates sources row w n j inside is less in
    (g, h, at, there, subst (λ (x : ℕ). Contains g.ins x) (sym out) reads)

-- one place has one gate
same_gate : (gates : List Gate) (k : ℕ) (g h : Gate) → slice_get gates k ≡ Some g → slice_get gates k ≡ Some h → g ≡ h
same_gate gates k g h a b = cc

-- from places to nets
pub leads_nets : (gates : List Gate) (sources row : List ℕ) → IsWired gates sources row → (a b : ℕ) → place.LeadsTo (needs gates sources row) a b
    → (g h : Gate) → slice_get gates a ≡ Some g → slice_get gates b ≡ Some h → net.LeadsTo gates g.out h.out
leads_nets gates sources row w a b (place.Stay p) g h at_g at_h =
    subst (λ (x : Gate). net.LeadsTo gates g.out x.out) (same_gate gates p g h at_g at_h) (net.Stay g.out)
leads_nets gates sources row w a b (place.Go_on from by to asked back) g h at_g at_h =
    let (r, k, at_r, at_k, reads) = asked_is gates sources row w by from asked (slice_get_within gates from g at_g) in
    let same = same_gate gates from k g at_k at_g in
    net.Go_on g.out h.out r (contains_at gates by r at_r) (subst (λ (x : Gate). Contains r.ins x.out) same reads)
    (leads_nets gates sources row w by to back r h at_r at_h)

-- a cycle of places is one of nets
pub cycle_nets : (gates : List Gate) (sources row : List ℕ) → IsWired gates sources row → (k : ℕ) (h : Gate) → slice_get gates k ≡ Some h
    → place.IsOnCycle (needs gates sources row) k → net.IsOnCycle gates h.out
cycle_nets gates sources row w k h at on =
    let (r, g, at_r, at_g, reads) = asked_is gates sources row w on.by k on.needed (slice_get_within gates k h at) in
    let same = same_gate gates k g h at_g at in
    record {
      gate = r;
      there = contains_at gates on.by r at_r;
      reads = subst (λ (x : Gate). Contains r.ins x.out) same reads;
      back = leads_nets gates sources row w on.by k on.back r h at_r at;
    }

-- a gate that reads what another drives needs it
needs_it : (gates : List Gate) (sources row : List ℕ) → IsWired gates sources row → (k j : ℕ) (g h : Gate) → slice_get gates k ≡ Some g
    → slice_get gates j ≡ Some h → Contains g.ins h.out → Contains (place.needs_of (needs gates sources row) k) j
needs_it gates sources row w k j g h at_g at_h reads =
    let listed = contains_map (need_by (length gates) (length sources) row) g.ins h.out reads in
    let is = need_is gates sources row w j h at_h in
    subst (λ (xs : List ℕ). Contains xs j) (sym (needs_at gates sources row k g at_g))
    (subst (λ (x : ℕ). Contains (map (need_by (length gates) (length sources) row) g.ins) x) is listed)

-- the gate that drives what a net leads to, which is the net itself or is driven
pub record DrivenFrom (gates : List Gate) (sources row : List ℕ) (a n : ℕ) : Type 0 where
  pub k : ℕ
  pub h : Gate
  pub there : slice_get gates k ≡ Some h
  pub out : h.out ≡ n
  pub leads : place.LeadsTo (needs gates sources row) a k

-- from nets to places
leads_places : (gates : List Gate) (sources row : List ℕ) → IsWired gates sources row → (n m : ℕ) → net.LeadsTo gates n m → (a : ℕ) (g : Gate)
    → slice_get gates a ≡ Some g → g.out ≡ n → DrivenFrom gates sources row a m
leads_places gates sources row w n m (net.Stay x) a g at out = record { k = a; h = g; there = at; out = out; leads = place.Stay a }
leads_places gates sources row w n m (net.Go_on from to r has reads back) a g at out =
    let (b, at_r) = at_contains gates r has in
    let rest = leads_places gates sources row w r.out to back b r at_r refl in
    let asked = needs_it gates sources row w b a r g at_r at (subst (λ (x : ℕ). Contains r.ins x) (sym out) reads) in
    record { k = rest.k; h = rest.h; there = rest.there; out = rest.out; leads = place.Go_on a b rest.k asked rest.leads }

-- a cycle of nets is one of places
pub cycle_places : (gates : List Gate) (sources row : List ℕ) → IsWired gates sources row → (n : ℕ) → net.IsOnCycle gates n → (k : ℕ)
    × place.IsOnCycle (needs gates sources row) k
cycle_places gates sources row w n on =
    let (b, at) = at_contains gates on.gate on.there in
    let rest = leads_places gates sources row w on.gate.out n on.back b on.gate at refl in
    let asked = needs_it gates sources row w b rest.k on.gate rest.h at rest.there (subst (λ (x : ℕ). Contains on.gate.ins x) (sym rest.out) on.reads) in
    (rest.k, record { by = b; needed = asked; back = rest.leads })

-- a right order of places is one of the gates
pub gates_ordered : (gates : List Gate) (sources row : List ℕ) (order : List ℕ) → IsWired gates sources row
    → IsRightOrder (needs gates sources row) order → IsGateOrder gates order
gates_ordered gates sources row order w right =
    let count = length-map gates (λ (g : Gate). map (need_by (length gates) (length sources) row) g.ins) in
    record {
      each_once = λ k lt. right.each_once k (omega arith);
      in_range = λ i k at. omega (arith, right.in_range i k at);
      earlier = λ i k j g h at at_g at_h reads. right.earlier i k j at (needs_it gates sources row w k j g h at_g at_h reads)
          (omega (arith, slice_get_within gates j h at_h));
    }

-- a place on a cycle has a gate
pub places_within : (gates : List Gate) (sources row : List ℕ) (k : ℕ) → place.IsOnCycle (needs gates sources row) k → k < length gates
places_within gates sources row k on =
    let count = length-map gates (λ (g : Gate). map (need_by (length gates) (length sources) row) g.ins) in
    omega (arith, cycle_within (needs gates sources row) k on)
