-- The name of a net among instances, and the leaf of a register or a clock gate.
use Rattle.std.proofs.Common.{◌≡◌, ℕ, suc, ◌<◌, ◌≤◌, Bool, true, false, List, [], ◌∷◌, ◌++◌, length, map, Some, None, refl, ap, subst, sym}
use Rattle.std.proofs.Common.{◌∙◌, arith, inl, inr}
use Rattle.std.specs.Prelude.{Option, Contains, slice_get, flat_map, ◌==◌, IsSome}
use Rattle.std.specs.List.{position}
use Rattle.std.proofs.lemmas.Bool.Decides.{nat_tests}
use Rattle.std.proofs.lemmas.Option.{slice_get_within, get_or_from_slice_get}
use Rattle.sdcv_base.specs.declared.limits.LimitName.{LimitName}
use Rattle.net_model.proofs.Members.{In, In-flat, In-map, In-from_Contains, Contains-from_In, from_map}
use Rattle.netlist_types.specs.declared.sources.Source.{Source}
use Rattle.netlist_types.specs.declared.sources.Module.{Module}
use Rattle.netlist_types.specs.Lawful.{IsLawful, IsLawfulModule}
use Rattle.cell_types.specs.declared.libraries.Library.{Library}
use Rattle.cell_types.specs.Libraries.{IsLawful as IsLawfulLibrary}
use Rattle.link_design.specs.Faults.{IsCause, IsAboveLimit as IsAboveCircuit}
use Rattle.link_design.specs.Faults as above
use Rattle.link_design.specs.declared.faults.CircuitFault.{CircuitFault}
use Rattle.link_design.specs.declared.faults.CircuitFault.TheVariants as circuit
use Rattle.link_design.proofs.Clocked.{position_some, position_none}
use Rattle.link_defs.specs.declared.circuits.Circuit.{Circuit}
use Rattle.link_defs.specs.declared.circuits.Part.{Part}
use Rattle.link_defs.specs.declared.circuits.Part.TheVariants as part
use Rattle.link_defs.specs.CellNames.{Leaf}
use Rattle.link_defs.specs.declared.cuts.CutSource.{CutSource}
use Rattle.link_defs.specs.Judged.{FlatNetlist}
use Rattle.linked_types.specs.declared.options.LinkOptions.{LinkOptions}
use Rattle.link_defs.specs.Circuits.{OnTree, clock_of}
use Rattle.link_defs.specs.Faults.{IsAboveLimit, HasManyDrivers, most_inputs}
use Rattle.link_defs.specs.Faults as link
use Rattle.link_defs.specs.Flatten.{Scope, Flat, flat_of, scope_names, full_names}
use Rattle.link_items.specs.declared.made.Instance.{Instance}
use Rattle.link_items.specs.declared.made.LeafPlace.{LeafPlace}
use Rattle.link_items.specs.Items.{module_at, scope_of, AreLeavesAt}
use Rattle.link_items.proofs.Listing.{contains_at}
use Rattle.link_items.proofs.Naming.{some_at}
use Rattle.link_items.proofs.Pinned.{lawful_at}
use Rattle.link_circuit.specs.Flats.{AreFine}
use Rattle.link_circuit.specs.declared.circuits.FlatCircuit.{FlatCircuit}
use Rattle.link_circuit.proofs.Scoped.{named_at}
use Rattle.link_circuit.proofs.Extending.{all_named}
use Rattle.link_circuit.specs.Names.{HasNet, HasName, IsLeftBelow, is_there, has_net, is_clocked, is_leaf_on, HasLeafOn, IsNameOn}

-- an item that passes is found
passes_at : {X : Type 0} (p : X → Bool) (xs : List X) (x : X) → In x xs → p x ≡ true → (k : ℕ) × (slice_get xs k ≡ Some x)
passes_at p [] x has hit = absurd has
passes_at p (y ∷ ys) x (inl same) hit = (0, ap (λ z. Some z) same)
passes_at p (y ∷ ys) x (inr later) hit = let (k, at) = passes_at p ys x later hit in (suc k, at)

some_or : {X : Type 0} (p : X → Bool) (xs : List X) (x : X) (o : Option ℕ) → o ≡ position p xs → In x xs → p x ≡ true → IsSome o
some_or p xs x (Some k) is has hit = refl
some_or p xs x None is has hit = let (k, at) = passes_at p xs x has hit in let miss = position_none p xs is k x at in cc

pub found : {X : Type 0} (p : X → Bool) (xs : List X) (x : X) → In x xs → p x ≡ true → IsSome (position p xs)
found p xs x has hit = some_or p xs x (position p xs) refl has hit

same_hit : (n : ℕ) → (n == n) ≡ true
same_hit n = grind (arith, nat_tests)

hit_same : (m n : ℕ) → (m == n) ≡ true → m ≡ n
hit_same m n e = grind (arith, nat_tests)

net_there : (nets : List ℕ) (n : ℕ) → In n nets → is_there n nets ≡ true
net_there nets n has = found (λ m. m == n) nets n has (same_hit n)

-- an instance with the net is found
pub instance_found : (s : Source) (scopes : List Instance) (n : ℕ) → HasNet (map (scope_of s) scopes) n → IsSome (position (has_net n) scopes)
instance_found s scopes n (scope, there, has) =
    let (g, g_there, same) = from_map (scope_of s) scope scopes (In-from_Contains (map (scope_of s) scopes) scope there) in
    found (has_net n) scopes g g_there
    (net_there g.nets n (subst (λ (x : Scope). In n x.nets) (sym same) (In-from_Contains scope.nets n has)))

-- and the net in it
pub net_found : (scopes : List Instance) (n at : ℕ) (g : Instance) → Some at ≡ position (has_net n) scopes → slice_get scopes at ≡ Some g
    → IsSome (position (λ m. m == n) g.nets)
net_found scopes n at g is here =
    let (h, h_at, hit) = position_some (has_net n) scopes at is in
    let same : h ≡ g = (let e = sym h_at ∙ here in cc) in
    subst (λ (x : Instance). has_net n x ≡ true) same hit

-- its full name
pub name_is : (s : Source) (scopes : List Instance) (n at place : ℕ) (g : Instance) (name : List ℕ) → slice_get scopes at ≡ Some g
    → Some place ≡ position (λ m. m == n) g.nets → slice_get (module_at s g.body).nets place ≡ Some name
    → Contains (flat_map scope_names (map (scope_of s) scopes)) (g.prefix ++ name, n)
name_is s scopes n at place g name here is named =
    let (m, m_at, hit) = position_some (λ m. m == n) g.nets place is in
    let at_net : slice_get g.nets place ≡ Some n = m_at ∙ ap (λ (k : ℕ). Some k) (hit_same m n hit) in
    let pair : List ℕ × ℕ = (g.prefix ++ name, n) in
    let there : In pair (scope_names (scope_of s g)) =
    In-from_Contains (scope_names (scope_of s g)) pair
    (contains_at (scope_names (scope_of s g)) place pair (named_at g.prefix (module_at s g.body).nets g.nets place name n named at_net)) in
    Contains-from_In (flat_map scope_names (map (scope_of s) scopes)) pair
    (In-flat scope_names pair (scope_of s g) (map (scope_of s) scopes)
    (In-map (scope_of s) g scopes (In-from_Contains scopes g (contains_at scopes at g here))) there)

-- a place that was found is one of the net's
pub place_within : (n place : ℕ) (nets : List ℕ) → Some place ≡ position (λ m. m == n) nets → place < length nets
place_within n place nets is = let (m, at, hit) = position_some (λ m. m == n) nets place is in slice_get_within nets place m at

pub instance_within : (n at : ℕ) (scopes : List Instance) → Some at ≡ position (has_net n) scopes → at < length scopes
instance_within n at scopes is = let (g, here, hit) = position_some (has_net n) scopes at is in slice_get_within scopes at g here

pub leaf_within : (clock at : ℕ) (parts : List Part) (places : List LeafPlace) → Some at ≡ position (is_leaf_on clock parts) places → at < length places
leaf_within clock at parts places is =
    let (x, here, hit) = position_some (is_leaf_on clock parts) places at is in slice_get_within places at x here

-- a leaf that was found is a register or a clock gate on the clock
clocked_if : (clock : ℕ) (p : Part) → is_clocked clock p ≡ true → clock_of p ≡ Some clock
clocked_if clock (part.Comb buffer ins gates) hit = cc
clocked_if clock (part.Flop c reg) hit = ap (λ (n : ℕ). Some n) (hit_same c clock hit)
clocked_if clock (part.Gate c enables out) hit = ap (λ (n : ℕ). Some n) (hit_same c clock hit)

leaf_if : (clock : ℕ) (o : Option Part) → (elim o [ None ↦ false | Some p ↦ is_clocked clock p ]) ≡ true
    → (p : Part) × (o ≡ Some p) × (clock_of p ≡ Some clock)
leaf_if clock None hit = cc
leaf_if clock (Some p) hit = (p, refl, clocked_if clock p hit)

pub leaf_name_is : (parts : List Part) (places : List LeafPlace) (place clock at : ℕ) (here : Part) (x : LeafPlace)
    → slice_get parts place ≡ Some here → clock_of here ≡ Some clock → Some at ≡ position (is_leaf_on clock parts) places
    → slice_get places at ≡ Some x → IsNameOn parts places place x.name
leaf_name_is parts places place clock at here x stands on is item_is =
    let (y, y_at, hit) = position_some (is_leaf_on clock parts) places at is in
    let same : y ≡ x = (let e = sym y_at ∙ item_is in cc) in
    let (there, part_is, there_on) = leaf_if clock (slice_get parts x.part) (subst (λ (z : LeafPlace). is_leaf_on clock parts z ≡ true) same hit) in
    (x, clock, here, there, contains_at places at x item_is, refl, stands, on, part_is, there_on)

-- leaves and their places, one by one
place_of_leaf : (lib : Library) (parts : List Part) (places : List LeafPlace) (ls : List Leaf) (l : Leaf) → AreLeavesAt lib parts places ls → In l ls
    → (x : LeafPlace) × In x places × (slice_get parts x.part ≡ Some l.part)
place_of_leaf lib parts [] [] l all has = absurd has
place_of_leaf lib parts [] (y ∷ ys) l all has = absurd all
place_of_leaf lib parts (x ∷ xs) [] l all has = absurd all
place_of_leaf lib parts (x ∷ xs) (y ∷ ys) l all (inl same) =
    (x, inl refl, subst (λ (z : Leaf). slice_get parts x.part ≡ Some z.part) same all.0.part)
place_of_leaf lib parts (x ∷ xs) (y ∷ ys) l all (inr later) =
    let (z, there, is) = place_of_leaf lib parts xs ys l all.1 later in (z, inr there, is)

leaf_of_place : (lib : Library) (parts : List Part) (places : List LeafPlace) (ls : List Leaf) (x : LeafPlace) → AreLeavesAt lib parts places ls → In x places
    → (l : Leaf) × In l ls × (x.name ≡ l.name) × (slice_get parts x.part ≡ Some l.part)
leaf_of_place lib parts [] [] x all has = absurd has
leaf_of_place lib parts [] (y ∷ ys) x all has = absurd all
leaf_of_place lib parts (z ∷ zs) [] x all has = absurd all
leaf_of_place lib parts (z ∷ zs) (y ∷ ys) x all (inl same) = (
  y,
  inl refl,
  subst (λ (w : LeafPlace). w.name ≡ y.name) same all.0.name,
  subst (λ (w : LeafPlace). slice_get parts w.part ≡ Some y.part) same all.0.part,
)
leaf_of_place lib parts (z ∷ zs) (y ∷ ys) x all (inr later) =
    let (l, there, name, is) = leaf_of_place lib parts zs ys x all.1 later in (l, inr there, name, is)

-- a part whose clock pin is on the net is one that is found
on_if : (clock : ℕ) (p : Part) → clock_of p ≡ Some clock → is_clocked clock p ≡ true
on_if clock (part.Comb buffer ins gates) on = cc
on_if clock (part.Flop c reg) on = let same : c ≡ clock = cc in subst (λ (n : ℕ). (c == n) ≡ true) same (same_hit c)
on_if clock (part.Gate c enables out) on = let same : c ≡ clock = cc in subst (λ (n : ℕ). (c == n) ≡ true) same (same_hit c)

on_here : (clock : ℕ) (parts : List Part) (x : LeafPlace) (p : Part) → slice_get parts x.part ≡ Some p → clock_of p ≡ Some clock
    → is_leaf_on clock parts x ≡ true
on_here clock parts x p is on =
    let hit : (elim (slice_get parts x.part) [ None ↦ false | Some q ↦ is_clocked clock q ]) ≡ is_clocked clock p = rw is refl in hit ∙ on_if clock p on

-- a leaf on the clock of a register or a clock gate that a refusal speaks of
pub leaf_there : (lib : Library) (found : List Leaf) (flat : Flat) (c : Circuit) (places : List LeafPlace) (place clock : ℕ) (p : Part)
    → AreLeavesAt lib c.parts places found → slice_get c.parts place ≡ Some p → clock_of p ≡ Some clock
    → HasName found flat c (circuit.NotTheClock place) → HasLeafOn c.parts places place
leaf_there lib found flat c places place clock p all stands on (l, there, is) =
    let (x, x_there, x_is) = place_of_leaf lib c.parts places found l all (In-from_Contains found l there) in
    let hit = on_here clock c.parts x p (x_is ∙ sym is ∙ stands) on in
    (p, clock, stands, on, (x, Contains-from_In places x x_there, hit))

-- the leaf's name is a cause
abbrev pub IsOffByName : List Leaf → Circuit → List ℕ → Type 0
IsOffByName found c name =
    (l : Leaf) × (clock : ℕ) × Contains found l × (l.name ≡ name) × (clock_of l.part ≡ Some clock) × (OnTree c clock false → ⊥)

pub off_named : (lib : Library) (found : List Leaf) (c : Circuit) (places : List LeafPlace) (place : ℕ) (name : List ℕ)
    → AreLeavesAt lib c.parts places found → IsCause c (circuit.NotTheClock place) → IsNameOn c.parts places place name
    → IsOffByName found c name
off_named lib found c places place name all (p, clock, stands, clocked, off) (x, on, here, there, x_there, name_is, at_here, on_here, at_there, on_there) =
    let (l, l_there, l_name, l_part) = leaf_of_place lib c.parts places found x all (In-from_Contains places x x_there) in
    let same_part : p ≡ here = (let e = sym stands ∙ at_here in cc) in
    let same : clock ≡ on = (let e = sym clocked ∙ ap (λ (q : Part). clock_of q) same_part ∙ on_here in cc) in
    let part_is : l.part ≡ there = (let e = sym l_part ∙ at_there in cc) in (
      l,
      on,
      Contains-from_In found l l_there,
      sym l_name ∙ name_is,
      ap (λ (q : Part). clock_of q) part_is ∙ on_there,
      λ tree. off (subst (λ (n : ℕ). OnTree c n false) (sym same) tree),
    )

-- the module at a place
pub module_is : (s : Source) (place : ℕ) (m : Module) → slice_get s.modules place ≡ Some m → m ≡ module_at s place
module_is s place m at = sym (get_or_from_slice_get s.modules place m (record { name = []; ports = []; nets = []; items = [] }) at)

-- what a refusal of the netlist that is judged speaks of has a name
pub named_below : (s : CutSource) (lib : Library) (place : ℕ) (o : LinkOptions) (j : FlatNetlist) (c : FlatCircuit) (f g : CircuitFault)
    → IsLawful s.source → IsLawfulLibrary lib.cells → place < length s.source.modules → IsLeftBelow s lib (module_at s.source place) o j c
    → AreFine s.source lib (flat_of s.source lib (module_at s.source place)) → IsCause c.circuit f → f ≡ g
    → HasName j.found (flat_of s.source lib (module_at s.source place)) c.circuit g
named_below s lib place o j c f g lawful cells lt below fine cause same =
    let top = module_at s.source place in
    let (m, at) = some_at s.source.modules place lt in
    let is = module_is s.source place m at in
    let top_lawful : IsLawfulModule s.source top = subst (λ (t : Module). IsLawfulModule s.source t) is (lawful_at s.source lawful place m at) in
    let there : Contains s.source.modules top =
    subst (λ (t : Module). Contains s.source.modules t) is (contains_at s.source.modules place m at) in
    all_named s.source lib top lawful cells top_lawful there fine o.clock s.items o.cut_clocks j c.circuit g below.judged below.extended
    (subst (λ (h : CircuitFault). IsCause c.circuit h) same cause)

-- the net is one of the instances'
pub net_below : (s : CutSource) (lib : Library) (top : Module) (o : LinkOptions) (j : FlatNetlist) (c : FlatCircuit) (n : ℕ)
    → IsLeftBelow s lib top o j c → HasNet (flat_of s.source lib top).scopes n → HasNet (map (scope_of s.source) c.scopes) n
net_below s lib top o j c n below has = subst (λ (xs : List Scope). HasNet xs n) (sym below.scopes) has

-- a full name of the flat netlist
pub name_below : (s : CutSource) (lib : Library) (top : Module) (o : LinkOptions) (j : FlatNetlist) (c : FlatCircuit) (name : List ℕ) (n : ℕ)
    → IsLeftBelow s lib top o j c → Contains (flat_map scope_names (map (scope_of s.source) c.scopes)) (name, n)
    → Contains (full_names (flat_of s.source lib top)) (name, n)
name_below s lib top o j c name n below has =
    let pair : List ℕ × ℕ = (name, n) in subst (λ (xs : List Scope). Contains (flat_map scope_names xs) pair) below.scopes has

-- there are never more data inputs than a sound design may have
pub most_of : (wide : Bool) → most_inputs wide ≤ 20000
most_of true = omega arith
most_of false = omega arith

-- a limit of the circuit is one of the netlist
limit_of : (wide : Bool) (s : Source) (lib : Library) (flat : Flat) (c : Circuit) (k : LimitName) (n : ℕ) → length c.inputs ≤ most_inputs wide
    → IsAboveCircuit c k n → IsAboveLimit wide s lib flat c k n
limit_of wide s lib flat c k n few (above.Nets tree is more) = link.Nets tree is (omega (arith, more))
limit_of wide s lib flat c k n few (above.Regs more) = link.Regs more
limit_of wide s lib flat c k n few (above.Inputs more) = let most = most_of wide in absurd (omega (arith, more, few, most))
limit_of wide s lib flat c k n few (above.Outputs more) = link.Outputs more

pub limit_is : (wide : Bool) (s : Source) (lib : Library) (flat : Flat) (c : Circuit) (f : CircuitFault) (k : LimitName) (n : ℕ)
    → length c.inputs ≤ most_inputs wide → IsCause c f → f ≡ circuit.Limit k n → IsAboveLimit wide s lib flat c k n
limit_is wide s lib flat c f k n few cause same = limit_of wide s lib flat c k n few (subst (λ (h : CircuitFault). IsCause c h) same cause)

pub twice_is : (s : Source) (lib : Library) (flat : Flat) (c : Circuit) (f : CircuitFault) (name : List ℕ) (n : ℕ) → IsCause c f → f ≡ circuit.ManyDrivers n
    → Contains (full_names flat) (name, n) → HasManyDrivers s lib flat c name
twice_is s lib flat c f name n cause same has = link.Twice name n has (subst (λ (h : CircuitFault). IsCause c h) same cause)

-- the clock of the register or clock gate at a place
pub clock_is : (parts : List Part) (place clock : ℕ) (p q : Part) (found : ℕ) → slice_get parts place ≡ Some p → clock_of p ≡ Some clock
    → slice_get parts place ≡ Some q → ((c : ℕ) → clock_of q ≡ Some c → found ≡ c) → found ≡ clock
clock_is parts place clock p q found at on here is =
    let same : q ≡ p = (let e = sym here ∙ at in cc) in is clock (ap (λ (x : Part). clock_of x) same ∙ on)

-- a leaf on the clock is found
pub leaf_found : (parts : List Part) (places : List LeafPlace) (clock : ℕ) → (x : LeafPlace) × Contains places x × (is_leaf_on clock parts x ≡ true)
    → IsSome (position (is_leaf_on clock parts) places)
leaf_found parts places clock (x, there, hit) = found (is_leaf_on clock parts) places x (In-from_Contains places x there) hit
