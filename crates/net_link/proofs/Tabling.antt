-- The full names of nets in a table, instance by instance.
use Rattle.std.proofs.Common.{◌≡◌, ℕ, zero, suc, ◌+◌, Bool, true, false, List, [], ◌∷◌, ◌++◌, map, take, Some, refl}
use Rattle.std.proofs.Common.{arith, inl, inr}
use Rattle.std.specs.Prelude.{Contains, slice_get, flat_map}
use Rattle.std.specs.List.{IsDistinct, AllByRecursion}
use Rattle.std.specs.Str.{bytes_eq}
use Rattle.std.proofs.lemmas.List.Folds.{flat_map-map}
use Rattle.std.proofs.lemmas.Slice.Eq.{bytes_eq-Decides}
use Rattle.net_model.proofs.Members.{In, In-from_Contains, Contains-from_In, from_flat, In-flat}
use Rattle.link_design.specs.declared.designs.CircuitDesign.{CircuitDesign}
use Rattle.link_design.specs.declared.designs.Held.{Held}
use Rattle.link_design.specs.Lawful.{IsLawfulCircuit}
use Rattle.link_design.specs.Made.{IsMade}
use Rattle.link_defs.specs.declared.circuits.Circuit.{Circuit}
use Rattle.linked_types.specs.declared.names.NetName.{NetName}
use Rattle.link_defs.specs.Circuits.{all_drivers}
use Rattle.link_defs.specs.Flatten.{scope_names}
use Rattle.link_items.specs.declared.made.Instance.{Instance}
use Rattle.link_items.specs.Items.{module_at, scope_of}
use Rattle.link_items.proofs.Listing.{flat_next}
use Rattle.link_circuit.specs.declared.faults.NameFault.{NameFault}
use Rattle.link_circuit.specs.declared.faults.NameFault.TheVariants as fault
use Rattle.link_circuit.specs.Scopes.{named, IsTableOf, IsOfTwo, IsTwice}
use Rattle.link_circuit.proofs.Scoped.{apart}
use Rattle.netlist_types.specs.declared.sources.Source.{Source}
use Rattle.net_link.specs.Nets.{AreMarks, instance_names, names_in, IsOfTwoNets}
use Rattle.net_link.proofs.Marking.{driven_hit, hit_driven, driven_below}

-- the names of the first instances, and of the next
pub names_next : (s : Source) (scopes : List Instance) (k : ℕ) (g : Instance) → slice_get scopes k ≡ Some g
    → names_in s (take (k + 1) scopes) ≡ names_in s (take k scopes) ++ named g.prefix (module_at s g.body).nets g.nets
names_next s scopes k g at = flat_next (instance_names s) scopes k g at

take_there : {X : Type 0} (xs : List X) (k : ℕ) (x : X) → In x (take k xs) → In x xs
take_there [] zero x has = has
take_there [] (suc k) x has = has
take_there (y ∷ ys) zero x has = absurd has
take_there (y ∷ ys) (suc k) x (inl same) = inl same
take_there (y ∷ ys) (suc k) x (inr later) = inr (take_there ys k x later)

-- the names of the first instances are among all
names_taken : (s : Source) (scopes : List Instance) (k : ℕ) (p : List ℕ × ℕ) → Contains (names_in s (take k scopes)) p → Contains (names_in s scopes) p
names_taken s scopes k p has =
    let (g, there, in_g) = from_flat (instance_names s) p (take k scopes) (In-from_Contains (names_in s (take k scopes)) p has) in
    Contains-from_In (names_in s scopes) p (In-flat (instance_names s) p g scopes (take_there scopes k g there) in_g)

-- a refusal in the first instances is one in all
pub twice_in_all : (s : Source) (marks : List Bool) (scopes : List Instance) (k : ℕ) (e : NameFault) → IsTwice marks (names_in s (take k scopes)) e
    → IsTwice marks (names_in s scopes) e
twice_in_all s marks scopes k (fault.Clash name) two = record {
  one = two.one;
  other = two.other;
  differ = two.differ;
  has_one = names_taken s scopes k (name, two.one) two.has_one;
  has_other = names_taken s scopes k (name, two.other) two.has_other;
  one_marked = two.one_marked;
  other_marked = two.other_marked;
}
twice_in_all s marks scopes k fault.Memory two = tt

-- two marked nets are two that something drives
pub two_nets : (c : Circuit) (h : Held) (made : CircuitDesign) (marks : List Bool) (pairs : List (List ℕ × ℕ)) (name : List ℕ) → IsMade c h made
    → AreMarks made c.nets marks → IsOfTwo marks pairs name → IsOfTwoNets pairs c name
two_nets c h made marks pairs name m are two = (
  two.one,
  two.other,
  two.differ,
  two.has_one,
  two.has_other,
  Contains-from_In (all_drivers c) two.one (hit_driven c h made two.one m (are.only two.one two.one_marked)),
  Contains-from_In (all_drivers c) two.other (hit_driven c h made two.other m (are.only two.other two.other_marked)),
)

-- in a table no name is of two nets that something drives
pub none_of_two : (c : Circuit) (h : Held) (made : CircuitDesign) (marks : List Bool) (pairs : List (List ℕ × ℕ)) (names : List (List ℕ)) (nets : List ℕ)
    → IsLawfulCircuit c → IsMade c h made → AreMarks made c.nets marks → IsTableOf marks pairs names nets → (name : List ℕ) → IsOfTwoNets pairs c name → ⊥
none_of_two c h made marks pairs names nets lawful m are table name (n, k, differ, has_n, has_k, n_driven, k_driven) =
    let n_in = In-from_Contains (all_drivers c) n n_driven in
    let k_in = In-from_Contains (all_drivers c) k k_driven in
    apart marks pairs names nets table name (record {
      one = n;
      other = k;
      differ = differ;
      has_one = has_n;
      has_other = has_k;
      one_marked = are.all n (driven_below c n lawful n_in) (driven_hit c h made n lawful m n_in);
      other_marked = are.all k (driven_below c k lawful k_in) (driven_hit c h made k lawful m k_in);
    })

-- the full names of a flat netlist are those of its instances
pub names_same : (s : Source) (scopes : List Instance) → flat_map scope_names (map (scope_of s) scopes) ≡ names_in s scopes
names_same s scopes = flat_map-map scope_names (scope_of s) scopes

not_eq_if : (a b : List ℕ) (t : Bool) → bytes_eq a b ≡ t → (a ≡ b → ⊥) → bytes_eq a b ≡ false
not_eq_if a b true e differ = let (f, g) = bytes_eq-Decides a b in absurd (differ (f e))
not_eq_if a b false e differ = e

not_eq : (a b : List ℕ) → (a ≡ b → ⊥) → bytes_eq a b ≡ false
not_eq a b differ = not_eq_if a b (bytes_eq a b) refl differ

-- names that stand once differ
differs_all : (x : NetName) (xs : List NetName) → ((j : ℕ) (y : NetName) → slice_get xs j ≡ Some y → x.name ≡ y.name → ⊥)
    → AllByRecursion (λ y. bytes_eq x.name y ≡ false) (map (λ (n : NetName). n.name) xs)
differs_all x [] each = tt
differs_all x (y ∷ ys) each = (
  not_eq x.name y.name (each 0 y refl),
  differs_all x ys (λ j z at. each (suc j) z at),
)

pub once_distinct : (xs : List NetName) → ((i j : ℕ) (x y : NetName) → slice_get xs i ≡ Some x → slice_get xs j ≡ Some y → x.name ≡ y.name → i ≡ j)
    → IsDistinct bytes_eq (map (λ (n : NetName). n.name) xs)
unfolding IsDistinct
once_distinct [] once = tt
once_distinct (x ∷ xs) once = (
  differs_all x xs (λ j y at same. let zero_is = once 0 (suc j) x y refl at same in omega (arith, zero_is)),
  once_distinct xs (λ i j a b at_a at_b same. let e = once (suc i) (suc j) a b at_a at_b same in omega (arith, e)),
)
