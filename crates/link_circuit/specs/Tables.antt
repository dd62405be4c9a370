-- Tables of full names with their nets.
use Rattle.std.specs.Prelude.{◌≡◌, ◌≢◌, ◌⊎◌, ℕ, false, List, [], ◌∷◌, ◌++◌, Some, slice_get}
use Rattle.texts.specs.Names.{is_among}
use Rattle.linked_types.specs.declared.names.NetName.{NetName}
use Rattle.link_circuit.specs.declared.faults.NameFault.{NameFault}
use Rattle.link_circuit.specs.declared.faults.NameFault.TheVariants as fault

-- the name stands in the table with the net
abbrev pub HasNet : List (List ℕ) → List ℕ → List ℕ → ℕ → Type 0
HasNet names nets name net = (place : ℕ) × (slice_get names place ≡ Some name) × (slice_get nets place ≡ Some net)

-- the name is there with its net, or is new and stands last
abbrev pub IsAdded : NetName → List (List ℕ) → List ℕ → List (List ℕ) → List ℕ → Type 0
IsAdded x names nets names2 nets2 =
    (HasNet names nets x.name x.net × (names2 ≡ names) × (nets2 ≡ nets))
    ⊎ ((is_among x.name names ≡ false) × (names2 ≡ names ++ x.name ∷ []) × (nets2 ≡ nets ++ x.net ∷ []))

-- the name is there with another net
abbrev pub IsOther : NetName → List (List ℕ) → List ℕ → NameFault → Type 0
IsOther x names nets (fault.Clash name) = (name ≡ x.name) × ((net : ℕ) × HasNet names nets x.name net × (net ≢ x.net))
IsOther x names nets fault.Memory = Unit {0}
