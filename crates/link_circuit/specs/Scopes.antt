-- Tables of the full names of instances' nets, of those nets that are marked.
use Rattle.std.specs.Prelude.{◌≡◌, ◌≢◌, ℕ, Bool, true, false, if◌then◌else◌, nat_lt, List, [], ◌∷◌, ◌++◌, length, map, filter, zip, flat_map, Contains}
use Rattle.std.specs.Prelude.{slice_index_or}
use Rattle.sdcv_base.specs.Seqs.{is_marked}
use Rattle.texts.specs.Names.{are_distinct, each_once}
use Rattle.linked_types.specs.declared.names.NetName.{NetName}
use Rattle.link_defs.specs.Designs.{number_by}
use Rattle.link_circuit.specs.declared.faults.NameFault.{NameFault}
use Rattle.link_circuit.specs.declared.faults.NameFault.TheVariants as fault
use Rattle.link_circuit.specs.declared.tables.NetTable.{NetTable}
use Rattle.link_circuit.specs.Tables.{HasNet, IsAdded}

-- the full names of the nets of an instance, each with its flat net
abbrev pub named : List ℕ → List (List ℕ) → List ℕ → List (List ℕ × ℕ)
named prefix names nets = zip (map (λ (name : List ℕ). prefix ++ name) names) nets

-- the names of those pairs whose nets pass a test
abbrev pub names_where : (ℕ → Bool) → List (List ℕ × ℕ) → List (List ℕ)
names_where test pairs = map (λ (p : List ℕ × ℕ). p.0) (filter (λ (p : List ℕ × ℕ). test p.1) pairs)

-- each name of a marked net is in the table, once, with the net, and nothing else is; whichever of the marked nets one looks at,
-- their names stand in the order in which they first come
pub record IsTableOf (marks : List Bool) (pairs : List (List ℕ × ℕ)) (names : List (List ℕ)) (nets : List ℕ) : Type 0 where
  pub len : length nets ≡ length names
  pub distinct : are_distinct names ≡ true
  pub all : (name : List ℕ) (net : ℕ) → Contains pairs (name, net) → is_marked marks net ≡ true → HasNet names nets name net
  pub only : (name : List ℕ) (net : ℕ) → HasNet names nets name net → Contains pairs (name, net) × (is_marked marks net ≡ true)
  pub order : (test : ℕ → Bool) → ((net : ℕ) → test net ≡ true → is_marked marks net ≡ true)
      → names_where test (zip names nets) ≡ each_once (names_where test pairs)

-- two marked nets have the name
pub record IsOfTwo (marks : List Bool) (pairs : List (List ℕ × ℕ)) (name : List ℕ) : Type 0 where
  pub one : ℕ
  pub other : ℕ
  pub differ : one ≢ other
  pub has_one : Contains pairs (name, one)
  pub has_other : Contains pairs (name, other)
  pub one_marked : is_marked marks one ≡ true
  pub other_marked : is_marked marks other ≡ true

-- what a refusal says; want of memory alone is free
abbrev pub IsTwice : List Bool → List (List ℕ × ℕ) → NameFault → Type 0
IsTwice marks pairs (fault.Clash name) = IsOfTwo marks pairs name
IsTwice marks pairs fault.Memory = Unit {0}

-- the name is in the table, where its net is marked, and else nothing changed
abbrev pub IsAddedIf : Bool → NetName → NetTable → NetTable → Type 0
IsAddedIf true x old new = IsAdded x old.names old.nets new.names new.nets
IsAddedIf false x old new = (new.names ≡ old.names) × (new.nets ≡ old.nets)

-- the name that stands for a pair, where the net has a number of so many
abbrev pub kept : List ℕ → ℕ → List ℕ × ℕ → List NetName
kept row count p = if nat_lt (slice_index_or row p.1 count) count then (record { name = p.0; net = slice_index_or row p.1 count }) ∷ [] else []

-- the names of numbered nets, in the order of the table
abbrev pub kept_names : List ℕ → ℕ → List (List ℕ) → List ℕ → List NetName
kept_names row count names nets = flat_map (kept row count) (zip names nets)

-- a row of the numbers of nets by the drivers of a design, each of whose nets is marked
pub record IsNumberedBy (marks : List Bool) (drivers row : List ℕ) (count : ℕ) : Type 0 where
  pub count_is : count ≡ length drivers
  pub number : (net : ℕ) → slice_index_or row net count ≡ number_by drivers net
  pub marked : (net : ℕ) → Contains drivers net → is_marked marks net ≡ true
