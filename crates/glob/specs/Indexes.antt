-- Names in a table, and what one look into it says of a pattern.
use Rattle.std.specs.Prelude.{◌≡◌, ◌↔◌, ℕ, Bool, true, false, not, ◌&&◌, List, Some, slice_get}
use Rattle.std.specs.List.{list_any}
use Rattle.texts.specs.Names.{are_distinct}
use Rattle.glob.specs.Match.{matches}
use Rattle.glob.specs.Plain.{is_wild}
use Rattle.glob.specs.declared.indexes.Index.{Index}
use Rattle.glob.specs.declared.indexes.Look.{Look}
use Rattle.glob.specs.declared.indexes.Look.TheVariants.{Nowhere, At, Anywhere}

-- the index tells whether no two names are equal, and then the table has them in their order
pub record IsIndexOf (names : List (List ℕ)) (index : Index) : Type 0 where
  pub distinct : index.distinct ≡ are_distinct names
  pub same : index.distinct ≡ true → index.names ≡ names

-- the pattern matches itself and no other name
abbrev pub IsExact : List ℕ → Bool → Type 0
IsExact pattern hier = (name : List ℕ) → (matches pattern name hier ≡ true) ↔ (name ≡ pattern)

-- the pattern has no wildcard, and is not looked for below the parts of names
abbrev pub is_exact : List ℕ → Bool → Bool
is_exact pattern hier = not hier && not (list_any is_wild pattern)

-- a look into the table tells where the pattern matches: it is exact, and no two names are equal
abbrev pub tells : List (List ℕ) → List ℕ → Bool → Bool
tells names pattern hier = are_distinct names && is_exact pattern hier

-- the pattern matches no name, or exactly the one at a place, unless the table doesn't tell
abbrev pub IsLook : List (List ℕ) → List ℕ → Bool → Look → Type 0
IsLook names pattern hier Nowhere = (k : ℕ) (name : List ℕ) → slice_get names k ≡ Some name → matches pattern name hier ≡ false
IsLook names pattern hier (At place) =
    ((name : List ℕ) × (slice_get names place ≡ Some name) × (matches pattern name hier ≡ true))
    × ((k : ℕ) (name : List ℕ) → slice_get names k ≡ Some name → matches pattern name hier ≡ true → k ≡ place)
IsLook names pattern hier Anywhere = tells names pattern hier ≡ false
