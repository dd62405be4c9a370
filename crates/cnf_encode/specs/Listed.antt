-- The clauses of definitions, where one of their keys is needed.
use Rattle.std.specs.Prelude.{◌≡◌, ℕ, Bool, true, List, [], ◌∷◌, ◌++◌, flat_map, Contains, Option, Some, None, slice_get}
use Rattle.std.specs.List.{list_any}
use Rattle.net_model.specs.declared.netlist.Design.{Design}
use Rattle.net_model.specs.declared.netlist.Gate.{Gate}
use Rattle.net_model.specs.declared.claims.Claim.{Claim}
use Rattle.query_model.specs.Defined.{Definition, gate_definition, base_definitions, claim_definitions}
use Rattle.query_model.specs.declared.keys.Coding.{Coding}
use Rattle.query_model.specs.Formula.{has_key, listed}
use Rattle.query_model.specs.declared.keys.Key.{Key}
use Rattle.cnf_encode.specs.Coded.{HasKeys, Adds}

-- each key that a definition of one of the keys mentions is one of the keys
pub record IsClosed (keys : List Key) (defs : List Definition) : Type 0 where
  pub mentioned : (def : Definition) → Contains defs def → list_any (has_key keys) def.outs ≡ true → HasKeys keys def.clauses

-- the clauses of these definitions were added, of those alone that define one of the keys
pub record Lists (keys : List Key) (defs : List Definition) (old new : List (List ℕ)) : Type 0 where
  pub adds : Adds keys (flat_map (listed keys) defs) old new

-- what is made of the item at a place, if there is one
abbrev pub of_item : {X A : Type 0} → (ℕ → X → List A) → ℕ → Option X → List A
of_item f k None = []
of_item f k (Some x) = f k x

abbrev pub at_place : {X A : Type 0} → (ℕ → X → List A) → List X → ℕ → List A
at_place f xs k = of_item f k (slice_get xs k)

-- the definition that is made of an item, alone
abbrev pub alone : {X : Type 0} → (ℕ → X → Definition) → ℕ → X → List Definition
alone f k x = f k x ∷ []

-- the definition of a gate's net in a cycle, alone
abbrev pub gate_alone : Coding → Design → ℕ → ℕ → Gate → List Definition
gate_alone coding d c k g = gate_definition coding d c g ∷ []

-- the definitions of a cycle in a query about a claim
abbrev pub claim_cycle : Coding → Design → Claim → List (List Bool) → ℕ → ℕ → List Definition
claim_cycle coding d claim moved live c = base_definitions coding d live c ++ claim_definitions coding d claim moved c

-- and in one about a clause
abbrev pub clause_cycle : Coding → Design → ℕ → ℕ → List Definition
clause_cycle coding d live c = base_definitions coding d live c ++ []
