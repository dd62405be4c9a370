-- Lists to which more is added, each item once.
use Rattle.std.specs.Prelude.{Bool, ◌&&◌, ◌==◌, List, [], ◌∷◌, ◌++◌, Contains, map, Vec, if◌then◌else◌}
use Rattle.std.specs.Bool.{beq}
use Rattle.std.specs.declared.alloc.Global.{Global}
use Rattle.net_model.specs.declared.invariants.StateLit.{StateLit}
use Rattle.net_model.specs.declared.invariants.InvClause.{InvClause}
use Rattle.inv_candidates.specs.Clauses.{lit}
use Rattle.inv_candidates.specs.declared.shorts.Short.{Short}
use Rattle.inv_candidates.specs.declared.tables.RowLit.{RowLit}

-- the items of the second list are added to the first, in turn, where they do not stand there yet
pub data AddsNew {A : Type 0} : List A → List A → List A → Type 0 where
  No_more : (listed : List A) → AddsNew listed [] listed
  Stands : (listed : List A) (x : A) (more all : List A) → Contains listed x → AddsNew listed more all → AddsNew listed (x ∷ more) all
  Is_new : (listed : List A) (x : A) (more all : List A) → ¬ Contains listed x → AddsNew (listed ++ x ∷ []) more all → AddsNew listed (x ∷ more) all

-- whether two literals are one
abbrev pub is_one : Short → Bool
is_one s = (s.reg == s.other) && beq s.value s.other_value

-- the clause for which two literals stand: where they are one, that clause alone
abbrev pub clause_of : Short → InvClause
clause_of s = record { lits = if is_one s then lit s.reg s.value ∷ [] else lit s.reg s.value ∷ lit s.other s.other_value ∷ [] }

-- the clause of a row of literals
abbrev pub lit_of : RowLit → StateLit
lit_of l = lit l.reg l.value

abbrev pub clause_of_row : Vec RowLit Global → InvClause
clause_of_row row = record { lits = map lit_of row.items }
