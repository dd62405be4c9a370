-- The clauses of one or two literals over the registers of a group.
use Rattle.std.specs.Prelude.{ℕ, Bool, true, false, List, [], ◌∷◌, ◌++◌, flat_map, nat_lt, if◌then◌else◌}
use Rattle.net_model.specs.declared.invariants.StateLit.{StateLit}
use Rattle.net_model.specs.declared.invariants.InvClause.{InvClause}

-- that a register has a value
abbrev pub lit : ℕ → Bool → StateLit
lit r value = record { reg = r; value = value }

-- that clause alone
abbrev pub one_of : ℕ → Bool → InvClause
one_of r value = record { lits = lit r value ∷ [] }

-- that one of two registers has the value given for it, the smaller register first
abbrev pub two_of : ℕ → Bool → ℕ → Bool → InvClause
two_of r value s other = if nat_lt r s then record { lits = lit r value ∷ lit s other ∷ [] } else record { lits = lit s other ∷ lit r value ∷ [] }

-- the clauses of one register, value 0 before 1
abbrev pub single_clauses : ℕ → List InvClause
single_clauses r = one_of r false ∷ one_of r true ∷ []

-- those of two registers, the value of the first outermost
abbrev pub pair_clauses : ℕ → ℕ → List InvClause
pair_clauses r s = two_of r false s false ∷ two_of r false s true ∷ two_of r true s false ∷ two_of r true s true ∷ []

-- those of each pair of registers of a list, the first register outermost
abbrev pub all_pairs : List ℕ → List InvClause
all_pairs [] = []
all_pairs (r ∷ rs) = flat_map (pair_clauses r) rs ++ all_pairs rs

-- all clauses of a group: those of each register, and then those of each pair
abbrev pub group_clauses : List ℕ → List InvClause
group_clauses group = flat_map single_clauses group ++ all_pairs group
