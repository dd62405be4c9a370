-- Which text is which clauses by name.
use Rattle.std.specs.Prelude.{◌≡◌, ℕ, ◌<◌, ◌≤◌, Bool, true, List, [], ◌∷◌, ◌++◌, map, length}
use Rattle.std.specs.List.{AllZip}
use Rattle.sdcv_base.specs.declared.settings.Setting.{Setting}
use Rattle.texts.specs.Names.{are_distinct}
use Rattle.assist_types.specs.declared.clauses.AssistClause.{AssistClause}
use Rattle.assist_types.specs.declared.clauses.Assist.{Assist}
use Rattle.assist_text.specs.Lines.{Said, digit, said_in}

-- the word `NAME=0` or `NAME=1`
abbrev pub word : List ℕ → Bool → List ℕ
word name value = name ++ (61 ∷ digit value ∷ [])

-- a word gives a value to a name, which has a byte at least
abbrev pub IsWordOf : List ℕ → Bool → List ℕ → Type 0
IsWordOf name value w = (0 < length name) × (w ≡ word name value)

-- the settings are what these words say, in their order
abbrev pub IsSaid : List ℕ → Setting → Type 0
IsSaid w s = IsWordOf s.name s.value w

abbrev pub AreSaid : List (List ℕ) → List Setting → Type 0
AreSaid words lits = AllZip IsSaid words lits

-- no two settings have one name
abbrev pub IsOnce : List Setting → Type 0
IsOnce lits = are_distinct (map (λ (s : Setting). s.name) lits) ≡ true

-- a clause is what a line says: a name with its value for each word, no name twice
pub record IsClause (said : Said) (c : AssistClause) : Type 0 where
  pub line : c.line ≡ said.0
  pub lits : AreSaid said.1 c.lits
  pub once : IsOnce c.lits

-- there is a clause for each line that says something, in their order, and there are at most 8,192
pub record AreClauses (said : List Said) (clauses : List AssistClause) : Type 0 where
  pub each : AllZip IsClause said clauses
  pub few : length clauses ≤ 8192

abbrev pub IsTextOf : List ℕ → Assist → Type 0
IsTextOf text a = AreClauses (said_in text) a.clauses

-- a name at least, and none twice
pub record IsOneOrMore (c : AssistClause) : Type 0 where
  pub some : 0 < length c.lits
  pub once : IsOnce c.lits
