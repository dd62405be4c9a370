-- Variables, each once with its name and its value, in the order in which they were first set.
use Rattle.std.specs.Prelude.{ℕ, List, Option}
use Rattle.std.specs.Map.{lookup}
use Rattle.indexmap.specs.IndexMap.{insert_entry}
use Rattle.std.specs.Str.{bytes_eq}
use Rattle.sdc_values.specs.declared.values.Value.{Value}

-- variables by their names
abbrev pub Vars : Type 0
Vars = List (List ℕ × Value)

-- the value of this variable, and nothing where it is not set
abbrev pub value_of : List ℕ → Vars → Option Value
value_of name vars = lookup (bytes_eq name) vars

-- the variables after this one is set: in its place where it was set before, and else last
abbrev pub with_value : Vars → List ℕ → Value → Vars
with_value vars name value = insert_entry bytes_eq vars name value
