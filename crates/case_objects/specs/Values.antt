-- The values that case analyses set (SDC 2.1, set_case_analysis), each on one thing.
use Rattle.std.specs.Prelude.{◌≡◌, ℕ, suc, Bool, false, ◌==◌, if◌then◌else◌, List, [], ◌∷◌, map, flat_map, All, Option, Some, None, option_map}
use Rattle.net_model.specs.declared.netlist.Design.{Design}
use Rattle.net_model.specs.declared.claims.PinRef.{PinRef}
use Rattle.net_model.specs.declared.claims.PinRef.TheVariants.{Net}
use Rattle.linked_types.specs.declared.names.Linked.{Linked}
use Rattle.script_types.specs.declared.objects.Object.{Object}
use Rattle.script_types.specs.declared.scripts.What.{What}
use Rattle.script_types.specs.declared.scripts.What.TheVariants.{Case}
use Rattle.script_types.specs.declared.scripts.Command.{Command}
use Rattle.script_types.specs.declared.scripts.Script.{Script}
use Rattle.sdc_objects.specs.Standing.{through_column, meant_by, is_dropped}
use Rattle.case_objects.specs.declared.spots.Spot.{Spot}
use Rattle.case_objects.specs.declared.values.CaseValue.{CaseValue}
use Rattle.case_objects.specs.Spots.{spots}

-- the place of a thing: what it stands for in through
abbrev pub place_of : Linked → Spot → List PinRef
place_of l s = meant_by (through_column l s.thing)

-- a thing that is dropped in through has none
abbrev pub has_no_place : Linked → Spot → Bool
has_no_place l s = is_dropped (through_column l s.thing)

-- an object names something, and nothing that is dropped
pub record HasPlaces (l : Linked) (o : Object) : Type 0 where
  pub some : ¬ (spots l.names o ≡ [])
  pub placed : All (λ (s : Spot). has_no_place l s ≡ false) (spots l.names o)

-- the net that a place is, if it is one alone
abbrev pub sole_net : List PinRef → Option ℕ
sole_net (Net n ∷ []) = Some n
sole_net _ = None

-- the number of a net among these
abbrev pub number_of : ℕ → List ℕ → Option ℕ
number_of net [] = None
number_of net (n ∷ ns) = if n == net then Some 0 else option_map suc (number_of net ns)

abbrev pub input_of_net : Design → Option ℕ → Option ℕ
input_of_net d None = None
input_of_net d (Some net) = number_of net d.inputs

-- the data input, a port's or a free one, whose net a place is: case analysis fixes it, and assumes a value of each other place
abbrev pub input_at : Design → List PinRef → Option ℕ
input_at d place = input_of_net d (sole_net place)

-- the value that a case analysis on a line sets on a thing
abbrev pub value_on : Linked → ℕ → Bool → Spot → CaseValue
value_on l line value s = record {
  line = line;
  name = s.name;
  value = value;
  place = place_of l s;
  input = input_at l.design (place_of l s);
}

-- on what an object names
abbrev pub object_values : Linked → ℕ → Bool → Object → List CaseValue
object_values l line value o = map (value_on l line value) (spots l.names o)

-- by a command
abbrev pub values_by : Linked → ℕ → What → List CaseValue
values_by l line (Case value objects) = flat_map (object_values l line value) objects
values_by l line _ = []

abbrev pub command_values : Linked → Command → List CaseValue
command_values l c = values_by l c.line c.what

-- by all case analyses, in the order of the script and then of the table of names
unfoldable pub case_values : Linked → Script → List CaseValue
case_values l script = flat_map (command_values l) script.commands
