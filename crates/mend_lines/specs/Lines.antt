-- The commands of a group of pairs.
use Rattle.std.specs.Prelude.{ℕ, not, Bool, true, false, ◌&&◌, if◌then◌else◌, List, [], ◌∷◌, ◌++◌, map, filter, length, take, slice_get, codes, None, Some}
use Rattle.std.specs.List.{flat_map}
use Rattle.std.specs.Fmt.{decimal}
use Rattle.sdcv_base.specs.declared.kinds.Kind.{Kind}
use Rattle.sdcv_base.specs.declared.kinds.Kind.TheVariants.{False, Multi}
use Rattle.sdcv_base.specs.declared.kinds.Edge.{Edge}
use Rattle.sdcv_base.specs.declared.kinds.Edge.TheVariants.{Any, Rise, Fall}
use Rattle.net_model.specs.declared.claims.Start.{Start}
use Rattle.net_model.specs.declared.claims.Start.TheVariants.{Reg as RegStart, Input as InputStart}
use Rattle.script_types.specs.declared.objects.Class.{Class}
use Rattle.script_types.specs.declared.objects.Class.TheVariants.{Ports, Cells, Pins, Nets, Clocks, Any as AnyClass}
use Rattle.script_types.specs.declared.objects.Query.{Query}
use Rattle.script_types.specs.declared.objects.Object.{Object}
use Rattle.script_types.specs.declared.objects.Object.TheVariants.{Named, AllInputs, AllOutputs, AllRegisters, AllClocks}
use Rattle.script_types.specs.declared.scripts.Checks.{Checks}
use Rattle.script_types.specs.declared.scripts.Checks.TheVariants.{Unsaid, Setup, Both}
use Rattle.selected_types.specs.declared.selections.PairLine.{PairLine}
use Rattle.exception_expand.specs.declared.sides.Sides.{Sides}
use Rattle.exception_expand.specs.declared.sides.Sides.TheVariants.{Late}
use Rattle.exception_expand.specs.Asking.{Asked}
use Rattle.script_notices.specs.Companions.{is_asked}
use Rattle.mend_groups.specs.declared.ports.EndClass.{EndClass}
use Rattle.mend_groups.specs.declared.ports.EndClass.TheVariants.{Regs, Ports as PortBits, Sinks}
use Rattle.mend_groups.specs.declared.rows.Row.{Row}
use Rattle.mend_groups.specs.declared.groups.Group.{Group}
use Rattle.mend_groups.specs.Ports.{is_end_class}

-- texts with one text between each two
unfoldable pub joined_by : List ℕ → List (List ℕ) → List ℕ
joined_by between [] = []
joined_by between (x ∷ []) = x
joined_by between (x ∷ y ∷ more) = x ++ (between ++ joined_by between (y ∷ more))

-- what stands before a text after others: nothing where it is the first one
abbrev pub between_text : List ℕ → Bool → List ℕ
between_text between first = if first then [] else between

abbrev pub next_text : List ℕ → Bool → List ℕ → List ℕ
next_text between first text = between_text between first ++ text

-- the words of a kind and of the checks that it names
abbrev pub kind_words : Kind → List ℕ
kind_words False = codes "set_false_path"
kind_words (Multi k) = codes "set_multicycle_path " ++ decimal k

abbrev pub checks_words : Checks → List ℕ
checks_words Unsaid = []
checks_words Setup = codes " -setup"
checks_words Both = codes " -setup -hold"

-- of a pair with one of its two sides written that one's check is named, and else those that the exception names
abbrev pub alone_words : Bool → List ℕ
alone_words early = if early then codes " -hold" else codes " -setup"

abbrev pub sided_words : Checks → Row → List ℕ
sided_words checks r = if r.beside then checks_words checks else alone_words r.early

-- an exception of the late side alone names its checks; one that claims the early side is written by its first pair
abbrev pub group_checks : Sides → Checks → List Row → List ℕ
group_checks Late checks star = checks_words checks
group_checks _ checks [] = []
group_checks _ checks (r ∷ star) = sided_words checks r

-- the option of a change
abbrev pub from_word : Edge → List ℕ
from_word Any = codes " -from"
from_word Rise = codes " -rise_from"
from_word Fall = codes " -fall_from"

-- registers are cells, and bits of ports are ports. What begins at another input is not written
abbrev pub get_start : Start → List ℕ
get_start (RegStart r) = codes "get_cells"
get_start (InputStart i) = codes "get_ports"

-- sinks are pins
abbrev pub get_end : EndClass → List ℕ
get_end Regs = codes "get_cells"
get_end PortBits = codes "get_ports"
get_end Sinks = codes "get_pins"

-- the pair's end is of the class
abbrev pub is_of_class : EndClass → Row → Bool
is_of_class class r = is_end_class class r.class

-- the pairs of a start whose ends are of the class
abbrev pub of_class : EndClass → List Row → List Row
of_class class star = filter (is_of_class class) star

-- names of pairs by their places
abbrev pub start_text : List PairLine → Row → List ℕ
start_text pairs r = elim (slice_get pairs r.place) [ None ↦ [] | Some p ↦ p.start ]

abbrev pub end_text : List PairLine → Row → List ℕ
end_text pairs r = elim (slice_get pairs r.place) [ None ↦ [] | Some p ↦ p.end ]

-- the name of a pair's end, or of its start
abbrev pub name_text : Bool → List PairLine → Row → List ℕ
name_text ends pairs r = if ends then end_text pairs r else start_text pairs r

-- a list of names of one class
abbrev pub named_list : List ℕ → List (List ℕ) → List ℕ
named_list get names = codes "[" ++ (get ++ (codes " {" ++ (joined_by (codes " ") names ++ codes "}]")))

-- the first pair of each of these lists
abbrev pub heads : List (List Row) → List Row
heads stars = flat_map (take 1) stars

-- what a pattern is asked by
abbrev pub class_word : Class → List ℕ
class_word Ports = codes "get_ports"
class_word Cells = codes "get_cells"
class_word Pins = codes "get_pins"
class_word Nets = codes "get_nets"
class_word Clocks = codes "get_clocks"
class_word AnyClass = []

abbrev pub hier_word : Bool → List ℕ
hier_word hier = if hier then codes " -hierarchical" else []

-- both objects are patterns that are asked for in the same way
abbrev pub go_together : Object → Object → Bool
go_together (Named a) (Named b) = is_asked a b
go_together _ _ = false

-- objects with each next to it that goes with it
unfoldable pub bundled : List Object → List (List Object)
bundled [] = []
bundled (o ∷ objects) = elim (bundled objects) [
  | [] ↦ (o ∷ []) ∷ []
  | [] ∷ rest ↦ (o ∷ []) ∷ rest
  | (next ∷ more) ∷ rest ↦ if go_together o next then (o ∷ next ∷ more) ∷ rest else (o ∷ []) ∷ (next ∷ more) ∷ rest
]

abbrev pub pattern_of : Object → List ℕ
pattern_of (Named q) = q.pattern
pattern_of _ = []

abbrev pub patterns_text : List Object → List ℕ
patterns_text objects = codes "{" ++ (joined_by (codes " ") (map pattern_of objects) ++ codes "}")

-- patterns that are asked for in a `get_` command
abbrev pub asked_text : Query → List Object → List ℕ
asked_text q objects = codes "[" ++ (class_word q.class ++ (hier_word q.hier ++ (codes " " ++ (patterns_text objects ++ codes "]"))))

-- a pattern outside a `get_` command stands by itself
abbrev pub query_text : Query → List Object → List ℕ
query_text q objects = elim q.class [ AnyClass ↦ patterns_text objects | _ ↦ asked_text q objects ]

-- objects that go together, by the first of them
abbrev pub bundle_by : Object → List Object → List ℕ
bundle_by (Named q) objects = query_text q objects
bundle_by AllInputs objects = codes "[all_inputs]"
bundle_by AllOutputs objects = codes "[all_outputs]"
bundle_by AllRegisters objects = codes "[all_registers]"
bundle_by AllClocks objects = codes "[all_clocks]"

abbrev pub bundle_text : List Object → List ℕ
bundle_text [] = []
bundle_text (o ∷ more) = bundle_by o (o ∷ more)

-- the texts of objects that go together, with a space between each two
abbrev pub several_text : List (List Object) → List ℕ
several_text bundles = joined_by (codes " ") (map bundle_text bundles)

-- one of them stands by itself, and several or none stand in a list
abbrev pub bundles_text : List (List Object) → List ℕ
bundles_text (one ∷ []) = bundle_text one
bundles_text several = codes "[list " ++ (several_text several ++ codes "]")

abbrev pub list_text : List Object → List ℕ
list_text objects = bundles_text (bundled objects)

-- an option for each list of an exception
abbrev pub through_one : List Object → List ℕ
through_one objects = codes " -through " ++ list_text objects

abbrev pub through_text : List (List Object) → List ℕ
through_text lists = flat_map through_one lists

-- the starts of a group, at the changes of the first one
abbrev pub from_text : List PairLine → Row → List Row → List ℕ
from_text pairs first starts = from_word first.edge ++ (codes " " ++ named_list (get_start first.start) (map (name_text false pairs) starts))

-- its ends of one class
abbrev pub to_text : List PairLine → Row → List Row → List ℕ
to_text pairs end ends = codes " -to " ++ named_list (get_end end.class) (map (name_text true pairs) ends)

-- a command from its option of the start on: the starts of a group, the through lists of the exception, and the ends of one class
abbrev pub rest_by : List PairLine → List (List Object) → List Row → Row → Row → List Row → List ℕ
rest_by pairs through starts first end ends = from_text pairs first starts ++ (through_text through ++ to_text pairs end ends)

-- the commands of a group from there on: one where some ends are of a class
abbrev pub rests_for : List PairLine → List (List Object) → List Row → List Row → List (List ℕ)
rests_for pairs through (first ∷ starts) (end ∷ ends) = rest_by pairs through (first ∷ starts) first end (end ∷ ends) ∷ []
rests_for pairs through _ _ = []

-- the pairs of a group's first start, whose ends are those of each other one
abbrev pub first_star : Group → List Row
first_star g = elim g.stars [ [] ↦ [] | star ∷ more ↦ star ]

-- an end of the class is named once: by its late side where both are written
abbrev pub is_named : EndClass → Row → Bool
is_named class r = is_of_class class r && not (r.early && r.beside)

abbrev pub ends_in : EndClass → Group → List Row
ends_in class g = filter (is_named class) (first_star g)

abbrev pub rests_in : List PairLine → List (List Object) → Group → EndClass → List (List ℕ)
rests_in pairs through g class = rests_for pairs through (heads g.stars) (ends_in class g)

-- one for its registers, one for its bits of output ports, and one for its sinks
abbrev pub rests_of : List PairLine → List (List Object) → Group → List (List ℕ)
rests_of pairs through g = rests_in pairs through g Regs ++ (rests_in pairs through g PortBits ++ rests_in pairs through g Sinks)

-- a command of these first words and the rest
abbrev pub line_after : List ℕ → List ℕ → List ℕ
line_after head rest = head ++ rest

-- the commands of a group, and those of some groups, each after these words
abbrev pub lines_of_group : List ℕ → List PairLine → List (List Object) → Group → List (List ℕ)
lines_of_group head pairs through g = map (line_after head) (rests_of pairs through g)

abbrev pub lines_after : List ℕ → List PairLine → List (List Object) → List Group → List (List ℕ)
lines_after head pairs through groups = map (line_after head) (flat_map (rests_of pairs through) groups)

-- the first words of a group's commands
abbrev pub head_of : Asked → Group → List ℕ
head_of by g = kind_words by.exception.kind ++ group_checks by.sides by.exception.checks (first_star g)

-- the commands of an exception's groups
abbrev pub lines_by : List PairLine → Asked → Group → List (List ℕ)
lines_by pairs by g = lines_of_group (head_of by g) pairs by.exception.through g

abbrev pub lines_of : List PairLine → Asked → List Group → List (List ℕ)
lines_of pairs by groups = flat_map (lines_by pairs by) groups

-- how many they are
abbrev pub line_count : List Group → ℕ
line_count groups = length (flat_map (rests_of [] []) groups)
