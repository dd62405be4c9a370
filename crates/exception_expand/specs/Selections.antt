-- What the exceptions of a script select in a linked design, and what is listed of it.
use Rattle.std.specs.Prelude.{◌≡◌, ℕ, ◌+◌, ◌≤◌, Bool, true, false, ◌==◌, List, [], ◌∷◌, ◌++◌}
use Rattle.std.specs.Prelude.{map, flat_map, take, length, All, Option, Some, None, slice_get, count_by}
use Rattle.net_model.specs.Fits.{IsKindFit, Fits}
use Rattle.net_model.specs.Paths.{HasPath}
use Rattle.net_model.specs.declared.claims.PinRef.{PinRef}
use Rattle.net_model.specs.declared.claims.Claim.{Claim}
use Rattle.net_paths.specs.Those.{AreThose}
use Rattle.linked_types.specs.declared.names.Linked.{Linked}
use Rattle.script_types.specs.declared.scripts.Exception.{Exception}
use Rattle.script_types.specs.declared.scripts.What.{What}
use Rattle.script_types.specs.declared.scripts.What.TheVariants.{Claiming, Hold, Aside}
use Rattle.script_types.specs.declared.scripts.Command.{Command}
use Rattle.script_types.specs.declared.scripts.Script.{Script}
use Rattle.selected_types.specs.declared.warnings.Warning.{Warning}
use Rattle.sdc_objects.specs.declared.things.Place.TheVariants.{From, To, Through}
use Rattle.sdcv_base.specs.Seqs.{each_at}
use Rattle.sdc_objects.specs.Standing.{pins_of, warnings, from_column, to_column, through_column}
use Rattle.run_options.specs.declared.judging.Judging.{Judging}
use Rattle.selected_types.specs.declared.selections.Listing.{Listing}
use Rattle.selected_types.specs.declared.selections.Listing.TheVariants.{Hold as ListsHold, Aside as ListsAside}
use Rattle.selected_types.specs.declared.selections.CommandLine.{CommandLine}
use Rattle.selected_types.specs.declared.selections.PairLine.{PairLine}
use Rattle.selected_types.specs.declared.selections.Selected.{Selected}
use Rattle.exception_expand.specs.declared.pairs.Pair.{Pair}
use Rattle.exception_expand.specs.declared.sides.Side.{Side}
use Rattle.exception_expand.specs.declared.sides.Sides.TheVariants.{Both}
use Rattle.exception_expand.specs.Pairs.{pairs_between, claim_for, is_judged}
use Rattle.exception_expand.specs.Sides.{sides_by, HasSide}
use Rattle.exception_expand.specs.Asking.{Asked, asked, listing_of}
use Rattle.exception_expand.specs.Points.{all_starts, all_ends, IsFrom, IsTo, given}
use Rattle.exception_expand.specs.Naming.{start_name, end_name}

-- all pairs of a design, in its order
abbrev pub all_pairs : Linked → List Pair
all_pairs l = pairs_between (all_starts l) (all_ends l.design)

-- the through sets of an exception, in their order
abbrev pub sets_of : Linked → Script → Exception → List (List PinRef)
sets_of l script e = map (pins_of l script) e.through

-- the exception selects the pair: it has the start and the end in its lists, and a path leads from one to the other
-- through its sets in their order (SDC 2.1, set_false_path and set_multicycle_path); what lists mean may be strict
abbrev pub Selects : Linked → Script → Bool → Exception → Pair → Type 0
Selects l script strict e p =
    (IsFrom l script strict e.edge e.from p.start × IsTo l script strict e.to p.end) × HasPath l.design p.start p.end (sets_of l script e)

-- both sides of all pairs, pair by pair, late before early
abbrev pub all_sides : Linked → List Side
all_sides l = flat_map (sides_by Both) (all_pairs l)

-- what is asked is asked of this side, and selects its pair; nothing is selected where nothing is asked
abbrev pub IsAskedOf : Linked → Script → Bool → Option Asked → Side → Type 0
IsAskedOf l script strict None s = ⊥
IsAskedOf l script strict (Some by) s = HasSide by.sides s.early × Selects l script strict by.exception s.pair

-- the command claims something of the side of the pair, with hold sides or without, in a run that is strict or not
abbrev pub SelectsBy : Linked → Script → Judging → What → Side → Type 0
SelectsBy l script judging what s = IsAskedOf l script judging.strict (asked judging.hold what) s

-- a side of a pair, and the place of a command in its script
pub record Chosen : Type 0 where
  pub command : ℕ
  pub side : Side

abbrev pub chosen_by : ℕ → Side → Chosen
chosen_by command s = record { command = command; side = s }

-- all sides once more for each command, command by command
abbrev pub pairs_at : Linked → ℕ → Command → List Chosen
pairs_at l command c = map (chosen_by command) (all_sides l)

abbrev pub script_pairs : Linked → Script → List Chosen
script_pairs l script = each_at (pairs_at l) 0 script.commands

-- the command at its place claims something of the side of the pair
abbrev pub IsSelected : Linked → Script → Judging → Chosen → Type 0
IsSelected l script judging x = (c : Command) × (slice_get script.commands x.command ≡ Some c) × SelectsBy l script judging c.what x.side

-- exceptions are numbered from 1, whether they claim anything or not
abbrev pub is_exception : What → Bool
is_exception (Claiming e) = true
is_exception (Hold held) = true
is_exception (Aside option) = true
is_exception _ = false

abbrev pub number_of : Script → ℕ → ℕ
number_of script place = count_by (λ (c : Command). is_exception c.what) (take (place + 1) script.commands)

-- a selected pair as it is listed: the number of its command, and the names of its start and its end
abbrev pub pair_line : Linked → ℕ → Pair → PairLine
pair_line l number p = record { command = number; start = start_name l p.start; end = end_name l p.end }

abbrev pub side_line : Linked → ℕ → Side → PairLine
side_line l number s = pair_line l number s.pair

abbrev pub line_of : Linked → Script → Chosen → PairLine
line_of l script x = side_line l (number_of script x.command) x.side

-- what an exception claims of a side of a pair
abbrev pub claim : Linked → Script → Judging → Exception → Side → Claim
claim l script judging e s = claim_for (length l.names.ins) e.kind e.edge judging (sets_of l script e) s

abbrev pub claim_asked : Linked → Script → Judging → Side → Option Asked → Option Claim
claim_asked l script judging s None = None
claim_asked l script judging s (Some by) = Some (claim l script judging by.exception s)

abbrev pub claim_by : Linked → Script → Judging → Side → What → Option Claim
claim_by l script judging s what = claim_asked l script judging s (asked judging.hold what)

abbrev pub claim_at : Linked → Script → Judging → Side → Option Command → Option Claim
claim_at l script judging s None = None
claim_at l script judging s (Some c) = claim_by l script judging s c.what

-- what the command at its place claims of a side of a pair
abbrev pub claim_of : Linked → Script → Judging → Chosen → Option Claim
claim_of l script judging x = claim_at l script judging x.side (slice_get script.commands x.command)

-- the warnings of the objects of an exception: those after `-from` or the like, after each `-through`, and after `-to`
abbrev pub exception_warnings : Linked → Script → Bool → Exception → List Warning
exception_warnings l script strict e =
    warnings (from_column l script strict e.edge) l script strict From (given e.from)
    ++ flat_map (warnings (through_column l) l script strict Through) e.through
    ++ warnings (to_column l script strict) l script strict To (given e.to)

abbrev pub command_line : ℕ → Listing → List Warning → CommandLine
command_line line listing told = record { line = line; listing = listing; warnings = told }

-- an exception that asks nothing as it is listed; no other command is listed
abbrev pub lines_unasked : ℕ → What → List CommandLine
lines_unasked line (Hold held) = command_line line ListsHold [] ∷ []
lines_unasked line (Aside option) = command_line line (ListsAside option) [] ∷ []
lines_unasked line _ = []

-- one that asks something, with the number of its claims and with the warnings of its objects
abbrev pub lines_asked : Linked → Script → Bool → ℕ → ℕ → What → Option Asked → List CommandLine
lines_asked l script strict count line what None = lines_unasked line what
lines_asked l script strict count line what (Some by) = command_line line (listing_of by count) (exception_warnings l script strict by.exception) ∷ []

abbrev pub lines_by : Linked → Script → Judging → ℕ → ℕ → What → List CommandLine
lines_by l script judging count line what = lines_asked l script judging.strict count line what (asked judging.hold what)

-- how many sides of pairs the command at a place selects
abbrev pub count_at : List Chosen → ℕ → ℕ
count_at chosen place = count_by (λ (x : Chosen). x.command == place) chosen

abbrev pub lines_at : Linked → Script → Judging → List Chosen → ℕ → Command → List CommandLine
lines_at l script judging chosen place c = lines_by l script judging (count_at chosen place) c.line c.what

-- a claiming command has at most four through sets
abbrev pub AsksFewSets : Option Asked → Type 0
AsksFewSets None = Unit {0}
AsksFewSets (Some by) = length by.exception.through ≤ 4

abbrev pub HasFewSets : Bool → What → Type 0
HasFewSets hold what = AsksFewSets (asked hold what)

-- each multiplier is from 1 to 16
abbrev pub HasMultiplier : What → Type 0
HasMultiplier (Claiming e) = IsKindFit e.kind
HasMultiplier _ = Unit {0}

abbrev pub HasMultipliers : Script → Type 0
HasMultipliers script = All (λ (c : Command). HasMultiplier c.what) script.commands

-- exactly the selected sides of pairs, command by command, by start and then by end, late before early, within the limits;
-- each with a claim that fits the design
pub record IsSelectionOf (l : Linked) (script : Script) (judging : Judging) (s : Selected) : Type 0 where
  pub chosen : List Chosen
  pub those : AreThose (IsSelected l script judging) (script_pairs l script) chosen
  pub pairs : s.pairs ≡ map (line_of l script) chosen
  pub claims : map Some s.claims ≡ map (claim_of l script judging) chosen
  pub commands : s.commands ≡ each_at (lines_at l script judging chosen) 0 script.commands
  pub sets : All (λ (c : Command). HasFewSets judging.hold c.what) script.commands
  pub few : length chosen ≤ 100000
  pub judged : count_by (is_judged l.design) s.claims ≤ 10000
  pub fit : All (Fits l.design) s.claims
