-- Hold numbers and their companions (SDC 2.1, set_multicycle_path). The hold check of a multicycle path moves with the number of the
-- path's `-setup` command, and a hold number moves it back.
use Rattle.std.specs.Prelude.{ℕ, ◌+◌, ◌==◌, nat_lt, min, not, Bool, true, false, ◌&&◌, if◌then◌else◌, List, [], ◌∷◌, ◌++◌, Option, None, Some}
use Rattle.std.specs.Str.{bytes_eq}
use Rattle.std.specs.Str.Parse.{digits_value}
use Rattle.texts.specs.Fronts.{first}
use Rattle.sdcv_base.specs.declared.kinds.Kind.{Kind}
use Rattle.sdcv_base.specs.declared.kinds.Kind.TheVariants.{False, Multi}
use Rattle.sdcv_base.specs.declared.kinds.Edge.{Edge}
use Rattle.sdcv_base.specs.declared.kinds.Edge.TheVariants.{Any, Rise, Fall}
use Rattle.sdcv_base.specs.Seqs.{where_true}
use Rattle.script_types.specs.declared.objects.Class.{Class}
use Rattle.script_types.specs.declared.objects.Class.TheVariants.{Ports, Cells, Pins, Nets, Clocks, Any as AnyClass}
use Rattle.script_types.specs.declared.objects.Query.{Query}
use Rattle.script_types.specs.declared.objects.Object.{Object}
use Rattle.script_types.specs.declared.objects.Object.TheVariants.{Named, AllInputs, AllOutputs, AllRegisters, AllClocks}
use Rattle.script_types.specs.declared.scripts.Checks.{Checks}
use Rattle.script_types.specs.declared.scripts.Checks.TheVariants.{Both}
use Rattle.script_types.specs.declared.scripts.Exception.{Exception}
use Rattle.script_types.specs.declared.scripts.Held.{Held}
use Rattle.script_types.specs.declared.scripts.What.{What}
use Rattle.script_types.specs.declared.scripts.What.TheVariants.{Claiming, Hold, Aside}
use Rattle.script_types.specs.declared.scripts.Command.{Command}
use Rattle.script_notices.specs.declared.shifts.HoldShift.{HoldShift}

-- both are one class, one answer, and one edge
abbrev pub is_class : Class → Class → Bool
is_class Ports Ports = true
is_class Cells Cells = true
is_class Pins Pins = true
is_class Nets Nets = true
is_class Clocks Clocks = true
is_class AnyClass AnyClass = true
is_class _ _ = false

abbrev pub is_bool : Bool → Bool → Bool
is_bool true b = b
is_bool false b = not b

abbrev pub is_edge : Edge → Edge → Bool
is_edge Any Any = true
is_edge Rise Rise = true
is_edge Fall Fall = true
is_edge _ _ = false

-- both patterns are asked for in one class, below any part of a name or not
abbrev pub is_asked : Query → Query → Bool
is_asked a b = is_class a.class b.class && is_bool a.hier b.hier

-- two patterns are one, and are asked for in the same way
abbrev pub is_query : Query → Query → Bool
is_query a b = is_asked a b && bytes_eq a.pattern b.pattern

-- two objects are one
abbrev pub is_object : Object → Object → Bool
is_object (Named a) (Named b) = is_query a b
is_object AllInputs AllInputs = true
is_object AllOutputs AllOutputs = true
is_object AllRegisters AllRegisters = true
is_object AllClocks AllClocks = true
is_object _ _ = false

-- two lists are one, item by item
unfoldable pub are_same : {A : Type 0} → (A → A → Bool) → List A → List A → Bool
are_same is [] [] = true
are_same is (a ∷ xs) (b ∷ ys) = is a b && are_same is xs ys
are_same is [] (b ∷ ys) = false
are_same is (a ∷ xs) [] = false

abbrev pub are_objects : List Object → List Object → Bool
are_objects = are_same is_object

abbrev pub are_lists : List (List Object) → List (List Object) → Bool
are_lists = are_same are_objects

-- both lists are not given, or both are and are one
abbrev pub are_given : Option (List Object) → Option (List Object) → Bool
are_given None None = true
are_given (Some a) (Some b) = are_objects a b
are_given _ _ = false

-- a hold number as it is written. One with a `-` moves no check back, and counts as 0; one above 256 counts as 256, for no multiplier is
-- above 255
abbrev pub hold_value : List ℕ → ℕ
hold_value number = if first number == 45 then 0 else min 256 (digits_value 10 number)

-- the hold number that a command gives to the paths of its lists
pub record Shifted : Type 0 where
  pub number : ℕ
  pub edge : Edge
  pub from : Option (List Object)
  pub through : List (List Object)
  pub to : Option (List Object)

-- a `-hold` command of a multicycle path gives its number
abbrev pub held_by : Held → Option (List ℕ) → Option Shifted
held_by h None = None
held_by h (Some number) = Some (record { number = hold_value number; edge = h.edge; from = h.from; through = h.through; to = h.to })

abbrev pub held_shift : Held → Option Shifted
held_shift h = held_by h h.number

-- a multicycle path with `-setup` and `-hold` gives its multiplier as hold number too
abbrev pub both_by : Exception → Kind → Checks → Option Shifted
both_by e (Multi k) Both = Some (record { number = k; edge = e.edge; from = e.from; through = e.through; to = e.to })
both_by e _ _ = None

abbrev pub both_shift : Exception → Option Shifted
both_shift e = both_by e e.kind e.checks

-- what the program has of it
abbrev pub shifted_by : HoldShift → Shifted
shifted_by s = record { number = s.number; edge = s.edge; from = s.from.now; through = s.through.now; to = s.to.now }

-- a multicycle path whose multiplier is above a number
abbrev pub is_above : ℕ → Kind → Bool
is_above number False = false
is_above number (Multi k) = nat_lt number k

-- a companion of a hold number: the multicycle path of the same lists whose multiplier is above it
abbrev pub goes_with : Shifted → Exception → Bool
goes_with s e =
    is_above s.number e.kind
    && (is_edge s.edge e.edge && (are_given s.from e.from && (are_lists s.through e.through && are_given s.to e.to)))

abbrev pub is_companion : Shifted → What → Bool
is_companion s (Claiming e) = goes_with s e
is_companion s _ = false

-- exceptions have their places among exceptions, from 0, whether they claim anything or not
abbrev pub is_exception : What → Bool
is_exception (Claiming e) = true
is_exception (Hold held) = true
is_exception (Aside option) = true
is_exception _ = false

-- the place of the next exception after a command, of which the next one before it has this place
abbrev pub next_place : ℕ → What → ℕ
next_place place what = if is_exception what then place + 1 else place

-- the places of the companions of a hold number among all exceptions, of which the first of these commands has this place
unfoldable pub companions_from : Shifted → ℕ → List Command → List ℕ
companions_from s place [] = []
companions_from s place (c ∷ commands) = where_true (is_companion s c.what) place ++ companions_from s (next_place place c.what) commands
