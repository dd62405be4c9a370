-- What the exceptions of a script ask: of which pairs they claim something, by their lists, and of which sides of these.
use Rattle.std.specs.Prelude.{ℕ, Bool, false, if◌then◌else◌, List, Option, Some, None}
use Rattle.sdcv_base.specs.declared.kinds.Kind.{Kind}
use Rattle.sdcv_base.specs.declared.kinds.Kind.TheVariants.{False, Multi}
use Rattle.script_types.specs.declared.scripts.Checks.{Checks}
use Rattle.script_types.specs.declared.scripts.Checks.TheVariants.{Unsaid, Setup}
use Rattle.script_types.specs.declared.scripts.Exception.{Exception}
use Rattle.script_types.specs.declared.scripts.Held.{Held}
use Rattle.script_types.specs.declared.scripts.What.{What}
use Rattle.script_types.specs.declared.scripts.What.TheVariants.{Claiming, Hold}
use Rattle.selected_types.specs.declared.selections.Listing.{Listing}
use Rattle.selected_types.specs.declared.selections.Listing.TheVariants.{Claiming as ListsClaims, HoldSide as ListsHoldSide}
use Rattle.exception_expand.specs.declared.asks.Ask.{Ask}
use Rattle.exception_expand.specs.declared.sides.Sides.{Sides}
use Rattle.exception_expand.specs.declared.sides.Sides.TheVariants.{Late, Early, Both}

-- an exception that claims something of the pairs of its lists, and of which sides of these
pub record Asked : Type 0 where
  pub exception : Exception
  pub sides : Sides

-- without `-setup` alone a false path takes the hold check off too: it claims the early side where hold sides are judged
abbrev pub false_sides : Bool → Checks → Sides
false_sides hold Setup = Late
false_sides hold _ = if hold then Both else Late

-- a multicycle path has the late side alone
abbrev pub sides_of : Bool → Kind → Checks → Sides
sides_of hold False checks = false_sides hold checks
sides_of hold (Multi k) checks = Late

-- a `set_false_path -hold` has no number; its lists are those of a false path
abbrev pub is_hold_side : Bool → Option (List ℕ) → Bool
is_hold_side hold None = hold
is_hold_side hold (Some number) = false

abbrev pub held : Held → Exception
held h = record { kind = False; checks = Unsaid; edge = h.edge; from = h.from; through = h.through; to = h.to }

-- what a command asks: an exception of a setup check always, and a `set_false_path -hold` where hold sides are judged
abbrev pub asked : Bool → What → Option Asked
asked hold (Claiming e) = Some (record { exception = e; sides = sides_of hold e.kind e.checks })
asked hold (Hold h) = if is_hold_side hold h.number then Some (record { exception = held h; sides = Early }) else None
asked hold _ = None

-- what is asked, as the program has it
abbrev pub asked_by : Ask → Asked
asked_by a = record {
  exception = record { kind = a.kind; checks = a.checks; edge = a.edge; from = a.from.now; through = a.through.now; to = a.to.now };
  sides = a.sides;
}

-- how an exception that claims something is listed, with the number of its claims
abbrev pub listing_by : Sides → Exception → ℕ → Listing
listing_by Early e count = ListsHoldSide e.edge count
listing_by _ e count = ListsClaims e.kind e.edge count

abbrev pub listing_of : Asked → ℕ → Listing
listing_of a count = listing_by a.sides a.exception count
