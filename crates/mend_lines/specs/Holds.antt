-- What becomes of a `-hold` command. The hold check of a multicycle path moves with the number of the path's `-setup` command, so a hold
-- command stays only where that one does, and else goes by its new commands.
use Rattle.std.specs.Prelude.{ℕ, ◌==◌, Bool, false, ◌||◌, if◌then◌else◌, List, [], ◌∷◌, slice_get, Option, None, Some}
use Rattle.std.specs.List.{list_all, list_any}
use Rattle.script_types.specs.declared.scripts.Held.{Held}
use Rattle.script_types.specs.declared.scripts.Script.{Script}
use Rattle.script_notices.specs.Companions.{Shifted, held_shift, companions_from}
use Rattle.mend_groups.specs.declared.parts.Part.{Part}
use Rattle.mend_groups.specs.Rows.{are_kept}
use Rattle.mend_lines.specs.declared.fates.HoldFate.{HoldFate}
use Rattle.mend_lines.specs.declared.fates.HoldFate.TheVariants.{Stays, Follows, LeftOut}

-- all pairs of an exception are kept, so it stays as it is written
abbrev pub is_whole : Part → Bool
is_whole p = are_kept p.rows

abbrev pub is_whole_at : List Part → ℕ → Bool
is_whole_at parts place = elim (slice_get parts place) [ None ↦ false | Some p ↦ is_whole p ]

-- the last one, if there is one
unfoldable pub last_fate : List ℕ → HoldFate
last_fate [] = LeftOut
last_fate (place ∷ []) = Follows place
last_fate (place ∷ next ∷ more) = last_fate (next ∷ more)

-- it stays where a companion does, and else goes by the last one
abbrev pub fate_by : List Part → List ℕ → HoldFate
fate_by parts companions = if list_any (is_whole_at parts) companions then Stays else last_fate companions

abbrev pub fate_of : Script → List Part → Shifted → HoldFate
fate_of script parts s =
    if s.number == 0 || list_all is_whole parts then Stays else fate_by parts (companions_from s 0 script.commands)

-- a hold command of a false path has no number, and stays where it claims nothing
abbrev pub fate_shifted : Script → List Part → Option Shifted → HoldFate
fate_shifted script parts None = Stays
fate_shifted script parts (Some s) = fate_of script parts s

abbrev pub hold_fate : Script → List Part → Held → HoldFate
hold_fate script parts h = fate_shifted script parts (held_shift h)
