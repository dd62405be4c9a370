-- The objects of reports, worked out by hand.
use Rattle.std.proofs.Common.{◌≡◌, ℕ, List, [], ◌∷◌, true, false, refl}
use Rattle.std.specs.Prelude.{codes, None, Some}
use Rattle.serde_json.specs.Data.{Data, Members, array, boolean, item, member, no_items, no_members, object, string}
use Rattle.run_options.specs.declared.options.RunOptions.{RunOptions}
use Rattle.selected_types.specs.declared.notices.Notices.{Notices}
use Rattle.selected_types.specs.declared.notices.CutCells.{CutCells}
use Rattle.selected_types.specs.declared.notices.Skipped.{Skipped}
use Rattle.selected_types.specs.declared.notices.Unjudged.{Unjudged}
use Rattle.selected_types.specs.declared.selections.Selected.{Selected}
use Rattle.report_json.specs.Reports.{count_data, cuts_data, report_data, skipped_data, unjudged_data}

abbrev plain : RunOptions
plain = record {
  hazard = false;
  reset_len = 1;
  depth = 8;
  budget = 20000;
  inv_depth = 1;
  lag = 0;
  hold = false;
  assist = None;
  free = None;
  assumed = None;
  strict = false;
}

abbrev nothing : Selected
nothing = record { commands = []; pairs = []; claims = [] }

abbrev untold : Notices
untold = record { top = None; clock = None; cuts = []; skipped = None; unjudged = []; hold_commands = 0 }

abbrev sense : Skipped
sense = record { name = codes "set_sense"; count = 2 }

abbrev groups : Unjudged
groups = record { line = 3; name = codes "set_clock_groups" }

-- the keys of an object, in their order
abbrev keys : Data → List (List ℕ)
keys (object members) = named members
  where
    named : Members → List (List ℕ)
    named no_members = []
    named (member key value others) = key ∷ named others
keys _ = []

asked_for_nothing : keys (report_data plain untold nothing [])
    ≡ codes "budget" ∷ codes "commands" ∷ codes "depth" ∷ codes "inv" ∷ codes "mode" ∷ codes "pairs" ∷ codes "reset" ∷ codes "total" ∷ []
asked_for_nothing = refl

asked_for_all : keys (report_data (record plain { lag = 2; hold = true; assist = Some 14; free = Some 0; assumed = Some 3; strict = true })
    (record untold { top = Some (codes "chip"); clock = Some (codes "ck"); skipped = Some [] }) nothing [])
    ≡ codes "assist" ∷ codes "assumed" ∷ codes "budget" ∷ codes "clock" ∷ codes "commands" ∷ codes "cuts" ∷ codes "depth" ∷ codes "free"
    ∷ codes "hold" ∷ codes "inv" ∷ codes "lag" ∷ codes "mode" ∷ codes "pairs" ∷ codes "reset" ∷ codes "skipped" ∷ codes "strict"
    ∷ codes "top" ∷ codes "total" ∷ codes "unjudged" ∷ []
asked_for_all = refl

-- without hold sides a strict report says of how many false paths they are not judged
asked_for_a_signoff : keys (report_data (record plain { strict = true }) untold nothing [])
    ≡ codes "budget" ∷ codes "commands" ∷ codes "depth" ∷ codes "hold_commands" ∷ codes "inv" ∷ codes "mode" ∷ codes "pairs" ∷ codes "reset"
    ∷ codes "strict" ∷ codes "total" ∷ codes "unjudged" ∷ []
asked_for_a_signoff = refl

-- where cells may be cut out, their list stands also where none is
asked_for_cuts : keys (report_data (record plain { free = Some 0 }) untold nothing [])
    ≡ codes "budget" ∷ codes "commands" ∷ codes "cuts" ∷ codes "depth" ∷ codes "free" ∷ codes "inv" ∷ codes "mode" ∷ codes "pairs" ∷ codes "reset"
    ∷ codes "total" ∷ []
asked_for_cuts = refl

abbrev rams : CutCells
rams = record { cell = codes "RAM"; count = 1; «open» = false }

a_cell_is_cut : cuts_data (rams ∷ [])
    ≡ array (item (object (member (codes "cells") (count_data 1) (member (codes "name") (string (codes "RAM"))
    (member (codes "open") (boolean false) no_members)))) no_items)
a_cell_is_cut = refl

two_commands_are_passed_over : skipped_data (sense ∷ [])
    ≡ array (item (object (member (codes "count") (count_data 2) (member (codes "name") (string (codes "set_sense")) no_members))) no_items)
two_commands_are_passed_over = refl

a_command_is_not_judged : unjudged_data (groups ∷ [])
    ≡ array (item (object (member (codes "line") (count_data 3) (member (codes "name") (string (codes "set_clock_groups")) no_members))) no_items)
a_command_is_not_judged = refl
