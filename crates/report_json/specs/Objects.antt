-- An object that is being made.
use Rattle.std.specs.Prelude.{ℕ, ◌==◌, Bool, true, List, Option, None, Some, codes, is_some, if◌then◌else◌}
use Rattle.serde_json.specs.Data.{Members, boolean, string, put}
use Rattle.serde_json.specs.View.{members_view}
use Rattle.sdcv_base.specs.Shown.{shown}
use Rattle.run_options.specs.declared.options.RunOptions.{RunOptions}
use Rattle.report_json.specs.declared.objects.Object.{Object}
use Rattle.selected_types.specs.declared.notices.Notices.{Notices}
use Rattle.selected_types.specs.declared.notices.Skipped.{Skipped}
use Rattle.report_json.specs.Reports.{count_data, cuts_data, skipped_data, tells_holds, unjudged_data}

-- the members that it has so far
abbrev pub made : Object → Members
made o = members_view o.map.entries

-- the members with one that stands only where it is asked for: the lag, a number, and a word
abbrev pub with_lag : ℕ → Members → Members
with_lag lag members = if lag == 0 then members else put (codes "lag") (count_data lag) members

abbrev pub with_number : List ℕ → Option ℕ → Members → Members
with_number key None members = members
with_number key (Some count) members = put key (count_data count) members

abbrev pub with_flag : List ℕ → Bool → Members → Members
with_flag key stands members = if stands then put key (boolean true) members else members

-- the members with one of what is told of the netlist: which cells are cut out, and the name of the top module or the clock
abbrev pub with_cuts : RunOptions → Notices → Members → Members
with_cuts o n members = if is_some o.free then put (codes "cuts") (cuts_data n.cuts) members else members

abbrev pub with_name : List ℕ → Option (List ℕ) → Members → Members
with_name key None members = members
with_name key (Some name) members = put key (string (shown name)) members

-- the members with one of what is told beside the exceptions: of how many false paths the hold side is not judged, the commands that
-- are passed over, and those that are not judged
abbrev pub with_holds : RunOptions → Notices → Members → Members
with_holds o n members = if tells_holds o then put (codes "hold_commands") (count_data n.hold_commands) members else members

abbrev pub with_skipped : Option (List Skipped) → Members → Members
with_skipped None members = members
with_skipped (Some skipped) members = put (codes "skipped") (skipped_data skipped) members

abbrev pub with_unjudged : RunOptions → Notices → Members → Members
with_unjudged o n members = if o.strict then put (codes "unjudged") (unjudged_data n.unjudged) members else members

-- the members with all of these
abbrev pub with_asked : RunOptions → Notices → Members → Members
with_asked o n members =
    with_number (codes "assist") o.assist (with_number (codes "assumed") o.assumed (with_name (codes "clock") n.clock
    (with_cuts o n (with_number (codes "free") o.free (with_flag (codes "hold") o.hold (with_holds o n (with_lag o.lag
    (with_skipped n.skipped (with_flag (codes "strict") o.strict (with_name (codes "top") n.top (with_unjudged o n members)))))))))))
