-- What is told beside the exceptions, and what is left open for a sign-off, worked out by hand.
use Rattle.std.proofs.Common.{◌≡◌, List, [], ◌∷◌, true, false, refl}
use Rattle.std.specs.Fmt.{digits}
use Rattle.std.specs.Prelude.{codes, None, Some}
use Rattle.sdcv_base.specs.declared.kinds.Edge.TheVariants.{Any, Rise}
use Rattle.sdcv_base.specs.declared.kinds.Kind.TheVariants.{False, Multi}
use Rattle.run_options.specs.declared.options.RunOptions.{RunOptions}
use Rattle.selected_types.specs.declared.notices.Notices.{Notices}
use Rattle.selected_types.specs.declared.notices.CutCells.{CutCells}
use Rattle.selected_types.specs.declared.notices.Skipped.{Skipped}
use Rattle.selected_types.specs.declared.notices.Unjudged.{Unjudged}
use Rattle.selected_types.specs.declared.warnings.Warning.{Warning}
use Rattle.selected_types.specs.declared.warnings.Warning.TheVariants.{Nothing}
use Rattle.selected_types.specs.declared.selections.Listing.{Listing}
use Rattle.selected_types.specs.declared.selections.Listing.TheVariants.{Claiming, Hold, Aside, HoldSide}
use Rattle.selected_types.specs.declared.selections.Selected.{Selected}
use Rattle.report_text.specs.Notices.{notice_texts}
use Rattle.report_text.specs.Reports.{report_lines}
use Rattle.report_text.specs.Signoff.{leaves_open}

abbrev nothing : Notices
nothing = record { top = None; clock = None; cuts = []; skipped = None; unjudged = []; hold_commands = 0 }

abbrev dont_use : Skipped
dont_use = record { name = codes "set_dont_use"; count = 12 }

abbrev sense : Skipped
sense = record { name = codes "set_sense"; count = 1 }

abbrev groups : Unjudged
groups = record { line = 3; name = codes "set_clock_groups" }

abbrev rams : CutCells
rams = record { cell = codes "RAM"; count = 3; «open» = false }

abbrev pads : CutCells
pads = record { cell = codes "TBUF"; count = 2; «open» = true }

told_of_a_netlist : notice_texts (record nothing { top = Some (codes "chip"); clock = Some (codes "ck"); cuts = rams ∷ pads ∷ [] })
    ≡ codes "top chip" ∷ codes "clock ck" ∷ codes "cut RAM 3" ∷ codes "cut TBUF 2 open" ∷ []
unfolding digits
told_of_a_netlist = refl

netlist_before_script : notice_texts (record nothing { cuts = rams ∷ []; skipped = Some (sense ∷ []) }) ≡ codes "cut RAM 3" ∷ codes "skipped set_sense 1" ∷ []
unfolding digits
netlist_before_script = refl

told_in_this_order : notice_texts (record nothing { skipped = Some (dont_use ∷ sense ∷ []); unjudged = groups ∷ []; hold_commands = 2 })
    ≡ codes "skipped set_dont_use 12" ∷ codes "skipped set_sense 1" ∷ codes "warning line 3 unjudged set_clock_groups"
    ∷ codes "note hold side not judged commands 2" ∷ []
unfolding digits
told_in_this_order = refl

nothing_is_told : notice_texts nothing ≡ []
nothing_is_told = refl

nothing_is_passed_over : notice_texts (record nothing { skipped = Some [] }) ≡ []
nothing_is_passed_over = refl

-- a run without options, and one for a sign-off
abbrev plain : RunOptions
plain = record {
  hazard = false;
  reset_len = 1;
  depth = 8;
  budget = 20000;
  inv_depth = 1;
  lag = 0;
  hold = false;
  assist = None;
  free = None;
  assumed = None;
  strict = false;
}

abbrev strict : RunOptions
strict = record plain { strict = true }

abbrev no_exception : Selected
no_exception = record { commands = []; pairs = []; claims = [] }

abbrev one : Listing → List Warning → Selected
one listing warnings = record no_exception { commands = record { line = 2; listing = listing; warnings = warnings } ∷ [] }

their_place_in_a_report : report_lines strict (record nothing { unjudged = groups ∷ [] }) (one (Aside (codes "17")) []) []
    ≡ codes "sdcv 1 mode plain reset 1 depth 8 budget 20000 inv 1 strict\n" ∷ codes "warning line 3 unjudged set_clock_groups\n"
    ∷ codes "command 1 line 2 aside 17\n" ∷ codes "total 0 justified 0 refuted 0 undecided 0\n" ∷ []
unfolding digits
their_place_in_a_report = refl

-- what is told of a netlist stands before the exceptions too, and leaves nothing open
cuts_in_a_report :
    report_lines (record plain { free = Some 2 }) (record nothing { top = Some (codes "chip"); cuts = rams ∷ [] }) (one (Aside (codes "17")) []) []
    ≡ codes "sdcv 1 mode plain reset 1 depth 8 budget 20000 inv 1 free 2\n" ∷ codes "top chip\n" ∷ codes "cut RAM 3\n"
    ∷ codes "command 1 line 2 aside 17\n" ∷ codes "total 0 justified 0 refuted 0 undecided 0\n" ∷ []
unfolding digits
cuts_in_a_report = refl

cuts_leave_nothing_open :
    leaves_open strict (record nothing { top = Some (codes "chip"); cuts = rams ∷ pads ∷ [] }) (one (Claiming (Multi 2) Any 4) []) ≡ false
cuts_leave_nothing_open = refl

pairs_leave_nothing_open : leaves_open strict nothing (one (Claiming (Multi 2) Any 4) []) ≡ false
pairs_leave_nothing_open = refl

-- what is passed over is told as not judged too, and a hold side that is not judged changes no status
notes_leave_nothing_open : leaves_open strict (record nothing { skipped = Some (sense ∷ []); hold_commands = 2 }) (one Hold []) ≡ false
notes_leave_nothing_open = refl

unjudged_leaves_open : leaves_open strict (record nothing { unjudged = groups ∷ [] }) (one (Claiming False Any 4) []) ≡ true
unjudged_leaves_open = refl

aside_leaves_open : leaves_open strict nothing (one (Aside (codes "17")) []) ≡ true
aside_leaves_open = refl

no_pair_leaves_open : leaves_open strict nothing (one (Claiming False Any 0) []) ≡ true
no_pair_leaves_open = refl

no_hold_side_leaves_open : leaves_open strict nothing (one (HoldSide Rise 0) []) ≡ true
no_hold_side_leaves_open = refl

warning_leaves_open : leaves_open strict nothing (one (Claiming False Any 4) (Nothing (codes "zz") ∷ [])) ≡ true
warning_leaves_open = refl

without_the_word_nothing_is_open :
    leaves_open plain (record nothing { unjudged = groups ∷ [] }) (one (Claiming False Any 0) (Nothing (codes "zz") ∷ [])) ≡ false
without_the_word_nothing_is_open = refl
