-- Values worked out by hand: lists of names that are passed over, lists of patterns, and names of clocks and top modules.
use Rattle.std.proofs.Common.{◌≡◌, refl, [], ◌∷◌, None, Some, false, true}
use Rattle.std.specs.Prelude.{codes}
use Rattle.run_options.specs.declared.forms.ScriptForm.TheVariants.{Narrow, Wide}
use Rattle.run_options.specs.declared.netlists.NetlistForm.TheVariants as netlist
use Rattle.sdcv_words.specs.Cuttings.{name_of, netlist_by, patterns_of}
use Rattle.sdcv_words.specs.Options.{form_by}
use Rattle.sdcv_words.specs.Skips.{skips_of}

-- names are kept in the order of the list
two_names : skips_of (codes "puts,set_sense") ≡ Some (codes "puts" ∷ codes "set_sense" ∷ [])
unfolding skips_of
two_names = refl

-- no part is empty
no_name : skips_of (codes "puts,") ≡ None
unfolding skips_of
no_name = refl

-- a command that is read, one that is passed over as it is, and one that may hold others are never skipped
read_name : skips_of (codes "puts,set_false_path") ≡ None
unfolding skips_of
read_name = refl

passed_name : skips_of (codes "current_design") ≡ None
unfolding skips_of
passed_name = refl

tcl_name : skips_of (codes "lappend,puts") ≡ None
unfolding skips_of
tcl_name = refl

-- a script is wide where either word stands
narrow : form_by None false ≡ Some Narrow
narrow = refl

strict_alone : form_by None true ≡ Some (Wide [])
strict_alone = refl

skip_alone : form_by (Some (codes "echo")) false ≡ Some (Wide (codes "echo" ∷ []))
unfolding skips_of
skip_alone = refl

-- patterns are kept in the order of the list, one that stands twice too
patterns_in_order : patterns_of (codes "RAM,SEQ*,RAM") ≡ Some (codes "RAM" ∷ codes "SEQ*" ∷ codes "RAM" ∷ [])
unfolding patterns_of
patterns_in_order = refl

-- no pattern is empty, at either end or between
empty_pattern : patterns_of (codes "RAM,,SEQ") ≡ None
unfolding patterns_of
empty_pattern = refl

empty_end : patterns_of (codes "RAM,") ≡ None
unfolding patterns_of
empty_end = refl

-- a list is no word of an option
option_as_list : patterns_of (codes "--top") ≡ None
unfolding patterns_of
option_as_list = refl

-- a clock or a top module has a name
empty_name : name_of (Some []) ≡ None
empty_name = refl

option_as_name : name_of (Some (codes "--free")) ≡ None
option_as_name = refl

-- a netlist is wide where one of the words stands, and without patterns where a clock or the top module alone is named
netlist_narrow : netlist_by None None None ≡ Some netlist.Narrow
netlist_narrow = refl

top_alone : netlist_by None None (Some (codes "core")) ≡ Some (netlist.Wide (record { top = Some (codes "core"); free = []; clock = None }))
top_alone = refl

clock_alone : netlist_by None (Some (codes "ck")) None ≡ Some (netlist.Wide (record { top = None; free = []; clock = Some (codes "ck") }))
clock_alone = refl

free_alone : netlist_by (Some (codes "RAM")) None None ≡ Some (netlist.Wide (record { top = None; free = codes "RAM" ∷ []; clock = None }))
unfolding patterns_of
free_alone = refl

-- the name of a clock is not that of the top module
clock_and_top : netlist_by None (Some (codes "ck")) (Some (codes "core"))
    ≡ Some (netlist.Wide (record { top = Some (codes "core"); free = []; clock = Some (codes "ck") }))
clock_and_top = refl

-- each may break its rule
wrong_list : netlist_by (Some (codes ",RAM")) None (Some (codes "core")) ≡ None
unfolding patterns_of
wrong_list = refl

wrong_clock : netlist_by None (Some []) (Some (codes "core")) ≡ None
wrong_clock = refl

wrong_name : netlist_by (Some (codes "RAM")) None (Some []) ≡ None
unfolding patterns_of
wrong_name = refl
