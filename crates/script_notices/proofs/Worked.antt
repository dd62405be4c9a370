-- What is told of scripts, worked out by hand.
use Rattle.std.proofs.Common.{◌≡◌, ℕ, Bool, true, false, List, [], ◌∷◌, refl}
use Rattle.std.specs.Prelude.{codes, Option, Some, None}
use Rattle.sdcv_base.specs.declared.kinds.Kind.TheVariants.{False, Multi}
use Rattle.sdcv_base.specs.declared.kinds.Edge.TheVariants.{Any}
use Rattle.run_options.specs.declared.forms.ScriptForm.TheVariants.{Narrow, Wide}
use Rattle.run_options.specs.declared.judging.Judging.{Judging}
use Rattle.net_model.specs.declared.claims.Start.TheVariants.{Reg as RegStart}
use Rattle.net_model.specs.declared.claims.End.TheVariants.{Reg as RegEnd}
use Rattle.net_model.specs.declared.claims.Claim.{Claim}
use Rattle.script_types.specs.declared.objects.Class.TheVariants.{Cells}
use Rattle.script_types.specs.declared.objects.Object.{Object}
use Rattle.script_types.specs.declared.objects.Object.TheVariants.{Named, AllRegisters}
use Rattle.script_types.specs.declared.scripts.Checks.{Checks}
use Rattle.script_types.specs.declared.scripts.Checks.TheVariants.{Unsaid, Setup, Both}
use Rattle.script_types.specs.declared.scripts.What.{What}
use Rattle.script_types.specs.declared.scripts.What.TheVariants.{Claiming, Hold, Unjudged as UnjudgedCommand, Scope, Passed}
use Rattle.script_types.specs.declared.scripts.Script.{Script}
use Rattle.selected_types.specs.declared.notices.Unjudged.{Unjudged}
use Rattle.selected_types.specs.declared.selections.PairLine.{PairLine}
use Rattle.selected_types.specs.declared.selections.Selected.{Selected}
use Rattle.script_notices.specs.Companions.{are_same, companions_from, hold_value}
use Rattle.script_notices.specs.Notices.{skipped_of, unjudged_of, hold_count, notices_of}

-- the hold numbers of commands as they are written
number_is_its_value : hold_value (codes "12") ≡ 12
number_is_its_value = refl

negative_number_is_zero : hold_value (codes "-1") ≡ 0
negative_number_is_zero = refl

great_number_is_256 : hold_value (codes "1000") ≡ 256
great_number_is_256 = refl

-- scripts of a register to another, each command on a line of its own from 2 on
abbrev cell : List ℕ → Object
cell name = Named (record { class = Cells; hier = false; pattern = name })

abbrev multi : ℕ → Checks → List Object → What
multi k checks to =
    Claiming (record { kind = Multi k; checks = checks; edge = Any; from = Some (cell (codes "a") ∷ []); through = []; to = Some to })

abbrev held : Option (List ℕ) → What
held number =
    Hold (record { number = number; edge = Any; from = Some (cell (codes "a") ∷ []); through = []; to = Some (cell (codes "b") ∷ []) })

abbrev false_path : Checks → What
false_path checks = Claiming (record { kind = False; checks = checks; edge = Any; from = None; through = []; to = None })

abbrev to_b : List Object
to_b = cell (codes "b") ∷ []

abbrev one : What → Script
one what = record { commands = record { line = 2; what = what } ∷ [] }

abbrev two : What → What → Script
two a b = record { commands = record { line = 2; what = a } ∷ record { line = 3; what = b } ∷ [] }

abbrev three : What → What → What → Script
three a b c =
    record { commands = record { line = 2; what = a } ∷ record { line = 3; what = b } ∷ record { line = 4; what = c } ∷ [] }

-- what they select: pairs of a, which is register 0, each by the number of its command, the multiplier and the end
abbrev pair : ℕ → PairLine
pair command = record { command = command; start = codes "a"; end = codes "b" }

abbrev claim : ℕ → ℕ → Claim
claim k end = record {
  kind = Multi k;
  edge = Any;
  lag = 0;
  hazard = false;
  early = false;
  start = RegStart 0;
  end = RegEnd end;
  through = [];
}

abbrev selects : List PairLine → List Claim → Selected
selects pairs claims = record { commands = []; pairs = pairs; claims = claims }

abbrev nothing : Selected
nothing = selects [] []

abbrev judging : Bool → Bool → Judging
judging hold strict = record { hazard = false; lag = 0; hold = hold; strict = strict }

abbrev told : Script → Selected → List Unjudged
told script s = unjudged_of (codes "top") (judging false true) script s

abbrev line : ℕ → List ℕ → Unjudged
line number name = record { line = number; name = name }

-- a hold command of the lists of a multicycle path that is above it
companion_is_safe : told (two (multi 2 Unsaid to_b) (held (Some (codes "1")))) (selects (pair 1 ∷ []) (claim 2 1 ∷ [])) ≡ []
unfolding are_same companions_from
companion_is_safe = refl

-- alone, or with a number that is not below the multiplier
hold_has_no_companion : told (one (held (Some (codes "1")))) nothing ≡ line 2 (codes "set_multicycle_path") ∷ []
unfolding are_same companions_from
hold_has_no_companion = refl

number_is_the_multiplier : told (two (multi 2 Unsaid to_b) (held (Some (codes "2")))) (selects (pair 1 ∷ []) (claim 2 1 ∷ [])) ≡
    line 3 (codes "set_multicycle_path") ∷ []
unfolding are_same companions_from
number_is_the_multiplier = refl

-- with a number that moves no check back
zero_is_judged : told (one (held (Some (codes "0")))) nothing ≡ []
zero_is_judged = refl

negative_is_judged : told (one (held (Some (codes "-1")))) nothing ≡ []
negative_is_judged = refl

-- a third command selects a pair of the companion with a multiplier that is not above the number
companion_is_not_safe : told (three (multi 2 Unsaid to_b) (held (Some (codes "1"))) (multi 1 Unsaid (AllRegisters ∷ [])))
    (selects (pair 1 ∷ pair 3 ∷ pair 3 ∷ []) (claim 2 1 ∷ claim 1 0 ∷ claim 1 1 ∷ [])) ≡ line 3 (codes "set_multicycle_path") ∷ []
unfolding are_same companions_from
companion_is_not_safe = refl

-- of another pair, or above the number, it does no harm
other_pair_is_safe : told (three (multi 2 Unsaid to_b) (held (Some (codes "1"))) (multi 1 Unsaid (AllRegisters ∷ [])))
    (selects (pair 1 ∷ pair 3 ∷ []) (claim 2 1 ∷ claim 1 0 ∷ [])) ≡ []
unfolding are_same companions_from
other_pair_is_safe = refl

other_multiplier_is_safe : told (three (multi 2 Unsaid to_b) (held (Some (codes "1"))) (multi 3 Unsaid (AllRegisters ∷ [])))
    (selects (pair 1 ∷ pair 3 ∷ []) (claim 2 1 ∷ claim 3 1 ∷ [])) ≡ []
unfolding are_same companions_from
other_multiplier_is_safe = refl

-- `-setup -hold` is no companion of its own, and another one above it is not safe, since it selects the pair itself
both_checks_are_unjudged : told (one (multi 2 Both to_b)) (selects (pair 1 ∷ []) (claim 2 1 ∷ [])) ≡ line 2 (codes "set_multicycle_path") ∷ []
unfolding are_same companions_from
both_checks_are_unjudged = refl

both_checks_cross_each_companion : told (two (multi 2 Both to_b) (multi 3 Setup to_b)) (selects (pair 1 ∷ pair 2 ∷ []) (claim 2 1 ∷ claim 3 1 ∷ [])) ≡
    line 2 (codes "set_multicycle_path") ∷ []
unfolding are_same companions_from
both_checks_cross_each_companion = refl

-- a hold command of a false path, which is judged where hold sides are
false_hold_is_unjudged : told (one (held None)) nothing ≡ line 2 (codes "set_false_path") ∷ []
false_hold_is_unjudged = refl

false_hold_is_judged : unjudged_of (codes "top") (judging true true) (one (held None)) nothing ≡ []
false_hold_is_judged = refl

-- another design, and the top module
other_design_is_unjudged : told (two (Scope (codes "sub")) (Scope (codes "top"))) nothing ≡ line 2 (codes "current_design") ∷ []
other_design_is_unjudged = refl

-- commands of groups of clocks and the like; without a sign-off none is told
abbrev groups : List ℕ
groups = codes "set_clock_groups"

command_is_told : told (three (UnjudgedCommand groups) Passed (UnjudgedCommand groups)) nothing ≡ line 2 groups ∷ line 4 groups ∷ []
command_is_told = refl

nothing_is_told : unjudged_of (codes "top") (judging false false) (two (UnjudgedCommand groups) (held None)) nothing ≡ []
nothing_is_told = refl

-- names are told in the order in which they are given, with the numbers of their commands, and without those of no command
abbrev skipping : Script
skipping = three (UnjudgedCommand (codes "b")) (UnjudgedCommand (codes "a")) (UnjudgedCommand (codes "b"))

skipped_in_order : skipped_of (Wide (codes "a" ∷ codes "c" ∷ codes "b" ∷ [])) skipping ≡
    Some (record { name = codes "a"; count = 1 } ∷ record { name = codes "b"; count = 2 } ∷ [])
skipped_in_order = refl

none_is_skipped : skipped_of (Wide (codes "c" ∷ [])) skipping ≡ Some []
none_is_skipped = refl

no_name_is_given : skipped_of (Wide []) skipping ≡ None
no_name_is_given = refl

-- false paths with `-setup` alone take no hold check off
holds_are_counted : hold_count (judging false true) (three (false_path Unsaid) (false_path Setup) (false_path Both)) ≡ 2
holds_are_counted = refl

multicycle_is_not_counted : hold_count (judging false true) (one (multi 2 Both to_b)) ≡ 0
multicycle_is_not_counted = refl

hold_sides_are_not_counted : hold_count (judging true true) (one (false_path Unsaid)) ≡ 0
hold_sides_are_not_counted = refl

-- a narrow script that is judged for no sign-off
nothing_of_a_narrow_script : (script : Script) (s : Selected) → notices_of Narrow (judging true false) (codes "top") script s ≡
    record { top = None; clock = None; cuts = []; skipped = None; unjudged = []; hold_commands = 0 }
nothing_of_a_narrow_script script s = refl
