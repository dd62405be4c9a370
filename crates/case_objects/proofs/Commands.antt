-- What one command of a script is the cause of.
use Rattle.std.proofs.Common.{◌≡◌, ◌≢◌, ℕ, Bool, List, [], refl}
use Rattle.std.specs.Prelude.{Contains}
use Rattle.linked_types.specs.declared.names.Linked.{Linked}
use Rattle.script_types.specs.declared.objects.Object.{Object}
use Rattle.script_types.specs.declared.scripts.What.{What}
use Rattle.script_types.specs.declared.scripts.What.TheVariants.{Clock, Case, Claiming, Hold, Aside, Passed, Unjudged, Scope, Generated, Delay}
use Rattle.script_types.specs.declared.scripts.Command.{Command}
use Rattle.selected_types.specs.declared.faults.ExpandFault.{ExpandFault}
use Rattle.selected_types.specs.declared.faults.ExpandFault.TheVariants.{TwoClocks, ClockNotPort, CaseTwice, CaseOnReset, CaseOnPin, Limit, Memory}
use Rattle.selected_types.specs.declared.faults.ExpandFault.TheVariants.{NoClock, Generated as GeneratedClock}
use Rattle.sdc_settings.specs.Settings.{case_objects}
use Rattle.case_objects.specs.Values.{values_by}
use Rattle.case_objects.specs.Causes.{IsObjectCause, IsPlaceCause}

-- what is wrong with the objects of one command is wrong with the script
pub place_cause : (l : Linked) (commands : List Command) (c : Command) (e : ExpandFault) → Contains commands c
    → IsObjectCause l c.line (case_objects c.what) e → IsPlaceCause l commands e
place_cause l commands c (TwoClocks first second) has cause = cause
place_cause l commands c (ClockNotPort line) has cause = cause
place_cause l commands c (CaseTwice first later) has cause = cause
place_cause l commands c (CaseOnReset line name) has cause = cause
place_cause l commands c (CaseOnPin line name) has cause = (c, has, cause)
place_cause l commands c (Limit what number) has cause = cause
place_cause l commands c Memory has cause = cause
place_cause l commands c (NoClock name) has cause = cause
place_cause l commands c (GeneratedClock line) has cause = cause

-- a command that is no case analysis sets no value
pub other_sets_none : (l : Linked) (line : ℕ) (what : What) → ((value : Bool) (objects : List Object) → what ≢ Case value objects) → values_by l line what ≡ []
other_sets_none l line (Case value objects) other = absurd (other value objects refl)
other_sets_none l line (Clock name source) other = refl
other_sets_none l line (Claiming e) other = refl
other_sets_none l line (Hold h) other = refl
other_sets_none l line (Aside option) other = refl
other_sets_none l line Passed other = refl
other_sets_none l line (Unjudged name) other = refl
other_sets_none l line (Scope name) other = refl
other_sets_none l line (Generated name objects) other = refl
other_sets_none l line (Delay output clocks objects) other = refl

-- and has no objects of one
pub other_has_none : (what : What) → ((value : Bool) (objects : List Object) → what ≢ Case value objects) → case_objects what ≡ []
other_has_none (Case value objects) other = absurd (other value objects refl)
other_has_none (Clock name source) other = refl
other_has_none (Claiming e) other = refl
other_has_none (Hold h) other = refl
other_has_none (Aside option) other = refl
other_has_none Passed other = refl
other_has_none (Unjudged name) other = refl
other_has_none (Scope name) other = refl
other_has_none (Generated name objects) other = refl
other_has_none (Delay output clocks objects) other = refl
