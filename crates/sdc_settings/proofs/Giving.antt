-- What the case analyses of a script give.
use Rattle.std.proofs.Common.{arith, refl, Bool, ◌≡◌, ◌≢◌, ◌<◌, ℕ, List, [], ◌∷◌, length}
use Rattle.std.specs.Prelude.{All, Contains, Option}
use Rattle.std.specs.List.{flat_map}
use Rattle.std.proofs.lemmas.List.Elements.{All-append, All-map}
use Rattle.linked_types.specs.declared.names.PortName.{PortName}
use Rattle.script_types.specs.declared.objects.Object.{Object}
use Rattle.script_types.specs.declared.scripts.What.{What}
use Rattle.script_types.specs.declared.scripts.What.TheVariants.{Clock, Case, Claiming, Hold, Aside, Passed, Unjudged, Scope, Generated, Delay}
use Rattle.script_types.specs.declared.scripts.Command.{Command}
use Rattle.sdc_settings.specs.declared.cases.Given.{Given}
use Rattle.selected_types.specs.declared.faults.ExpandFault.{ExpandFault}
use Rattle.selected_types.specs.declared.faults.ExpandFault.TheVariants.{TwoClocks, ClockNotPort, CaseTwice, CaseOnReset, CaseOnPin, Limit, Memory}
use Rattle.selected_types.specs.declared.faults.ExpandFault.TheVariants.{NoClock, Generated as GeneratedClock}
use Rattle.sdc_settings.specs.Settings.{given, given_by, case_objects, case_places}
use Rattle.sdc_settings.specs.Causes.{IsObjectCause, IsCaseCause}
use Rattle.sdc_settings.proofs.Naming.{All-flat_map, case_places_within}

-- it is given to inputs
what_within : (inputs : List PortName) (clock : Option (List ℕ)) (line : ℕ) (what : What) → All (λ (g : Given). g.input < length inputs)
    (given_by inputs clock line what)
what_within inputs clock line (Case value objects) =
    All-map (λ (g : Given). g.input < length inputs) (given line value) (flat_map (case_places inputs clock) objects)
    (All-flat_map (λ (place : ℕ). place < length inputs) (case_places inputs clock) objects (case_places_within inputs clock))
what_within inputs clock line (Clock name source) = λ i d low. absurd (omega (arith, low))
what_within inputs clock line (Claiming e) = λ i d low. absurd (omega (arith, low))
what_within inputs clock line (Hold h) = λ i d low. absurd (omega (arith, low))
what_within inputs clock line (Aside option) = λ i d low. absurd (omega (arith, low))
what_within inputs clock line Passed = λ i d low. absurd (omega (arith, low))
what_within inputs clock line (Unjudged name) = λ i d low. absurd (omega (arith, low))
what_within inputs clock line (Scope name) = λ i d low. absurd (omega (arith, low))
what_within inputs clock line (Generated name objects) = λ i d low. absurd (omega (arith, low))
what_within inputs clock line (Delay output clocks objects) = λ i d low. absurd (omega (arith, low))

pub given_within : (inputs : List PortName) (clock : Option (List ℕ)) (commands : List Command)
    → All (λ (g : Given). g.input < length inputs) (flat_map (λ (c : Command). given_by inputs clock c.line c.what) commands)
given_within inputs clock [] = λ i d low. absurd (omega (arith, low))
given_within inputs clock (c ∷ cs) =
    All-append (λ (g : Given). g.input < length inputs) (given_by inputs clock c.line c.what)
    (flat_map (λ (c : Command). given_by inputs clock c.line c.what) cs)
    (what_within inputs clock c.line c.what) (given_within inputs clock cs)

-- what is wrong with the objects of one command is wrong with the script
pub case_cause : (inputs : List PortName) (clock : Option (List ℕ)) (commands : List Command) (c : Command) (e : ExpandFault) → Contains commands c
    → IsObjectCause inputs clock c.line (case_objects c.what) e → IsCaseCause inputs clock commands e
case_cause inputs clock commands c (TwoClocks first second) has cause = cause
case_cause inputs clock commands c (ClockNotPort line) has cause = cause
case_cause inputs clock commands c (CaseTwice first later) has cause = cause
case_cause inputs clock commands c (CaseOnReset line name) has cause = cause
case_cause inputs clock commands c (CaseOnPin line name) has cause = (c, has, cause)
case_cause inputs clock commands c (Limit what number) has cause = cause
case_cause inputs clock commands c Memory has cause = cause
case_cause inputs clock commands c (NoClock name) has cause = cause
case_cause inputs clock commands c (GeneratedClock line) has cause = cause

-- a command that is no case analysis gives nothing
pub other_gives_none : (inputs : List PortName) (clock : Option (List ℕ)) (line : ℕ) (what : What)
    → ((value : Bool) (objects : List Object) → what ≢ Case value objects) → given_by inputs clock line what ≡ []
other_gives_none inputs clock line (Case value objects) other = absurd (other value objects refl)
other_gives_none inputs clock line (Clock name source) other = refl
other_gives_none inputs clock line (Claiming e) other = refl
other_gives_none inputs clock line (Hold h) other = refl
other_gives_none inputs clock line (Aside option) other = refl
other_gives_none inputs clock line Passed other = refl
other_gives_none inputs clock line (Unjudged name) other = refl
other_gives_none inputs clock line (Scope name) other = refl
other_gives_none inputs clock line (Generated name objects) other = refl
other_gives_none inputs clock line (Delay output clocks objects) other = refl

-- and has no objects of one
pub other_has_none : (what : What) → ((value : Bool) (objects : List Object) → what ≢ Case value objects) → case_objects what ≡ []
other_has_none (Case value objects) other = absurd (other value objects refl)
other_has_none (Clock name source) other = refl
other_has_none (Claiming e) other = refl
other_has_none (Hold h) other = refl
other_has_none (Aside option) other = refl
other_has_none Passed other = refl
other_has_none (Unjudged name) other = refl
other_has_none (Scope name) other = refl
other_has_none (Generated name objects) other = refl
other_has_none (Delay output clocks objects) other = refl
