-- The settings of a script, which are one and exclude each refusal but that of memory.
use Rattle.std.proofs.Common.{◌≡◌, ◌∙◌, ℕ, true, List, [], ◌∷◌, refl, sym, ap, subst}
use Rattle.std.specs.Prelude.{All, Contains, Option, Some, None, option_map, slice_get}
use Rattle.std.proofs.lemmas.List.Elements.{All-contains}
use Rattle.std.proofs.lemmas.Option.{same_Some, slice_get-map}
use Rattle.sdcv_base.specs.declared.settings.Setting.{Setting}
use Rattle.texts.specs.Names.{are_distinct}
use Rattle.glob.proofs.Placing.{place_once}
use Rattle.linked_types.specs.declared.names.PortName.{PortName}
use Rattle.script_types.specs.declared.scripts.Command.{Command}
use Rattle.script_types.specs.declared.scripts.Script.{Script}
use Rattle.sdc_settings.specs.declared.values.Settings.{Settings}
use Rattle.sdc_settings.specs.declared.cases.Given.{Given}
use Rattle.selected_types.specs.declared.faults.ExpandFault.{ExpandFault}
use Rattle.selected_types.specs.declared.faults.ExpandFault.TheVariants as fault
use Rattle.sdc_settings.specs.Sources.{source_bit}
use Rattle.sdc_settings.specs.Settings.{asked_clocks, source_of, HasClock, IsCaseObject, case_objects, all_given, setting_names, setting_of}
use Rattle.sdc_settings.specs.Settings.{AreFixed, AreSettings}
use Rattle.sdc_settings.specs.Causes.{IsGivenTwice, IsSettingsCause, IsFixedCause, IsCaseCause}
use Rattle.sdc_settings.proofs.Keying.{IsKeyed, contains_at, place_of_item, same_items}

-- a script has one clock
clock_same : (script : Script) (inputs : List PortName) (asked x y : Option (List ℕ)) → HasClock script inputs asked x → HasClock script inputs asked y → y ≡ x
clock_same script inputs asked None None a b = refl
clock_same script inputs asked None (Some y) (unasked, none) (c, one, is) = let wrong : [] ≡ c ∷ [] = sym none ∙ one in absurd cc
clock_same script inputs asked (Some x) None (c, one, is) (unasked, none) = let wrong : [] ≡ c ∷ [] = sym none ∙ one in absurd cc
clock_same script inputs asked (Some x) (Some y) (c, one, is) (d, other, also) =
    let both : c ∷ [] ≡ d ∷ [] = sym one ∙ other in
    let same : c ≡ d = cc in
    sym also ∙ ap (λ (e : Command). source_bit inputs (source_of e.what)) (sym same) ∙ is

-- of settings whose names differ each name stands at one place
named_once : (settings : List Setting) → are_distinct (setting_names settings) ≡ true → IsKeyed (λ (s : Setting). s.name) settings
named_once settings once i j x y at_x at_y same =
    let names = setting_names settings in
    let first : slice_get names i ≡ Some x.name = slice_get-map (λ (s : Setting). s.name) settings i ∙ ap (option_map (λ (s : Setting). s.name)) at_x in
    let second : slice_get names j ≡ Some y.name = slice_get-map (λ (s : Setting). s.name) settings j ∙ ap (option_map (λ (s : Setting). s.name)) at_y in
    sym (place_once names i x.name once first) ∙ place_once names j x.name once (second ∙ ap (λ (n : List ℕ). Some n) (sym same))

-- what is given fixes one list of inputs
fixed_same : (inputs : List PortName) (resets : List Setting) (givens : List Given) (xs ys : List Setting) → AreFixed inputs resets givens xs
    → AreFixed inputs resets givens ys → ys ≡ xs
fixed_same inputs resets givens xs ys first second =
    same_items (λ (s : Setting). s.name) ys xs (second.order ∙ sym first.order) (named_once xs first.once)
    (λ f has. let (g, there, is) = second.only f has in subst (Contains xs) is (first.all g there))

-- a script has one list of settings
pub settings_same : (script : Script) (inputs : List PortName) (resets : List Setting) (asked : Option (List ℕ)) (x y : Settings)
    → AreSettings script inputs resets asked x → AreSettings script inputs resets asked y → y ≡ x
settings_same script inputs resets asked x y first second =
    let clock : y.clock ≡ x.clock = clock_same script inputs asked x.clock y.clock first.clock second.clock in
    let moved : AreFixed inputs resets (all_given script inputs x.clock) y.fixed =
    subst (λ (o : Option (List ℕ)). AreFixed inputs resets (all_given script inputs o) y.fixed) clock second.fixed in
    let fixed : y.fixed ≡ x.fixed = fixed_same inputs resets (all_given script inputs x.clock) x.fixed y.fixed first.fixed moved in
    λ i. record { clock = clock i; fixed = fixed i }

-- no script with a clock has two that may be judged
not_two : (script : Script) (inputs : List PortName) (asked clock : Option (List ℕ)) (a b : Command) (rest : List Command)
    → HasClock script inputs asked clock → asked_clocks script inputs asked ≡ a ∷ b ∷ rest → ⊥
not_two script inputs asked None a b rest (unasked, none) two = let wrong : [] ≡ a ∷ b ∷ rest = sym none ∙ two in cc
not_two script inputs asked (Some bit) a b rest (c, one, is) two = let wrong : c ∷ [] ≡ a ∷ b ∷ rest = sym one ∙ two in cc

-- nor one whose source is no bit
not_missed : (script : Script) (inputs : List PortName) (asked clock : Option (List ℕ)) (c : Command) → HasClock script inputs asked clock
    → asked_clocks script inputs asked ≡ c ∷ [] → source_bit inputs (source_of c.what) ≡ None → ⊥
not_missed script inputs asked None c (unasked, none) one missed = let wrong : [] ≡ c ∷ [] = sym none ∙ one in cc
not_missed script inputs asked (Some bit) c (d, other, is) one missed =
    let both : d ∷ [] ≡ c ∷ [] = sym other ∙ one in
    let same : d ≡ c = cc in
    let wrong : Some bit ≡ None = sym is ∙ ap (λ (e : Command). source_bit inputs (source_of e.what)) same ∙ missed in cc

-- nor none, where one is asked for
not_unfound : (script : Script) (inputs : List PortName) (asked clock : Option (List ℕ)) (name : List ℕ) → HasClock script inputs asked clock
    → asked ≡ Some name → asked_clocks script inputs asked ≡ [] → ⊥
not_unfound script inputs asked None name (unasked, none) is empty = let wrong : None ≡ Some name = sym unasked ∙ is in cc
not_unfound script inputs asked (Some bit) name (c, one, at) is empty = let wrong : [] ≡ c ∷ [] = sym empty ∙ one in cc

-- no input that is fixed is given both values
not_both : (inputs : List PortName) (resets : List Setting) (givens : List Given) (fixed : List Setting) (first later : ℕ)
    → AreFixed inputs resets givens fixed → IsGivenTwice inputs givens first later → ⊥
not_both inputs resets givens fixed first later are twice =
    let (i, at_once) = place_of_item fixed (setting_of inputs twice.once)
    (are.all twice.once (contains_at givens twice.place twice.once twice.at_first)) in
    let (j, at_again) = place_of_item fixed (setting_of inputs twice.again)
    (are.all twice.again (contains_at givens twice.after twice.again twice.at_later)) in
    let one : j ≡ i = named_once fixed are.once j i (setting_of inputs twice.again) (setting_of inputs twice.once) at_again at_once twice.same_input in
    let same : setting_of inputs twice.again ≡ setting_of inputs twice.once =
    same_Some _ _ (sym at_again ∙ ap (slice_get fixed) one ∙ at_once) in
    twice.differ (ap (λ (s : Setting). s.value) same)

-- nor is one a reset
not_on_reset : (inputs : List PortName) (resets : List Setting) (givens : List Given) (fixed : List Setting) (line : ℕ) (name : List ℕ)
    → AreFixed inputs resets givens fixed → IsFixedCause inputs resets givens (fault.CaseOnReset line name) → ⊥
not_on_reset inputs resets givens fixed line name are ((g, there, at, is), reset) =
    are.no_reset g there (subst (Contains (setting_names resets)) (sym is) reset)

-- and each object of a case analysis names data inputs
not_on_pin : (script : Script) (inputs : List PortName) (clock : Option (List ℕ)) (line : ℕ) (name : List ℕ)
    → All (λ (c : Command). All (IsCaseObject inputs clock) (case_objects c.what)) script.commands
    → IsCaseCause inputs clock script.commands (fault.CaseOnPin line name) → ⊥
not_on_pin script inputs clock line name are (c, there, (at, (o, has, text, wrong))) =
    let all : All (IsCaseObject inputs clock) (case_objects c.what) =
    All-contains (λ (d : Command). All (IsCaseObject inputs clock) (case_objects d.what)) script.commands c are there in
    wrong (All-contains (IsCaseObject inputs clock) (case_objects c.what) o all has)

-- a script that has settings is refused for want of memory alone
pub settings_only : (script : Script) (inputs : List PortName) (resets : List Setting) (asked : Option (List ℕ)) (s : Settings) (e : ExpandFault)
    → AreSettings script inputs resets asked s → IsSettingsCause script inputs resets asked e → e ≡ fault.Memory
settings_only script inputs resets asked s (fault.TwoClocks first second) are (a, b, rest, two, at, later) =
    absurd (not_two script inputs asked s.clock a b rest are.clock two)
settings_only script inputs resets asked s (fault.ClockNotPort line) are (c, one, at, missed) =
    absurd (not_missed script inputs asked s.clock c are.clock one missed)
settings_only script inputs resets asked s (fault.CaseTwice first later) are (clock, has, twice) =
    let same : clock ≡ s.clock = clock_same script inputs asked s.clock clock are.clock has in
    absurd (not_both inputs resets (all_given script inputs s.clock) s.fixed first later are.fixed
    (subst (λ (o : Option (List ℕ)). IsGivenTwice inputs (all_given script inputs o) first later) same twice))
settings_only script inputs resets asked s (fault.CaseOnReset line name) are (clock, has, cause) =
    let same : clock ≡ s.clock = clock_same script inputs asked s.clock clock are.clock has in
    absurd (not_on_reset inputs resets (all_given script inputs s.clock) s.fixed line name are.fixed
    (subst (λ (o : Option (List ℕ)). IsFixedCause inputs resets (all_given script inputs o) (fault.CaseOnReset line name)) same cause))
settings_only script inputs resets asked s (fault.CaseOnPin line name) are (clock, has, cause) =
    let same : clock ≡ s.clock = clock_same script inputs asked s.clock clock are.clock has in
    absurd (not_on_pin script inputs s.clock line name are.objects
    (subst (λ (o : Option (List ℕ)). IsCaseCause inputs o script.commands (fault.CaseOnPin line name)) same cause))
settings_only script inputs resets asked s (fault.Limit what number) are cause = absurd cause
settings_only script inputs resets asked s fault.Memory are cause = refl
settings_only script inputs resets asked s (fault.NoClock name) are (is, none) =
    absurd (not_unfound script inputs asked s.clock name are.clock is none)
settings_only script inputs resets asked s (fault.Generated line) are (c, rest, some, at) =
    let wrong : [] ≡ c ∷ rest = sym are.generated ∙ some in absurd cc
