-- What the stages of finding settings hand on.
use Rattle.std.specs.Prelude.{true, ◌≡◌, ◌≢◌, ℕ, ◌-◌, ◌<◌, Bool, List, [], ◌∷◌, ◌++◌, length, map, take, drop, filter, Contains, Option, Some, None, slice_get}
use Rattle.std.specs.Prelude.{slice_index_or}
use Rattle.texts.specs.Names.{are_distinct, with_name, each_once}
use Rattle.linked_types.specs.declared.names.PortName.{PortName}
use Rattle.sdcv_base.specs.declared.settings.Setting.{Setting}
use Rattle.script_types.specs.declared.scripts.Command.{Command}
use Rattle.sdc_settings.specs.declared.cases.Given.{Given}
use Rattle.sdc_settings.specs.declared.fixed.Fixed.{Fixed}
use Rattle.sdc_settings.specs.Inputs.{name_at}
use Rattle.sdc_settings.specs.Settings.{is_asked, setting_names, setting_of}

-- how many commands are passed up to and with the next one, after some, that is a clock that may be judged
abbrev pub IsNextAsked : List PortName → Option (List ℕ) → List Command → ℕ → Option ℕ → Type 0
IsNextAsked inputs asked commands from None = filter (is_asked inputs asked) (drop from commands) ≡ []
IsNextAsked inputs asked commands from (Some k) =
    (c : Command) × (0 < k) × (slice_get commands (k - 1) ≡ Some c)
    × (filter (is_asked inputs asked) (drop from commands) ≡ c ∷ filter (is_asked inputs asked) (drop k commands))

-- a setting is first given at this place, which is before another one
pub record IsFirstGiven (inputs : List PortName) (givens : List Given) (before place : ℕ) (s : Setting) : Type 0 where
  pub earlier : place < before
  pub given : Given
  pub here : slice_get givens place ≡ Some given
  pub says : setting_of inputs given ≡ s
  pub first : (g : Given) → Contains (take place givens) g → name_at inputs g.input ≢ s.name

-- the settings that the first of the given values make, with the places where each is first given
pub record AreFixedSoFar (inputs : List PortName) (resets : List Setting) (givens : List Given) (k : ℕ) (f : Fixed) : Type 0 where
  pub names : f.names ≡ setting_names f.settings
  pub count : length f.firsts ≡ length f.settings
  pub once : are_distinct (setting_names f.settings) ≡ true
  pub order : setting_names f.settings ≡ each_once (map (λ (g : Given). name_at inputs g.input) (take k givens))
  pub no_reset : (g : Given) → Contains (take k givens) g → ¬ Contains (setting_names resets) (name_at inputs g.input)
  pub all : (g : Given) → Contains (take k givens) g → Contains f.settings (setting_of inputs g)
  pub first : (j : ℕ) (s : Setting) → slice_get f.settings j ≡ Some s → IsFirstGiven inputs givens k (slice_index_or f.firsts j 0) s

-- one more setting, under a name that was not there
pub record IsPushed (name : List ℕ) (value : Bool) (place : ℕ) (old new : Fixed) : Type 0 where
  pub names : new.names ≡ with_name old.names name
  pub settings : new.settings ≡ old.settings ++ record { name = name; value = value } ∷ []
  pub firsts : new.firsts ≡ old.firsts ++ place ∷ []
