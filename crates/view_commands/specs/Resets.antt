-- The reset that words give.
use Rattle.std.specs.Prelude.{◌≡◌, ℕ, List, Option, None, Some}
use Rattle.std.specs.Option.{option_map}
use Rattle.std.specs.Str.Parse.{digits_value}
use Rattle.sdcv_base.specs.Decimals.{IsDecimal}
use Rattle.run_options.specs.declared.resets.Reset.{Reset}
use Rattle.sdcv_words.specs.Options.{resets_of, default_cycles}
use Rattle.view_commands.specs.declared.words.ResetWords.{ResetWords}

-- the list of values for ports
abbrev pub ports_in : ResetWords → Option (List ℕ)
ports_in words = option_map (λ t. t.now) words.ports

-- so many cycles are asked for: by their digits, or one where ports are listed and else none
abbrev pub AreCyclesOf : ℕ → Option (List ℕ) → ℕ → Type 0
AreCyclesOf default None cycles = cycles ≡ default
AreCyclesOf default (Some digits) cycles = IsDecimal digits 64 × (cycles ≡ digits_value 10 digits)

abbrev pub AreCycles : ResetWords → ℕ → Type 0
AreCycles words cycles = AreCyclesOf (default_cycles (ports_in words)) (option_map (λ t. t.now) words.cycles) cycles

-- the values of the list, for so many cycles
pub record IsReset (words : ResetWords) (reset : Reset) : Type 0 where
  pub ports : resets_of (ports_in words) ≡ Some reset.ports
  pub cycles : AreCycles words reset.len
