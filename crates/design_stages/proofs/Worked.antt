-- What a clock's name asks for, worked out by hand.
use Rattle.std.proofs.Common.{◌≡◌, [], true, false, refl}
use Rattle.std.specs.Prelude.{codes, None, Some}
use Rattle.linked_types.specs.declared.names.Names.{Names}
use Rattle.run_options.specs.declared.netlists.NetlistForm.{NetlistForm}
use Rattle.run_options.specs.declared.netlists.NetlistForm.TheVariants.{Narrow, Wide}
use Rattle.run_options.specs.declared.resets.Reset.{Reset}
use Rattle.sdc_settings.specs.declared.values.Settings.{Settings}
use Rattle.selected_types.specs.declared.notices.Notices.{Notices}
use Rattle.design_stages.specs.Designs.{asked_clock, options_of, with_netlist}

abbrev by_clock : NetlistForm
by_clock = Wide (record { top = None; free = []; clock = Some (codes "ck") })

abbrev by_top : NetlistForm
by_top = Wide (record { top = Some (codes "ck"); free = []; clock = None })

-- where a clock is named, what is not on it is cut out
other_clocks_are_cut : (s : Settings) (reset : Reset) → (options_of by_clock s reset).cut_clocks ≡ true
other_clocks_are_cut s reset = refl

-- and there alone
no_clock_is_cut_by_a_top : (s : Settings) (reset : Reset) → (options_of by_top s reset).cut_clocks ≡ false
no_clock_is_cut_by_a_top s reset = refl

no_clock_is_cut_without_a_word : (s : Settings) (reset : Reset) → (options_of Narrow s reset).cut_clocks ≡ false
no_clock_is_cut_without_a_word s reset = refl

-- the clock is judged that is named, and no top module's name is that of a clock
named_clock_is_judged : asked_clock by_clock ≡ Some (codes "ck")
named_clock_is_judged = refl

top_is_no_clock : asked_clock by_top ≡ None
top_is_no_clock = refl

-- and it is told
named_clock_is_told : (names : Names) (n : Notices) → (with_netlist by_clock names n).clock ≡ Some (codes "ck")
named_clock_is_told names n = refl
