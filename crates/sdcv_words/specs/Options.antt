-- The options of a run over texts.
use Rattle.std.specs.Prelude.{ℕ, Bool, true, false, List, [], codes, Option, None, Some}
use Rattle.texts.specs.Lookups.{in_table}
use Rattle.texts.specs.Reads.{◌>>=◌}
use Rattle.sdcv_base.specs.declared.settings.Setting.{Setting}
use Rattle.clap_words.specs.Readings.{Given}
use Rattle.sdcv_words.specs.declared.commands.Options.{Options}
use Rattle.run_options.specs.declared.proving.Proving.{Proving}
use Rattle.run_options.specs.declared.judging.Judging.{Judging}
use Rattle.run_options.specs.declared.netlists.NetlistForm.{NetlistForm}
use Rattle.run_options.specs.declared.forms.ScriptForm.{ScriptForm}
use Rattle.run_options.specs.declared.forms.ScriptForm.TheVariants.{Narrow, Wide}
use Rattle.sdcv_words.specs.Cuttings.{netlist_by}
use Rattle.sdcv_words.specs.Givens.{stands}
use Rattle.sdcv_words.specs.Numbers.{number_or}
use Rattle.sdcv_words.specs.Settings.{settings_of}
use Rattle.sdcv_words.specs.Skips.{skips_of}

abbrev pub resets_of : Option (List ℕ) → Option (List Setting)
resets_of None = Some []
resets_of (Some text) = settings_of text

-- how many cycles reset is held for where no word says so: one, if a list of resets is given
abbrev pub default_cycles : Option (List ℕ) → ℕ
default_cycles None = 0
default_cycles (Some text) = 1

-- at how many captures more than the first a false path is judged; at none where no word says so
abbrev pub lag_of : List Given → Option ℕ
lag_of given = number_or 0 0 8 (in_table given (codes "lag"))

-- how claims are judged, by the flags that stand
abbrev pub judging_of : List Given → ℕ → Judging
judging_of given lag = record {
  hazard = stands given (codes "hazard");
  lag = lag;
  hold = stands given (codes "hold");
  strict = stands given (codes "strict");
}

-- how the netlist is read, by the list of patterns of what may be cut out, the name of the clock, and that of the top module
abbrev pub netlist_of : List Given → Option NetlistForm
netlist_of given = netlist_by (in_table given (codes "free")) (in_table given (codes "clock")) (in_table given (codes "top"))

-- how the constraints are read, by the list of names that are passed over, and whether they are judged as for a sign-off
abbrev pub form_by : Option (List ℕ) → Bool → Option ScriptForm
form_by None false = Some Narrow
form_by None true = Some (Wide [])
form_by (Some list) strict = skips_of list >>= λ names. Some (Wide names)

abbrev pub form_of : List Given → Option ScriptForm
form_of given = form_by (in_table given (codes "skip")) (stands given (codes "strict"))

abbrev pub options_of : List Given → Option Options
options_of given =
    let list = in_table given (codes "reset") in
    number_or (default_cycles list) 0 64 (in_table given (codes "reset-cycles")) >>= λ cycles.
    lag_of given >>= λ lag.
    resets_of list >>= λ resets.
    netlist_of given >>= λ netlist.
    form_of given >>= λ form.
    Some (record { judging = judging_of given lag; forms = record { netlist = netlist; script = form }; reset = record { ports = resets; len = cycles } })

abbrev pub proving_of : List Given → Option Proving
proving_of given =
    number_or 8 0 64 (in_table given (codes "depth")) >>= λ depth.
    number_or 20000 1 10000000 (in_table given (codes "budget")) >>= λ budget.
    number_or 1 0 8 (in_table given (codes "inv-depth")) >>= λ inv_depth.
    Some (record { depth = depth; budget = budget; inv_depth = inv_depth })
