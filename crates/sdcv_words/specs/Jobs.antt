-- The command of a reading: each text keeps its rule.
use Rattle.std.specs.Prelude.{false, List, codes, Option, None, Some, if◌then◌else◌}
use Rattle.std.specs.Str.{bytes_eq}
use Rattle.texts.specs.Lookups.{in_table}
use Rattle.texts.specs.Reads.{◌>>=◌}
use Rattle.clap_words.specs.Readings.{Given, Reading}
use Rattle.sdcv_words.specs.declared.commands.Options.{Options}
use Rattle.sdcv_words.specs.Commands.{Aiger, Command, Demo, Detect, Finding, Job, Check, Mend, Mending, Over, Replay, Text, Texts, Verify}
use Rattle.sdcv_words.specs.Givens.{stands}
use Rattle.sdcv_words.specs.Numbers.{number_in, number_or}
use Rattle.sdcv_words.specs.Options.{options_of, proving_of}

abbrev pub texts_of : List Given → Option Texts
texts_of given =
    in_table given (codes "V") >>= λ netlist.
    in_table given (codes "L") >>= λ cells.
    in_table given (codes "S") >>= λ constraints.
    Some (record { netlist = netlist; cells = cells; constraints = constraints })

abbrev pub verify_of : List Given → Option Job
verify_of given =
    in_table given (codes "out") >>= λ out.
    proving_of given >>= λ proving.
    Some (Verify out (stands given (codes "json")) proving (in_table given (codes "assist")))

abbrev pub check_of : List Given → Option Job
check_of given = in_table given (codes "CERT") >>= λ cert. Some (Check cert)

-- pairs are numbered from 1
abbrev pub replay_of : List Given → Option Job
replay_of given =
    in_table given (codes "REPORT") >>= λ report.
    in_table given (codes "PAIR") >>= λ digits.
    number_in 1 18446744073709551615 digits >>= λ pair.
    Some (Replay report pair)

abbrev pub job_of : Text → List Given → Option Job
job_of name given =
    if bytes_eq name (codes "verify") then verify_of given
    else (if bytes_eq name (codes "check") then check_of given
    else (if bytes_eq name (codes "replay") then replay_of given else None))

abbrev pub over_of : Text → List Given → Option Command
over_of name given =
    texts_of given >>= λ texts.
    job_of name given >>= λ job.
    options_of given >>= λ options.
    Some (Over texts options job)

abbrev pub finding_of : List Given → Option Finding
finding_of given =
    in_table given (codes "out") >>= λ out.
    proving_of given >>= λ proving.
    number_or 4 2 16 (in_table given (codes "bound")) >>= λ bound.
    Some (record { out = out; proving = proving; bound = bound; hold = stands given (codes "hold") })

-- pairs are found by their late side; the word asks for hold lines there
abbrev pub late_only : Options → Options
late_only o = record o { judging = record o.judging { hold = false } }

abbrev pub detect_of : List Given → Option Command
detect_of given =
    texts_of given >>= λ texts.
    finding_of given >>= λ finding.
    options_of given >>= λ options.
    Some (Detect texts (late_only options) finding)

abbrev pub mending_of : List Given → Option Mending
mending_of given =
    in_table given (codes "out") >>= λ out.
    proving_of given >>= λ proving.
    Some (record { out = out; proving = proving; assist = in_table given (codes "assist") })

abbrev pub mend_of : List Given → Option Command
mend_of given =
    texts_of given >>= λ texts.
    mending_of given >>= λ mending.
    options_of given >>= λ options.
    Some (Mend texts options mending)

abbrev pub watching_of : List Given → Option Job
watching_of given =
    in_table given (codes "out") >>= λ out.
    in_table given (codes "PAIR") >>= λ digits.
    number_in 1 18446744073709551615 digits >>= λ pair.
    Some (Aiger out pair (stands given (codes "symbols")))

abbrev pub without_hazards : Options → Options
without_hazards o = record o { judging = record o.judging { hazard = false } }

-- a claim is watched without hazards
abbrev pub aiger_of : List Given → Option Command
aiger_of given =
    texts_of given >>= λ texts.
    watching_of given >>= λ job.
    options_of given >>= λ options.
    Some (Over texts (without_hazards options) job)

abbrev pub demo_of : List Given → Option Command
demo_of given =
    in_table given (codes "SEED") >>= λ first.
    number_in 0 18446744073709551615 first >>= λ seed.
    in_table given (codes "SIZE") >>= λ second.
    number_in 1 160 second >>= λ size.
    Some (Demo seed size)

abbrev pub judged : Reading → Option Command
judged reading =
    if bytes_eq reading.name (codes "demo") then demo_of reading.given
    else (if bytes_eq reading.name (codes "detect") then detect_of reading.given
    else (if bytes_eq reading.name (codes "aiger") then aiger_of reading.given
    else (if bytes_eq reading.name (codes "mend") then mend_of reading.given else over_of reading.name reading.given)))

abbrev pub judged_if : Option Reading → Option Command
judged_if None = None
judged_if (Some reading) = judged reading
