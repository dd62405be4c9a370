-- The numbers of a command lie in their ranges.
use Rattle.std.proofs.Common.{◌≡◌, ◌≤◌, ℕ, Bool, true, false, ◌&&◌, nat_le, List, Option, None, Some, refl, sym, subst, arith}
use Rattle.std.specs.Prelude.{codes, if◌then◌else◌}
use Rattle.std.specs.Option.{IfSome}
use Rattle.std.specs.Str.{bytes_eq}
use Rattle.std.specs.Str.Parse.{digits_value}
use Rattle.std.proofs.lemmas.Bool.Decides.{nat_tests}
use Rattle.texts.specs.Lookups.{in_table}
use Rattle.texts.proofs.ReadLemmas.{bind_gave}
use Rattle.clap_words.specs.Readings.{Given, Reading, clap_reading}
use Rattle.sdcv_words.specs.declared.commands.Options.{Options}
use Rattle.run_options.specs.declared.proving.Proving.{Proving}
use Rattle.run_options.specs.Judging.{CanJudge}
use Rattle.sdcv_words.specs.Commands.{Aiger, Command, Demo, Detect, Finding, Job, Check, Mend, Mending, Over, Replay, Text, Verify}
use Rattle.sdcv_words.specs.Givens.{stands}
use Rattle.sdcv_words.specs.Numbers.{are_digits, number_in, number_or}
use Rattle.sdcv_words.specs.Options.{default_cycles, form_of, judging_of, lag_of, netlist_of, options_of, proving_of, resets_of}
use Rattle.sdcv_words.specs.Jobs.{aiger_of, check_of, demo_of, detect_of, finding_of, job_of, judged_if, late_only, mend_of, mending_of, over_of, replay_of, texts_of, verify_of, watching_of, without_hazards}
use Rattle.sdcv_words.specs.Places.{by_place}
use Rattle.sdcv_words.specs.Words.{command, or_else}
use Rattle.sdcv_words.specs.Ranges.{AreOptionsInRange, IsFindingInRange, IsInRange, IsJobInRange, IsProvingInRange}

-- a number that is read lies in its range
high_enough : (least value n : ℕ) (above : Bool) → nat_le least value ≡ above → (if above then Some value else None) ≡ Some n → least ≤ n
high_enough least value n true above is = let same : value ≡ n = cc in subst (λ (m : ℕ). least ≤ m) same (grind (arith, nat_tests))
high_enough least value n false above is = absurd cc

value_is : (value n : ℕ) (above : Bool) → (if above then Some value else None) ≡ Some n → value ≡ n
value_is value n true is = cc
value_is value n false is = absurd cc

low_enough : (text : List ℕ) (value most : ℕ) → (are_digits text && nat_le value most) ≡ true → value ≤ most
low_enough text value most fits = grind (arith, nat_tests)

number_range : (least most value n : ℕ) (text : List ℕ) (fits : Bool) → (are_digits text && nat_le value most) ≡ fits
    → (if fits then (if nat_le least value then Some value else None) else None) ≡ Some n → (least ≤ n) × (n ≤ most)
number_range least most value n text true fits is = (
  high_enough least value n (nat_le least value) refl is,
  subst (λ (m : ℕ). m ≤ most) (value_is value n (nat_le least value) is) (low_enough text value most fits),
)
number_range least most value n text false fits is = absurd cc

number_in_range : (least most n : ℕ) (text : List ℕ) → number_in least most text ≡ Some n → (least ≤ n) × (n ≤ most)
unfolding number_in
number_in_range least most n text is =
    let value = digits_value 10 text in number_range least most value n text (are_digits text && nat_le value most) refl is

number_or_range : (default least most n : ℕ) (text : Option (List ℕ)) → least ≤ default → default ≤ most → number_or default least most text ≡ Some n
    → (least ≤ n) × (n ≤ most)
number_or_range default least most n None low high is =
    let same : default ≡ n = cc in subst (λ (m : ℕ). (least ≤ m) × (m ≤ most)) same (low, high)
number_or_range default least most n (Some text) low high is = number_in_range least most n text is

-- how long reset is held
few_cycles : (list : Option (List ℕ)) → default_cycles list ≤ 64
few_cycles None = omega arith
few_cycles (Some text) = omega arith

-- how many captures after the first a false path is judged
pub lag_range : (given : List Given) (lag : ℕ) → lag_of given ≡ Some lag → lag ≤ 8
lag_range given lag is = (number_or_range 0 0 8 lag (in_table given (codes "lag")) (omega arith) (omega arith) is).1

-- so claims can be judged
can_judge : (given : List Given) (lag : ℕ) → lag ≤ 8 → CanJudge (judging_of given lag)
can_judge given lag few = record { lag = few }

options_range : (given : List Given) (options : Options) → options_of given ≡ Some options → AreOptionsInRange options
options_range given options is =
    let list = in_table given (codes "reset") in
    let cycles_of = number_or (default_cycles list) 0 64 (in_table given (codes "reset-cycles")) in
    let (cycles, held, rest) = bind_gave cycles_of _ options is in
    let (lag, late, with_lag) = bind_gave (lag_of given) _ options rest in
    let (resets, of, with_resets) = bind_gave (resets_of list) _ options with_lag in
    let (netlist, cut, with_netlist) = bind_gave (netlist_of given) _ options with_resets in
    let (form, read, made) = bind_gave (form_of given) _ options with_netlist in
    let range = number_or_range (default_cycles list) 0 64 cycles (in_table given (codes "reset-cycles")) (omega arith) (few_cycles list) held in
    let opened : Options = record { judging = judging_of given lag; forms = record { netlist = netlist; script = form }; reset = record { ports = resets; len = cycles } } in
    let same : opened ≡ options = cc in
    subst AreOptionsInRange same (record { judging = can_judge given lag (lag_range given lag late); reset_len = range.1 })

-- how far proofs are sought
proving_range : (given : List Given) (proving : Proving) → proving_of given ≡ Some proving → IsProvingInRange proving
proving_range given proving is =
    let (depth, deep, with_depth) = bind_gave (number_or 8 0 64 (in_table given (codes "depth"))) _ proving is in
    let (budget, large, with_budget) = bind_gave (number_or 20000 1 10000000 (in_table given (codes "budget"))) _ proving with_depth in
    let (inv_depth, kept, made) = bind_gave (number_or 1 0 8 (in_table given (codes "inv-depth"))) _ proving with_budget in
    let depths = number_or_range 8 0 64 depth (in_table given (codes "depth")) (omega arith) (omega arith) deep in
    let budgets = number_or_range 20000 1 10000000 budget (in_table given (codes "budget")) (omega arith) (omega arith) large in
    let inv_depths = number_or_range 1 0 8 inv_depth (in_table given (codes "inv-depth")) (omega arith) (omega arith) kept in
    let opened : Proving = record { depth = depth; budget = budget; inv_depth = inv_depth } in
    let same : opened ≡ proving = cc in
    subst IsProvingInRange same (record { depth = depths.1; some = budgets.0; budget = budgets.1; inv_depth = inv_depths.1 })

-- what is done with the pairs
verify_range : (hazard : Bool) (given : List Given) (job : Job) → verify_of given ≡ Some job → IsJobInRange hazard job
verify_range hazard given job is =
    let (out, there, with_out) = bind_gave (in_table given (codes "out")) _ job is in
    let (proving, of, made) = bind_gave (proving_of given) _ job with_out in
    let same : Verify out (stands given (codes "json")) proving (in_table given (codes "assist")) ≡ job = cc in subst (IsJobInRange hazard) same (proving_range given proving of)

check_range : (hazard : Bool) (given : List Given) (job : Job) → check_of given ≡ Some job → IsJobInRange hazard job
check_range hazard given job is =
    let (cert, there, made) = bind_gave (in_table given (codes "CERT")) _ job is in
    let same : Check cert ≡ job = cc in subst (IsJobInRange hazard) same tt

replay_range : (hazard : Bool) (given : List Given) (job : Job) → replay_of given ≡ Some job → IsJobInRange hazard job
replay_range hazard given job is =
    let (report, there, with_report) = bind_gave (in_table given (codes "REPORT")) _ job is in
    let (digits, stand, with_digits) = bind_gave (in_table given (codes "PAIR")) _ job with_report in
    let (pair, number, made) = bind_gave (number_in 1 18446744073709551615 digits) _ job with_digits in
    let same : Replay report pair ≡ job = cc in subst (IsJobInRange hazard) same (number_in_range 1 18446744073709551615 pair digits number).0

job_range : (hazard verify check replay : Bool) (given : List Given) (job : Job)
    → (if verify then verify_of given else (if check then check_of given else (if replay then replay_of given else None))) ≡ Some job
    → IsJobInRange hazard job
job_range hazard true check replay given job is = verify_range hazard given job is
job_range hazard false true replay given job is = check_range hazard given job is
job_range hazard false false true given job is = replay_range hazard given job is
job_range hazard false false false given job is = absurd cc

-- the commands
over_range : (name : Text) (given : List Given) (c : Command) → over_of name given ≡ Some c → IsInRange c
over_range name given c is =
    let (texts, files, with_texts) = bind_gave (texts_of given) _ c is in
    let (job, done, with_job) = bind_gave (job_of name given) _ c with_texts in
    let (options, set, made) = bind_gave (options_of given) _ c with_job in
    let same : Over texts options job ≡ c = cc in
    let range = job_range options.judging.hazard (bytes_eq name (codes "verify")) (bytes_eq name (codes "check")) (bytes_eq name (codes "replay")) given job done in
    subst IsInRange same (options_range given options set, range)

-- up to which multiplier pairs are tried
pub bound_range : (given : List Given) (bound : ℕ) → number_or 4 2 16 (in_table given (codes "bound")) ≡ Some bound → (2 ≤ bound) × (bound ≤ 16)
bound_range given bound is = number_or_range 4 2 16 bound (in_table given (codes "bound")) (omega arith) (omega arith) is

finding_range : (given : List Given) (finding : Finding) → finding_of given ≡ Some finding → IsFindingInRange finding
finding_range given finding is =
    let (out, there, with_out) = bind_gave (in_table given (codes "out")) _ finding is in
    let (proving, of, with_proving) = bind_gave (proving_of given) _ finding with_out in
    let (bound, number, made) = bind_gave (number_or 4 2 16 (in_table given (codes "bound"))) _ finding with_proving in
    let range = bound_range given bound number in
    let opened : Finding = record { out = out; proving = proving; bound = bound; hold = stands given (codes "hold") } in
    let same : opened ≡ finding = cc in
    subst IsFindingInRange same (record { proving = proving_range given proving of; some = range.0; most = range.1 })

detect_range : (given : List Given) (c : Command) → detect_of given ≡ Some c → IsInRange c
detect_range given c is =
    let (texts, files, with_texts) = bind_gave (texts_of given) _ c is in
    let (finding, found, with_finding) = bind_gave (finding_of given) _ c with_texts in
    let (options, set, made) = bind_gave (options_of given) _ c with_finding in
    let same : Detect texts (late_only options) finding ≡ c = cc in
    let range = options_range given options set in
    let judging : CanJudge (late_only options).judging = record { lag = range.judging.lag } in
    subst IsInRange same (record { judging = judging; reset_len = range.reset_len }, finding_range given finding found)

mending_range : (given : List Given) (mending : Mending) → mending_of given ≡ Some mending → IsProvingInRange mending.proving
mending_range given mending is =
    let (out, there, with_out) = bind_gave (in_table given (codes "out")) _ mending is in
    let (proving, of, made) = bind_gave (proving_of given) _ mending with_out in
    let opened : Mending = record { out = out; proving = proving; assist = in_table given (codes "assist") } in
    let same : opened ≡ mending = cc in
    subst (λ (m : Mending). IsProvingInRange m.proving) same (proving_range given proving of)

mend_range : (given : List Given) (c : Command) → mend_of given ≡ Some c → IsInRange c
mend_range given c is =
    let (texts, files, with_texts) = bind_gave (texts_of given) _ c is in
    let (mending, sought, with_mending) = bind_gave (mending_of given) _ c with_texts in
    let (options, set, made) = bind_gave (options_of given) _ c with_mending in
    let same : Mend texts options mending ≡ c = cc in
    subst IsInRange same (options_range given options set, mending_range given mending sought)

watching_range : (given : List Given) (job : Job) → watching_of given ≡ Some job → IsJobInRange false job
watching_range given job is =
    let (out, there, with_out) = bind_gave (in_table given (codes "out")) _ job is in
    let (digits, stand, with_digits) = bind_gave (in_table given (codes "PAIR")) _ job with_out in
    let (pair, number, made) = bind_gave (number_in 1 18446744073709551615 digits) _ job with_digits in
    let same : Aiger out pair (stands given (codes "symbols")) ≡ job = cc in
    subst (IsJobInRange false) same (refl, (number_in_range 1 18446744073709551615 pair digits number).0)

aiger_range : (given : List Given) (c : Command) → aiger_of given ≡ Some c → IsInRange c
aiger_range given c is =
    let (texts, files, with_texts) = bind_gave (texts_of given) _ c is in
    let (job, done, with_job) = bind_gave (watching_of given) _ c with_texts in
    let (options, set, made) = bind_gave (options_of given) _ c with_job in
    let same : Over texts (without_hazards options) job ≡ c = cc in
    let range = options_range given options set in
    let judging : CanJudge (without_hazards options).judging = record { lag = range.judging.lag } in
    subst IsInRange same (record { judging = judging; reset_len = range.reset_len }, watching_range given job done)

demo_range : (given : List Given) (c : Command) → demo_of given ≡ Some c → IsInRange c
demo_range given c is =
    let (first, there, with_first) = bind_gave (in_table given (codes "SEED")) _ c is in
    let (seed, drawn, with_seed) = bind_gave (number_in 0 18446744073709551615 first) _ c with_first in
    let (second, stands, with_second) = bind_gave (in_table given (codes "SIZE")) _ c with_seed in
    let (size, blocks, made) = bind_gave (number_in 1 160 second) _ c with_second in
    let same : Demo seed size ≡ c = cc in subst IsInRange same (number_in_range 1 160 size second blocks)

judged_range : (demo detect aiger mend : Bool) (name : Text) (given : List Given) (c : Command)
    → (if demo then demo_of given else (if detect then detect_of given else (if aiger then aiger_of given
    else (if mend then mend_of given else over_of name given)))) ≡ Some c → IsInRange c
judged_range true detect aiger mend name given c is = demo_range given c is
judged_range false true aiger mend name given c is = detect_range given c is
judged_range false false true mend name given c is = aiger_range given c is
judged_range false false false true name given c is = mend_range given c is
judged_range false false false false name given c is = over_range name given c is

judged_if_range : (reading : Option Reading) (c : Command) → judged_if reading ≡ Some c → IsInRange c
judged_if_range None c is = absurd cc
judged_if_range (Some reading) c is =
    judged_range (bytes_eq reading.name (codes "demo")) (bytes_eq reading.name (codes "detect")) (bytes_eq reading.name (codes "aiger"))
    (bytes_eq reading.name (codes "mend")) reading.name reading.given c is

or_else_range : (one other : Option Command) (c : Command) → ((x : Command) → one ≡ Some x → IsInRange x) → ((x : Command) → other ≡ Some x → IsInRange x)
    → or_else one other ≡ Some c → IsInRange c
or_else_range None other c first second is = second c is
or_else_range (Some x) other c first second is = let same : x ≡ c = cc in subst IsInRange same (first x refl)

-- the numbers of the command that words name lie in their ranges
pub in_range : (words : List (List ℕ)) (c : Command) → command words ≡ Some c → IsInRange c
in_range words c is =
    or_else_range (judged_if (by_place words)) (judged_if (clap_reading words)) c (λ x one. judged_if_range (by_place words) x one)
    (λ x other. judged_if_range (clap_reading words) x other) is

-- so do those of the command that is found, if one is
pub found_in_range : (words : List (List ℕ)) (found : Option Command) → found ≡ command words → IfSome found IsInRange
found_in_range words None is = tt
found_in_range words (Some c) is = in_range words c (sym is)
