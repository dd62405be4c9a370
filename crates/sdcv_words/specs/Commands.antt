-- The commands, as texts and numbers.
use Rattle.std.specs.Prelude.{ℕ, Bool, List, Option}
use Rattle.std.specs.Option.{option_map}
use Rattle.sdcv_words.specs.declared.commands.Texts.{Texts as TheTexts}
use Rattle.sdcv_words.specs.declared.commands.Options.{Options}
use Rattle.run_options.specs.declared.proving.Proving.{Proving}
use Rattle.sdcv_words.specs.declared.commands.Finding.{Finding as TheFinding}
use Rattle.sdcv_words.specs.declared.commands.Mending.{Mending as TheMending}
use Rattle.sdcv_words.specs.declared.commands.Job.{Job as TheJob}
use Rattle.sdcv_words.specs.declared.commands.Job.TheVariants as the_job
use Rattle.sdcv_words.specs.declared.commands.Command.{Command as TheCommand}
use Rattle.sdcv_words.specs.declared.commands.Command.TheVariants as the_command

abbrev pub Text : Type 0
Text = List ℕ

-- the names of the files that a command reads; `cells` may be the word `builtin`
pub record Texts : Type 0 where
  pub netlist : Text
  pub cells : Text
  pub constraints : Text

-- where found pairs are saved, how far their proofs are sought, the largest multiplier that is tried, and whether hold lines are saved
pub record Finding : Type 0 where
  pub out : Text
  pub proving : Proving
  pub bound : ℕ
  pub hold : Bool

-- where the mended script is saved, how far proofs are sought, and a file whose clauses are tried too
pub record Mending : Type 0 where
  pub out : Text
  pub proving : Proving
  pub assist : Option Text

-- what is done with the pairs that are selected
pub data Job : Type 0 where
  Verify : (out : Text) → (json : Bool) → (proving : Proving) → (assist : Option Text) → Job
  Check : (cert : Text) → Job
  Replay : (report : Text) → (pair : ℕ) → Job
  Aiger : (out : Text) → (pair : ℕ) → (symbols : Bool) → Job

pub data Command : Type 0 where
  Over : (texts : Texts) → (options : Options) → (job : Job) → Command
  Detect : (texts : Texts) → (options : Options) → (finding : Finding) → Command
  Mend : (texts : Texts) → (options : Options) → (mending : Mending) → Command
  Demo : (seed : ℕ) → (size : ℕ) → Command

-- the same of the program, without its references
abbrev pub seen_texts : TheTexts → Texts
seen_texts t = record { netlist = t.netlist.now; cells = t.cells.now; constraints = t.constraints.now }

abbrev pub seen_finding : TheFinding → Finding
seen_finding f = record { out = f.out.now; proving = f.proving; bound = f.bound; hold = f.hold }

abbrev pub seen_mending : TheMending → Mending
seen_mending m = record { out = m.out.now; proving = m.proving; assist = option_map (λ t. t.now) m.assist }

abbrev pub seen_job : TheJob → Job
seen_job (the_job.Verify out json proving assist) = Verify out.now json proving (option_map (λ t. t.now) assist)
seen_job (the_job.Check cert) = Check cert.now
seen_job (the_job.Replay report pair) = Replay report.now pair
seen_job (the_job.Aiger out pair symbols) = Aiger out.now pair symbols

abbrev pub seen_command : TheCommand → Command
seen_command (the_command.Over texts options job) = Over (seen_texts texts) options (seen_job job)
seen_command (the_command.Detect texts options finding) = Detect (seen_texts texts) options (seen_finding finding)
seen_command (the_command.Mend texts options mending) = Mend (seen_texts texts) options (seen_mending mending)
seen_command (the_command.Demo seed size) = Demo seed size
