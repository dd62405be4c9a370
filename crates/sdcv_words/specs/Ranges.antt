-- The ranges in which the numbers of a command lie.
use Rattle.std.specs.Prelude.{◌≡◌, ◌≤◌, Bool, false}
use Rattle.sdcv_words.specs.declared.commands.Options.{Options}
use Rattle.run_options.specs.declared.proving.Proving.{Proving}
use Rattle.run_options.specs.Judging.{CanJudge}
use Rattle.sdcv_words.specs.Commands.{Aiger, Command, Demo, Detect, Finding, Job, Check, Mend, Over, Replay, Verify}

-- claims are proved up to a depth of 64, with at least one and at most ten million clauses for a query; kept clauses up to a depth of 8
pub record IsProvingInRange (proving : Proving) : Type 0 where
  pub depth : proving.depth ≤ 64
  pub some : 1 ≤ proving.budget
  pub budget : proving.budget ≤ 10000000
  pub inv_depth : proving.inv_depth ≤ 8

-- pairs are numbered from 1, and a claim is watched without hazards
abbrev pub IsJobInRange : Bool → Job → Type 0
IsJobInRange hazard (Verify out json proving assist) = IsProvingInRange proving
IsJobInRange hazard (Check cert) = Unit {0}
IsJobInRange hazard (Replay report pair) = 1 ≤ pair
IsJobInRange hazard (Aiger out pair symbols) = (hazard ≡ false) × (1 ≤ pair)

-- claims can be judged so, and reset is held for at most 64 cycles
pub record AreOptionsInRange (options : Options) : Type 0 where
  pub judging : CanJudge options.judging
  pub reset_len : options.reset.len ≤ 64

-- multipliers are tried up to a bound from 2 to 16
pub record IsFindingInRange (finding : Finding) : Type 0 where
  pub proving : IsProvingInRange finding.proving
  pub some : 2 ≤ finding.bound
  pub most : finding.bound ≤ 16

-- a generated design has 1 to 160 blocks
abbrev pub IsInRange : Command → Type 0
IsInRange (Over texts options job) = AreOptionsInRange options × IsJobInRange options.judging.hazard job
IsInRange (Detect texts options finding) = AreOptionsInRange options × IsFindingInRange finding
IsInRange (Mend texts options mending) = AreOptionsInRange options × IsProvingInRange mending.proving
IsInRange (Demo seed size) = (1 ≤ size) × (size ≤ 160)
