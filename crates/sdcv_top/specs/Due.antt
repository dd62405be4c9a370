-- What a run is due to do, for its words and what its reads answered: its stages, the first one first.
use Rattle.std.specs.Prelude.{◌≡◌, ℕ, true, false, [], ◌∷◌, codes, Option, None, Some}
use Rattle.sdcv_words.specs.declared.commands.Options.{Options}
use Rattle.sdcv_words.specs.Commands.{Texts, Job, Finding, Command, Over, Detect, Mend, Demo}
use Rattle.sdcv_gen.specs.Draws.{drawn}
use Rattle.sdcv_gen.specs.Texts.{verilog_text, sdc_text}
use Rattle.run_options.specs.declared.forms.Forms.{Forms}
use Rattle.run_options.specs.declared.forms.ScriptForm.TheVariants.{Narrow}
use Rattle.run_options.specs.declared.netlists.NetlistForm.TheVariants as netlists
use Rattle.run_options.specs.declared.options.RunOptions.{RunOptions}
use Rattle.run_options.specs.declared.judging.Judging.{Judging}
use Rattle.run_options.specs.declared.resets.Reset.{Reset}
use Rattle.run_options.specs.Judging.{judging_by}
use Rattle.mcp_detect.specs.declared.options.DetectOptions.{DetectOptions}
use Rattle.found_pairs.specs.Tellings.{detect_line}
use Rattle.design_stages.specs.Designs.{LinksTo, Designs, free_count, told_alone}
use Rattle.design_stages.specs.Stages.{Staged}
use Rattle.design_stages.specs.Texts as texts
use Rattle.sdcv_top.specs.Outcomes.{usage}
use Rattle.sdcv_top.specs.Found.{Detects, IsFoundOut}
use Rattle.sdcv_top.specs.Headline.{IsReported}
use Rattle.sdcv_top.specs.Jobs.{IsDone, run_options}
use Rattle.sdcv_top.specs.Mending.{MendsPairs}
use Rattle.sdcv_top.specs.Stages.{Due, After, Last, ◌>>=◌}
use Rattle.sdcv_top.specs.Texts.{AfterTexts, builtin_library}

-- a job over three texts: they are read, the netlist is linked, pairs are selected, and the job is done on them
unfoldable pub Worked : Texts → Options → Job → Due
Worked files o job = do
  texts ← AfterTexts files o.forms
  designed ← After (Designs texts o.reset o.judging)
  IsDone o.judging o.reset.len job designed

-- how pairs are tried
abbrev pub detect_options : Options → Finding → DetectOptions
detect_options o f = record {
  hazard = o.judging.hazard;
  depth = f.proving.depth;
  budget = f.proving.budget;
  inv_depth = f.proving.inv_depth;
  bound = f.bound;
}

-- a search for multicycle pairs: three texts are read, the netlist is linked, and what is found of its pairs is saved and told
unfoldable pub FindsPairs : Texts → Options → Finding → Due
FindsPairs files o f = do
  texts ← AfterTexts files o.forms
  linked ← After (LinksTo texts o.reset)
  detected ← After (Staged (Detects linked (detect_options o f)) detect_line)
  Last (IsFoundOut f.out f.hold (detect_options o f) o.reset.len (free_count texts.forms.netlist linked.names) (told_alone texts linked.names) linked detected)

-- the reset of generated designs: its port is 1 in the first cycle
abbrev pub demo_reset : Reset
demo_reset = record { ports = record { name = codes "rst"; value = true } ∷ []; len = 1 }

-- their claims are judged without hazards, and each false path at the first capture
abbrev pub demo_judging : Judging
demo_judging = judging_by false 0

-- the options of their runs
abbrev pub demo_options : RunOptions
demo_options = run_options demo_judging 1 None (record { depth = 8; budget = 20000; inv_depth = 1 })

-- generated texts are read by the rules of each run
abbrev pub narrow_forms : Forms
narrow_forms = record { netlist = netlists.Narrow; script = Narrow }

-- a verification of generated texts: nothing is read, and no certificate is saved
unfoldable pub Demonstrated : ℕ → ℕ → Due
Demonstrated seed size = do
  source ← After (texts.Netlist netlists.Narrow (verilog_text (drawn seed size)))
  script ← After (texts.Constraints Narrow (sdc_text (drawn seed size)))
  designed ← After (Designs (record { source = source; library = builtin_library; script = script; forms = narrow_forms }) demo_reset demo_judging)
  Last (IsReported None false demo_options [] designed)

-- what is due for a command, and where the words name none: the usage line is printed, and nothing is read
abbrev pub IsDueFor : Option Command → Due
IsDueFor None = Last (λ due. due ≡ usage)
IsDueFor (Some (Over files o job)) = Worked files o job
IsDueFor (Some (Detect files o f)) = FindsPairs files o f
IsDueFor (Some (Mend files o m)) = MendsPairs files o m
IsDueFor (Some (Demo seed size)) = Demonstrated seed size
