-- Runs are held in reset for as long as the words of a run say.
use Rattle.std.proofs.Common.{ℕ, List, Option, Result, Ok, subst}
use Rattle.sdcv_base.specs.Hosts.{Files}
use Rattle.run_options.specs.declared.judging.Judging.{Judging}
use Rattle.run_options.specs.declared.resets.Reset.{Reset}
use Rattle.design_stages.specs.declared.designs.ReadTexts.{ReadTexts}
use Rattle.design_stages.specs.declared.designs.Designed.{Designed}
use Rattle.design_stages.specs.Designs.{Designs}
use Rattle.sdcv_words.specs.Commands.{Job}
use Rattle.sdcv_top.specs.declared.plans.Plan.{Plan}
use Rattle.sdcv_top.specs.declared.plans.Stop.{Stop}
use Rattle.sdcv_top.specs.Jobs.{IsDone}
use Rattle.sdcv_top.specs.Reads.{ReadOf, Asked}
use Rattle.sdcv_top.specs.Plans.{Plans}
use Rattle.sdcv_top.proofs.Alike.{designs_held}

-- what is planned of a design that is held so is planned of the words
pub held_as_said : (t : ReadTexts) (reset : Reset) (judging : Judging) (job : Job) (d : Designed) (files_of : List ReadOf) (files : Option Files)
    (before now : Asked) (result : Result Plan Stop) → Designs t reset judging (Ok d)
    → Plans (IsDone judging d.linked.design.reset_len job d) files_of files before now result
    → Plans (IsDone judging reset.len job d) files_of files before now result
held_as_said t reset judging job d files_of files before now result found planned =
    subst (λ (n : ℕ). Plans (IsDone judging n job d) files_of files before now result) (designs_held t reset judging d found) planned
