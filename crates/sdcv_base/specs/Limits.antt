-- The words for what a limit counts, as a refusal prints them.
use Rattle.std.specs.Prelude.{ℕ, List, codes}
use Rattle.sdcv_base.specs.declared.limits.LimitName.{LimitName}
use Rattle.sdcv_base.specs.declared.limits.LimitName.TheVariants as limit

abbrev pub limit_text : LimitName → List ℕ
limit_text limit.Nets = codes "nets"
limit_text limit.Registers = codes "registers"
limit_text limit.Inputs = codes "inputs"
limit_text limit.Outputs = codes "outputs"
limit_text limit.Instances = codes "instances"
limit_text limit.Pins = codes "pins"
limit_text limit.Through = codes "through"
limit_text limit.Pairs = codes "pairs"
limit_text limit.Judged = codes "judged"
limit_text limit.Hierarchy = codes "hierarchy"
