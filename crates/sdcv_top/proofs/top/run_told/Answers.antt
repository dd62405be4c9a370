use Rattle.std.proofs.Common.{None, sym, ap, ◌∙◌}
use Rattle.std.specs.Option.{option_map}
use Rattle.sdcv_words.specs.Commands.{seen_command}
use Rattle.sdcv_top.proofs.Delivered.{has_run-usage, has_run-named}
use Rattle.sdcv_top.proofs.top.run_told.Goals as goal

pub returns-in-Ok-None-clause-ran : goal.returns-in-Ok-None-clause-ran
returns-in-Ok-None-clause-ran g c =
    let line = c.deliver_usage.ensures in
    has_run-named None _ (sym (ap (option_map seen_command) c.in-Ok-None.field-0-is) ∙ c.in-Ok-None.ensures.named) _ _ _ _
    (has_run-usage _ _ _ _ line.asked line.delivered)
