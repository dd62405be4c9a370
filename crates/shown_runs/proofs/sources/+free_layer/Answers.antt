use Rattle.std.proofs.Common.{◌∙◌, sym}
use Rattle.shown_runs.proofs.Walking.{meets_held}
use Rattle.shown_runs.proofs.sources.+free_layer.Goals as goal

pub returns-then-is_held-clause-meets : goal.returns-then-is_held-clause-meets
returns-then-is_held-clause-meets t c =
    λ path meets. c.free_layer.ensures.meets path
    (meets_held c.args.sets.now c.args.layer c.args.pin path c.requires (sym c.is_held.ensures ∙ c.if-is_held.true) meets)
