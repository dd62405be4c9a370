use Rattle.std.proofs.Common.{rules, ◌∙◌, filter, ap}
use Rattle.std.proofs.lemmas.Fn.{filter_same}
use Rattle.drawn_runs.specs.Stretches.{holds_where}
use Rattle.drawn_runs.proofs.stretches.sift_where.Goals as goal

pub returns : goal.returns
returns c =
    c.from_vec.ensures ∙ filter_same _ (holds_where c.args.lanes c.args.bits.now) _ (λ x b f' k. search rules) _ _ c.retain.ensures.filtered
    ∙ ap (filter (holds_where c.args.lanes c.args.bits.now)) c.into_vec-left.ensures
