use Rattle.std.proofs.Common.{rules, filter, ap, ◌∙◌}
use Rattle.std.proofs.lemmas.Fn.{filter_same}
use Rattle.link_clocks.specs.Offs.{is_place_on}
use Rattle.link_clocks.proofs.offs.left_leaves.Goals as goal

pub returns : goal.returns
returns c =
    c.from_vec.ensures
    ∙ filter_same _ (is_place_on c.args.even.now c.args.parts.now) _ (λ x b f' k. search rules) _ _ c.retain.ensures.filtered
    ∙ ap (filter (is_place_on c.args.even.now c.args.parts.now)) c.into_vec-left.ensures
