use Rattle.std.proofs.Common.{rules, ◌∙◌, ◌++◌, filter, drop, take, ap}
use Rattle.std.proofs.lemmas.Fn.{filter_same}
use Rattle.induction.specs.Members.{holds_of}
use Rattle.induction.proofs.members.holding_in.Goals as goal

pub returns : goal.returns
returns c =
    c.from_vec.ensures ∙ filter_same _ (holds_of c.args.cycle.now) _ (λ x b f' k. search rules) _ _ c.retain.ensures.filtered
    ∙ ap (filter (holds_of c.args.cycle.now))
    (c.rotate_left.ensures.items ∙ ap (λ ms. drop c.args.place ms ++ take c.args.place ms) c.into_vec-rest.ensures)
