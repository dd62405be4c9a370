use Rattle.std.proofs.Common.{◌∙◌, ◌++◌, List, sym, ap}
use Rattle.exception_expand.specs.declared.sides.Side.{Side}
use Rattle.exception_expand.specs.Sides.{sides_by}
use Rattle.list_laws.proofs.Joining.{flat_next}
use Rattle.exception_expand.proofs.sides.Sides.of_pairs.Goals as goal

pub loop-k-preserved : goal.loop-k-preserved
loop-k-preserved c =
    c.in_ok-push_of.ensures ∙ ap (λ (xs : List Side). xs ++ sides_by c.args.self c.at.result) c.loop-k.invariant
    ∙ sym (flat_next (sides_by c.args.self) c.args.pairs.now c.loop-k.k c.at.result c.at.ensures)
