use Rattle.std.proofs.Common.{sym, subst}
use Rattle.std.specs.Prelude.{All}
use Rattle.exception_expand.specs.declared.sides.Side.{Side}
use Rattle.exception_expand.specs.Pairs.{IsPairIn}
use Rattle.exception_expand.proofs.Siding.{sides_in}
use Rattle.exception_expand.proofs.commands.add_choice.Goals as goal

pub push_lines-requires-clause-sides : goal.push_lines-requires-clause-sides
push_lines-requires-clause-sides c =
    let d = c.args.task.now.scope.linked.now.design in
    subst (All (λ (s : Side). IsPairIn d s.pair)) (sym c.in_ok-sides.ensures) (sides_in d c.args.ask.now.sides c.args.choice.pairs c.requires.pairs)
