use Rattle.std.proofs.Common.{◌≡◌, ◌-◌}
use Rattle.lib_func.specs.Trees.{negated}
use Rattle.lib_func.proofs.exprs.Expr.inverted.Given as goal

abbrev pub invariant-loop : goal.invariant-loop
invariant-loop l = negated l.count l.fn.self ≡ negated (l.count - l.counter) l.found
