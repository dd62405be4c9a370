use Rattle.std.proofs.Common.{◌≡◌, ◌++◌, drop}
use Rattle.verilog_scope.specs.Scopes.{bases_from}
use Rattle.verilog_scope.proofs.scopes.bases.Given as goal

abbrev pub invariant-loop-decl : goal.invariant-loop-decl
invariant-loop-decl l = bases_from 0 l.decls ≡ l.found ++ bases_from l.next (drop l.decl-index l.decls)
