use Rattle.std.proofs.Common.{◌≡◌, map, take}
use Rattle.induction.specs.Members.{clause_of}
use Rattle.induction.proofs.members.clauses_of.Given as goal

abbrev pub invariant-loop-k : goal.invariant-loop-k
invariant-loop-k l = l.clauses ≡ map clause_of (take l.k l.members)
