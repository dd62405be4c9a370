use Rattle.std.proofs.Common.{◌≡◌, true}
use Rattle.texts.specs.Names.{are_distinct}
use Rattle.glob.specs.Owners.{IsOwnerTo}
use Rattle.glob.proofs.indexes.Index.owner_of.Given as goal

abbrev pub invariant-loop-slash : goal.invariant-loop-slash
invariant-loop-slash l = are_distinct l.self.names ≡ true → IsOwnerTo l.self.names l.pattern l.slash l.owner
