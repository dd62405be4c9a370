use Rattle.std.proofs.Common.{subst}
use Rattle.std.specs.List.{IsDistinct}
use Rattle.query_model.specs.Formula.{same_key}
use Rattle.frame_unroll.proofs.KeySets.{numbered_distinct}
use Rattle.frame_unroll.proofs.key_sets.KeySet.len.Goals as goal

pub returns-clause-distinct : goal.returns-clause-distinct
returns-clause-distinct c =
    let s = c.self.inside in
    subst (IsDistinct same_key) c.self.view_is (numbered_distinct s.width s.pages.items s.numbers.items s.keys.items c.self.invariant)
