use Rattle.std.proofs.Common.{length, map}
use Rattle.induction.specs.Members.{clause_of}
use Rattle.induction.specs.Pools.{IsSearch, AreBased}
use Rattle.induction.proofs.searches.set_by_rounds.Given as goal

abbrev pub invariant-loop-spent : goal.invariant-loop-spent
invariant-loop-spent l =
    record {
      search : IsSearch l.design l.depth l.budget l.candidates (map clause_of l.members) l.spent;
      based : AreBased l.design l.depth l.members;
    }

abbrev pub decreases-loop-spent : goal.decreases-loop-spent
decreases-loop-spent l = length l.members
