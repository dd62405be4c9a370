use Rattle.std.proofs.Common.{◌≡◌, ◌++◌, length, reverse}
use Rattle.induction.specs.Members.{proofs_of}
use Rattle.induction.proofs.members.proofs_of.Given as goal

abbrev pub invariant-loop-member : goal.invariant-loop-member
invariant-loop-member l =
    record {
      same : length l.members.items ≡ length l.steps.items;
      whole : proofs_of l.members.items l.steps.items ++ reverse l.proofs.items ≡ proofs_of l.fn.members l.fn.steps;
    }

abbrev pub decreases-loop-member : goal.decreases-loop-member
decreases-loop-member l = length l.members.items
