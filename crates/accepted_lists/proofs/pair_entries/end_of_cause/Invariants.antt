use Rattle.std.proofs.Common.{◌≡◌, map, drop}
use Rattle.std.specs.Prelude.{codes}
use Rattle.std.specs.List.{position_from}
use Rattle.std.specs.Str.{bytes_eq}
use Rattle.accepted_lists.specs.Entries.{end_of_cause}
use Rattle.accepted_lists.proofs.pair_entries.end_of_cause.Given as goal

abbrev pub invariant-loop-k : goal.invariant-loop-k
invariant-loop-k l =
    end_of_cause (map (λ t. t.now) l.words) ≡ position_from (λ w. bytes_eq w (codes "command")) l.k (map (λ t. t.now) (drop l.k l.words))
