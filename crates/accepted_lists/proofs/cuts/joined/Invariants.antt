use Rattle.std.proofs.Common.{◌≡◌, ◌∷◌, map, take}
use Rattle.std.specs.Prelude.{flat_map}
use Rattle.accepted_lists.proofs.cuts.joined.Given as goal

abbrev pub invariant-loop-word : goal.invariant-loop-word
invariant-loop-word l = l.out.items ≡ flat_map (λ w. 32 ∷ w) (map (λ t. t.now) (take l.word-index l.words))
