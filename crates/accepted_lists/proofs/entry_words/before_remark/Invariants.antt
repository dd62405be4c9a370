use Rattle.std.proofs.Common.{◌≡◌, ◌++◌, map, drop}
use Rattle.accepted_lists.specs.Entries.{before_remark}
use Rattle.accepted_lists.proofs.entry_words.before_remark.Given as goal

abbrev pub invariant-loop-place : goal.invariant-loop-place
invariant-loop-place l =
    before_remark (map (λ t. t.now) l.pieces) ≡ map (λ t. t.now) l.words.items ++ before_remark (map (λ t. t.now) (drop l.place l.pieces))
