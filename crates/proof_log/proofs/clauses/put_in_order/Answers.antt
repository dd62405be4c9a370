use Rattle.std.proofs.Common.{ℕ, rules}
use Rattle.std.proofs.lemmas.List.Sorted.{IsNonDecreasingBy-from_sort_by_key}
use Rattle.proof_log.proofs.Normalizing.{settled-moved}
use Rattle.proof_log.proofs.clauses.put_in_order.Goals as goal

pub each_once-requires : goal.each_once-requires
each_once-requires c =
    let key : ℕ → ℕ = λ l. l in
    IsNonDecreasingBy-from_sort_by_key key _ c.sort_unstable_by_key.ensures.sorted (λ a r q k. search rules)

pub returns : goal.returns
returns c =
    settled-moved c.args.lits.now c.sort_unstable_by_key.new.self c.each_once.new.lits c.each_once.result c.sort_unstable_by_key.ensures.permutation
    c.each_once.ensures
