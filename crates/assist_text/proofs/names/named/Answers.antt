use Rattle.std.proofs.Common.{List, sym, subst, rules}
use Rattle.std.proofs.lemmas.List.Sorted.{IsNonDecreasingBy-from_sort_by_key}
use Rattle.net_model.specs.declared.invariants.StateLit.{StateLit}
use Rattle.assist_text.specs.Named.{IsNamed}
use Rattle.assist_text.proofs.Ascending.{reg_of, ascending}
use Rattle.assist_text.proofs.names.named.Goals as goal

pub returns-clause-ok : goal.returns-clause-ok
returns-clause-ok c =
    let found = c.in_ok-lits.lits.items in
    let sorted = c.sort_unstable_by_key.new.self.items in
    let up = IsNonDecreasingBy-from_sort_by_key reg_of sorted c.sort_unstable_by_key.ensures.sorted (λ a r q k. search rules) in
    λ cells once is. subst (λ (ls : List StateLit). IsNamed cells c.args.clause.now (record { lits = ls })) (sym c.from_vec.ensures) (record {
      found = found;
      are = c.in_ok-lits.ensures.ok cells is;
      moved = c.sort_unstable_by_key.ensures.permutation;
      ascend = ascending cells c.args.clause.now.lits found sorted once c.requires (c.in_ok-lits.ensures.ok cells is)
          c.sort_unstable_by_key.ensures.permutation up;
    })
