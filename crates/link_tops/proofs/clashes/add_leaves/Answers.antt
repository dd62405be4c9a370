use Rattle.std.proofs.Common.{◌≡◌, true, List, ℕ, subst, sym, arith}
use Rattle.std.proofs.lemmas.Result.{err_from_is_err_and}
use Rattle.texts.specs.Names.{are_distinct}
use Rattle.link_items.specs.declared.made.LeafPlace.{LeafPlace}
use Rattle.link_items.proofs.Listing.{with_none}
use Rattle.link_tops.proofs.Clashing.{clash_of_all, distinct_more, names_next, names_all}
use Rattle.link_tops.proofs.clashes.add_leaves.Goals as goal

pub loop-k-init : goal.loop-k-init
loop-k-init c = record { ok = sym (with_none c.args.names.now); distinct = λ differ. differ }

pub returns-in_err-add_new-clause-err : goal.returns-in_err-add_new-clause-err
returns-in_err-add_new-clause-err c =
    let p = err_from_is_err_and c.from_residual.result c.from_residual.ensures.1 in
    rw (p.1, p.2) (clash_of_all (λ (x : LeafPlace). x.name) c.args.names.now c.loop-k.names c.args.leaves.now c.loop-k.k c.item.result.now
    c.in_err-add_new.field-0.0 c.item.ensures c.loop-k.invariant.ok c.in_err-add_new.ensures.err)

pub loop-k-preserved : goal.loop-k-preserved
loop-k-preserved c = record {
  ok = names_next (λ (x : LeafPlace). x.name) c.args.names.now c.loop-k.names c.add_new.new.names c.args.leaves.now c.loop-k.k c.item.result.now c.item.ensures
      c.loop-k.invariant.ok c.in_ok-add_new.ensures.ok;
  distinct = λ differ.
      subst (λ (ns : List (List ℕ)). are_distinct ns ≡ true) (sym c.in_ok-add_new.ensures.ok)
      (distinct_more c.loop-k.names c.item.result.now.name c.in_ok-add_new.ensures.fresh (c.loop-k.invariant.distinct differ));
}

pub returns-clause-ok : goal.returns-clause-ok
returns-clause-ok c = names_all (λ (x : LeafPlace). x.name) c.args.names.now c.loop-k.names c.args.leaves.now c.loop-k.k (omega arith) c.loop-k.invariant.ok
