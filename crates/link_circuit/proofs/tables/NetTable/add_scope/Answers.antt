use Rattle.std.proofs.Common.{ℕ, List, ◌++◌, take, subst, sym, ◌∙◌, arith}
use Rattle.std.proofs.lemmas.List.{take_all}
use Rattle.std.proofs.lemmas.Result.{err_from_is_err_and}
use Rattle.link_items.proofs.Listing.{with_none}
use Rattle.link_circuit.specs.Scopes.{named, IsTableOf}
use Rattle.link_circuit.proofs.Scoped.{named_at, twice, one_more, scope_more, added_len, length_named}
use Rattle.link_circuit.proofs.tables.NetTable.add_scope.Goals as goal

pub loop-k-init : goal.loop-k-init
loop-k-init c = record {
  len = c.requires.table;
  so_far = λ pairs t. subst (λ (ps : List (List ℕ × ℕ)). IsTableOf c.args.marks.now ps c.args.self.now.names c.args.self.now.nets) (sym (with_none pairs)) t;
}

pub returns-in_err-add_marked-clause-err : goal.returns-in_err-add_marked-clause-err
returns-in_err-add_marked-clause-err c =
    let p = err_from_is_err_and c.from_residual.result c.from_residual.ensures.1 in
    rw (p.1, p.2) (λ pairs t.
    twice c.args.marks.now pairs (named c.args.prefix.now c.args.names.now c.args.nets.now) c.loop-k.k c.loop-k.self.names c.loop-k.self.nets
    (record { name = c.args.prefix.now ++ c.item.result.now; net = c.at-net.result }) c.in_err-add_marked.field-0.0 (named_at c.args.prefix.now
    c.args.names.now c.args.nets.now c.loop-k.k c.item.result.now c.at-net.result c.item.ensures c.at-net.ensures)
    (sym c.is_marked-marked.ensures ∙ c.in_err-add_marked.ensures.err.0) (c.loop-k.invariant.so_far pairs t) c.in_err-add_marked.ensures.err.1)

pub loop-k-preserved : goal.loop-k-preserved
loop-k-preserved c = record {
  len = added_len c.is_marked-marked.result (record { name = c.args.prefix.now ++ c.item.result.now; net = c.at-net.result }) c.loop-k.self
      c.add_marked.new.table c.loop-k.invariant.len c.in_ok-add_marked.ensures.ok;
  so_far = λ pairs t.
      subst (λ (ps : List (List ℕ × ℕ)). IsTableOf c.args.marks.now ps c.add_marked.new.table.names c.add_marked.new.table.nets)
      (scope_more pairs (named c.args.prefix.now c.args.names.now c.args.nets.now) c.loop-k.k (c.args.prefix.now ++ c.item.result.now, c.at-net.result)
      (named_at c.args.prefix.now c.args.names.now c.args.nets.now c.loop-k.k c.item.result.now c.at-net.result c.item.ensures c.at-net.ensures))
      (one_more c.args.marks.now (pairs ++ take c.loop-k.k (named c.args.prefix.now c.args.names.now c.args.nets.now)) c.loop-k.self c.add_marked.new.table
      (record { name = c.args.prefix.now ++ c.item.result.now; net = c.at-net.result }) c.is_marked-marked.result c.is_marked-marked.ensures
      (c.loop-k.invariant.so_far pairs t) c.in_ok-add_marked.ensures.ok);
}

pub returns-clause-ok : goal.returns-clause-ok
returns-clause-ok c = λ pairs t.
    let short = length_named c.args.prefix.now c.args.names.now c.args.nets.now c.requires.nets in
    subst (λ (ps : List (List ℕ × ℕ)). IsTableOf c.args.marks.now (pairs ++ ps) c.loop-k.self.names c.loop-k.self.nets)
    (take_all c.loop-k.k (named c.args.prefix.now c.args.names.now c.args.nets.now) (omega (arith, short))) (c.loop-k.invariant.so_far pairs t)
