use Rattle.std.proofs.Common.{◌++◌}
use Rattle.std.proofs.lemmas.Result.{err_from_is_err_and}
use Rattle.texts.proofs.NameLemmas.{distinct_by_test}
use Rattle.link_tops.specs.Clashes.{leaf_names, cut_names}
use Rattle.link_tops.proofs.Clashing.{apart, clash_more, clash_of_added, joined_all}
use Rattle.link_tops.proofs.clashes.check_names.Goals as goal

pub returns-in_err-add_leaves-clause-err : goal.returns-in_err-add_leaves-clause-err
returns-in_err-add_leaves-clause-err c =
    let p = err_from_is_err_and c.from_residual.result c.from_residual.ensures.1 in
    rw (p.1, p.2) (clash_more (leaf_names c.args.leaves.now) (cut_names c.args.cells.now) c.in_err-add_leaves.field-0.0
    (clash_of_added c.new-names.result (leaf_names c.args.leaves.now) c.in_err-add_leaves.field-0.0 c.new-names.ensures c.in_err-add_leaves.ensures.err))

pub returns-clause-differ : goal.returns-clause-differ
returns-clause-differ c =
    distinct_by_test (leaf_names c.args.leaves.now ++ cut_names c.args.cells.now)
    (joined_all c.new-names.result c.add_leaves.new.names c.add_cut_cells.new.names (leaf_names c.args.leaves.now) (cut_names c.args.cells.now)
    c.new-names.ensures c.in_ok-add_leaves.ensures.ok c.in_ok-add_leaves.ensures.distinct c.in_ok-add_cut_cells.ensures.ok
    c.in_ok-add_cut_cells.ensures.distinct)

pub returns-clause-none : goal.returns-clause-none
returns-clause-none c =
    apart (leaf_names c.args.leaves.now ++ cut_names c.args.cells.now)
    (joined_all c.new-names.result c.add_leaves.new.names c.add_cut_cells.new.names (leaf_names c.args.leaves.now) (cut_names c.args.cells.now)
    c.new-names.ensures c.in_ok-add_leaves.ensures.ok c.in_ok-add_leaves.ensures.distinct c.in_ok-add_cut_cells.ensures.ok
    c.in_ok-add_cut_cells.ensures.distinct)
