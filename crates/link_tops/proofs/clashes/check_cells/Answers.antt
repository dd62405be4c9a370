use Rattle.texts.proofs.NameLemmas.{distinct_by_test}
use Rattle.link_tops.specs.Clashes.{leaf_names}
use Rattle.link_tops.proofs.Clashing.{all_distinct, apart}
use Rattle.link_tops.proofs.clashes.check_cells.Goals as goal

pub returns-clause-differ : goal.returns-clause-differ
returns-clause-differ c =
    distinct_by_test (leaf_names c.args.leaves.now)
    (all_distinct c.new-names.result c.add_leaves.new.names (leaf_names c.args.leaves.now) c.new-names.ensures c.in_ok-add_leaves.ensures.ok
    c.in_ok-add_leaves.ensures.distinct)

pub returns-clause-none : goal.returns-clause-none
returns-clause-none c =
    apart (leaf_names c.args.leaves.now)
    (all_distinct c.new-names.result c.add_leaves.new.names (leaf_names c.args.leaves.now) c.new-names.ensures c.in_ok-add_leaves.ensures.ok
    c.in_ok-add_leaves.ensures.distinct)
