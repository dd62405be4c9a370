use Rattle.std.proofs.Common.{◌≡◌, ℕ, true, List, map, ap, subst, sym, ◌∙◌}
use Rattle.texts.specs.Names.{are_distinct}
use Rattle.texts.proofs.NameLemmas.{are_distinct-each_once}
use Rattle.link_defs.specs.declared.cuts.CutCell.{CutCell}
use Rattle.link_cuts.specs.References.{count_of, named_by}
use Rattle.link_cuts.proofs.references.cut_names.Goals as goal

pub counts_of-requires : goal.counts_of-requires
counts_of-requires c =
    subst (λ (ns : List (List ℕ)). are_distinct ns ≡ true) (sym c.in_ok-references.ensures)
    (are_distinct-each_once (map (λ (x : CutCell). x.cell) c.args.cells.now))

pub returns : goal.returns
returns c =
    let count = count_of c.args.cells.now in
    let names : c.deref.result.now ≡ c.in_ok-references.references = c.deref.ensures.value ∙ c.in_ok-names.ensures in
    let counts : c.in_ok-counts.counts ≡ map count c.deref.result.now = c.in_ok-counts.ensures ∙ ap (map count) (sym names) in
    c.in_ok-list.ensures count counts ∙ ap (map (named_by count)) (names ∙ c.in_ok-references.ensures)
