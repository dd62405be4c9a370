use Rattle.std.proofs.Common.{◌≡◌, ◌∙◌, ◌++◌, ◌∷◌, [], true, false, ℕ, List, sym, refl, ap, subst}
use Rattle.std.proofs.lemmas.Bool.{not-true}
use Rattle.texts.specs.Names.{is_among, are_distinct}
use Rattle.cell_lib.proofs.TextLemmas.{seen, twice_at, names_more, still_distinct}
use Rattle.cell_lib.proofs.readers.twice_named.Goals as goal

pub loop-group-init : goal.loop-group-init
unfolding are_distinct
loop-group-init c = record { table = c.new-table.ensures; distinct = rw c.new-table.ensures refl }

pub returns-then-not-branch : goal.returns-then-not-branch
returns-then-not-branch c =
    let g = c.group-item.result in
    let among : is_among g.name c.loop-group.table ≡ true = seen _ (sym c.in_ok-add.ensures.fresh ∙ c.if-not-branch.true) in
    let before = subst (λ (t : List (List ℕ)). is_among g.name t ≡ true) c.loop-group.invariant.table among in
    rw c.in_ok-copy.ensures (twice_at c.args.groups.now c.loop-group.group-index g c.loop-group-test.true c.group-item.is before)

pub loop-group-preserved : goal.loop-group-preserved
loop-group-preserved c =
    let g = c.group-item.result in
    let absent : is_among g.name c.loop-group.table ≡ false = not-true _ (sym c.in_ok-add.ensures.fresh ∙ c.if-not-branch.false) in
    let grown : c.add.new.self ≡ c.loop-group.table ++ g.name ∷ [] = c.in_ok-add.ensures.ok ∙ rw absent refl in
    record {
      table = grown ∙ ap (λ (t : List (List ℕ)). t ++ g.name ∷ []) c.loop-group.invariant.table
          ∙ sym (names_more c.args.groups.now c.loop-group.group-index g c.loop-group-test.true c.group-item.is);
      distinct = rw grown (still_distinct c.loop-group.table g.name c.loop-group.invariant.distinct absent);
    }
