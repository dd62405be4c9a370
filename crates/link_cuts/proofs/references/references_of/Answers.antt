use Rattle.std.proofs.Common.{List, ℕ, ap, sym, ◌∙◌}
use Rattle.texts.specs.Names.{with_name}
use Rattle.link_cuts.proofs.Counted.{references_next}
use Rattle.link_cuts.proofs.references.references_of.Goals as goal

pub loop-k-preserved : goal.loop-k-preserved
loop-k-preserved c =
    let x = c.item.result.now in
    c.in_ok-add.ensures.ok ∙ ap (λ (ns : List (List ℕ)). with_name ns x.cell) c.loop-k.invariant
    ∙ sym (references_next c.args.cells.now c.loop-k.k x c.item.ensures)
