use Rattle.std.proofs.Common.{ℕ, List, [], ap, sym, ◌∙◌}
use Rattle.texts.specs.Names.{with_names}
use Rattle.link_tops.specs.Tops.{refs_of}
use Rattle.link_tops.proofs.Topping.{names_more}
use Rattle.link_tops.proofs.tops.used_names.Goals as goal

pub loop-k-preserved : goal.loop-k-preserved
loop-k-preserved c =
    c.in_ok-add_refs.ensures ∙ ap (λ (ns : List (List ℕ)). with_names ns (refs_of c.item.result.now)) c.loop-k.invariant
    ∙ sym (names_more refs_of [] c.args.source.now.modules c.loop-k.k c.item.result.now c.item.ensures)
