use Rattle.std.proofs.Common.{ℕ, List, ap, sym, ◌∙◌}
use Rattle.texts.specs.Names.{with_names}
use Rattle.link_defs.specs.Hierarchy.{refs}
use Rattle.link_tops.proofs.Topping.{names_more}
use Rattle.link_tops.proofs.tops.add_refs.Goals as goal

pub loop-k-preserved : goal.loop-k-preserved
loop-k-preserved c =
    c.in_ok-add_ref.ensures ∙ ap (λ (ns : List (List ℕ)). with_names ns (refs c.item.result.now)) c.loop-k.invariant
    ∙ sym (names_more refs c.args.names.now c.args.body.now.items c.loop-k.k c.item.result.now c.item.ensures)
