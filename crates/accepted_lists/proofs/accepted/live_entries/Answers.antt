use Rattle.std.proofs.Common.{◌∙◌, ◌++◌, ap, sym, arith, get_or, List, [], ◌∷◌}
use Rattle.std.specs.Prelude.{filter}
use Rattle.std.proofs.lemmas.List.Elements.{filter_more}
use Rattle.accepted_lists.specs.Accepted.{is_live}
use Rattle.accepted_lists.specs.declared.pair_entries.PairEntry.{PairEntry}
use Rattle.accepted_lists.proofs.accepted.live_entries.Goals as goal

pub loop-entry-preserved : goal.loop-entry-preserved
loop-entry-preserved c =
    let entries = c.args.entries.now in let i = c.loop-entry.entry-index in let entry = c.entry-item.result in
    let p = is_live c.args.report.now entries in
    c.in_ok-add_live.ensures
    ∙ ap (λ (e : PairEntry). c.loop-entry.live.items ++ filter p (e ∷ [])) c.entry-item.is
    ∙ ap (λ (es : List PairEntry). es ++ filter p (get_or entries i entry ∷ [])) c.loop-entry.invariant
    ∙ sym (filter_more p entries i entry (omega arith))
