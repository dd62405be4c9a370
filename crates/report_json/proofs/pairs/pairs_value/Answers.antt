use Rattle.std.proofs.Common.{◌≡◌, ◌+◌, ◌∙◌, ◌++◌, ◌∷◌, [], List, map, ap, arith}
use Rattle.std.proofs.lemmas.List.{map-append}
use Rattle.serde_json.specs.Data.{Data, array}
use Rattle.serde_json.specs.View.{view, items_of}
use Rattle.serde_json.specs.declared.value.Value.{Value}
use Rattle.report_text.proofs.Rowing.{row_added, rows_end}
use Rattle.report_json.specs.Reports.{one_pair}
use Rattle.report_json.proofs.pairs.pairs_value.Goals as goal

pub loop-k-preserved : goal.loop-k-preserved
loop-k-preserved c =
    let pushed : map view c.push.new.self.items ≡ map view c.loop-k.list.items ++ view c.in_ok-value.value ∷ [] =
    ap (λ (l : List Value). map view l) c.in_ok-push.ensures.items ∙ map-append view c.loop-k.list.items (c.in_ok-value.value ∷ []) in
    row_added (one_pair c.args.limit) _ c.loop-k.k c.args.selected.now.pairs c.args.selected.now.claims c.args.verdicts.now _ _ _ _
    (map view c.loop-k.list.items) (map view c.push.new.self.items) c.row_at.ensures.pair c.row_at.ensures.claim c.row_at.ensures.verdict
    c.row_at.ensures.number (pushed ∙ ap (λ (d : Data). map view c.loop-k.list.items ++ d ∷ []) c.in_ok-value.ensures) c.loop-k.invariant

pub returns : goal.returns
returns c =
    let whole = rows_end (one_pair c.args.limit) (c.loop-k.k + 1) c.loop-k.k c.args.selected.now.pairs c.args.selected.now.claims c.args.verdicts.now _
    (map view c.loop-k.list.items) (omega (arith, c.requires.found)) c.loop-k.invariant in
    c.array_of.ensures ∙ ap (λ (l : List Data). array (items_of l)) whole
