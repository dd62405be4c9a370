use Rattle.std.proofs.Common.{◌≡◌, ◌∙◌, ◌++◌, ◌∷◌, [], List, map, ap, arith}
use Rattle.std.proofs.lemmas.List.{map-append}
use Rattle.serde_json.specs.Data.{Data, array}
use Rattle.serde_json.specs.View.{view, items_of}
use Rattle.serde_json.specs.declared.value.Value.{Value}
use Rattle.list_laws.proofs.Joining.{added, added_all}
use Rattle.report_json.specs.Reports.{one_command}
use Rattle.report_json.proofs.commands.commands_value.Goals as goal

pub loop-k-preserved : goal.loop-k-preserved
loop-k-preserved c =
    let pushed : map view c.push.new.self.items ≡ map view c.loop-k.list.items ++ view c.in_ok-value.value ∷ [] =
    ap (λ (l : List Value). map view l) c.in_ok-push.ensures.items ∙ map-append view c.loop-k.list.items (c.in_ok-value.value ∷ []) in
    added one_command c.args.commands.now [] (map view c.loop-k.list.items) (map view c.push.new.self.items) c.loop-k.k _ c.item.ensures
    c.loop-k.invariant (pushed ∙ ap (λ (d : Data). map view c.loop-k.list.items ++ d ∷ []) c.in_ok-value.ensures)

pub returns : goal.returns
returns c =
    c.array_of.ensures ∙ ap (λ (l : List Data). array (items_of l)) (added_all one_command c.args.commands.now [] (map view c.loop-k.list.items) c.loop-k.k (omega arith) c.loop-k.invariant)
