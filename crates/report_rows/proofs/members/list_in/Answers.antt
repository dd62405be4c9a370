use Rattle.std.proofs.Common.{◌∙◌, ap, sym, map, List, Some}
use Rattle.std.specs.Option.{option_map}
use Rattle.serde_json.specs.Data.{Data}
use Rattle.serde_json.specs.View.{view}
use Rattle.report_rows.specs.Members.{list_of}
use Rattle.report_rows.proofs.Steps.{list_of-items_of}
use Rattle.report_rows.proofs.members.list_in.Goals as goal

pub returns-in-Some : goal.returns-in-Some
returns-in-Some c =
    ap (λ (l : List Data). Some l) (ap (map view) c.as_slice.ensures.value ∙ sym (list_of-items_of (map view c.in-Some.list.now.items)))
    ∙ ap (option_map list_of) c.in-Some.ensures
