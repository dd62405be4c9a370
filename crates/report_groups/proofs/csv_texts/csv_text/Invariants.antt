use Rattle.std.proofs.Common.{◌≡◌, ◌++◌, take}
use Rattle.std.specs.Prelude.{flat_map}
use Rattle.report_groups.specs.Csv.{record_text, fields_of, titles}
use Rattle.report_groups.proofs.csv_texts.csv_text.Given as goal

abbrev pub invariant-loop-group : goal.invariant-loop-group
invariant-loop-group l = l.out.items ≡ record_text titles ++ flat_map (λ g. record_text (fields_of g)) (take l.group-index l.group-items)
