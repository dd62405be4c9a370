-- Exceptions that no script gives yet, as JSON, written by hand.
use Rattle.std.proofs.Common.{◌≡◌, [], ◌∷◌, refl}
use Rattle.std.specs.Prelude.{codes}
use Rattle.std.specs.Fmt.{digits}
use Rattle.serde_json.specs.Data.{array, item, member, no_items, no_members, object, string}
use Rattle.sdcv_base.specs.declared.kinds.Edge.TheVariants.{Rise}
use Rattle.selected_types.specs.declared.warnings.Warning.TheVariants.{Several, Crossed, Beyond}
use Rattle.selected_types.specs.declared.selections.Listing.TheVariants.{HoldSide}
use Rattle.selected_types.specs.declared.selections.CommandLine.{CommandLine}
use Rattle.report_json.specs.Reports.{command_data, count_data}

abbrev hold_side : CommandLine
hold_side = record { line = 6; listing = HoldSide Rise 4; warnings = Several (codes "a") ∷ Beyond 12 ∷ Crossed 3 ∷ [] }

hold_sides_and_what_is_cut :
    command_data 2 hold_side
    ≡ object (member (codes "line") (count_data 6) (member (codes "number") (count_data 3) (member (codes "pairs") (count_data 4)
    (member (codes "warnings") (array (item (string (codes "several a")) (item (string (codes "beyond 12")) (item (string (codes "crossed 3")) no_items))))
    (member (codes "what") (string (codes "false hold rise")) no_members)))))
unfolding digits
hold_sides_and_what_is_cut = refl
