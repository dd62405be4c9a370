-- The first row of a group.
use Rattle.std.specs.Prelude.{ℕ, List, [], ◌∷◌, if◌then◌else◌}
use Rattle.texts.specs.Names.{is_among}
use Rattle.report_rows.specs.declared.reports.PairRow.{PairRow}
use Rattle.report_groups.specs.Groups.{key_of, group_by}
use Rattle.report_groups.specs.declared.groups.Group.{Group}

-- the group of a row whose key is none of the names; none for another row
abbrev pub group_where_first : List (List ℕ) → List (List ℕ) → PairRow → List Group
group_where_first keys names r = if is_among (key_of r) names then [] else group_by keys r ∷ []
