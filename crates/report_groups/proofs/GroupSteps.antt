-- How the groups of rows are found, one row after another.
use Rattle.std.proofs.Common.{◌≡◌, ◌∙◌, ◌<◌, ◌+◌, ◌++◌, ap, sym, refl, true, false, Bool, ℕ, List, [], ◌∷◌, map, drop, drop-cons, add-one, append_assoc, get_or, length}
use Rattle.std.specs.Prelude.{if◌then◌else◌}
use Rattle.texts.specs.Names.{is_among, with_name}
use Rattle.report_rows.specs.declared.reports.PairRow.{PairRow}
use Rattle.report_groups.specs.Groups.{key_of, firsts, group_by}
use Rattle.report_groups.specs.Firsts.{group_where_first}
use Rattle.report_groups.specs.declared.groups.Group.{Group}

firsts-cons : (names : List (List ℕ)) (r : PairRow) (rs : List PairRow)
    → firsts names (r ∷ rs) ≡ (if is_among (key_of r) names then firsts names rs else r ∷ firsts (with_name names (key_of r)) rs)
unfolding firsts
firsts-cons names r rs = refl

pub firsts-nil : (names : List (List ℕ)) → firsts names [] ≡ []
unfolding firsts
firsts-nil names = refl

-- the groups from a row on: its own, where it is the first, and those from the next row on
pub groups_from : (keys names : List (List ℕ)) (r : PairRow) (rs : List PairRow)
    → map (group_by keys) (firsts names (r ∷ rs)) ≡ group_where_first keys names r ++ map (group_by keys) (firsts (with_name names (key_of r)) rs)
groups_from keys names r rs = go (is_among (key_of r) names) refl
  where
    go : (b : Bool) → is_among (key_of r) names ≡ b
        → map (group_by keys) (firsts names (r ∷ rs)) ≡ group_where_first keys names r ++ map (group_by keys) (firsts (with_name names (key_of r)) rs)
    go true e = ap (map (group_by keys)) (firsts-cons names r rs) ∙ rw e refl
    go false e = ap (map (group_by keys)) (firsts-cons names r rs) ∙ rw e refl

-- one row more
pub groups_more : (whole groups more : List Group) (keys names new : List (List ℕ)) (rows : List PairRow) (i : ℕ) (r : PairRow)
    → whole ≡ groups ++ map (group_by keys) (firsts names (drop i rows)) → i < length rows → r ≡ get_or rows i r
    → new ≡ with_name names (key_of r) → more ≡ groups ++ group_where_first keys names r
    → whole ≡ more ++ map (group_by keys) (firsts new (drop (i + 1) rows))
groups_more whole groups more keys names new rows i r is below at seen added =
    let next : drop i rows ≡ r ∷ drop (i + 1) rows =
    drop-cons rows i r below ∙ ap (λ n. get_or rows i r ∷ drop n rows) (sym (add-one i)) ∙ ap (λ (x : PairRow). x ∷ drop (i + 1) rows) (sym at) in
    is ∙ ap (λ (rs : List PairRow). groups ++ map (group_by keys) (firsts names rs)) next
    ∙ ap (λ (gs : List Group). groups ++ gs) (groups_from keys names r (drop (i + 1) rows))
    ∙ sym (append_assoc groups (group_where_first keys names r) _)
    ∙ ap (λ (gs : List Group). gs ++ map (group_by keys) (firsts (with_name names (key_of r)) (drop (i + 1) rows))) (sym added)
    ∙ ap (λ (ns : List (List ℕ)). more ++ map (group_by keys) (firsts ns (drop (i + 1) rows))) (sym seen)
