-- Tables of names that grow.
use Rattle.std.proofs.Common.{◌≡◌, ℕ, List, ◌++◌}
use Rattle.std.proofs.lemmas.List.Sums.{fold-append}
use Rattle.texts.specs.Names.{with_name, with_names}

-- names and further ones after them
pub with_names_both : (names xs ys : List (List ℕ)) → with_names names (xs ++ ys) ≡ with_names (with_names names xs) ys
with_names_both names xs ys = fold-append with_name names xs ys
