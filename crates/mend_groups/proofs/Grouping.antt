-- The pairs of a start more, among the groups.
use Rattle.std.proofs.Common.{arith, ◌≡◌, ◌∙◌, ℕ, suc, ◌+◌, ◌<◌, ◌≤◌, Bool, true, false, List, [], ◌∷◌, ◌++◌, length, take, drop, get_or, set, refl, sym, ap, subst, append_assoc}
use Rattle.std.specs.Prelude.{Some, slice_get, IfSome}
use Rattle.std.proofs.lemmas.List.{drop_more, drop_all, take_more, take_all, set_split}
use Rattle.std.proofs.lemmas.Option.{slice_get-get_or, MatchOption-at_some}
use Rattle.mend_groups.specs.declared.rows.Row.{Row}
use Rattle.mend_groups.specs.declared.groups.Group.{Group}
use Rattle.mend_groups.specs.Groups.{fits_in, group_of, with_star}

-- a group with which they do not go stays as it is
goes_on : (g : Group) (groups : List Group) (star : List Row) → fits_in star g ≡ false → with_star (g ∷ groups) star ≡ g ∷ with_star groups star
unfolding with_star
goes_on g groups star not = rw not refl

-- the first one with which they go gets them
stops_at : (g : Group) (groups : List Group) (star : List Row) → fits_in star g ≡ true
    → with_star (g ∷ groups) star ≡ record { stars = g.stars ++ star ∷ [] } ∷ groups
unfolding with_star
stops_at g groups star fits = rw fits refl

pub passed_more : (groups : List Group) (star : List Row) (k : ℕ) (g : Group) (fits : Bool) → k < length groups → g ≡ get_or groups k g
    → fits ≡ fits_in star g → fits ≡ false → with_star groups star ≡ take k groups ++ with_star (drop k groups) star
    → with_star groups star ≡ take (k + 1) groups ++ with_star (drop (k + 1) groups) star
passed_more groups star k g fits low here made not before =
    let rest : List Group = drop (k + 1) groups in
    let next : drop k groups ≡ g ∷ rest = drop_more groups k g low ∙ ap (λ (x : Group). x ∷ rest) (sym here) in
    let front : take (k + 1) groups ≡ take k groups ++ g ∷ [] = take_more groups k g low ∙ ap (λ (x : Group). take k groups ++ x ∷ []) (sym here) in
    before
    ∙ ap (λ (gs : List Group). take k groups ++ with_star gs star) next
    ∙ ap (λ (gs : List Group). take k groups ++ gs) (goes_on g rest star (sym made ∙ not))
    ∙ sym (append_assoc (take k groups) (g ∷ []) (with_star rest star))
    ∙ ap (λ (gs : List Group). gs ++ with_star rest star) (sym front)

pub joined : (groups : List Group) (star : List Row) (k : ℕ) (g : Group) (stars : List (List Row)) → k < length groups → g ≡ get_or groups k g
    → IfSome (slice_get groups k) (λ (x : Group). fits_in star x ≡ true) → with_star groups star ≡ take k groups ++ with_star (drop k groups) star
    → stars ≡ g.stars ++ star ∷ [] → set groups k (record { stars = stars }) ≡ with_star groups star
joined groups star k g stars low here fits before made =
    let rest : List Group = drop (k + 1) groups in
    let next : drop k groups ≡ g ∷ rest = drop_more groups k g low ∙ ap (λ (x : Group). x ∷ rest) (sym here) in
    let at : slice_get groups k ≡ Some g = slice_get-get_or groups k g low ∙ ap (λ (x : Group). Some x) (sym here) in
    let goes : fits_in star g ≡ true = MatchOption-at_some (Unit {0}) (λ (x : Group). fits_in star x ≡ true) g at fits in
    let one : k + 1 ≡ suc k = omega arith in
    sym (before
    ∙ ap (λ (gs : List Group). take k groups ++ with_star gs star) next
    ∙ ap (λ (gs : List Group). take k groups ++ gs) (stops_at g rest star goes)
    ∙ ap (λ (x : List (List Row)). take k groups ++ (record { stars = x } ∷ rest)) (sym made)
    ∙ ap (λ (n : ℕ). take k groups ++ (record { stars = stars } ∷ drop n groups)) one
    ∙ sym (set_split groups k (record { stars = stars }) low))

pub begun : (groups new : List Group) (star : List Row) (k : ℕ) (stars : List (List Row)) → length groups ≤ k
    → with_star groups star ≡ take k groups ++ with_star (drop k groups) star → new ≡ groups ++ record { stars = stars } ∷ [] → stars ≡ star ∷ []
    → new ≡ with_star groups star
unfolding with_star
begun groups new star k stars past before pushed one =
    pushed ∙ ap (λ (x : List (List Row)). groups ++ record { stars = x } ∷ []) one
    ∙ ap (λ (gs : List Group). gs ++ group_of star ∷ []) (sym (take_all k groups past))
    ∙ ap (λ (gs : List Group). take k groups ++ with_star gs star) (sym (drop_all k groups past))
    ∙ sym before

-- the same of equal lists
pub passed_in : (seen groups : List Group) (of star : List Row) (k : ℕ) → seen ≡ groups → of ≡ star
    → with_star seen of ≡ take k seen ++ with_star (drop k seen) of → with_star groups star ≡ take k groups ++ with_star (drop k groups) star
passed_in seen groups of star k same is before =
    let first = subst (λ (gs : List Group). with_star gs of ≡ take k gs ++ with_star (drop k gs) of) same before in
    subst (λ (rows : List Row). with_star groups rows ≡ take k groups ++ with_star (drop k groups) rows) is first

pub fits_at : (seen groups : List Group) (of star : List Row) (k : ℕ) → seen ≡ groups → of ≡ star
    → IfSome (slice_get seen k) (λ (x : Group). fits_in of x ≡ true) → IfSome (slice_get groups k) (λ (x : Group). fits_in star x ≡ true)
fits_at seen groups of star k same is before =
    let first = subst (λ (gs : List Group). IfSome (slice_get gs k) (λ (x : Group). fits_in of x ≡ true)) same before in
    subst (λ (rows : List Row). IfSome (slice_get groups k) (λ (x : Group). fits_in rows x ≡ true)) is first
