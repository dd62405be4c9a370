-- How a reading goes on, one row after another.
use Rattle.std.proofs.Common.{◌≡◌, ◌∙◌, ap, sym, refl, true, false, Bool, List, [], ◌∷◌, Option, None, Some}
use Rattle.texts.specs.Reads.{◌>>=◌}
use Rattle.report_rows.specs.Words.{when}
use Rattle.serde_json.specs.Data.{Data}
use Rattle.serde_json.specs.View.{items_of}
use Rattle.report_rows.specs.Members.{with_all, list_of}

-- where a step fits, what it gave goes on
pub fits_on : {S R : Type 0} (fits : Bool) (new : S) (o : Option S) (f : S → Option R) → fits ≡ true → when fits new ≡ o → (o >>= f) ≡ f new
fits_on fits new o f fit is = ap (λ p. p >>= f) (sym is) ∙ ap (λ b. when b new >>= f) fit

pub fits_none : {S R : Type 0} (fits : Bool) (new : S) (o : Option S) (f : S → Option R) → fits ≡ false → when fits new ≡ o → (o >>= f) ≡ None
fits_none fits new o f never is = ap (λ p. p >>= f) (sym is) ∙ ap (λ b. when b new >>= f) never

pub with_all-cons : {S A : Type 0} (adds : S → A → Option S) (found : S) (x : A) (xs : List A)
    → with_all adds found (x ∷ xs) ≡ (adds found x >>= λ more. with_all adds more xs)
unfolding with_all
with_all-cons adds found x xs = refl

pub with_all-nil : {S A : Type 0} (adds : S → A → Option S) (found : S) → with_all adds found [] ≡ Some found
unfolding with_all
with_all-nil adds found = refl

-- one item more is added
pub all_more : {S A : Type 0} (adds : S → A → Option S) (whole : Option S) (found new : S) (xs later : List A) (x : A) (fits : Bool)
    → whole ≡ with_all adds found xs → xs ≡ x ∷ later → when fits new ≡ adds found x → fits ≡ true → whole ≡ with_all adds new later
all_more {S = S} adds whole found new xs later x fits is next step fit =
    is ∙ ap (with_all adds found) next ∙ with_all-cons adds found x later ∙ fits_on fits new (adds found x) (λ (m : S). with_all adds m later) fit step

-- one that can't be added ends it
pub all_none : {S A : Type 0} (adds : S → A → Option S) (whole : Option S) (found new : S) (xs later : List A) (x : A) (fits : Bool)
    → whole ≡ with_all adds found xs → xs ≡ x ∷ later → when fits new ≡ adds found x → fits ≡ false → None ≡ whole
all_none {S = S} adds whole found new xs later x fits is next step never =
    sym (is ∙ ap (with_all adds found) next ∙ with_all-cons adds found x later ∙ fits_none fits new (adds found x) (λ (m : S). with_all adds m later) never step)

-- where none is left it is done
pub all_done : {S A : Type 0} (adds : S → A → Option S) (whole : Option S) (found : S) (xs : List A) → whole ≡ with_all adds found xs → xs ≡ [] → Some found ≡ whole
all_done adds whole found xs is none = sym (is ∙ ap (with_all adds found) none ∙ with_all-nil adds found)

-- an array's values are those that it was made of
pub list_of-items_of : (ds : List Data) → list_of (items_of ds) ≡ ds
list_of-items_of [] = refl
list_of-items_of (d ∷ ds) = ap (λ (l : List Data). d ∷ l) (list_of-items_of ds)
