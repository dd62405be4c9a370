-- Lists of which each item has to give a value, item by item.
use Rattle.std.proofs.Common.{arith, ◌≡◌, ℕ, zero, suc, ◌+◌, ◌<◌, List, [], ◌∷◌, ◌++◌, length, take, get_or, All, refl, sym, ap, ◌∙◌, subst}
use Rattle.std.specs.Prelude.{Option, Some, None}
use Rattle.std.proofs.lemmas.List.{take_more, get_or_default}
use Rattle.std.proofs.lemmas.List.Elements.{All-cons, All-nil, All-head, All-tail}
use Rattle.texts.specs.Reads.{each, ◌>>=◌}
use Rattle.texts.proofs.ReadLemmas.{bind_gave}

-- one more item at the end
pub each-append : {A B : Type 0} (give : A → Option B) (xs : List A) (x : A) → each give (xs ++ x ∷ []) ≡
    (each give xs >>= λ ys. give x >>= λ y. Some (ys ++ y ∷ []))
unfolding each
each-append give [] x = elim (give x) as (λ o. (o >>= λ y. Some (y ∷ [])) ≡ (o >>= λ y. Some (y ∷ []))) [ None ↦ refl | Some y ↦ refl ]
each-append {A} {B} give (a ∷ xs) x =
    elim (give a) as (λ o. (o >>= λ y. each give (xs ++ x ∷ []) >>= λ ys. Some (y ∷ ys)) ≡
    ((o >>= λ y. each give xs >>= λ ys. Some (y ∷ ys)) >>= λ ys. give x >>= λ y. Some (ys ++ y ∷ []))) [
      | None ↦ refl
      | Some b ↦ rw (each-append give xs x) (elim (each give xs) as
          (λ o. ((o >>= λ ys. give x >>= λ y. Some (ys ++ y ∷ [])) >>= λ ys. Some (b ∷ ys)) ≡ ((o >>= λ ys. Some (b ∷ ys)) >>= λ ys. give x >>= λ y.
          Some (ys ++ y ∷ []))) [
            | None ↦ refl
            | Some bs ↦ elim (give x) as (λ o. ((o >>= λ y. Some (bs ++ y ∷ [])) >>= λ ys. Some (b ∷ ys)) ≡ (o >>= λ y. Some ((b ∷ bs) ++ y ∷ [])))
                [ None ↦ refl | Some y ↦ refl ]
          ])
    ]

-- no item is asked
pub each_none : {A B : Type 0} (give : A → Option B) → each give [] ≡ Some []
unfolding each
each_none give = refl

-- the value of the next item is found too
pub each_more : {A B : Type 0} (give : A → Option B) (xs : List A) (i : ℕ) (x : A) (found : List B) (y : B)
    → i < length xs → x ≡ get_or xs i x → each give (take i xs) ≡ Some found → give x ≡ Some y → each give (take (i + 1) xs) ≡ Some (found ++ y ∷ [])
each_more give xs i x found y here is so_far gives =
    let next : take (i + 1) xs ≡ take i xs ++ x ∷ [] = take_more xs i x here ∙ ap (λ z. take i xs ++ z ∷ []) (sym is) in
    ap (each give) next ∙ each-append give (take i xs) x ∙ rw (so_far, gives) refl

-- the next item gives nothing
pub each_bad : {A B : Type 0} (give : A → Option B) (xs : List A) (i : ℕ) (x : A)
    → i < length xs → x ≡ get_or xs i x → give x ≡ None → each give xs ≡ None
unfolding each
each_bad give [] i x here is none = absurd (omega arith)
each_bad give (a ∷ xs) zero x here is none = let e : give a ≡ None = subst (λ v. give v ≡ None) is none in rw e refl
each_bad {A} {B} give (a ∷ xs) (suc i) x here is none =
    let rest = each_bad give xs i x (omega arith) is none in
    elim (give a) as (λ o. (o >>= λ y. each give xs >>= λ ys. Some (y ∷ ys)) ≡ None) [ None ↦ refl | Some y ↦ rw rest refl ]

-- the same for an item that is read at its place
pub each_more_at : {A B : Type 0} (give : A → Option B) (xs : List A) (i : ℕ) (d : A) (found : List B) (y : B)
    → i < length xs → each give (take i xs) ≡ Some found → give (get_or xs i d) ≡ Some y → each give (take (i + 1) xs) ≡ Some (found ++ y ∷ [])
each_more_at give xs i d found y here so_far gives =
    ap (each give) (take_more xs i d here) ∙ each-append give (take i xs) (get_or xs i d) ∙ rw (so_far, gives) refl

pub each_bad_at : {A B : Type 0} (give : A → Option B) (xs : List A) (i : ℕ) (d : A)
    → i < length xs → give (get_or xs i d) ≡ None → each give xs ≡ None
each_bad_at give xs i d here none = each_bad give xs i (get_or xs i d) here (sym (get_or_default xs i (get_or xs i d) d here)) none

-- the values of a first item and of the rest
pub each_inverted : {A B : Type 0} (give : A → Option B) (x : A) (xs : List A) (ys : List B) → each give (x ∷ xs) ≡ Some ys
    → (y : B) × (zs : List B) × (give x ≡ Some y) × (each give xs ≡ Some zs) × (y ∷ zs ≡ ys)
unfolding each
each_inverted give x xs ys e =
    let (y, first, more) = bind_gave (give x) _ ys e in
    let (zs, rest, made) = bind_gave (each give xs) _ ys more in
    (y, zs, first, rest, cc)

pub each_nil : {A B : Type 0} (give : A → Option B) (ys : List B) → each give [] ≡ Some ys → [] ≡ ys
unfolding each
each_nil give ys e = cc

pub each_length : {A B : Type 0} (give : A → Option B) (xs : List A) (ys : List B) → each give xs ≡ Some ys → length ys ≡ length xs
each_length {A} {B} give [] ys e = ap length (sym (each_nil give ys e))
each_length give (x ∷ xs) ys e =
    let (y, zs, first, rest, made) = each_inverted give x xs ys e in
    sym (ap length made) ∙ ap suc (each_length give xs zs rest)

-- what holds of each value that an item gives holds of all that are found
pub each_all : {A B : Type 0} (P : A → Type 0) (Q : B → Type 0) (give : A → Option B) → ((x : A) (y : B) → P x → give x ≡ Some y → Q y)
    → (xs : List A) (ys : List B) → All P xs → each give xs ≡ Some ys → All Q ys
each_all P Q give through [] ys all e = let same = each_nil give ys e in subst (λ zs. All Q zs) same (All-nil Q)
each_all P Q give through (x ∷ xs) ys all e =
    let (y, zs, first, rest, made) = each_inverted give x xs ys e in
    subst (λ l. All Q l) made (All-cons Q y zs (through x y (All-head P x xs all) first) (each_all P Q give through xs zs (All-tail P x xs all) rest))

-- a first value and the rest
pub each_cons : {A B : Type 0} (give : A → Option B) (x : A) (xs : List A) (y : B) (ys : List B) → give x ≡ Some y → each give xs ≡ Some ys
    → each give (x ∷ xs) ≡ Some (y ∷ ys)
unfolding each
each_cons give x xs y ys first rest = rw (first, rest) refl

-- the values of two lists, one after the other
pub each_both : {A B : Type 0} (give : A → Option B) (xs ys : List A) (os bs : List B) → each give xs ≡ Some os → each give ys ≡ Some bs
    → each give (xs ++ ys) ≡ Some (os ++ bs)
each_both give [] ys os bs first second = let same = each_nil give os first in second ∙ ap (λ l. Some (l ++ bs)) same
each_both give (x ∷ xs) ys os bs first second =
    let (y, zs, one, rest, made) = each_inverted give x xs os first in
    each_cons give x (xs ++ ys) y (zs ++ bs) one (each_both give xs ys zs bs rest second) ∙ ap (λ l. Some (l ++ bs)) made

-- what holds of each value that is given holds of all that are found
pub each_holds : {A B : Type 0} (Q : B → Type 0) (give : A → Option B) → ((x : A) (y : B) → give x ≡ Some y → Q y) → (xs : List A) (ys : List B)
    → each give xs ≡ Some ys → All Q ys
each_holds Q give through [] ys e = let same = each_nil give ys e in subst (λ l. All Q l) same (All-nil Q)
each_holds Q give through (x ∷ xs) ys e =
    let (y, zs, first, rest, made) = each_inverted give x xs ys e in
    subst (λ l. All Q l) made (All-cons Q y zs (through x y first) (each_holds Q give through xs zs rest))
