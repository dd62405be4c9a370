-- What was asked for and printed, step by step.
use Rattle.std.proofs.Common.{arith, ◌≡◌, ℕ, ◌+◌, ◌<◌, zero, suc, List, [], ◌∷◌, ◌++◌, length, take, get_or, Option, None, Some}
use Rattle.std.proofs.Common.{refl, ap, sym, ◌∙◌, append_assoc, min}
use Rattle.std.proofs.lemmas.List.{append-nil, take-append-le, take_min}
use Rattle.std.proofs.Math.Seq.{take-append-add}
use Rattle.std.specs.List.{flat_map}
use Rattle.sdcv_base.specs.Hosts.{grown}
use Rattle.sdcv_top.specs.Reads.{ReadOf, Asked, first_names}
use Rattle.sdcv_top.specs.Runs.{AskedSome}

-- nothing more
pub grown-nil : {A : Type 0} (told : Option (List A)) → grown told [] ≡ told
grown-nil None = refl
grown-nil (Some xs) = ap Some (append-nil xs)

-- more, and more
pub grown-grown : {A : Type 0} (told : Option (List A)) (xs ys : List A) → grown (grown told xs) ys ≡ grown told (xs ++ ys)
grown-grown None xs ys = refl
grown-grown (Some zs) xs ys = ap Some (append_assoc zs xs ys)

-- one name, and then the first of more
pub grown-more : (file : ReadOf) (more : List ReadOf) (count : ℕ) (before mid now : Asked) → mid ≡ grown before (file.name ∷ [])
    → now ≡ grown mid (first_names count more) → now ≡ grown before (first_names (suc count) (file ∷ more))
grown-more file more count before mid now one rest =
    rest ∙ ap (λ o. grown o (first_names count more)) one ∙ grown-grown before (file.name ∷ []) (first_names count more)

-- nothing was asked for
pub asked_none : (files_of : List ReadOf) (before now : Asked) → now ≡ before → AskedSome files_of before now
asked_none files_of before now same = record { count = 0; asked = same ∙ sym (grown-nil before) }

-- one name was asked for
pub asked_one : (file : ReadOf) (more : List ReadOf) (before now : Asked) → now ≡ grown before (file.name ∷ []) → AskedSome (file ∷ more) before now
asked_one file more before now one = record { count = 1; asked = one }

-- one name, and then some
pub asked_more : (file : ReadOf) (more : List ReadOf) (before mid now : Asked) → mid ≡ grown before (file.name ∷ []) → AskedSome more mid now
    → AskedSome (file ∷ more) before now
asked_more file more before mid now one some =
    record { count = suc some.count; asked = grown-more file more some.count before mid now one some.asked }

none_taken : (n : ℕ) → take n (let xs : List (List ℕ) = [] in xs) ≡ []
none_taken zero = refl
none_taken (suc n) = refl

wider_by_count : (file : ReadOf) (more : List ReadOf) (before now : Asked) (n : ℕ) → now ≡ grown before (first_names n (file ∷ []))
    → AskedSome (file ∷ more) before now
wider_by_count file more before now zero first = record { count = 0; asked = first }
wider_by_count file more before now (suc n) first = record { count = 1; asked = first ∙ ap (λ xs. grown before (file.name ∷ xs)) (none_taken n) }

-- some of one file are some of more files
pub asked_wider : (file : ReadOf) (more : List ReadOf) (before now : Asked) → AskedSome (file ∷ []) before now → AskedSome (file ∷ more) before now
asked_wider file more before now some = wider_by_count file more before now some.count some.asked

-- the pieces before one, and a front of that one, are a front of all of them
pub front_of_pieces : {X : Type 0} (f : X → List ℕ) (xs : List X) (i m : ℕ) (d : X) → i < length xs
    → (n : ℕ) × (take n (flat_map f xs) ≡ flat_map f (take i xs) ++ take m (f (get_or xs i d)))
front_of_pieces f [] i m d here = absurd (omega arith)
front_of_pieces f (x ∷ xs) zero m d here =
    (min m (length (f x)), take-append-le (min m (length (f x))) (f x) (flat_map f xs) (omega arith) ∙ take_min m (f x))
front_of_pieces f (x ∷ xs) (suc i) m d here =
    let rest = front_of_pieces f xs i m d (omega arith) in
    let apart = sym (append_assoc (f x) (flat_map f (take i xs)) (take m (f (get_or xs i d)))) in
    (length (f x) + rest.0, take-append-add (f x) (flat_map f xs) rest.0 ∙ ap (λ ys. f x ++ ys) rest.1 ∙ apart)
