-- Lists of those of which something holds.
use Rattle.std.proofs.Common.{◌≡◌, ℕ, suc, ◌+◌, ◌<◌, ◌≤◌, List, [], ◌∷◌, ◌++◌, length, take, map, get_or, refl, sym, ap, subst, append-nil}
use Rattle.std.proofs.lemmas.List.{take_more, take_all}
use Rattle.std.specs.Prelude.{Some, slice_get}
use Rattle.net_paths.specs.Those.{AreThose, All_seen, Taken, Left_out}

pub those_append : {A : Type 0} (P : A → Type 0) (xs ys zs ws : List A) → AreThose P xs ys → AreThose P zs ws → AreThose P (xs ++ zs) (ys ++ ws)
those_append P _ _ zs ws All_seen more = more
those_append P _ _ zs ws (Taken x xs ys holds rest) more = Taken x (xs ++ zs) (ys ++ ws) holds (those_append P xs ys zs ws rest more)
those_append P _ _ zs ws (Left_out x xs ys not rest) more = Left_out x (xs ++ zs) (ys ++ ws) not (those_append P xs ys zs ws rest more)

pub those_taken : {A : Type 0} (P : A → Type 0) (xs found : List A) (i : ℕ) (d : A) → i < length xs → P (get_or xs i d) → AreThose P (take i xs) found
    → AreThose P (take (i + 1) xs) (found ++ get_or xs i d ∷ [])
those_taken {A} P xs found i d here holds those =
    subst (λ (l : List A). AreThose P l (found ++ get_or xs i d ∷ [])) (sym (take_more xs i d here))
    (those_append P (take i xs) found (get_or xs i d ∷ []) (get_or xs i d ∷ []) those (Taken (get_or xs i d) [] [] holds All_seen))

pub those_left_out : {A : Type 0} (P : A → Type 0) (xs found : List A) (i : ℕ) (d : A) → i < length xs → ¬ P (get_or xs i d)
    → AreThose P (take i xs) found → AreThose P (take (i + 1) xs) found
those_left_out {A} P xs found i d here not those =
    subst (λ (l : List A). AreThose P l found) (sym (take_more xs i d here))
    (subst (AreThose P (take i xs ++ get_or xs i d ∷ [])) (append-nil found)
    (those_append P (take i xs) found (get_or xs i d ∷ []) [] those (Left_out (get_or xs i d) [] [] not All_seen)))

pub those_all : {A : Type 0} (P : A → Type 0) (xs found : List A) (i : ℕ) → length xs ≤ i → AreThose P (take i xs) found → AreThose P xs found
those_all {A} P xs found i past those = subst (λ (l : List A). AreThose P l found) (take_all i xs past) those

-- there is one such list alone
pub those_same : {A : Type 0} (P : A → Type 0) (xs ys zs : List A) → AreThose P xs ys → AreThose P xs zs → ys ≡ zs
those_same P _ _ _ All_seen All_seen = refl
those_same P _ _ _ (Taken x xs ys holds rest) (Taken x' xs' zs holds' rest') = ap (λ l. x ∷ l) (those_same P xs ys zs rest rest')
those_same P _ _ _ (Taken x xs ys holds rest) (Left_out x' xs' zs not rest') = absurd (not holds)
those_same P _ _ _ (Left_out x xs ys not rest) (Taken x' xs' zs holds rest') = absurd (not holds)
those_same P _ _ _ (Left_out x xs ys not rest) (Left_out x' xs' zs not' rest') = those_same P xs ys zs rest rest'

-- those of those
pub those_within : {A : Type 0} (P Q : A → Type 0) (xs ys zs : List A) → AreThose P xs ys → AreThose Q ys zs → AreThose (λ x. P x × Q x) xs zs
those_within P Q _ _ _ All_seen All_seen = All_seen
those_within P Q _ _ zs (Left_out x xs ys not rest) more = Left_out x xs zs (λ both. not both.0) (those_within P Q xs ys zs rest more)
those_within P Q _ _ _ (Taken x xs ys holds rest) (Taken x' ys' zs also more) = Taken x xs zs (holds, also) (those_within P Q xs ys zs rest more)
those_within P Q _ _ _ (Taken x xs ys holds rest) (Left_out x' ys' zs not more) = Left_out x xs zs (λ both. not both.1) (those_within P Q xs ys zs rest more)

-- where it holds of nothing
pub those_none : {A : Type 0} (P : A → Type 0) (xs : List A) → ((x : A) → ¬ P x) → AreThose P xs []
those_none P [] never = All_seen
those_none P (x ∷ xs) never = Left_out x xs [] (never x) (those_none P xs never)

pub those_map : {A B : Type 0} (f : A → B) (P : A → Type 0) (Q : B → Type 0) (xs ys : List A) → ((x : A) → P x → Q (f x)) → ((x : A) → Q (f x) → P x)
    → AreThose P xs ys → AreThose Q (map f xs) (map f ys)
those_map f P Q _ _ there back All_seen = All_seen
those_map f P Q _ _ there back (Taken x xs ys holds rest) = Taken (f x) (map f xs) (map f ys) (there x holds) (those_map f P Q xs ys there back rest)
those_map f P Q _ _ there back (Left_out x xs ys not rest) = Left_out (f x) (map f xs) (map f ys) (λ q. not (back x q)) (those_map f P Q xs ys there back rest)

-- where the other holds of the same items of the list
pub those_alike : {A : Type 0} (P Q : A → Type 0) (xs ys : List A) → ((k : ℕ) (x : A) → slice_get xs k ≡ Some x → P x → Q x)
    → ((k : ℕ) (x : A) → slice_get xs k ≡ Some x → Q x → P x) → AreThose P xs ys → AreThose Q xs ys
those_alike P Q _ _ there back All_seen = All_seen
those_alike P Q _ _ there back (Taken x xs ys holds rest) =
    Taken x xs ys (there 0 x refl holds) (those_alike P Q xs ys (λ k y at. there (suc k) y at) (λ k y at. back (suc k) y at) rest)
those_alike P Q _ _ there back (Left_out x xs ys not rest) =
    Left_out x xs ys (λ q. not (back 0 x refl q)) (those_alike P Q xs ys (λ k y at. there (suc k) y at) (λ k y at. back (suc k) y at) rest)
