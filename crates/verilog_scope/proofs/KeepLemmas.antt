-- What is kept along a list, and what a value says of the steps that gave it.
use Rattle.std.proofs.Common.{◌≡◌, ◌+◌, List, [], ◌∷◌, ◌++◌, length, Result, Ok, Err, refl, sym, ap, ◌∙◌, arith, length-append, subst, All}
use Rattle.std.proofs.lemmas.List.Elements.{All-nil, All-head, All-tail, All-push}
use Rattle.texts.specs.Rules.{◌>>=◌}
use Rattle.verilog_scope.specs.Folds.{fold_ok, fold_both, pushing}

-- a step gave something
pub step_gave : {A B F : Type 0} (r : Result A F) (f : A → Result B F) (y : B) → (r >>= f) ≡ Ok y → (x : A) × (r ≡ Ok x) × (f x ≡ Ok y)
step_gave (Ok x) f y e = (x, refl, e)
step_gave (Err why) f y e = absurd cc

-- what each step keeps holds at the end
pub fold_keeps : {A B F : Type 0} (P : B → Type 0) (step : B → A → Result B F) → ((found : B) (x : A) (next : B) → P found → step found x ≡ Ok next → P next)
    → (found : B) (xs : List A) (last : B) → P found → fold_ok step found xs ≡ Ok last → P last
unfolding fold_ok
fold_keeps P step keeps found [] last holds e = let same : found ≡ last = cc in subst P same holds
fold_keeps P step keeps found (x ∷ xs) last holds e =
    let (next, one, rest) = step_gave (step found x) _ last e in
    fold_keeps P step keeps next xs last (keeps found x next holds one) rest

-- as many values as items
pub each_length : {A B F : Type 0} (give : A → Result B F) (found : List B) (xs : List A) (last : List B) → fold_ok (pushing give) found xs ≡ Ok last
    → length last ≡ length found + length xs
unfolding fold_ok
each_length give found [] last e = let same : found ≡ last = cc in ap length (sym same) ∙ omega arith
each_length give found (x ∷ xs) last e =
    let (next, one, rest) = step_gave (pushing give found x) _ last e in
    let (y, gives, made) = step_gave (give x) _ next one in
    let same : found ++ y ∷ [] ≡ next = cc in
    let len = each_length give next xs last rest in
    let more = ap length same in
    omega (arith, length-append found (y ∷ []))

-- what each step keeps at items of a kind holds at the end of a list of that kind
pub fold_keeps_all : {A B F : Type 0} (Q : A → Type 0) (P : B → Type 0) (step : B → A → Result B F)
    → ((found : B) (x : A) (next : B) → Q x → P found → step found x ≡ Ok next → P next) → (found : B) (xs : List A) (last : B) → All Q xs → P found
    → fold_ok step found xs ≡ Ok last → P last
unfolding fold_ok
fold_keeps_all Q P step keeps found [] last all holds e = let same : found ≡ last = cc in subst P same holds
fold_keeps_all Q P step keeps found (x ∷ xs) last all holds e =
    let (next, one, rest) = step_gave (step found x) _ last e in
    fold_keeps_all Q P step keeps next xs last (All-tail Q x xs all) (keeps found x next (All-head Q x xs all) holds one) rest

-- the same along two lists of which the second may not matter
pub both_keeps : {A B C F : Type 0} (Q : A → Type 0) (R : C → Type 0) (P : B → Type 0) (step : B → A → C → Result B F)
    → ((found : B) (x : A) (y : C) (next : B) → Q x → R y → P found → step found x y ≡ Ok next → P next) → (found : B) (xs : List A) (ys : List C) (last : B)
    → All Q xs → All R ys → P found → fold_both step found xs ys ≡ Ok last → P last
unfolding fold_both
both_keeps Q R P step keeps found [] ys last all there holds e = let same : found ≡ last = cc in subst P same holds
both_keeps Q R P step keeps found (x ∷ xs) [] last all there holds e = let same : found ≡ last = cc in subst P same holds
both_keeps Q R P step keeps found (x ∷ xs) (y ∷ ys) last all there holds e =
    let (next, one, rest) = step_gave (step found x y) _ last e in
    both_keeps Q R P step keeps next xs ys last (All-tail Q x xs all) (All-tail R y ys there)
    (keeps found x y next (All-head Q x xs all) (All-head R y ys there) holds one) rest

pushed_holds : {A B F : Type 0} (Q : B → Type 0) (give : A → Result B F) → ((x : A) (y : B) → give x ≡ Ok y → Q y) → (found : List B) (x : A) (next : List B)
    → All Q found → pushing give found x ≡ Ok next → All Q next
pushed_holds Q give through found x next holds e =
    let (y, gives, made) = step_gave (give x) _ next e in
    let same : found ++ y ∷ [] ≡ next = cc in
    subst (All Q) same (All-push Q found y holds (through x y gives))

-- what holds of each value that is given holds of all that are found
pub each_holds : {A B F : Type 0} (Q : B → Type 0) (give : A → Result B F) → ((x : A) (y : B) → give x ≡ Ok y → Q y) → (xs : List A) (ys : List B)
    → fold_ok (pushing give) [] xs ≡ Ok ys → All Q ys
each_holds Q give through xs ys e =
    fold_keeps (All Q) (pushing give) (λ found x next. pushed_holds Q give through found x next) [] xs ys (All-nil Q) e
