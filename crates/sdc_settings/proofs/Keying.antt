-- Lists whose items differ by a key.
use Rattle.std.proofs.Common.{◌≡◌, ◌∙◌, ℕ, List, length, map, get_or, refl, sym, ap, arith}
use Rattle.std.specs.Prelude.{Contains, Some, option_map, slice_get}
use Rattle.std.proofs.lemmas.List.{length-map, same_lists}
use Rattle.std.proofs.lemmas.Option.{same_Some, slice_get-map, slice_get-get_or, slice_get_read, slice_get_within, get_or_from_slice_get}

-- what stands at a place is in the list
pub contains_at : {A : Type 0} (xs : List A) (k : ℕ) (x : A) → slice_get xs k ≡ Some x → Contains xs x
contains_at xs k x at = (k, slice_get_within xs k x at, get_or_from_slice_get xs k x x at)

-- and what is in it stands at a place
pub place_of_item : {A : Type 0} (xs : List A) (x : A) → Contains xs x → (k : ℕ) × (slice_get xs k ≡ Some x)
place_of_item xs x (k, low, is) = (k, slice_get_read xs (length xs) k x refl low (sym is))

-- no key stands at two places
abbrev pub IsKeyed : {A K : Type 0} → (A → K) → List A → Type 0
IsKeyed {A} key xs = (i j : ℕ) (x y : A) → slice_get xs i ≡ Some x → slice_get xs j ≡ Some y → key x ≡ key y → i ≡ j

-- an item of a list with the same keys is the one at its place, where it is in the other list too
item_same : {A K : Type 0} (key : A → K) (xs ys : List A) (k : ℕ) (x y : A) → map key xs ≡ map key ys → IsKeyed key ys → Contains ys x
    → slice_get xs k ≡ Some x → slice_get ys k ≡ Some y → x ≡ y
item_same {A} {K} key xs ys k x y keys once has at_x at_y =
    let (j, at) = place_of_item ys x has in
    let key_x : slice_get (map key xs) k ≡ Some (key x) = slice_get-map key xs k ∙ ap (option_map key) at_x in
    let key_y : slice_get (map key ys) k ≡ Some (key y) = slice_get-map key ys k ∙ ap (option_map key) at_y in
    let one : key x ≡ key y = same_Some (key x) (key y) (sym key_x ∙ ap (λ (l : List K). slice_get l k) keys ∙ key_y) in
    same_Some x y (sym at ∙ ap (slice_get ys) (once j k x y at at_y one) ∙ at_y)

-- lists with the same keys, none of them twice, are equal where the items of the one are in the other
pub same_items : {A K : Type 0} (key : A → K) (xs ys : List A) → map key xs ≡ map key ys → IsKeyed key ys
    → ((x : A) → Contains xs x → Contains ys x) → xs ≡ ys
same_items key xs ys keys once among =
    let long : length xs ≡ length ys = sym (length-map xs key) ∙ ap length keys ∙ length-map ys key in
    same_lists xs ys long (λ k d low.
    let at_x = slice_get-get_or xs k d low in
    let at_y = slice_get-get_or ys k d (omega (arith, low, long)) in
    item_same key xs ys k (get_or xs k d) (get_or ys k d) keys once (among (get_or xs k d) (contains_at xs k (get_or xs k d) at_x)) at_x at_y)
