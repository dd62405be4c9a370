-- References of modules, and the modules that have none.
use Rattle.std.proofs.Common.{◌≡◌, ℕ, suc, ◌+◌, Bool, true, false, not, ◌||◌, cond, List, [], ◌∷◌, ◌++◌, length, take, Some, refl, ap}
use Rattle.std.proofs.Common.{sym, ◌∙◌, arith, subst}
use Rattle.std.specs.Prelude.{slice_get, flat_map, filter, if◌then◌else◌}
use Rattle.std.specs.List.{list_any, AllZip}
use Rattle.std.specs.Str.{bytes_eq}
use Rattle.std.proofs.lemmas.List.Elements.{filter_more, filter_agree}
use Rattle.std.proofs.lemmas.List.Folds.{list_any-append}
use Rattle.std.proofs.lemmas.Option.{slice_get_within, get_or_from_slice_get}
use Rattle.texts.specs.Names.{is_among, with_name, with_names}
use Rattle.texts.proofs.NameLemmas.{is_among-with_names}
use Rattle.netlist_types.specs.declared.sources.Source.{Source}
use Rattle.netlist_types.specs.declared.sources.Module.{Module}
use Rattle.link_defs.specs.Hierarchy.{is_used, tops}
use Rattle.link_items.proofs.Listing.{flat_next, with_none}
use Rattle.link_items.proofs.Searching.{eq_flips}
use Rattle.link_tops.specs.Tops.{refs_of, all_refs, is_unused, AreAt, IsTop}

-- names added in two turns
both : (names xs ys : List (List ℕ)) → with_names names (xs ++ ys) ≡ with_names (with_names names xs) ys
both names [] ys = refl
both names (x ∷ xs) ys = both (with_name names x) xs ys

-- the names of one item more
pub names_more : {X : Type 0} (f : X → List (List ℕ)) (names : List (List ℕ)) (xs : List X) (k : ℕ) (x : X) → slice_get xs k ≡ Some x
    → with_names names (flat_map f (take (k + 1) xs)) ≡ with_names (with_names names (flat_map f (take k xs))) (f x)
names_more f names xs k x at =
    ap (λ ns. with_names names ns) (flat_next f xs k x at) ∙ both names (flat_map f (take k xs)) (f x)

zip_push : {X Y : Type 0} (R : X → Y → Type 0) (xs : List X) (ys : List Y) (x : X) (y : Y) → AllZip R xs ys → R x y → AllZip R (xs ++ x ∷ []) (ys ++ y ∷ [])
zip_push R [] [] x y all here = (here, tt)
zip_push R [] (b ∷ ys) x y all here = absurd all
zip_push R (a ∷ xs) [] x y all here = absurd all
zip_push R (a ∷ xs) (b ∷ ys) x y all here = (all.0, zip_push R xs ys x y all.1 here)

-- a place more, if its module counts
at_more : (all : List Module) (places : List ℕ) (ms : List Module) (k : ℕ) (m : Module) (b : Bool) → slice_get all k ≡ Some m → AreAt all places ms
    → AreAt all (places ++ (if b then [] else (k ∷ []))) (ms ++ cond (not b) (m ∷ []) [])
at_more all places ms k m true at so_far =
    subst (λ (ps : List ℕ). AreAt all ps (ms ++ [])) (sym (with_none places)) (subst (λ (ns : List Module). AreAt all places ns) (sym (with_none ms)) so_far)
at_more all places ms k m false at so_far = zip_push (λ (place : ℕ) (m : Module). slice_get all place ≡ Some m) places ms k m so_far at

-- the places of one module more
pub places_more : (all : List Module) (used : List (List ℕ)) (places places2 : List ℕ) (k : ℕ) (m : Module) (b : Bool) → slice_get all k ≡ Some m
    → b ≡ is_among m.name used → places2 ≡ places ++ (if b then [] else (k ∷ [])) → AreAt all places (filter (is_unused used) (take k all))
    → AreAt all places2 (filter (is_unused used) (take (k + 1) all))
places_more all used places places2 k m b at is made so_far =
    let same = get_or_from_slice_get all k m m at in
    let more = filter_more (is_unused used) all k m (slice_get_within all k m at) in
    let kept = λ (x : Module). let r : List Module = filter (is_unused used) (take k all) ++ cond (is_unused used x) (x ∷ []) [] in r in
    let choose = λ (t : Bool). let r : List Module = filter (is_unused used) (take k all) ++ cond (not t) (m ∷ []) [] in r in
    let whole : filter (is_unused used) (take (k + 1) all) ≡ choose b = more ∙ ap kept same ∙ ap choose (sym is) in
    subst (λ (ps : List ℕ). AreAt all ps (filter (is_unused used) (take (k + 1) all))) (sym made)
    (subst (λ (ns : List Module). AreAt all (places ++ (if b then [] else (k ∷ []))) ns) (sym whole)
    (at_more all places (filter (is_unused used) (take k all)) k m b at so_far))

any_flat : {X Y : Type 0} (p : Y → Bool) (f : X → List Y) (xs : List X) → list_any p (flat_map f xs) ≡ list_any (λ x. list_any p (f x)) xs
any_flat p f [] = refl
any_flat p f (x ∷ xs) = list_any-append p (f x) (flat_map f xs) ∙ ap (λ b. list_any p (f x) || b) (any_flat p f xs)

any_flips : (n : List ℕ) (rs : List (List ℕ)) → list_any (bytes_eq n) rs ≡ list_any (λ r. bytes_eq r n) rs
any_flips n [] = refl
any_flips n (r ∷ rs) = ap (λ b. b || list_any (bytes_eq n) rs) (eq_flips n r) ∙ ap (λ b. bytes_eq r n || b) (any_flips n rs)

any_each : (n : List ℕ) (ms : List Module) → list_any (λ (m : Module). list_any (bytes_eq n) (refs_of m)) ms
    ≡ list_any (λ (m : Module). list_any (λ r. bytes_eq r n) (refs_of m)) ms
any_each n [] = refl
any_each n (m ∷ ms) =
    ap (λ b. b || list_any (λ (m : Module). list_any (bytes_eq n) (refs_of m)) ms) (any_flips n (refs_of m))
    ∙ ap (λ b. list_any (λ r. bytes_eq r n) (refs_of m) || b) (any_each n ms)

-- the references have a name exactly where some module has an instance of it
used_is : (s : Source) (n : List ℕ) → is_among n (with_names [] (all_refs s.modules)) ≡ is_used s n
used_is s n = is_among-with_names n [] (all_refs s.modules) ∙ any_flat (bytes_eq n) refs_of s.modules ∙ any_each n s.modules

-- the modules whose names are no references are those that none instantiates
pub unused_are : (s : Source) (used : List (List ℕ)) → used ≡ with_names [] (all_refs s.modules) → filter (is_unused used) s.modules ≡ tops s
unused_are s used is =
    filter_agree (is_unused used) (λ (m : Module). not (is_used s m.name))
    (λ m. ap (λ (ns : List (List ℕ)). not (is_among m.name ns)) is ∙ ap not (used_is s m.name)) s.modules

zip_len : {X Y : Type 0} (R : X → Y → Type 0) (xs : List X) (ys : List Y) → AllZip R xs ys → length xs ≡ length ys
zip_len R [] [] all = refl
zip_len R [] (y ∷ ys) all = absurd all
zip_len R (x ∷ xs) [] all = absurd all
zip_len R (x ∷ xs) (y ∷ ys) all = ap suc (zip_len R xs ys all.1)

-- as many places as modules
pub places_len : (all : List Module) (places : List ℕ) (ms : List Module) → AreAt all places ms → length places ≡ length ms
places_len all places ms at = zip_len (λ (place : ℕ) (m : Module). slice_get all place ≡ Some m) places ms at

one_at : (s : Source) (places : List ℕ) (ms : List Module) (place : ℕ) → ms ≡ tops s → AreAt s.modules places ms → length places ≡ 1
    → slice_get places 0 ≡ Some place → IsTop s place
one_at s [] ms place is at one first = cc
one_at s (p ∷ ps) [] place is at one first = absurd at
one_at s (p ∷ []) (m ∷ []) place is at one first =
    let same : p ≡ place = cc in (m, subst (λ (k : ℕ). slice_get s.modules k ≡ Some m) same at.0, sym is)
one_at s (p ∷ []) (m ∷ n ∷ ms) place is at one first = absurd at.1
one_at s (p ∷ q ∷ ps) (m ∷ ms) place is at one first = absurd (omega arith)

-- the only place is that of the top module
pub top_at : (s : Source) (used : List (List ℕ)) (places : List ℕ) (place : ℕ) → used ≡ with_names [] (all_refs s.modules)
    → AreAt s.modules places (filter (is_unused used) s.modules) → length places ≡ 1 → slice_get places 0 ≡ Some place → IsTop s place
top_at s used places place is at one first = one_at s places (filter (is_unused used) s.modules) place (unused_are s used is) at one first
