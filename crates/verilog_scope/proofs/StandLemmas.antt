-- Each name that is a wire without a declaration stands in the module.
use Rattle.std.proofs.Common.{◌≡◌, ℕ, Bool, true, false, ◌||◌, List, [], ◌∷◌, ◌++◌, flat_map, refl, sym, ◌∙◌}
use Rattle.std.proofs.lemmas.List.Folds.{list_any-append}
use Rattle.std.specs.Str.{bytes_eq}
use Rattle.texts.specs.Names.{is_among, each_once}
use Rattle.texts.proofs.NameLemmas.{is_among-with_names}
use Rattle.verilog_syntax.specs.declared.declarations.ItemDecl.{ItemDecl}
use Rattle.verilog_syntax.specs.declared.declarations.ItemDecl.TheVariants.{Ports, Nets, Assigns, Prims, Insts}
use Rattle.verilog_syntax.specs.declared.declarations.ModuleDecl.{ModuleDecl}
use Rattle.verilog_scope.specs.Standing.{standing, implied, implied_in, names_in, names_of_target, names_of_assign, names_of_term, head_names}

or_left : (a b : Bool) → a ≡ true → (a || b) ≡ true
or_left true b e = refl
or_left false b e = absurd cc

or_later : (a b : Bool) → b ≡ true → (a || b) ≡ true
or_later true b e = refl
or_later false b e = e

in_front : (n : List ℕ) (xs ys : List (List ℕ)) → is_among n xs ≡ true → is_among n (xs ++ ys) ≡ true
in_front n xs ys e = list_any-append (bytes_eq n) xs ys ∙ or_left (is_among n xs) (is_among n ys) e

in_back : (n : List ℕ) (xs ys : List (List ℕ)) → is_among n ys ≡ true → is_among n (xs ++ ys) ≡ true
in_back n xs ys e = list_any-append (bytes_eq n) xs ys ∙ or_later (is_among n xs) (is_among n ys) e

either_case : (n : List ℕ) (xs ys zs : List (List ℕ)) (a b : Bool) → is_among n xs ≡ a → is_among n ys ≡ b
    → (is_among n xs ≡ true → is_among n zs ≡ true) → (is_among n ys ≡ true → is_among n zs ≡ true) → (a || b) ≡ true → is_among n zs ≡ true
either_case n xs ys zs true b first second left right o = left first
either_case n xs ys zs false true first second left right o = right second
either_case n xs ys zs false false first second left right o = absurd cc

-- a name of two lists is of one of them
of_either : (n : List ℕ) (xs ys zs : List (List ℕ)) → (is_among n xs ≡ true → is_among n zs ≡ true) → (is_among n ys ≡ true → is_among n zs ≡ true)
    → is_among n (xs ++ ys) ≡ true → is_among n zs ≡ true
of_either n xs ys zs left right e =
    either_case n xs ys zs (is_among n xs) (is_among n ys) refl refl left right (sym (list_any-append (bytes_eq n) xs ys) ∙ e)

-- among what each item gives there is what a part of it gives
parts_among : {A : Type 0} (n : List ℕ) (f g : A → List (List ℕ)) → ((x : A) → is_among n (f x) ≡ true → is_among n (g x) ≡ true) → (xs : List A)
    → is_among n (flat_map f xs) ≡ true → is_among n (flat_map g xs) ≡ true
parts_among n f g part [] e = e
parts_among n f g part (x ∷ xs) e = of_either n (f x) (flat_map f xs) (g x ++ flat_map g xs)
    (λ here. in_front n (g x) (flat_map g xs) (part x here)) (λ there. in_back n (g x) (flat_map g xs) (parts_among n f g part xs there)) e

item_among : (n : List ℕ) (i : ItemDecl) → is_among n (implied_in i) ≡ true → is_among n (names_in i) ≡ true
item_among n (Ports ports) e = absurd cc
item_among n (Nets kind range names) e = absurd cc
item_among n (Assigns list) e =
    parts_among n names_of_target names_of_assign (λ a here. in_front n (names_of_term a.target) (names_of_term a.value) here) list e
item_among n (Prims kind list) e = e
item_among n (Insts cell list) e = e

-- it is among the names of the module
pub standing_implied : (n : List ℕ) (m : ModuleDecl) → is_among n (each_once (implied m)) ≡ true → is_among n (standing m) ≡ true
standing_implied n m e =
    let among = sym (is_among-with_names n [] (implied m)) ∙ e in
    is_among-with_names n [] (head_names m.head ++ flat_map names_in m.items)
    ∙ in_back n (head_names m.head) (flat_map names_in m.items) (parts_among n implied_in names_in (λ i here. item_among n i here) m.items among)

-- a name of an item, or of the port list, is among the names of the module
pub standing_head : (n : List ℕ) (m : ModuleDecl) → is_among n (head_names m.head) ≡ true → is_among n (standing m) ≡ true
standing_head n m e =
    is_among-with_names n [] (head_names m.head ++ flat_map names_in m.items) ∙ in_front n (head_names m.head) (flat_map names_in m.items) e
