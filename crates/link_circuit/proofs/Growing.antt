-- Items of a flat netlist stay while it grows.
use Rattle.std.proofs.Common.{◌≡◌, ℕ, zero, suc, ◌≤◌, Bool, cond, List, [], ◌∷◌, ◌++◌, refl, ap, subst, sym, ◌∙◌, arith, append_assoc}
use Rattle.std.specs.Prelude.{fold, Option, Some, None, Contains, count_by}
use Rattle.std.proofs.lemmas.List.Elements.{Contains-append_left}
use Rattle.std.proofs.lemmas.List.Sums.{sum_by-append}
use Rattle.netlist_types.specs.declared.sources.Source.{Source}
use Rattle.netlist_types.specs.declared.sources.Item.{Item}
use Rattle.cell_types.specs.declared.libraries.Library.{Library}
use Rattle.link_defs.specs.Flatten.{Scope, Located, Flat, inside_of, add_item, add_scope, with_item, with_scope, instance_of}
use Rattle.link_items.proofs.Listing.{with_none}
use Rattle.link_circuit.specs.Pending.{Pend, resume}

-- the second has the items of the first, and maybe more behind them
abbrev pub HasMore : Flat → Flat → Type 0
HasMore flat grown = (more : List Located) × (grown.items ≡ flat.items ++ more)

same_items : (flat grown : Flat) → grown.items ≡ flat.items → HasMore flat grown
same_items flat grown same = ([], same ∙ sym (with_none flat.items))

then_more : (a b c : Flat) → HasMore a b → HasMore b c → HasMore a c
then_more a b c (xs, ab) (ys, bc) = (xs ++ ys, bc ∙ ap (λ (is : List Located). is ++ ys) ab ∙ append_assoc a.items xs ys)

fold_has : (f : Flat → Item → Flat) → ((flat : Flat) (x : Item) → HasMore flat (f flat x)) → (xs : List Item) (flat : Flat) → HasMore flat (fold f flat xs)
fold_has f each [] flat = same_items flat flat refl
fold_has f each (x ∷ xs) flat = then_more flat (f flat x) (fold f (f flat x) xs) (each flat x) (fold_has f each xs (f flat x))

inside_has : (inside : Flat → Scope → Flat) → ((flat : Flat) (scope : Scope) → HasMore flat (inside flat scope)) → (flat : Flat) (found : Option Scope)
    → HasMore flat (inside_of inside flat found)
inside_has inside each flat None = same_items flat flat refl
inside_has inside each flat (Some inner) = each flat inner

-- with an item, and all that stands in it
item_has : (inside : Flat → Scope → Flat) → ((flat : Flat) (scope : Scope) → HasMore flat (inside flat scope)) → (s : Source) (lib : Library) (scope : Scope)
    (flat : Flat) (x : Item) → HasMore flat (add_item inside s lib scope flat x)
unfolding add_item
item_has inside each s lib scope flat x =
    then_more flat (with_item s lib scope x flat) (inside_of inside (with_item s lib scope x flat) (instance_of s scope x flat.count))
    ((record { scope = scope; item = x; first = flat.count }) ∷ [], refl)
    (inside_has inside each (with_item s lib scope x flat) (instance_of s scope x flat.count))

-- with an instance, and all that stands in it
scope_has : (depth : ℕ) (s : Source) (lib : Library) (flat : Flat) (scope : Scope) → HasMore flat (add_scope depth s lib flat scope)
unfolding add_scope
scope_has zero s lib flat scope = same_items flat flat refl
scope_has (suc depth) s lib flat scope =
    fold_has (add_item (add_scope depth s lib) s lib scope)
    (λ f x. item_has (add_scope depth s lib) (λ g inner. scope_has depth s lib g inner) s lib scope f x) scope.body.items (with_scope flat scope)

-- with all that is left
pub resume_has : (rest : List Pend) (depth : ℕ) (s : Source) (lib : Library) (flat : Flat) → HasMore flat (resume depth s lib rest flat)
unfolding resume
resume_has [] depth s lib flat = same_items flat flat refl
resume_has (p ∷ rest) depth s lib flat =
    then_more flat (fold (add_item (add_scope depth s lib) s lib p.scope) flat p.items) (resume depth s lib (p ∷ rest) flat)
    (fold_has (add_item (add_scope depth s lib) s lib p.scope)
    (λ f x. item_has (add_scope depth s lib) (λ g inner. scope_has depth s lib g inner) s lib p.scope f x) p.items flat)
    (resume_has rest (suc depth) s lib (fold (add_item (add_scope depth s lib) s lib p.scope) flat p.items))

-- with an item and all that is left after it
pub resume_next : (depth : ℕ) (s : Source) (lib : Library) (scope : Scope) (x : Item) (xs : List Item) (rest : List Pend) (flat : Flat)
    → HasMore (with_item s lib scope x flat) (resume depth s lib ((record { scope = scope; items = x ∷ xs }) ∷ rest) flat)
unfolding resume add_item
resume_next depth s lib scope x xs rest flat =
    then_more (with_item s lib scope x flat) (add_item (add_scope depth s lib) s lib scope flat x)
    (resume depth s lib ((record { scope = scope; items = x ∷ xs }) ∷ rest) flat)
    (inside_has (add_scope depth s lib) (λ g inner. scope_has depth s lib g inner) (with_item s lib scope x flat) (instance_of s scope x flat.count))
    (resume_has ((record { scope = scope; items = xs }) ∷ rest) depth s lib (add_item (add_scope depth s lib) s lib scope flat x))

-- an item stays
pub contains_more : (flat grown : Flat) (at : Located) → HasMore flat grown → Contains flat.items at → Contains grown.items at
contains_more flat grown at (more, is) has =
    subst (λ (xs : List Located). Contains xs at) (sym is) (Contains-append_left flat.items more at has)

-- and counts
pub count_more : (p : Located → Bool) (flat grown : Flat) → HasMore flat grown → count_by p flat.items ≤ count_by p grown.items
count_more p flat grown (more, is) =
    omega (arith, ap (λ (xs : List Located). count_by p xs) is, sum_by-append (λ (x : Located). cond {A = ℕ} (p x) 1 0) flat.items more)
