-- One step of what is left of flattening.
use Rattle.std.proofs.Common.{◌≡◌, ℕ, suc, ◌+◌, ◌<◌, List, [], ◌∷◌, Some, None, refl, ap, arith}
use Rattle.std.specs.Prelude.{fold, Option}
use Rattle.std.proofs.lemmas.List.Sums.{sum_by-cons}
use Rattle.netlist_types.specs.declared.sources.Source.{Source}
use Rattle.netlist_types.specs.declared.sources.Module.{Module}
use Rattle.netlist_types.specs.declared.sources.Conn.{Conn}
use Rattle.netlist_types.specs.declared.sources.Item.{Item}
use Rattle.netlist_types.specs.declared.sources.Item.TheVariants as item
use Rattle.netlist_types.specs.Lawful.{module_of}
use Rattle.cell_types.specs.declared.libraries.Library.{Library}
use Rattle.link_defs.specs.Flatten.{Scope, Flat, inner_scope, inside_of, add_item, add_scope, with_item, with_scope, instance_of}
use Rattle.link_circuit.specs.Pending.{Pend, resume, steps, inner_steps, steps_left}

-- an instance without items to come is left
pub resume_left : (depth : ℕ) (s : Source) (lib : Library) (scope : Scope) (rest : List Pend) (flat : Flat)
    → resume depth s lib ((record { scope = scope; items = [] }) ∷ rest) flat ≡ resume (suc depth) s lib rest flat
unfolding resume
resume_left depth s lib scope rest flat = refl

add_is : (inside : Flat → Scope → Flat) (s : Source) (lib : Library) (scope : Scope) (flat : Flat) (x : Item) (found : Option Scope)
    → instance_of s scope x flat.count ≡ found → add_item inside s lib scope flat x ≡ inside_of inside (with_item s lib scope x flat) found
unfolding add_item
add_is inside s lib scope flat x found is = ap (λ (o : Option Scope). inside_of inside (with_item s lib scope x flat) o) is

-- an item that is no instance of a module
pub resume_item : (depth : ℕ) (s : Source) (lib : Library) (scope : Scope) (x : Item) (xs : List Item) (rest : List Pend) (flat : Flat)
    → instance_of s scope x flat.count ≡ None
    → resume depth s lib ((record { scope = scope; items = x ∷ xs }) ∷ rest) flat
    ≡ resume depth s lib ((record { scope = scope; items = xs }) ∷ rest) (with_item s lib scope x flat)
unfolding resume
resume_item depth s lib scope x xs rest flat none =
    ap (λ (f : Flat). resume (suc depth) s lib rest (fold (add_item (add_scope depth s lib) s lib scope) f xs))
    (add_is (add_scope depth s lib) s lib scope flat x None none)

-- an item that is one
pub resume_inner : (depth : ℕ) (s : Source) (lib : Library) (scope inner : Scope) (x : Item) (xs : List Item) (rest : List Pend) (flat : Flat)
    → instance_of s scope x flat.count ≡ Some inner
    → resume (suc depth) s lib ((record { scope = scope; items = x ∷ xs }) ∷ rest) flat
    ≡ resume depth s lib ((record { scope = inner; items = inner.body.items }) ∷ (record { scope = scope; items = xs }) ∷ rest)
    (with_scope (with_item s lib scope x flat) inner)
unfolding resume add_scope
resume_inner depth s lib scope inner x xs rest flat some =
    ap (λ (f : Flat). resume (suc (suc depth)) s lib rest (fold (add_item (add_scope (suc depth) s lib) s lib scope) f xs))
    (add_is (add_scope (suc depth) s lib) s lib scope flat x (Some inner) some)

steps_cons : (depth : ℕ) (s : Source) (x : Item) (xs : List Item)
    → steps (suc depth) s (x ∷ xs) ≡ steps (suc depth) s xs + 1 + inner_steps (steps depth s) s x
unfolding steps
steps_cons depth s x xs = omega (arith, sum_by-cons (λ i. 1 + inner_steps (steps depth s) s i) x xs)

steps_some : (depth : ℕ) (s : Source) → 0 < steps (suc depth) s []
unfolding steps
steps_some depth s = omega arith

inner_body : (inside : List Item → ℕ) (scope inner : Scope) (name : List ℕ) (conns : List Conn) (first : ℕ) (found : Option Module)
    → (elim found [ Some m ↦ Some (inner_scope scope name m conns first) | None ↦ None ]) ≡ Some inner
    → (elim found [ Some m ↦ inside m.items | None ↦ 0 ]) ≡ inside inner.body.items
inner_body inside scope inner name conns first None some = cc
inner_body inside scope inner name conns first (Some m) some =
    let same : inner_scope scope name m conns first ≡ inner = cc in ap (λ (x : Scope). inside x.body.items) same

-- the steps of an item that is an instance
inner_is : (inside : List Item → ℕ) (s : Source) (scope inner : Scope) (x : Item) (first : ℕ) → instance_of s scope x first ≡ Some inner
    → inner_steps inside s x ≡ inside inner.body.items
unfolding inner_steps
inner_is inside s scope inner (item.Inst cell name conns) first some = inner_body inside scope inner name conns first (module_of s cell) some
inner_is inside s scope inner (item.Prim kind name outs ins) first some = cc
inner_is inside s scope inner (item.Copy to from) first some = cc

-- fewer steps are left once an instance is left
pub left_less : (depth : ℕ) (s : Source) (scope : Scope) (rest : List Pend)
    → steps_left (suc depth) s rest < steps_left depth s ((record { scope = scope; items = [] }) ∷ rest)
unfolding steps_left
left_less depth s scope rest = omega (arith, steps_some depth s)

-- once an item is taken
pub item_less : (depth : ℕ) (s : Source) (scope : Scope) (x : Item) (xs : List Item) (rest : List Pend)
    → steps_left depth s ((record { scope = scope; items = xs }) ∷ rest) < steps_left depth s ((record { scope = scope; items = x ∷ xs }) ∷ rest)
unfolding steps_left
item_less depth s scope x xs rest = omega (arith, steps_cons depth s x xs)

-- and once an item is taken that is an instance
pub inner_less : (depth : ℕ) (s : Source) (scope inner : Scope) (x : Item) (xs : List Item) (rest : List Pend) (first : ℕ)
    → instance_of s scope x first ≡ Some inner
    → steps_left depth s ((record { scope = inner; items = inner.body.items }) ∷ (record { scope = scope; items = xs }) ∷ rest)
    < steps_left (suc depth) s ((record { scope = scope; items = x ∷ xs }) ∷ rest)
unfolding steps_left
inner_less depth s scope inner x xs rest first some =
    omega (arith, steps_cons (suc depth) s x xs, inner_is (steps (suc depth) s) s scope inner x first some)
