-- An instance of a module has a flat net for each net of its module.
use Rattle.std.proofs.Common.{◌≡◌, ℕ, List, [], ◌∷◌, length, Some, None, refl, ap, sym, ◌∙◌}
use Rattle.std.specs.Prelude.{fold, Option}
use Rattle.netlist_types.specs.declared.sources.Source.{Source}
use Rattle.netlist_types.specs.declared.sources.Module.{Module}
use Rattle.netlist_types.specs.declared.sources.Port.{Port}
use Rattle.netlist_types.specs.declared.sources.Conn.{Conn}
use Rattle.netlist_types.specs.declared.sources.Wire.{Wire}
use Rattle.netlist_types.specs.declared.sources.Item.{Item}
use Rattle.netlist_types.specs.declared.sources.Item.TheVariants as item
use Rattle.netlist_types.specs.Lawful.{module_of}
use Rattle.link_defs.specs.Flatten.{Scope, numbers, join_bit, join_bits, inner_nets, inner_scope, instance_of}
use Rattle.link_defs.specs.Hierarchy.{wires_of}
use Rattle.link_items.specs.declared.made.Instance.{Instance}
use Rattle.link_items.specs.Items.{module_at, scope_of}
use Rattle.link_items.proofs.Along.{length_numbers}
use Rattle.link_items.proofs.Joining.{length_join}

length_joins : (outer nets bits : List ℕ) (wires : List Wire) → length (join_bits outer nets bits wires) ≡ length nets
unfolding join_bits
length_joins outer nets [] wires = refl
length_joins outer nets (bit ∷ bits) [] = refl
length_joins outer nets (bit ∷ bits) (w ∷ wires) = length_joins outer (join_bit outer nets bit w) bits wires ∙ length_join outer nets bit w

length_fold : {X : Type 0} (f : List ℕ → X → List ℕ) → ((nets : List ℕ) (x : X) → length (f nets x) ≡ length nets) → (xs : List X) (nets : List ℕ)
    → length (fold f nets xs) ≡ length nets
length_fold f each [] nets = refl
length_fold f each (x ∷ xs) nets = length_fold f each xs (f nets x) ∙ each nets x

-- joined with the nets outside, there are as many
length_inner : (outer : List ℕ) (m : Module) (conns : List Conn) (first : ℕ) → length (inner_nets outer m conns first) ≡ length m.nets
unfolding inner_nets
length_inner outer m conns first =
    length_fold (λ (nets : List ℕ) (p : Port). join_bits outer nets p.bits (wires_of conns p.name))
    (λ nets p. length_joins outer nets p.bits (wires_of conns p.name)) m.ports (numbers first (length m.nets))
    ∙ length_numbers first (length m.nets)

sized_if : (s : Source) (scope : Scope) (name : List ℕ) (conns : List Conn) (first : ℕ) (g : Instance) (found : Option Module)
    → (elim found [ Some m ↦ Some (inner_scope scope name m conns first) | None ↦ None ]) ≡ Some (scope_of s g)
    → length g.nets ≡ length (module_at s g.body).nets
sized_if s scope name conns first g None is = cc
sized_if s scope name conns first g (Some m) is =
    let same : inner_scope scope name m conns first ≡ scope_of s g = cc in
    let nets : inner_nets scope.nets m conns first ≡ g.nets = ap (λ (x : Scope). x.nets) same in
    let body : m ≡ module_at s g.body = ap (λ (x : Scope). x.body) same in
    ap (λ (ns : List ℕ). length ns) (sym nets) ∙ length_inner scope.nets m conns first ∙ ap (λ (x : Module). length x.nets) body

-- the instance that an item is has them
pub sized : (s : Source) (scope : Scope) (x : Item) (first : ℕ) (g : Instance) → instance_of s scope x first ≡ Some (scope_of s g)
    → length g.nets ≡ length (module_at s g.body).nets
sized s scope (item.Inst cell name conns) first g is = sized_if s scope name conns first g (module_of s cell) is
sized s scope (item.Prim kind name outs ins) first g is = cc
sized s scope (item.Copy to from) first g is = cc
