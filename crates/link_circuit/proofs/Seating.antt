-- Every item of a flat netlist stands in one of its instances, and a net without a name is driven once.
use Rattle.std.proofs.Common.{◌≡◌, ℕ, zero, suc, ◌+◌, ◌<◌, ◌≤◌, List, [], ◌∷◌, ◌++◌, length, All, Some, None, refl, ap, subst, sym, ◌∙◌, arith}
use Rattle.std.proofs.Common.{inl, inr, ◌⊎◌}
use Rattle.std.specs.Prelude.{Option, fold, flat_map, count_by, ◌==◌}
use Rattle.std.proofs.lemmas.List.Concat.{flat_map-append}
use Rattle.std.proofs.lemmas.List.Elements.{All-head, All-tail}
use Rattle.net_model.proofs.Members.{In, In-cases, In-left, In-right, in_or}
use Rattle.net_model.proofs.Order.{count_append}
use Rattle.netlist_types.specs.declared.sources.Source.{Source}
use Rattle.netlist_types.specs.declared.sources.Module.{Module}
use Rattle.netlist_types.specs.declared.sources.Port.{Port}
use Rattle.netlist_types.specs.declared.sources.Conn.{Conn}
use Rattle.netlist_types.specs.declared.sources.Wire.{Wire}
use Rattle.netlist_types.specs.declared.sources.Item.{Item}
use Rattle.netlist_types.specs.declared.sources.Item.TheVariants as item
use Rattle.netlist_types.specs.Lawful.{module_of, IsLawful, IsLawfulItem, IsLawfulModule}
use Rattle.cell_types.specs.declared.libraries.Library.{Library}
use Rattle.link_defs.specs.Hierarchy.{wires_of}
use Rattle.link_defs.specs.Flatten.{Scope, Located, Flat, numbers, join_bit, join_bits, inner_nets, inner_scope, own_nets, instance_of}
use Rattle.link_defs.specs.Flatten.{with_item, with_scope, inside_of, add_item, add_scope, top_scope, flat_of}
use Rattle.link_defs.specs.Parts.{parts_of}
use Rattle.link_items.proofs.Along.{length_numbers}
use Rattle.link_items.proofs.Joining.{length_join}
use Rattle.link_items.proofs.Listing.{with_none}
use Rattle.link_circuit.proofs.Parting.{module_lawful}
use Rattle.link_circuit.proofs.Spread.{zero_of}
use Rattle.link_circuit.proofs.Driving.{outs_of, item_spread}

-- an instance has the net
abbrev pub IsSeen : List Scope → ℕ → Type 0
IsSeen scopes n = (scope : Scope) × In scope scopes × In n scope.nets

-- what an item drives
abbrev pub item_outs : Source → Library → Located → List ℕ
item_outs s lib at = outs_of (parts_of s lib at)

abbrev pub all_outs : Source → Library → Flat → List ℕ
all_outs s lib flat = flat_map (item_outs s lib) flat.items

-- an item that stands in one of the instances
pub record IsSeated (s : Source) (flat : Flat) (at : Located) : Type 0 where
  pub there : In at.scope flat.scopes
  pub lawful : IsLawfulItem s (length at.scope.nets) at.item

-- all items stand in instances, and a net that none of these has is driven once
pub record AreSeated (s : Source) (lib : Library) (flat : Flat) : Type 0 where
  pub items : (at : Located) → In at flat.items → IsSeated s flat at
  pub below : (n : ℕ) → (IsSeen flat.scopes n → ⊥) → In n (all_outs s lib flat) → n < flat.count
  pub once : (n : ℕ) → (IsSeen flat.scopes n → ⊥) → count_by (λ m. m == n) (all_outs s lib flat) ≤ 1

-- an instance of a lawful module with a net for each of the module's
record IsBody (s : Source) (scope : Scope) : Type 0 where
  pub body : IsLawfulModule s scope.body
  pub len : length scope.nets ≡ length scope.body.nets

-- a flat netlist that grew
pub record IsGrown (s : Source) (lib : Library) (flat grown : Flat) : Type 0 where
  pub scopes : (scope : Scope) → In scope flat.scopes → In scope grown.scopes
  pub seated : AreSeated s lib grown

outs_more : (s : Source) (lib : Library) (flat : Flat) (scope : Scope) (x : Item)
    → all_outs s lib (with_item s lib scope x flat) ≡ all_outs s lib flat ++ item_outs s lib (record { scope = scope; item = x; first = flat.count })
outs_more s lib flat scope x =
    let at : Located = record { scope = scope; item = x; first = flat.count } in
    flat_map-append (item_outs s lib) flat.items (at ∷ [])
    ∙ ap (λ (ns : List ℕ). all_outs s lib flat ++ ns) (with_none (item_outs s lib at))

own_of : (n a b : ℕ) (scope : Scope) (scopes : List Scope) → In scope scopes → (IsSeen scopes n → ⊥) → In n scope.nets ⊎ ((a ≤ n) × (n < b)) → (a ≤ n) × (n < b)
own_of n a b scope scopes there unseen (inl here) = absurd (unseen (scope, there, here))
own_of n a b scope scopes there unseen (inr own) = own

-- with one item more
item_seated : (s : Source) (lib : Library) (scope : Scope) (x : Item) (flat : Flat) → IsLawful s → IsBody s scope → In scope flat.scopes
    → IsLawfulItem s (length scope.body.nets) x → AreSeated s lib flat → AreSeated s lib (with_item s lib scope x flat)
item_seated s lib scope x flat lawful body there is seated =
    let at : Located = record { scope = scope; item = x; first = flat.count } in
    let here : IsLawfulItem s (length scope.nets) x = subst (λ (n : ℕ). IsLawfulItem s n x) (sym body.len) is in
    let spread = item_spread s lib scope flat.count x lawful here in
    let old = all_outs s lib flat in
    let new = item_outs s lib at in
    let whole = outs_more s lib flat scope x in
    record {
      items = λ a has. elim (In-cases a flat.items (at ∷ []) has) [
        | inl before ↦ let e = seated.items a before in record { there = e.there; lawful = e.lawful }
        | inr last ↦ elim last [
          | inl same ↦ subst (λ (b : Located). IsSeated s (with_item s lib scope x flat) b) same (record { there = there; lawful = here })
          | inr none ↦ absurd none
        ]
      ];
      below = λ n unseen has. elim (In-cases n old new (subst (λ (ns : List ℕ). In n ns) whole has)) [
        | inl before ↦ omega (arith, seated.below n unseen before)
        | inr last ↦ let (from, to) = own_of n flat.count (flat.count + own_nets s lib x) scope flat.scopes there unseen (spread.each n last) in to
      ];
      once = λ n unseen.
          let split = ap (λ (ns : List ℕ). count_by (λ m. m == n) ns) whole ∙ count_append (λ m. m == n) old new in
          elim (in_or n new) [
            | inl last ↦
                let (from, to) = own_of n flat.count (flat.count + own_nets s lib x) scope flat.scopes there unseen (spread.each n last) in
                let none = zero_of n old (λ before. let lt = seated.below n unseen before in omega (arith, from, lt)) in
                omega (arith, split, none, spread.once n (λ has. unseen (scope, there, has)))
            | inr not_last ↦ omega (arith, split, zero_of n new not_last, seated.once n unseen)
          ];
    }

seen_more : (flat : Flat) (scope : Scope) (n : ℕ) → IsSeen flat.scopes n → IsSeen (with_scope flat scope).scopes n
seen_more flat scope n (seen, there, has) = (seen, In-left seen flat.scopes (scope ∷ []) there, has)

-- with one instance more
scope_seated : (s : Source) (lib : Library) (flat : Flat) (scope : Scope) → AreSeated s lib flat → AreSeated s lib (with_scope flat scope)
scope_seated s lib flat scope seated = record {
  items = λ a has. let e = seated.items a has in record { there = In-left a.scope flat.scopes (scope ∷ []) e.there; lawful = e.lawful };
  below = λ n unseen has. seated.below n (λ seen. unseen (seen_more flat scope n seen)) has;
  once = λ n unseen. seated.once n (λ seen. unseen (seen_more flat scope n seen));
}

-- the nets of an inner instance are as many as its module's
length_joins : (outer nets bits : List ℕ) (ws : List Wire) → length (join_bits outer nets bits ws) ≡ length nets
unfolding join_bits
length_joins outer nets [] ws = refl
length_joins outer nets (bit ∷ bits) [] = refl
length_joins outer nets (bit ∷ bits) (w ∷ ws) = length_joins outer (join_bit outer nets bit w) bits ws ∙ length_join outer nets bit w

length_ports : (outer : List ℕ) (conns : List Conn) (ports : List Port) (nets : List ℕ)
    → length (fold (λ nets (p : Port). join_bits outer nets p.bits (wires_of conns p.name)) nets ports) ≡ length nets
length_ports outer conns [] nets = refl
length_ports outer conns (p ∷ ports) nets =
    length_ports outer conns ports (join_bits outer nets p.bits (wires_of conns p.name)) ∙ length_joins outer nets p.bits (wires_of conns p.name)

inner_body : (s : Source) (scope : Scope) (name : List ℕ) (m : Module) (conns : List Conn) (first : ℕ) → IsLawfulModule s m
    → IsBody s (inner_scope scope name m conns first)
unfolding inner_nets
inner_body s scope name m conns first lawful = record {
  body = lawful;
  len = length_ports scope.nets conns m.ports (numbers first (length m.nets)) ∙ length_numbers first (length m.nets);
}

inner_if : (s : Source) (scope inner : Scope) (name : List ℕ) (conns : List Conn) (first : ℕ) (found : Option Module)
    → ((m : Module) → found ≡ Some m → IsLawfulModule s m)
    → (elim found [ Some m ↦ Some (inner_scope scope name m conns first) | None ↦ None ]) ≡ Some inner → IsBody s inner
inner_if s scope inner name conns first None lawful is = cc
inner_if s scope inner name conns first (Some m) lawful is =
    let same : inner_scope scope name m conns first ≡ inner = cc in
    subst (λ (x : Scope). IsBody s x) same (inner_body s scope name m conns first (lawful m refl))

-- the instance that an item is
instance_body : (s : Source) (scope inner : Scope) (x : Item) (first : ℕ) → IsLawful s → instance_of s scope x first ≡ Some inner → IsBody s inner
instance_body s scope inner (item.Inst cell name conns) first lawful found =
    inner_if s scope inner name conns first (module_of s cell) (λ m here. module_lawful s cell m lawful here) found
instance_body s scope inner (item.Prim kind name outs ins) first lawful found = cc
instance_body s scope inner (item.Copy to from) first lawful found = cc

abbrev Grows : Source → Library → (Flat → Scope → Flat) → Type 0
Grows s lib inside = (flat : Flat) (scope : Scope) → IsBody s scope → AreSeated s lib flat → IsGrown s lib flat (inside flat scope)

inside_grown : (s : Source) (lib : Library) (inside : Flat → Scope → Flat) → Grows s lib inside → (flat : Flat) (found : Option Scope)
    → ((inner : Scope) → found ≡ Some inner → IsBody s inner) → AreSeated s lib flat → IsGrown s lib flat (inside_of inside flat found)
inside_grown s lib inside each flat None body seated = record { scopes = λ scope there. there; seated = seated }
inside_grown s lib inside each flat (Some inner) body seated = each flat inner (body inner refl) seated

then_grown : (s : Source) (lib : Library) (a b c : Flat) → ((scope : Scope) → In scope a.scopes → In scope b.scopes) → IsGrown s lib b c → IsGrown s lib a c
then_grown s lib a b c ab bc = record { scopes = λ scope there. bc.scopes scope (ab scope there); seated = bc.seated }

added_grown : (s : Source) (lib : Library) (inside : Flat → Scope → Flat) → IsLawful s → Grows s lib inside → (scope : Scope) (x : Item) (flat : Flat)
    → IsBody s scope → In scope flat.scopes → IsLawfulItem s (length scope.body.nets) x → AreSeated s lib flat
    → IsGrown s lib flat (add_item inside s lib scope flat x)
unfolding add_item
added_grown s lib inside lawful each scope x flat body there is seated =
    let with_it = with_item s lib scope x flat in
    then_grown s lib flat with_it (inside_of inside with_it (instance_of s scope x flat.count)) (λ y y_there. y_there)
    (inside_grown s lib inside each with_it (instance_of s scope x flat.count)
    (λ inner found. instance_body s scope inner x flat.count lawful found) (item_seated s lib scope x flat lawful body there is seated))

items_grown : (s : Source) (lib : Library) (inside : Flat → Scope → Flat) → IsLawful s → Grows s lib inside → (scope : Scope) (xs : List Item) (flat : Flat)
    → IsBody s scope → In scope flat.scopes → All (IsLawfulItem s (length scope.body.nets)) xs → AreSeated s lib flat
    → IsGrown s lib flat (fold (add_item inside s lib scope) flat xs)
items_grown s lib inside lawful each scope [] flat body there are seated = record { scopes = λ scope there. there; seated = seated }
items_grown s lib inside lawful each scope (x ∷ xs) flat body there are seated =
    let after = add_item inside s lib scope flat x in
    let one = added_grown s lib inside lawful each scope x flat body there (All-head (IsLawfulItem s (length scope.body.nets)) x xs are) seated in
    then_grown s lib flat after (fold (add_item inside s lib scope) after xs) one.scopes
    (items_grown s lib inside lawful each scope xs after body (one.scopes scope there)
    (All-tail (IsLawfulItem s (length scope.body.nets)) x xs are) one.seated)

-- an instance with all that stands in it
inner_grown : (s : Source) (lib : Library) (inside : Flat → Scope → Flat) → IsLawful s → Grows s lib inside → (flat : Flat) (scope : Scope) → IsBody s scope
    → AreSeated s lib flat → IsGrown s lib (with_scope flat scope) (fold (add_item inside s lib scope) (with_scope flat scope) scope.body.items)
inner_grown s lib inside lawful each flat scope body seated =
    items_grown s lib inside lawful each scope scope.body.items (with_scope flat scope) body (In-right scope flat.scopes (scope ∷ []) (inl refl)) body.body.items
    (scope_seated s lib flat scope seated)

scope_grown : (depth : ℕ) (s : Source) (lib : Library) → IsLawful s → Grows s lib (add_scope depth s lib)
unfolding add_scope
scope_grown zero s lib lawful flat scope body seated = record { scopes = λ scope there. there; seated = seated }
scope_grown (suc depth) s lib lawful flat scope body seated =
    then_grown s lib flat (with_scope flat scope) (add_scope (suc depth) s lib flat scope) (λ x there. In-left x flat.scopes (scope ∷ []) there)
    (inner_grown s lib (add_scope depth s lib) lawful (λ f x b p. scope_grown depth s lib lawful f x b p) flat scope body seated)

-- below a module, whose own instance is there
pub record IsWhole (s : Source) (lib : Library) (top : Module) (flat : Flat) : Type 0 where
  pub top_there : In (top_scope top) flat.scopes
  pub seated : AreSeated s lib flat

top_whole : (depth : ℕ) (s : Source) (lib : Library) (top : Module) → 1 ≤ depth → IsLawful s → IsLawfulModule s top
    → IsWhole s lib top (add_scope depth s lib (record { count = length top.nets; scopes = []; items = [] }) (top_scope top))
unfolding add_scope
top_whole zero s lib top some lawful is = absurd (omega (arith, some))
top_whole (suc depth) s lib top some lawful is =
    let flat : Flat = record { count = length top.nets; scopes = []; items = [] } in
    let grown = inner_grown s lib (add_scope depth s lib) lawful (λ f x b p. scope_grown depth s lib lawful f x b p) flat (top_scope top)
    (record { body = is; len = length_numbers 0 (length top.nets) })
    (record { items = λ at has. absurd has; below = λ n unseen has. absurd has; once = λ n unseen. omega arith }) in
    record { top_there = grown.scopes (top_scope top) (inl refl); seated = grown.seated }

-- the flat netlist below a module
pub flat_whole : (s : Source) (lib : Library) (top : Module) → 1 ≤ length s.modules → IsLawful s → IsLawfulModule s top
    → IsWhole s lib top (flat_of s lib top)
flat_whole s lib top some lawful is = top_whole (length s.modules) s lib top some lawful is
