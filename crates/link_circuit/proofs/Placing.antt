-- The nets of every item of a flat netlist are among those that there are.
use Rattle.std.proofs.Common.{◌≡◌, ℕ, zero, suc, ◌+◌, ◌<◌, ◌≤◌, List, [], ◌∷◌, length, get_or, All, Some, None, refl, subst, sym, ◌∙◌, arith}
use Rattle.std.specs.Prelude.{Option, slice_index, fold}
use Rattle.std.proofs.lemmas.List.Elements.{All-cons, All-head, All-tail, All-push, All-set}
use Rattle.net_model.specs.Netlist.{AllBelow}
use Rattle.netlist_types.specs.declared.sources.Source.{Source}
use Rattle.netlist_types.specs.declared.sources.Module.{Module}
use Rattle.netlist_types.specs.declared.sources.Port.{Port}
use Rattle.netlist_types.specs.declared.sources.Conn.{Conn}
use Rattle.netlist_types.specs.declared.sources.Wire.{Wire}
use Rattle.netlist_types.specs.declared.sources.Wire.TheVariants as wire
use Rattle.netlist_types.specs.declared.sources.Item.{Item}
use Rattle.netlist_types.specs.declared.sources.Item.TheVariants as item
use Rattle.netlist_types.specs.Lawful.{module_of, IsLawful, IsLawfulItem, IsLawfulModule, IsWireBelow, AreWiresBelow}
use Rattle.cell_types.specs.declared.libraries.Library.{Library}
use Rattle.cell_types.specs.declared.libraries.Cell.{Cell}
use Rattle.link_defs.specs.Hierarchy.{cell_of, wires_of}
use Rattle.link_defs.specs.Flatten.{Scope, Located, Flat, numbers, join_bit, join_bits, inner_nets, inner_scope, other_pins, inst_nets, own_nets, instance_of}
use Rattle.link_defs.specs.Flatten.{with_item, with_scope, inside_of, add_item, add_scope, top_scope, flat_of}
use Rattle.link_items.proofs.Along.{length_numbers}
use Rattle.link_items.proofs.Joining.{length_join}
use Rattle.link_items.proofs.Pinned.{wires_below}
use Rattle.link_circuit.proofs.Lawfully.{all_none}
use Rattle.link_circuit.proofs.Parting.{module_lawful}

-- an item with its nets, of so many
pub record IsPlaced (s : Source) (lib : Library) (total : ℕ) (at : Located) : Type 0 where
  pub nets : AllBelow total at.scope.nets
  pub item : IsLawfulItem s (length at.scope.nets) at.item
  pub room : at.first + own_nets s lib at.item ≤ total

-- an instance with its nets, of so many
pub record IsGround (s : Source) (total : ℕ) (scope : Scope) : Type 0 where
  pub body : IsLawfulModule s scope.body
  pub len : length scope.nets ≡ length scope.body.nets
  pub nets : AllBelow total scope.nets

-- all items of a flat netlist
abbrev pub ArePlaced : Source → Library → Flat → Type 0
ArePlaced s lib flat = All (IsPlaced s lib flat.count) flat.items

-- an instance with its nets among so many
abbrev pub IsWithin : ℕ → Scope → Type 0
IsWithin total scope = AllBelow total scope.nets

-- all items and instances of a flat netlist
pub record AreStanding (s : Source) (lib : Library) (flat : Flat) : Type 0 where
  pub items : ArePlaced s lib flat
  pub scopes : All (IsWithin flat.count) flat.scopes

-- a flat netlist that grew, with all its items and instances
pub record IsGrown (s : Source) (lib : Library) (flat grown : Flat) : Type 0 where
  pub count : flat.count ≤ grown.count
  pub stand : AreStanding s lib grown

below_more : (a b : ℕ) (nets : List ℕ) → a ≤ b → AllBelow a nets → AllBelow b nets
below_more a b nets le below = λ k d lt. omega (arith, le, below k d lt)

placed_more : (s : Source) (lib : Library) (a b : ℕ) (items : List Located) → a ≤ b → All (IsPlaced s lib a) items → All (IsPlaced s lib b) items
placed_more s lib a b items le placed = λ k d lt.
    let at = placed k d lt in
    record { nets = below_more a b (get_or items k d).scope.nets le at.nets; item = at.item; room = omega (arith, le, at.room) }

within_more : (a b : ℕ) (scopes : List Scope) → a ≤ b → All (IsWithin a) scopes → All (IsWithin b) scopes
within_more a b scopes le within = λ k d lt. below_more a b (get_or scopes k d).nets le (within k d lt)

ground_more : (s : Source) (a b : ℕ) (scope : Scope) → a ≤ b → IsGround s a scope → IsGround s b scope
ground_more s a b scope le ground = record { body = ground.body; len = ground.len; nets = below_more a b scope.nets le ground.nets }

-- with one item more
item_grown : (s : Source) (lib : Library) (scope : Scope) (x : Item) (flat : Flat) → IsGround s flat.count scope → IsLawfulItem s (length scope.body.nets) x
    → AreStanding s lib flat → IsGrown s lib flat (with_item s lib scope x flat)
item_grown s lib scope x flat ground is stand =
    let total = flat.count + own_nets s lib x in
    record {
      count = omega arith;
      stand = record {
        items = All-push (IsPlaced s lib total) flat.items (record { scope = scope; item = x; first = flat.count })
            (placed_more s lib flat.count total flat.items (omega arith) stand.items)
            (record {
              nets = below_more flat.count total scope.nets (omega arith) ground.nets;
              item = subst (λ (n : ℕ). IsLawfulItem s n x) (sym ground.len) is;
              room = omega arith;
            });
        scopes = within_more flat.count total flat.scopes (omega arith) stand.scopes;
      };
    }

numbers_below : (count first total : ℕ) → first + count ≤ total → AllBelow total (numbers first count)
numbers_below zero first total room = all_none (λ (n : ℕ). n < total)
numbers_below (suc n) first total room =
    All-cons (λ (n : ℕ). n < total) first (numbers (first + 1) n) (omega (arith, room)) (numbers_below n (first + 1) total (omega (arith, room)))

bit_below : (total : ℕ) (outer nets : List ℕ) (bit : ℕ) (w : Wire) → AllBelow total outer → IsWireBelow (length outer) w → AllBelow total nets
    → AllBelow total (join_bit outer nets bit w)
bit_below total outer nets bit (wire.Const b) out is below = below
bit_below total outer nets bit (wire.Net n) out is below = All-set (λ (n : ℕ). n < total) nets bit (slice_index outer n) (out n 0 is) below

joins_below : (total : ℕ) (outer bits : List ℕ) (ws : List Wire) (nets : List ℕ) → AllBelow total outer → All (IsWireBelow (length outer)) ws
    → AllBelow total nets → AllBelow total (join_bits outer nets bits ws)
unfolding join_bits
joins_below total outer [] ws nets out are below = below
joins_below total outer (bit ∷ bits) [] nets out are below = below
joins_below total outer (bit ∷ bits) (w ∷ ws) nets out are below =
    joins_below total outer bits ws (join_bit outer nets bit w) out (All-tail (IsWireBelow (length outer)) w ws are)
    (bit_below total outer nets bit w out (All-head (IsWireBelow (length outer)) w ws are) below)

length_joins : (outer nets bits : List ℕ) (ws : List Wire) → length (join_bits outer nets bits ws) ≡ length nets
unfolding join_bits
length_joins outer nets [] ws = refl
length_joins outer nets (bit ∷ bits) [] = refl
length_joins outer nets (bit ∷ bits) (w ∷ ws) = length_joins outer (join_bit outer nets bit w) bits ws ∙ length_join outer nets bit w

abbrev port_joined : List ℕ → List Conn → List ℕ → Port → List ℕ
port_joined outer conns nets p = join_bits outer nets p.bits (wires_of conns p.name)

ports_below : (total : ℕ) (outer : List ℕ) (conns : List Conn) (ports : List Port) (nets : List ℕ) → AllBelow total outer
    → All (λ (c : Conn). AreWiresBelow (length outer) c.wires) conns → AllBelow total nets → AllBelow total (fold (port_joined outer conns) nets ports)
ports_below total outer conns [] nets out are below = below
ports_below total outer conns (p ∷ ports) nets out are below =
    ports_below total outer conns ports (port_joined outer conns nets p) out are
    (joins_below total outer p.bits (wires_of conns p.name) nets out (wires_below (length outer) conns p.name are) below)

length_ports : (outer : List ℕ) (conns : List Conn) (ports : List Port) (nets : List ℕ) → length (fold (port_joined outer conns) nets ports) ≡ length nets
length_ports outer conns [] nets = refl
length_ports outer conns (p ∷ ports) nets =
    length_ports outer conns ports (port_joined outer conns nets p) ∙ length_joins outer nets p.bits (wires_of conns p.name)

inner_ground : (s : Source) (scope : Scope) (name : List ℕ) (m : Module) (conns : List Conn) (first total : ℕ) → IsLawfulModule s m
    → AllBelow total scope.nets → All (λ (c : Conn). AreWiresBelow (length scope.nets) c.wires) conns → first + length m.nets ≤ total
    → IsGround s total (inner_scope scope name m conns first)
unfolding inner_nets
inner_ground s scope name m conns first total lawful below are room = record {
  body = lawful;
  len = length_ports scope.nets conns m.ports (numbers first (length m.nets)) ∙ length_numbers first (length m.nets);
  nets = ports_below total scope.nets conns m.ports (numbers first (length m.nets)) below are (numbers_below (length m.nets) first total room);
}

inner_if : (s : Source) (scope inner : Scope) (name : List ℕ) (conns : List Conn) (first total : ℕ) (found : Option Module) (owned : Option Cell)
    → ((m : Module) → found ≡ Some m → IsLawfulModule s m)
    → AllBelow total scope.nets → All (λ (c : Conn). AreWiresBelow (length scope.nets) c.wires) conns
    → first + (elim found [ Some m ↦ length m.nets | None ↦ elim owned [ Some c ↦ length c.inputs + other_pins c | None ↦ 0 ] ]) ≤ total
    → (elim found [ Some m ↦ Some (inner_scope scope name m conns first) | None ↦ None ]) ≡ Some inner → IsGround s total inner
inner_if s scope inner name conns first total None owned lawful below are room is = cc
inner_if s scope inner name conns first total (Some m) owned lawful below are room is =
    let same : inner_scope scope name m conns first ≡ inner = cc in
    subst (λ (x : Scope). IsGround s total x) same (inner_ground s scope name m conns first total (lawful m refl) below are room)

-- the instance that an item is
instance_ground : (s : Source) (lib : Library) (scope inner : Scope) (x : Item) (first total : ℕ) → IsLawful s → AllBelow total scope.nets
    → IsLawfulItem s (length scope.nets) x → first + own_nets s lib x ≤ total → instance_of s scope x first ≡ Some inner → IsGround s total inner
unfolding inst_nets
instance_ground s lib scope inner (item.Inst cell name conns) first total lawful below is room found =
    inner_if s scope inner name conns first total (module_of s cell) (cell_of lib cell) (λ m here. module_lawful s cell m lawful here) below is.1.0 room found
instance_ground s lib scope inner (item.Prim kind name outs ins) first total lawful below is room found = cc
instance_ground s lib scope inner (item.Copy to from) first total lawful below is room found = cc

-- what is inside grows with all its items
abbrev Grows : Source → Library → (Flat → Scope → Flat) → Type 0
Grows s lib inside = (flat : Flat) (scope : Scope) → IsGround s flat.count scope → AreStanding s lib flat → IsGrown s lib flat (inside flat scope)

inside_grown : (s : Source) (lib : Library) (inside : Flat → Scope → Flat) → Grows s lib inside → (flat : Flat) (found : Option Scope)
    → ((inner : Scope) → found ≡ Some inner → IsGround s flat.count inner) → AreStanding s lib flat → IsGrown s lib flat (inside_of inside flat found)
inside_grown s lib inside each flat None ground stand = record { count = omega arith; stand = stand }
inside_grown s lib inside each flat (Some inner) ground stand = each flat inner (ground inner refl) stand

then_grown : (s : Source) (lib : Library) (a b c : Flat) → IsGrown s lib a b → IsGrown s lib b c → IsGrown s lib a c
then_grown s lib a b c ab bc = record { count = omega (arith, ab.count, bc.count); stand = bc.stand }

added_grown : (s : Source) (lib : Library) (inside : Flat → Scope → Flat) → IsLawful s → Grows s lib inside → (scope : Scope) (x : Item) (flat : Flat)
    → IsGround s flat.count scope → IsLawfulItem s (length scope.body.nets) x → AreStanding s lib flat → IsGrown s lib flat (add_item inside s lib scope flat x)
unfolding add_item
added_grown s lib inside lawful each scope x flat ground is stand =
    let with_it = with_item s lib scope x flat in
    let first = item_grown s lib scope x flat ground is stand in
    let wide = below_more flat.count with_it.count scope.nets first.count ground.nets in
    let here : IsLawfulItem s (length scope.nets) x = subst (λ (n : ℕ). IsLawfulItem s n x) (sym ground.len) is in
    then_grown s lib flat with_it (inside_of inside with_it (instance_of s scope x flat.count)) first
    (inside_grown s lib inside each with_it (instance_of s scope x flat.count)
    (λ inner found. instance_ground s lib scope inner x flat.count with_it.count lawful wide here (omega arith) found) first.stand)

items_grown : (s : Source) (lib : Library) (inside : Flat → Scope → Flat) → IsLawful s → Grows s lib inside → (scope : Scope) (xs : List Item) (flat : Flat)
    → IsGround s flat.count scope → All (IsLawfulItem s (length scope.body.nets)) xs → AreStanding s lib flat
    → IsGrown s lib flat (fold (add_item inside s lib scope) flat xs)
items_grown s lib inside lawful each scope [] flat ground are stand = record { count = omega arith; stand = stand }
items_grown s lib inside lawful each scope (x ∷ xs) flat ground are stand =
    let after = add_item inside s lib scope flat x in
    let one = added_grown s lib inside lawful each scope x flat ground (All-head (IsLawfulItem s (length scope.body.nets)) x xs are) stand in
    then_grown s lib flat after (fold (add_item inside s lib scope) after xs) one
    (items_grown s lib inside lawful each scope xs after (ground_more s flat.count after.count scope one.count ground)
    (All-tail (IsLawfulItem s (length scope.body.nets)) x xs are) one.stand)

-- an instance and all that stands in it
scope_grown : (depth : ℕ) (s : Source) (lib : Library) → IsLawful s → Grows s lib (add_scope depth s lib)
unfolding add_scope
scope_grown zero s lib lawful flat scope ground stand = record { count = omega arith; stand = stand }
scope_grown (suc depth) s lib lawful flat scope ground stand =
    let grown = items_grown s lib (add_scope depth s lib) lawful (λ f x g p. scope_grown depth s lib lawful f x g p) scope scope.body.items
    (with_scope flat scope) ground ground.body.items
    (record { items = stand.items; scopes = All-push (IsWithin flat.count) flat.scopes scope stand.scopes ground.nets }) in
    record { count = grown.count; stand = grown.stand }

-- all that stands below a module
flat_grown : (s : Source) (lib : Library) (top : Module) → IsLawful s → IsLawfulModule s top
    → IsGrown s lib (record { count = length top.nets; scopes = []; items = [] }) (flat_of s lib top)
flat_grown s lib top lawful is =
    scope_grown (length s.modules) s lib lawful (record { count = length top.nets; scopes = []; items = [] }) (top_scope top)
    (record { body = is; len = length_numbers 0 (length top.nets); nets = numbers_below (length top.nets) 0 (length top.nets) (omega arith) })
    (record { items = all_none (IsPlaced s lib (length top.nets)); scopes = all_none (IsWithin (length top.nets)) })

-- every item of the flat netlist below a module
pub flat_placed : (s : Source) (lib : Library) (top : Module) → IsLawful s → IsLawfulModule s top
    → length top.nets ≤ (flat_of s lib top).count × ArePlaced s lib (flat_of s lib top)
flat_placed s lib top lawful is = let grown = flat_grown s lib top lawful is in (grown.count, grown.stand.items)

-- every instance has its nets among those of the flat netlist
pub flat_within : (s : Source) (lib : Library) (top : Module) → IsLawful s → IsLawfulModule s top
    → All (IsWithin (flat_of s lib top).count) (flat_of s lib top).scopes
flat_within s lib top lawful is = (flat_grown s lib top lawful is).stand.scopes
