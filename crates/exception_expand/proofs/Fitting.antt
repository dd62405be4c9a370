-- What the objects of a list stand for in a design is of the design.
use Rattle.std.proofs.Common.{arith, ◌≡◌, ℕ, suc, ◌+◌, ◌<◌, Bool, true, false, List, [], ◌∷◌, ◌++◌, length}
use Rattle.std.proofs.Common.{map, refl, subst, inl, inr, ◌⊎◌}
use Rattle.std.specs.Prelude.{Option, Some, None, slice_get, slice_index, All, not, ◌&&◌, if◌then◌else◌}
use Rattle.std.proofs.lemmas.List.Elements.{All-contains}
use Rattle.std.proofs.lemmas.Option.{slice_get_within}
use Rattle.net_model.specs.Netlist.{IsSound}
use Rattle.net_model.specs.Netlist.{AllBelow}
use Rattle.net_model.specs.Fits.{IsPinIn}
use Rattle.net_model.specs.declared.netlist.Design.{Design}
use Rattle.net_model.specs.declared.claims.PinRef.{PinRef}
use Rattle.net_model.specs.declared.claims.PinRef.TheVariants.{Net as NetPin, OutPort}
use Rattle.net_model.proofs.Members.{In, In-cases, from_flat, from_map, Contains-from_In}
use Rattle.net_model.proofs.Settling.{All-at}
use Rattle.linked_types.specs.declared.names.Linked.{Linked}
use Rattle.linked_types.specs.declared.names.Names.{Names}
use Rattle.linked_types.specs.declared.names.CellName.{CellName}
use Rattle.linked_types.specs.declared.names.PinName.{PinName}
use Rattle.linked_types.specs.declared.names.PinRole.{PinRole}
use Rattle.linked_types.proofs.Ports.{within_inputs, within_outputs}
use Rattle.linked_types.specs.declared.names.PinRole.TheVariants.{Clock as ClockRole, Load, Drive, Source, Sink}
use Rattle.linked_types.specs.declared.names.PortName.{PortName}
use Rattle.linked_types.specs.declared.names.NetName.{NetName}
use Rattle.linked_types.specs.Usable.{IsUsable, IsCellOf, IsRoleOf}
use Rattle.script_types.specs.declared.objects.Class.{Class}
use Rattle.script_types.specs.declared.objects.Class.TheVariants as class
use Rattle.script_types.specs.declared.objects.Query.{Query}
use Rattle.script_types.specs.declared.objects.Object.{Object}
use Rattle.script_types.specs.declared.objects.Object.TheVariants.{Named, AllInputs, AllOutputs, AllRegisters, AllClocks}
use Rattle.script_types.specs.declared.scripts.What.{What}
use Rattle.script_types.specs.declared.scripts.What.TheVariants.{Clock as ClockCommand, Case, Claiming, Hold, Aside, Passed, Unjudged, Scope, Generated, Delay}
use Rattle.script_types.specs.declared.scripts.Command.{Command}
use Rattle.script_types.specs.declared.scripts.Script.{Script}
use Rattle.sdc_objects.specs.declared.things.Thing.{Thing}
use Rattle.sdc_objects.specs.declared.things.Thing.TheVariants as thing
use Rattle.sdc_objects.specs.declared.things.Place.TheVariants.{Through}
use Rattle.sdc_objects.specs.declared.things.Side.TheVariants.{In as InSide, Out as OutSide}
use Rattle.sdcv_base.specs.Seqs.{each_at, where_true}
use Rattle.sdc_objects.specs.declared.things.ClockKind.TheVariants.{Judged, Other, Virtual}
use Rattle.sdc_settings.specs.Sources.{clock_name}
use Rattle.sdc_objects.specs.Clocks.{input_ports, clock_kind}
use Rattle.sdc_objects.specs.Things as named
use Rattle.sdc_objects.specs.Cuts.{is_cut}
use Rattle.sdc_settings.specs.Inputs.{names_bit}
use Rattle.std.specs.Option.{is_some}
use Rattle.sdc_objects.specs.Standing as spec
use Rattle.exception_expand.proofs.Ranging.{all_from_in}

-- a port or a net of the design; any other thing stands for what its cell has
abbrev IsThingIn : Linked → Thing → Type 0
IsThingIn l (thing.In i) = i < length l.design.inputs
IsThingIn l (thing.Out o) = o < length l.design.outputs
IsThingIn l (thing.Net n) = n < l.design.nets
IsThingIn l (thing.Cell k) = Unit {0}
IsThingIn l (thing.Pin k place) = Unit {0}
IsThingIn l thing.ClockPort = Unit {0}
IsThingIn l (thing.Clock place kind) = Unit {0}
IsThingIn l (thing.Delayed place) = Unit {0}

all_in : {A : Type 0} (P : A → Type 0) (xs : List A) (x : A) → All P xs → In x xs → P x
all_in P xs x all has = All-contains P xs x all (Contains-from_In xs x has)

nets_in : (d : Design) (nets : List ℕ) (pin : PinRef) → AllBelow d.nets nets → In pin (map NetPin nets) → IsPinIn d pin
nets_in d nets pin below has =
    let is = from_map NetPin pin nets has in
    subst (IsPinIn d) is.2 (all_in (λ (n : ℕ). n < d.nets) nets is.0 below is.1)

one_in : (d : Design) (x pin : PinRef) → IsPinIn d x → In pin (x ∷ []) → IsPinIn d pin
one_in d x pin fits (inl here) = subst (IsPinIn d) here fits
one_in d x pin fits (inr none) = absurd none

-- some pins, or none where they are dropped
kept_in : (d : Design) (drop : Bool) (pins : List PinRef) (pin : PinRef) → In pin (spec.meant_by (if drop then spec.dropped else Some pins)) → In pin pins
kept_in d true pins pin has = absurd has
kept_in d false pins pin has = has

outs_in : (d : Design) (cut : Bool) (c : CellName) (reg : Option ℕ) (pin : PinRef) → IsCellOf d c
    → In pin (spec.meant_by (spec.cell_outs cut c reg)) → IsPinIn d pin
outs_in d cut c (Some r) pin is has = nets_in d c.outs pin is.outs has
outs_in d cut c None pin is has = nets_in d c.outs pin is.outs (kept_in d (not cut && spec.is_on_tree c) (map NetPin c.outs) pin has)

role_in : (d : Design) (cut : Bool) (reg : Option ℕ) (role : PinRole) (pin : PinRef) → IsSound d → IsRoleOf d role
    → In pin (spec.meant_by (spec.pin_row d cut reg role).through) → IsPinIn d pin
role_in d cut reg ClockRole pin sound is has = absurd has
role_in d cut reg (Drive net) pin sound is has = one_in d (NetPin net) pin is has
role_in d cut reg (Load pins) pin sound is has = all_in (IsPinIn d) pins pin is (kept_in d cut pins pin has)
role_in d cut reg (Source i) pin sound is has = one_in d (NetPin (slice_index d.inputs i)) pin (sound.in_range.inputs i 0 is) has
role_in d cut reg (Sink o) pin sound is has = one_in d (OutPort o) pin is has

cell_in : (d : Design) (cut : Bool) (cells : List CellName) (k : ℕ) (c : Option CellName) (pin : PinRef) → All (IsCellOf d) cells
    → slice_get cells k ≡ c → In pin (spec.meant_by (spec.cell_at_row cut c).through) → IsPinIn d pin
cell_in d cut cells k None pin all is has = absurd has
cell_in d cut cells k (Some c) pin all is has = outs_in d cut c c.reg pin (All-at (IsCellOf d) cells k c is all) has

place_in : (d : Design) (cut : Bool) (c : CellName) (place : ℕ) (p : Option PinName) (pin : PinRef) → IsSound d → IsCellOf d c
    → slice_get c.pins place ≡ p → In pin (spec.meant_by (spec.role_row d cut c.reg p).through) → IsPinIn d pin
place_in d cut c place None pin sound is here has = absurd has
place_in d cut c place (Some p) pin sound is here has =
    role_in d cut c.reg p.role pin sound (All-at (λ (q : PinName). IsRoleOf d q.role) c.pins place p here is.pins) has

pin_at_in : (d : Design) (cut : Bool) (cells : List CellName) (k place : ℕ) (c : Option CellName) (pin : PinRef) → IsSound d → All (IsCellOf d) cells
    → slice_get cells k ≡ c → In pin (spec.meant_by (spec.pin_at_row d cut c place).through) → IsPinIn d pin
pin_at_in d cut cells k place None pin sound all is has = absurd has
pin_at_in d cut cells k place (Some c) pin sound all is has =
    place_in d cut c place (slice_get c.pins place) pin sound (All-at (IsCellOf d) cells k c is all) refl has

-- the pins that a thing stands for
pin_in : (l : Linked) (t : Thing) (pin : PinRef) → IsUsable l → IsThingIn l t → In pin (spec.meant_by (spec.through_column l t)) → IsPinIn l.design pin
pin_in l (thing.Cell k) pin usable is has =
    cell_in l.design (is_cut l.names k) l.names.cells k (slice_get l.names.cells k) pin usable.cells refl has
pin_in l (thing.Pin k place) pin usable is has =
    pin_at_in l.design (is_cut l.names k) l.names.cells k place (slice_get l.names.cells k) pin usable.sound usable.cells refl has
pin_in l (thing.In i) pin usable is has =
    one_in l.design (NetPin (slice_index l.design.inputs i)) pin (usable.sound.in_range.inputs i 0 is) has
pin_in l (thing.Out o) pin usable is has = one_in l.design (OutPort o) pin is has
pin_in l thing.ClockPort pin usable is has = absurd has
pin_in l (thing.Net n) pin usable is has = one_in l.design (NetPin n) pin is has
pin_in l (thing.Clock place Judged) pin usable is has = absurd has
pin_in l (thing.Clock place Other) pin usable is has = absurd has
pin_in l (thing.Clock place Virtual) pin usable is has = absurd has
pin_in l (thing.Delayed place) pin usable is has = absurd has

-- what is made of items is made of one
pub record Made {A B : Type 0} (f : ℕ → A → List B) (first : ℕ) (xs : List A) (y : B) : Type 0 where
  pub place : ℕ
  pub item : A
  pub here : slice_get xs place ≡ Some item
  pub of : In y (f (first + place) item)

pub from_each : {A B : Type 0} (f : ℕ → A → List B) (first : ℕ) (xs : List A) (y : B) → In y (each_at f first xs) → Made f first xs y
from_each f first [] y has = absurd has
from_each {A} {B} f first (x ∷ xs) y has =
    elim (In-cases y (f first x) (each_at f (first + 1) xs) has) as (λ z. Made f first (x ∷ xs) y) [
      | inl here ↦
          let at : first ≡ first + 0 = omega arith in
          record { place = 0; item = x; here = refl; of = subst (λ (n : ℕ). In y (f n x)) at here }
      | inr later ↦
          let more = from_each f (first + 1) xs y later in
          let at : (first + 1) + more.place ≡ first + suc more.place = omega arith in
          record { place = suc more.place; item = more.item; here = more.here; of = subst (λ (n : ℕ). In y (f n more.item)) at more.of }
    ]

wanted_is : {A : Type 0} (b : Bool) (x y : A) → In y (where_true b x) → x ≡ y
wanted_is true x y (inl here) = here
wanted_is true x y (inr none) = absurd none
wanted_is false x y has = absurd has

single_is : {A : Type 0} (x y : A) → In y (x ∷ []) → x ≡ y
single_is x y (inl here) = here
single_is x y (inr none) = absurd none

abbrev clock_of : Query → Names → ℕ → What → List Thing
clock_of q n place what = elim what as (λ w. List Thing) [
  | ClockCommand name source ↦ where_true (named.names_some q (clock_name (input_ports n) name source)) (thing.Clock place (clock_kind n source))
  | _ ↦ []
]

what_clock : (l : Linked) (q : Query) (n : Names) (place : ℕ) (what : What) (t : Thing) → In t (clock_of q n place what) → IsThingIn l t
what_clock l q n place (ClockCommand name source) t has =
    subst (IsThingIn l) (wanted_is (named.names_some q (clock_name (input_ports n) name source)) (thing.Clock place (clock_kind n source)) t has) tt
what_clock l q n place (Case value objects) t has = absurd has
what_clock l q n place (Claiming e) t has = absurd has
what_clock l q n place (Hold h) t has = absurd has
what_clock l q n place (Aside option) t has = absurd has
what_clock l q n place Passed t has = absurd has
what_clock l q n place (Unjudged name) t has = absurd has
what_clock l q n place (Scope name) t has = absurd has
what_clock l q n place (Generated name objects) t has = absurd has
what_clock l q n place (Delay output clocks objects) t has = absurd has

abbrev clock_of_any : Names → ℕ → What → List Thing
clock_of_any n place what = elim what as (λ w. List Thing) [ ClockCommand name source ↦ thing.Clock place (clock_kind n source) ∷ [] | _ ↦ [] ]

any_what : (l : Linked) (n : Names) (place : ℕ) (what : What) (t : Thing) → In t (clock_of_any n place what) → IsThingIn l t
any_what l n place (ClockCommand name source) t has = subst (IsThingIn l) (single_is (thing.Clock place (clock_kind n source)) t has) tt
any_what l n place (Case value objects) t has = absurd has
any_what l n place (Claiming e) t has = absurd has
any_what l n place (Hold h) t has = absurd has
any_what l n place (Aside option) t has = absurd has
any_what l n place Passed t has = absurd has
any_what l n place (Unjudged name) t has = absurd has
any_what l n place (Scope name) t has = absurd has
any_what l n place (Generated name objects) t has = absurd has
any_what l n place (Delay output clocks objects) t has = absurd has

command_clock : (l : Linked) (q : Query) (n : Names) (what : What) (place : ℕ) (c : Command) (t : Thing) → c.what ≡ what
    → In t (named.clock_named q n place c) → IsThingIn l t
command_clock l q n what place c t is has = what_clock l q n place what t (subst (λ (w : What). In t (clock_of q n place w)) is has)

any_clock_thing : (l : Linked) (n : Names) (place : ℕ) (c : Command) (t : Thing) → In t (named.any_clock n place c) → IsThingIn l t
any_clock_thing l n place c t has = any_what l n place c.what t has

-- the first list that is not empty is one of them
in_first : {B : Type 0} (ys : List B) (rest : List (List B)) (y : B) → In y (named.first_some (ys ∷ rest)) → In y ys ⊎ In y (named.first_some rest)
in_first [] rest y has = inr has
in_first (z ∷ zs) rest y has = inl has

from_first : {A B : Type 0} (f : A → List B) (xs : List A) (y : B) → In y (named.first_some (map f xs)) → (x : A) × In y (f x)
from_first f [] y has = absurd has
from_first {A} {B} f (x ∷ xs) y has =
    elim (in_first (f x) (map f xs) y has) as (λ z. (a : A) × In y (f a)) [ inl here ↦ (x, here) | inr later ↦ from_first f xs y later ]

bit_thing : (l : Linked) (q : Query) (place : ℕ) (p : PortName) (t : Thing) → place < length l.design.inputs
    → In t (named.bit_named q InSide place p) → IsThingIn l t
bit_thing l q place p t low has = subst (IsThingIn l) (wanted_is (names_bit q p) (thing.In place) t has) low

out_thing : (l : Linked) (q : Query) (place : ℕ) (p : PortName) (t : Thing) → place < length l.design.outputs
    → In t (named.bit_named q OutSide place p) → IsThingIn l t
out_thing l q place p t low has = subst (IsThingIn l) (wanted_is (names_bit q p) (thing.Out place) t has) low

clock_port_thing : (l : Linked) (q : Query) (port : Option PortName) (t : Thing) → In t (named.clock_port_named q port) → IsThingIn l t
clock_port_thing l q None t has = absurd has
clock_port_thing l q (Some port) t has = subst (IsThingIn l) (wanted_is (named.names q port.name) thing.ClockPort t has) tt

ports_in : (l : Linked) (q : Query) (t : Thing) → IsUsable l → In t (named.ports_named q l.names) → IsThingIn l t
ports_in l q t usable has =
    let ins = each_at (named.bit_named q InSide) 0 l.names.ins in
    let port = named.clock_port_named q l.names.clock in
    let outs = each_at (named.bit_named q OutSide) 0 l.names.outs in
    elim (In-cases t (ins ++ port) outs has) [
      | inl before ↦ elim (In-cases t ins port before) [
        | inl input ↦
            let is = from_each (named.bit_named q InSide) 0 l.names.ins t input in
            let low = within_inputs l (0 + is.place) usable (omega (arith, slice_get_within l.names.ins is.place is.item is.here)) in
            bit_thing l q (0 + is.place) is.item t low is.of
        | inr clock ↦ clock_port_thing l q l.names.clock t clock
      ]
      | inr output ↦
          let is = from_each (named.bit_named q OutSide) 0 l.names.outs t output in
          let low = within_outputs l (0 + is.place) usable (omega (arith, slice_get_within l.names.outs is.place is.item is.here)) in
          out_thing l q (0 + is.place) is.item t low is.of
    ]

cell_thing : (l : Linked) (q : Query) (k : ℕ) (c : CellName) (t : Thing) → In t (named.cell_named q k c) → IsThingIn l t
cell_thing l q k c t has = subst (IsThingIn l) (wanted_is (named.names q c.name) (thing.Cell k) t has) tt

pins_thing : (l : Linked) (q : Query) (k : ℕ) (c : CellName) (t : Thing) → In t (named.pins_named q k c) → IsThingIn l t
pins_thing l q k c t has =
    let is = from_each (named.pin_named q k c.name) 0 c.pins t has in
    subst (IsThingIn l) (wanted_is (named.names q (named.pin_name c.name is.item.name)) (thing.Pin k (0 + is.place)) t is.of) tt

net_thing : (l : Linked) (q : Query) (place : ℕ) (n : NetName) (t : Thing) → n.net < l.design.nets → In t (named.net_named q place n) → IsThingIn l t
net_thing l q place n t low has = subst (IsThingIn l) (wanted_is (named.names q n.name) (thing.Net n.net) t has) low

found_in : (l : Linked) (script : Script) (q : Query) (of : Class) (t : Thing) → IsUsable l → In t (named.found l script q of) → IsThingIn l t
found_in l script q class.Ports t usable has = ports_in l q t usable has
found_in l script q class.Cells t usable has =
    let is = from_each (named.cell_named q) 0 l.names.cells t has in
    cell_thing l q (0 + is.place) is.item t is.of
found_in l script q class.Pins t usable has =
    let is = from_each (named.pins_named q) 0 l.names.cells t has in
    pins_thing l q (0 + is.place) is.item t is.of
found_in l script q class.Nets t usable has =
    let is = from_each (named.net_named q) 0 l.names.nets t has in
    net_thing l q (0 + is.place) is.item t (All-at (λ (n : NetName). n.net < l.design.nets) l.names.nets is.place is.item is.here usable.nets) is.of
found_in l script q class.Clocks t usable has =
    let is = from_each (named.clock_named q l.names) 0 script.commands t has in
    command_clock l q l.names is.item.what (0 + is.place) is.item t refl is.of
found_in l script q class.Any t usable has = absurd has

reg_thing : (l : Linked) (k : ℕ) (c : CellName) (t : Thing) → In t (named.cell_of_reg k c.reg) → IsThingIn l t
reg_thing l k c t has = subst (IsThingIn l) (wanted_is (is_some c.reg) (thing.Cell k) t has) tt

things_in : (l : Linked) (script : Script) (o : Object) (t : Thing) → IsUsable l → In t (named.things_of l script Through o) → IsThingIn l t
things_in l script (Named q) t usable has =
    let first = from_first (named.found l script q) (named.classes Through q.class) t has in
    found_in l script q first.0 t usable first.1
things_in l script AllInputs t usable has =
    let is = from_each (λ i (p : PortName). thing.In i ∷ []) 0 l.names.ins t has in
    let low : 0 + is.place < length l.design.inputs =
    within_inputs l (0 + is.place) usable (omega (arith, slice_get_within l.names.ins is.place is.item is.here)) in
    subst (IsThingIn l) (single_is (thing.In (0 + is.place)) t is.of) low
things_in l script AllOutputs t usable has =
    let is = from_each (λ o (p : PortName). thing.Out o ∷ []) 0 l.names.outs t has in
    let low : 0 + is.place < length l.design.outputs =
    within_outputs l (0 + is.place) usable (omega (arith, slice_get_within l.names.outs is.place is.item is.here)) in
    subst (IsThingIn l) (single_is (thing.Out (0 + is.place)) t is.of) low
things_in l script AllRegisters t usable has =
    let is = from_each (λ k (c : CellName). named.cell_of_reg k c.reg) 0 l.names.cells t has in
    reg_thing l (0 + is.place) is.item t is.of
things_in l script AllClocks t usable has =
    let is = from_each (named.any_clock l.names) 0 script.commands t has in
    any_clock_thing l l.names (0 + is.place) is.item t is.of

-- the pins of a through list
pub pins_fit : (l : Linked) (script : Script) → IsUsable l → (objects : List Object) → All (IsPinIn l.design) (spec.pins_of l script objects)
pins_fit l script usable objects =
    all_from_in (IsPinIn l.design) (spec.pins_of l script objects) (λ pin has.
    let by = from_flat (λ (o : Object). spec.meant_of (spec.through_column l) (named.things_of l script Through o)) pin objects has in
    let of = from_flat (λ (t : Thing). spec.meant_by (spec.through_column l t)) pin (named.things_of l script Through by.0) by.2 in
    pin_in l of.0 pin usable (things_in l script by.0 of.0 usable of.1) of.2)
