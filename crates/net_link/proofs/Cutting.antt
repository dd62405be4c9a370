-- The pins of cells that are cut out stand on nets of instances.
use Rattle.std.proofs.Common.{◌≡◌, ℕ, ◌<◌, Bool, true, false, not, ◌&&◌, List, [], ◌∷◌, length, map, All, refl, ap, subst, sym, ◌∙◌, arith, inl, inr}
use Rattle.std.specs.Prelude.{Contains, filter, flat_map, slice_index}
use Rattle.std.specs.List.{list_any}
use Rattle.std.specs.Str.{bytes_eq}
use Rattle.std.proofs.lemmas.Bool.{and_parts, both_ways, not-true}
use Rattle.std.proofs.lemmas.Option.{get_or_from_slice_get}
use Rattle.std.proofs.lemmas.Slice.Eq.{bytes_eq-Decides}
use Rattle.sdcv_base.specs.Seqs.{is_marked}
use Rattle.net_model.proofs.Members.{In, from_flat, from_map, In-from_Contains, Contains-from_In}
use Rattle.netlist_types.specs.declared.sources.Source.{Source}
use Rattle.netlist_types.specs.declared.sources.Module.{Module}
use Rattle.link_defs.specs.declared.circuits.Circuit.{Circuit}
use Rattle.link_defs.specs.declared.cuts.CutCell.{CutCell}
use Rattle.link_defs.specs.declared.cuts.CutItem.{CutItem}
use Rattle.link_defs.specs.declared.cuts.CutPin.{CutPin}
use Rattle.link_defs.specs.Cuts.{Tree, OwnedPin, IsFitItem, cell_in, cells_in, cut_cells, pin_in, owned_by, owned_pins, net_of, is_loose, first_pins}
use Rattle.link_defs.specs.Circuits.{all_drivers, all_reads}
use Rattle.link_defs.specs.Cuts.{stands_in, may_drive, free_nets, free_pins, is_clocked, is_sink, reads_data, sink_pins}
use Rattle.link_defs.specs.Flatten.{Scope}
use Rattle.link_items.specs.declared.made.Instance.{Instance}
use Rattle.link_items.specs.Items.{scope_of}
use Rattle.link_items.proofs.Listing.{all_by, contains_at}
use Rattle.link_items.proofs.Naming.{some_at}
use Rattle.link_design.proofs.Parted.{all_in}
use Rattle.link_circuit.specs.Flats.{IsScope, AreScopes}
use Rattle.link_circuit.specs.Names.{HasNet}
use Rattle.link_circuit.proofs.Finding.{module_is}
use Rattle.link_circuit.proofs.Placing.{IsWithin}
use Rattle.link_clocks.specs.Netlists.{AreCellsBelow}
use Rattle.link_cuts.specs.Groups.{IsPlaced}
use Rattle.link_cuts.proofs.Checked.{stands_there, there_stands}

-- what is left of a list stands in it and passes
filter_or : {X : Type 0} (p : X → Bool) (y : X) (ys : List X) (x : X) (b : Bool) → p y ≡ b → (In x (filter p ys) → In x ys × (p x ≡ true))
    → In x (filter p (y ∷ ys)) → In x (y ∷ ys) × (p x ≡ true)
filter_or {X} p y ys x true e rest has =
    let front : filter p (y ∷ ys) ≡ y ∷ filter p ys = rw e refl in
    elim (subst (λ (zs : List X). In x zs) front has) [
      | inl same ↦ (inl same, subst (λ (z : X). p z ≡ true) same e)
      | inr later ↦ let (there, hit) = rest later in (inr there, hit)
    ]
filter_or {X} p y ys x false e rest has =
    let front : filter p (y ∷ ys) ≡ filter p ys = rw e refl in
    let (there, hit) = rest (subst (λ (zs : List X). In x zs) front has) in
    (inr there, hit)

pub in_filter : {X : Type 0} (p : X → Bool) (xs : List X) (x : X) → In x (filter p xs) → In x xs × (p x ≡ true)
in_filter p [] x has = absurd has
in_filter p (y ∷ ys) x has = filter_or p y ys x (p y) refl (in_filter p ys x) has

-- the number at a place stands in the list
index_in : (ns : List ℕ) (k : ℕ) → k < length ns → In (slice_index ns k) ns
index_in ns k lt =
    let (n, at) = some_at ns k lt in
    In-from_Contains ns (slice_index ns k) (subst (λ (m : ℕ). Contains ns m) (sym (get_or_from_slice_get ns k n 0 at)) (contains_at ns k n at))

-- a pin of a cell stands on a net of an instance
pin_seen : (s : Source) (scopes : List Instance) (items : List CutItem) (x : CutCell) (p : CutPin) → AreScopes s scopes → All (IsFitItem s) items
    → In x (cut_cells items (map (scope_of s) scopes)) → In p x.pins → HasNet (map (scope_of s) scopes) p.net
pin_seen s scopes items x p are fits has p_in =
    let (scope, there, x_in) = from_flat (cells_in items) x (map (scope_of s) scopes) has in
    let (g, g_there, same) = from_map (scope_of s) scope scopes there in
    let test : CutItem → Bool = λ y. bytes_eq y.module scope.body.name in
    let (y, y_in, cell_is) = from_map (cell_in scope) x (filter test items) x_in in
    let (y_there, named) = in_filter test items y y_in in
    let (q, q_in, pin_is) = from_map (pin_in scope) p y.pins (subst (λ (c : CutCell). In p c.pins) (sym cell_is) p_in) in
    let is = all_in (IsScope s) scopes are g g_there in
    let (m, at) = some_at s.modules g.body is.body in
    let m_is : m ≡ scope.body = module_is s g.body m at ∙ ap (λ (c : Scope). c.body) same in
    let body_there : Contains s.modules scope.body = subst (λ (b : Module). Contains s.modules b) m_is (contains_at s.modules g.body m at) in
    let (equal, back) = bytes_eq-Decides y.module scope.body.name in
    let below = all_in (IsFitItem s) items fits y y_there scope.body body_there (sym (equal named)) in
    let lt : q.net < length scope.body.nets = all_in (λ (z : CutPin). z.net < length scope.body.nets) y.pins below q q_in in
    let len : length scope.nets ≡ length scope.body.nets = subst (λ (c : Scope). length c.nets ≡ length c.body.nets) same is.nets in
    let here = index_in scope.nets q.net (omega (arith, lt, len)) in (
      scope,
      Contains-from_In (map (scope_of s) scopes) scope there,
      Contains-from_In scope.nets p.net (subst (λ (n : ℕ). In n scope.nets) (ap (λ (z : CutPin). z.net) pin_is) here),
    )

-- all pins of the cells stand on nets of instances
abbrev pub AreSeen : List Scope → List CutCell → Type 0
AreSeen scopes cells = (x : CutCell) (p : CutPin) → In x cells → In p x.pins → HasNet scopes p.net

pub cells_seen : (s : Source) (scopes : List Instance) (flat : List Scope) (items : List CutItem) → map (scope_of s) scopes ≡ flat → AreScopes s scopes
    → All (IsFitItem s) items → AreSeen flat (cut_cells items flat)
cells_seen s scopes flat items same are fits =
    subst (λ (gs : List Scope). AreSeen gs (cut_cells items gs)) same (λ x p has p_in. pin_seen s scopes items x p are fits has p_in)

-- and among the nets of the flat netlist
pub cells_below : (total : ℕ) (scopes : List Scope) (cells : List CutCell) → All (IsWithin total) scopes → AreSeen scopes cells → AreCellsBelow total cells
cells_below total scopes cells within seen =
    all_by (λ (x : CutCell). All (λ (p : CutPin). p.net < total) x.pins) cells (λ i x at_x.
    all_by (λ (p : CutPin). p.net < total) x.pins (λ j p at_p.
    let (scope, there, has) = seen x p (In-from_Contains cells x (contains_at cells i x at_x)) (In-from_Contains x.pins p (contains_at x.pins j p at_p)) in
    let nets = all_in (IsWithin total) scopes within scope (In-from_Contains scopes scope there) in
    all_in (λ (n : ℕ). n < total) scope.nets nets p.net (In-from_Contains scope.nets p.net has)))

-- the first pins on nets are among all
first_or : (seen : List ℕ) (q : OwnedPin) (qs : List OwnedPin) (p : OwnedPin) (b : Bool) → stands_in seen q.pin.net ≡ b
    → ((more : List ℕ) → In p (first_pins more qs) → In p qs) → In p (first_pins seen (q ∷ qs)) → In p (q ∷ qs)
first_or seen q qs p true e rest has =
    let front : first_pins seen (q ∷ qs) ≡ first_pins seen qs = rw e refl in
    inr (rest seen (subst (λ (ps : List OwnedPin). In p ps) front has))
first_or seen q qs p false e rest has =
    let front : first_pins seen (q ∷ qs) ≡ q ∷ first_pins (q.pin.net ∷ seen) qs = rw e refl in
    elim (subst (λ (ps : List OwnedPin). In p ps) front has) [
      | inl same ↦ inl same
      | inr later ↦ inr (rest (q.pin.net ∷ seen) later)
    ]

in_first : (seen : List ℕ) (qs : List OwnedPin) (p : OwnedPin) → In p (first_pins seen qs) → In p qs
in_first seen [] p has = has
in_first seen (q ∷ qs) p has = first_or seen q qs p (stands_in seen q.pin.net) refl (λ more. in_first more qs p) has

-- a net that is free is read and not driven
loose_seen : (c : Circuit) (scopes : List Scope) (p : OwnedPin)
    → ((net : ℕ) → Contains (all_reads c) net → (Contains (all_drivers c) net → ⊥) → HasNet scopes net) → is_loose c p ≡ true → HasNet scopes (net_of p)
loose_seen c scopes p undriven loose =
    let net = p.pin.net in
    let read = stands_in (all_reads c) net in
    let driven = stands_in (all_drivers c) net in
    let (may, rest) = and_parts (may_drive p.pin.way) (read && not driven) loose in
    let (reads, off) = and_parts read (not driven) rest in
    undriven net (Contains-from_In (all_reads c) net (stands_there net (all_reads c) reads)) (λ has.
    both_ways driven (not-true driven off) (there_stands net (all_drivers c) (In-from_Contains (all_drivers c) net has)))

-- free nets are nets of instances, where those are that are read and not driven
pub free_seen : (c : Circuit) (scopes : List Scope) (cells : List CutCell)
    → ((net : ℕ) → Contains (all_reads c) net → (Contains (all_drivers c) net → ⊥) → HasNet scopes net)
    → (net : ℕ) → Contains (free_nets c cells) net → HasNet scopes net
free_seen c scopes cells undriven = λ net has.
    let (p, p_in, same) = from_map net_of net (free_pins c cells) (In-from_Contains (free_nets c cells) net has) in
    let (there, loose) = in_filter (is_loose c) (flat_map owned_pins cells) p (in_first [] (filter (is_loose c) (flat_map owned_pins cells)) p p_in) in
    subst (λ (n : ℕ). HasNet scopes n) same (loose_seen c scopes p undriven loose)

-- so are the nets of sinks, where those are on which a cell on the clock stands
pub sinks_seen : (c : Circuit) (t : Tree) (scopes : List Scope) (cells : List CutCell)
    → ((x : CutCell) (p : CutPin) → Contains cells x → x.clocked ≡ true → Contains x.pins p → HasNet scopes p.net)
    → (net : ℕ) → Contains (map net_of (sink_pins c t cells)) net → HasNet scopes net
sinks_seen c t scopes cells clocked = λ net has.
    let (p, p_in, same) = from_map net_of net (sink_pins c t cells) (In-from_Contains (map net_of (sink_pins c t cells)) net has) in
    let (there, sinks) = in_filter (is_sink c t (free_nets c cells)) (flat_map owned_pins cells) p p_in in
    let (x, x_in, own) = from_flat owned_pins p cells there in
    let (q, q_in, is) = from_map (owned_by x) p x.pins own in
    let (on, reads) = and_parts (is_clocked t p.cell) (reads_data c t (free_nets c cells) p.pin) sinks in
    let (captures, any) = and_parts p.cell.clocked (list_any (λ (z : CutPin). is_marked t.even z.net) p.cell.pins) on in
    subst (λ (n : ℕ). HasNet scopes n) (ap (λ (y : OwnedPin). net_of y) is ∙ same)
    (clocked x q (Contains-from_In cells x x_in) (ap (λ (y : OwnedPin). y.cell.clocked) is ∙ captures) (Contains-from_In x.pins q q_in))

-- instances are placed
pub placed_all : (s : Source) (scopes : List Instance) → AreScopes s scopes → All (IsPlaced s) scopes
placed_all s scopes are = λ k d lt. let at = are k d lt in record { body = at.body; nets = at.nets }
