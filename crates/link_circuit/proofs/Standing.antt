-- Frames by their instances: what stays while instances are added, and the ranks of modules.
use Rattle.std.proofs.Common.{◌≡◌, ℕ, zero, suc, ◌<◌, ◌≤◌, List, [], ◌∷◌, ◌++◌, length, map, drop, All, Some, None, refl, ap, subst, sym, ◌∙◌}
use Rattle.std.proofs.Common.{arith}
use Rattle.std.specs.Prelude.{Contains, slice_get, flat_map}
use Rattle.std.proofs.lemmas.List.{map-append, length-map}
use Rattle.std.proofs.lemmas.List.Elements.{Contains-append_left, Contains-append_right, All-head, All-tail}
use Rattle.std.proofs.lemmas.Option.{get_or_from_slice_get, slice_get-get_or, slice_get_within}
use Rattle.netlist_types.specs.declared.sources.Source.{Source}
use Rattle.netlist_types.specs.declared.sources.Module.{Module}
use Rattle.netlist_types.specs.declared.sources.Item.{Item}
use Rattle.graph_order.specs.Needs.{needs_of}
use Rattle.graph_order.specs.Orders.{IsRightOrder}
use Rattle.link_defs.specs.Hierarchy.{refs, place_of_module, module_needs}
use Rattle.link_items.specs.declared.made.Instance.{Instance}
use Rattle.link_items.specs.Items.{module_at, scope_of}
use Rattle.link_items.proofs.Listing.{kept_at, last_at, drop_next}
use Rattle.link_circuit.specs.declared.frames.Frame.{Frame}
use Rattle.link_circuit.specs.Frames.{instance_at, scope_at, frame_pend, pends, depth_left, AreRanks, HasRanks, AreWithin}
use Rattle.link_circuit.specs.Pending.{Pend}
use Rattle.link_circuit.specs.Steps.{next_of}
use Rattle.link_circuit.proofs.Ranking.{rank_in, rank_falls, rank_below}

-- no instance
abbrev pub blank : Instance
blank = record { prefix = []; body = 0; nets = []; depth = 0 }

-- the instance at a place is the one that stands there
pub instance_is : (scopes : List Instance) (k : ℕ) (g : Instance) → slice_get scopes k ≡ Some g → instance_at scopes k ≡ g
instance_is scopes k g at = get_or_from_slice_get scopes k g blank at

-- it stays while instances are added
instance_kept : (scopes : List Instance) (g : Instance) (k : ℕ) → k < length scopes → instance_at (scopes ++ g ∷ []) k ≡ instance_at scopes k
instance_kept scopes g k lt =
    instance_is (scopes ++ g ∷ []) k (instance_at scopes k) (kept_at scopes (g ∷ []) k (instance_at scopes k) (slice_get-get_or scopes k blank lt))

-- the instance that is added stands last
pub instance_last : (scopes : List Instance) (g : Instance) → instance_at (scopes ++ g ∷ []) (length scopes) ≡ g
instance_last scopes g = instance_is (scopes ++ g ∷ []) (length scopes) g (last_at scopes g)

-- a frame of an instance
abbrev pub pend_of : Source → Frame → Instance → Pend
pend_of s f g = record { scope = scope_of s g; items = drop f.next (scope_of s g).body.items }

-- what is left stays
pub pends_kept : (s : Source) (scopes : List Instance) (g : Instance) (stack : List Frame) → All (λ (x : Frame). x.scope < length scopes) stack
    → pends s (scopes ++ g ∷ []) stack ≡ pends s scopes stack
pends_kept s scopes g [] there = refl
pends_kept s scopes g (f ∷ rest) there =
    ap (λ (i : Instance). pend_of s f i ∷ pends s (scopes ++ g ∷ []) rest)
    (instance_kept scopes g f.scope (All-head (λ (x : Frame). x.scope < length scopes) f rest there))
    ∙ ap (λ (ps : List Pend). frame_pend s scopes f ∷ ps) (pends_kept s scopes g rest (All-tail (λ (x : Frame). x.scope < length scopes) f rest there))

-- so do the ranks
pub within_kept : (rank : ℕ → ℕ) (stack : List Frame) (depth : ℕ) (scopes : List Instance) (g : Instance) → All (λ (x : Frame). x.scope < length scopes) stack
    → AreWithin rank depth scopes stack → AreWithin rank depth (scopes ++ g ∷ []) stack
within_kept rank [] depth scopes g there within = tt
within_kept rank (f ∷ rest) depth scopes g there within = (
  subst (λ (i : Instance). rank i.body ≤ depth)
      (sym (instance_kept scopes g f.scope (All-head (λ (x : Frame). x.scope < length scopes) f rest there))) within.0,
  within_kept rank rest (suc depth) scopes g (All-tail (λ (x : Frame). x.scope < length scopes) f rest there) within.1,
)

-- places stay places
pub there_kept : (stack : List Frame) (scopes : List Instance) (g : Instance) → All (λ (x : Frame). x.scope < length scopes) stack
    → All (λ (x : Frame). x.scope < length (scopes ++ g ∷ [])) stack
there_kept stack scopes g there = λ k d lt. slice_get_within (scopes ++ g ∷ []) _ _
    (kept_at scopes (g ∷ []) _ _ (slice_get-get_or scopes _ blank (there k d lt)))

-- the items of a frame, the next one first
pub items_next : (s : Source) (scopes : List Instance) (f : Frame) (x : Item) → slice_get (scope_at s scopes f.scope).body.items f.next ≡ Some x
    → (frame_pend s scopes f).items ≡ x ∷ (frame_pend s scopes (next_of f)).items
items_next s scopes f x at = drop_next (scope_at s scopes f.scope).body.items f.next x at

-- none is left past the end
pub items_past : {X : Type 0} (xs : List X) (k : ℕ) → slice_get xs k ≡ None → drop k xs ≡ []
items_past [] zero none = refl
items_past [] (suc k) none = refl
items_past (x ∷ xs) zero none = cc
items_past (x ∷ xs) (suc k) none = items_past xs k none

-- one frame fewer leaves one more depth
pub deeper : (s : Source) (f : Frame) (stack : List Frame) → length (f ∷ stack) ≤ length s.modules → depth_left s stack ≡ suc (depth_left s (f ∷ stack))
deeper s f stack room = omega arith

map_at : {X Y : Type 0} (f : X → Y) (xs : List X) (k : ℕ) (x : X) → slice_get xs k ≡ Some x → slice_get (map f xs) k ≡ Some (f x)
map_at f [] k x at = cc
map_at f (y ∷ ys) zero x at = let same : y ≡ x = cc in ap (λ z. Some (f z)) same
map_at f (y ∷ ys) (suc k) x at = map_at f ys k x at

-- what an item refers to is among what its module refers to
referred : (p : List ℕ → ℕ) (items : List Item) (k : ℕ) (x : Item) (place : ℕ) → slice_get items k ≡ Some x → Contains (map p (refs x)) place
    → Contains (map p (flat_map refs items)) place
referred p [] k x place at has = cc
referred p (y ∷ ys) zero x place at has =
    let same : y ≡ x = cc in
    subst (λ (ns : List ℕ). Contains ns place) (sym (map-append p (refs y) (flat_map refs ys)))
    (Contains-append_left (map p (refs y)) (map p (flat_map refs ys)) place (subst (λ (i : Item). Contains (map p (refs i)) place) (sym same) has))
referred p (y ∷ ys) (suc k) x place at has =
    subst (λ (ns : List ℕ). Contains ns place) (sym (map-append p (refs y) (flat_map refs ys)))
    (Contains-append_right (map p (refs y)) (map p (flat_map refs ys)) place (referred p ys k x place at has))

-- the module that an item refers to is needed by the item's
needed : (s : Source) (body : ℕ) (x : Item) (next place : ℕ) → body < length s.modules → slice_get (module_at s body).items next ≡ Some x
    → Contains (map (place_of_module s) (refs x)) place → Contains (needs_of (module_needs s) body) place
needed s body x next place lt at has =
    let m = module_at s body in
    let here : slice_get s.modules body ≡ Some m = slice_get-get_or s.modules body (record { name = []; ports = []; nets = []; items = [] }) lt in
    let needs_are : needs_of (module_needs s) body ≡ map (place_of_module s) (flat_map refs m.items) =
    get_or_from_slice_get (module_needs s) body (map (place_of_module s) (flat_map refs m.items)) []
    (map_at (λ (m : Module). map (place_of_module s) (flat_map refs m.items)) s.modules body m here) in
    subst (λ (ns : List ℕ). Contains ns place) (sym needs_are) (referred (place_of_module s) m.items next x place at has)

-- so its rank is lower
pub lower : (s : Source) (rank : ℕ → ℕ) (body : ℕ) (x : Item) (next place : ℕ) → AreRanks s rank → body < length s.modules → place < length s.modules
    → slice_get (module_at s body).items next ≡ Some x → Contains (map (place_of_module s) (refs x)) place → rank place < rank body
lower s rank body x next place ranks lt within at has = ranks.falls body place (needed s body x next place lt at has) within

-- modules in a right order have ranks
pub has_ranks : (s : Source) (order : List ℕ) → IsRightOrder (module_needs s) order → HasRanks s
has_ranks s order right =
    let len : length (module_needs s) ≡ length s.modules = length-map s.modules (λ (m : Module). map (place_of_module s) (flat_map refs m.items)) in (
      rank_in order,
      record {
        falls = λ place need asked lt. rank_falls (module_needs s) order right place need asked (omega (arith, lt, len));
        below = λ place lt. omega (arith, len, rank_below (module_needs s) order right place (omega (arith, lt, len)));
      },
    )
