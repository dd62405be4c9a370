-- One step of flattening leads on to the whole.
use Rattle.std.proofs.Common.{◌≡◌, ℕ, suc, ◌<◌, ◌≤◌, Bool, cond, List, [], ◌∷◌, ◌++◌, length, All, refl, ap, subst, sym, ◌∙◌, arith}
use Rattle.std.specs.Prelude.{Option, Some, None, slice_get}
use Rattle.std.proofs.lemmas.List.Elements.{All-cons, All-head, All-tail}
use Rattle.std.proofs.lemmas.List.Sums.{sum_by_push}
use Rattle.std.proofs.lemmas.Option.{slice_get_within}
use Rattle.netlist_types.specs.declared.sources.Source.{Source}
use Rattle.netlist_types.specs.declared.sources.Item.{Item}
use Rattle.cell_types.specs.declared.libraries.Library.{Library}
use Rattle.linked_types.specs.declared.faults.LinkFault.{LinkFault}
use Rattle.link_defs.specs.Faults.{is_counted, IsFlatCause, IsAboveLimit}
use Rattle.link_defs.specs.Flatten.{Located, Flat, instance_of, with_item, with_scope}
use Rattle.link_items.specs.declared.made.Instance.{Instance}
use Rattle.link_items.specs.Items.{scope_of}
use Rattle.link_items.proofs.Listing.{last_at, contains_at}
use Rattle.link_circuit.specs.declared.flats.Flattened.{Flattened}
use Rattle.link_circuit.specs.declared.frames.Frame.{Frame}
use Rattle.link_circuit.specs.Flats.{IsScope}
use Rattle.link_circuit.specs.Frames.{instance_at, scope_at, frame_pend, pends, depth_left, AreWithin}
use Rattle.link_circuit.specs.Pending.{Pend, resume, steps_left}
use Rattle.link_circuit.specs.Steps.{IsTaken, IsRefused, IsEntered, next_of}
use Rattle.link_circuit.specs.UnderWay.{IsUnderWay, Goes, Breaks, left}
use Rattle.link_circuit.proofs.Growing.{HasMore, resume_next, contains_more, count_more}
use Rattle.link_circuit.proofs.Making.{item_made, item_fine, scope_made}
use Rattle.link_circuit.proofs.Pended.{resume_left, resume_item, resume_inner, left_less, item_less, inner_less}
use Rattle.link_circuit.proofs.Sized.{sized}
use Rattle.link_circuit.proofs.Standing.{instance_last, pends_kept, within_kept, there_kept, items_next, items_past, deeper, lower, pend_of}

-- a frame with these items to come, on a stack
abbrev on : Source → List Instance → Frame → List Pend → List Item → List Pend
on s scopes f rest items = (record { scope = scope_at s scopes f.scope; items = items }) ∷ rest

-- an instance without further items is left
pub goes_left : (s : Source) (lib : Library) (f : Frame) (stack : List Frame) (old : Flattened)
    → slice_get (scope_at s old.scopes f.scope).body.items f.next ≡ None → Goes s lib f stack old stack old
goes_left s lib f stack old none = λ whole u.
    let past = items_past (scope_at s old.scopes f.scope).body.items f.next none in
    let up = deeper s f stack u.room in
    let depth = depth_left s (f ∷ stack) in
    let rest = pends s old.scopes stack in (
      record {
        flat = u.flat;
        made_is = u.made_is;
        fine = u.fine;
        goes_on =
            u.goes_on ∙ ap (λ (items : List Item). resume depth s lib (on s old.scopes f rest items) u.flat) past
            ∙ resume_left depth s lib (scope_at s old.scopes f.scope) rest u.flat
            ∙ ap (λ (d : ℕ). resume d s lib rest u.flat) (sym up);
        there = All-tail (λ (x : Frame). x.scope < length old.scopes) f stack u.there;
        rank = u.rank;
        ranks = u.ranks;
        within = subst (λ (d : ℕ). AreWithin u.rank d old.scopes stack) (sym up) u.within.1;
        room = omega (arith, u.room);
      },
      subst (λ (d : ℕ). steps_left d s rest < left s (f ∷ stack) old) (sym up)
          (subst (λ (items : List Item). steps_left (suc depth) s rest < steps_left depth s (on s old.scopes f rest items)) (sym past)
          (left_less depth s (scope_at s old.scopes f.scope) rest)),
    )

-- one item is taken, which is no instance of a module
goes_item : (s : Source) (lib : Library) (f : Frame) (x : Item) (stack : List Frame) (old new : Flattened)
    → slice_get (scope_at s old.scopes f.scope).body.items f.next ≡ Some x → IsTaken s lib (scope_at s old.scopes f.scope) x None old new
    → Goes s lib f stack old (next_of f ∷ stack) new
goes_item s lib f x stack old new at taken = λ whole u.
    let scope = scope_at s old.scopes f.scope in
    let depth = depth_left s (f ∷ stack) in
    let rest = pends s old.scopes stack in
    let after = (frame_pend s old.scopes (next_of f)).items in
    let first = items_next s old.scopes f x at in
    let none : instance_of s scope x u.flat.count ≡ None =
    ap (λ (n : ℕ). instance_of s scope x n) (sym u.made_is.count) ∙ sym taken.inner_is.scope_is in (
      record {
        flat = with_item s lib scope x u.flat;
        made_is = item_made s lib scope x u.flat None old new u.made_is taken;
        fine = item_fine s lib scope x u.flat None old new u.made_is u.fine taken;
        goes_on =
            u.goes_on ∙ ap (λ (items : List Item). resume depth s lib (on s old.scopes f rest items) u.flat) first
            ∙ resume_item depth s lib scope x after rest u.flat none
            ∙ ap (λ (gs : List Instance). resume depth s lib (pends s gs (next_of f ∷ stack)) (with_item s lib scope x u.flat)) (sym taken.scopes);
        there = subst (λ (gs : List Instance). All (λ (y : Frame). y.scope < length gs) (next_of f ∷ stack)) (sym taken.scopes)
            (All-cons (λ (y : Frame). y.scope < length old.scopes) (next_of f) stack
            (All-head (λ (y : Frame). y.scope < length old.scopes) f stack u.there)
            (All-tail (λ (y : Frame). y.scope < length old.scopes) f stack u.there));
        rank = u.rank;
        ranks = u.ranks;
        within = subst (λ (gs : List Instance). AreWithin u.rank depth gs (next_of f ∷ stack)) (sym taken.scopes) u.within;
        room = u.room;
      },
      subst (λ (gs : List Instance). steps_left depth s (pends s gs (next_of f ∷ stack)) < left s (f ∷ stack) old) (sym taken.scopes)
          (subst (λ (items : List Item). steps_left depth s (on s old.scopes f rest after) < steps_left depth s (on s old.scopes f rest items)) (sym first)
          (item_less depth s scope x after rest)),
    )

-- one item is taken, which is an instance of a module
goes_inner : (s : Source) (lib : Library) (f : Frame) (x : Item) (g : Instance) (stack : List Frame) (old mid new : Flattened)
    → slice_get (scope_at s old.scopes f.scope).body.items f.next ≡ Some x → IsTaken s lib (scope_at s old.scopes f.scope) x (Some g) old mid
    → new.scopes ≡ mid.scopes ++ g ∷ [] → new.made ≡ mid.made → new.instances ≡ mid.instances
    → Goes s lib f stack old ((record { scope = length old.scopes; next = 0 }) ∷ next_of f ∷ stack) new
goes_inner s lib f x g stack old mid new at taken grown same count = λ whole u.
    let scope = scope_at s old.scopes f.scope in
    let inner = scope_of s g in
    let fresh : Frame = record { scope = length old.scopes; next = 0 } in
    let behind = next_of f ∷ stack in
    let rest = pends s old.scopes stack in
    let after = (frame_pend s old.scopes (next_of f)).items in
    let first = items_next s old.scopes f x at in
    let all = old.scopes ++ g ∷ [] in
    let scopes_are : new.scopes ≡ all = grown ∙ ap (λ (gs : List Instance). gs ++ g ∷ []) taken.scopes in
    let is_inner = taken.inner_is in
    let some : instance_of s scope x u.flat.count ≡ Some inner = ap (λ (n : ℕ). instance_of s scope x n) (sym u.made_is.count) ∙ sym is_inner.scope_is in
    let there : All (λ (y : Frame). y.scope < length old.scopes) behind =
    All-cons (λ (y : Frame). y.scope < length old.scopes) (next_of f) stack
    (All-head (λ (y : Frame). y.scope < length old.scopes) f stack u.there)
    (All-tail (λ (y : Frame). y.scope < length old.scopes) f stack u.there) in
    let standing = u.made_is.are_scopes f.scope (record { prefix = []; body = 0; nets = []; depth = 0 })
    (All-head (λ (y : Frame). y.scope < length old.scopes) f stack u.there) in
    let low : u.rank g.body < u.rank (instance_at old.scopes f.scope).body =
    lower s u.rank (instance_at old.scopes f.scope).body x f.next g.body u.ranks standing.body (is_inner.body g refl) at (is_inner.needed g refl) in
    let room : length (fresh ∷ behind) ≤ length s.modules = omega (arith, low, u.within.0, u.room) in
    let depth = depth_left s (fresh ∷ behind) in
    let up : depth_left s (f ∷ stack) ≡ suc depth = deeper s fresh behind room in
    let left_over : List Pend = (record { scope = inner; items = inner.body.items }) ∷ (record { scope = scope; items = after }) ∷ rest in
    let pends_are : pends s new.scopes (fresh ∷ behind) ≡ left_over =
    ap (λ (gs : List Instance). pends s gs (fresh ∷ behind)) scopes_are
    ∙ ap (λ (i : Instance). pend_of s fresh i ∷ pends s all behind) (instance_last old.scopes g)
    ∙ ap (λ (ps : List Pend). pend_of s fresh g ∷ ps) (pends_kept s old.scopes g behind there) in
    let fine = item_fine s lib scope x u.flat (Some g) old mid u.made_is u.fine taken in
    let here : IsScope s g = record { body = is_inner.body g refl; nets = sized s scope x old.made.count g (sym is_inner.scope_is) } in (
      record {
        flat = with_scope (with_item s lib scope x u.flat) inner;
        made_is = scope_made s lib (with_item s lib scope x u.flat) g mid new (item_made s lib scope x u.flat (Some g) old mid u.made_is taken) here grown
            same count;
        fine = record { items = fine.items; few = fine.few; low = fine.low };
        goes_on =
            u.goes_on ∙ ap (λ (items : List Item). resume (depth_left s (f ∷ stack)) s lib (on s old.scopes f rest items) u.flat) first
            ∙ ap (λ (d : ℕ). resume d s lib (on s old.scopes f rest (x ∷ after)) u.flat) up
            ∙ resume_inner depth s lib scope inner x after rest u.flat some
            ∙ ap (λ (ps : List Pend). resume depth s lib ps (with_scope (with_item s lib scope x u.flat) inner)) (sym pends_are);
        there = subst (λ (gs : List Instance). All (λ (y : Frame). y.scope < length gs) (fresh ∷ behind)) (sym scopes_are)
            (All-cons (λ (y : Frame). y.scope < length all) fresh behind (slice_get_within all (length old.scopes) g (last_at old.scopes g))
            (there_kept behind old.scopes g there));
        rank = u.rank;
        ranks = u.ranks;
        within = subst (λ (gs : List Instance). AreWithin u.rank depth gs (fresh ∷ behind)) (sym scopes_are) (
          subst (λ (i : Instance). u.rank i.body ≤ depth) (sym (instance_last old.scopes g)) (omega (arith, low, u.within.0, up)),
          within_kept u.rank behind (suc depth) old.scopes g there (subst (λ (d : ℕ). AreWithin u.rank d old.scopes behind) up u.within),
        );
        room = room;
      },
      subst (λ (ps : List Pend). steps_left depth s ps < left s (f ∷ stack) old) (sym pends_are)
          (subst (λ (d : ℕ). steps_left depth s left_over < steps_left d s (pends s old.scopes (f ∷ stack))) (sym up)
          (subst (λ (items : List Item). steps_left depth s left_over < steps_left (suc depth) s (on s old.scopes f rest items)) (sym first)
          (inner_less depth s scope inner x after rest u.flat.count some))),
    )

-- one item is taken
pub goes_on : (s : Source) (lib : Library) (f : Frame) (x : Item) (inner : Option Instance) (stack stack2 : List Frame) (old mid new : Flattened)
    → slice_get (scope_at s old.scopes f.scope).body.items f.next ≡ Some x → IsTaken s lib (scope_at s old.scopes f.scope) x inner old mid
    → IsEntered f inner stack mid stack2 new → Goes s lib f stack old stack2 new
goes_on s lib f x None stack stack2 old mid new at taken (stack_is, new_is) =
    subst (λ (st : List Frame). Goes s lib f stack old st new) (sym stack_is)
    (subst (λ (fl : Flattened). Goes s lib f stack old (next_of f ∷ stack) fl) (sym new_is) (goes_item s lib f x stack old mid at taken))
goes_on s lib f x (Some g) stack stack2 old mid new at taken (stack_is, grown, same, count) =
    subst (λ (st : List Frame). Goes s lib f stack old st new) (sym stack_is)
    (subst (λ (n : ℕ). Goes s lib f stack old ((record { scope = n; next = 0 }) ∷ next_of f ∷ stack) new)
    (ap (λ (gs : List Instance). length gs) (sym taken.scopes)) (goes_inner s lib f x g stack old mid new at taken grown same count))

-- the whole has the item on top of the stack
has_next : (s : Source) (lib : Library) (f : Frame) (x : Item) (stack : List Frame) (old : Flattened) (whole : Flat)
    → slice_get (scope_at s old.scopes f.scope).body.items f.next ≡ Some x → (u : IsUnderWay whole s lib (f ∷ stack) old)
    → HasMore (with_item s lib (scope_at s old.scopes f.scope) x u.flat) whole
has_next s lib f x stack old whole at u =
    let scope = scope_at s old.scopes f.scope in
    let depth = depth_left s (f ∷ stack) in
    let rest = pends s old.scopes stack in
    let after = (frame_pend s old.scopes (next_of f)).items in
    let same = u.goes_on ∙ ap (λ (items : List Item). resume depth s lib (on s old.scopes f rest items) u.flat) (items_next s old.scopes f x at) in
    subst (λ (w : Flat). HasMore (with_item s lib scope x u.flat) w) (sym same) (resume_next depth s lib scope x after rest u.flat)

-- a refusal of the next item has its cause in the whole
pub breaks : (s : Source) (lib : Library) (f : Frame) (x : Item) (stack : List Frame) (old : Flattened) (e : LinkFault)
    → slice_get (scope_at s old.scopes f.scope).body.items f.next ≡ Some x → IsRefused s lib (scope_at s old.scopes f.scope) x old.instances e
    → Breaks s lib f stack old e
breaks s lib f x stack old e at (IsRefused.By_item cause) = λ whole u o top found c.
    let scope = scope_at s old.scopes f.scope in
    let here : Located = record { scope = scope; item = x; first = u.flat.count } in
    cause whole o top found c u.flat.count
    (contains_more (with_item s lib scope x u.flat) whole here (has_next s lib f x stack old whole at u)
    (contains_at (u.flat.items ++ here ∷ []) (length u.flat.items) here (last_at u.flat.items here)))
breaks s lib f x stack old e at (IsRefused.By_count is counts full) = λ whole u o top found c.
    let scope = scope_at s old.scopes f.scope in
    let here : Located = record { scope = scope; item = x; first = u.flat.count } in
    let one = ap (λ (b : Bool). cond {A = ℕ} b 1 0) counts in
    let more = count_more is_counted (with_item s lib scope x u.flat) whole (has_next s lib f x stack old whole at u) in
    let sum = sum_by_push (λ (y : Located). cond {A = ℕ} (is_counted y) 1 0) u.flat.items here in
    subst (λ (b : LinkFault). IsFlatCause s lib o top whole found c b) (sym is)
    (IsAboveLimit.Instances (omega (arith, one, more, sum, full, u.made_is.instances)))
breaks s lib f x stack old e at (IsRefused.By_depth is counts deep) = λ whole u o top found c.
    let scope = scope_at s old.scopes f.scope in
    let here : Located = record { scope = scope; item = x; first = u.flat.count } in
    subst (λ (b : LinkFault). IsFlatCause s lib o top whole found c b) (sym is)
    (IsAboveLimit.Hierarchy here (contains_more (with_item s lib scope x u.flat) whole here (has_next s lib f x stack old whole at u)
    (contains_at (u.flat.items ++ here ∷ []) (length u.flat.items) here (last_at u.flat.items here))) counts deep)
