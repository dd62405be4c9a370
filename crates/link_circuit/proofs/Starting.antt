-- The beginning and the end of flattening.
use Rattle.std.proofs.Common.{◌≡◌, ℕ, suc, ◌<◌, ◌≤◌, List, [], ◌∷◌, length, map, All, ap, subst, sym, ◌∙◌, arith}
use Rattle.std.proofs.lemmas.List.Elements.{All-cons}
use Rattle.netlist_types.specs.declared.sources.Source.{Source}
use Rattle.cell_types.specs.declared.libraries.Library.{Library}
use Rattle.link_defs.specs.Flatten.{Flat, add_scope, flat_of, numbers, top_scope, with_scope}
use Rattle.link_items.specs.declared.made.Instance.{Instance}
use Rattle.link_items.specs.declared.made.LeafPlace.{LeafPlace}
use Rattle.link_items.specs.Items.{module_at, scope_of, AreLeavesAt}
use Rattle.link_items.proofs.Along.{length_numbers}
use Rattle.link_circuit.specs.declared.flats.Flattened.{Flattened}
use Rattle.link_circuit.specs.declared.frames.Frame.{Frame}
use Rattle.link_circuit.specs.Flats.{IsScope, AreScopes, IsFlattened, AreFine, IsStart}
use Rattle.link_circuit.specs.Frames.{HasRanks, frame_pend, depth_left, instance_at}
use Rattle.link_circuit.specs.Pending.{Pend, resume}
use Rattle.link_circuit.specs.UnderWay.{IsUnderWay}

-- the instance of the top module
abbrev top_instance : Source → ℕ → Instance
top_instance s top = record { prefix = []; body = top; nets = numbers 0 (length (module_at s top).nets); depth = 0 }

-- the frame of it
abbrev pub top_frame : Frame
top_frame = record { scope = 0; next = 0 }

-- the flat netlist without items
abbrev nothing : Source → ℕ → Flat
nothing s top = record { count = length (module_at s top).nets; scopes = []; items = [] }

start_made : (s : Source) (lib : Library) (top : ℕ) (f : Flattened) → top < length s.modules → IsStart s top f
    → IsFlattened s lib (with_scope (nothing s top) (top_scope (module_at s top))) f
start_made s lib top f lt is =
    let here : IsScope s (top_instance s top) = record { body = lt; nets = length_numbers 0 (length (module_at s top).nets) } in
    record {
      scopes = ap (λ (gs : List Instance). map (scope_of s) gs) is.scopes;
      are_scopes = subst (λ (gs : List Instance). AreScopes s gs) (sym is.scopes)
          (All-cons (IsScope s) (top_instance s top) [] here (λ k d none. absurd (omega (arith, none))));
      count = is.count;
      parts = is.parts;
      leaves = subst (λ (xs : List LeafPlace). AreLeavesAt lib f.made.parts xs []) (sym is.leaves) tt;
      instances = is.instances;
    }

-- the top module is the first instance
pub begins : (s : Source) (lib : Library) (top : ℕ) (f : Flattened) → top < length s.modules → HasRanks s → IsStart s top f
    → IsUnderWay (flat_of s lib (module_at s top)) s lib (top_frame ∷ []) f
unfolding resume add_scope
begins s lib top f lt ranks is =
    let m = module_at s top in
    let len : length s.modules ≡ suc (depth_left s (top_frame ∷ [])) = omega (arith, lt) in
    let pend_is : frame_pend s f.scopes top_frame ≡ (record { scope = top_scope m; items = m.items }) =
    ap (λ (gs : List Instance). frame_pend s gs top_frame) is.scopes in
    record {
      flat = with_scope (nothing s top) (top_scope m);
      made_is = start_made s lib top f lt is;
      fine = record { items = λ k d none. absurd (omega (arith, none)); few = omega arith; low = λ k d none. absurd (omega (arith, none)) };
      goes_on =
          ap (λ (n : ℕ). add_scope n s lib (nothing s top) (top_scope m)) len
          ∙ ap (λ (p : Pend). resume (depth_left s (top_frame ∷ [])) s lib (p ∷ []) (with_scope (nothing s top) (top_scope m))) (sym pend_is);
      there = subst (λ (gs : List Instance). All (λ (x : Frame). x.scope < length gs) (top_frame ∷ [])) (sym is.scopes)
          (All-cons (λ (x : Frame). x.scope < length (top_instance s top ∷ [])) top_frame [] (omega arith) (λ k d none. absurd (omega (arith, none))));
      rank = ranks.0;
      ranks = ranks.1;
      within = (
        subst (λ (gs : List Instance). ranks.0 (instance_at gs 0).body ≤ depth_left s (top_frame ∷ [])) (sym is.scopes)
            (omega (arith, ranks.1.below top lt)),
        tt,
      );
      room = omega (arith, lt);
    }

-- where nothing is left, the whole was made
pub ends_made : (whole : Flat) (s : Source) (lib : Library) (f : Flattened) → IsUnderWay whole s lib [] f → IsFlattened s lib whole f
unfolding resume
ends_made whole s lib f u = subst (λ (w : Flat). IsFlattened s lib w f) (sym u.goes_on) u.made_is

-- and is fine
pub ends_fine : (whole : Flat) (s : Source) (lib : Library) (f : Flattened) → IsUnderWay whole s lib [] f → AreFine s lib whole
unfolding resume
ends_fine whole s lib f u = subst (λ (w : Flat). AreFine s lib w) (sym u.goes_on) u.fine
