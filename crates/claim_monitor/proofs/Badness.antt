-- Bad cycles by the bits that tell of their parts.
use Rattle.std.proofs.Common.{◌≡◌, ◌≢◌, ℕ, zero, suc, ◌<◌, ◌-◌, Bool, true, false, not, ◌&&◌, ◌||◌, ◌+◌, if◌then◌else◌, List, [], ◌∷◌, refl, ap, sym, ◌∙◌, subst, arith}
use Rattle.std.specs.Prelude.{◌↔◌, IsTrue}
use Rattle.net_model.specs.Form.{xor}
use Rattle.net_model.specs.Cycles.{bit_at, capture}
use Rattle.net_model.specs.Judge.{start_bit}
use Rattle.net_model.specs.declared.netlist.Design.{Design}
use Rattle.net_model.specs.declared.cycles.Cycle.{Cycle}
use Rattle.net_model.specs.declared.claims.Claim.{Claim}
use Rattle.net_model.specs.declared.claims.PinRef.{PinRef}
use Rattle.net_model.specs.declared.claims.Start.{Start}
use Rattle.sdcv_base.specs.declared.kinds.Edge.{Edge}
use Rattle.sdcv_base.specs.declared.kinds.Kind.{Kind}
use Rattle.sdcv_base.specs.declared.kinds.Kind.TheVariants.{False, Multi}
use Rattle.claim_monitor.specs.Fronts.{start_place, toggle_place, DiffersFlipped}
use Rattle.claim_monitor.specs.Tells.{toggle_bit, toggled, some_stale, captured, IsBadNow, IsBadNowOn, IsCaughtNow, has_late, changes_bit, TellsLate, stale_bit}
use Rattle.claim_monitor.specs.declared.sizes.Sizes.{Sizes}
use Rattle.and_graphs.specs.Graphs.{Means, Keeps}
use Rattle.and_graphs.specs.declared.graphs.AndGraph.{AndGraph}
use Rattle.and_graphs.proofs.Growing.{keeps_on}
use Rattle.claim_monitor.proofs.Toggling.{and_parts, and_made, xor_differs, differs_xor}

-- the parts make a bad cycle
bad_made : (kind : Kind) (sets : List (List PinRef)) (d : Design) (s : Sizes) (claim : Claim) (x : List Bool) (c : Cycle) (r : ℕ)
    → changes_bit kind (capture d claim.end c) (captured s claim.end x c) ≡ true → (has_late kind sets ≡ true → DiffersFlipped d claim c)
    → (has_late kind sets ≡ true → start_bit claim.start c ≢ bit_at x (start_place s r)) → IsBadNow kind sets d s claim x c r
bad_made False sets d s claim x c r changes late stale = let l = late refl in (l.0, l.1, l.2, stale refl)
bad_made (Multi k) [] d s claim x c r changes late stale = xor_differs (capture d claim.end c) (captured s claim.end x c) changes
bad_made (Multi k) (set ∷ sets) d s claim x c r changes late stale =
    let l = late refl in ((l.0, l.1, l.2, stale refl), xor_differs (capture d claim.end c) (captured s claim.end x c) changes)

bad_changes : (kind : Kind) (sets : List (List PinRef)) (d : Design) (s : Sizes) (claim : Claim) (x : List Bool) (c : Cycle) (r : ℕ)
    → IsBadNow kind sets d s claim x c r → changes_bit kind (capture d claim.end c) (captured s claim.end x c) ≡ true
bad_changes False sets d s claim x c r bad = refl
bad_changes (Multi k) [] d s claim x c r bad = differs_xor (capture d claim.end c) (captured s claim.end x c) bad
bad_changes (Multi k) (set ∷ sets) d s claim x c r bad = differs_xor (capture d claim.end c) (captured s claim.end x c) bad.1

bad_late : (kind : Kind) (sets : List (List PinRef)) (d : Design) (s : Sizes) (claim : Claim) (x : List Bool) (c : Cycle) (r : ℕ)
    → IsBadNow kind sets d s claim x c r → has_late kind sets ≡ true
    → DiffersFlipped d claim c × (start_bit claim.start c ≢ bit_at x (start_place s r))
bad_late False sets d s claim x c r bad has = ((bad.0, bad.1, bad.2), bad.3)
bad_late (Multi k) [] d s claim x c r bad has = cc
bad_late (Multi k) (set ∷ sets) d s claim x c r bad has = ((bad.0.0, bad.0.1, bad.0.2), bad.0.3)

stale_parts : (s : Sizes) (claim : Claim) (x : List Bool) (c : Cycle) (r : ℕ) (late : Bool) → has_late claim.kind claim.through ≡ late
    → stale_bit s claim x c r ≡ true
    → (toggled s claim.edge claim.start x c r ≡ true) × (late ≡ true → start_bit claim.start c ≢ bit_at x (start_place s r))
stale_parts s claim x c r true e is =
    let parts = and_parts (toggled s claim.edge claim.start x c r) (xor (start_bit claim.start c) (bit_at x (start_place s r)))
    (ap (λ (b : Bool). toggled s claim.edge claim.start x c r
    && (if b then xor (start_bit claim.start c) (bit_at x (start_place s r)) else true)) (sym e) ∙ is) in
    (parts.0, λ u. xor_differs (start_bit claim.start c) (bit_at x (start_place s r)) parts.1)
stale_parts s claim x c r false e is =
    let parts = and_parts (toggled s claim.edge claim.start x c r) true
    (ap (λ (b : Bool). toggled s claim.edge claim.start x c r
    && (if b then xor (start_bit claim.start c) (bit_at x (start_place s r)) else true)) (sym e) ∙ is) in
    (parts.0, λ u. cc)

stale_made : (s : Sizes) (claim : Claim) (x : List Bool) (c : Cycle) (r : ℕ) (late : Bool) → has_late claim.kind claim.through ≡ late
    → toggled s claim.edge claim.start x c r ≡ true → (late ≡ true → start_bit claim.start c ≢ bit_at x (start_place s r))
    → stale_bit s claim x c r ≡ true
stale_made s claim x c r true e toggles stale =
    ap (λ (b : Bool). toggled s claim.edge claim.start x c r && (if b then xor (start_bit claim.start c) (bit_at x (start_place s r)) else true)) e
    ∙ and_made (toggled s claim.edge claim.start x c r) (xor (start_bit claim.start c) (bit_at x (start_place s r))) toggles
    (differs_xor (start_bit claim.start c) (bit_at x (start_place s r)) (stale refl))
stale_made s claim x c r false e toggles stale =
    ap (λ (b : Bool). toggled s claim.edge claim.start x c r && (if b then xor (start_bit claim.start c) (bit_at x (start_place s r)) else true)) e
    ∙ and_made (toggled s claim.edge claim.start x c r) true toggles refl

-- the bits of the parts tell that the run is caught, for a claim of the late side
pub caught_by_bits : (d : Design) (s : Sizes) (claim : Claim) (x : List Bool) (c : Cycle) (late : Bool) (r : ℕ) → claim.early ≡ false → r < s.judged
    → changes_bit claim.kind (capture d claim.end c) (captured s claim.end x c) ≡ true → late ≡ true → TellsLate d claim c late
    → stale_bit s claim x c r ≡ true → IsCaughtNow d s claim x c
caught_by_bits d s claim x c late r side low changes on tells stale =
    let parts = stale_parts s claim x c r (has_late claim.kind claim.through) refl stale in
    record {
      r = r;
      judged = low;
      toggles = parts.0;
      bad = subst (λ (b : Bool). IsBadNowOn b d s claim x c r) (sym side)
          (bad_made claim.kind claim.through d s claim x c r changes (λ has. (tells.some has).0 on) parts.1);
    }

pub bits_of_caught : (d : Design) (s : Sizes) (claim : Claim) (x : List Bool) (c : Cycle) (late : Bool) → claim.early ≡ false → TellsLate d claim c late
    → (now : IsCaughtNow d s claim x c) → (changes_bit claim.kind (capture d claim.end c) (captured s claim.end x c) ≡ true) × (late ≡ true)
    × (stale_bit s claim x c now.r ≡ true)
bits_of_caught d s claim x c late side tells now =
    let kind = claim.kind in
    let sets = claim.through in (
      bad_changes kind sets d s claim x c now.r bad,
      is_late (has_late kind sets) refl,
      stale_made s claim x c now.r (has_late kind sets) refl now.toggles (λ has. (bad_late kind sets d s claim x c now.r bad has).1),
    )
  where
    bad : IsBadNow claim.kind claim.through d s claim x c now.r
    bad = subst (λ (b : Bool). IsBadNowOn b d s claim x c now.r) side now.bad

    is_late : (has : Bool) → has_late claim.kind claim.through ≡ has → late ≡ true
    is_late true e = (tells.some e).1 (bad_late claim.kind claim.through d s claim x c now.r bad e).0
    is_late false e = tells.none e

-- a list of through sets that is not empty makes the late capture count
pub late_nonempty : (k : ℕ) (sets : List (List PinRef)) (b : Bool) → (IsTrue b ↔ (sets ≡ [])) → not b ≡ has_late (Multi k) sets
late_nonempty k [] true is = refl
late_nonempty k [] false is = let wrong : false ≡ true = is.1 refl in cc
late_nonempty k (set ∷ sets) true is = let empty : set ∷ sets ≡ [] = is.0 refl in cc
late_nonempty k (set ∷ sets) false is = refl

-- a toggle of a cycle before is a bit in front
pub toggled_past : (s : Sizes) (edge : Edge) (start : Start) (x : List Bool) (c : Cycle) (r : ℕ) → r ≢ 0
    → toggled s edge start x c r ≡ bit_at x (toggle_place s (r - 1))
toggled_past s edge start x c zero some = absurd (some refl)
toggled_past s edge start x c (suc k) some = let e : k ≡ suc k - 1 = omega arith in ap (λ (n : ℕ). bit_at x (toggle_place s n)) e

-- the literals of the first k toggles are joined
pub record StalesDone (s : Sizes) (claim : Claim) (start toggle : ℕ) (first g : AndGraph) (some k : ℕ) : Type 0 where
  pub keeps : Keeps first g
  pub means : (c : List Bool → Cycle) → Means first start (λ x. start_bit claim.start (c x))
      → (0 < s.judged → Means first toggle (λ x. toggle_bit s claim.edge claim.start x (c x))) → Means g some (λ x. some_stale s claim x (c x) k)

pub stales_none : (s : Sizes) (claim : Claim) (start toggle : ℕ) (g : AndGraph) (some : ℕ) → Means g some (λ x. false)
    → StalesDone s claim start toggle g g some 0
unfolding some_stale
stales_none s claim start toggle g some means =
    record { keeps = record { front = refl; ordered = λ o. o; means = λ l f m. m }; means = λ c of_start of_toggle. means }

pub stales_more : (s : Sizes) (claim : Claim) (start toggle : ℕ) (first old middle new : AndGraph) (some stale next k : ℕ) → k < s.judged → Keeps old middle
    → Keeps middle new
    → ((c : List Bool → Cycle) → Means old start (λ x. start_bit claim.start (c x)) → Means old toggle (λ x. toggle_bit s claim.edge claim.start x (c x))
    → Means middle stale (λ x. stale_bit s claim x (c x) k))
    → ((f h : List Bool → Bool) → Means middle some f → Means middle stale h → Means new next (λ x. f x || h x))
    → StalesDone s claim start toggle first old some k → StalesDone s claim start toggle first new next (k + 1)
unfolding some_stale
stales_more s claim start toggle first old middle new some stale next k low keeps later of_stale either done =
    record {
      keeps = keeps_on first old new done.keeps (keeps_on old middle new keeps later);
      means = λ c of_start of_toggle.
          let up : suc k ≡ k + 1 = omega arith in
          let start_now = done.keeps.means start (λ x. start_bit claim.start (c x)) of_start in
          let toggle_now = done.keeps.means toggle (λ x. toggle_bit s claim.edge claim.start x (c x)) (of_toggle (omega (arith, low))) in
          subst (λ (n : ℕ). Means new next (λ x. some_stale s claim x (c x) n)) up
          (either (λ x. some_stale s claim x (c x) k) (λ x. stale_bit s claim x (c x) k)
          (keeps.means some (λ x. some_stale s claim x (c x) k) (done.means c of_start of_toggle)) (of_stale c start_now toggle_now));
    }

-- a stale bit is the toggle alone where the late capture doesn't count
pub stale_plain : (s : Sizes) (claim : Claim) (x : List Bool) (c : Cycle) (r : ℕ) → has_late claim.kind claim.through ≡ false
    → toggled s claim.edge claim.start x c r ≡ stale_bit s claim x c r
stale_plain s claim x c r none =
    sym (and_one (toggled s claim.edge claim.start x c r))
    ∙ ap (λ (b : Bool). toggled s claim.edge claim.start x c r && (if b then xor (start_bit claim.start c) (bit_at x (start_place s r)) else true)) (sym none)
  where
    and_one : (b : Bool) → (b && true) ≡ b
    and_one true = refl
    and_one false = refl

pub stale_late : (s : Sizes) (claim : Claim) (x : List Bool) (c : Cycle) (r : ℕ) → has_late claim.kind claim.through ≡ true
    → (toggled s claim.edge claim.start x c r && xor (start_bit claim.start c) (bit_at x (start_place s r))) ≡ stale_bit s claim x c r
stale_late s claim x c r has =
    ap (λ (b : Bool). toggled s claim.edge claim.start x c r && (if b then xor (start_bit claim.start c) (bit_at x (start_place s r)) else true)) (sym has)

-- a change counts for a multicycle path
pub changes_multi : (kind : Kind) (k : ℕ) (a b : Bool) → kind ≡ Multi k → xor a b ≡ changes_bit kind a b
changes_multi kind k a b is = sym (ap (λ (z : Kind). changes_bit z a b) is)
