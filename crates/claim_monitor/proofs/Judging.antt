-- Literals that tell whether a run is caught.
use Rattle.std.proofs.Common.{◌≡◌, ℕ, zero, suc, ◌<◌, ◌≤◌, Bool, true, false, not, ◌&&◌, List, length, refl, ap, sym, ◌∙◌, subst, arith, inl, inr}
use Rattle.std.specs.Prelude.{◌↔◌}
use Rattle.std.proofs.lemmas.Bool.{cases_lt, or_cases, or_left, or_right}
use Rattle.net_model.specs.Form.{xor}
use Rattle.net_model.specs.Netlist.{IsSound}
use Rattle.net_model.specs.Fits.{Fits, IsEndIn, IsKindFit, IsLagFit}
use Rattle.net_model.specs.Cycles.{bit_at, capture}
use Rattle.net_model.specs.Layers.{IsLateCapture}
use Rattle.net_model.specs.Judge.{start_bit, judged_by}
use Rattle.net_model.proofs.LateOnce.{late_capture_once}
use Rattle.net_model.specs.declared.netlist.Design.{Design}
use Rattle.net_model.specs.declared.cycles.Cycle.{Cycle}
use Rattle.net_model.specs.declared.claims.Claim.{Claim}
use Rattle.and_graphs.specs.Graphs.{IsIn, Means, Keeps, bit_of}
use Rattle.and_graphs.specs.declared.graphs.AndGraph.{AndGraph}
use Rattle.and_graphs.proofs.Growing.{means_same, keeps_on}
use Rattle.claim_monitor.specs.Fronts.{sizes_of, early_place, AreSmall}
use Rattle.claim_monitor.specs.Shown.{AreLiteralsFor, shown_cycle}
use Rattle.claim_monitor.specs.Tells.{toggle_bit, toggled, captured, IsBadNowOn, IsCaughtNow, has_late, changes_bit, TellsLate, stale_bit, some_stale}
use Rattle.claim_monitor.specs.Judgings.{LateLiteral, EarlyLiteral, BadLiteral}
use Rattle.claim_monitor.specs.declared.sizes.Sizes.{Sizes}
use Rattle.claim_monitor.specs.declared.cycle_literals.Literals.{Literals}
use Rattle.claim_monitor.proofs.Toggling.{and_parts, and_made, xor_differs, differs_xor}
use Rattle.claim_monitor.proofs.Catching.{early_judged}
use Rattle.claim_monitor.proofs.Showing.{in_kept, bit_kept}
use Rattle.claim_monitor.proofs.Badness.{caught_by_bits, bits_of_caught}
use Rattle.sdcv_base.specs.declared.kinds.Kind.{Kind}
use Rattle.sdcv_base.specs.declared.kinds.Kind.TheVariants.{False, Multi}
use Rattle.claim_monitor.proofs.InputLits.{free_most}
use Rattle.claim_monitor.proofs.CaptureLits.{literals_kept, cycle_kept}

-- some toggle is stale
some_found : (s : Sizes) (claim : Claim) (x : List Bool) (c : Cycle) (k : ℕ) → some_stale s claim x c k ≡ true
    → (r : ℕ) × (r < k) × (stale_bit s claim x c r ≡ true)
unfolding some_stale
some_found s claim x c zero is = cc
some_found s claim x c (suc k) is =
    elim (or_cases (some_stale s claim x c k) (stale_bit s claim x c k) is) [
      | inl before ↦ let found = some_found s claim x c k before in (found.0, omega (arith, found.1), found.2)
      | inr last ↦ (k, omega arith, last)
    ]

some_has : (s : Sizes) (claim : Claim) (x : List Bool) (c : Cycle) (r k : ℕ) → r < k → stale_bit s claim x c r ≡ true → some_stale s claim x c k ≡ true
unfolding some_stale
some_has s claim x c r zero low is = absurd (omega arith)
some_has s claim x c r (suc k) low is =
    elim (cases_lt r k) [
      | inl before ↦ or_left (some_stale s claim x c k) (stale_bit s claim x c k) (some_has s claim x c r k before is)
      | inr last ↦
          let here : r ≡ k = omega arith in
          or_right (some_stale s claim x c k) (stale_bit s claim x c k) (subst (λ (n : ℕ). stale_bit s claim x c n ≡ true) here is)
    ]

-- the three bits together tell that the run is caught
bad_is : (d : Design) (s : Sizes) (claim : Claim) (x : List Bool) (c : Cycle) (late : Bool) → claim.early ≡ false → TellsLate d claim c late
    → (((changes_bit claim.kind (capture d claim.end c) (captured s claim.end x c) && late) && some_stale s claim x c s.judged) ≡ true)
    ↔ IsCaughtNow d s claim x c
bad_is d s claim x c late side tells =
    let changes = changes_bit claim.kind (capture d claim.end c) (captured s claim.end x c) in
    let some = some_stale s claim x c s.judged in (
      λ yes.
          let parts = and_parts (changes && late) some yes in
          let both = and_parts changes late parts.0 in
          let found = some_found s claim x c s.judged parts.1 in
          caught_by_bits d s claim x c late found.0 side found.1 both.0 both.1 tells found.2,
      λ now.
          let bits = bits_of_caught d s claim x c late side tells now in
          and_made (changes && late) some (and_made changes late bits.0 bits.1) (some_has s claim x c now.r s.judged now.judged bits.2),
    )

-- the late literal where it doesn't count
pub late_plain : (g : AndGraph) (d : Design) (claim : Claim) (ls : Literals) (l : ℕ) → has_late claim.kind claim.through ≡ false → Means g l (λ x. true)
    → LateLiteral g d claim ls l
late_plain g d claim ls l none means =
    record {
      here = means.here;
      tells = λ x len. record { none = λ off. means.bit x len; some = λ has. let wrong : true ≡ false = sym has ∙ none in absurd (apart wrong) };
    }
  where
    apart : true ≡ false → ⊥
    apart e = cc

-- and where it does
pub late_tells : (made new : AndGraph) (d : Design) (claim : Claim) (ls : Literals) (flipped l : ℕ) → IsSound d → IsEndIn d claim.end
    → has_late claim.kind claim.through ≡ true → Keeps made new → AreLiteralsFor made d ls
    → ((x : List Bool) → length x ≡ made.front → IsLateCapture d claim (shown_cycle made x ls) (not (start_bit claim.start (shown_cycle made x ls)))
    (bit_of made x flipped))
    → Means new l (λ x. xor (bit_of made x flipped) (capture d claim.end (shown_cycle made x ls))) → LateLiteral new d claim ls l
late_tells made new d claim ls flipped l sound in_range has keeps literals late means =
    record {
      here = means.here;
      tells = λ x len.
          let before : length x ≡ made.front = len ∙ keeps.front in
          let c = shown_cycle made x ls in
          let bit = means.bit x len in
          let made_tells : TellsLate d claim c (bit_of new x l) =
          record {
            none = λ off. let wrong : true ≡ false = sym has ∙ off in cc;
            some = λ u. (
              λ on. (bit_of made x flipped, late x before, xor_differs (bit_of made x flipped) (capture d claim.end c) (sym bit ∙ on)),
              λ differs. bit ∙ differs_xor (bit_of made x flipped) (capture d claim.end c)
                  (λ same. differs.2 (late_capture_once d claim c (not (start_bit claim.start c)) differs.0 (bit_of made x flipped) sound in_range differs.1
                  (late x before) ∙ same)),
            );
          } in
          subst (λ (y : Cycle). TellsLate d claim y (bit_of new x l)) (sym (cycle_kept made new d x ls keeps literals len)) made_tells;
    }

-- the three literals together, for a claim of the late side
pub bad_tells : (old some_graph change_graph late_graph new : AndGraph) (d : Design) (claim : Claim) (ls : Literals) (late l : ℕ)
    → claim.early ≡ false → AreLiteralsFor old d ls
    → Keeps old some_graph → Keeps some_graph change_graph → Keeps change_graph late_graph → Keeps late_graph new → LateLiteral late_graph d claim ls late
    → Means new l (λ x. (changes_bit claim.kind (capture d claim.end (shown_cycle some_graph x ls))
    (captured (sizes_of d claim) claim.end x (shown_cycle some_graph x ls)) && bit_of late_graph x late)
    && some_stale (sizes_of d claim) claim x (shown_cycle old x ls) (sizes_of d claim).judged) → BadLiteral new d claim ls l
bad_tells old some_graph change_graph late_graph new d claim ls late l side literals to_some to_change to_late to_new late_literal means =
    let s = sizes_of d claim in
    record {
      here = means.here;
      tells = λ x len.
          let in_late : length x ≡ late_graph.front = len ∙ to_new.front in
          let in_change : length x ≡ change_graph.front = in_late ∙ to_late.front in
          let in_some : length x ≡ some_graph.front = in_change ∙ to_change.front in
          let some_to_late = keeps_on some_graph change_graph late_graph to_change to_late in
          let at_some = literals_kept old some_graph d ls to_some literals in
          let at_late = literals_kept some_graph late_graph d ls some_to_late at_some in
          let c = shown_cycle late_graph x ls in
          let same_some : shown_cycle some_graph x ls ≡ c = sym (cycle_kept some_graph late_graph d x ls some_to_late at_some in_late) in
          let same_old : shown_cycle old x ls ≡ c = sym (cycle_kept old some_graph d x ls to_some literals in_some) ∙ same_some in
          let bit : bit_of new x l ≡ ((changes_bit claim.kind (capture d claim.end c) (captured s claim.end x c) && bit_of late_graph x late)
          && some_stale s claim x c s.judged) =
          means.bit x len
          ∙ (ap (λ (y : Cycle). (changes_bit claim.kind (capture d claim.end y) (captured s claim.end x y) && bit_of late_graph x late)
          && some_stale s claim x (shown_cycle old x ls) s.judged) same_some
          ∙ ap (λ (y : Cycle). (changes_bit claim.kind (capture d claim.end c) (captured s claim.end x c) && bit_of late_graph x late)
          && some_stale s claim x y s.judged) same_old) in
          let is = bad_is d s claim x c (bit_of late_graph x late) side (late_literal.tells x in_late) in
          subst (λ (y : Cycle). (bit_of new x l ≡ true) ↔ IsCaughtNow d s claim x y) (sym (cycle_kept late_graph new d x ls to_new at_late len))
          (λ yes. is.0 (sym bit ∙ yes), λ now. bit ∙ is.1 now);
    }

-- for a claim of the early side the toggle and the bit of its latch tell it
early_caught : (d : Design) (claim : Claim) (x : List Bool) (c : Cycle) → Fits d claim → claim.early ≡ true
    → ((toggle_bit (sizes_of d claim) claim.edge claim.start x c && bit_at x (early_place (sizes_of d claim))) ≡ true)
    ↔ IsCaughtNow d (sizes_of d claim) claim x c
early_caught d claim x c fits side =
    let s = sizes_of d claim in
    let toggle = toggle_bit s claim.edge claim.start x c in
    let one = early_judged claim.early claim.kind claim.lag fits.side side in (
      λ yes.
          let parts = and_parts toggle (bit_at x (early_place s)) yes in
          record {
            r = 0;
            judged = omega (arith, one.1);
            toggles = parts.0;
            bad = subst (λ (b : Bool). IsBadNowOn b d s claim x c 0) (sym side) parts.1;
          },
      λ now.
          let first : now.r ≡ 0 = omega (arith, now.judged, one.1) in
          and_made toggle (bit_at x (early_place s)) (subst (λ (r : ℕ). toggled s claim.edge claim.start x c r ≡ true) first now.toggles)
          (subst (λ (b : Bool). IsBadNowOn b d s claim x c now.r) side now.bad),
    )

pub early_bad_tells : (old new : AndGraph) (d : Design) (claim : Claim) (ls : Literals) (l : ℕ) → Fits d claim → claim.early ≡ true
    → AreLiteralsFor old d ls → Keeps old new
    → Means new l (λ x. toggle_bit (sizes_of d claim) claim.edge claim.start x (shown_cycle old x ls) && bit_at x (early_place (sizes_of d claim)))
    → BadLiteral new d claim ls l
early_bad_tells old new d claim ls l fits side literals keeps means =
    record {
      here = means.here;
      tells = λ x len.
          let c = shown_cycle old x ls in
          let bit = means.bit x len in
          let is = early_caught d claim x c fits side in
          subst (λ (y : Cycle). (bit_of new x l ≡ true) ↔ IsCaughtNow d (sizes_of d claim) claim x y) (sym (cycle_kept old new d x ls keeps literals len))
          (λ yes. is.0 (sym bit ∙ yes), λ now. bit ∙ is.1 now);
    }

-- the bad literal stays one
pub bad_kept : (old new : AndGraph) (d : Design) (claim : Claim) (ls : Literals) (l : ℕ) → Keeps old new → AreLiteralsFor old d ls
    → BadLiteral old d claim ls l → BadLiteral new d claim ls l
bad_kept old new d claim ls l keeps literals bad =
    record {
      here = in_kept old new l keeps bad.here;
      tells = λ x len.
          let before = bad.tells x (len ∙ keeps.front) in
          let bit = bit_kept old new x l keeps bad.here len in
          subst (λ (y : Cycle). (bit_of new x l ≡ true) ↔ IsCaughtNow d (sizes_of d claim) claim x y) (sym (cycle_kept old new d x ls keeps literals len))
          (λ yes. before.0 (sym bit ∙ yes), λ now. bit ∙ before.1 now);
    }

-- what the latch of a claim of the early side takes next
pub early_is : (g : AndGraph) (d : Design) (claim : Claim) (ls : Literals) (l : ℕ) → Fits d claim → (claim.early ≡ true → LateLiteral g d claim ls l)
    → IsIn g l → EarlyLiteral g d claim ls l
early_is g d claim ls l fits late here =
    record {
      here = here;
      tells = λ side x len.
          let kind = (early_judged claim.early claim.kind claim.lag fits.side side).0 in
          ((late side).tells x len).some (ap (λ (k : Kind). has_late k claim.through) kind);
    }

-- a graph keeps itself
pub keeps_same : (g : AndGraph) → Keeps g g
keeps_same g = record { front = refl; ordered = λ o. o; means = λ l f m. m }

-- the sizes of a sound design and a claim that fits it are small
pub sizes_small : (d : Design) (claim : Claim) → IsSound d → Fits d claim → AreSmall (sizes_of d claim)
sizes_small d claim sound fits =
    record {
      inputs = omega (arith, free_most d (length d.inputs), sound.limits.inputs);
      regs = sound.limits.regs;
      resets = sound.limits.reset_len;
      judged = by claim.kind claim.lag fits.kind fits.lag;
    }
  where
    by : (kind : Kind) (lag : ℕ) → IsKindFit kind → IsLagFit kind lag → judged_by kind lag ≤ 16
    by False lag is few = omega arith
    by (Multi k) lag is few = omega (arith, is.1)

-- what a literal tells of the cycle stays
pub cycle_means : (old new : AndGraph) (d : Design) (ls : Literals) (l : ℕ) (h : Cycle → Bool) → Keeps old new → AreLiteralsFor old d ls
    → Means old l (λ x. h (shown_cycle old x ls)) → Means new l (λ x. h (shown_cycle new x ls))
cycle_means old new d ls l h keeps literals means =
    means_same new l (λ x. h (shown_cycle old x ls)) (λ x. h (shown_cycle new x ls)) (λ x len. ap h (sym (cycle_kept old new d x ls keeps literals len)))
    (keeps.means l (λ x. h (shown_cycle old x ls)) means)
