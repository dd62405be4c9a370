-- Claims of the early side: the cycle before a toggle, in which the start shows its new bit.
use Rattle.std.proofs.Common.{◌≡◌, ◌≢◌, ℕ, ◌+◌, ◌-◌, ◌<◌, Bool, true, false, List, [], ◌∷◌, Some, refl, sym, ◌∙◌, arith, inl, inr, subst}
use Rattle.std.specs.Prelude.{slice_get}
use Rattle.std.proofs.lemmas.Bool.{cases_Bool}
use Rattle.net_model.specs.Cycles.{capture}
use Rattle.net_model.specs.Fits.{IsSideFit}
use Rattle.net_model.specs.Judge.{judged_by, judged_count, start_bit, IsEarlyBad, IsBadOn}
use Rattle.net_model.specs.declared.netlist.Design.{Design}
use Rattle.net_model.specs.declared.cycles.Cycle.{Cycle}
use Rattle.net_model.specs.declared.claims.Claim.{Claim}
use Rattle.sdcv_base.specs.declared.kinds.Kind.{Kind}
use Rattle.sdcv_base.specs.declared.kinds.Kind.TheVariants.{False, Multi}
use Rattle.query_model.specs.Keys.{lit}
use Rattle.query_model.specs.Defined.{differ_key}
use Rattle.query_model.specs.Formula.{early_alternatives, alternatives_at}
use Rattle.net_model.proofs.Members.{In}
use Rattle.query_laws.proofs.Extras.{ExtrasTold}
use Rattle.query_laws.proofs.Decided.{xor_ne, ne_xor, AllHold, only_holds, first_in, Moment, KindOfAll, early_side, IsDecided}
use Rattle.query_laws.proofs.Judged.{IsJudged, late_differs, differs_late, plain_decided}
use Rattle.query_laws.proofs.HazyClaims.{IsHazyJudged, hazy_decided}
use Rattle.query_model.specs.declared.keys.Key.{Key}
use Rattle.query_model.specs.declared.keys.KeyLit.{KeyLit}

-- the premises on a claim of the early side: one capture is judged, and a cycle is bad before another bit of the start exactly
-- where `differs` says so
pub record IsEarlyJudged (d : Design) (claim : Claim) (run : List Cycle) (differs : ℕ → Bool) : Type 0 where
  pub early : claim.early ≡ true
  pub once : judged_count claim ≡ 1
  pub bad : (t : ℕ) (before c : Cycle) → slice_get run t ≡ Some before → start_bit claim.start c ≢ start_bit claim.start before → differs t ≡ true
      → IsEarlyBad claim.hazard d claim before c
  pub seen : (t : ℕ) (before c : Cycle) → slice_get run t ≡ Some before → IsEarlyBad claim.hazard d claim before c → differs t ≡ true

bad_on : (e h : Bool) (d : Design) (claim : Claim) (stale : Bool) (before c : Cycle) → e ≡ true → IsEarlyBad h d claim before c
    → IsBadOn e h d claim stale before c
bad_on true h d claim stale before c side bad = bad
bad_on false h d claim stale before c side bad = absurd cc

on_bad : (e h : Bool) (d : Design) (claim : Claim) (stale : Bool) (before c : Cycle) → e ≡ true → IsBadOn e h d claim stale before c
    → IsEarlyBad h d claim before c
on_bad true h d claim stale before c side bad = bad
on_bad false h d claim stale before c side bad = absurd cc

-- the toggle's own cycle is the judged one, and the cycle before it the one that comes before
pub record AtToggle (run : List Cycle) (t : ℕ) (a b before c : Cycle) : Type 0 where
  pub at_before : slice_get run (t - 1) ≡ Some before
  pub same_before : before ≡ a
  pub same_c : c ≡ b

at_toggle : (claim : Claim) (run : List Cycle) (t r : ℕ) (a b before c : Cycle) → judged_count claim ≡ 1 → Moment claim run t r a b before c
    → AtToggle run t a b before c
at_toggle claim run t r a b before c once at =
    let judged = at.judged in
    let back : t + r - 1 ≡ t - 1 = omega arith in
    let here : t + r ≡ t = omega arith in
    let at_before : slice_get run (t - 1) ≡ Some before = subst (λ i. slice_get run i ≡ Some before) back at.at_before in
    let at_c : slice_get run t ≡ Some c = subst (λ i. slice_get run i ≡ Some c) here at.at_c in
    let at_a = at.at_a in
    let at_b = at.at_b in
    record { at_before = at_before; same_before = cc; same_c = cc }

-- the alternative of such a claim decides
early_decided : (kind : Key → Type 0) (d : Design) (claim : Claim) (run : List Cycle) (differs : ℕ → Bool) → IsEarlyJudged d claim run differs
    → IsDecided kind d claim run differs
early_decided kind d claim run differs is =
    record {
      bad = λ v t r a b before c alt extras at ne kinds in_alts hold.
          let z = differ_key d (t - 1) in
          let alts = early_side d claim t r is.early in
          let now = at_toggle claim run t r a b before c is.once at in
          let other : start_bit claim.start c ≢ start_bit claim.start before =
          subst (λ (x : Cycle). start_bit claim.start c ≢ start_bit claim.start x) (sym now.same_before)
          (subst (λ (x : Cycle). start_bit claim.start x ≢ start_bit claim.start a) (sym now.same_c) ne) in
          let has : kind z = subst (KindOfAll kind) alts kinds (lit true z ∷ []) (lit true z) (inl refl) (inl refl) in
          let holds : AllHold v (lit true z ∷ []) = subst (AllHold v) (sym (first_in (subst (In alt) alts in_alts))) hold in
          bad_on claim.early claim.hazard d claim (start_bit claim.start a) before c is.early
          (is.bad (t - 1) before c now.at_before other (sym (extras.differ (t - 1) before now.at_before has) ∙ holds (lit true z) (inl refl)));
      good = λ t r a b before c at kinds bad.
          let z = differ_key d (t - 1) in
          let alts = early_side d claim t r is.early in
          let now = at_toggle claim run t r a b before c is.once at in
          let has : kind z = subst (KindOfAll kind) alts kinds (lit true z ∷ []) (lit true z) (inl refl) (inl refl) in
          let differ = is.seen (t - 1) before c now.at_before
          (on_bad claim.early claim.hazard d claim (start_bit claim.start a) before c is.early bad) in (
            lit true z ∷ [],
            subst (In (lit true z ∷ [])) (sym alts) (inl refl),
            λ v extras. only_holds v z (extras.differ (t - 1) before now.at_before has ∙ differ),
          );
      some = λ t r. (lit true (differ_key d (t - 1)) ∷ [], subst (In (lit true (differ_key d (t - 1)) ∷ [])) (sym (early_side d claim t r is.early)) (inl refl));
    }

-- where a claim has an early side, one capture is judged
judged_once : (early : Bool) (kind : Kind) (lag : ℕ) → early ≡ true → IsSideFit early kind lag → judged_by kind lag ≡ 1
judged_once true False lag is side = omega (arith, side)
judged_once true (Multi k) lag is side = absurd side
judged_once false kind lag is side = absurd cc

early_plain : (h : Bool) (d : Design) (claim : Claim) (run : List Cycle) (late differs : ℕ → Bool) (t : ℕ) (before c : Cycle) → h ≡ false
    → IsJudged d claim run late differs → slice_get run t ≡ Some before → start_bit claim.start c ≢ start_bit claim.start before → differs t ≡ true
    → IsEarlyBad h d claim before c
early_plain false d claim run late differs t before c plain is at other differ =
    differs_late d claim run late differs t before (start_bit claim.start c) is at (λ e. other (sym e))
    (xor_ne (late t) (capture d claim.end before) (sym (is.differs_are t before at) ∙ differ))
early_plain true d claim run late differs t before c plain is at other differ = absurd cc

plain_early : (h : Bool) (d : Design) (claim : Claim) (run : List Cycle) (late differs : ℕ → Bool) (t : ℕ) (before c : Cycle) → h ≡ false
    → IsJudged d claim run late differs → slice_get run t ≡ Some before → IsEarlyBad h d claim before c → differs t ≡ true
plain_early false d claim run late differs t before c plain is at bad =
    is.differs_are t before at ∙ ne_xor (late t) (capture d claim.end before)
    (late_differs d claim run late differs t before (start_bit claim.start c) is at bad).1
plain_early true d claim run late differs t before c plain is at bad = absurd cc

early_hazy : (h : Bool) (d : Design) (claim : Claim) (run : List Cycle) (differs : ℕ → Bool) (t : ℕ) (before c : Cycle) → h ≡ true
    → IsHazyJudged d claim run differs → slice_get run t ≡ Some before → differs t ≡ true → IsEarlyBad h d claim before c
early_hazy true d claim run differs t before c hazard is at differ = is.glitches t before at differ
early_hazy false d claim run differs t before c hazard is at differ = absurd cc

hazy_early : (h : Bool) (d : Design) (claim : Claim) (run : List Cycle) (differs : ℕ → Bool) (t : ℕ) (before c : Cycle) → h ≡ true
    → IsHazyJudged d claim run differs → slice_get run t ≡ Some before → IsEarlyBad h d claim before c → differs t ≡ true
hazy_early true d claim run differs t before c hazard is at bad = is.seen t before at bad
hazy_early false d claim run differs t before c hazard is at bad = absurd cc

-- the alternatives of a plain claim of either side decide
pub plain_decides : (kind : Key → Type 0) (d : Design) (claim : Claim) (run : List Cycle) (late differs : ℕ → Bool)
    → IsSideFit claim.early claim.kind claim.lag → IsJudged d claim run late differs → IsDecided kind d claim run differs
plain_decides kind d claim run late differs side is =
    elim (cases_Bool claim.early) [
      | inl early ↦
          early_decided kind d claim run differs
          (record {
            early = early;
            once = judged_once claim.early claim.kind claim.lag early side;
            bad = λ t before c at other differ. early_plain claim.hazard d claim run late differs t before c is.plain is at other differ;
            seen = λ t before c at bad. plain_early claim.hazard d claim run late differs t before c is.plain is at bad;
          })
      | inr late_one ↦ plain_decided kind d claim run late differs late_one is
    ]

-- so do those of a claim where hazards count
pub hazy_decides : (kind : Key → Type 0) (d : Design) (claim : Claim) (run : List Cycle) (differs : ℕ → Bool)
    → IsSideFit claim.early claim.kind claim.lag → IsHazyJudged d claim run differs → IsDecided kind d claim run differs
hazy_decides kind d claim run differs side is =
    elim (cases_Bool claim.early) [
      | inl early ↦
          early_decided kind d claim run differs
          (record {
            early = early;
            once = judged_once claim.early claim.kind claim.lag early side;
            bad = λ t before c at other differ. early_hazy claim.hazard d claim run differs t before c is.hazard is at differ;
            seen = λ t before c at bad. hazy_early claim.hazard d claim run differs t before c is.hazard is at bad;
          })
      | inr late_one ↦ hazy_decided kind d claim run differs late_one is
    ]
