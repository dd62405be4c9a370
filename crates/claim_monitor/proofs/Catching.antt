-- The bits in front tell whether a run is caught.
use Rattle.std.proofs.Common.{◌≡◌, ◌≢◌, ℕ, ◌<◌, ◌+◌, ◌-◌, Bool, true, false, not, List, [], ◌∷◌, Some, refl, ap, sym, ◌∙◌, subst, arith}
use Rattle.std.specs.Prelude.{◌↔◌, slice_get}
use Rattle.std.proofs.lemmas.Option.{same_Some}
use Rattle.net_model.specs.Form.{value}
use Rattle.net_model.specs.FormLaws.{value_agrees}
use Rattle.net_model.specs.Netlist.{IsSound}
use Rattle.net_model.specs.Fits.{Fits, IsStartIn, IsSideFit}
use Rattle.net_model.specs.Cycles.{bit_at, capture, IsRun, IsSettled}
use Rattle.net_model.specs.Pins.{late_value}
use Rattle.net_model.specs.Layers.{IsLateCapture, capture_over}
use Rattle.net_model.specs.Judge.{judged_by, judged_count, start_bit, Toggles, DiffersLate, IsBadPlain, IsBadOn}
use Rattle.net_model.proofs.Settling.{All-at}
use Rattle.net_model.proofs.LayersExist.{layers_exist}
use Rattle.net_model.proofs.LateReads.{on_bits}
use Rattle.net_model.proofs.Flipped.{late_by_flip}
use Rattle.net_model.specs.declared.netlist.Design.{Design}
use Rattle.net_model.specs.declared.cycles.Cycle.{Cycle}
use Rattle.net_model.specs.declared.claims.Claim.{Claim}
use Rattle.net_model.specs.declared.claims.PinRef.{PinRef}
use Rattle.sdcv_base.specs.declared.kinds.Kind.{Kind}
use Rattle.sdcv_base.specs.declared.kinds.Kind.TheVariants.{False, Multi}
use Rattle.claim_monitor.specs.Fronts.{sizes_of, start_place, early_place, DiffersFlipped, IsFront}
use Rattle.claim_monitor.specs.Tells.{captured, DiffersNow, IsBadNow, IsBadNowOn, IsCaughtNow}
use Rattle.claim_monitor.specs.Watches.{IsCaughtAt}
use Rattle.claim_monitor.proofs.Toggling.{before_is, toggled_tells, toggled_told, captured_is}

-- there is a late capture with the start flipped
flipped_is : (d : Design) (claim : Claim) (c : Cycle) → IsSound d → IsStartIn d claim.start → IsSettled d c
    → (late : Bool) × IsLateCapture d claim c (not (start_bit claim.start c)) late
flipped_is d claim c sound start settled =
    let bit = not (start_bit claim.start c) in
    let made = layers_exist value value_agrees (λ (b : Bool). b) bit (not bit) d claim.start claim.through c.nets sound start settled.shape.nets in (
      capture_over d claim.through made.0 claim.end c,
      record {
        rows = made.0;
        layers = on_bits d claim.start claim.through (late_value bit (not bit)) c.nets made.0 made.1;
        capture = refl;
      },
    )

-- what a cycle, the one before it and a toggle so many cycles before have to do with the bits in front
record Meets (d : Design) (claim : Claim) (x : List Bool) (before c : Cycle) (r : ℕ) (stale : Bool) : Type 0 where
  sound : IsSound d
  fits : Fits d claim
  settled : IsSettled d c
  shows : bit_at x (start_place (sizes_of d claim) r) ≡ stale
  captured : (k : ℕ) → claim.kind ≡ Multi k → captured (sizes_of d claim) claim.end x c ≡ capture d claim.end before
  settled_before : IsSettled d before
  moves : claim.early ≡ true → start_bit claim.start before ≢ start_bit claim.start c
  early : claim.early ≡ true → (bit_at x (early_place (sizes_of d claim)) ≡ true) ↔ DiffersFlipped d claim before

late_from : (d : Design) (claim : Claim) (x : List Bool) (before c : Cycle) (r : ℕ) (stale : Bool) → Meets d claim x before c r stale
    → DiffersNow d (sizes_of d claim) claim x c r → DiffersLate d claim c stale
late_from d claim x before c r stale m now =
    (late_by_flip d claim m.sound m.fits.start m.fits.end_ c stale now.0 m.settled now.1).1
    (λ same. now.3 (same ∙ sym m.shows), now.2)

late_to : (d : Design) (claim : Claim) (x : List Bool) (before c : Cycle) (r : ℕ) (stale : Bool) → Meets d claim x before c r stale
    → DiffersLate d claim c stale → DiffersNow d (sizes_of d claim) claim x c r
late_to d claim x before c r stale m differs =
    let flipped = flipped_is d claim c m.sound m.fits.start m.settled in
    let both = (late_by_flip d claim m.sound m.fits.start m.fits.end_ c stale flipped.0 m.settled flipped.1).0 differs in
    (flipped.0, flipped.1, both.1, λ same. both.0 (same ∙ m.shows))

bad_from : (d : Design) (claim : Claim) (x : List Bool) (before c : Cycle) (r : ℕ) (stale : Bool) (kind : Kind) (sets : List (List PinRef))
    → claim.kind ≡ kind → Meets d claim x before c r stale → IsBadNow kind sets d (sizes_of d claim) claim x c r
    → IsBadPlain kind sets d claim stale before c
bad_from d claim x before c r stale False sets e m bad = late_from d claim x before c r stale m bad
bad_from d claim x before c r stale (Multi k) [] e m bad = λ same. bad (same ∙ sym (m.captured k e))
bad_from d claim x before c r stale (Multi k) (set ∷ sets) e m bad =
    (late_from d claim x before c r stale m bad.0, λ same. bad.1 (same ∙ sym (m.captured k e)))

bad_to : (d : Design) (claim : Claim) (x : List Bool) (before c : Cycle) (r : ℕ) (stale : Bool) (kind : Kind) (sets : List (List PinRef))
    → claim.kind ≡ kind → Meets d claim x before c r stale → IsBadPlain kind sets d claim stale before c
    → IsBadNow kind sets d (sizes_of d claim) claim x c r
bad_to d claim x before c r stale False sets e m bad = late_to d claim x before c r stale m bad
bad_to d claim x before c r stale (Multi k) [] e m bad = λ same. bad (same ∙ m.captured k e)
bad_to d claim x before c r stale (Multi k) (set ∷ sets) e m bad =
    (late_to d claim x before c r stale m bad.0, λ same. bad.1 (same ∙ m.captured k e))

-- the early side: the start showed the bit in the cycle before that it has now
early_from : (d : Design) (claim : Claim) (x : List Bool) (before c : Cycle) (r : ℕ) (stale : Bool) → claim.early ≡ true → Meets d claim x before c r stale
    → bit_at x (early_place (sizes_of d claim)) ≡ true → DiffersLate d claim before (start_bit claim.start c)
early_from d claim x before c r stale e m now =
    let flipped = (m.early e).0 now in
    (late_by_flip d claim m.sound m.fits.start m.fits.end_ before (start_bit claim.start c) flipped.0 m.settled_before flipped.1).1 (m.moves e, flipped.2)

early_to : (d : Design) (claim : Claim) (x : List Bool) (before c : Cycle) (r : ℕ) (stale : Bool) → claim.early ≡ true → Meets d claim x before c r stale
    → DiffersLate d claim before (start_bit claim.start c) → bit_at x (early_place (sizes_of d claim)) ≡ true
early_to d claim x before c r stale e m differs =
    let flipped = flipped_is d claim before m.sound m.fits.start m.settled_before in
    let both = (late_by_flip d claim m.sound m.fits.start m.fits.end_ before (start_bit claim.start c) flipped.0 m.settled_before flipped.1).0 differs in
    (m.early e).1 (flipped.0, flipped.1, both.1)

-- each side
side_from : (d : Design) (claim : Claim) (x : List Bool) (before c : Cycle) (r : ℕ) (stale early : Bool) → claim.early ≡ early
    → Meets d claim x before c r stale → IsBadNowOn early d (sizes_of d claim) claim x c r → IsBadOn early false d claim stale before c
side_from d claim x before c r stale false e m bad = bad_from d claim x before c r stale claim.kind claim.through refl m bad
side_from d claim x before c r stale true e m bad = early_from d claim x before c r stale e m bad

side_to : (d : Design) (claim : Claim) (x : List Bool) (before c : Cycle) (r : ℕ) (stale early : Bool) → claim.early ≡ early
    → Meets d claim x before c r stale → IsBadOn early false d claim stale before c → IsBadNowOn early d (sizes_of d claim) claim x c r
side_to d claim x before c r stale false e m bad = bad_to d claim x before c r stale claim.kind claim.through refl m bad
side_to d claim x before c r stale true e m bad = early_to d claim x before c r stale e m bad

-- of the early side one capture is judged
pub early_judged : (early : Bool) (kind : Kind) (lag : ℕ) → IsSideFit early kind lag → early ≡ true → (kind ≡ False) × (judged_by kind lag ≡ 1)
early_judged true False lag fit e = (refl, omega (arith, fit))
early_judged true (Multi k) lag fit e = absurd fit
early_judged false kind lag fit e = cc

-- a run, and the bits in front at one of its cycles
pub record Shows (d : Design) (claim : Claim) (run : List Cycle) (t : ℕ) (c : Cycle) (x : List Bool) : Type 0 where
  pub sound : IsSound d
  pub fits : Fits d claim
  pub plain : claim.hazard ≡ false
  pub of_run : IsRun d run
  pub front : IsFront d claim run t c x

meets : (d : Design) (claim : Claim) (run : List Cycle) (t : ℕ) (c before : Cycle) (x : List Bool) (r : ℕ) (stale : Bool) → r < judged_count claim
    → Shows d claim run t c x → slice_get run (t - 1) ≡ Some before → Toggles d.reset_len claim.edge claim.start run (t - r) stale
    → Meets d claim x before c r stale
meets d claim run t c before x r stale low shows at toggles =
    let live = toggles.is_live in
    let apart : r < t = omega arith in
    let place : t - 1 - r ≡ t - r - 1 = omega arith in
    let first : claim.early ≡ true → r ≡ 0 =
    λ e. let one = early_judged claim.early claim.kind claim.lag shows.fits.side e in omega (arith, low, one.1) in
    record {
      sound = shows.sound;
      fits = shows.fits;
      settled = All-at (IsSettled d) run t c shows.front.at shows.of_run.linked.settled;
      shows = shows.front.starts r toggles.before low apart (ap (slice_get run) place ∙ toggles.before_at) ∙ toggles.stale_is;
      captured = λ k kind. captured_is d claim run t c before x shows.of_run (omega arith) shows.fits.end_ at k kind shows.front;
      settled_before = All-at (IsSettled d) run (t - 1) before at shows.of_run.linked.settled;
      moves = λ e.
          let zero = first e in
          let one_back : t - r - 1 ≡ t - 1 = omega (arith, zero) in
          let here : t - r ≡ t = omega (arith, zero) in
          let of_before : toggles.before ≡ before = same_Some toggles.before before (sym toggles.before_at ∙ (ap (slice_get run) one_back ∙ at)) in
          let of_now : toggles.now ≡ c = same_Some toggles.now c (sym toggles.now_at ∙ (ap (slice_get run) here ∙ shows.front.at)) in
          λ same. toggles.differs (ap (start_bit claim.start) of_now
          ∙ (sym same ∙ (ap (start_bit claim.start) (sym of_before) ∙ toggles.stale_is)));
      early = λ e. shows.front.early before e (omega arith) at;
    }

-- where they tell that it is caught, it is
pub caught_tells : (d : Design) (claim : Claim) (run : List Cycle) (t : ℕ) (c : Cycle) (x : List Bool) → Shows d claim run t c x
    → IsCaughtNow d (sizes_of d claim) claim x c → IsCaughtAt d claim run t
caught_tells d claim run t c x shows now =
    let has = toggled_tells d claim run t c x now.r now.judged shows.front now.toggles in
    let before = before_is run t c shows.front.at in
    let live = has.1.is_live in
    let whole : t - now.r + now.r ≡ t = omega arith in
    let m = meets d claim run t c before.0 x now.r has.0 now.judged shows before.1 has.1 in
    let bad : IsBadOn claim.early false d claim has.0 before.0 c = side_from d claim x before.0 c now.r has.0 claim.early refl m now.bad in (
      t - now.r,
      record {
        stale = has.0;
        toggles = has.1;
        r = now.r;
        judged = now.judged;
        before = before.0;
        c = c;
        before_at = ap (λ (n : ℕ). slice_get run (n - 1)) whole ∙ before.1;
        c_at = ap (slice_get run) whole ∙ shows.front.at;
        bad = subst (λ (b : Bool). IsBadOn claim.early b d claim has.0 before.0 c) (sym shows.plain) bad;
      },
      whole,
    )

-- where it is caught, they tell so
pub caught_told : (d : Design) (claim : Claim) (run : List Cycle) (t : ℕ) (c : Cycle) (x : List Bool) → Shows d claim run t c x
    → IsCaughtAt d claim run t → IsCaughtNow d (sizes_of d claim) claim x c
caught_told d claim run t c x shows at =
    let v = at.1 in
    let sum : at.0 + v.r ≡ t = at.2 in
    let here : at.0 ≡ t - v.r = omega arith in
    let toggles : Toggles d.reset_len claim.edge claim.start run (t - v.r) v.stale =
    subst (λ (n : ℕ). Toggles d.reset_len claim.edge claim.start run n v.stale) here v.toggles in
    let now : v.c ≡ c = same_Some v.c c (sym v.c_at ∙ (ap (slice_get run) sum ∙ shows.front.at)) in
    let before_at : slice_get run (t - 1) ≡ Some v.before = ap (λ (n : ℕ). slice_get run (n - 1)) (sym sum) ∙ v.before_at in
    let m = meets d claim run t c v.before x v.r v.stale v.judged shows before_at toggles in
    let plain : IsBadOn claim.early false d claim v.stale v.before v.c =
    subst (λ (b : Bool). IsBadOn claim.early b d claim v.stale v.before v.c) shows.plain v.bad in
    record {
      r = v.r;
      judged = v.judged;
      toggles = toggled_told d claim run t c x v.r v.judged shows.front (v.stale, toggles);
      bad = side_to d claim x v.before c v.r v.stale claim.early refl m
          (subst (λ (y : Cycle). IsBadOn claim.early false d claim v.stale v.before y) now plain);
    }
