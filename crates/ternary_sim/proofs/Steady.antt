-- What is known where the start is unknown: the captures, and so what violates a claim without hazards.
use Rattle.std.proofs.Common.{◌≡◌, ℕ, ◌+◌, ◌-◌, Bool, true, false, List, [], ◌∷◌, length, sym, ◌∙◌, subst, arith, inr}
use Rattle.net_model.specs.Netlist.{IsSound}
use Rattle.net_model.specs.Fits.{Fits}
use Rattle.net_model.specs.Cycles.{shown, IsSettled, IsLinked}
use Rattle.net_model.specs.Layers.{capture_over}
use Rattle.net_model.specs.Ternary.{tern_of, Completes, IsTernaryCapture}
use Rattle.net_model.proofs.TernaryOnce.{tern_capture_over, computed_capture}
use Rattle.net_model.specs.Judge.{start_bit, DiffersLate, MayGlitch, IsBadPlain, IsBadHazard, IsBadOn, IsViolatedAt, Holds}
use Rattle.net_model.proofs.Settling.{All-at}
use Rattle.ternary_sim.specs.Hazards.{plain_of, hazard_of, IsSteady}
use Rattle.ternary_sim.proofs.Completing.{AreBitsTo, completes_known, layers_complete, capture_completes}
use Rattle.ternary_sim.proofs.OwnLayers.{own_rows, own_layers, own_capture}
use Rattle.ternary_sim.proofs.TernaryExists.{ternary_exists}
use Rattle.net_model.specs.declared.netlist.Design.{Design}
use Rattle.net_model.specs.declared.netlist.RegOut.{RegOut}
use Rattle.net_model.specs.declared.cycles.Cycle.{Cycle}
use Rattle.net_model.specs.declared.claims.Claim.{Claim}
use Rattle.sdcv_base.specs.declared.kinds.Kind.{Kind}
use Rattle.sdcv_base.specs.declared.kinds.Kind.TheVariants.{False, Multi}
use Rattle.net_model.specs.declared.claims.PinRef.{PinRef}
use Rattle.net_model.specs.declared.terns.Tern.{Tern}
use Rattle.net_model.specs.declared.terns.Tern.TheVariants.{Zero, One, Unknown}

-- a known ternary capture is the capture over any layers of the start
known_over : (d : Design) (claim : Claim) (c : Cycle) (late : RegOut → Bool) (rows : List (List Bool)) (b : Bool) → IsSound d → Fits d claim
    → IsTernaryCapture d claim c (tern_of b) → AreBitsTo d claim.start claim.through late c.nets rows (length claim.through)
    → capture_over d claim.through rows claim.end c ≡ b
known_over d claim c late rows b sound fits known layers =
    let made = computed_capture d claim c (tern_of b) sound known in
    let all = layers_complete d claim.start claim.through late c.nets made.rows rows (length claim.through) sound made.layers layers
    (length claim.through + 1) (omega arith) in
    let completes : Completes (tern_capture_over d claim.through made.rows claim.end c)
    (capture_over d claim.through rows claim.end c) = capture_completes d claim.through made.rows rows claim.end c sound fits.end_ all in
    completes_known b (capture_over d claim.through rows claim.end c)
    (subst (λ (t : Tern). Completes t (capture_over d claim.through rows claim.end c)) made.capture completes)

-- where the ternary capture is a bit, so are the capture and each late capture
pub steady : (d : Design) (claim : Claim) (c : Cycle) (b : Bool) → IsSound d → Fits d claim → IsSettled d c → IsTernaryCapture d claim c (tern_of b)
    → IsSteady d claim c b
steady d claim c b sound fits settled known =
    record {
      plain =
          sym (own_capture d claim.through claim.end c sound)
          ∙ known_over d claim c (λ o. shown o (start_bit claim.start c)) (own_rows c.nets (length claim.through)) b sound fits known
          (own_layers d claim.start claim.through c sound settled fits.start);
      late = λ stale late is. sym is.capture ∙ known_over d claim c (λ o. shown o stale) is.rows b sound fits known is.layers;
    }

apart_from : (d : Design) (claim : Claim) (c : Cycle) (stale b : Bool) → IsSteady d claim c b → ¬ DiffersLate d claim c stale
apart_from d claim c stale b is differs = differs.2 (is.late stale differs.0 differs.1 ∙ sym is.plain)

glitch_at : (d : Design) (claim : Claim) (c : Cycle) (stale : Bool) (t : Tern) → IsSound d → Fits d claim → IsSettled d c → DiffersLate d claim c stale
    → IsTernaryCapture d claim c t → MayGlitch d claim c
glitch_at d claim c stale Zero sound fits settled differs is = absurd (apart_from d claim c stale false (steady d claim c false sound fits settled is) differs)
glitch_at d claim c stale One sound fits settled differs is = absurd (apart_from d claim c stale true (steady d claim c true sound fits settled is) differs)
glitch_at d claim c stale Unknown sound fits settled differs is = is

-- where the late capture differs, the end may glitch
glitches : (d : Design) (claim : Claim) (c : Cycle) (stale : Bool) → IsSound d → Fits d claim → IsSettled d c → DiffersLate d claim c stale
    → MayGlitch d claim c
glitches d claim c stale sound fits settled differs =
    let made = ternary_exists d claim c sound fits.start settled in
    glitch_at d claim c stale made.0 sound fits settled differs made.1

plain_late : (d : Design) (claim : Claim) (c : Cycle) (stale : Bool) → DiffersLate d (plain_of claim) c stale → DiffersLate d claim c stale
plain_late d claim c stale differs =
    (differs.0, record { rows = differs.1.rows; layers = differs.1.layers; capture = differs.1.capture }, differs.2)

hazard_glitch : (d : Design) (claim : Claim) (c : Cycle) → MayGlitch d claim c → MayGlitch d (hazard_of claim) c
hazard_glitch d claim c is = record { rows = is.rows; layers = is.layers; capture = is.capture }

-- where the late capture of the claim without hazards differs, the end of the claim with hazards may glitch
glitches_there : (d : Design) (claim : Claim) (c : Cycle) (stale : Bool) → IsSound d → Fits d claim → IsSettled d c
    → DiffersLate d (plain_of claim) c stale → MayGlitch d (hazard_of claim) c
glitches_there d claim c stale sound fits settled differs =
    hazard_glitch d claim c (glitches d claim c stale sound fits settled (plain_late d claim c stale differs))

bad_with_hazards : (kind : Kind) (sets : List (List PinRef)) (d : Design) (claim : Claim) (stale : Bool) (before c : Cycle)
    → (DiffersLate d (plain_of claim) c stale → MayGlitch d (hazard_of claim) c) → IsBadPlain kind sets d (plain_of claim) stale before c
    → IsBadHazard kind sets d (hazard_of claim) before c
bad_with_hazards False sets d claim stale before c glitch bad = glitch bad
bad_with_hazards (Multi k) [] d claim stale before c glitch bad = inr bad
bad_with_hazards (Multi k) (set ∷ sets) d claim stale before c glitch bad = glitch bad.0

-- what is bad on a side without hazards is bad on it with them
bad_on_side : (early : Bool) (d : Design) (claim : Claim) (stale : Bool) (before c : Cycle) → IsSound d → Fits d claim → IsSettled d before
    → IsSettled d c → IsBadOn early false d (plain_of claim) stale before c → IsBadOn early true d (hazard_of claim) stale before c
bad_on_side false d claim stale before c sound fits settled_before settled bad =
    bad_with_hazards claim.kind claim.through d claim stale before c (glitches_there d claim c stale sound fits settled) bad
bad_on_side true d claim stale before c sound fits settled_before settled bad =
    glitches_there d claim before (start_bit claim.start c) sound fits settled_before bad

-- what violates the claim without hazards violates it with them
pub violated_too : (d : Design) (claim : Claim) (live : ℕ) (run : List Cycle) (t : ℕ) → IsSound d → Fits d claim → IsLinked d run
    → IsViolatedAt live d (plain_of claim) run t → IsViolatedAt live d (hazard_of claim) run t
violated_too d claim live run t sound fits linked v =
    let settled_before = All-at (IsSettled d) run (t + v.r - 1) v.before v.before_at linked.settled in
    let settled = All-at (IsSettled d) run (t + v.r) v.c v.c_at linked.settled in
    record {
      stale = v.stale;
      toggles = v.toggles;
      r = v.r;
      judged = v.judged;
      before = v.before;
      c = v.c;
      before_at = v.before_at;
      c_at = v.c_at;
      bad = bad_on_side claim.early d claim v.stale v.before v.c sound fits settled_before settled v.bad;
    }

pub holds_too : (d : Design) (claim : Claim) → IsSound d → Fits d claim → Holds d (hazard_of claim) → Holds d (plain_of claim)
holds_too d claim sound fits holds run t from_reset v =
    holds run t from_reset (violated_too d claim d.reset_len run t sound fits from_reset.linked v)
