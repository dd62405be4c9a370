-- Claims where hazards count: the layers in which the start is unknown.
use Rattle.std.proofs.Common.{◌≡◌, ℕ, ◌+◌, ◌<◌, ◌≤◌, Bool, true, false, cond, List, [], ◌∷◌, length, Option, Some, None, refl, ap, sym, ◌∙◌}
use Rattle.std.proofs.Common.{arith, inl, inr, subst, add-one}
use Rattle.std.specs.Prelude.{slice_get, if◌then◌else◌, nat_lt, ◌&&◌}
use Rattle.std.proofs.lemmas.Bool.{cond-true, cond-false, lt-ltb, le-ltb}
use Rattle.std.proofs.lemmas.Option.{slice_get_within}
use Rattle.net_model.specs.Cycles.{capture}
use Rattle.net_model.specs.Layers.{net_at}
use Rattle.net_model.specs.Ternary.{IsTernaryCapture}
use Rattle.net_model.proofs.TernaryOnce.{tern_capture_over}
use Rattle.net_model.specs.Judge.{start_bit, Changes, MayGlitch, IsBadHazard, IsBadOn}
use Rattle.net_model.proofs.TernaryOnce.{ternary_once, ternary_capture}
use Rattle.net_model.specs.declared.netlist.Design.{Design}
use Rattle.net_model.specs.declared.cycles.Cycle.{Cycle}
use Rattle.net_model.specs.declared.claims.Claim.{Claim}
use Rattle.net_model.specs.declared.claims.PinRef.{PinRef}
use Rattle.sdcv_base.specs.declared.kinds.Kind.{Kind}
use Rattle.sdcv_base.specs.declared.kinds.Kind.TheVariants.{False, Multi}
use Rattle.net_model.specs.declared.terns.Tern.{Tern}
use Rattle.net_model.specs.declared.terns.Tern.TheVariants.{Zero, One, Unknown}
use Rattle.query_model.specs.Keys.{key, lit, lit_value, AllTrue}
use Rattle.query_model.specs.Defined.{Definition, both, extra_definitions, differ_definition, differ_key, change_key, late_capture_lit}
use Rattle.query_model.specs.Formula.{plain_alternatives, hazard_alternatives, alternatives_at}
use Rattle.net_model.proofs.Members.{In}
use Rattle.query_model.proofs.Runs.{now_bits, Told, AnyKey}
use Rattle.query_laws.proofs.Meaning.{meaning_says}
use Rattle.query_laws.proofs.Extras.{ExtrasTold, both_told, both_true}
use Rattle.query_laws.proofs.Decided.{xor_ne, ne_xor, AllHold, only_holds, first_in, Moment, KindOfAll, late_side, IsDecided}
use Rattle.query_model.specs.Laws.{may_one, may_zero, rail_value}
use Rattle.query_laws.proofs.Hazy.{IsHazy, LayerMay}
use Rattle.query_laws.proofs.HazyGates.{IsCoding, SaysRails, layers_may, layers_may_said}
use Rattle.query_laws.proofs.HazyEnds.{end_may, end_may_said, SaysEnd, layer_hazy_true, end_hazy_true}
use Rattle.query_laws.proofs.Story.{others, story, story_differ, said_told}
use Rattle.query_laws.proofs.Violated.{IsAskedOf, TellsDiffer, SaysLate}
use Rattle.query_laws.proofs.PlainClaims.{layers_of, ends_of, extras_of}
use Rattle.query_model.specs.declared.keys.Key.{Key}
use Rattle.query_model.specs.declared.keys.KeyLit.{KeyLit}
use Rattle.query_model.specs.declared.keys.Coding.{Coding}

-- the premises on a claim where hazards count, with the cycles whose ternary capture is unknown
pub record IsHazyJudged (d : Design) (claim : Claim) (run : List Cycle) (differs : ℕ → Bool) : Type 0 where
  pub hazard : claim.hazard ≡ true
  pub glitches : (t : ℕ) (c : Cycle) → slice_get run t ≡ Some c → differs t ≡ true → MayGlitch d claim c
  pub seen : (t : ℕ) (c : Cycle) → slice_get run t ≡ Some c → MayGlitch d claim c → differs t ≡ true

-- a condition that holds makes the cycle bad
differ_bad : (kind : Key → Type 0) (v : Key → Bool) (d : Design) (claim : Claim) (run : List Cycle) (differs : ℕ → Bool) (t r : ℕ)
    (a b before c : Cycle) → IsHazyJudged d claim run differs → ExtrasTold kind v d claim run differs → Moment claim run t r a b before c
    → kind (differ_key d (t + r)) → AllHold v (lit true (differ_key d (t + r)) ∷ []) → MayGlitch d claim c
differ_bad kind v d claim run differs t r a b before c is extras at has hold =
    is.glitches (t + r) c at.at_c (sym (extras.differ (t + r) c at.at_c has) ∙ hold (lit true (differ_key d (t + r))) (inl refl))

change_bad : (kind : Key → Type 0) (v : Key → Bool) (d : Design) (claim : Claim) (run : List Cycle) (differs : ℕ → Bool) (t r : ℕ)
    (a b before c : Cycle) → ExtrasTold kind v d claim run differs → Moment claim run t r a b before c → kind (change_key d (t + r))
    → AllHold v (lit true (change_key d (t + r)) ∷ []) → Changes d claim before c
change_bad kind v d claim run differs t r a b before c extras at has hold =
    xor_ne (capture d claim.end c) (capture d claim.end before) (sym (extras.change (t + r) before c at.at_before at.at_c has)
    ∙ hold (lit true (change_key d (t + r))) (inl refl))

hazy_alternative_bad : (kind : Key → Type 0) (v : Key → Bool) (d : Design) (claim : Claim) (run : List Cycle) (differs : ℕ → Bool) (t r : ℕ)
    (a b before c : Cycle) → IsHazyJudged d claim run differs → ExtrasTold kind v d claim run differs → Moment claim run t r a b before c
    → (k : Kind) (sets : List (List PinRef)) (alt : List KeyLit) → KindOfAll kind (hazard_alternatives k sets d (t + r))
    → In alt (hazard_alternatives k sets d (t + r)) → AllHold v alt → IsBadHazard k sets d claim before c
hazy_alternative_bad kind v d claim run differs t r a b before c is extras at False sets alt kinds has hold =
    differ_bad kind v d claim run differs t r a b before c is extras at (kinds _ _ (inl refl) (inl refl)) (subst (AllHold v) (sym (first_in has)) hold)
hazy_alternative_bad kind v d claim run differs t r a b before c is extras at (Multi k) (set ∷ sets) alt kinds has hold =
    differ_bad kind v d claim run differs t r a b before c is extras at (kinds _ _ (inl refl) (inl refl)) (subst (AllHold v) (sym (first_in has)) hold)
hazy_alternative_bad kind v d claim run differs t r a b before c is extras at (Multi k) [] alt kinds (inl here) hold =
    inr (change_bad kind v d claim run differs t r a b before c extras at (kinds _ _ (inl refl) (inl refl)) (subst (AllHold v) (sym here) hold))
hazy_alternative_bad kind v d claim run differs t r a b before c is extras at (Multi k) [] alt kinds (inr later) hold =
    inl (differ_bad kind v d claim run differs t r a b before c is extras at (kinds _ _ (inr (inl refl)) (inl refl))
    (subst (AllHold v) (sym (first_in later)) hold))

-- an alternative of these whose conditions hold wherever the keys tell the run
abbrev Found : (Key → Type 0) → Design → Claim → List Cycle → (ℕ → Bool) → List (List KeyLit) → Type 0
Found kind d claim run differs alts =
    (alt : List KeyLit) × In alt alts × ((v : Key → Bool) → ExtrasTold kind v d claim run differs → AllHold v alt)

found_differ : (kind : Key → Type 0) (d : Design) (claim : Claim) (run : List Cycle) (differs : ℕ → Bool) (t r : ℕ) (a b before c : Cycle)
    (alts : List (List KeyLit)) → IsHazyJudged d claim run differs → Moment claim run t r a b before c → kind (differ_key d (t + r))
    → In (lit true (differ_key d (t + r)) ∷ []) alts → MayGlitch d claim c → Found kind d claim run differs alts
found_differ kind d claim run differs t r a b before c alts is at has there glitch = (
  lit true (differ_key d (t + r)) ∷ [],
  there,
  λ v extras. only_holds v (differ_key d (t + r)) (extras.differ (t + r) c at.at_c has ∙ is.seen (t + r) c at.at_c glitch),
)

hazy_bad_alternative : (kind : Key → Type 0) (d : Design) (claim : Claim) (run : List Cycle) (differs : ℕ → Bool) (t r : ℕ) (a b before c : Cycle)
    → IsHazyJudged d claim run differs → Moment claim run t r a b before c → (k : Kind) (sets : List (List PinRef))
    → KindOfAll kind (hazard_alternatives k sets d (t + r)) → IsBadHazard k sets d claim before c → Found kind d claim run differs
    (hazard_alternatives k sets d (t + r))
hazy_bad_alternative kind d claim run differs t r a b before c is at False sets kinds bad =
    found_differ kind d claim run differs t r a b before c (hazard_alternatives False sets d (t + r)) is at (kinds _ _ (inl refl) (inl refl)) (inl refl) bad
hazy_bad_alternative kind d claim run differs t r a b before c is at (Multi k) (set ∷ sets) kinds bad =
    found_differ kind d claim run differs t r a b before c (hazard_alternatives (Multi k) (set ∷ sets) d (t + r)) is at
    (kinds _ _ (inl refl) (inl refl)) (inl refl) bad
hazy_bad_alternative kind d claim run differs t r a b before c is at (Multi k) [] kinds (inl glitch) =
    found_differ kind d claim run differs t r a b before c (hazard_alternatives (Multi k) [] d (t + r)) is at (kinds _ _ (inr (inl refl)) (inl refl))
    (inr (inl refl)) glitch
hazy_bad_alternative kind d claim run differs t r a b before c is at (Multi k) [] kinds (inr changes) = (
  lit true (change_key d (t + r)) ∷ [],
  inl refl,
  λ v extras. only_holds v (change_key d (t + r)) (extras.change (t + r) before c at.at_before at.at_c (kinds _ _ (inl refl) (inl refl))
      ∙ ne_xor (capture d claim.end c) (capture d claim.end before) changes),
)

hazy_at : (d : Design) (claim : Claim) (t r : ℕ) → claim.early ≡ false → claim.hazard ≡ true → alternatives_at d claim t r ≡ hazard_alternatives
    claim.kind claim.through d (t + r)
hazy_at d claim t r side mode =
    late_side d claim t r side
    ∙ cond-true claim.hazard (hazard_alternatives claim.kind claim.through d (t + r)) (plain_alternatives claim.kind claim.through d (t + r) r) mode

bad_hazy : (e h : Bool) (d : Design) (claim : Claim) (stale : Bool) (before c : Cycle) → e ≡ false → h ≡ true → IsBadOn e h d claim stale before c
    → IsBadHazard claim.kind claim.through d claim before c
bad_hazy false true d claim stale before c side mode bad = bad
bad_hazy false false d claim stale before c side mode bad = absurd cc
bad_hazy true h d claim stale before c side mode bad = absurd cc

hazy_bad : (e h : Bool) (d : Design) (claim : Claim) (stale : Bool) (before c : Cycle) → e ≡ false → h ≡ true
    → IsBadHazard claim.kind claim.through d claim before c → IsBadOn e h d claim stale before c
hazy_bad false true d claim stale before c side mode bad = bad
hazy_bad false false d claim stale before c side mode bad = absurd cc
hazy_bad true h d claim stale before c side mode bad = absurd cc

one_hazy : (k : Kind) (sets : List (List PinRef)) (d : Design) (c : ℕ) → (alt : List KeyLit) × In alt (hazard_alternatives k sets d c)
one_hazy False sets d c = (_, inl refl)
one_hazy (Multi k) [] d c = (_, inl refl)
one_hazy (Multi k) (set ∷ sets) d c = (_, inl refl)

-- the alternatives of such a claim of the late side decide
pub hazy_decided : (kind : Key → Type 0) (d : Design) (claim : Claim) (run : List Cycle) (differs : ℕ → Bool) → claim.early ≡ false
    → IsHazyJudged d claim run differs → IsDecided kind d claim run differs
hazy_decided kind d claim run differs side is =
    record {
      bad = λ v t r a b before c alt extras at ne kinds in_alts hold.
          let at_r = hazy_at d claim t r side is.hazard in
          hazy_bad claim.early claim.hazard d claim (start_bit claim.start a) before c side is.hazard
          (hazy_alternative_bad kind v d claim run differs t r a b before c is extras at claim.kind claim.through alt
          (subst (KindOfAll kind) at_r kinds) (subst (In alt) at_r in_alts) hold);
      good = λ t r a b before c at kinds bad.
          let at_r = hazy_at d claim t r side is.hazard in
          let found = hazy_bad_alternative kind d claim run differs t r a b before c is at claim.kind claim.through (subst (KindOfAll kind) at_r kinds)
          (bad_hazy claim.early claim.hazard d claim (start_bit claim.start a) before c side is.hazard bad) in
          (found.0, subst (In found.0) (sym at_r) found.1, found.2);
      some = λ t r.
          let one = one_hazy claim.kind claim.through d (t + r) in
          (one.0, subst (In one.0) (sym (hazy_at d claim t r side is.hazard)) one.1);
    }

-- each cycle of a run with its layers
abbrev pub AreHazy : Design → Claim → List (List Bool) → List Cycle → (ℕ → List (List Tern)) → Type 0
AreHazy d claim moved run rows =
    (t : ℕ) (c : Cycle) → slice_get run t ≡ Some c → IsHazy d claim moved c (rows t)

abbrev pub tern_in : Design → Claim → List (List Tern) → Option Cycle → Tern
tern_in d claim rows None = Zero
tern_in d claim rows (Some c) = tern_capture_over d claim.through rows claim.end c

abbrev pub tern_at : Design → Claim → List Cycle → (ℕ → List (List Tern)) → ℕ → Tern
tern_at d claim run rows t = tern_in d claim (rows t) (slice_get run t)

tern_now : (d : Design) (claim : Claim) (run : List Cycle) (rows : ℕ → List (List Tern)) (t : ℕ) (c : Cycle) → slice_get run t ≡ Some c
    → tern_at d claim run rows t ≡ tern_capture_over d claim.through (rows t) claim.end c
tern_now d claim run rows t c at = ap (λ (o : Option Cycle). tern_in d claim (rows t) o) at

-- where the ternary capture is unknown
abbrev pub unknown_at : Design → Claim → List Cycle → (ℕ → List (List Tern)) → ℕ → Bool
unknown_at d claim run rows t = may_one (tern_at d claim run rows t) && may_zero (tern_at d claim run rows t)

is_unknown : (x : Tern) → (may_one x && may_zero x) ≡ true → x ≡ Unknown
is_unknown Zero e = absurd cc
is_unknown One e = absurd cc
is_unknown Unknown e = refl

pub are_hazy_judged : (d : Design) (claim : Claim) (moved : List (List Bool)) (run : List Cycle) (rows : ℕ → List (List Tern)) → claim.hazard ≡ true
    → IsAskedOf d claim run → AreHazy d claim moved run rows → IsHazyJudged d claim run (unknown_at d claim run rows)
are_hazy_judged d claim moved run rows hazard is hazy =
    record {
      hazard = hazard;
      glitches = λ t c at e. ternary_capture d claim c Unknown is.sound
          (record {
            rows = rows t;
            layers = (hazy t c at).layers;
            capture = sym (tern_now d claim run rows t c at)
                ∙ is_unknown (tern_at d claim run rows t) e;
          });
      seen = λ t c at glitch.
          let mine : IsTernaryCapture d claim c (tern_at d claim run rows t) =
          ternary_capture d claim c (tern_at d claim run rows t) is.sound
          (record { rows = rows t; layers = (hazy t c at).layers; capture = sym (tern_now d claim run rows t c at) }) in
          ap (λ (x : Tern). may_one x && may_zero x) (ternary_once d claim c (tern_at d claim run rows t) Unknown is.sound is.end_in mine glitch);
    }

hazy_differ : (d : Design) (claim : Claim) (moved : List (List Bool)) (t : ℕ) → claim.hazard ≡ true → differ_definition d claim moved t ≡ both
    (differ_key d t) (late_capture_lit d claim moved t 0 claim.end) (late_capture_lit d claim moved t 1 claim.end)
hazy_differ d claim moved t mode = by_mode _ claim.hazard mode
  where
    by_mode : (x : Definition) (h : Bool) → h ≡ true → cond h (both (differ_key d t) (late_capture_lit d claim moved t 0 claim.end)
        (late_capture_lit d claim moved t 1 claim.end)) x ≡ both (differ_key d t) (late_capture_lit d claim moved t 0 claim.end)
        (late_capture_lit d claim moved t 1 claim.end)
    by_mode x true e = refl
    by_mode x false e = absurd cc

-- the definitions of a claim where hazards count tell in which cycles the ternary capture is unknown
pub hazy_tells : (coding : Coding) (kind : Key → Type 0) (v : Key → Bool) (d : Design) (claim : Claim) (moved : List (List Bool)) (run : List Cycle)
    (rows : ℕ → List (List Tern)) → IsCoding coding → claim.hazard ≡ true → IsAskedOf d claim run → AreHazy d claim moved run rows
    → TellsDiffer coding kind v d claim moved run (unknown_at d claim run rows)
hazy_tells coding kind v d claim moved run rows coded hazard is hazy told part t c at has =
    let lt = slice_get_within run t c at in
    let forces = part t lt in
    let tell = layers_may coding kind v d claim moved t c (rows t) coded (hazy t c at) (told.nets t c at) (layers_of coding kind v d claim moved t forces) in
    let ends = end_may coding kind v d claim moved t c (rows t) coded (hazy t c at) claim.end is.end_in tell
    (λ r small own. told.bits t (omega arith) r small own ∙ now_bits d run t c r at) (ends_of coding kind v d claim moved t forces) in
    let x = tern_at d claim run rows t in
    let told_x : EndTold = subst (λ (y : Tern). (kind (late_capture_lit d claim moved t 0 claim.end).key
    → lit_value v (late_capture_lit d claim moved t 0 claim.end) ≡ may_one y)
    × (kind (late_capture_lit d claim moved t 1 claim.end).key → lit_value v (late_capture_lit d claim moved t 1 claim.end) ≡ may_zero y))
    (sym (tern_now d claim run rows t c at)) ends in
    both_told kind v (extra_definitions d claim moved t) (differ_key d t) (late_capture_lit d claim moved t 0 claim.end)
    (late_capture_lit d claim moved t 1 claim.end) (may_one x) (may_zero x) (extras_of coding kind v d claim moved t forces)
    (inr (inr (inl (hazy_differ d claim moved t hazard)))) told_x.0 told_x.1 has
  where
    EndTold : Type 0
    EndTold = (kind (late_capture_lit d claim moved t 0 claim.end).key → lit_value v (late_capture_lit d claim moved t 0 claim.end) ≡ may_one
        (tern_at d claim run rows t)) × (kind (late_capture_lit d claim moved t 1 claim.end).key
        → lit_value v (late_capture_lit d claim moved t 1 claim.end) ≡ may_zero (tern_at d claim run rows t))

-- the keys of the layers, read off layers in which the start is unknown
abbrev pub hazy_layer : Design → Claim → List Cycle → (ℕ → List (List Tern)) → Key → ℕ → Bool
hazy_layer d claim run rows k l =
    if nat_lt k.point d.nets then rail_value k.rail (net_at Zero (rows k.cycle) l k.point) else rail_value k.rail (tern_at d claim run rows k.cycle)

abbrev pub hazy_story : Design → Claim → List Cycle → (ℕ → List (List Tern)) → (ℕ → Bool) → Key → Bool
hazy_story d claim run rows bad = story d claim run (hazy_layer d claim run rows) (unknown_at d claim run rows) bad

story_rails : (d : Design) (claim : Claim) (run : List Cycle) (rows : ℕ → List (List Tern)) (bad : ℕ → Bool) (t : ℕ)
    → SaysRails (hazy_story d claim run rows bad) d claim t (rows t)
story_rails d claim run rows bad t =
    record {
      high = λ l n le low. cond-true (nat_lt n d.nets) (may_one (net_at Zero (rows t) l n)) (may_one (tern_at d claim run rows t)) (lt-ltb n d.nets low);
      low = λ l n le low. cond-true (nat_lt n d.nets) (may_zero (net_at Zero (rows t) l n)) (may_zero (tern_at d claim run rows t)) (lt-ltb n d.nets low);
    }

story_end : (d : Design) (claim : Claim) (run : List Cycle) (rows : ℕ → List (List Tern)) (bad : ℕ → Bool) (t : ℕ) (c : Cycle)
    → slice_get run t ≡ Some c → SaysEnd (hazy_story d claim run rows bad) d claim t (tern_capture_over d claim.through (rows t) claim.end c)
story_end d claim run rows bad t c at =
    let p = d.nets + length d.regs in
    record {
      high =
          ap (λ l. hazy_story d claim run rows bad (key t l 0 p)) (add-one (length claim.through))
          ∙ (cond-false (nat_lt p d.nets) (may_one (net_at Zero (rows t) (length claim.through) p)) (may_one (tern_at d claim run rows t))
          (le-ltb p d.nets (omega arith)) ∙ ap may_one (tern_now d claim run rows t c at));
      low =
          ap (λ l. hazy_story d claim run rows bad (key t l 1 p)) (add-one (length claim.through))
          ∙ (cond-false (nat_lt p d.nets) (may_zero (net_at Zero (rows t) (length claim.through) p)) (may_zero (tern_at d claim run rows t))
          (le-ltb p d.nets (omega arith)) ∙ ap may_zero (tern_now d claim run rows t c at));
    }

-- the keys of such layers make all definitions true
pub hazy_says : (coding : Coding) (d : Design) (claim : Claim) (moved : List (List Bool)) (run : List Cycle) (rows : ℕ → List (List Tern))
    → IsCoding coding → claim.hazard ≡ true → IsAskedOf d claim run → AreHazy d claim moved run rows → SaysLate coding d claim moved run
    (hazy_layer d claim run rows) (unknown_at d claim run rows)
hazy_says coding d claim moved run rows coded hazard is hazy =
    record {
      layers = λ bad t c at l le def has.
          layer_hazy_true coding (v bad) d claim moved t c (rows t) coded (hazy t c at) ((told bad).nets t c at) (story_rails d claim run rows bad t)
          l le def has;
      ends = λ bad t c at def has.
          end_hazy_true coding (v bad) d claim moved t c (rows t) coded (hazy t c at) claim.end is.end_in (tell bad t c at)
          (λ r small. (meaning_says d run (others d claim run (hazy_layer d claim run rows) (unknown_at d claim run rows) bad)).bits t
          (within t c at) r small ∙ now_bits d run t c r at)
          (story_end d claim run rows bad t c at) def has;
      differ = λ bad t c at.
          let x = tern_capture_over d claim.through (rows t) claim.end c in
          let ends = end_may_said (v bad) d claim moved t c (rows t) (hazy t c at) claim.end is.end_in (tell bad t c at)
          (story_end d claim run rows bad t c at) in
          subst (λ (y : Definition). AllTrue (v bad) y.clauses) (sym (hazy_differ d claim moved t hazard))
          (both_true (v bad) (differ_key d t) (late_capture_lit d claim moved t 0 claim.end) (late_capture_lit d claim moved t 1 claim.end)
          (may_one x) (may_zero x) (ends.0 tt) (ends.1 tt)
          (story_differ d claim run (hazy_layer d claim run rows) (unknown_at d claim run rows) bad t ∙ ap (λ (y : Tern). may_one y && may_zero y)
          (tern_now d claim run rows t c at)));
    }
  where
    v : (ℕ → Bool) → Key → Bool
    v bad = hazy_story d claim run rows bad

    told : (bad : ℕ → Bool) → Told AnyKey (hazy_story d claim run rows bad) d run
    told bad = said_told (hazy_story d claim run rows bad) d run is.linked
        (meaning_says d run (others d claim run (hazy_layer d claim run rows) (unknown_at d claim run rows) bad))

    within : (t : ℕ) (c : Cycle) → slice_get run t ≡ Some c → t ≤ length run
    within t c at = let lt = slice_get_within run t c at in omega arith

    tell : (bad : ℕ → Bool) (t : ℕ) (c : Cycle) → slice_get run t ≡ Some c → (l : ℕ) → l ≤ length claim.through → (n : ℕ) → n < d.nets
        → LayerMay AnyKey (hazy_story d claim run rows bad) d claim moved t (rows t) l n
    tell bad t c at = layers_may_said (hazy_story d claim run rows bad) d claim moved t c (rows t) (hazy t c at) ((told bad).nets t c at)
        (story_rails d claim run rows bad t)
