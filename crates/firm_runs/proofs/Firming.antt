-- What three values show firm is firm.
use Rattle.std.proofs.Common.{◌≡◌, ◌≢◌, ℕ, zero, suc, ◌+◌, ◌-◌, ◌<◌, Bool, true, false, not, ◌&&◌, ◌||◌, if◌then◌else◌, List, [], ◌∷◌, length}
use Rattle.std.proofs.Common.{get_or, Some, refl, ap, sym, ◌∙◌, subst, arith, inl, inr, add-one}
use Rattle.std.specs.Prelude.{All, slice_get, nat_lt}
use Rattle.std.specs.List.{list_any}
use Rattle.std.proofs.lemmas.Bool.{eqb-true}
use Rattle.std.proofs.lemmas.Option.{slice_get_within, slice_get-get_or, same_Some}
use Rattle.net_model.specs.Netlist.{IsSound}
use Rattle.net_model.specs.Fits.{Fits, IsSideFit, IsStartIn}
use Rattle.net_model.specs.Held.{sets}
use Rattle.net_model.specs.Cycles.{bit_at, capture, AreFixedKept, AreResets, HasFixed, IsSettled, IsLinked}
use Rattle.net_model.specs.Stimuli.{IsLawful}
use Rattle.net_model.specs.Judge.{judged_by, start_bit, DiffersLate, Changes, IsBadPlain, IsBadOn, IsViolatedAt}
use Rattle.net_model.specs.Ternary.{tern_of, Completes}
use Rattle.net_model.proofs.Settling.{All-at}
use Rattle.ternary_sim.specs.Hazards.{plain_of, hazard_of}
use Rattle.ternary_sim.proofs.Steady.{violated_too}
use Rattle.net_model.specs.declared.netlist.Design.{Design}
use Rattle.net_model.specs.declared.netlist.Fixed.{Fixed}
use Rattle.net_model.specs.declared.cycles.Cycle.{Cycle}
use Rattle.net_model.specs.declared.cycles.Stimulus.{Stimulus}
use Rattle.net_model.specs.declared.claims.Claim.{Claim}
use Rattle.net_model.specs.declared.claims.PinRef.{PinRef}
use Rattle.net_model.specs.declared.claims.End.TheVariants.{Reg as RegEnd}
use Rattle.sdcv_base.specs.declared.kinds.Kind.{Kind}
use Rattle.sdcv_base.specs.declared.kinds.Kind.TheVariants.{False, Multi}
use Rattle.net_model.specs.declared.terns.Tern.{Tern}
use Rattle.net_model.specs.declared.terns.Tern.TheVariants.{Unknown}
use Rattle.firm_runs.specs.Frees.{is_free, is_given, known_bit}
use Rattle.firm_runs.specs.Cycles3.{tern_at, start_value, capture3, IsSettled3, IsKnownRun}
use Rattle.firm_runs.specs.Firm.{IsRunBesides, IsFirm, AreApart, DiffersLate3, Changes3, IsLateBad3, IsBad3, IsKnownViolated, IsShownFirm}
use Rattle.firm_runs.proofs.Completing3.{own_completes, completes_known, true_or}
use Rattle.firm_runs.proofs.Settled3.{FitSources, start_fits, capture_fits}
use Rattle.firm_runs.proofs.Late3.{late_fits}
use Rattle.firm_runs.specs.declared.free_bits.FreeBits.{FreeBits}
use Rattle.firm_runs.specs.declared.cycles.Cycle3.{Cycle3}

-- an input that is set has a setting
setting_of : (settings : List Fixed) (i : ℕ) → list_any (sets i) settings ≡ true → (k : ℕ) × (s : Fixed) × (slice_get settings k ≡ Some s) × (s.input ≡ i)
setting_of [] i is = absurd (no is)
  where
    no : false ≡ true → ⊥
    no e = cc
setting_of (s ∷ settings) i is =
    elim (true_or (sets i s)) [
      | inl here ↦ (0, s, refl, eqb-true s.input i here)
      | inr apart ↦
          let later : list_any (sets i) settings ≡ true = ap (λ (b : Bool). b || list_any (sets i) settings) (sym apart) ∙ is in
          let more = setting_of settings i later in (suc more.0, more.1, more.2, more.3)
    ]

-- where settings give an input's bit, it is the same in both
set_same : (settings : List Fixed) (bit : Fixed → Bool) (i : ℕ) (a b : List Bool) → list_any (sets i) settings ≡ true
    → All (λ (f : Fixed). bit_at a f.input ≡ bit f) settings → All (λ (f : Fixed). bit_at b f.input ≡ bit f) settings → bit_at a i ≡ bit_at b i
set_same settings bit i a b is left right =
    let s = setting_of settings i is in
    subst (λ (j : ℕ). bit_at a j ≡ bit_at b j) s.3
    (All-at (λ (f : Fixed). bit_at a f.input ≡ bit f) settings s.0 s.1 s.2 left
    ∙ sym (All-at (λ (f : Fixed). bit_at b f.input ≡ bit f) settings s.0 s.1 s.2 right))

-- a bit that is given is the same in the stimulus and in the run
given_same : (d : Design) (t i : ℕ) (a b : List Bool) → is_given d t i ≡ true → AreFixedKept d a → AreFixedKept d b
    → AreResets d (nat_lt t d.reset_len) a → AreResets d (nat_lt t d.reset_len) b → bit_at a i ≡ bit_at b i
given_same d t i a b given fixed_a fixed_b reset_a reset_b =
    elim (true_or (list_any (sets i) d.fixed)) [
      | inl fixed ↦ set_same d.fixed (λ (f : Fixed). f.value) i a b fixed fixed_a fixed_b
      | inr free ↦ set_same d.resets (λ (f : Fixed). if nat_lt t d.reset_len then f.value else not f.value) i a b
          (and_right (nat_lt t d.reset_len) (list_any (sets i) d.resets) (or_right (list_any (sets i) d.fixed) _ free given)) reset_a reset_b
    ]
  where
    or_right : (x y : Bool) → x ≡ false → (x || y) ≡ true → y ≡ true
    or_right true y e is = cc
    or_right false y e is = is

    and_right : (x y : Bool) → (x && y) ≡ true → y ≡ true
    and_right true y is = is
    and_right false y is = cc

-- what is known of an input's bit is so in each such run
known_fits : (d : Design) (free : FreeBits) (t i : ℕ) (bit other : Bool) → (is_free free i ≡ false → other ≡ bit) → (is_given d t i ≡ true → other ≡ bit)
    → Completes (known_bit d free t i bit) other
known_fits d free t i bit other apart given = by_case (is_free free i) (is_given d t i) apart given
  where
    same : other ≡ bit → Completes (tern_of bit) other
    same e = subst (Completes (tern_of bit)) (sym e) (own_completes bit)

    by_case : (x y : Bool) → (x ≡ false → other ≡ bit) → (y ≡ true → other ≡ bit) → Completes (if x && not y then Unknown else tern_of bit) other
    by_case true true p q = same (q refl)
    by_case true false p q = tt
    by_case false y p q = same (p refl)

ins_fit : (d : Design) (free : FreeBits) (s : Stimulus) (known : List Cycle3) (run : List Cycle) (t : ℕ) (c3 : Cycle3) (c : Cycle) → IsLawful d s
    → IsKnownRun d free s known → IsRunBesides d free s run → slice_get known t ≡ Some c3 → slice_get run t ≡ Some c → (i : ℕ) → i < length d.inputs
    → Completes (tern_at c3.ins i) (bit_at c.ins i)
ins_fit d free s known run t c3 c lawful is like known_at at i low =
    let within = slice_get_within known t c3 known_at in
    let ins = get_or s.inputs t [] in
    let row : slice_get s.inputs t ≡ Some ins = slice_get-get_or s.inputs t [] (omega (arith, is.count)) in
    let law = lawful.inputs t ins row in
    let fixed : HasFixed d c = All-at (HasFixed d) run t c at like.from_reset.linked.fixed in
    subst (λ (v : Tern). Completes v (bit_at c.ins i)) (sym ((is.inputs t c3 ins known_at row).each i low))
    (known_fits d free t i (bit_at ins i) (bit_at c.ins i) (λ apart. like.inputs t c ins i at row low apart)
    (λ given. given_same d t i c.ins ins given fixed law.fixed (like.from_reset.resets t c at) law.resets))

-- the bits of each such run complete what is known
pub run_fits : (d : Design) (free : FreeBits) (s : Stimulus) (known : List Cycle3) (run : List Cycle) → IsSound d → IsLawful d s
    → IsKnownRun d free s known → IsRunBesides d free s run → (t : ℕ) (c3 : Cycle3) (c : Cycle) → slice_get known t ≡ Some c3 → slice_get run t ≡ Some c
    → FitSources d c3 c
run_fits d free s known run sound lawful is like zero c3 c known_at at =
    record {
      bits = λ r low.
          subst (λ (v : Tern). Completes v (bit_at c.bits r)) (sym ((is.state c3 known_at).each r low))
          (subst (λ (row : List Bool). Completes (tern_of (bit_at s.state r)) (bit_at row r)) (sym (like.state c at)) (own_completes (bit_at s.state r)));
      ins = ins_fit d free s known run zero c3 c lawful is like known_at at;
    }
run_fits d free s known run sound lawful is like (suc t) c3 c known_at at =
    let low = slice_get_within known (suc t) c3 known_at in
    let less = slice_get_within run (suc t) c at in
    let x3 = get_or known t c3 in
    let x = get_or run t c in
    let x3_at : slice_get known t ≡ Some x3 = slice_get-get_or known t c3 (omega arith) in
    let x_at : slice_get run t ≡ Some x = slice_get-get_or run t c (omega arith) in
    let before = run_fits d free s known run sound lawful is like t x3 x x3_at x_at in
    let after3 : slice_get known (t + 1) ≡ Some c3 = subst (λ (i : ℕ). slice_get known i ≡ Some c3) (sym (add-one t)) known_at in
    let after_at : slice_get run (t + 1) ≡ Some c = subst (λ (i : ℕ). slice_get run i ≡ Some c) (sym (add-one t)) at in
    record {
      bits = λ r small.
          subst (λ (v : Tern). Completes v (bit_at c.bits r)) (sym ((is.next t x3 c3 x3_at after3).each r small))
          (subst (Completes (capture3 d (RegEnd r) x3)) (sym (like.from_reset.linked.next t x c x_at after_at r small))
          (capture_fits d (RegEnd r) x3 x sound small (All-at (IsSettled3 d) known t x3 x3_at is.settled)
          (All-at (IsSettled d) run t x x_at like.from_reset.linked.settled) before));
      ins = ins_fit d free s known run (suc t) c3 c lawful is like known_at at;
    }

-- values that are known to differ differ
apart_differ : (x y : Tern) (p q : Bool) → AreApart x y → Completes x p → Completes y q → p ≢ q
apart_differ x y p q (b, left, right) fits also same =
    not_same b
    (sym (completes_known b p (subst (λ (v : Tern). Completes v p) left fits))
    ∙ (same ∙ completes_known (not b) q (subst (λ (v : Tern). Completes v q) right also)))
  where
    not_same : (z : Bool) → z ≢ not z
    not_same true e = cc
    not_same false e = cc

-- a settled cycle of what is known, and the same of a run
pub record Pair (d : Design) (c3 : Cycle3) (c : Cycle) : Type 0 where
  pub known : IsSettled3 d c3
  pub settled : IsSettled d c
  pub fits : FitSources d c3 c

differs_late : (d : Design) (claim : Claim) (c3 : Cycle3) (c : Cycle) (stale : Bool) → IsSound d → Fits d claim → Pair d c3 c
    → DiffersLate3 d claim c3 stale → DiffersLate d (plain_of claim) c stale
differs_late d claim c3 c stale sound fits pair (late3, is, apart) =
    let late = late_fits d claim c3 c stale late3 sound fits pair.known pair.settled pair.fits is in (
      late.0,
      record { rows = late.1.rows; layers = late.1.layers; capture = late.1.capture },
      apart_differ late3 (capture3 d claim.end c3) late.0 (capture d claim.end c) apart late.2
          (capture_fits d claim.end c3 c sound fits.end_ pair.known pair.settled pair.fits),
    )

changes : (d : Design) (claim : Claim) (before3 c3 : Cycle3) (before c : Cycle) → IsSound d → Fits d claim → Pair d before3 before → Pair d c3 c
    → Changes3 d claim before3 c3 → Changes d (plain_of claim) before c
changes d claim before3 c3 before c sound fits first pair apart =
    apart_differ (capture3 d claim.end c3) (capture3 d claim.end before3) (capture d claim.end c) (capture d claim.end before) apart
    (capture_fits d claim.end c3 c sound fits.end_ pair.known pair.settled pair.fits)
    (capture_fits d claim.end before3 before sound fits.end_ first.known first.settled first.fits)

late_bad : (kind : Kind) (through : List (List PinRef)) (d : Design) (claim : Claim) (stale : Bool) (before3 c3 : Cycle3) (before c : Cycle) → IsSound d
    → Fits d claim → Pair d before3 before → Pair d c3 c → IsLateBad3 kind through d claim stale before3 c3
    → IsBadPlain kind through d (plain_of claim) stale before c
late_bad False through d claim stale before3 c3 before c sound fits first pair bad = differs_late d claim c3 c stale sound fits pair bad
late_bad (Multi k) [] d claim stale before3 c3 before c sound fits first pair bad = changes d claim before3 c3 before c sound fits first pair bad
late_bad (Multi k) (set ∷ through) d claim stale before3 c3 before c sound fits first pair bad = (
  differs_late d claim c3 c stale sound fits pair bad.0,
  changes d claim before3 c3 before c sound fits first pair bad.1,
)

-- what is known to be bad is bad, where hazards don't count
bad_plain : (early : Bool) (d : Design) (claim : Claim) (stale : Bool) (before3 c3 : Cycle3) (before c : Cycle) → IsSound d → Fits d claim
    → Pair d before3 before → Pair d c3 c → (early ≡ true → start_bit claim.start c ≡ not stale) → IsBad3 early d claim stale before3 c3
    → IsBadOn early false d (plain_of claim) stale before c
bad_plain false d claim stale before3 c3 before c sound fits first pair shows bad =
    late_bad claim.kind claim.through d claim stale before3 c3 before c sound fits first pair bad
bad_plain true d claim stale before3 c3 before c sound fits first pair shows bad =
    subst (DiffersLate d (plain_of claim) before) (sym (shows refl)) (differs_late d claim before3 before (not stale) sound fits first bad)

-- a claim of the early side judges the toggle alone
early_first : (early : Bool) (kind : Kind) (lag r : ℕ) → IsSideFit early kind lag → early ≡ true → r < judged_by kind lag → r ≡ 0
early_first true False lag r fit e judged = omega (arith, fit)
early_first true (Multi k) lag r fit e judged = absurd fit
early_first false kind lag r fit e judged = cc

-- the cycle of a run that completes a cycle of what is known
pub cycle_of : (d : Design) (free : FreeBits) (s : Stimulus) (known : List Cycle3) (run : List Cycle) → IsSound d → IsLawful d s
    → IsKnownRun d free s known → IsRunBesides d free s run → (t : ℕ) (c3 : Cycle3) → slice_get known t ≡ Some c3
    → (c : Cycle) × (slice_get run t ≡ Some c) × Pair d c3 c
cycle_of d free s known run sound lawful is like t c3 at3 =
    let low = slice_get_within known t c3 at3 in
    let none : Cycle = record { bits = []; ins = []; nets = [] } in
    let c = get_or run t none in
    let at : slice_get run t ≡ Some c = slice_get-get_or run t none (omega (arith, is.count, like.count)) in (
      c,
      at,
      record {
        known = All-at (IsSettled3 d) known t c3 at3 is.settled;
        settled = All-at (IsSettled d) run t c at like.from_reset.linked.settled;
        fits = run_fits d free s known run sound lawful is like t c3 c at3 at;
      },
    )

-- a known start shows its bit
known_start : (d : Design) (claim : Claim) (c3 : Cycle3) (c : Cycle) (b : Bool) → IsStartIn d claim.start → Pair d c3 c
    → start_value claim.start c3 ≡ tern_of b → start_bit claim.start c ≡ b
known_start d claim c3 c b is pair known =
    completes_known b (start_bit claim.start c) (subst (λ (v : Tern). Completes v (start_bit claim.start c)) known (start_fits d c3 c claim.start is pair.fits))

not_stale : (b stale : Bool) → b ≡ not stale → b ≢ stale
not_stale true true e f = cc
not_stale true false e f = cc
not_stale false true e f = cc
not_stale false false e f = cc

-- what is known to be violated is violated in each such run, where hazards don't count
plain_violated : (d : Design) (free : FreeBits) (claim : Claim) (s : Stimulus) (known : List Cycle3) (run : List Cycle) (t : ℕ) → IsSound d → Fits d claim
    → IsLawful d s → IsKnownRun d free s known → IsRunBesides d free s run → IsKnownViolated d claim known t
    → IsViolatedAt d.reset_len d (plain_of claim) run t
plain_violated d free claim s known run t sound fits lawful is like v =
    let of = cycle_of d free s known run sound lawful is like in
    let toggles = v.toggles in
    let was = of (t - 1) toggles.before toggles.before_at in
    let now = of t toggles.now toggles.now_at in
    let before = of (t + v.r - 1) v.before v.before_at in
    let c = of (t + v.r) v.c v.c_at in
    let stale_is = known_start d claim toggles.before was.0 v.stale fits.start was.2 toggles.change.stale_is in
    let now_is = known_start d claim toggles.now now.0 (not v.stale) fits.start now.2 toggles.change.differs in
    record {
      stale = v.stale;
      toggles =
          record {
            before = was.0;
            now = now.0;
            before_at = was.1;
            now_at = now.1;
            is_live = toggles.is_live;
            stale_is = stale_is;
            differs = not_stale (start_bit claim.start now.0) v.stale now_is;
            edge_is = toggles.change.edge_is;
          };
      r = v.r;
      judged = v.judged;
      before = before.0;
      c = c.0;
      before_at = before.1;
      c_at = c.1;
      bad =
          bad_plain claim.early d claim v.stale v.before v.c before.0 c.0 sound fits before.2 c.2
          (λ e.
          let first : v.r ≡ 0 = early_first claim.early claim.kind claim.lag v.r fits.side e v.judged in
          let here : t + v.r ≡ t = omega arith in
          let same : now.0 ≡ c.0 = same_Some now.0 c.0 (sym now.1 ∙ subst (λ (i : ℕ). slice_get run i ≡ Some c.0) here c.1) in
          subst (λ (x : Cycle). start_bit claim.start x ≡ not v.stale) same now_is)
          v.bad;
    }

-- what violates the claim without hazards violates it
with_hazard : (h : Bool) (d : Design) (claim : Claim) (run : List Cycle) (t : ℕ) → claim.hazard ≡ h → IsSound d → Fits d claim → IsLinked d run
    → IsViolatedAt d.reset_len d (plain_of claim) run t → IsViolatedAt d.reset_len d claim run t
with_hazard false d claim run t e sound fits linked v =
    let same : plain_of claim ≡ claim = ap (λ (b : Bool). record claim { hazard = b }) (sym e) in
    subst (λ (x : Claim). IsViolatedAt d.reset_len d x run t) same v
with_hazard true d claim run t e sound fits linked v =
    let same : hazard_of claim ≡ claim = ap (λ (b : Bool). record claim { hazard = b }) (sym e) in
    subst (λ (x : Claim). IsViolatedAt d.reset_len d x run t) same (violated_too d claim d.reset_len run t sound fits linked v)

-- what three values show firm is firm
pub firm_shown : (d : Design) (free : FreeBits) (claim : Claim) (s : Stimulus) (t : ℕ) → IsSound d → Fits d claim → IsLawful d s
    → IsShownFirm d free claim s t → IsFirm d free claim s t
firm_shown d free claim s t sound fits lawful shown =
    record {
      violated = λ run like.
          with_hazard claim.hazard d claim run t refl sound fits like.from_reset.linked
          (plain_violated d free claim s shown.run run t sound fits lawful shown.known like shown.violated);
      no_sink = shown.no_sink;
    }
