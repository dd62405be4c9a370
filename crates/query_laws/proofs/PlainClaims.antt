-- Plain claims: the layers in which the start shows the other bit.
use Rattle.std.proofs.Common.{◌≡◌, ℕ, ◌+◌, ◌<◌, ◌≤◌, Bool, true, false, cond, List, ◌++◌, length, Option, Some, None, refl, ap, sym, ◌∙◌, arith, inl}
use Rattle.std.proofs.Common.{inr, subst, add-one}
use Rattle.std.specs.Prelude.{slice_get, slice_index, flat_map, if◌then◌else◌, nat_lt}
use Rattle.std.proofs.lemmas.Bool.{cond-true, cond-false, lt-ltb, le-ltb}
use Rattle.std.proofs.lemmas.Option.{slice_get_within}
use Rattle.net_model.specs.Form.{xor}
use Rattle.net_model.specs.Fits.{IsEndIn}
use Rattle.net_model.specs.Cycles.{capture}
use Rattle.net_model.specs.Layers.{net_at, capture_over, pin_reads}
use Rattle.net_model.specs.declared.netlist.Design.{Design}
use Rattle.net_model.specs.declared.cycles.Cycle.{Cycle}
use Rattle.net_model.specs.declared.claims.Claim.{Claim}
use Rattle.net_model.specs.declared.claims.PinRef.TheVariants.{OutPort}
use Rattle.net_model.specs.declared.claims.End.{End}
use Rattle.net_model.specs.declared.claims.End.TheVariants.{Reg as RegEnd, Output as OutputEnd}
use Rattle.query_model.specs.Keys.{key, AllTrue, below}
use Rattle.query_model.specs.Reads.{read_pin}
use Rattle.query_model.specs.Defined.{Definition, exclusive, layer_definitions, end_definition, extra_definitions, claim_definitions}
use Rattle.query_model.specs.Defined.{differ_definition, differ_key, late_key, late_capture_lit, capture_lit}
use Rattle.net_model.proofs.Members.{In-left, In-right, In-flat}
use Rattle.query_model.proofs.Members.{In-below}
use Rattle.query_model.proofs.Told.{LitTells}
use Rattle.query_model.proofs.Runs.{now_bits, Told, CodingCovers, Forces, AnyKey}
use Rattle.query_model.proofs.Needs.{forces_some}
use Rattle.query_laws.proofs.Meaning.{meaning_says}
use Rattle.query_laws.proofs.Late.{IsFlipped, LayerTells, pin_tells}
use Rattle.query_laws.proofs.LateGates.{SaysLayers, layers_told, layers_said, layer_true, end_told, end_true}
use Rattle.query_laws.proofs.Extras.{capture_told, exclusive_told, exclusive_true, both_same}
use Rattle.query_laws.proofs.Judged.{IsJudged}
use Rattle.query_laws.proofs.Story.{others, story, story_differ, said_told, capture_in_option}
use Rattle.query_laws.proofs.Violated.{IsAskedOf, TellsDiffer, SaysLate}
use Rattle.query_model.specs.declared.keys.Key.{Key}
use Rattle.query_model.specs.declared.keys.Coding.{Coding}

-- each cycle of a run with its flipped layers
abbrev pub AreFlipped : Design → Claim → List (List Bool) → List Cycle → (ℕ → List (List Bool)) → Type 0
AreFlipped d claim moved run rows =
    (t : ℕ) (c : Cycle) → slice_get run t ≡ Some c → IsFlipped d claim moved c (rows t)

abbrev pub late_in : Design → Claim → List (List Bool) → Option Cycle → Bool
late_in d claim rows None = false
late_in d claim rows (Some c) = capture_over d claim.through rows claim.end c

abbrev pub late_at : Design → Claim → List Cycle → (ℕ → List (List Bool)) → ℕ → Bool
late_at d claim run rows t = late_in d claim (rows t) (slice_get run t)

pub late_now : (d : Design) (claim : Claim) (run : List Cycle) (rows : ℕ → List (List Bool)) (t : ℕ) (c : Cycle) → slice_get run t ≡ Some c
    → late_at d claim run rows t ≡ capture_over d claim.through (rows t) claim.end c
late_now d claim run rows t c at = ap (λ (o : Option Cycle). late_in d claim (rows t) o) at

-- where the late capture differs
abbrev pub differs_late_at : Design → Claim → List Cycle → (ℕ → List (List Bool)) → ℕ → Bool
differs_late_at d claim run rows t = xor (late_at d claim run rows t) (capture_in_option d claim (slice_get run t))

differs_now : (d : Design) (claim : Claim) (run : List Cycle) (rows : ℕ → List (List Bool)) (t : ℕ) (c : Cycle) → slice_get run t ≡ Some c
    → differs_late_at d claim run rows t ≡ xor (late_at d claim run rows t) (capture d claim.end c)
differs_now d claim run rows t c at = ap (λ (o : Option Cycle). xor (late_at d claim run rows t) (capture_in_option d claim o)) at

pub are_judged : (d : Design) (claim : Claim) (moved : List (List Bool)) (run : List Cycle) (rows : ℕ → List (List Bool)) → claim.hazard ≡ false
    → IsAskedOf d claim run → AreFlipped d claim moved run rows → IsJudged d claim run (late_at d claim run rows) (differs_late_at d claim run rows)
are_judged d claim moved run rows plain is flips =
    record {
      sound = is.sound;
      linked = is.linked;
      plain = plain;
      start_in = is.start_in;
      end_in = is.end_in;
      lates = λ t c at. record { rows = rows t; layers = (flips t c at).layers; capture = sym (late_now d claim run rows t c at) };
      differs_are = differs_now d claim run rows;
    }

plain_differ : (d : Design) (claim : Claim) (moved : List (List Bool)) (t : ℕ) → claim.hazard ≡ false → differ_definition d claim moved t ≡ exclusive
    (differ_key d t) (late_capture_lit d claim moved t 0 claim.end) (capture_lit d claim.end t)
plain_differ d claim moved t mode = by_mode _ claim.hazard mode where
  by_mode : (x : Definition) (h : Bool) → h ≡ false → cond h x (exclusive (differ_key d t) (late_capture_lit d claim moved t 0 claim.end)
      (capture_lit d claim.end t)) ≡ exclusive (differ_key d t) (late_capture_lit d claim moved t 0 claim.end) (capture_lit d claim.end t)
  by_mode x false e = refl
  by_mode x true e = absurd cc

-- the definitions of the layers and of the end, among those of a claim in a cycle
pub layers_of : (coding : Coding) (kind : Key → Type 0) (v : Key → Bool) (d : Design) (claim : Claim) (moved : List (List Bool)) (t : ℕ)
    → Forces kind v (claim_definitions coding d claim moved t) → (l : ℕ) → l ≤ length claim.through
    → Forces kind v (layer_definitions coding d claim moved t l)
layers_of coding kind v d claim moved t forces l le =
    forces_some kind v (claim_definitions coding d claim moved t) (layer_definitions coding d claim moved t l)
    (λ def has. In-left def (flat_map (layer_definitions coding d claim moved t) (below (length claim.through + 1)))
    (end_definition coding d claim moved t claim.end ++ extra_definitions d claim moved t)
    (In-flat (layer_definitions coding d claim moved t) def l (below (length claim.through + 1)) (In-below (length claim.through + 1) l (omega arith)) has))
    forces

pub ends_of : (coding : Coding) (kind : Key → Type 0) (v : Key → Bool) (d : Design) (claim : Claim) (moved : List (List Bool)) (t : ℕ)
    → Forces kind v (claim_definitions coding d claim moved t) → Forces kind v (end_definition coding d claim moved t claim.end)
ends_of coding kind v d claim moved t forces =
    forces_some kind v (claim_definitions coding d claim moved t) (end_definition coding d claim moved t claim.end)
    (λ def has. In-right def (flat_map (layer_definitions coding d claim moved t) (below (length claim.through + 1)))
    (end_definition coding d claim moved t claim.end ++ extra_definitions d claim moved t)
    (In-left def (end_definition coding d claim moved t claim.end) (extra_definitions d claim moved t) has))
    forces

pub extras_of : (coding : Coding) (kind : Key → Type 0) (v : Key → Bool) (d : Design) (claim : Claim) (moved : List (List Bool)) (t : ℕ)
    → Forces kind v (claim_definitions coding d claim moved t) → Forces kind v (extra_definitions d claim moved t)
extras_of coding kind v d claim moved t forces =
    forces_some kind v (claim_definitions coding d claim moved t) (extra_definitions d claim moved t)
    (λ def has. In-right def (flat_map (layer_definitions coding d claim moved t) (below (length claim.through + 1)))
    (end_definition coding d claim moved t claim.end ++ extra_definitions d claim moved t)
    (In-right def (end_definition coding d claim moved t claim.end) (extra_definitions d claim moved t) has))
    forces

-- the definitions of a plain claim tell in which cycles the late capture differs
pub plain_tells : (coding : Coding) (kind : Key → Type 0) (v : Key → Bool) (d : Design) (claim : Claim) (moved : List (List Bool)) (run : List Cycle)
    (rows : ℕ → List (List Bool)) → CodingCovers coding → claim.hazard ≡ false → IsAskedOf d claim run → AreFlipped d claim moved run rows
    → TellsDiffer coding kind v d claim moved run (differs_late_at d claim run rows)
plain_tells coding kind v d claim moved run rows covers plain is flips told part t c at =
    let lt = slice_get_within run t c at in
    let flip = flips t c at in
    let forces = part t lt in
    let tell = layers_told coding kind v d claim moved t c (rows t) covers flip (told.nets t c at) (layers_of coding kind v d claim moved t forces) in
    let late : LitTells kind v (late_capture_lit d claim moved t 0 claim.end) (late_at d claim run rows t) =
    λ has.
    end_told coding kind v d claim moved t c (rows t) covers flip claim.end is.end_in tell (λ r small own. told.bits t (omega arith) r small own
    ∙ now_bits d run t c r at) (ends_of coding kind v d claim moved t forces) has
    ∙ sym (late_now d claim run rows t c at) in
    λ has.
    exclusive_told kind v (extra_definitions d claim moved t) (differ_key d t) (late_capture_lit d claim moved t 0 claim.end)
    (capture_lit d claim.end t) (late_at d claim run rows t) (capture d claim.end c) (extras_of coding kind v d claim moved t forces)
    (inr (inr (inl (plain_differ d claim moved t plain)))) late (capture_told kind v d run claim.end is.sound is.end_in is.linked told t c at) has
    ∙ sym (differs_now d claim run rows t c at)

-- the keys of the layers, read off flipped layers
abbrev pub flipped_layer : Design → Claim → List Cycle → (ℕ → List (List Bool)) → Key → ℕ → Bool
flipped_layer d claim run rows k l = if nat_lt k.point d.nets then net_at false (rows k.cycle) l k.point else late_at d claim run rows k.cycle

abbrev pub plain_story : Design → Claim → List Cycle → (ℕ → List (List Bool)) → (ℕ → Bool) → Key → Bool
plain_story d claim run rows bad = story d claim run (flipped_layer d claim run rows) (differs_late_at d claim run rows) bad

story_layers : (d : Design) (claim : Claim) (run : List Cycle) (rows : ℕ → List (List Bool)) (bad : ℕ → Bool) (t : ℕ)
    → SaysLayers (plain_story d claim run rows bad) d claim t (rows t)
story_layers d claim run rows bad t =
    record { nets = λ l n le low. cond-true (nat_lt n d.nets) (net_at false (rows t) l n) (late_at d claim run rows t) (lt-ltb n d.nets low) }

story_late : (d : Design) (claim : Claim) (run : List Cycle) (rows : ℕ → List (List Bool)) (bad : ℕ → Bool) (t : ℕ) → plain_story d claim run rows bad
    (late_key d claim t 0) ≡ late_at d claim run rows t
story_late d claim run rows bad t =
    ap (λ l. plain_story d claim run rows bad (key t l 0 (d.nets + length d.regs))) (add-one (length claim.through))
    ∙ cond-false (nat_lt (d.nets + length d.regs) d.nets) (net_at false (rows t) (length claim.through) (d.nets + length d.regs))
    (late_at d claim run rows t) (le-ltb (d.nets + length d.regs) d.nets (omega arith))

-- the literal of the late capture, where all keys say the run
late_said : (v : Key → Bool) (d : Design) (claim : Claim) (moved : List (List Bool)) (t : ℕ) (c : Cycle) (rows : List (List Bool))
    → IsFlipped d claim moved c rows → (e : End) → IsEndIn d e → ((l : ℕ) → l ≤ length claim.through → (n : ℕ) → n < d.nets
    → LayerTells AnyKey v d claim moved t rows l n) → v (late_key d claim t 0) ≡ capture_over d claim.through rows e c
    → LitTells AnyKey v (late_capture_lit d claim moved t 0 e) (capture_over d claim.through rows e c)
late_said v d claim moved t c rows flip (RegEnd r) is tell late = λ any. late
late_said v d claim moved t c rows flip (OutputEnd o) is tell late =
    let n = slice_index d.outputs o in
    subst (λ m. LitTells AnyKey v (read_pin d claim moved t m 0 (OutPort o) n)
    (pin_reads false claim.through rows (length claim.through) (OutPort o) n)) (sym (add-one (length claim.through)))
    (pin_tells AnyKey v d claim moved t rows (length claim.through) (OutPort o) n (λ i le. tell i le n (flip.sound.in_range.outputs o 0 is)))

-- the keys of flipped layers make all definitions true
pub plain_says : (coding : Coding) (d : Design) (claim : Claim) (moved : List (List Bool)) (run : List Cycle) (rows : ℕ → List (List Bool))
    → CodingCovers coding → claim.hazard ≡ false → IsAskedOf d claim run → AreFlipped d claim moved run rows → SaysLate coding d claim moved run
    (flipped_layer d claim run rows) (differs_late_at d claim run rows)
plain_says coding d claim moved run rows covers plain is flips =
    record {
      layers = λ bad t c at l le def has.
          layer_true coding (v bad) d claim moved t c (rows t) covers (flips t c at) ((told bad).nets t c at) (story_layers d claim run rows bad t) l
          le def has;
      ends = λ bad t c at def has.
          end_true coding (v bad) d claim moved t c (rows t) covers (flips t c at) claim.end (tell bad t c at)
          (λ r small. (meaning_says d run (others d claim run (flipped_layer d claim run rows) (differs_late_at d claim run rows) bad)).bits t
          (within t c at) r small ∙ now_bits d run t c r at)
          (story_late d claim run rows bad t ∙ late_now d claim run rows t c at) def has;
      differ = λ bad t c at.
          let late : LitTells AnyKey (v bad) (late_capture_lit d claim moved t 0 claim.end) (late_at d claim run rows t) =
          λ any.
          late_said (v bad) d claim moved t c (rows t) (flips t c at) claim.end is.end_in (tell bad t c at)
          (story_late d claim run rows bad t ∙ late_now d claim run rows t c at) tt
          ∙ sym (late_now d claim run rows t c at) in
          let took = capture_told AnyKey (v bad) d run claim.end is.sound is.end_in is.linked (told bad) t c at in
          subst (λ (x : Definition). AllTrue (v bad) x.clauses) (sym (plain_differ d claim moved t plain))
          (exclusive_true (v bad) (differ_key d t) (late_capture_lit d claim moved t 0 claim.end) (capture_lit d claim.end t)
          (story_differ d claim run (flipped_layer d claim run rows) (differs_late_at d claim run rows) bad t
          ∙ differs_now d claim run rows t c at ∙ sym (both_same (v bad) (late_capture_lit d claim moved t 0 claim.end) (capture_lit d claim.end t)
          (late_at d claim run rows t) (capture d claim.end c) (late tt) (took tt))));
    }
  where
    v : (ℕ → Bool) → Key → Bool
    v bad = plain_story d claim run rows bad

    told : (bad : ℕ → Bool) → Told AnyKey (plain_story d claim run rows bad) d run
    told bad = said_told (plain_story d claim run rows bad) d run is.linked
        (meaning_says d run (others d claim run (flipped_layer d claim run rows) (differs_late_at d claim run rows) bad))

    within : (t : ℕ) (c : Cycle) → slice_get run t ≡ Some c → t ≤ length run
    within t c at = let lt = slice_get_within run t c at in omega arith

    tell : (bad : ℕ → Bool) (t : ℕ) (c : Cycle) → slice_get run t ≡ Some c → (l : ℕ) → l ≤ length claim.through → (n : ℕ) → n < d.nets
        → LayerTells AnyKey (plain_story d claim run rows bad) d claim moved t (rows t) l n
    tell bad t c at = layers_said (plain_story d claim run rows bad) d claim moved t c (rows t) (flips t c at) ((told bad).nets t c at)
        (story_layers d claim run rows bad t)
