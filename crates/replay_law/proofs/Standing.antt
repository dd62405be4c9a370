-- What a stimulus says of which a run is known.
use Rattle.std.proofs.Common.{◌≡◌, ℕ, zero, suc, ◌+◌, ◌-◌, ◌<◌, ◌≤◌, Bool, List, [], ◌∷◌, length, map, get_or, Some}
use Rattle.std.proofs.Common.{refl, ap, sym, ◌∙◌, subst, arith}
use Rattle.std.proofs.Common.{inl, inr}
use Rattle.std.specs.Prelude.{slice_get, nat_lt}
use Rattle.std.proofs.lemmas.Bool.{cases_lt}
use Rattle.std.proofs.lemmas.List.{length-map}
use Rattle.std.proofs.lemmas.List.Elements.{All-head}
use Rattle.std.proofs.lemmas.Option.{slice_get-get_or, slice_get_within}
use Rattle.net_model.specs.Netlist.{IsSound}
use Rattle.net_model.specs.Cycles.{IsSettled, HasFixed, IsRun}
use Rattle.net_model.specs.Judge.{IsViolatedAt}
use Rattle.net_model.specs.Stimuli.{IsLawful, StandsFor, HasOneRun}
use Rattle.net_model.specs.declared.netlist.Design.{Design}
use Rattle.net_model.specs.declared.cycles.Cycle.{Cycle}
use Rattle.net_model.specs.declared.cycles.Stimulus.{Stimulus}
use Rattle.net_model.specs.declared.claims.Claim.{Claim}
use Rattle.net_model.proofs.Settling.{All-at}
use Rattle.net_model.proofs.OneRun.{has_one_run}
use Rattle.witness_replay.specs.Replays.{HasStimulusShape, AreSettingsKept, IsReplay, IsReplayCause}
use Rattle.witness_replay.specs.declared.outcomes.Replay.{Replay}
use Rattle.witness_replay.specs.declared.outcomes.Replay.TheVariants.{Violated, Holds}
use Rattle.witness_replay.specs.declared.faults.ReplayFault.{ReplayFault}
use Rattle.witness_replay.specs.declared.faults.ReplayFault.TheVariants.{Shape, NotReset, Memory}
use Rattle.witness_replay.proofs.Kept.{RowsKept, lawful_from}
use Rattle.verdicts.specs.Offsets.{HoldsAtOffset}

-- the cycle whose input bits stand at a place
mapped_at : (run : List Cycle) (t : ℕ) (ins : List Bool) → slice_get (map (λ (c : Cycle). c.ins) run) t ≡ Some ins
    → (c : Cycle) × (slice_get run t ≡ Some c) × (c.ins ≡ ins)
mapped_at [] t ins at = absurd cc
mapped_at (c ∷ run) zero ins at = (c, refl, cc)
mapped_at (c ∷ run) (suc t) ins at = mapped_at run t ins at

-- the input bits of a stimulus are those of a cycle of its run
row_at : (s : Stimulus) (run : List Cycle) (t : ℕ) (ins : List Bool) → StandsFor s run → slice_get s.inputs t ≡ Some ins
    → (c : Cycle) × (slice_get run t ≡ Some c) × (c.ins ≡ ins)
row_at s run t ins stands at =
    mapped_at run t ins (ap (λ (rows : List (List Bool)). slice_get rows t) stands.inputs ∙ at)

-- a run has as many register bits as the design
state_of : (d : Design) (s : Stimulus) (run : List Cycle) → IsRun d run → StandsFor s run → length s.state ≡ length d.regs
state_of d s [] is stands = absurd (omega (arith, is.linked.some))
state_of d s (c ∷ run) is stands = sym (ap length (stands.state c refl)) ∙ (All-head (IsSettled d) c run is.linked.settled).shape.bits

-- the stimulus of a run has the design's numbers of bits
pub has_shape : (d : Design) (s : Stimulus) (run : List Cycle) → IsRun d run → StandsFor s run → HasStimulusShape d s
has_shape d s run is stands =
    record {
      state = state_of d s run is stands;
      some = omega (arith, is.linked.some, length-map run (λ (c : Cycle). c.ins), ap length stands.inputs);
      rows = λ k o within.
          let (c, there, same) = row_at s run k (get_or s.inputs k o) stands (slice_get-get_or s.inputs k o within) in
          sym (ap length same) ∙ (All-at (IsSettled d) run k c there is.linked.settled).shape.ins;
    }

-- and it keeps resets and fixed inputs
pub keeps : (d : Design) (s : Stimulus) (run : List Cycle) → IsRun d run → StandsFor s run → RowsKept d s (length s.inputs)
keeps d s run is stands t within ins at =
    let (c, there, same) = row_at s run t ins stands at in
    subst (λ (row : List Bool). AreSettingsKept d (nat_lt t d.reset_len) row) same (All-at (HasFixed d) run t c there is.linked.fixed, is.resets t c there)

-- so it is refused for want of memory alone
pub refused_memory : (d : Design) (s : Stimulus) (run : List Cycle) → IsRun d run → StandsFor s run → (fault : ReplayFault) → IsReplayCause d s fault
    → fault ≡ Memory
refused_memory d s run is stands Shape cause = absurd (cause (has_shape d s run is stands))
refused_memory d s run is stands (NotReset t) cause =
    absurd (cause.differs (keeps d s run is stands t (slice_get_within s.inputs t cause.ins cause.at) cause.ins cause.at))
refused_memory d s run is stands Memory cause = refl

-- no run is violated before a cycle up to which all offsets hold
none_before : (d : Design) (claim : Claim) (offset : ℕ) (run : List Cycle) → IsRun d run
    → ((smaller : ℕ) → smaller < offset → HoldsAtOffset d claim smaller) → (t : ℕ) → t < d.reset_len + 1 + offset
    → ¬ IsViolatedAt d.reset_len d claim run t
none_before d claim offset run is least t low violated =
    let after : d.reset_len + 1 ≤ t = violated.toggles.is_live in
    let smaller : ℕ = t - (d.reset_len + 1) in
    let at : t ≡ d.reset_len + 1 + smaller = omega (arith, after) in
    least smaller (omega (arith, after, low)) run is (subst (λ (u : ℕ). IsViolatedAt d.reset_len d claim run u) at violated)

-- the answer of a replay is the cycle at which the stimulus's run is violated, where no run is violated at a smaller offset
pub replays_alone : (d : Design) (claim : Claim) (offset : ℕ) (s : Stimulus) (run : List Cycle) → IsRun d run → StandsFor s run
    → IsViolatedAt d.reset_len d claim run (d.reset_len + 1 + offset) → ((smaller : ℕ) → smaller < offset → HoldsAtOffset d claim smaller)
    → (answer : Replay) → IsReplay d claim s answer → answer ≡ Violated (d.reset_len + 1 + offset)
replays_alone d claim offset s run is stands there least (Violated t) replay =
    let violated = subst (λ (other : List Cycle). IsViolatedAt d.reset_len d claim other (d.reset_len + 1 + offset)) (replay.one.only run is stands) there in
    elim (cases_lt t (d.reset_len + 1 + offset)) [
      | inl before ↦ absurd (none_before d claim offset replay.one.run replay.one.from_reset least t before replay.first.0)
      | inr high ↦ elim (cases_lt (d.reset_len + 1 + offset) t) [
        | inl after ↦ absurd (replay.first.1 (d.reset_len + 1 + offset) after violated)
        | inr low ↦ ap Violated (let e : t ≡ d.reset_len + 1 + offset = omega (arith, high, low) in e)
      ]
    ]
replays_alone d claim offset s run is stands there least Holds replay =
    let violated = subst (λ (other : List Cycle). IsViolatedAt d.reset_len d claim other (d.reset_len + 1 + offset)) (replay.one.only run is stands) there in
    absurd (replay.first (d.reset_len + 1 + offset) violated)

-- and it is an answer
pub replays : (d : Design) (claim : Claim) (offset : ℕ) (s : Stimulus) (run : List Cycle) → IsSound d → IsRun d run → StandsFor s run
    → IsViolatedAt d.reset_len d claim run (d.reset_len + 1 + offset) → ((smaller : ℕ) → smaller < offset → HoldsAtOffset d claim smaller)
    → IsReplay d claim s (Violated (d.reset_len + 1 + offset))
replays d claim offset s run sound is stands there least =
    let lawful : IsLawful d s = lawful_from d s (has_shape d s run is stands) (keeps d s run is stands) in
    let one : HasOneRun d s = has_one_run d s sound lawful in
    let violated = subst (λ (other : List Cycle). IsViolatedAt d.reset_len d claim other (d.reset_len + 1 + offset)) (one.only run is stands) there in
    record { lawful = lawful; one = one; first = (violated, none_before d claim offset one.run one.from_reset least) }
