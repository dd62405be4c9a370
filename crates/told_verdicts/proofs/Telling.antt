-- What is told is right: a refutation that stands is firm, and one that does not is undecided for something that is left open.
use Rattle.std.proofs.Common.{◌≡◌, ℕ, zero, suc, ◌+◌, ◌<◌, Bool, true, false, not, ◌&&◌, List, [], ◌∷◌, ◌++◌, map, length, get_or, Some, refl, ap, sym, ◌∙◌}
use Rattle.std.proofs.Common.{subst, arith, ◌⊎◌, inl, inr}
use Rattle.std.specs.Prelude.{All, slice_get, option_map, nat_lt}
use Rattle.std.proofs.lemmas.Bool.{cases_lt}
use Rattle.std.proofs.lemmas.List.{same_lists, get_or_default, length-map}
use Rattle.std.proofs.lemmas.Option.{slice_get_within, slice_get-get_or, slice_get-map, same_Some}
use Rattle.net_model.specs.Netlist.{IsSound}
use Rattle.net_model.specs.Fits.{Fits, IsEndIn}
use Rattle.net_model.specs.Cycles.{HasFixed, IsSettled, IsRun}
use Rattle.net_model.specs.Stimuli.{AreInputs, IsLawful, StandsFor}
use Rattle.net_model.specs.Judge.{IsViolatedAt}
use Rattle.net_model.proofs.Settling.{All-at}
use Rattle.net_model.proofs.OneRun.{has_one_run}
use Rattle.net_model.specs.declared.netlist.Design.{Design}
use Rattle.net_model.specs.declared.cycles.Cycle.{Cycle}
use Rattle.net_model.specs.declared.cycles.Stimulus.{Stimulus}
use Rattle.net_model.specs.declared.claims.Claim.{Claim}
use Rattle.net_model.specs.declared.claims.End.{End}
use Rattle.net_model.specs.declared.claims.End.TheVariants.{Reg as RegEnd, Output as OutputEnd}
use Rattle.net_model.specs.declared.invariants.InvClause.{InvClause}
use Rattle.firm_runs.specs.Frees.{is_free, IsSink, LeavesOpen}
use Rattle.firm_runs.specs.Firm.{IsRunBesides, IsFirm}
use Rattle.firm_runs.specs.declared.free_bits.FreeBits.{FreeBits}
use Rattle.firm_runs.proofs.Firming.{firm_shown}
use Rattle.verdicts.specs.Verdicts.{IsRight, IsWitness}
use Rattle.verdict_types.specs.declared.outcomes.Limits.{Limits}
use Rattle.verdict_types.specs.declared.outcomes.Cause.{Cause}
use Rattle.verdict_types.specs.declared.outcomes.Cause.TheVariants.{Depth as Stays, Budget, Free, Cut}
use Rattle.verdict_types.specs.declared.outcomes.Verdict.{Verdict}
use Rattle.verdict_types.specs.declared.outcomes.Verdict.TheVariants.{Justified, Refuted, Undecided}
use Rattle.told_verdicts.specs.Tolds.{Stands, IsToldOf, AreTold, IsRightTold, AreRightTold}

abbrev ins_of : Cycle → List Bool
ins_of c = c.ins

none : Cycle
none = record { bits = []; ins = []; nets = [] }

-- a stimulus that stands for a run from reset is lawful
pub lawful_from_run : (d : Design) (s : Stimulus) (run : List Cycle) → IsRun d run → StandsFor s run → IsLawful d s
lawful_from_run d s run is stands =
    record { state = state; some = some; inputs = inputs }
  where
    count : length run ≡ length s.inputs
    count = sym (length-map run ins_of) ∙ ap length stands.inputs

    some : 0 < length s.inputs
    some = omega (arith, count, is.linked.some)

    state : length s.state ≡ length d.regs
    state =
        let at : slice_get run 0 ≡ Some (get_or run 0 none) = slice_get-get_or run 0 none is.linked.some in
        ap length (sym (stands.state (get_or run 0 none) at)) ∙ (All-at (IsSettled d) run 0 (get_or run 0 none) at is.linked.settled).shape.bits

    inputs : (t : ℕ) (ins : List Bool) → slice_get s.inputs t ≡ Some ins → AreInputs d (nat_lt t d.reset_len) ins
    inputs t ins row =
        let low = slice_get_within s.inputs t ins row in
        let c = get_or run t none in
        let at : slice_get run t ≡ Some c = slice_get-get_or run t none (omega (arith, count)) in
        let same : c.ins ≡ ins =
        same_Some c.ins ins (sym (slice_get-map ins_of run t ∙ ap (option_map ins_of) at)
        ∙ (ap (λ (rows : List (List Bool)). slice_get rows t) stands.inputs ∙ row)) in
        let fixed : HasFixed d c = All-at (HasFixed d) run t c at is.linked.fixed in
        subst (AreInputs d (nat_lt t d.reset_len)) same
        (record { count = (All-at (IsSettled d) run t c at is.linked.settled).shape.ins; fixed = fixed; resets = is.resets t c at })

map_ins : (run : List Cycle) (rows : List (List Bool)) → length run ≡ length rows
    → ((t : ℕ) (c : Cycle) (ins : List Bool) → slice_get run t ≡ Some c → slice_get rows t ≡ Some ins → c.ins ≡ ins) → map ins_of run ≡ rows
map_ins [] [] len same = refl
map_ins [] (ins ∷ rows) len same = absurd (omega arith)
map_ins (c ∷ run) [] len same = absurd (omega arith)
map_ins (c ∷ run) (ins ∷ rows) len same =
    ap (λ (x : List Bool). x ∷ map ins_of run) (same 0 c ins refl refl)
    ∙ ap (λ (xs : List (List Bool)). ins ∷ xs) (map_ins run rows (omega arith) (λ t x row at there. same (suc t) x row at there))

-- without free inputs no input is free
none_free : (free : FreeBits) (i : ℕ) → ¬ (0 < free.count) → is_free free i ≡ false
none_free free i closed =
    let zero_count : free.count ≡ 0 = omega arith in
    let same : free.first + free.count ≡ free.first = omega arith in
    rw same (never (nat_lt i free.first))
  where
    never : (b : Bool) → (not b && b) ≡ false
    never true = refl
    never false = refl

-- without free inputs the run of a stimulus is the only one
like_stands : (d : Design) (free : FreeBits) (s : Stimulus) (run : List Cycle) → ¬ (0 < free.count) → IsLawful d s → IsRunBesides d free s run
    → StandsFor s run
like_stands d free s run closed lawful like =
    record {
      state = like.state;
      inputs = map_ins run s.inputs like.count
          (λ t c ins at row.
          let long = (lawful.inputs t ins row).count in
          let shape = (All-at (IsSettled d) run t c at like.from_reset.linked.settled).shape.ins in
          same_lists c.ins ins (shape ∙ sym long)
          (λ i o within.
          get_or_default c.ins i o false within
          ∙ (like.inputs t c ins i at row (omega (arith, shape)) (none_free free i closed)
          ∙ get_or_default ins i false o (omega (arith, shape, long)))));
    }

no_sink : (d : Design) (free : FreeBits) (e : End) → ¬ (free.sinks_from < length d.outputs) → IsEndIn d e → ¬ IsSink free e
no_sink d free (RegEnd r) closed is sink = sink
no_sink d free (OutputEnd o) closed is sink = closed (omega arith)

-- where nothing is left open, a witness is firm
closed_firm : (d : Design) (free : FreeBits) (claim : Claim) (offset : ℕ) (s : Stimulus) → IsSound d → Fits d claim → ¬ LeavesOpen d free
    → IsWitness d claim offset s → IsFirm d free claim s (d.reset_len + 1 + offset)
closed_firm d free claim offset s sound fits closed witness =
    let lawful = lawful_from_run d s witness.run witness.from_reset witness.stands in
    let one = has_one_run d s sound lawful in
    record {
      violated = λ run like.
          let same : witness.run ≡ run =
          one.only witness.run witness.from_reset witness.stands
          ∙ sym (one.only run like.from_reset (like_stands d free s run (λ p. closed (inl p)) lawful like)) in
          subst (λ (x : List Cycle). IsViolatedAt d.reset_len d claim x (d.reset_len + 1 + offset)) same witness.violated;
      no_sink = no_sink d free claim.end (λ p. closed (inr p)) fits.end_;
    }

-- a refutation that stands is firm
pub stands_firm : (d : Design) (free : FreeBits) (claim : Claim) (offset : ℕ) (s : Stimulus) → IsSound d → Fits d claim → IsWitness d claim offset s
    → Stands d free claim offset s → IsFirm d free claim s (d.reset_len + 1 + offset)
stands_firm d free claim offset s sound fits witness (inl closed) = closed_firm d free claim offset s sound fits closed witness
stands_firm d free claim offset s sound fits witness (inr shown) =
    firm_shown d free claim s (d.reset_len + 1 + offset) sound fits (lawful_from_run d s witness.run witness.from_reset witness.stands) shown

open_or : (d : Design) (free : FreeBits) → LeavesOpen d free ⊎ ¬ LeavesOpen d free
open_or d free =
    elim (cases_lt 0 free.count) [
      | inl some ↦ inl (inl some)
      | inr no_input ↦ elim (cases_lt free.sinks_from (length d.outputs)) [
        | inl sinks ↦ inl (inr sinks)
        | inr no_output ↦ inr (λ open_. elim open_ [ inl p ↦ absurd (omega arith) | inr q ↦ absurd (omega arith) ])
      ]
    ]

-- where a refutation does not stand, something is left open
pub open_from : (d : Design) (free : FreeBits) (claim : Claim) (offset : ℕ) (s : Stimulus) → ¬ Stands d free claim offset s → LeavesOpen d free
open_from d free claim offset s falls =
    elim (open_or d free) [ inl open_ ↦ open_ | inr closed ↦ absurd (falls (inl closed)) ]

cause_right : (d : Design) (free : FreeBits) (claim : Claim) (kept : List InvClause) (limits : Limits) (cause : Cause)
    → IsRight d claim kept limits (Undecided cause) → IsRightTold d free claim kept limits (Undecided cause)
cause_right d free claim kept limits Stays right = right
cause_right d free claim kept limits (Budget phase depth log) right = right
cause_right d free claim kept limits (Free offset s) right = absurd right
cause_right d free claim kept limits Cut right = absurd right

-- what is told of a right verdict is right
pub right_told : (d : Design) (free : FreeBits) (claim : Claim) (verdict said : Verdict) (kept : List InvClause) (limits : Limits) → IsSound d
    → Fits d claim → IsToldOf d free claim verdict said → IsRight d claim kept limits verdict → IsRightTold d free claim kept limits said
right_told d free claim (Justified proof) said kept limits sound fits told right =
    subst (IsRightTold d free claim kept limits) (sym told) right
right_told d free claim (Undecided cause) said kept limits sound fits told right =
    subst (IsRightTold d free claim kept limits) (sym told) (cause_right d free claim kept limits cause right)
right_told d free claim (Refuted offset s) said kept limits sound fits (inl stands) right =
    subst (IsRightTold d free claim kept limits) (sym stands.1) (right, stands_firm d free claim offset s sound fits right.1 stands.0)
right_told d free claim (Refuted offset s) said kept limits sound fits (inr falls) right =
    subst (IsRightTold d free claim kept limits) (sym falls.1)
    (right, open_from d free claim offset s falls.0, λ shown. falls.0 (inr shown))

-- where nothing is left open, each verdict is told as it is
pub told_closed : (d : Design) (free : FreeBits) (claim : Claim) (verdict : Verdict) → ¬ LeavesOpen d free → IsToldOf d free claim verdict verdict
told_closed d free claim (Justified proof) closed = refl
told_closed d free claim (Undecided cause) closed = refl
told_closed d free claim (Refuted offset s) closed = inl (inl closed, refl)

-- no verdicts are told
pub told_none : (d : Design) (free : FreeBits) (claims : List Claim) → AreTold d free claims [] []
told_none d free claims =
    record { as_many = refl; each = λ place claim verdict said at there told. absurd (omega (arith, slice_get_within [] place said told)) }

-- an item of a list with one more item
pushed : {X : Type 0} (xs : List X) (x : X) (k : ℕ) (y : X) → slice_get (xs ++ x ∷ []) k ≡ Some y → (slice_get xs k ≡ Some y) ⊎ ((k ≡ length xs) × (x ≡ y))
pushed [] x zero y at = inr (refl, same_Some x y at)
pushed [] x (suc k) y at = absurd (omega (arith, slice_get_within (x ∷ []) (suc k) y at))
pushed (z ∷ xs) x zero y at = inl at
pushed (z ∷ xs) x (suc k) y at =
    elim (pushed xs x k y at) [ inl here ↦ inl here | inr last ↦ inr (omega (arith, last.0), last.1) ]

length_pushed : {X : Type 0} (xs : List X) (x : X) → length (xs ++ x ∷ []) ≡ length xs + 1
length_pushed [] x = refl
length_pushed (y ∷ xs) x = omega (arith, length_pushed xs x)

-- one more verdict is told
pub told_more : (d : Design) (free : FreeBits) (claims : List Claim) (verdicts told : List Verdict) (claim : Claim) (verdict said : Verdict)
    → slice_get claims (length told) ≡ Some claim → IsToldOf d free claim verdict said → AreTold d free claims verdicts told
    → AreTold d free claims (verdicts ++ verdict ∷ []) (told ++ said ∷ [])
told_more d free claims verdicts told claim verdict said claim_at is done =
    record {
      as_many = omega (arith, length_pushed told said, length_pushed verdicts verdict, done.as_many);
      each = λ place other judged found at there told_at. elim (pushed told said place found told_at) [
        | inl first ↦ elim (pushed verdicts verdict place judged there) [
          | inl low ↦ done.each place other judged found at low first
          | inr end_ ↦ absurd (omega (arith, end_.0, done.as_many, slice_get_within told place found first))
        ]
        | inr last ↦ elim (pushed verdicts verdict place judged there) [
          | inl low ↦ absurd (omega (arith, last.0, done.as_many, slice_get_within verdicts place judged low))
          | inr end_ ↦
              let same_claim : claim ≡ other = same_Some claim other (sym claim_at ∙ subst (λ (i : ℕ). slice_get claims i ≡ Some other) last.0 at) in
              subst (IsToldOf d free other judged) last.1
              (subst (λ (v : Verdict). IsToldOf d free other v said) end_.1 (subst (λ (x : Claim). IsToldOf d free x verdict said) same_claim is))
        ]
      ];
    }

-- where nothing is left open, all verdicts are told as they are
pub told_as_they_are : (d : Design) (free : FreeBits) (claims : List Claim) (verdicts : List Verdict) → ¬ LeavesOpen d free
    → AreTold d free claims verdicts verdicts
told_as_they_are d free claims verdicts closed =
    record {
      as_many = refl;
      each = λ place claim verdict said at there told.
          subst (IsToldOf d free claim verdict) (same_Some verdict said (sym there ∙ told)) (told_closed d free claim verdict closed);
    }

-- what is told of right verdicts is right
pub all_right : (d : Design) (free : FreeBits) (claims : List Claim) (verdicts told : List Verdict) → IsSound d → All (Fits d) claims
    → AreTold d free claims verdicts told → AreRightTold d free claims verdicts told
all_right d free claims verdicts told sound fit are place claim verdict said kept limits at there told_at right =
    right_told d free claim verdict said kept limits sound (All-at (Fits d) claims place claim at fit)
    (are.each place claim verdict said at there told_at) right
