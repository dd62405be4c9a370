-- The derivations at a depth in a text, and lists of them.
use Rattle.std.proofs.Common.{inl, ◌≡◌, ℕ, ◌+◌, ◌<◌, Bool, List, [], ◌++◌, length, refl, sym, ap, ◌∙◌, append_assoc, append-nil}
use Rattle.std.specs.List.{AllByRecursion}
use Rattle.std.proofs.lemmas.List.{append_cancel_left}
use Rattle.proof_log.specs.declared.derivations.Derivation.{Derivation}
use Rattle.net_model.specs.declared.invariants.InvClause.{InvClause}
use Rattle.net_model.specs.declared.queries.Phase.TheVariants.{Base, Step}
use Rattle.verdict_types.specs.declared.kept.InvProof.{InvProof}
use Rattle.cert_lines.specs.Kinds.{text_of, kept_words, IsKept}
use Rattle.cert_lines.proofs.KindLemmas.{kept_kind}
use Rattle.cert_lines.specs.declared.faults.Fault.{Fault}
use Rattle.cert_lines.specs.Texts.{IsWhole, IsFault, AreMany, many_text}
use Rattle.cert_lines.specs.Derivations.{derivation_text, IsWritable}
use Rattle.cert_lines.proofs.Leading.{Tells, Leads, IsPast, past_start, past_next, leads_past, whole_later, fault_later}
use Rattle.cert_lines.proofs.LineTexts.{line_tells, line_whole}
use Rattle.cert_lines.proofs.ManyTexts.{many_tells, many_whole, many_fault, filled}
use Rattle.cert_lines.proofs.Shortest.{one_state, one_state_fits}
use Rattle.cert_lines.proofs.DerivationTexts.{derivation_tells, derivation_whole, no_derivation, no_derivation_fits}
use Rattle.cert_text.specs.Certs.{proof_text, IsProof}

-- a kept clause is missing after some
pub clause_fault : (long : Bool) (n : ℕ) (done : List InvClause) → AllByRecursion (IsKept long) done → length done < n → (rest bytes : List ℕ) (now place : ℕ)
    → bytes ≡ many_text (text_of kept_words) done ++ rest
    → now + length rest ≡ place + length bytes → (f : Fault) → IsFault (IsKept long) (text_of kept_words) rest now f
    → IsFault (AreMany n (IsKept long)) (many_text (text_of kept_words)) bytes place f
clause_fault long n done fd less rest bytes now place is left f e =
    many_fault (IsKept long) (text_of kept_words) (line_tells (IsKept long) kept_words (kept_kind long))
    (line_whole kept_words) one_state (one_state_fits long) n done fd less rest bytes now place is left f e

abbrev base_text : Derivation → List ℕ
base_text d = derivation_text Base d

-- a base derivation is missing after some
pub base_fault : (n : ℕ) (done : List Derivation) → AllByRecursion IsWritable done → length done < n → (rest bytes : List ℕ) (now place : ℕ)
    → bytes ≡ many_text (derivation_text Base) done ++ rest
    → now + length rest ≡ place + length bytes → (f : Fault) → IsFault IsWritable (derivation_text Base) rest now f
    → IsFault (AreMany n IsWritable) (many_text (derivation_text Base)) bytes place f
base_fault n done fd less rest bytes now place is left f e =
    many_fault IsWritable (derivation_text Base) (derivation_tells Base)
    (derivation_whole Base) no_derivation no_derivation_fits n done fd less rest bytes now place is left f e

abbrev proof_of : List Derivation → Derivation → InvProof
proof_of base step = record { base = base; step = step }

-- the base derivations are missing
pub bases_fault : (depth : ℕ) (bytes : List ℕ) (place : ℕ) (f : Fault)
    → IsFault (AreMany depth IsWritable) (many_text (derivation_text Base)) bytes place f → IsFault (IsProof depth) proof_text bytes place f
bases_fault depth bytes place f e =
    fault_later (IsProof depth) proof_text (AreMany depth IsWritable)
    (many_text (derivation_text Base)) [] leads bytes bytes place place refl refl f e
  where
    leads : Leads (IsProof depth) proof_text (AreMany depth IsWritable) (many_text (derivation_text Base)) []
    leads =
        leads_past (IsProof depth) proof_text (AreMany depth IsWritable) (many_text (derivation_text Base)) [] (λ p. Unit {0}) proof_text
        (past_start (IsProof depth) proof_text)
        (λ p. p.base) (λ p. derivation_text Step p.step) (λ p fp a. (fp.base, refl)) (inl refl)
        (λ base many. (proof_of base no_derivation, record { base = many; step = no_derivation_fits }, derivation_text Step no_derivation, refl))

-- the step derivation is
pub step_fault : (depth : ℕ) (base : List Derivation) → AreMany depth IsWritable base → (rest bytes : List ℕ) (now place : ℕ)
    → bytes ≡ many_text (derivation_text Base) base ++ rest
    → now + length rest ≡ place + length bytes → (f : Fault) → IsFault IsWritable (derivation_text Step) rest now f
    → IsFault (IsProof depth) proof_text bytes place f
step_fault depth base many rest bytes now place is left f e =
    fault_later (IsProof depth) proof_text IsWritable (derivation_text Step) (many_text (derivation_text Base) base) leads rest bytes now place is left f e
  where
    past : IsPast (IsProof depth) proof_text (many_text (derivation_text Base) base) (λ (p : InvProof). Unit {0} × (p.base ≡ base))
        (λ p. derivation_text Step p.step)
    past =
        past_next (IsProof depth) proof_text (AreMany depth IsWritable) (many_text (derivation_text Base))
        (many_tells IsWritable (derivation_text Base) (derivation_tells Base) depth)
        [] (λ p. Unit {0}) proof_text (past_start (IsProof depth) proof_text) (λ p. p.base) (λ p. derivation_text Step p.step)
        (λ p fp a. (fp.base, refl)) base many

    leads : Leads (IsProof depth) proof_text IsWritable (derivation_text Step) (many_text (derivation_text Base) base)
    leads =
        leads_past (IsProof depth) proof_text IsWritable (derivation_text Step) (many_text (derivation_text Base) base)
        (λ (p : InvProof). Unit {0} × (p.base ≡ base)) (λ p. derivation_text Step p.step) past
        (λ p. p.step) (λ p. []) (λ p fp a. (fp.step, sym (append-nil (derivation_text Step p.step))))
        (many_whole (derivation_text Base) (derivation_whole Base) base)
        (λ step fits. (
          proof_of base step,
          record { base = many; step = fits },
          [],
          ap (λ z. many_text (derivation_text Base) base ++ z) (sym (append-nil (derivation_text Step step))),
        ))

pub proof_tells : (depth : ℕ) → Tells (IsProof depth) proof_text
proof_tells depth v u fv fu x y e =
    let bases = many_text (derivation_text Base) in
    let both : bases v.base ++ (derivation_text Step v.step ++ x) ≡ bases u.base ++ (derivation_text Step u.step ++ y) =
    sym (append_assoc (bases v.base) (derivation_text Step v.step) x) ∙ e ∙ append_assoc (bases u.base) (derivation_text Step u.step) y in
    let base : v.base ≡ u.base =
    many_tells IsWritable (derivation_text Base) (derivation_tells Base) depth v.base u.base fv.base fu.base (derivation_text Step v.step ++ x)
    (derivation_text Step u.step ++ y) both in
    let rest : derivation_text Step v.step ++ x ≡ derivation_text Step u.step ++ y =
    append_cancel_left (bases v.base) (derivation_text Step v.step ++ x) (derivation_text Step u.step ++ y)
    (both ∙ ap (λ (z : List Derivation). bases z ++ (derivation_text Step u.step ++ y)) (sym base)) in
    let step : v.step ≡ u.step = derivation_tells Step v.step u.step fv.step fu.step x y rest in
    ap (λ (z : List Derivation). proof_of z v.step) base ∙ ap (λ (z : Derivation). proof_of u.base z) step

pub proof_whole : (p : InvProof) → IsWhole (proof_text p)
proof_whole p =
    whole_later (many_text (derivation_text Base) p.base) (derivation_text Step p.step)
    (many_whole (derivation_text Base) (derivation_whole Base) p.base) (derivation_whole Step p.step)

-- the shortest derivations at a depth
pub record IsShortest (depth : ℕ) : Type 0 where
  pub proof : InvProof
  pub fits : IsProof depth proof

pub shortest : (depth : ℕ) → IsShortest depth
shortest depth =
    let all = filled IsWritable no_derivation no_derivation_fits depth in
    record { proof = proof_of all.vs no_derivation; fits = record { base = all.many; step = no_derivation_fits } }

-- the derivations of a kept clause are missing after some
pub proof_fault : (n depth : ℕ) (done : List InvProof) → AllByRecursion (IsProof depth) done → length done < n
    → (rest bytes : List ℕ) (now place : ℕ) → bytes ≡ many_text proof_text done ++ rest
    → now + length rest ≡ place + length bytes → (f : Fault) → IsFault (IsProof depth) proof_text rest now f
    → IsFault (AreMany n (IsProof depth)) (many_text proof_text) bytes place f
proof_fault n depth done fd less rest bytes now place is left f e =
    let least = shortest depth in
    many_fault (IsProof depth) proof_text (proof_tells depth) proof_whole least.proof least.fits n done fd less rest bytes now place is left f e
