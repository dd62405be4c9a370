-- Derivations in a text.
use Rattle.std.proofs.Common.{inl, ◌≡◌, ℕ, ◌+◌, ◌<◌, List, [], ◌++◌, length, refl, sym, ap, ◌∙◌, append_assoc, append-nil, arith}
use Rattle.std.specs.List.{AllByRecursion}
use Rattle.std.proofs.lemmas.List.{append_cancel_left}
use Rattle.proof_log.specs.declared.derivations.DerivStep.{DerivStep}
use Rattle.proof_log.specs.declared.derivations.Derivation.{Derivation}
use Rattle.net_model.specs.declared.queries.Phase.{Phase}
use Rattle.cert_lines.specs.Kinds.{text_of, head_words, IsCount, step_words, IsStep}
use Rattle.cert_lines.proofs.KindLemmas.{head_kind, step_kind}
use Rattle.cert_lines.specs.declared.faults.Fault.{Fault}
use Rattle.cert_lines.specs.Texts.{IsWhole, IsFault, AreMany, many_text}
use Rattle.cert_lines.specs.Derivations.{derivation_text, IsWritable}
use Rattle.cert_lines.proofs.Leading.{Tells, Leads, IsPast, past_start, past_next, leads_past, whole_later, fault_later}
use Rattle.cert_lines.proofs.LineTexts.{line_tells, line_whole}
use Rattle.cert_lines.proofs.Shortest.{no_step, no_step_fits}
use Rattle.cert_lines.proofs.ManyTexts.{many_tells, many_whole, many_fault, filled}

step_tells : Tells IsStep (text_of step_words)
step_tells = line_tells IsStep step_words step_kind

abbrev steps_text : List DerivStep → List ℕ
steps_text steps = many_text (text_of step_words) steps

pub steps_fault : (n : ℕ) (done : List DerivStep) → AllByRecursion IsStep done → length done < n → (rest bytes : List ℕ) (now place : ℕ)
    → bytes ≡ many_text (text_of step_words) done ++ rest
    → now + length rest ≡ place + length bytes → (f : Fault) → IsFault IsStep (text_of step_words) rest now f
    → IsFault (AreMany n IsStep) (many_text (text_of step_words)) bytes place f
steps_fault n done fd less rest bytes now place is left f e =
    many_fault IsStep (text_of step_words) step_tells (line_whole step_words) no_step no_step_fits n done fd less rest bytes now place is left f e

head_past : (phase : Phase) (n : ℕ) → IsCount n
    → IsPast IsWritable (derivation_text phase) (text_of (head_words phase) n) (λ (d : Derivation). Unit {0} × (length d.steps ≡ n))
    (λ d. steps_text d.steps)
head_past phase n fn =
    past_next IsWritable (derivation_text phase) IsCount (text_of (head_words phase)) (line_tells IsCount (head_words phase) (head_kind phase))
    [] (λ d. Unit {0}) (derivation_text phase) (past_start IsWritable (derivation_text phase)) (λ d. length d.steps) (λ d. steps_text d.steps)
    (λ d fd a. (fd.few, refl)) n fn

made : (steps : List DerivStep) (n : ℕ) → AreMany n IsStep steps → IsCount n → IsWritable (record { steps = steps })
made steps n many few = let count = many.count in record { few = omega arith; steps = record { count = refl; fit = many.fit } }

head_leads : (phase : Phase) → Leads IsWritable (derivation_text phase) IsCount (text_of (head_words phase)) []
head_leads phase =
    leads_past IsWritable (derivation_text phase) IsCount (text_of (head_words phase)) [] (λ d. Unit {0}) (derivation_text phase)
    (past_start IsWritable (derivation_text phase))
    (λ d. length d.steps) (λ d. steps_text d.steps) (λ d fd a. (fd.few, refl)) (inl refl)
    (λ n fn.
    let all = filled IsStep no_step no_step_fits n in
    (record { steps = all.vs }, made all.vs n all.many fn, steps_text all.vs, ap (λ (k : ℕ). text_of (head_words phase) k ++ steps_text all.vs) all.many.count))

steps_leads : (phase : Phase) (n : ℕ) → IsCount n
    → Leads IsWritable (derivation_text phase) (AreMany n IsStep) (many_text (text_of step_words)) (text_of (head_words phase) n)
steps_leads phase n fn =
    leads_past IsWritable (derivation_text phase) (AreMany n IsStep) (many_text (text_of step_words)) (text_of (head_words phase) n)
    (λ (d : Derivation). Unit {0} × (length d.steps ≡ n)) (λ d. steps_text d.steps) (head_past phase n fn)
    (λ d. d.steps) (λ d. []) (λ d fd a. (record { count = a.1; fit = fd.steps.fit }, sym (append-nil (steps_text d.steps)))) (line_whole (head_words phase) n)
    (λ steps many. (
      record { steps = steps },
      made steps n many fn,
      [],
      ap (λ (k : ℕ). text_of (head_words phase) k ++ steps_text steps) many.count
          ∙ ap (λ z. text_of (head_words phase) n ++ z) (sym (append-nil (steps_text steps))),
    ))

-- the first line of a derivation is missing
pub head_fault : (phase : Phase) (bytes : List ℕ) (place : ℕ) (f : Fault) → IsFault IsCount (text_of (head_words phase)) bytes place f
    → IsFault IsWritable (derivation_text phase) bytes place f
head_fault phase bytes place f e =
    fault_later IsWritable (derivation_text phase) IsCount (text_of (head_words phase)) [] (head_leads phase) bytes bytes place place refl refl f e

-- its steps are
pub body_fault : (phase : Phase) (n : ℕ) → IsCount n → (rest bytes : List ℕ) (now place : ℕ) → bytes ≡ text_of (head_words phase) n ++ rest
    → now + length rest ≡ place + length bytes
    → (f : Fault) → IsFault (AreMany n IsStep) (many_text (text_of step_words)) rest now f → IsFault IsWritable (derivation_text phase) bytes place f
body_fault phase n fn rest bytes now place is left f e =
    fault_later IsWritable (derivation_text phase) (AreMany n IsStep) (many_text (text_of step_words)) (text_of (head_words phase) n)
    (steps_leads phase n fn) rest bytes now place is left f e

-- both were read
pub record IsReadAs (phase : Phase) (bytes rest : List ℕ) (d : Derivation) : Type 0 where
  pub fits : IsWritable d
  pub is : bytes ≡ derivation_text phase d ++ rest

pub derivation_read : (phase : Phase) (n : ℕ) (steps : List DerivStep) (bytes mid rest : List ℕ) → IsCount n → AreMany n IsStep steps
    → bytes ≡ text_of (head_words phase) n ++ mid → mid ≡ many_text (text_of step_words) steps ++ rest
    → IsReadAs phase bytes rest (record { steps = steps })
derivation_read phase n steps bytes mid rest fn many head body = record {
  fits = made steps n many fn;
  is =
      head ∙ ap (λ z. text_of (head_words phase) n ++ z) body ∙ sym (append_assoc (text_of (head_words phase) n) (steps_text steps) rest)
      ∙ ap (λ (k : ℕ). (text_of (head_words phase) k ++ steps_text steps) ++ rest) (sym many.count);
}

pub derivation_tells : (phase : Phase) → Tells IsWritable (derivation_text phase)
derivation_tells phase v u fv fu x y e =
    let head = text_of (head_words phase) in
    let both : head (length v.steps) ++ (steps_text v.steps ++ x) ≡ head (length u.steps) ++ (steps_text u.steps ++ y) =
    sym (append_assoc (head (length v.steps)) (steps_text v.steps) x) ∙ e ∙ append_assoc (head (length u.steps)) (steps_text u.steps) y in
    let count : length v.steps ≡ length u.steps =
    line_tells IsCount (head_words phase) (head_kind phase) (length v.steps) (length u.steps) fv.few fu.few (steps_text v.steps ++ x)
    (steps_text u.steps ++ y) both in
    let rest : steps_text v.steps ++ x ≡ steps_text u.steps ++ y =
    append_cancel_left (head (length v.steps)) (steps_text v.steps ++ x) (steps_text u.steps ++ y)
    (both ∙ ap (λ (k : ℕ). head k ++ (steps_text u.steps ++ y)) (sym count)) in
    let same : v.steps ≡ u.steps =
    many_tells IsStep (text_of step_words) step_tells (length u.steps) v.steps u.steps
    (record { count = count; fit = fv.steps.fit }) fu.steps x y rest in
    ap (λ (z : List DerivStep). record { steps = z }) same

pub derivation_whole : (phase : Phase) (d : Derivation) → IsWhole (derivation_text phase d)
derivation_whole phase d =
    whole_later (text_of (head_words phase) (length d.steps)) (steps_text d.steps) (line_whole (head_words phase) (length d.steps))
    (many_whole (text_of step_words) (line_whole step_words) d.steps)

-- the derivation without a step
abbrev pub no_derivation : Derivation
no_derivation = record { steps = [] }

pub no_derivation_fits : IsWritable no_derivation
no_derivation_fits = record { few = omega arith; steps = record { count = refl; fit = tt } }
