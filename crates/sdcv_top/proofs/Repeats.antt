-- What is printed of a check, and that a check of what was saved repeats the verdicts.
use Rattle.std.proofs.Common.{◌≡◌, ◌≢◌, ℕ, List, [], ◌∷◌, length, Some, Result, Ok, Err, ap, sym, subst, ◌∙◌, inl, inr}
use Rattle.std.specs.List.{concat}
use Rattle.cert_values.specs.declared.faults.CertFault.{CertFault}
use Rattle.cert_values.specs.declared.faults.CertFault.TheVariants.{Memory}
use Rattle.answer_lines.specs.Certs.{accepted_lines, rejected_line}
use Rattle.run_ends.specs.declared.statuses.Ending.TheVariants as ending
use Rattle.sdcv_top.specs.Outcomes.{Outcome, prints}
use Rattle.std.specs.Prelude.{Vec}
use Rattle.std.specs.declared.alloc.Global.{Global}
use Rattle.net_model.specs.declared.netlist.Design.{Design}
use Rattle.net_model.specs.declared.claims.Claim.{Claim}
use Rattle.report_text.specs.Reports.{bytes_of_lines}
use Rattle.report_text.proofs.ReadBack.{bytes_joined}
use Rattle.judgements.specs.Reports.{joined}
use Rattle.cert_defs.specs.Accepted.{justified_numbers}
use Rattle.cert_call.specs.Texts.{IsAcceptedText}
use Rattle.run_options.specs.declared.options.RunOptions.{RunOptions}
use Rattle.design_stages.specs.declared.designs.Designed.{Designed}
use Rattle.sdcv_top.specs.Headline.{free_bits}
use Rattle.sdcv_top.specs.Stages.{After, AfterText}
use Rattle.sdcv_top.specs.Laws.{CheckRepeats}
use Rattle.sdcv_top.specs.Jobs.{Checks, TellsCheck, IsChecked, Checked}
use Rattle.cert_check.specs.Checking.{IsAnswerFor}
use Rattle.sdcv_top.proofs.Telling.{numbers_told}

-- want of memory has no line
not_memory : (fault : CertFault) (line : List ℕ) → rejected_line fault ≡ Some line → fault ≢ Memory
not_memory fault line told same = let none : rejected_line Memory ≡ Some line = subst (λ f. rejected_line f ≡ Some line) same told in absurd cc

-- what is told of a check whose answer is this list
pub told_of_list : (count : ℕ) (numbers : List ℕ) (result : Result (List ℕ) CertFault) (due : Outcome) → IsAnswerFor numbers result
    → TellsCheck count result due → due ≡ prints ending.Done (concat (accepted_lines numbers count))
told_of_list count numbers (Ok found) due same told = told ∙ ap (λ (xs : List ℕ). prints ending.Done (concat (accepted_lines xs count))) same
told_of_list count numbers (Err fault) due memory told = absurd (not_memory fault told.0 told.1 memory)

-- a certificate is accepted, and the lines that say so are printed
pub checked_by : (d : Design) (claims other : List Claim) (text numbers : List ℕ) (lines : List (Vec ℕ Global)) (due : Outcome) → other ≡ claims
    → Checks d other text (Ok numbers) → bytes_of_lines lines ≡ accepted_lines numbers (length other)
    → due ≡ prints ending.Done (joined lines) → IsChecked d claims text due
checked_by d claims other text numbers lines due same checks are told =
    let bytes : joined lines ≡ concat (accepted_lines numbers (length other)) = bytes_joined lines ∙ ap concat are in
    let here : IsChecked d other text due = (Ok numbers, checks, told ∙ ap (prints ending.Done) bytes) in
    subst (λ (cs : List Claim). IsChecked d cs text due) same here

-- the only entry of a list of one
only_bytes : (name bytes other : List ℕ) → (let xs : List (List ℕ × List ℕ) = (name, bytes) ∷ [] in xs) ≡ (name, other) ∷ [] → bytes ≡ other
only_bytes name bytes other same = ap (λ (xs : List (List ℕ × List ℕ)). elim xs [ [] ↦ bytes | x ∷ rest ↦ x.1 ]) same

text_of_ok : (text bytes : List ℕ) → (let r : Result (List ℕ) (List ℕ) = Ok text in r) ≡ Ok bytes → text ≡ bytes
text_of_ok text bytes same = ap (λ (r : Result (List ℕ) (List ℕ)). elim r [ Ok t ↦ t | Err e ↦ text ]) same

-- the text that is checked is that of the certificate
pub repeats : (d : Designed) (o : RunOptions) → CheckRepeats d o
unfolding Checked AfterText After
repeats d o name bytes json extra due again report saved (inl (text, read, last)) =
    let found = last.1 in
    let cert = report.certificate in
    let is = report.is_told in
    let numbers = numbers_told d.linked.design (free_bits d.linked.names) d.selected.claims report.judged.verdicts report.told.verdicts is.right.right.as_many
    is.each in
    let same : cert.0 ≡ text = sym (text_of_ok text bytes read ∙ only_bytes name bytes cert.0 (sym saved ∙ cert.2)) in
    let accepted = subst (λ (t : List ℕ). IsAcceptedText d.linked.design d.selected.claims t (justified_numbers report.judged.verdicts)) same cert.1.accepted in
    told_of_list (length d.selected.claims) (justified_numbers report.judged.verdicts) found.0 again (found.1.only _ accepted) found.2
    ∙ ap (λ (ns : List ℕ). prints ending.Done (concat (accepted_lines ns (length d.selected.claims)))) (sym numbers)
repeats d o name bytes json extra due again report saved (inr (line, read, none, refusal)) = absurd cc
