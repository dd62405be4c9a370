-- A text that was read, and that the stage after it refuses.
use Rattle.std.proofs.Common.{◌≡◌, ℕ, List, Option, Result, Ok, Err, ap, subst, sym}
use Rattle.sdcv_base.specs.Hosts.{Files}
use Rattle.fault_lines.specs.declared.sources.Origin.{Origin}
use Rattle.design_stages.specs.declared.refusals.Refusal.{Refusal}
use Rattle.design_stages.specs.declared.refusals.Refusal.TheVariants as refusal
use Rattle.design_stages.specs.Stages.{Found, Finds}
use Rattle.sdcv_top.specs.declared.plans.Stop.{Stop}
use Rattle.sdcv_top.specs.Reads.{Asked, Got, Longer, ReadOf, Text}
use Rattle.sdcv_top.specs.Texts.{Itself, Unless}
use Rattle.sdcv_top.specs.Plans.{IsRead, ReadFinds, stop_of}

-- what is found of the text that was read is found of the answer
of_text : {A : Type 0} (from : Origin) (Reads : List ℕ → Found A → Type 0) (answer : Got) (text : List ℕ) (found : Found A)
    → Unless from Itself answer (Ok text) → Reads text found → Unless from Reads answer found
of_text from Reads (Text bytes) text found same is =
    let here : text ≡ bytes = ap (λ (r : Result (List ℕ) (List ℕ)). elim r [ Ok t ↦ t | Err e ↦ text ]) same in
    subst (λ (t : List ℕ). Reads t found) here is
of_text from Reads Longer text found same is = absurd cc

-- a stage refuses the text that was read
refused_text : {A : Type 0} (from : Origin) (Reads : List ℕ → Found A → Type 0) (file : ReadOf) (files : Option Files) (before now : Asked)
    (text : List ℕ) (why : Refusal) → IsRead (λ answer. Unless from Itself answer (Ok text)) file files before now → Finds (Reads text) (Err why)
    → ReadFinds (Unless from Reads) file files before now (Err (stop_of why))
refused_text from Reads file files before now text (refusal.Line line) read found =
    record { answer = read.answer; told = read.told; asked = read.asked; so = of_text from Reads read.answer text (Err line.items) read.so found }
refused_text from Reads file files before now text refusal.Memory read found = record { count = 1; asked = read.asked }

-- so it is where this is the answer
pub refused_by : {A : Type 0} (from : Origin) (Reads : List ℕ → Found A → Type 0) (file : ReadOf) (files : Option Files) (before now : Asked)
    (text : List ℕ) (why : Refusal) (result : Result A Stop) → IsRead (λ answer. Unless from Itself answer (Ok text)) file files before now
    → Finds (Reads text) (Err why) → result ≡ Err (stop_of why) → ReadFinds (Unless from Reads) file files before now result
refused_by {A} from Reads file files before now text why result read found is =
    subst (λ (r : Result A Stop). ReadFinds (Unless from Reads) file files before now r) (sym is)
    (refused_text from Reads file files before now text why read found)
