-- How a stage leads on that finds one value alone.
use Rattle.std.proofs.Common.{◌≡◌, ℕ, List, ◌∷◌, Result, Ok, Err, ap, subst, inl, inr}
use Rattle.design_stages.specs.Stages.{Found}
use Rattle.sdcv_top.specs.Outcomes.{Outcome}
use Rattle.sdcv_top.specs.Reads.{Got}
use Rattle.sdcv_top.specs.Stages.{Due, After, AfterText}

-- a stage that finds no other value and never refuses leads on with this one
pub goes_on : {A : Type 0} (Finds : Found A → Type 0) (next : A → Due) (value : A) (reads : List Got) (due : Outcome)
    → ((other : A) → Finds (Ok other) → other ≡ value) → ((line : List ℕ) → ¬ Finds (Err line))
    → After Finds next reads due → next value reads due
unfolding After
goes_on {A} Finds next value reads due alone never (inl (other, found, rest)) = subst (λ (v : A). next v reads due) (alone other found) rest
goes_on Finds next value reads due alone never (inr (line, found, none, refusal)) = absurd (never line found)

-- a stage that finds this value may lead on with it
pub leads_on : {A : Type 0} (Finds : Found A → Type 0) (next : A → Due) (value : A) (reads : List Got) (due : Outcome) → Finds (Ok value)
    → next value reads due → After Finds next reads due
unfolding After
leads_on Finds next value reads due found rest = inl (value, found, rest)

-- so it is where the stage reads a text
pub goes_on_text : {A : Type 0} (Finds : Got → Found A → Type 0) (next : A → Due) (value : A) (got : Got) (reads : List Got) (due : Outcome)
    → ((other : A) → Finds got (Ok other) → other ≡ value) → ((line : List ℕ) → ¬ Finds got (Err line))
    → AfterText Finds next (got ∷ reads) due
    → next value reads due
unfolding AfterText
goes_on_text Finds next value got reads due alone never rest = goes_on (Finds got) next value reads due alone never rest

pub leads_on_text : {A : Type 0} (Finds : Got → Found A → Type 0) (next : A → Due) (value : A) (got : Got) (reads : List Got) (due : Outcome)
    → Finds got (Ok value) → next value reads due → AfterText Finds next (got ∷ reads) due
unfolding AfterText
leads_on_text Finds next value got reads due found rest = leads_on (Finds got) next value reads due found rest

-- a found text is that text
pub text_alone : (text other : List ℕ) → (let r : Result (List ℕ) (List ℕ) = Ok other in r) ≡ Ok text → other ≡ text
text_alone text other same = ap (λ (r : Result (List ℕ) (List ℕ)). elim r [ Ok t ↦ t | Err e ↦ other ]) same

-- and a text is never refused
pub never_refused : (text line : List ℕ) → ¬ ((let r : Result (List ℕ) (List ℕ) = Err line in r) ≡ Ok text)
never_refused text line same = absurd cc
