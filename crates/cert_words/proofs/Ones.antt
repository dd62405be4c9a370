-- One word of a kind.
use Rattle.std.proofs.Common.{if◌then◌else◌, ◌≡◌, ◌≢◌, ℕ, Bool, true, false, Option, None, Some, Bor, MatchOption, is_some, IsTrue, ◌↔◌, List, []}
use Rattle.std.proofs.Common.{◌∷◌, ◌++◌, refl, sym, ap, ◌∙◌, subst}
use Rattle.cert_words.specs.declared.words.Words.{Words}
use Rattle.cert_words.specs.declared.stops.Stop.TheVariants.{Bad, Early}
use Rattle.cert_words.specs.Growth.{Grows, Fails}
use Rattle.cert_words.specs.Parts.{left, is_cut, one, Passes, HasPart, HasPartBefore, IsPartStop}
use Rattle.cert_words.proofs.RowLemmas.{never, part_bad, part_early, Fails-front, Fails-end, Passes-none}

-- the bytes are the beginning of the word of a value that fits
abbrev pub MayBe : {V : Type 0} → (V → Type 0) → (V → List ℕ) → List ℕ → Type 0
MayBe {V} Fits word p = (more : List ℕ) × (v : V) × Fits v × (p ++ more ≡ word v)

-- the last word is cut off
pub one_cut : {V : Type 0} (Fits : V → Type 0) (word : V → List ℕ) (was : Words) (p : List ℕ) (b : Bool) → (is_cut was ≡ true) × (left was ≡ p ∷ [])
    → IsTrue b ↔ MayBe Fits word p → IsPartStop Fits (one word) was (if b then Early else Bad)
one_cut Fits word was p true next may =
    let g = may.0 refl in
    part_early Fits (one word) was next.0
    (λ tail.
    subst (λ (y : List (List ℕ)). Grows (HasPartBefore Fits (one word) tail) y) (sym next.1)
    (g.0, tail g.1, record { value = g.1; fits = g.2; is = ap (λ y. y ∷ tail g.1) g.3 }))
one_cut Fits word was p false next may =
    part_bad Fits (one word) was
    (subst (λ (c : Bool). Fails c (HasPart Fits (one word)) (left was)) (sym next.0)
    (λ g. by (subst (λ (y : List (List ℕ)). Grows (HasPart Fits (one word)) y) next.1 g)))
  where
    by : Grows (HasPart Fits (one word)) (p ∷ []) → ⊥
    by (w, others, found) = let is = found.is in let same : p ++ w ≡ word found.value = cc in never (may.1 (w, found.value, found.fits, same))

-- a whole word that is none of the kind
pub one_bad : {V : Type 0} (Fits : V → Type 0) (word : V → List ℕ) (w : List ℕ) (was now : Words) → Passes (w ∷ []) was now
    → ((v : V) → Fits v → w ≢ word v) → IsPartStop Fits (one word) was Bad
one_bad Fits word w was now passes none =
    part_bad Fits (one word) was
    (Fails-front (HasPart Fits (one word)) (w ∷ []) was now passes
    (λ x found. let is = found.is in let same : w ≡ word found.value = cc in none found.value found.fits same))

-- no word is left
pub one_none : {V : Type 0} (Fits : V → Type 0) (word : V → List ℕ) (was : Words) → left was ≡ [] → IsPartStop Fits (one word) was Bad
one_none Fits word was end =
    part_bad Fits (one word) was (Fails-end (HasPart Fits (one word)) [] was was (Passes-none was) end (λ found. let is = found.is in absurd cc))

-- a word that is due, where the line is cut off in it
pub due_front : (due p : List ℕ) (o : Option (Bor (List ℕ))) → MatchOption o ((rest : List ℕ) → due ≢ p ++ rest) (λ x. due ≡ p ++ x.now)
    → IsTrue (is_some o) ↔ MayBe (λ w. w ≡ due) (λ w. w) p
due_front due p None none = (λ t. absurd (never t), λ m. absurd (none m.0 (sym (m.3 ∙ m.2))))
due_front due p (Some x) front = (λ t. (x.now, due, refl, sym front), λ m. refl)
