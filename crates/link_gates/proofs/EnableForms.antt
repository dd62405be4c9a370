-- The function of a clock gate's enables: 1 where one of them is.
use Rattle.std.proofs.Common.{◌≡◌, ℕ, zero, suc, ◌+◌, ◌<◌, Bool, ◌||◌, List, [], ◌∷◌, length, take, refl, ap, sym, ◌∙◌, arith}
use Rattle.std.specs.Prelude.{slice_index}
use Rattle.std.specs.List.{list_any}
use Rattle.std.proofs.lemmas.List.{take_all}
use Rattle.std.proofs.lemmas.List.Folds.{list_any_more}
use Rattle.net_model.specs.Form.{OrForm, value}
use Rattle.link_defs.specs.Parts.{folded}
use Rattle.link_defs.specs.GatedDesigns.{any_of}

-- the first places, or-ed, are 1 where one of them is
value-folded_or : (v pins : ℕ → Bool) (xs : List ℕ) (n : ℕ) → n < length xs → ((i : ℕ) → i < length xs → pins i ≡ v (slice_index xs i))
    → value (folded OrForm n) pins ≡ list_any v (take (n + 1) xs)
value-folded_or v pins xs zero lt same = same 0 lt ∙ sym (list_any_more v xs 0 0 lt)
value-folded_or v pins xs (suc n) lt same =
    let next : n + 1 ≡ suc n = omega arith in
    let last : n + 1 < length xs = omega (arith, lt) in
    ap (λ (b : Bool). b || pins (n + 1)) (value-folded_or v pins xs n (omega (arith, lt)) same)
    ∙ ap (λ (b : Bool). list_any v (take (n + 1) xs) || b) (same (n + 1) last)
    ∙ sym (list_any_more v xs (n + 1) 0 last)
    ∙ ap (λ (m : ℕ). list_any v (take (m + 1) xs)) next

-- all places, or-ed, are
pub value-any_of : (v pins : ℕ → Bool) (xs : List ℕ) → ((i : ℕ) → i < length xs → pins i ≡ v (slice_index xs i))
    → value (any_of (length xs)) pins ≡ list_any v xs
value-any_of v pins [] same = refl
value-any_of v pins (x ∷ xs) same =
    value-folded_or v pins (x ∷ xs) (length xs) (omega arith) same ∙ ap (list_any v) (take_all (length xs + 1) (x ∷ xs) (omega arith))
