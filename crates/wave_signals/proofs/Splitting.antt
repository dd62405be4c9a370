-- A text around its index, and a name around its scopes.
use Rattle.std.proofs.Common.{◌≡◌, ℕ, Bool, true, false, not, refl, ◌+◌, ◌-◌, ◌<◌, ◌≤◌, List, [], ◌∷◌, ◌++◌, length, take, drop, get_or, Option, Some, ap, sym, ◌∙◌, arith, append_assoc, append-nil}
use Rattle.std.specs.Prelude.{slice_range, codes}
use Rattle.std.specs.Fmt.{decimal}
use Rattle.std.proofs.Math.Seq.{take-add}
use Rattle.std.proofs.lemmas.Grind.{flat_map-append}
use Rattle.std.proofs.lemmas.List.{take-append-drop, drop_more, take_more}
use Rattle.std.proofs.lemmas.List.Folds.{drop_split}
use Rattle.std.specs.Str.{bytes_eq}
use Rattle.std.proofs.lemmas.Slice.Eq.{bytes_eq-Decides}
use Rattle.wave_signals.specs.Signals.{scopes_text, index_text}

-- the index between its brackets
pub around_index : (text digits : List ℕ) (begin close number : ℕ) → begin < close → close < length text → get_or text begin 0 ≡ 91 → get_or text close 0 ≡ 93
    → digits ≡ slice_range text (begin + 1) close → decimal number ≡ digits
    → take begin text ++ (index_text (Some number) ++ drop (close + 1) text) ≡ text
around_index text digits begin close number order within opens closes are written =
    let rest : List ℕ = drop (close + 1) text in
    let ends : drop close text ≡ 93 ∷ rest = drop_more text close 0 within ∙ ap (λ (b : ℕ). b ∷ rest) closes in
    let inner : drop (begin + 1) text ≡ decimal number ++ 93 ∷ rest =
    drop_split text (begin + 1) close (omega arith)
    ∙ (ap (λ (t : List ℕ). t ++ drop close text) (sym (written ∙ are)) ∙ ap (λ (t : List ℕ). decimal number ++ t) ends) in
    let begins : drop begin text ≡ 91 ∷ (decimal number ++ 93 ∷ rest) =
    drop_more text begin 0 (omega arith) ∙ (ap (λ (b : ℕ). b ∷ drop (begin + 1) text) opens ∙ ap (λ (t : List ℕ). 91 ∷ t) inner) in
    let joined : index_text (Some number) ++ rest ≡ drop begin text = ap (λ (t : List ℕ). 91 ∷ t) (append_assoc (decimal number) (93 ∷ []) rest) ∙ sym begins in
    ap (λ (t : List ℕ). take begin text ++ t) joined ∙ take-append-drop begin text

-- the scopes up to one more `/`
pub scopes_more : (scopes : List (List ℕ)) (name part : List ℕ) (rest place : ℕ) → rest ≤ place → place < length name → get_or name place 0 ≡ 47
    → part ≡ slice_range name rest place → scopes_text scopes ≡ take rest name → scopes_text (scopes ++ part ∷ []) ≡ take (place + 1) name
scopes_more scopes name part rest place order within slash cut before =
    let scope : List ℕ → List ℕ = λ s. s ++ codes "/" in
    let up : rest + (place - rest) ≡ place = omega arith in
    let whole : take place name ≡ take rest name ++ part =
    ap (λ (n : ℕ). take n name) (sym up) ∙ (take-add rest (place - rest) name ∙ ap (λ (t : List ℕ). take rest name ++ t) (sym cut)) in
    let longer : take (place + 1) name ≡ (take rest name ++ part) ++ 47 ∷ [] =
    take_more name place 0 within ∙ (ap (λ (b : ℕ). take place name ++ b ∷ []) slash ∙ ap (λ (t : List ℕ). t ++ 47 ∷ []) whole) in
    flat_map-append scope scopes (part ∷ [])
    ∙ (ap (λ (t : List ℕ). scopes_text scopes ++ t) (append-nil (part ++ 47 ∷ []))
    ∙ (ap (λ (t : List ℕ). t ++ (part ++ 47 ∷ [])) before ∙ (sym (append_assoc (take rest name) part (47 ∷ [])) ∙ sym longer)))

-- the name of its scopes and its last part
pub whole_name : (scopes : List (List ℕ)) (name part front back : List ℕ) (index : Option ℕ) (rest before after : ℕ) → scopes_text scopes ≡ take rest name
    → part ≡ drop rest name → front ≡ take before part → back ≡ drop after part → take before part ++ (index_text index ++ drop after part) ≡ part
    → scopes_text scopes ++ (front ++ (index_text index ++ back)) ≡ name
whole_name scopes name part front back index rest before after scoped cut fronts backs indexed =
    let last : front ++ (index_text index ++ back) ≡ drop rest name =
    ap (λ (t : List ℕ). t ++ (index_text index ++ back)) fronts
    ∙ (ap (λ (t : List ℕ). take before part ++ (index_text index ++ t)) backs ∙ (indexed ∙ cut)) in
    ap (λ (t : List ℕ). t ++ (front ++ (index_text index ++ back))) scoped ∙ (ap (λ (t : List ℕ). take rest name ++ t) last ∙ take-append-drop rest name)

-- two lists that are the same so far, and their next items
pub same_next : (xs ys : List (List ℕ)) (k : ℕ) (x y : List ℕ) → k < length xs → k < length ys → take k xs ≡ take k ys → x ≡ get_or xs k x → y ≡ get_or ys k y
    → x ≡ y → take (k + 1) xs ≡ take (k + 1) ys
same_next xs ys k x y low also before here there same =
    take_more xs k x low
    ∙ (ap (λ (l : List (List ℕ)). l ++ get_or xs k x ∷ []) before
    ∙ (ap (λ (z : List ℕ). take k ys ++ z ∷ []) (sym here ∙ (same ∙ there)) ∙ sym (take_more ys k y also)))

not_told : (b : Bool) → false ≡ not b → b ≡ true
not_told true e = refl
not_told false e = cc

-- texts of which no test tells that they differ
pub told_same : (xs ys : List ℕ) → false ≡ not (bytes_eq xs ys) → xs ≡ ys
told_same xs ys e = let (f, g) = bytes_eq-Decides xs ys in f (not_told (bytes_eq xs ys) e)
