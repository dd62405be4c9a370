-- Literals that are chosen place by place.
use Rattle.std.proofs.Common.{◌≡◌, ℕ, ◌+◌, ◌<◌, List, [], ◌∷◌, ◌++◌, length, get_or, drop, ap, sym, ◌∙◌, arith, append_assoc}
use Rattle.std.proofs.lemmas.List.{drop_more}
use Rattle.net_model.specs.declared.terns.Tern.{Tern}
use Rattle.net_model.specs.declared.terns.Tern.TheVariants.{Zero, One, Unknown}
use Rattle.cnf_encode.specs.Chosen.{chosen}

-- both lists begin with the items at the place
begin : (zeros ones : List ℕ) (ts : List Tern) (i z o : ℕ) → i < length zeros → length ones ≡ length zeros
    → chosen (drop i zeros) (drop i ones) ts ≡ chosen (get_or zeros i z ∷ drop (i + 1) zeros) (get_or ones i o ∷ drop (i + 1) ones) ts
begin zeros ones ts i z o lt long =
    let less : i < length ones = omega arith in
    ap (λ (xs : List ℕ). chosen xs (drop i ones) ts) (drop_more zeros i z lt)
    ∙ ap (λ (xs : List ℕ). chosen (get_or zeros i z ∷ drop (i + 1) zeros) xs ts) (drop_more ones i o less)

-- a place that is fixed to 0
pub zero_more : (lits zeros ones whole : List ℕ) (rest ts : List Tern) (i z : ℕ) → i < length zeros → length ones ≡ length zeros
    → z ≡ get_or zeros i z → rest ≡ Zero ∷ ts → lits ++ chosen (drop i zeros) (drop i ones) rest ≡ whole → (lits ++ z ∷ [])
    ++ chosen (drop (i + 1) zeros) (drop (i + 1) ones) ts ≡ whole
zero_more lits zeros ones whole rest ts i z lt long is fixed done =
    append_assoc lits (z ∷ []) (chosen (drop (i + 1) zeros) (drop (i + 1) ones) ts)
    ∙ ap (λ (x : ℕ). lits ++ x ∷ chosen (drop (i + 1) zeros) (drop (i + 1) ones) ts) is
    ∙ ap (λ (xs : List ℕ). lits ++ xs) (sym (begin zeros ones (Zero ∷ ts) i z 0 lt long))
    ∙ ap (λ (us : List Tern). lits ++ chosen (drop i zeros) (drop i ones) us) (sym fixed) ∙ done

-- a place that is fixed to 1
pub one_more : (lits zeros ones whole : List ℕ) (rest ts : List Tern) (i o : ℕ) → i < length zeros → length ones ≡ length zeros → o ≡ get_or ones i o
    → rest ≡ One ∷ ts → lits ++ chosen (drop i zeros) (drop i ones) rest ≡ whole → (lits ++ o ∷ []) ++ chosen (drop (i + 1) zeros)
    (drop (i + 1) ones) ts ≡ whole
one_more lits zeros ones whole rest ts i o lt long is fixed done =
    append_assoc lits (o ∷ []) (chosen (drop (i + 1) zeros) (drop (i + 1) ones) ts)
    ∙ ap (λ (x : ℕ). lits ++ x ∷ chosen (drop (i + 1) zeros) (drop (i + 1) ones) ts) is
    ∙ ap (λ (xs : List ℕ). lits ++ xs) (sym (begin zeros ones (One ∷ ts) i 0 o lt long))
    ∙ ap (λ (us : List Tern). lits ++ chosen (drop i zeros) (drop i ones) us) (sym fixed) ∙ done

-- a place that isn't fixed
pub unknown_more : (lits zeros ones whole : List ℕ) (rest ts : List Tern) (i : ℕ) → i < length zeros → length ones ≡ length zeros → rest ≡ Unknown
    ∷ ts → lits ++ chosen (drop i zeros) (drop i ones) rest ≡ whole → lits ++ chosen (drop (i + 1) zeros) (drop (i + 1) ones) ts ≡ whole
unknown_more lits zeros ones whole rest ts i lt long fixed done =
    ap (λ (xs : List ℕ). lits ++ xs) (sym (begin zeros ones (Unknown ∷ ts) i 0 0 lt long))
    ∙ ap (λ (us : List Tern). lits ++ chosen (drop i zeros) (drop i ones) us) (sym fixed) ∙ done
