-- Rows of marks.
use Rattle.std.proofs.Common.{◌≡◌, ◌≢◌, ℕ, ◌+◌, ◌<◌, ◌≤◌, Bool, true, false, ◌||◌, List, length, take, refl, ap, sym, ◌∙◌, subst, arith, inl, inr}
use Rattle.std.proofs.Common.{get_or, get_or-set_same, get_or-set_other, length-set}
use Rattle.std.specs.Prelude.{Some, slice_get, nat_eq}
use Rattle.std.proofs.Math.ListN.{set}
use Rattle.std.proofs.lemmas.Bool.{cases_eq, eq-eqb, ne_eqb, or_right}
use Rattle.std.proofs.lemmas.List.{take_all}
use Rattle.std.proofs.lemmas.List.Elements.{All-get_or}
use Rattle.std.proofs.lemmas.List.Folds.{list_any_more}
use Rattle.std.proofs.lemmas.Option.{slice_get_within, get_or_from_slice_get}
use Rattle.sdcv_base.specs.Seqs.{is_marked}
use Rattle.net_model.specs.Netlist.{AllBelow}
use Rattle.link_defs.specs.Cuts.{stands_in}
use Rattle.link_cuts.specs.Cutting.{IsRowOf}

-- what stands in a list of numbers below a limit is below it
pub at_below : (limit : ℕ) (list : List ℕ) (i n : ℕ) → AllBelow limit list → slice_get list i ≡ Some n → n < limit
at_below limit list i n below at =
    subst (λ (m : ℕ). m < limit) (get_or_from_slice_get list i n 0 at)
    (All-get_or (λ (m : ℕ). m < limit) list i 0 (slice_get_within list i n at) below)

or_none : (b : Bool) → (b || false) ≡ b
or_none true = refl
or_none false = refl

-- one number more is marked
pub row_more : (nets : ℕ) (list : List ℕ) (row : List Bool) (i net : ℕ) → slice_get list i ≡ Some net → net < nets
    → IsRowOf nets (take i list) row → IsRowOf nets (take (i + 1) list) (set row net true)
row_more nets list row i net at below is =
    let within : i < length list = slice_get_within list i net at in
    let here : is_marked (set row net true) net ≡ true = get_or-set_same row net true false (omega (arith, is.len)) in
    let kept : (n : ℕ) → n ≢ net → is_marked (set row net true) n ≡ is_marked row n = λ n apart. get_or-set_other row net n true false apart in
    let read : get_or list i 0 ≡ net = get_or_from_slice_get list i net 0 at in
    let more : (n : ℕ) → stands_in (take (i + 1) list) n ≡ (stands_in (take i list) n || nat_eq n net) =
    λ n. list_any_more (nat_eq n) list i 0 within ∙ ap (λ (m : ℕ). stands_in (take i list) n || nat_eq n m) read in
    record {
      len = length-set row net true ∙ is.len;
      marks = λ n. elim (cases_eq n net) [
        | inl same ↦
            ap (λ (m : ℕ). is_marked (set row net true) m) same ∙ here
            ∙ sym (more n ∙ or_right (stands_in (take i list) n) (nat_eq n net) (eq-eqb n net same))
        | inr apart ↦
            kept n apart ∙ is.marks n
            ∙ sym (more n ∙ ap (λ (b : Bool). stands_in (take i list) n || b) (ne_eqb n net apart) ∙ or_none (stands_in (take i list) n))
      ];
    }

-- all are
pub row_all : (nets : ℕ) (list : List ℕ) (row : List Bool) (i : ℕ) → length list ≤ i → IsRowOf nets (take i list) row → IsRowOf nets list row
row_all nets list row i all is = subst (λ (xs : List ℕ). IsRowOf nets xs row) (take_all i list all) is
