-- The clock tree as rows of marks.
use Rattle.std.proofs.Common.{◌≡◌, ◌≢◌, ℕ, ◌+◌, ◌<◌, ◌≤◌, Bool, true, false, not, ◌&&◌, List, length, refl, ap, sym, ◌∙◌, subst, arith, inl, inr}
use Rattle.std.proofs.Common.{get_or-set_same, get_or-set_other, length-set}
use Rattle.std.proofs.Math.ListN.{set}
use Rattle.std.proofs.lemmas.Bool.{cases_eq, cases_lt}
use Rattle.std.proofs.lemmas.List.{get_or_past}
use Rattle.sdcv_base.specs.Seqs.{is_marked}
use Rattle.link_defs.specs.declared.circuits.Circuit.{Circuit}
use Rattle.link_defs.specs.Circuits.{OnTree}
use Rattle.link_defs.specs.Cuts.{IsTreeOf}
use Rattle.link_design.specs.Trees.{IsWalked, is_left}

-- the first places of a row have the marks of one row without those of another
pub record IsLeftTo (tree odd row : List Bool) (k : ℕ) : Type 0 where
  pub len : length row ≡ length tree
  pub at : (net : ℕ) → net < k → is_marked row net ≡ is_left tree odd net
  pub after : (net : ℕ) → k ≤ net → is_marked row net ≡ false

-- one place more
pub left_more : (tree odd row : List Bool) (k : ℕ) (b : Bool) → k < length tree → b ≡ is_left tree odd k → IsLeftTo tree odd row k
    → IsLeftTo tree odd (set row k b) (k + 1)
left_more tree odd row k b less is to =
    let here : is_marked (set row k b) k ≡ b = get_or-set_same row k b false (omega (arith, to.len)) in
    let kept : (n : ℕ) → n ≢ k → is_marked (set row k b) n ≡ is_marked row n = λ n apart. get_or-set_other row k n b false apart in
    record {
      len = length-set row k b ∙ to.len;
      at = λ net below. elim (cases_eq net k) [
        | inl same ↦ subst (λ (n : ℕ). is_marked (set row k b) n ≡ is_left tree odd n) (sym same) (here ∙ is)
        | inr apart ↦ kept net apart ∙ to.at net (omega (arith, apart))
      ];
      after = λ net above. kept net (omega arith) ∙ to.after net (omega arith);
    }

-- a net beyond the row is none of it
beyond_row : (tree odd : List Bool) (net : ℕ) → is_marked tree net ≡ false → is_left tree odd net ≡ false
beyond_row tree odd net none = ap (λ (b : Bool). b && not (is_marked odd net)) none

past : (xs : List Bool) (n : ℕ) → length xs ≤ n → is_marked xs n ≡ false
past xs n less = get_or_past xs n false less

-- all places
pub left_all : (tree odd row : List Bool) (k : ℕ) → length tree ≤ k → IsLeftTo tree odd row k → (net : ℕ) → is_marked row net ≡ is_left tree odd net
left_all tree odd row k all to net = elim (cases_lt net k) [
  | inl below ↦ to.at net below
  | inr above ↦ to.after net (omega arith) ∙ sym (beyond_row tree odd net (past tree net (omega arith)))
]

left_split : (a b : Bool) → (a && not b) ≡ true → (a ≡ true) × (b ≡ false)
left_split true false is = (refl, refl)
left_split true true is = absurd (cc)
left_split false b is = absurd (cc)

left_join : (a b : Bool) → a ≡ true → b ≡ false → (a && not b) ≡ true
left_join true false is off = refl
left_join true true is off = absurd (cc)
left_join false b is off = absurd (cc)

-- the two rows are the clock tree
pub tree_rows_are : (c : Circuit) (tree odd lost all even : List Bool) → IsWalked c tree odd lost
    → ((net : ℕ) → is_marked all net ≡ is_left tree lost net) → ((net : ℕ) → is_marked even net ≡ is_left all odd net)
    → IsTreeOf c (record { all = all; even = even })
tree_rows_are c tree odd lost all even row all_is even_is =
    let on : (net : ℕ) → is_marked all net ≡ true → OnTree c net (is_marked odd net) = λ net hit.
    let both = left_split (is_marked tree net) (is_marked lost net) (sym (all_is net) ∙ hit) in row.on net both.0 both.1 in
    let marked : (net : ℕ) (inverted : Bool) → OnTree c net inverted → is_marked all net ≡ true = λ net inverted by.
    let of = row.all net inverted by in all_is net ∙ left_join (is_marked tree net) (is_marked lost net) of.0 of.2 in
    record {
      all = λ net. ((λ hit. (is_marked odd net, on net hit)), (λ has. marked net has.0 has.1));
      even = λ net. (
        (λ hit. let both = left_split (is_marked all net) (is_marked odd net) (sym (even_is net) ∙ hit) in
            subst (λ (b : Bool). OnTree c net b) both.1 (on net both.0)),
        (λ by. even_is net ∙ left_join (is_marked all net) (is_marked odd net) (marked net false by) (row.all net false by).1),
      );
    }
