-- Names that all are new.
use Rattle.std.proofs.Common.{◌≡◌, ℕ, Bool, true, false, if◌then◌else◌, List, [], ◌∷◌, ◌++◌, Ok, Err, refl, sym, ap, ◌∙◌}
use Rattle.std.proofs.Common.{append_assoc, append-nil, subst}
use Rattle.texts.specs.Names.{is_among, are_distinct}
use Rattle.texts.proofs.NameLemmas.{are_distinct-push}
use Rattle.netlist_types.specs.declared.faults.VerFault.TheVariants as fault
use Rattle.verilog_scope.specs.Folds.{fold_ok}
use Rattle.verilog_scope.specs.Decls.{with_new}
use Rattle.verilog_scope.proofs.KeepLemmas.{step_gave}

one_case : (names : List (List ℕ)) (n : List ℕ) (b : Bool) (next : List (List ℕ)) → is_among n names ≡ b
    → (if b then Err (fault.TwiceName n) else Ok (names ++ n ∷ [])) ≡ Ok next → (is_among n names ≡ false) × (names ++ n ∷ [] ≡ next)
one_case names n true next among e = absurd cc
one_case names n false next absent e = (absent, cc)

grown : (names more last : List (List ℕ)) → are_distinct names ≡ true → fold_ok with_new names more ≡ Ok last
    → (last ≡ names ++ more) × (are_distinct last ≡ true)
unfolding fold_ok
grown names [] last differ e = let same : names ≡ last = cc in (
  sym same ∙ sym (append-nil names),
  subst (λ (l : List (List ℕ)). are_distinct l ≡ true) same differ,
)
grown names (n ∷ more) last differ e =
    let (next, one, rest) = step_gave (with_new names n) _ last e in
    let (absent, same) = one_case names n (is_among n names) next refl one in
    let still : are_distinct (names ++ n ∷ []) ≡ true = are_distinct-push names n ∙ rw (differ, absent) refl in
    let (is, all) = grown next more last (subst (λ (l : List (List ℕ)). are_distinct l ≡ true) same still) rest in
    (is ∙ ap (λ (l : List (List ℕ)). l ++ more) (sym same) ∙ append_assoc names (n ∷ []) more, all)

-- names that are new one after another are what is found, and differ
pub new_distinct : (names last : List (List ℕ)) → fold_ok with_new [] names ≡ Ok last → (last ≡ names) × (are_distinct names ≡ true)
unfolding are_distinct
new_distinct names last e =
    let (is, differ) = grown [] names last refl e in
    (is, subst (λ (l : List (List ℕ)). are_distinct l ≡ true) is differ)
