-- The inputs that are fixed with one value more.
use Rattle.std.proofs.Common.{◌≡◌, ◌∙◌, ℕ, ◌+◌, List, [], ◌∷◌, ◌++◌, take, ap, sym, append-nil, append_assoc}
use Rattle.std.specs.Prelude.{Some, slice_get}
use Rattle.net_model.specs.declared.netlist.Fixed.{Fixed}
use Rattle.list_laws.proofs.Joining.{take_next}
use Rattle.case_objects.specs.declared.values.CaseValue.{CaseValue}
use Rattle.case_objects.specs.CaseObjects.{fixed_of, more_fixed}

fixed_last : (before : List Fixed) (vs : List CaseValue) (v : CaseValue)
    → more_fixed before (vs ++ v ∷ []) ≡ more_fixed before vs ++ fixed_of (before ++ more_fixed before vs) v
fixed_last before [] v = append-nil (fixed_of before v) ∙ ap (λ (b : List Fixed). fixed_of b v) (sym (append-nil before))
fixed_last before (w ∷ vs) v =
    let new = fixed_of before w in
    ap (λ (l : List Fixed). new ++ l) (fixed_last (before ++ new) vs v)
    ∙ ap (λ (b : List Fixed). new ++ (more_fixed (before ++ new) vs ++ fixed_of b v)) (append_assoc before new (more_fixed (before ++ new) vs))
    ∙ sym (append_assoc new (more_fixed (before ++ new) vs) (fixed_of (before ++ (new ++ more_fixed (before ++ new) vs)) v))

pub fixed_next : (before : List Fixed) (vs : List CaseValue) (k : ℕ) (v : CaseValue) → slice_get vs k ≡ Some v
    → more_fixed before (take (k + 1) vs) ≡ more_fixed before (take k vs) ++ fixed_of (before ++ more_fixed before (take k vs)) v
fixed_next before vs k v here = ap (more_fixed before) (take_next vs k v here) ∙ fixed_last before (take k vs) v
