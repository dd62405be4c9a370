-- The starts, the ends and the pairs of a design are of the design.
use Rattle.std.proofs.Common.{arith, ◌≡◌, ℕ, suc, ◌+◌, ◌<◌, Bool, true, false, List, [], ◌∷◌, length, map, refl, subst, inl, inr}
use Rattle.std.specs.Prelude.{All, filter, cond}
use Rattle.std.proofs.lemmas.List.Elements.{All-nil, All-cons}
use Rattle.net_model.specs.Fits.{IsStartIn, IsEndIn}
use Rattle.net_model.specs.declared.netlist.Design.{Design}
use Rattle.net_model.specs.declared.claims.Start.{Start}
use Rattle.net_model.specs.declared.claims.Start.TheVariants.{Reg as RegStart, Input as InputStart}
use Rattle.net_model.specs.declared.claims.End.{End}
use Rattle.net_model.specs.declared.claims.End.TheVariants.{Reg as RegEnd, Output as OutputEnd}
use Rattle.net_model.proofs.Members.{In, In-cases, from_flat, from_map}
use Rattle.net_paths.specs.Those.{AreThose}
use Rattle.sdcv_base.specs.Seqs.{each_at}
use Rattle.linked_types.specs.declared.names.Linked.{Linked}
use Rattle.sdc_objects.specs.Standing.{all_reg_starts, all_reg_ends}
use Rattle.exception_expand.specs.Points.{start_points, begins, all_starts, all_ends, input_starts, output_ends}
use Rattle.exception_expand.specs.Pairs.{pair, IsPairIn}
use Rattle.exception_expand.specs.Selections.{all_pairs}
use Rattle.exception_expand.specs.declared.pairs.Pair.{Pair}
use Rattle.exception_expand.proofs.Sharing.{those_in}

-- what is made of each place is made of one
from_singles : {A B : Type 0} (f : ℕ → B) (first : ℕ) (xs : List A) (y : B) → In y (each_at (λ i (x : A). f i ∷ []) first xs)
    → (j : ℕ) × (j < length xs) × (f (first + j) ≡ y)
from_singles f first [] y has = absurd has
from_singles {A} {B} f first (x ∷ xs) y (inl here) =
    let at : first ≡ first + 0 = omega arith in
    (0, omega arith, subst (λ (n : ℕ). f n ≡ y) at here)
from_singles {A} {B} f first (x ∷ xs) y (inr later) =
    let more = from_singles f (first + 1) xs y later in
    let at : (first + 1) + more.0 ≡ first + suc more.0 = omega arith in
    (suc more.0, omega (arith, more.1), subst (λ (n : ℕ). f n ≡ y) at more.2)

-- what is kept of an item and more stands among these
in_kept : {A : Type 0} (b : Bool) (x y : A) (xs kept : List A) → (In y kept → In y xs) → In y (cond b (x ∷ kept) kept) → In y (x ∷ xs)
in_kept true x y xs kept later (inl here) = inl here
in_kept true x y xs kept later (inr there) = inr (later there)
in_kept false x y xs kept later has = inr (later has)

-- what is kept of a list stands in it
in_filter : {A : Type 0} (f : A → Bool) (xs : List A) (y : A) → In y (filter f xs) → In y xs
in_filter f [] y has = absurd has
in_filter {A} f (x ∷ xs) y has = in_kept (f x) x y xs (filter f xs) (λ there. in_filter f xs y there) has

pub point_in : (d : Design) (s : Start) → In s (start_points d) → IsStartIn d s
point_in d s has =
    elim (In-cases s (all_reg_starts d) (input_starts d.inputs) has) [
      | inl reg ↦ let is = from_singles RegStart 0 d.regs s reg in
          let low : 0 + is.0 < length d.regs = omega (arith, is.1) in subst (IsStartIn d) is.2 low
      | inr input ↦ let is = from_singles InputStart 0 d.inputs s input in
          let low : 0 + is.0 < length d.inputs = omega (arith, is.1) in subst (IsStartIn d) is.2 low
    ]

pub start_in : (l : Linked) (s : Start) → In s (all_starts l) → IsStartIn l.design s
start_in l s has = point_in l.design s (in_filter (begins l.names) (start_points l.design) s has)

pub end_in : (d : Design) (e : End) → In e (all_ends d) → IsEndIn d e
end_in d e has =
    elim (In-cases e (all_reg_ends d) (output_ends d.outputs) has) [
      | inl reg ↦ let is = from_singles RegEnd 0 d.regs e reg in
          let low : 0 + is.0 < length d.regs = omega (arith, is.1) in subst (IsEndIn d) is.2 low
      | inr output ↦ let is = from_singles OutputEnd 0 d.outputs e output in
          let low : 0 + is.0 < length d.outputs = omega (arith, is.1) in subst (IsEndIn d) is.2 low
    ]

pub pair_in : (l : Linked) (p : Pair) → In p (all_pairs l) → IsPairIn l.design p
pair_in l p has =
    let by_start = from_flat (λ (start : Start). map (pair start) (all_ends l.design)) p (all_starts l) has in
    let by_end = from_map (pair by_start.0) p (all_ends l.design) by_start.2 in
    subst (IsPairIn l.design) by_end.2 (start_in l by_start.0 by_start.1, end_in l.design by_end.0 by_end.1)

pub all_from_in : {A : Type 0} (Q : A → Type 0) (xs : List A) → ((x : A) → In x xs → Q x) → All Q xs
all_from_in Q [] each = All-nil Q
all_from_in Q (x ∷ xs) each = All-cons Q x xs (each x (inl refl)) (all_from_in Q xs (λ y has. each y (inr has)))

-- so are those of them of which something holds
pub those_all_in : {A : Type 0} (P Q : A → Type 0) (xs ys : List A) → ((x : A) → In x xs → Q x) → AreThose P xs ys → All Q ys
those_all_in P Q xs ys each those = all_from_in Q ys (λ y has. each y (those_in P xs ys y those has))

pub points_in : (d : Design) (P : Start → Type 0) (found : List Start) → AreThose P (start_points d) found → All (IsStartIn d) found
points_in d P found = those_all_in P (IsStartIn d) (start_points d) found (point_in d)

pub starts_in : (l : Linked) (P : Start → Type 0) (found : List Start) → AreThose P (all_starts l) found → All (IsStartIn l.design) found
starts_in l P found = those_all_in P (IsStartIn l.design) (all_starts l) found (start_in l)

pub ends_in : (d : Design) (P : End → Type 0) (found : List End) → AreThose P (all_ends d) found → All (IsEndIn d) found
ends_in d P found = those_all_in P (IsEndIn d) (all_ends d) found (end_in d)

pub pairs_in : (l : Linked) (P : Pair → Type 0) (found : List Pair) → AreThose P (all_pairs l) found → All (IsPairIn l.design) found
pairs_in l P found = those_all_in P (IsPairIn l.design) (all_pairs l) found (pair_in l)
