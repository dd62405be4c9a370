-- What stands once among the starts, the ends and the pairs of a design.
use Rattle.std.proofs.Common.{arith, ◌≡◌, ℕ, ◌+◌, ◌<◌, ◌≤◌, List, [], ◌∷◌, length, refl, subst, inl, inr}
use Rattle.net_model.specs.declared.netlist.Design.{Design}
use Rattle.net_model.specs.declared.netlist.Reg.{Reg}
use Rattle.net_model.specs.declared.claims.Start.TheVariants.{Reg as RegStart, Input as InputStart}
use Rattle.net_model.specs.declared.claims.End.TheVariants.{Reg as RegEnd, Output as OutputEnd}
use Rattle.net_paths.specs.Those.{AreThose, All_seen, Taken, Left_out}
use Rattle.net_paths.proofs.Sifting.{those_append}
use Rattle.sdcv_base.specs.Seqs.{each_at}
use Rattle.exception_expand.specs.Points.{begins, start_points, all_starts, all_ends}
use Rattle.linked_types.specs.declared.names.Linked.{Linked}
use Rattle.exception_expand.proofs.Driving.{those_kept}
use Rattle.exception_expand.proofs.Placing.{same_or}

-- not among what is made of places from one on
not_made : {A B : Type 0} (f : ℕ → B) (y : B) (first : ℕ) (xs : List A) → ((i : ℕ) → first ≤ i → ¬ (f i ≡ y))
    → AreThose (λ z. z ≡ y) (each_at (λ i (x : A). f i ∷ []) first xs) []
not_made f y first [] never = All_seen
not_made f y first (x ∷ xs) never =
    Left_out (f first) (each_at (λ i x. f i ∷ []) (first + 1) xs) [] (never first (omega arith))
    (not_made f y (first + 1) xs (λ i past. never i (omega (arith, past))))

-- once among what is made of each place, where no two places give one thing
made_once : {A B : Type 0} (f : ℕ → B) → ((i j : ℕ) → f i ≡ f j → i ≡ j) → (n first : ℕ) (xs : List A) → first ≤ n → n < first + length xs
    → AreThose (λ z. z ≡ f n) (each_at (λ i (x : A). f i ∷ []) first xs) (f n ∷ [])
made_once f apart n first [] past low = absurd (omega (arith, past, low))
made_once {A} {B} f apart n first (x ∷ xs) past low =
    let rest = each_at (λ i (y : A). f i ∷ []) (first + 1) xs in
    elim (same_or first n) [
      | inl e ↦
          let none = not_made f (f first) (first + 1) xs (λ i later is. let same : i ≡ first = apart i first is in omega (arith, later, same)) in
          subst (λ (m : ℕ). AreThose (λ z. z ≡ f m) (f first ∷ rest) (f m ∷ [])) e (Taken (f first) rest [] refl none)
      | inr other ↦ Left_out (f first) rest (f n ∷ []) (λ is. other (apart first n is))
          (made_once f apart n (first + 1) xs (omega (arith, past, other)) (omega (arith, low)))
    ]

-- the starts of two registers differ
reg_starts_differ : (i j : ℕ) → RegStart i ≡ RegStart j → i ≡ j
reg_starts_differ i j e = cc

-- and so do their ends
reg_ends_differ : (i j : ℕ) → RegEnd i ≡ RegEnd j → i ≡ j
reg_ends_differ i j e = cc

-- an input is no register's start
no_input : (r i : ℕ) → ¬ (InputStart i ≡ RegStart r)
no_input r i e = cc

-- an output is no register's end
no_output : (r o : ℕ) → ¬ (OutputEnd o ≡ RegEnd r)
no_output r o e = cc

-- a register's start, at which paths begin
pub start_once : (l : Linked) (r : ℕ) → r < length l.design.regs → AreThose (λ s. s ≡ RegStart r) (all_starts l) (RegStart r ∷ [])
start_once l r low =
    let d = l.design in
    let regs = each_at (λ i (reg : Reg). RegStart i ∷ []) 0 d.regs in
    let inputs = each_at (λ i (net : ℕ). InputStart i ∷ []) 0 d.inputs in
    those_kept (λ s. s ≡ RegStart r) (begins l.names) (start_points d) (RegStart r ∷ [])
    (those_append (λ s. s ≡ RegStart r) regs (RegStart r ∷ []) inputs [] (made_once RegStart reg_starts_differ r 0 d.regs (omega arith) (omega (arith, low)))
    (not_made InputStart (RegStart r) 0 d.inputs (λ i past. no_input r i)))

-- a register's end
pub end_once : (d : Design) (r : ℕ) → r < length d.regs → AreThose (λ e. e ≡ RegEnd r) (all_ends d) (RegEnd r ∷ [])
end_once d r low =
    let regs = each_at (λ i (reg : Reg). RegEnd i ∷ []) 0 d.regs in
    let outputs = each_at (λ o (net : ℕ). OutputEnd o ∷ []) 0 d.outputs in
    those_append (λ e. e ≡ RegEnd r) regs (RegEnd r ∷ []) outputs [] (made_once RegEnd reg_ends_differ r 0 d.regs (omega arith) (omega (arith, low)))
    (not_made OutputEnd (RegEnd r) 0 d.outputs (λ o past. no_output r o))
