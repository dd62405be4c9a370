-- Cells of gates and registers over the ternary values of their places.
use Rattle.std.proofs.Common.{◌≡◌, ℕ, zero, suc, ◌+◌, ◌<◌, Bool, true, false, cond, List, [], ◌∷◌, ◌++◌, length, refl, ap, sym, ◌∙◌, arith, inl, inr, subst}
use Rattle.std.specs.Prelude.{slice_index, slice_index_or, nat_lt, nat_eq, ◌||◌, ◌&&◌, if◌then◌else◌}
use Rattle.std.proofs.lemmas.Bool.{cases_Bool, cases_lt, or_left, or_right, and_from, cond_below, cond_above, lt-ltb, eq-eqb}
use Rattle.net_model.specs.Form.{Form, value, IsOver}
use Rattle.net_model.specs.Netlist.{IsRegInRange}
use Rattle.net_model.specs.Cycles.{reg_capture}
use Rattle.net_model.specs.Ternary.{Completes, tern_of}
use Rattle.net_model.specs.Splitting.{cell_value, tern_value}
use Rattle.net_model.specs.Completions.{ReadsOnly, cell_common, tern_agrees}
use Rattle.net_model.specs.declared.netlist.Design.{Design}
use Rattle.net_model.specs.declared.netlist.Reg.{Reg}
use Rattle.net_model.specs.declared.terns.Tern.{Tern}
use Rattle.net_model.specs.declared.terns.Tern.TheVariants.{Zero, One, Unknown}
use Rattle.net_model.specs.Mentions.{reads_own}
use Rattle.query_model.specs.Defined.{numbered}
use Rattle.query_model.proofs.Celled.{capture_but_last}
use Rattle.query_laws.proofs.Rails.{any_bit}
use Rattle.query_laws.proofs.RailValues.{on_terns}
use Rattle.query_model.proofs.Runs.{capture_reads}

-- a cell whose value depends on some places alone
abbrev pub DependsOn : (ℕ → Bool) → ((ℕ → Bool) → Bool) → Type 0
DependsOn places cell = (a b : ℕ → Bool) → ((i : ℕ) → places i ≡ true → a i ≡ b i) → cell a ≡ cell b

known_too : (cell : (ℕ → Bool) → Bool) (places : ℕ → Bool) (s t : ℕ → Tern) (b : Bool) → ReadsOnly 7 cell → DependsOn places cell
    → ((i : ℕ) → places i ≡ true → s i ≡ t i) → cell_value cell s ≡ tern_of b → cell_value cell t ≡ tern_of b
known_too cell places s t b only depends same is =
    (cell_common cell t only b).1
    (λ bits fits.
    let other : ℕ → Bool = λ i. if places i then bits i else (any_bit (s i)).0 in
    depends bits other (λ i has. sym (ap (λ (p : Bool). cond p (bits i) (any_bit (s i)).0) has))
    ∙ (cell_common cell s only b).0 is other
    (λ i lt. elim (cases_Bool (places i)) [
      | inl has ↦ subst (Completes (s i)) (sym (ap (λ (p : Bool). cond p (bits i) (any_bit (s i)).0) has))
          (subst (λ (x : Tern). Completes x (bits i)) (sym (same i has)) (fits i lt))
      | inr none ↦ subst (Completes (s i)) (sym (ap (λ (p : Bool). cond p (bits i) (any_bit (s i)).0) none)) (any_bit (s i)).1
    ]))

-- so its ternary value depends on the values of these places alone
pub cell_on_places : (cell : (ℕ → Bool) → Bool) (places : ℕ → Bool) (s t : ℕ → Tern) → ReadsOnly 7 cell → DependsOn places cell
    → ((i : ℕ) → places i ≡ true → s i ≡ t i) → cell_value cell s ≡ cell_value cell t
cell_on_places cell places s t only depends same = by_values (cell_value cell s) (cell_value cell t) refl refl
  where
    to : (b : Bool) → cell_value cell s ≡ tern_of b → cell_value cell t ≡ tern_of b
    to b = known_too cell places s t b only depends same

    from : (b : Bool) → cell_value cell t ≡ tern_of b → cell_value cell s ≡ tern_of b
    from b = known_too cell places t s b only depends (λ i has. sym (same i has))

    by_values : (x y : Tern) → cell_value cell s ≡ x → cell_value cell t ≡ y → x ≡ y
    by_values Zero y p q = sym (to false p) ∙ q
    by_values One y p q = sym (to true p) ∙ q
    by_values Unknown Zero p q = sym p ∙ from false q
    by_values Unknown One p q = sym p ∙ from true q
    by_values Unknown Unknown p q = refl

-- values of places in a list, and after them
pub terns_at : (h : ℕ → ℕ → Tern) (i : ℕ) (ins : List ℕ) (tail : List Tern) (j : ℕ) → j < length ins
    → slice_index_or (numbered h i ins ++ tail) j Zero ≡ h (i + j) (slice_index ins j)
terns_at h i [] tail j lt = absurd (omega arith)
terns_at h i (n ∷ ns) tail zero lt = ap (λ m. h m n) (omega arith)
terns_at h i (n ∷ ns) tail (suc j) lt = terns_at h (i + 1) ns tail j (omega arith) ∙ ap (λ m. h m (slice_index ns j)) (omega arith)

terns_end : (h : ℕ → ℕ → Tern) (i : ℕ) (ins : List ℕ) (own : Tern) → slice_index_or (numbered h i ins ++ own ∷ []) (length ins) Zero ≡ own
terns_end h i [] own = refl
terns_end h i (n ∷ ns) own = terns_end h (i + 1) ns own

append_nil : (xs : List Tern) → xs ++ [] ≡ xs
append_nil [] = refl
append_nil (x ∷ xs) = ap (λ ys. x ∷ ys) (append_nil xs)

-- a gate's function on the list of what its pins read
pub on_gate_terns : (f : Form) (h : ℕ → ℕ → Tern) (ins : List ℕ) → IsOver (length ins) f → on_terns (value f) (numbered h 0 ins) ≡ tern_value f
    (λ i. h i (slice_index ins i))
on_gate_terns f h ins over =
    tern_agrees f (length ins) (λ i. slice_index_or (numbered h 0 ins) i Zero) (λ i. h i (slice_index ins i)) over
    (λ i lt. ap (λ (xs : List Tern). slice_index_or xs i Zero) (sym (append_nil (numbered h 0 ins))) ∙ terns_at h 0 ins [] i lt
    ∙ ap (λ m. h m (slice_index ins i)) (omega arith))

-- the values of a register's pins, and of its own bit where it reads that
abbrev pub own_terns : Reg → Tern → List Tern → List Tern
own_terns reg own ts = ts ++ (if reads_own reg then own ∷ [] else [])

-- the pins of a register, and its own bit where it reads that
abbrev reg_places : Reg → ℕ → Bool
reg_places reg i = nat_lt i (length reg.ins) || (reads_own reg && nat_eq i (length reg.ins))

depends_on_pins : (d : Design) (reg : Reg) → IsRegInRange d reg → DependsOn (reg_places reg) (reg_capture reg)
depends_on_pins d reg range a b same =
    let n = length reg.ins in
    capture_but_last d reg a b range
    (λ i lt. same i (or_left (nat_lt i n) (reads_own reg && nat_eq i n) (lt-ltb i n lt)))
    (λ own. same n (or_right (nat_lt n n) (reads_own reg && nat_eq n n) (and_from (reads_own reg) (nat_eq n n) own (eq-eqb n n refl))))

own_tern_at : (reg : Reg) (h : ℕ → ℕ → Tern) (ins : List ℕ) (own : Tern) → reads_own reg ≡ true
    → slice_index_or (own_terns reg own (numbered h 0 ins)) (length ins) Zero ≡ own
own_tern_at reg h ins own e = ap (λ (b : Bool). slice_index_or (numbered h 0 ins ++ cond b (own ∷ []) []) (length ins) Zero) e ∙ terns_end h 0 ins own

-- a register's capture on the list of what its pins read
pub on_reg_terns : (d : Design) (reg : Reg) (h : ℕ → ℕ → Tern) (own : Tern) → IsRegInRange d reg → on_terns (reg_capture reg)
    (own_terns reg own (numbered h 0 reg.ins)) ≡ cell_value (reg_capture reg)
    (λ i. if nat_lt i (length reg.ins) then h i (slice_index reg.ins i) else own)
on_reg_terns d reg h own range =
    let n = length reg.ins in
    let s : ℕ → Tern = λ i. slice_index_or (own_terns reg own (numbered h 0 reg.ins)) i Zero in
    let t : ℕ → Tern = λ i. if nat_lt i n then h i (slice_index reg.ins i) else own in
    cell_on_places (reg_capture reg) (reg_places reg) s t (capture_reads d reg range) (depends_on_pins d reg range)
    (λ i has. elim (cases_lt i n) [
      | inl lt ↦ terns_at h 0 reg.ins (if reads_own reg then own ∷ [] else []) i lt ∙ ap (λ m. h m (slice_index reg.ins i)) (omega arith)
          ∙ cond_below i n (h i (slice_index reg.ins i)) own lt
      | inr ge ↦
          elim (Rattle.std.proofs.lemmas.Bool.or_cases (nat_lt i n) (reads_own reg && nat_eq i n) has) [
            | inl below ↦ let lt = Rattle.std.proofs.lemmas.Bool.ltb-true i n below in absurd (omega arith)
            | inr both ↦
                let parts = Rattle.std.proofs.lemmas.Bool.and_parts (reads_own reg) (nat_eq i n) both in
                let here : i ≡ n = Rattle.std.proofs.lemmas.Bool.eqb-true i n parts.1 in
                subst (λ (m : ℕ). s m ≡ t m) (sym here) (own_tern_at reg h reg.ins own parts.0 ∙ cond_above n n (h n (slice_index reg.ins n)) own own
                (omega arith) refl)
          ]
    ])
