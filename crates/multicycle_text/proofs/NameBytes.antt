-- Bytes of names and of numbers are no marks.
use Rattle.std.proofs.Common.{◌≡◌, ℕ, suc, Bool, true, false, not, ◌==◌, ◌&&◌, List, [], ◌∷◌, length, refl, arith, subst}
use Rattle.std.specs.List.{list_all}
use Rattle.std.proofs.lemmas.Bool.{and_parts}
use Rattle.std.proofs.lemmas.Bool.Decides.{nat_tests}
use Rattle.texts.specs.Fronts.{first}
use Rattle.multicycle_text.specs.Names.{is_name_byte, is_writable}

-- bytes that a test finds equal are
is_byte : (b mark : ℕ) → (b == mark) ≡ true → b ≡ mark
is_byte b mark e = grind (arith, nat_tests)

-- the same for the answer of that test
differs_by : (p : ℕ → Bool) (b mark : ℕ) (same : Bool) → (b == mark) ≡ same → p mark ≡ false → p b ≡ true → same ≡ false
differs_by p b mark false e off on = refl
differs_by p b mark true e off on = absurd (let here = is_byte b mark e in let other = subst (λ (x : ℕ). p x ≡ true) here on in cc)

-- a byte that passes a test is no mark that does not
pub differs : (p : ℕ → Bool) (b mark : ℕ) → p mark ≡ false → p b ≡ true → (b == mark) ≡ false
differs p b mark off on = differs_by p b mark (b == mark) refl off on

-- a byte of a name is no mark that may not stand in one
pub not_mark : (b mark : ℕ) → is_name_byte mark ≡ false → is_name_byte b ≡ true → (b == mark) ≡ false
not_mark b mark off on = differs is_name_byte b mark off on

-- a number above 0 is not 0
pub not_empty : (n : ℕ) → (suc n == 0) ≡ false
not_empty n = grind (arith, nat_tests)

-- a name that can be written has a first byte, which is no `-`, and all its bytes may stand in one
pub record IsName (name : List ℕ) : Type 0 where
  pub head : ℕ
  pub tail : List ℕ
  pub is : name ≡ head ∷ tail
  pub no_dash : (head == 45) ≡ false
  pub head_okay : is_name_byte head ≡ true
  pub tail_okay : list_all is_name_byte tail ≡ true

-- what is not true is false
pub not_true : (x : Bool) → not x ≡ true → x ≡ false
not_true false e = refl
not_true true e = absurd cc

-- a name that can be written is one
pub name_of_writable : (name : List ℕ) → is_writable name ≡ true → IsName name
name_of_writable [] e = absurd cc
name_of_writable (b ∷ s) e =
    let (some, rest) = and_parts (not (length (b ∷ s) == 0)) (not (first (b ∷ s) == 45) && list_all is_name_byte (b ∷ s)) e in
    let (front, okay) = and_parts (not (b == 45)) (list_all is_name_byte (b ∷ s)) rest in
    let (here, more) = and_parts (is_name_byte b) (list_all is_name_byte s) okay in
    record { head = b; tail = s; is = refl; no_dash = not_true (b == 45) front; head_okay = here; tail_okay = more }

-- all bytes of a name may stand in one
pub name_okay : (name : List ℕ) → IsName name → list_all is_name_byte name ≡ true
name_okay name n = rw (n.is, n.head_okay) n.tail_okay
