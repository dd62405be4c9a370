-- A text that is scanned byte by byte, and what its white space, names, marks and operators do there.
use Rattle.std.proofs.Common.{◌≡◌, ◌==◌, ℕ, zero, suc, ◌+◌, ◌<◌, ◌≤◌, Bool, true, false, List, [], ◌∷◌, length, drop, Option, Some, None}
use Rattle.std.proofs.Common.{refl, sym, ◌∙◌, arith, length-drop}
use Rattle.std.specs.List.{prefix_len}
use Rattle.std.proofs.lemmas.Bool.{eqb-true}
use Rattle.texts.specs.Bytes.{is_letter, is_word}
use Rattle.texts.specs.Fronts.{first}
use Rattle.lib_words.specs.Blanks.{is_blank, after_space}
use Rattle.lib_func.specs.declared.scans.Spot.{Spot}
use Rattle.lib_func.specs.declared.scans.Spot.TheVariants.{Before, Name, After}
use Rattle.lib_func.specs.Marks.{marks}
use Rattle.lib_func.specs.Scans.{begun, followed, turned, is_end}

-- the bytes go on from such a spot and end where a function may
unfoldable pub scan : Spot → List ℕ → Bool
scan spot [] = is_end spot
scan spot (b ∷ s) = elim (turned spot (b ∷ s)) [ Some next ↦ scan next s | None ↦ false ]

-- one byte on
pub scan_on : (spot next : Spot) (b : ℕ) (s : List ℕ) → turned spot (b ∷ s) ≡ Some next → scan spot (b ∷ s) ≡ scan next s
unfolding scan
scan_on spot next b s e = rw (e, scan) refl

-- no function goes on like this
pub scan_stop : (spot : Spot) (b : ℕ) (s : List ℕ) → turned spot (b ∷ s) ≡ None → scan spot (b ∷ s) ≡ false
unfolding scan
scan_stop spot b s e = rw (e, scan) refl

-- at two spots alike
pub scan_same : (x y : Spot) (b : ℕ) (s : List ℕ) → turned x (b ∷ s) ≡ turned y (b ∷ s) → scan x (b ∷ s) ≡ scan y (b ∷ s)
unfolding scan
scan_same x y b s e = rw (e, scan) refl

-- the text has ended
pub scan_end : (spot : Spot) → scan spot [] ≡ is_end spot
unfolding scan
scan_end spot = refl

-- the same of what is left of a text
pub scan_goes : (spot next : Spot) (s : List ℕ) → 0 < length s → turned spot s ≡ Some next → scan spot s ≡ scan next (drop 1 s)
scan_goes spot next [] some e = absurd (omega arith)
scan_goes spot next (b ∷ s) some e = scan_on spot next b s e

pub scan_fails : (spot : Spot) (s : List ℕ) → 0 < length s → turned spot s ≡ None → scan spot s ≡ false
scan_fails spot [] some e = absurd (omega arith)
scan_fails spot (b ∷ s) some e = scan_stop spot b s e

pub scan_ended : (spot : Spot) (s : List ℕ) → length s ≡ 0 → scan spot s ≡ is_end spot
scan_ended spot [] e = scan_end spot
scan_ended spot (b ∷ s) e = absurd (omega arith)

-- nothing is there
pub none_left : {A : Type 0} (o : Option A) → ((x : A) → o ≡ Some x → ⊥) → o ≡ None
none_left None h = refl
none_left (Some x) h = absurd (h x refl)

-- after white space there is none
black_step : (b : ℕ) (s : List ℕ) (w : Bool) → is_blank (b ∷ s) ≡ w → is_blank (after_space s) ≡ false → is_blank (after_space (b ∷ s)) ≡ false
unfolding after_space
black_step b s true e ih = rw e ih
black_step b s false e ih = rw e e

pub black : (s : List ℕ) → is_blank (after_space s) ≡ false
unfolding after_space
black [] = refl
black (b ∷ s) = black_step b s (is_blank (b ∷ s)) refl (black s)

-- white space is within the text
within_step : (b : ℕ) (s : List ℕ) (w : Bool) → is_blank (b ∷ s) ≡ w → length (after_space s) ≤ length s → length (after_space (b ∷ s)) ≤ length (b ∷ s)
unfolding after_space
within_step b s true e ih = rw e (omega arith)
within_step b s false e ih = rw e (omega arith)

pub space_within : (s : List ℕ) → length (after_space s) ≤ length s
unfolding after_space
space_within [] = omega arith
space_within (b ∷ s) = within_step b s (is_blank (b ∷ s)) refl (space_within s)

-- white space is passed over, where no name goes on
space_step : (spot : Spot) (b : ℕ) (s : List ℕ) (w : Bool) → is_blank (b ∷ s) ≡ w → (w ≡ true → turned spot (b ∷ s) ≡ Some spot)
    → scan spot s ≡ scan spot (after_space s) → scan spot (b ∷ s) ≡ scan spot (after_space (b ∷ s))
unfolding after_space
space_step spot b s true e stays ih = scan_on spot spot b s (stays refl) ∙ ih ∙ rw e refl
space_step spot b s false e stays ih = rw e refl

pub before_space : (k : ℕ) (s : List ℕ) → scan (Before k) s ≡ scan (Before k) (after_space s)
unfolding after_space turned
before_space k [] = refl
before_space k (b ∷ s) = space_step (Before k) b s (is_blank (b ∷ s)) refl (λ e. rw e refl) (before_space k s)

pub operand_space : (k : ℕ) (s : List ℕ) → scan (After k) s ≡ scan (After k) (after_space s)
unfolding after_space turned
operand_space k [] = refl
operand_space k (b ∷ s) = space_step (After k) b s (is_blank (b ∷ s)) refl (λ e. rw e refl) (operand_space k s)

-- a byte that begins an operand
pub before_on : (k : ℕ) (next : Spot) (t : List ℕ) → is_blank t ≡ false → begun k (first t) ≡ Some next → scan (Before k) t ≡ scan next (drop 1 t)
unfolding turned begun
before_on k next [] white e = absurd cc
before_on k next (b ∷ s) white e = scan_on (Before k) next b s (rw white e)

-- one that does not
pub before_stop : (k : ℕ) (t : List ℕ) → is_blank t ≡ false → begun k (first t) ≡ None → scan (Before k) t ≡ false
unfolding turned
before_stop k [] white e = scan_end (Before k)
before_stop k (b ∷ s) white e = scan_stop (Before k) b s (rw white e)

-- a byte that follows an operand
pub operand_on : (k : ℕ) (next : Spot) (t : List ℕ) → is_blank t ≡ false → followed k (first t) ≡ Some next → scan (After k) t ≡ scan next (drop 1 t)
unfolding turned followed
operand_on k next [] white e = absurd cc
operand_on k next (b ∷ s) white e = scan_on (After k) next b s (rw white e)

-- one that does not
pub operand_stop : (k : ℕ) (t : List ℕ) → is_blank t ≡ false → followed k (first t) ≡ None → 0 < length t → scan (After k) t ≡ false
unfolding turned
operand_stop k [] white e some = absurd (omega arith)
operand_stop k (b ∷ s) white e some = scan_stop (After k) b s (rw white e)

-- a mark that follows an operand
pub at_mark : (k n : ℕ) (next : Spot) (t : List ℕ) → is_blank t ≡ false → (first t == n) ≡ true → followed k n ≡ Some next
    → scan (After k) t ≡ scan next (drop 1 t)
at_mark k n next t white here e = let same : first t ≡ n = eqb-true (first t) n here in operand_on k next t white (rw same e)

-- a text with such a byte at its front is not empty
pub some_first : (t : List ℕ) (n : ℕ) → (first t == n) ≡ true → (0 == n) ≡ false → 0 < length t
some_first [] n here none = absurd cc
some_first (b ∷ s) n here none = omega arith

pub letter_some : (t : List ℕ) → is_letter (first t) ≡ true → 0 < length t
letter_some [] e = absurd cc
letter_some (b ∷ s) e = omega arith

pub drop_less : (t : List ℕ) → 0 < length t → length (drop 1 t) < length t
drop_less t some = omega (arith, length-drop 1 t)

-- a name goes on to its last byte, after which an operand has ended
name_step : (k b : ℕ) (s : List ℕ) (w : Bool) → is_word b ≡ w → scan (Name k) s ≡ scan (After k) (drop (prefix_len is_word s) s)
    → scan (Name k) (b ∷ s) ≡ scan (After k) (drop (prefix_len is_word (b ∷ s)) (b ∷ s))
unfolding turned
name_step k b s true e ih =
    let more : 1 + prefix_len is_word s ≡ suc (prefix_len is_word s) = omega arith in
    scan_on (Name k) (Name k) b s (rw e refl) ∙ ih ∙ rw (e, more) refl
name_step k b s false e ih = scan_same (Name k) (After k) b s (rw e refl) ∙ rw e refl

pub name_end : (k : ℕ) (s : List ℕ) → scan (Name k) s ≡ scan (After k) (drop (prefix_len is_word s) s)
name_end k [] = scan_end (Name k) ∙ sym (scan_end (After k))
name_end k (b ∷ s) = name_step k b s (is_word b) refl (name_end k s)

-- the same from its first byte on
pub named : (k : ℕ) (t : List ℕ) → is_word (first t) ≡ true → 0 < length t → scan (Name k) (drop 1 t) ≡ scan (After k) (drop (prefix_len is_word t) t)
unfolding turned
named k [] w some = absurd (omega arith)
named k (b ∷ s) w some = sym (scan_on (Name k) (Name k) b s (rw w refl)) ∙ name_end k (b ∷ s)

pub word_less : (t : List ℕ) → is_word (first t) ≡ true → 0 < length t → length (drop (prefix_len is_word t) t) < length t
word_less [] w some = absurd (omega arith)
word_less (b ∷ s) w some = rw w (omega (arith, length-drop (1 + prefix_len is_word s) (b ∷ s)))

module _ (mark : ℕ) (spot : Spot) (spaces : (s : List ℕ) → scan spot s ≡ scan spot (after_space s))
    (passes : (t : List ℕ) → is_blank t ≡ false → (first t == mark) ≡ true → scan spot t ≡ scan spot (drop 1 t)) where
  marks_step : (n j : ℕ) (s : List ℕ) (b : Bool) → (first (after_space s) == mark) ≡ b
      → scan spot (drop 1 (after_space s)) ≡ scan spot (marks mark (j + 1) n (drop 1 (after_space s))).1
      → scan spot s ≡ scan spot (marks mark j (suc n) s).1
  unfolding marks
  marks_step n j s true e ih = spaces s ∙ passes (after_space s) (black s) e ∙ ih ∙ rw e refl
  marks_step n j s false e ih = rw e refl

  -- marks at which the spot stays
  pub marks_pass : (n j : ℕ) (s : List ℕ) → scan spot s ≡ scan spot (marks mark j n s).1
  unfolding marks
  marks_pass zero j s = refl
  marks_pass (suc n) j s = marks_step n j s (first (after_space s) == mark) refl (marks_pass n (j + 1) (drop 1 (after_space s)))

-- after marks there is none, and what follows them is within the text
pub record MarksEnd (mark : ℕ) (s r : List ℕ) : Type 0 where
  pub none : (first (after_space r) == mark) ≡ false
  pub within : length r ≤ length s

end_step : (mark n j : ℕ) (s : List ℕ) (b : Bool) → (first (after_space s) == mark) ≡ b → length (drop 1 (after_space s)) ≤ length s
    → (b ≡ true → MarksEnd mark (drop 1 (after_space s)) (marks mark (j + 1) n (drop 1 (after_space s))).1) → MarksEnd mark s (marks mark j (suc n) s).1
unfolding marks
end_step mark n j s true e less ih = let h = ih refl in let w = h.within in rw e (record { none = h.none; within = omega arith })
end_step mark n j s false e less ih = rw e (record { none = e; within = omega arith })

pub marks_end : (mark n j : ℕ) (s : List ℕ) → (0 == mark) ≡ false → length s ≤ n → MarksEnd mark s (marks mark j n s).1
unfolding marks after_space
marks_end mark zero j [] none room = record { none = none; within = omega arith }
marks_end mark zero j (b ∷ s) none room = absurd (omega arith)
marks_end mark (suc n) j s none room =
    let within = space_within s in
    let left = length-drop 1 (after_space s) in
    end_step mark n j s (first (after_space s) == mark) refl (omega arith)
    (λ e. let some = some_first (after_space s) mark e none in marks_end mark n (j + 1) (drop 1 (after_space s)) none (omega arith))
