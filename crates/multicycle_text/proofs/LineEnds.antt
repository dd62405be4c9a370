-- A line ends at its one newline, and has no carriage return.
use Rattle.std.proofs.Common.{◌≡◌, ℕ, ◌+◌, ◌-◌, ◌≤◌, Bool, true, false, not, ◌==◌, ◌&&◌, List, [], ◌∷◌, ◌++◌, refl, ap, arith, sym, ◌∙◌, append_assoc, codes, cond}
use Rattle.std.specs.Char.{is_ascii_digit}
use Rattle.std.specs.Fmt.{decimal}
use Rattle.std.specs.List.{list_all}
use Rattle.std.proofs.lemmas.Bool.{and_parts}
use Rattle.std.proofs.lemmas.List.{append-nil}
use Rattle.std.proofs.lemmas.List.Sums.{sum_by-append}
use Rattle.std.proofs.lemmas.List.Folds.{list_all-append}
use Rattle.sdc_words.specs.Lines.{cleaned, newlines}
use Rattle.multicycle_text.specs.Lines.{FoundLine, CheckLine, Setup, Hold, line_text}
use Rattle.multicycle_text.specs.Names.{is_name_byte, is_writable}
use Rattle.multicycle_text.specs.Scripts.{IsReadable, IsReadableLine}
use Rattle.multicycle_text.proofs.NameBytes.{differs, not_true, name_of_writable, name_okay}
use Rattle.multicycle_text.proofs.Numbers.{IsNumber, number_of, whole_of}

-- neither a newline nor a carriage return
abbrev is_inline : ℕ → Bool
is_inline b = not (b == 10) && not (b == 13)

-- bytes that pass a test which these two do not
inline_by : (p : ℕ → Bool) (s : List ℕ) → p 10 ≡ false → p 13 ≡ false → list_all p s ≡ true → list_all is_inline s ≡ true
inline_by p [] ten thirteen all = refl
inline_by p (b ∷ s) ten thirteen all =
    let (here, more) = and_parts (p b) (list_all p s) all in
    rw (differs p b 10 ten here, differs p b 13 thirteen here) (inline_by p s ten thirteen more)

-- two parts of a line are one
inline-append : (a b : List ℕ) → list_all is_inline a ≡ true → list_all is_inline b ≡ true → list_all is_inline (a ++ b) ≡ true
inline-append a b left right = list_all-append is_inline a b ∙ rw (left, right) refl

-- a byte more
newlines-cons : (c : ℕ) (s : List ℕ) → newlines (c ∷ s) ≡ 0 + cond (c == 10) 1 0 + newlines s
newlines-cons c s = sum_by-append (λ b. cond (b == 10) 1 0) (c ∷ []) s

-- bytes of a line count no newline
newlines-inline : (a b : List ℕ) → list_all is_inline a ≡ true → newlines (a ++ b) ≡ newlines b
newlines-inline [] b all = refl
newlines-inline (c ∷ a) b all =
    let (here, more) = and_parts (is_inline c) (list_all is_inline a) all in
    let (ten, thirteen) = and_parts (not (c == 10)) (not (c == 13)) here in
    rw (newlines-cons c (a ++ b), not_true (c == 10) ten) (omega (arith, newlines-inline a b more))

-- and none of them is left out
cleaned-inline : (a b : List ℕ) → list_all is_inline a ≡ true → cleaned (a ++ b) ≡ a ++ cleaned b
unfolding cleaned
cleaned-inline [] b all = refl
cleaned-inline (c ∷ a) b all =
    let (here, more) = and_parts (is_inline c) (list_all is_inline a) all in
    let (ten, thirteen) = and_parts (not (c == 10)) (not (c == 13)) here in
    rw (not_true (c == 13) thirteen, cleaned) (ap (λ (s : List ℕ). c ∷ s) (cleaned-inline a b more))

-- a name stands in one line
name_inline : (name : List ℕ) → is_writable name ≡ true → list_all is_inline name ≡ true
name_inline name e = inline_by is_name_byte name refl refl (name_okay name (name_of_writable name e))

-- a line without its newline
abbrev path_body : List ℕ → List ℕ → FoundLine → List ℕ
path_body number option x =
    codes "set_multicycle_path " ++ (number ++ (option ++ (codes " -from [get_cells {" ++ (x.start ++ (codes "}] -to [get_cells {" ++ (x.end ++ codes "}]"))))))

abbrev line_body : CheckLine → List ℕ
line_body (Setup x) = path_body (decimal x.k) [] x
line_body (Hold x) = path_body (decimal (x.k - 1)) (codes " -hold") x

-- a number stands in one line
number_inline : (hold : Bool) (number : List ℕ) (k : ℕ) → IsNumber hold number k → list_all is_inline number ≡ true
number_inline hold number k n = inline_by is_ascii_digit number refl refl (rw n.is n.digits)

-- all that stands before the newline does
path_inline : (number option : List ℕ) (x : FoundLine) → IsReadable x → list_all is_inline number ≡ true → list_all is_inline option ≡ true
    → list_all is_inline (path_body number option x) ≡ true
path_inline number option x is in_number in_option =
    let last : List ℕ = x.end ++ codes "}]" in
    let to : List ℕ = codes "}] -to [get_cells {" ++ last in
    let middle : List ℕ = x.start ++ to in
    let from : List ℕ = codes " -from [get_cells {" ++ middle in
    let in_last : list_all is_inline last ≡ true = inline-append x.end (codes "}]") (name_inline x.end is.end) refl in
    let in_to : list_all is_inline to ≡ true = inline-append (codes "}] -to [get_cells {") last refl in_last in
    let in_middle : list_all is_inline middle ≡ true = inline-append x.start to (name_inline x.start is.start) in_to in
    let in_from : list_all is_inline from ≡ true = inline-append (codes " -from [get_cells {") middle refl in_middle in
    let in_rest : list_all is_inline (option ++ from) ≡ true = inline-append option from in_option in_from in
    inline-append (codes "set_multicycle_path ") (number ++ (option ++ from)) refl (inline-append number (option ++ from) in_number in_rest)

body_inline : (x : CheckLine) → IsReadableLine x → list_all is_inline (line_body x) ≡ true
body_inline (Setup x) is = path_inline (decimal x.k) [] x is (number_inline false (decimal x.k) x.k (number_of x.k is.some is.most)) refl
body_inline (Hold x) is =
    let most : x.k - 1 ≤ 16 = omega (arith, is.most) in
    path_inline (decimal (x.k - 1)) (codes " -hold") x is (number_inline true (decimal (x.k - 1)) x.k (whole_of (x.k - 1) x.k most)) refl

-- a line and what follows it
split_line : (x : CheckLine) (rest : List ℕ) → line_text x ++ rest ≡ line_body x ++ 10 ∷ rest
split_line (Setup x) rest = simp append_assoc
split_line (Hold x) rest = simp append_assoc

-- a line more counts one newline more
pub newlines_line : (done : List ℕ) (x : CheckLine) → IsReadableLine x → newlines (done ++ line_text x) ≡ newlines done + 1
newlines_line done x is =
    let one : newlines (line_text x) ≡ 1 =
    rw (← append-nil (line_text x), split_line x [], newlines-inline (line_body x) (10 ∷ []) (body_inline x is)) refl in
    sum_by-append (λ b. cond (b == 10) 1 0) done (line_text x) ∙ ap (λ (n : ℕ). newlines done + n) one

-- and stays as it is
pub cleaned_line : (x : CheckLine) (rest : List ℕ) → IsReadableLine x → cleaned (line_text x ++ rest) ≡ line_text x ++ cleaned rest
unfolding cleaned
cleaned_line x rest is =
    ap cleaned (split_line x rest) ∙ cleaned-inline (line_body x) (10 ∷ rest) (body_inline x is) ∙ sym (split_line x (cleaned rest))
