-- Expressions that are read without recursion: what is due after open braces.
use Rattle.std.proofs.Common.{◌≡◌, ◌⊎◌, inl, inr, ℕ, zero, suc, ◌+◌, ◌<◌, ◌≤◌, Bool, true, false, List, [], ◌∷◌, ◌++◌, length, Result, Ok, Err, if◌then◌else◌}
use Rattle.std.proofs.Common.{refl, sym, ap, arith}
use Rattle.texts.specs.Rules.{◌>>=◌}
use Rattle.verilog_words.specs.declared.faults.SyntaxFault.{SyntaxFault}
use Rattle.verilog_words.specs.Codes.{comma, left_brace, right_brace}
use Rattle.verilog_words.specs.Marks.{is_next, after_mark, mark_at}
use Rattle.verilog_words.specs.Reads.{Rule, deep}
use Rattle.verilog_syntax.specs.declared.declarations.PartDecl.{PartDecl}
use Rattle.verilog_syntax.specs.Lists.{list_from}
use Rattle.verilog_syntax.specs.Parts.{part_at}
use Rattle.verilog_syntax.specs.Exprs.{adds_part, adds_expr, closed_at}

true_or_false : (b : Bool) → (b ≡ true) ⊎ (b ≡ false)
true_or_false true = inl refl
true_or_false false = inr refl

-- a chain within a chain is one chain
bind_assoc : {A B C : Type 0} (x : Result A SyntaxFault) (f : A → Result B SyntaxFault) (g : B → Result C SyntaxFault)
    → ((x >>= f) >>= g) ≡ (x >>= (λ a. f a >>= g))
bind_assoc (Ok x) f g = refl
bind_assoc (Err e) f g = refl

-- a chain whose last step keeps what came is the chain without it
pub bind_ok : {A : Type 0} (x : Result (A × List ℕ) SyntaxFault) → (x >>= (λ p. Ok (p.0, p.1))) ≡ x
bind_ok (Ok p) = refl
bind_ok (Err e) = refl

-- what follows an item between braces: the `}`, or `,` and further items of at most n
abbrev pub after_item : {A : Type 0} → (A → Rule A) → ℕ → A → Rule A
after_item adds n found total s =
    if is_next right_brace s then Ok (found, after_mark s) else (mark_at comma total s >>= λ r. list_from right_brace adds n found total r)

-- what follows an expression in open braces, for each of which this many items may come; so many further may be opened
unfoldable pub leave : Bool → ℕ → List ℕ → List PartDecl → Rule (List PartDecl)
leave constants room [] found total s = Ok (found, s)
leave constants room (m ∷ ms) found total s =
    after_item (adds_expr constants room) m found total s >>= λ p. leave constants (suc room) ms p.0 total p.1

-- an expression in them, and what follows it
abbrev pub enter : Bool → ℕ → List ℕ → List PartDecl → Rule (List PartDecl)
enter constants room ms found total s = adds_expr constants room found total s >>= λ p. leave constants room ms p.0 total p.1

-- each of these is n at least
abbrev pub covers : ℕ → List ℕ → Type 0
covers n [] = Unit {0}
covers n (m ∷ ms) = (n ≤ m) × covers n ms

pub covers_less : (n k : ℕ) (ms : List ℕ) → k ≤ n → covers n ms → covers k ms
covers_less n k [] le h = tt
covers_less n k (m ∷ ms) le h = let here = h.0 in (omega arith, covers_less n k ms le h.1)

-- a list of at most m items begins
items_open : {A : Type 0} (adds : A → Rule A) (found : A) (total : ℕ) (s : List ℕ) (m : ℕ) → 0 < m
    → (n : ℕ) × (m ≡ n + 1) × (list_from right_brace adds m found total s ≡ (adds found total s >>= λ p. after_item adds n p.0 total p.1))
unfolding list_from
items_open adds found total s zero some = absurd (omega arith)
items_open adds found total s (suc m) some = (m, omega arith, refl)

-- a `{` comes next, and may
pub enter_open : (k : Bool) (d : ℕ) (ms : List ℕ) (found : List PartDecl) (total : ℕ) (s : List ℕ) → 0 < d → is_next left_brace s ≡ true
    → (e m : ℕ) × (d ≡ e + 1) × (m ≡ length (after_mark s)) × (enter k d ms found total s ≡ enter k e (m ∷ ms) found total (after_mark s))
unfolding adds_expr leave
enter_open k zero ms found total s some here = absurd (omega arith)
enter_open k (suc e) ms found total s some here =
    let (m, one, step) = items_open (adds_expr k e) found total (after_mark s) (suc (length (after_mark s))) (omega arith) in
    (e, m, omega arith, omega arith, rw (here, step) (bind_assoc (adds_expr k e found total (after_mark s)) _ _))

-- it comes next, and may not
pub enter_full : (k : Bool) (d : ℕ) (ms : List ℕ) (found : List PartDecl) (total : ℕ) (s : List ℕ) → d ≡ 0 → is_next left_brace s ≡ true
    → enter k d ms found total s ≡ deep total s
unfolding adds_expr
enter_full k zero ms found total s e here = rw here refl
enter_full k (suc d) ms found total s e here = absurd (omega arith)

-- a part comes next
pub enter_part : (k : Bool) (d : ℕ) (ms : List ℕ) (found : List PartDecl) (total : ℕ) (s : List ℕ) (x : PartDecl) (t : List ℕ)
    → is_next left_brace s ≡ false → part_at k total s ≡ Ok (x, t) → enter k d ms found total s ≡ leave k d ms (found ++ x ∷ []) total t
unfolding adds_expr adds_part
enter_part k zero ms found total s x t here good = rw (here, good) refl
enter_part k (suc d) ms found total s x t here good = rw (here, good) refl

-- neither does
pub enter_bad : (k : Bool) (d : ℕ) (ms : List ℕ) (found : List PartDecl) (total : ℕ) (s : List ℕ) (why : SyntaxFault)
    → is_next left_brace s ≡ false → part_at k total s ≡ Err why → enter k d ms found total s ≡ Err why
unfolding adds_expr adds_part
enter_bad k zero ms found total s why here bad = rw (here, bad) refl
enter_bad k (suc d) ms found total s why here bad = rw (here, bad) refl

-- no brace is open
pub leave_end : (k : Bool) (d : ℕ) (ms : List ℕ) (found : List PartDecl) (total : ℕ) (s : List ℕ) → length ms ≡ 0
    → leave k d ms found total s ≡ Ok (found, s)
unfolding leave
leave_end k d [] found total s e = refl
leave_end k d (m ∷ ms) found total s e = absurd (omega arith)

-- a comma comes next
pub leave_comma : (k : Bool) (d : ℕ) (ms : List ℕ) (found : List PartDecl) (total : ℕ) (s r : List ℕ) → 0 < length ms → is_next right_brace s ≡ false
    → mark_at comma total s ≡ Ok r → length r < length s → covers (length s) ms
    → (ns : List ℕ) × (length ns ≡ length ms) × covers (length r) ns × (leave k d ms found total s ≡ enter k d ns found total r)
unfolding leave
leave_comma k d [] found total s r some unclosed comes less cov = absurd (omega arith)
leave_comma k d (m ∷ ms) found total s r some unclosed comes less cov =
    let here = cov.0 in
    let (n, one, step) = items_open (adds_expr k d) found total r m (omega arith) in (
      n ∷ ms,
      refl,
      (omega arith, covers_less (length s) (length r) ms (omega arith) cov.1),
      rw (unclosed, comes, step) (bind_assoc (adds_expr k d found total r) _ _),
    )

-- it does not
pub leave_stuck : (k : Bool) (d : ℕ) (ms : List ℕ) (found : List PartDecl) (total : ℕ) (s : List ℕ) (why : SyntaxFault) → 0 < length ms
    → is_next right_brace s ≡ false → mark_at comma total s ≡ Err why → leave k d ms found total s ≡ Err why
unfolding leave
leave_stuck k d [] found total s why some unclosed bad = absurd (omega arith)
leave_stuck k d (m ∷ ms) found total s why some unclosed bad = rw (unclosed, bad) refl

-- a `}` of an open brace comes next
pub closed_more : (k : ℕ) (s : List ℕ) → 0 < k → is_next right_brace s ≡ true → (j : ℕ) × (k ≡ j + 1) × (closed_at k s ≡ closed_at j (after_mark s))
unfolding closed_at
closed_more zero s some here = absurd (omega arith)
closed_more (suc k) s some here = (k, omega arith, rw here refl)

-- none does
pub closed_stop : (k : ℕ) (s : List ℕ) → is_next right_brace s ≡ false → closed_at k s ≡ (k, s)
unfolding closed_at
closed_stop zero s here = refl
closed_stop (suc k) s here = rw here refl

-- none is open
pub closed_none : (k : ℕ) (s : List ℕ) → k ≡ 0 → closed_at k s ≡ (k, s)
unfolding closed_at
closed_none zero s e = refl
closed_none (suc k) s e = absurd (omega arith)

-- after all of them none comes next, or none is open
pub closed_last : (k : ℕ) (s : List ℕ) (j : ℕ) (t : List ℕ) → (j, t) ≡ closed_at k s → 0 < j → is_next right_brace t ≡ false
unfolding closed_at
closed_last zero s j t is some = let none = ap (λ (p : ℕ × List ℕ). p.0) is in absurd (omega arith)
closed_last (suc k) s j t is some =
    elim (true_or_false (is_next right_brace s)) [
      | inl here ↦ closed_last k (after_mark s) j t (rw here at is) some
      | inr none ↦ let same = ap (λ (p : ℕ × List ℕ). p.1) (rw none at is) in rw same none
    ]

-- what follows an expression, after all `}` that come next
pub leave_closed : (b : Bool) (d n : ℕ) (ms : List ℕ) (found : List PartDecl) (total : ℕ) (s : List ℕ) (k j : ℕ) (t : List ℕ) → length ms ≡ k
    → covers n ms → (j, t) ≡ closed_at k s
    → (e : ℕ) × (ns : List ℕ) × (e + j ≡ d + k) × (length ns ≡ j) × covers n ns × (leave b d ms found total s ≡ leave b e ns found total t)
unfolding closed_at leave
leave_closed b d n [] found total s zero j t e cov is =
    let none = ap (λ (p : ℕ × List ℕ). p.0) is in
    let same = ap (λ (p : ℕ × List ℕ). p.1) is in
    (d, [], omega arith, sym none, tt, rw same refl)
leave_closed b d n [] found total s (suc k) j t e cov is = absurd (omega arith)
leave_closed b d n (m ∷ ms) found total s zero j t e cov is = absurd (omega arith)
leave_closed b d n (m ∷ ms) found total s (suc k) j t e cov is =
    elim (true_or_false (is_next right_brace s)) [
      | inl here ↦
          let (a, ns, sum, len, covered, step) = leave_closed b (suc d) n ms found total (after_mark s) k j t (omega arith) cov.1 (rw here at is) in
          (a, ns, omega arith, len, covered, rw here step)
      | inr none ↦
          let left = ap (λ (p : ℕ × List ℕ). p.0) (rw none at is) in
          let same = ap (λ (p : ℕ × List ℕ). p.1) (rw none at is) in
          (d, m ∷ ms, omega arith, omega arith, cov, rw same refl)
    ]
