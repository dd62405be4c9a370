-- A reading after one more token.
use Rattle.std.proofs.Common.{◌≡◌, ◌≢◌, ℕ, suc, ◌^◌, ◌<◌, ◌≤◌, max, Bool, true, false, List, [], ◌∷◌, ◌++◌, get_or, Some, None, refl, ap, sym, ◌∙◌, subst, arith, inl, inr, append_assoc}
use Rattle.std.specs.Prelude.{All, Option, Result, Ok, Err, OnOk, IfErr}
use Rattle.std.proofs.lemmas.List.{map_push, length-append}
use Rattle.std.proofs.lemmas.List.Elements.{All-nil, All-push}
use Rattle.proof_log.specs.Literals.{InVars, literal}
use Rattle.proof_log.specs.Clauses.{is_set, IsNormal, IsKeptOf}
use Rattle.proof_log.proofs.Members.{All-from_members, member_from_All}
use Rattle.dimacs_text.specs.Tokens.{Placed, token_of}
use Rattle.dimacs_text.specs.Texts.{Signed, greatest_var, number_token, IsBegun, AreCut, No_numbers, Is_literal, Is_end, AreKept, No_more, IsHeaded}
use Rattle.dimacs_text.specs.Faults.{StandsFirst, StandsAfter, IsStop}
use Rattle.dimacs_text.specs.Readings.{IsReadAfter, IsReadBy, IsRead, IsEnded}
use Rattle.dimacs_text.proofs.Keeping.{kept_more}
use Rattle.dimacs_text.specs.declared.readings.Reading.{Reading}
use Rattle.dimacs_text.specs.declared.counts.Counts.{Counts}
use Rattle.dimacs_text.specs.declared.tokens.Token.{Token}
use Rattle.dimacs_text.specs.declared.tokens.Token.TheVariants.{Header, NoHeader, Number, NoNumber}
use Rattle.dimacs_text.specs.declared.faults.DimacsFault.{DimacsFault}
use Rattle.dimacs_text.specs.declared.faults.DimacsFault.TheVariants as fault

-- the greatest variable of one more number
greatest_more : (numbers : List Signed) (n : Signed) → greatest_var (numbers ++ n ∷ []) ≡ max (greatest_var numbers) n.1
greatest_more [] n = omega arith
greatest_more (m ∷ numbers) n = let rest = greatest_more numbers n in omega (arith, rest)

-- the greatest variable is of the header where each one is
greatest_within : (vars : ℕ) (numbers : List Signed) → All (λ (n : Signed). n.1 ≤ vars) numbers → greatest_var numbers ≤ vars
greatest_within vars [] all = omega arith
greatest_within vars (n ∷ numbers) all =
    let first : n.1 ≤ vars = all 0 n (omega arith) in
    let rest = greatest_within vars numbers (λ k d low. all (suc k) d (omega (arith, low))) in
    omega (arith, first, rest)

-- literals are over more variables too
in_more : (vars more : ℕ) (lits : List ℕ) → vars ≤ more → All (InVars vars) lits → All (InVars more) lits
in_more vars more lits low all k d here = let in_vars = all k d here in (in_vars.0, omega (arith, in_vars.1, low))

all_in_more : (vars more : ℕ) (clauses : List (List ℕ)) → vars ≤ more → All (λ (c : List ℕ). All (InVars vars) c) clauses
    → All (λ (c : List ℕ). All (InVars more) c) clauses
all_in_more vars more clauses low all k d here = in_more vars more (get_or clauses k d) low (all k d here)

-- one more number
pub begun_more : (vars told line : ℕ) (positive : Bool) (var : ℕ) (numbers : List Signed) (placed : List Placed) → var ≤ vars
    → IsBegun vars told numbers placed → IsBegun vars told (numbers ++ (positive, var) ∷ []) (placed ++ (line, Number positive var) ∷ [])
begun_more vars told line positive var numbers placed low begun =
    record {
      is = map_push token_of placed (line, Number positive var)
          ∙ (ap (λ (ts : List Token). ts ++ Number positive var ∷ []) begun.is
          ∙ ap (λ (ts : List Token). Header vars told ∷ ts) (sym (map_push number_token numbers (positive, var))));
      few = begun.few;
      within = All-push (λ (n : Signed). n.1 ≤ vars) numbers (positive, var) begun.within low;
    }

-- the header alone
pub begun_first : (vars told line : ℕ) → vars < 2 ^ 31 → IsBegun vars told [] ((line, Header vars told) ∷ [])
begun_first vars told line few = record { is = refl; few = few; within = All-nil (λ (n : Signed). n.1 ≤ vars) }

-- what is read after the header alone
pub read_first : (vars told line : ℕ) (r : Reading) → vars < 2 ^ 31 → r.clauses ≡ [] → r.count ≡ 0 → r.begun.items ≡ []
    → r.greatest ≡ 0 → IsReadAfter ((line, Header vars told) ∷ []) vars told r
read_first vars told line r few no_clauses no_count no_begun no_var =
    record {
      numbers = [];
      clauses = [];
      begun = begun_first vars told line few;
      cut = subst (λ (ls : List ℕ). AreCut [] [] ls) (sym no_begun) No_numbers;
      kept = subst (AreKept []) (sym no_clauses) No_more;
      count = no_count;
      greatest = no_var;
      begun_in_vars = subst (All (InVars r.greatest)) (sym no_begun) (All-nil (InVars r.greatest));
      normal = subst (All IsNormal) (sym no_clauses) (All-nil IsNormal);
      in_vars = subst (All (λ (c : List ℕ). All (InVars r.greatest) c)) (sym no_clauses) (All-nil (λ (c : List ℕ). All (InVars r.greatest) c));
    }

lit_in : (vars var : ℕ) (positive : Bool) → 1 ≤ var → var ≤ vars → InVars vars (literal var positive)
lit_in vars var true from to = (omega (arith, from), omega (arith, to))
lit_in vars var false from to = (omega (arith, from), omega (arith, to))

-- what is read after one more literal
pub read_literal : (vars told line : ℕ) (positive : Bool) (var : ℕ) (placed : List Placed) (old new : Reading) → var ≤ vars → var ≢ 0
    → new.clauses ≡ old.clauses → new.count ≡ old.count → new.begun.items ≡ old.begun.items ++ literal var positive ∷ []
    → new.greatest ≡ max old.greatest var → IsReadAfter placed vars told old → IsReadAfter (placed ++ (line, Number positive var) ∷ []) vars told new
read_literal vars told line positive var placed old new low some clauses_are count_is begun_are greatest_is so =
    let up : old.greatest ≤ new.greatest = omega (arith, greatest_is) in
    let in_vars : InVars new.greatest (literal var positive) = lit_in new.greatest var positive (from_one var some) (omega (arith, greatest_is)) in
    let before = in_more old.greatest new.greatest old.begun.items up so.begun_in_vars in
    record {
      numbers = so.numbers ++ (positive, var) ∷ [];
      clauses = so.clauses;
      begun = begun_more vars told line positive var so.numbers placed low so.begun;
      cut = subst (λ (ls : List ℕ). AreCut (so.numbers ++ (positive, var) ∷ []) so.clauses ls) (sym begun_are)
          (Is_literal so.numbers (positive, var) so.clauses old.begun.items some so.cut);
      kept = subst (AreKept so.clauses) (sym clauses_are) so.kept;
      count = count_is ∙ so.count;
      greatest = greatest_is ∙ ap (λ (g : ℕ). max g var) so.greatest ∙ sym (greatest_more so.numbers (positive, var));
      begun_in_vars = subst (All (InVars new.greatest)) (sym begun_are)
          (All-push (InVars new.greatest) old.begun.items (literal var positive) before in_vars);
      normal = subst (All IsNormal) (sym clauses_are) so.normal;
      in_vars = subst (All (λ (c : List ℕ). All (InVars new.greatest) c)) (sym clauses_are)
          (all_in_more old.greatest new.greatest old.clauses up so.in_vars);
    }
  where
    from_one : (n : ℕ) → n ≢ 0 → 1 ≤ n
    from_one n other = omega (arith, other)

-- clauses with the same literals are over the same variables
same_in_vars : (vars : ℕ) (xs ys : List ℕ) → ((l : ℕ) → is_set xs l ≡ is_set ys l) → All (InVars vars) ys → All (InVars vars) xs
same_in_vars vars xs ys same all =
    All-from_members (InVars vars) xs (λ l h. member_from_All (InVars vars) ys l all (sym (same l) ∙ h))

normal_more : (clause : List ℕ) (old new : List (List ℕ)) → IsKeptOf clause old new → All IsNormal old → All IsNormal new
normal_more clause old new (inl left) all = subst (All IsNormal) (sym left.1) all
normal_more clause old new (inr kept) all = subst (All IsNormal) (sym kept.3) (All-push IsNormal old kept.0 all kept.1)

in_vars_more : (vars : ℕ) (clause : List ℕ) (old new : List (List ℕ)) → IsKeptOf clause old new → All (InVars vars) clause
    → All (λ (c : List ℕ). All (InVars vars) c) old → All (λ (c : List ℕ). All (InVars vars) c) new
in_vars_more vars clause old new (inl left) here all = subst (All (λ (c : List ℕ). All (InVars vars) c)) (sym left.1) all
in_vars_more vars clause old new (inr kept) here all =
    subst (All (λ (c : List ℕ). All (InVars vars) c)) (sym kept.3)
    (All-push (λ (c : List ℕ). All (InVars vars) c) old kept.0 all (same_in_vars vars kept.0 clause kept.2 here))

-- what is read after the end of a clause
pub read_end : (vars told line : ℕ) (positive : Bool) (var : ℕ) (placed : List Placed) (old new : Reading) → var ≤ vars → var ≡ 0 → IsEnded old new
    → IsReadAfter placed vars told old → IsReadAfter (placed ++ (line, Number positive var) ∷ []) vars told new
read_end vars told line positive var placed old new low zero_ ended so =
    record {
      numbers = so.numbers ++ (positive, var) ∷ [];
      clauses = so.clauses ++ old.begun.items ∷ [];
      begun = begun_more vars told line positive var so.numbers placed low so.begun;
      cut = subst (λ (ls : List ℕ). AreCut (so.numbers ++ (positive, var) ∷ []) (so.clauses ++ old.begun.items ∷ []) ls) (sym ended.begun)
          (Is_end so.numbers (positive, var) so.clauses old.begun.items zero_ so.cut);
      kept = kept_more so.clauses old.clauses new.clauses old.begun.items ended.kept so.kept;
      count = omega (arith, ended.count, so.count, length-append so.clauses (old.begun.items ∷ []));
      greatest = ended.greatest ∙ so.greatest ∙ same_greatest so.numbers positive var zero_;
      begun_in_vars = subst (All (InVars new.greatest)) (sym ended.begun) (All-nil (InVars new.greatest));
      normal = normal_more old.begun.items old.clauses new.clauses ended.kept so.normal;
      in_vars = subst (λ (g : ℕ). All (λ (c : List ℕ). All (InVars g) c) new.clauses) (sym ended.greatest)
          (in_vars_more old.greatest old.begun.items old.clauses new.clauses ended.kept so.begun_in_vars so.in_vars);
    }
  where
    same_greatest : (numbers : List Signed) (positive : Bool) (var : ℕ) → var ≡ 0 → greatest_var numbers ≡ greatest_var (numbers ++ (positive, var) ∷ [])
    same_greatest numbers positive var zero_ = let more = greatest_more numbers (positive, var) in omega (arith, more, zero_)

-- the variables of what is read are of the header
pub headed : (placed : List Placed) (counts : Counts) (r : Reading) → IsReadAfter placed counts.vars counts.told r
    → IsHeaded (record { vars = counts.vars; formula = record { vars = r.greatest; clauses = r.clauses } })
headed placed counts r so =
    let low : r.greatest ≤ counts.vars = subst (λ (n : ℕ). n ≤ counts.vars) (sym so.greatest) (greatest_within counts.vars so.numbers so.begun.within) in
    record {
      formula = record { few = omega (arith, low, so.begun.few); normal = so.normal; in_vars = so.in_vars };
      within = low;
      few = so.begun.few;
    }

-- what stands after a header stands there in the text too
pub stands_after : (vars told line : ℕ) (token : Token) (placed : List Placed) (r : Reading) → IsReadAfter placed vars told r
    → StandsAfter (placed ++ (line, token) ∷ []) vars line token
stands_after vars told line token placed r so =
    record { front = placed; rest = []; told = told; numbers = so.numbers; begun = so.begun; is = refl }

stands_more : (placed more : List Placed) (vars line : ℕ) (token : Token) → StandsAfter placed vars line token → StandsAfter (placed ++ more) vars line token
stands_more placed more vars line token so =
    record {
      front = so.front;
      rest = so.rest ++ more;
      told = so.told;
      numbers = so.numbers;
      begun = so.begun;
      is = ap (λ (ps : List Placed). ps ++ more) so.is ∙ append_assoc so.front ((line, token) ∷ so.rest) more;
    }

first_more : (placed more : List Placed) (line : ℕ) (token : Token) → StandsFirst placed line token → StandsFirst (placed ++ more) line token
first_more placed more line token first = (first.0 ++ more, ap (λ (ps : List Placed). ps ++ more) first.1)

-- what stops the reading of some tokens stops that of longer ones
pub stop_more : (placed more : List Placed) (e : DimacsFault) → IsStop placed e → IsStop (placed ++ more) e
stop_more placed more (fault.Word line) (vars, stands) = (vars, stands_more placed more vars line NoNumber stands)
stop_more placed more (fault.Header line) (inl first) = inl (first_more placed more line NoHeader first)
stop_more placed more (fault.Header line) (inr (vars, token, heading, stands)) = inr (vars, token, heading, stands_more placed more vars line token stands)
stop_more placed more (fault.Early line) (token, word, first) = (token, word, first_more placed more line token first)
stop_more placed more (fault.Variable line) (vars, positive, var, above, stands) =
    (vars, positive, var, above, stands_more placed more vars line (Number positive var) stands)
stop_more placed more fault.NoHeader stop = absurd stop
stop_more placed more fault.Unfinished stop = absurd stop
stop_more placed more (fault.Count found told) stop = absurd stop
stop_more placed more fault.Memory stop = tt

-- what is read after a header
pub read_by : (placed : List Placed) (r : Reading) (counts : Counts) → r.header ≡ Some counts → IsReadAfter placed counts.vars counts.told r → IsRead placed r
read_by placed r counts is so = subst (λ (h : Option Counts). IsReadBy placed h r) (sym is) so

pub read_from : (placed : List Placed) (r : Reading) (counts : Counts) → r.header ≡ Some counts → IsRead placed r → IsReadAfter placed counts.vars counts.told r
read_from placed r counts is so = subst (λ (h : Option Counts). IsReadBy placed h r) is so

pub read_none : (placed : List Placed) (r : Reading) → r.header ≡ None → IsRead placed r → placed ≡ []
read_none placed r is so = subst (λ (h : Option Counts). IsReadBy placed h r) is so

-- what follows where a call succeeds
pub on_ok : {A E : Type 0} (r : Result A E) (P Q : Type 0) → (P → Q) → OnOk r P → OnOk r Q
on_ok (Ok x) P Q more p = more p
on_ok (Err e) P Q more p = tt

-- want of memory stops any reading
pub memory_stops : {A : Type 0} (placed : List Placed) (r : Result A DimacsFault) → IfErr r (λ e. e ≡ fault.Memory) → IfErr r (IsStop placed)
memory_stops placed (Ok x) only = tt
memory_stops placed (Err e) only = subst (IsStop placed) (sym only) tt

-- what follows where a call fails
pub if_err : {A E : Type 0} (r : Result A E) (P Q : E → Type 0) → ((e : E) → P e → Q e) → IfErr r P → IfErr r Q
if_err (Ok x) P Q more p = tt
if_err (Err e) P Q more p = more e p
