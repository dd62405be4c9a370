-- The modules of a text and their scopes.
use Rattle.std.proofs.Common.{arith, ◌≡◌, ℕ, zero, suc, ◌<◌, Bool, true, false, List, [], ◌∷◌, ◌++◌, length, map, get_or, Ok, refl, sym, ap, ◌∙◌, subst}
use Rattle.std.proofs.Common.{append_assoc, append-nil}
use Rattle.std.proofs.lemmas.Slice.Zip.{length-zip, get_or-zip}
use Rattle.std.specs.List.{zip}
use Rattle.verilog_syntax.specs.declared.declarations.ModuleDecl.{ModuleDecl}
use Rattle.verilog_scope.specs.declared.scopes.Scope.{Scope}
use Rattle.verilog_scope.specs.Folds.{fold_ok, each, pushing}
use Rattle.verilog_scope.specs.Decls.{with_new}
use Rattle.verilog_scope.specs.Scopes.{scope_of}
use Rattle.verilog_scope.proofs.KeepLemmas.{step_gave}
use Rattle.verilog_net.specs.declared.hierarchies.Hierarchy.{Hierarchy}
use Rattle.verilog_net.specs.Hierarchies.{hierarchy_of}

-- names that differ, and the scopes
pub hierarchy_parts : (wide : Bool) (ms : List ModuleDecl) (h : Hierarchy) → hierarchy_of wide ms ≡ Ok h
    → (fold_ok with_new [] (map (λ (m : ModuleDecl). m.name) ms) ≡ Ok h.names) × (each scope_of ms ≡ Ok h.scopes)
unfolding hierarchy_of
hierarchy_parts wide ms h e =
    let (names, differ, rest) = step_gave (fold_ok with_new [] (map (λ (m : ModuleDecl). m.name) ms)) _ h e in
    let (scopes, found, made) = step_gave (each scope_of ms) _ h rest in
    let made_of : Hierarchy = record { names = names; scopes = scopes; wide = wide } in
    let same : made_of ≡ h = cc in
    (differ ∙ ap (λ (h : Hierarchy). Ok h.names) same, found ∙ ap (λ (h : Hierarchy). Ok h.scopes) same)

-- each declaration has its scope
abbrev pub Scoped : List ModuleDecl → List Scope → Type 0
Scoped [] [] = Unit {0}
Scoped [] (s ∷ ss) = false ≡ true
Scoped (m ∷ ms) [] = false ≡ true
Scoped (m ∷ ms) (s ∷ ss) = (scope_of m ≡ Ok s) × Scoped ms ss

scopes_from : (found : List Scope) (ms : List ModuleDecl) (last : List Scope) → fold_ok (pushing scope_of) found ms ≡ Ok last
    → (rest : List Scope) × ((last ≡ found ++ rest) × Scoped ms rest)
unfolding fold_ok
scopes_from found [] last e = let same : found ≡ last = cc in ([], (sym same ∙ sym (append-nil found), tt))
scopes_from found (m ∷ ms) last e =
    let (next, one, more) = step_gave (pushing scope_of found m) _ last e in
    let (s, gives, made) = step_gave (scope_of m) _ next one in
    let same : found ++ s ∷ [] ≡ next = cc in
    let (rest, (is, scoped)) = scopes_from next ms last more in
    (s ∷ rest, (is ∙ ap (λ (l : List Scope). l ++ rest) (sym same) ∙ append_assoc found (s ∷ []) rest, (gives, scoped)))

pub scopes_are : (ms : List ModuleDecl) (ss : List Scope) → each scope_of ms ≡ Ok ss → Scoped ms ss
scopes_are ms ss e = let (rest, (all, scoped)) = scopes_from [] ms ss e in subst (Scoped ms) (sym all) scoped

pub scoped_length : (ms : List ModuleDecl) (ss : List Scope) → Scoped ms ss → length ss ≡ length ms
scoped_length [] [] scoped = refl
scoped_length [] (s ∷ ss) scoped = absurd cc
scoped_length (m ∷ ms) [] scoped = absurd cc
scoped_length (m ∷ ms) (s ∷ ss) scoped = let rest = scoped_length ms ss scoped.1 in omega arith

-- the scope at a place is that of the declaration there
pub scoped_at : (ms : List ModuleDecl) (ss : List Scope) (i : ℕ) (m : ModuleDecl) (s : Scope) → Scoped ms ss → i < length ss
    → m ≡ get_or ms i m → s ≡ get_or ss i s → scope_of m ≡ Ok s
scoped_at [] [] i m s scoped below declared has = absurd (omega arith)
scoped_at [] (s0 ∷ ss) i m s scoped below declared has = absurd cc
scoped_at (m0 ∷ ms) [] i m s scoped below declared has = absurd cc
scoped_at (m0 ∷ ms) (s0 ∷ ss) zero m s scoped below declared has = rw (declared, has) scoped.0
scoped_at (m0 ∷ ms) (s0 ∷ ss) (suc i) m s scoped below declared has = scoped_at ms ss i m s scoped.1 (omega arith) declared has

-- where both lists go side by side, at each place stand the scope and the declaration there
pub paired_at : (ss : List Scope) (ms : List ModuleDecl) (i : ℕ) (s : Scope) (m : ModuleDecl) → length ss ≡ length ms → i < length (zip ss ms)
    → ◌≡◌ {A = Scope × ModuleDecl} (s, m) (get_or (zip ss ms) i (s, m)) → (i < length ss) × ((s ≡ get_or ss i s) × (m ≡ get_or ms i m))
paired_at ss ms i s m same below here =
    let long = length-zip ss ms in
    let first : i < length ss = omega (arith, same, long, below) in
    let second : i < length ms = omega (arith, same, first) in
    let both = here ∙ get_or-zip ss ms i (s, m) first second in
    (first, (ap (λ (p : Scope × ModuleDecl). p.0) both, ap (λ (p : Scope × ModuleDecl). p.1) both))
