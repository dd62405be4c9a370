-- Kept clauses that a version can spell or not, worked out by hand.
use Rattle.std.proofs.Common.{◌≡◌, ℕ, Bool, true, false, List, [], ◌∷◌, refl, sym, arith}
use Rattle.net_model.specs.declared.invariants.StateLit.{StateLit}
use Rattle.net_model.specs.declared.invariants.InvClause.{InvClause}
use Rattle.cert_words.proofs.RowLemmas.{never}
use Rattle.cert_lines.specs.Kinds.{IsVersion, is_long, IsKept}
use Rattle.cert_lines.proofs.KindLemmas.{state_fits}

abbrev lit : ℕ → Bool → StateLit
lit reg value = record { reg = reg; value = value }

abbrev clause : List StateLit → InvClause
clause lits = record { lits = lits }

abbrev three : InvClause
three = clause (lit 0 false ∷ lit 1 false ∷ lit 2 false ∷ [])

there_are_three_versions : IsVersion 1 × IsVersion 2 × IsVersion 3 × (¬ IsVersion 0) × (¬ IsVersion 4)
there_are_three_versions = (
  (omega arith, omega arith),
  (omega arith, omega arith),
  (omega arith, omega arith),
  λ is. (let some = is.0 in omega arith),
  λ is. (let few = is.1 in omega arith),
)

version_3_alone_has_long_clauses : (is_long 1 ≡ false) × (is_long 2 ≡ false) × (is_long 3 ≡ true)
version_3_alone_has_long_clauses = (refl, refl, refl)

a_third_literal_stands_in_version_3 : IsKept (is_long 3) three
a_third_literal_stands_in_version_3 = record {
  some = omega arith;
  ascend = (
    state_fits 0 0 false (omega arith) (omega arith),
    (state_fits 1 1 false (omega arith) (omega arith), (state_fits 2 2 false (omega arith) (omega arith), tt)),
  );
  short = λ e. absurd (never (sym e));
}

no_third_literal_stands_in_version_2 : ¬ IsKept (is_long 2) three
no_third_literal_stands_in_version_2 fits = let few = fits.short refl in omega arith

registers_ascend_in_version_3 : ¬ IsKept (is_long 3) (clause (lit 0 true ∷ lit 2 true ∷ lit 1 true ∷ []))
registers_ascend_in_version_3 fits = let above = fits.ascend.1.1.0.above_it in omega arith

no_register_stands_twice : ¬ IsKept (is_long 3) (clause (lit 0 true ∷ lit 0 false ∷ []))
no_register_stands_twice fits = let above = fits.ascend.1.0.above_it in omega arith

a_clause_has_a_literal : ¬ IsKept (is_long 3) (clause [])
a_clause_has_a_literal fits = let some = fits.some in omega arith
