-- The version that is written, worked out by hand.
use Rattle.std.proofs.Common.{◌≡◌, ℕ, Bool, true, false, List, [], ◌∷◌, refl}
use Rattle.net_model.specs.declared.invariants.StateLit.{StateLit}
use Rattle.net_model.specs.declared.invariants.InvClause.{InvClause}
use Rattle.query_model.specs.declared.keys.Coding.TheVariants.{Rows, Primes}
use Rattle.verdict_types.specs.declared.kept.InvSet.{InvSet}
use Rattle.cert_values.specs.Certs.{cert_of}
use Rattle.cert_values.specs.Versions.{coding_of, version_for}

abbrev lit : ℕ → Bool → StateLit
lit reg value = record { reg = reg; value = value }

abbrev two : InvClause
two = record { lits = lit 0 true ∷ lit 4 false ∷ [] }

abbrev three : InvClause
three = record { lits = lit 0 false ∷ lit 1 false ∷ lit 2 false ∷ [] }

abbrev keeping : List InvClause → InvSet
keeping kept = record { depth = 1; kept = kept; proofs = []; spent = [] }

nothing_kept_is_version_2 : version_for [] ≡ 2
nothing_kept_is_version_2 = refl

two_literals_are_version_2 : version_for (two ∷ two ∷ []) ≡ 2
two_literals_are_version_2 = refl

three_literals_are_version_3 : version_for (three ∷ []) ≡ 3
three_literals_are_version_3 = refl

-- wherever it stands
one_long_clause_is_version_3 : version_for (two ∷ three ∷ two ∷ []) ≡ 3
one_long_clause_is_version_3 = refl

a_certificate_has_the_version_of_what_it_keeps : (cert_of (keeping (two ∷ three ∷ [])) []).version ≡ 3
a_certificate_has_the_version_of_what_it_keeps = refl

version_1_speaks_of_rows : coding_of 1 ≡ Rows
version_1_speaks_of_rows = refl

version_2_speaks_of_prime_cubes : coding_of 2 ≡ Primes
version_2_speaks_of_prime_cubes = refl

version_3_speaks_of_prime_cubes : coding_of 3 ≡ Primes
version_3_speaks_of_prime_cubes = refl
