-- Clauses of definitions and of what is asked are the problem of a query.
use Rattle.std.proofs.Common.{◌≡◌, ℕ, ◌^◌, ◌<◌, Bool, List, [], length, refl, sym, subst, arith}
use Rattle.std.specs.Prelude.{All, flat_map}
use Rattle.net_model.specs.Queries.{Query}
use Rattle.query_model.specs.Formula.{definitions, asked_clauses, formula_over, listed, AreMovedFor, AreNeeded}
use Rattle.query_model.specs.Variables.{AreNormalsOf}
use Rattle.query_model.specs.declared.keys.Key.{Key}
use Rattle.query_model.specs.declared.keys.Coding.{Coding}
use Rattle.proof_log.specs.Literals.{InVars}
use Rattle.proof_log.specs.Formulas.{IsFormula}
use Rattle.cnf_encode.specs.Coded.{coded, Adds}
use Rattle.cnf_encode.specs.Listed.{Lists}
use Rattle.cnf_encode.specs.Problems.{IsProblemFor}
use Rattle.cnf_encode.specs.declared.problems.Problem.{Problem}
use Rattle.cnf_encode.proofs.Normals.{Adds-append}
use Rattle.cnf_encode.proofs.Formed.{normals_formed}
use Rattle.cnf_encode.proofs.Needing.{formula_keys}

-- the clauses of the definitions of needed keys, and then those that are asked
pub record IsMade (coding : Coding) (q : Query) (moved : List (List Bool)) (problem : Problem) : Type 0 where
  pub are_moved : AreMovedFor q.design q.question moved
  pub are_needed : AreNeeded (definitions coding q moved) (asked_clauses q) problem.frames
  pub live : problem.live ≡ q.live
  pub cycles : problem.cycles ≡ q.cycles
  pub vars : problem.formula.vars ≡ length problem.frames
  pub few : length problem.frames < 2 ^ 31
  pub normals : AreNormalsOf (coded problem.frames (formula_over (definitions coding q moved) (asked_clauses q) problem.frames)) problem.formula.clauses

pub normals_made : (coding : Coding) (q : Query) (moved : List (List Bool)) (keys : List Key) (defined clauses : List (List ℕ))
    → Lists keys (definitions coding q moved) [] defined → Adds keys (asked_clauses q) defined clauses
    → AreNormalsOf (coded keys (formula_over (definitions coding q moved) (asked_clauses q) keys)) clauses
normals_made coding q moved keys defined clauses lists adds =
    Adds-append keys (flat_map (listed keys) (definitions coding q moved)) (asked_clauses q) [] defined clauses lists.adds adds [] tt

pub made_exact : (coding : Coding) (q : Query) (moved : List (List Bool)) (problem : Problem) → IsMade coding q moved problem → IsProblemFor coding q problem
made_exact coding q moved problem made =
    record {
      live = made.live;
      cycles = made.cycles;
      clauses = record {
        over_keys = formula_over (definitions coding q moved) (asked_clauses q) problem.frames;
        formula = record { moved = moved; are_moved = made.are_moved; are_needed = made.are_needed; are_clauses = refl };
        vars_are = made.vars;
        clauses_are = made.normals;
      };
    }

pub made_normal : (coding : Coding) (q : Query) (moved : List (List Bool)) (problem : Problem) → IsMade coding q moved problem → IsFormula problem.formula
made_normal coding q moved problem made =
    let formed = normals_formed problem.frames (formula_over (definitions coding q moved) (asked_clauses q) problem.frames) problem.formula.clauses
    (formula_keys (definitions coding q moved) (asked_clauses q) problem.frames made.are_needed) made.normals in
    record {
      few = omega (arith, made.few, made.vars);
      normal = formed.0;
      in_vars = subst (λ n. All (λ (c : List ℕ). All (InVars n) c) problem.formula.clauses) (sym made.vars) formed.1;
    }
