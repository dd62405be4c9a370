-- What is found of a formula holds of it over all variables of its header.
use Rattle.std.proofs.Common.{◌≡◌, ◌-◌, ◌≤◌, ◌∙◌, ℕ, Bool, List, length, get_or, refl, ap, arith}
use Rattle.std.specs.Prelude.{All}
use Rattle.proof_log.specs.Literals.{InVars}
use Rattle.proof_log.specs.Clauses.{clause_true}
use Rattle.proof_log.specs.Formulas.{value_in, IsModel}
use Rattle.proof_log.specs.declared.models.Model.{Model}
use Rattle.sat_solver.specs.Answers.{IsAnswer}
use Rattle.sat_solver.specs.declared.solving.Answer.{Answer}
use Rattle.sat_solver.specs.declared.solving.Answer.TheVariants.{Sat, Unsat, Spent}
use Rattle.dimacs_text.specs.Texts.{IsHeaded}
use Rattle.dimacs_text.specs.declared.headed.Headed.{Headed}
use Rattle.solve_cnf.specs.Answers.{whole, filled, widened, status_of}
use Rattle.solve_cnf.proofs.Filling.{filled_at, length-filled}

-- literals are over more variables too
in_more : (vars more : ℕ) (lits : List ℕ) → vars ≤ more → All (InVars vars) lits → All (InVars more) lits
in_more vars more lits low all k d here = let in_vars = all k d here in (in_vars.0, omega (arith, in_vars.1, low))

value_same : (vars : ℕ) (values : List Bool) → value_in (filled vars values) ≡ value_in values
value_same vars values = λ i var. filled_at vars values (var - 1) i

-- a model has false for the variables that no clause has
model_whole : (read : Headed) (model : Model) → IsHeaded read → IsModel read.formula model
    → IsModel (whole read) (record { values = filled read.vars model.values })
model_whole read model headed is =
    let long : length (filled read.vars model.values) ≡ read.vars =
    omega (arith, length-filled read.vars model.values, is.0, headed.within) in
    (long, λ k d low. ap (λ (v : ℕ → Bool). clause_true v (get_or read.formula.clauses k d)) (value_same read.vars model.values) ∙ is.1 k d low)

pub answer_whole : (read : Headed) (budget : ℕ) (answer : Answer) → IsHeaded read → IsAnswer read.formula budget answer
    → IsAnswer (whole read) budget (widened read.vars answer)
answer_whole read budget (Sat model) headed right = model_whole read model headed right
answer_whole read budget (Unsat derivation) headed right =
    record {
      refutes = right.refutes;
      normal = right.normal;
      in_vars = λ k d low. in_more read.formula.vars read.vars (get_or derivation.steps k d).clause headed.within (right.in_vars k d low);
      short = right.short;
    }
answer_whole read budget (Spent log) headed right =
    record {
      long = right.long;
      follow = right.follow;
      new = right.new;
      logged = λ k d low. let here = right.logged k d low in
          record {
            normal = here.normal;
            in_vars = in_more read.formula.vars read.vars (get_or log.steps k d).clause headed.within here.in_vars;
            some = here.some;
          };
    }

pub status_whole : (vars : ℕ) (answer : Answer) → status_of (widened vars answer) ≡ status_of answer
status_whole vars (Sat model) = refl
status_whole vars (Unsat derivation) = refl
status_whole vars (Spent log) = refl

-- only a model is told by a status of 10
pub model_of : (read : Headed) (budget : ℕ) (answer : Answer) → IsHeaded read → IsAnswer read.formula budget answer → status_of answer ≡ 10
    → (m : Model) × IsModel (whole read) m
model_of read budget (Sat model) headed right ten = (record { values = filled read.vars model.values }, model_whole read model headed right)
model_of read budget (Unsat derivation) headed right ten = absurd (omega (arith, ten))
model_of read budget (Spent log) headed right ten = absurd (omega (arith, ten))
