-- What is told of a formula, in the form of the SAT competitions.
use Rattle.std.specs.Prelude.{◌≡◌, ℕ, ◌+◌, ◌-◌, Bool, false, if◌then◌else◌, List, ◌++◌, length, replicate, codes}
use Rattle.std.specs.Fmt.{decimal}
use Rattle.sdcv_base.specs.Seqs.{each_at}
use Rattle.proof_log.specs.declared.formulas.Formula.{Formula}
use Rattle.dimacs_text.specs.declared.headed.Headed.{Headed}
use Rattle.sat_solver.specs.declared.counts.Counts.{Counts}
use Rattle.sat_solver.specs.declared.solving.Answer.{Answer}
use Rattle.sat_solver.specs.declared.solving.Answer.TheVariants.{Sat, Unsat, Spent}
use Rattle.sat_solver.specs.Answers.{IsAnswer}

-- what the search did, in lines of comment
abbrev pub counts_text : Counts → List ℕ
counts_text c = codes "c conflicts " ++ (decimal c.conflicts ++ (codes "\nc propagations " ++ (decimal c.propagations ++ codes "\n")))

-- the literal that is true of the variable at a place, the first one being variable 1
abbrev pub literal_text : ℕ → Bool → List ℕ
literal_text place value = (if value then codes " " else codes " -") ++ decimal (place + 1)

-- a literal for each variable, in order
abbrev pub literals_text : List Bool → List ℕ
literals_text values = each_at literal_text 0 values

abbrev pub model_text : List Bool → List ℕ
model_text values = codes "s SATISFIABLE\nv" ++ (literals_text values ++ codes " 0\n")

-- how many clauses were learnt, how many steps their derivation has, and the answer
abbrev pub steps_text : ℕ → ℕ → List ℕ → List ℕ
steps_text learnt steps answer =
    codes "c clauses learnt " ++ (decimal learnt ++ (codes "\nc steps " ++ (decimal steps ++ (codes "\ns " ++ (answer ++ codes "\n")))))

-- the last step of a refutation is the empty clause, which is not learnt
abbrev pub answer_text : Answer → List ℕ
answer_text (Sat model) = model_text model.values
answer_text (Unsat derivation) = steps_text (length derivation.steps - 1) (length derivation.steps) (codes "UNSATISFIABLE")
answer_text (Spent log) = steps_text (length log.steps) (length log.steps) (codes "UNKNOWN")

-- the status that goes with an answer
abbrev pub status_of : Answer → ℕ
status_of (Sat model) = 10
status_of (Unsat derivation) = 20
status_of (Spent log) = 0

-- the formula over all variables of its header
abbrev pub whole : Headed → Formula
whole read = record { vars = read.vars; clauses = read.formula.clauses }

-- values of so many variables, of which the last ones are false
abbrev pub filled : ℕ → List Bool → List Bool
filled vars values = values ++ replicate (vars - length values) false

-- an answer where a model is of so many variables
abbrev pub widened : ℕ → Answer → Answer
widened vars (Sat model) = Sat (record { values = filled vars model.values })
widened vars (Unsat derivation) = Unsat derivation
widened vars (Spent log) = Spent log

-- an answer that is right is told, with its status: the literals are those of a model, and a formula is told unsatisfiable where a
-- derivation refutes it
pub record Tells (formula : Formula) (budget : ℕ) (told : List ℕ) (status : ℕ) : Type 0 where
  pub counts : Counts
  pub answer : Answer
  pub right : IsAnswer formula budget answer
  pub text : told ≡ counts_text counts ++ answer_text answer
  pub code : status ≡ status_of answer
