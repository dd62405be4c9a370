-- Functions as lines.
use Rattle.std.proofs.Common.{◌<◌, ℕ, Bool, List}
use Rattle.net_model.specs.Form.{Form, value}
use Rattle.net_model.specs.Args.{arg_at}
use Rattle.net_model.specs.declared.arguments.Args.{Args}
use Rattle.and_graphs.specs.declared.graphs.AndGraph.{AndGraph}
use Rattle.and_graphs.specs.Graphs.{Means, Keeps, Lowers}

-- the values of two functions, and an operator on them
pub lowers_two : (op : Bool → Bool → Bool) (args : Args ℕ) (A B : Form) (old first second new : AndGraph) (a b l : ℕ) → Keeps old first
    → Keeps first second → Lowers old args A first a → Lowers first args B second b
    → ((f h : List Bool → Bool) → Means second a f → Means second b h → Means new l (λ x. op (f x) (h x)))
    → (f : ℕ → List Bool → Bool) → ((i : ℕ) → i < 7 → Means old (arg_at args i) (f i))
    → Means new l (λ x. op (value A (λ i. f i x)) (value B (λ i. f i x)))
lowers_two op args A B old first second new a b l keeps then of_a of_b both f means =
    both (λ x. value A (λ i. f i x)) (λ x. value B (λ i. f i x))
    (then.means a (λ x. value A (λ i. f i x)) (of_a f means))
    (of_b f (λ i low. keeps.means (arg_at args i) (f i) (means i low)))
