-- A code of expressions, by which a proof tells them apart: the expression in postfix order.
use Rattle.std.specs.Prelude.{◌≡◌, ℕ, zero, suc, List, [], ◌∷◌, refl}
use Rattle.std.proofs.Common.{◌∙◌, ap}
use Rattle.std.specs.Coded.{Coded, code_by, coded×, coded_ℕ, coded_list}
use Rattle.lib_func.specs.Trees.{Tree, ZeroTree, OneTree, NameTree, NotTree, AndTree, OrTree, XorTree}

-- the words of an expression, before the rest
abbrev pub words : Tree → List (ℕ × List ℕ) → List (ℕ × List ℕ)
words ZeroTree rest = (0, []) ∷ rest
words OneTree rest = (1, []) ∷ rest
words (NameTree n) rest = (2, n) ∷ rest
words (NotTree f) rest = words f ((3, []) ∷ rest)
words (AndTree f g) rest = words f (words g ((4, []) ∷ rest))
words (OrTree f g) rest = words f (words g ((5, []) ∷ rest))
words (XorTree f g) rest = words f (words g ((6, []) ∷ rest))

abbrev pub one : (Tree → Tree) → List Tree → List Tree
one F [] = []
one F (f ∷ stack) = F f ∷ stack

abbrev pub two : (Tree → Tree → Tree) → List Tree → List Tree
two F [] = []
two F (g ∷ []) = []
two F (g ∷ f ∷ stack) = F f g ∷ stack

abbrev pub word : ℕ → List ℕ → List Tree → List Tree
word zero n stack = ZeroTree ∷ stack
word (suc zero) n stack = OneTree ∷ stack
word (suc (suc zero)) n stack = NameTree n ∷ stack
word (suc (suc (suc zero))) n stack = one NotTree stack
word (suc (suc (suc (suc zero)))) n stack = two AndTree stack
word (suc (suc (suc (suc (suc zero))))) n stack = two OrTree stack
word (suc (suc (suc (suc (suc (suc k)))))) n stack = two XorTree stack

abbrev pub read : List (ℕ × List ℕ) → List Tree → List Tree
read [] stack = stack
read (w ∷ rest) stack = read rest (word w.0 w.1 stack)

abbrev pub top : List Tree → Tree
top [] = ZeroTree
top (f ∷ stack) = f

pub read-words : (f : Tree) (rest : List (ℕ × List ℕ)) (stack : List Tree) → read (words f rest) stack ≡ read rest (f ∷ stack)
read-words ZeroTree rest stack = refl
read-words OneTree rest stack = refl
read-words (NameTree n) rest stack = refl
read-words (NotTree f) rest stack = read-words f ((3, []) ∷ rest) stack
read-words (AndTree f g) rest stack =
    read-words f (words g ((4, []) ∷ rest)) stack ∙ read-words g ((4, []) ∷ rest) (f ∷ stack)
read-words (OrTree f g) rest stack =
    read-words f (words g ((5, []) ∷ rest)) stack ∙ read-words g ((5, []) ∷ rest) (f ∷ stack)
read-words (XorTree f g) rest stack =
    read-words f (words g ((6, []) ∷ rest)) stack ∙ read-words g ((6, []) ∷ rest) (f ∷ stack)

abbrev pub coded_tree : Coded Tree
coded_tree =
    code_by (List (ℕ × List ℕ)) (coded_list (coded× coded_ℕ (coded_list coded_ℕ))) (λ f. words f []) (λ ws. top (read ws [])) (λ f. ap top (read-words f [] []))
