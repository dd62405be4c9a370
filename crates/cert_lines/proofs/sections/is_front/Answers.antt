use Rattle.std.proofs.Common.{Option, None, Some, Bor, MatchOption, is_some, IsTrue, ◌↔◌, ◌≡◌, ◌≢◌, ℕ, List, ◌++◌, sym, refl}
use Rattle.std.proofs.lemmas.Bool.Decides.{Decides-eqb}
use Rattle.std.proofs.lemmas.Slice.Eq.{strip_prefix_is}
use Rattle.cert_lines.proofs.sections.is_front.Goals as goal

front_is : (front word : List ℕ) (o : Option (Bor (List ℕ))) → MatchOption o ((rest : List ℕ) → word ≢ front ++ rest) (λ x. word ≡ front ++ x.now)
    → IsTrue (is_some o) ↔ ((more : List ℕ) × (front ++ more ≡ word))
front_is front word None none = (λ t. cc, λ m. absurd (none m.0 (sym m.1)))
front_is front word (Some x) is = (λ t. (x.now, sym is), λ m. refl)

pub returns : goal.returns
returns c =
    rw c.is_some.ensures
    (front_is c.args.front.now c.args.word.now c.strip_prefix.result
    (strip_prefix_is Decides-eqb c.args.word.now c.args.front.now c.strip_prefix.result c.strip_prefix.ensures.cases))
