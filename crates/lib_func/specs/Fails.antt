-- Where it is right that no function was read.
use Rattle.std.specs.Prelude.{◌≡◌, ℕ, ◌<◌, List, Option, Some, None}
use Rattle.texts.specs.Reads.{Read}
use Rattle.texts.specs.Rules.{most_nested}
use Rattle.lib_func.specs.declared.stops.Stop.{Stop}
use Rattle.lib_func.specs.declared.stops.Stop.TheVariants as stop
use Rattle.lib_func.specs.Trees.{Tree, height}

-- the grammar gives nothing; what it gives, if anything, has a tree that is too high; or memory ran out
abbrev pub FailsBy : {B : Type 0} → (B → Tree) → Stop → Option B → Type 0
FailsBy tree stop.NoFunction expected = expected ≡ None
FailsBy {B} tree stop.Deep expected = (x : B) → expected ≡ Some x → most_nested < height (tree x)
FailsBy tree stop.Memory expected = Unit {0}

abbrev pub tree : Tree × List ℕ → Tree
tree p = p.0

abbrev pub itself : Tree → Tree
itself f = f

-- the same of a tree and the text after it
abbrev pub Fails : Stop → Read Tree → Type 0
Fails e expected = FailsBy tree e expected

-- the same of a tree
abbrev pub FailsWhole : Stop → Option Tree → Type 0
FailsWhole e expected = FailsBy itself e expected
