-- What names stand for in a cell, and an expression with that in their places.
use Rattle.std.specs.Prelude.{ℕ, ◌+◌, if◌then◌else◌, List, length, Option, Some, None}
use Rattle.std.specs.Str.{bytes_eq}
use Rattle.texts.specs.Names.{is_among, place_of}
use Rattle.texts.specs.Reads.{◌>>=◌}
use Rattle.net_model.specs.Form.{Form, ZeroForm, OneForm, PinForm, NotForm, AndForm, OrForm, XorForm}
use Rattle.cell_lib.specs.declared.scopes.States.{States}
use Rattle.lib_func.specs.Trees.{Tree, ZeroTree, OneTree, NameTree, NotTree, AndTree, OrTree, XorTree}

-- what a name of a flop's state stands for: the place after the inputs, or its inverse
abbrev pub state_meaning : ℕ → Option States → List ℕ → Option Form
state_meaning own None n = None
state_meaning own (Some names) n =
    if bytes_eq n names.state then Some (PinForm own)
    else if bytes_eq n names.complement then Some (NotForm (PinForm own))
    else None

-- what a name stands for: an input, or a name of the state where these are given
abbrev pub meaning : List (List ℕ) → Option States → List ℕ → Option Form
meaning inputs names n =
    if is_among n inputs then Some (PinForm (place_of n inputs)) else state_meaning (length inputs) names n

-- the expression with what each name stands for in its place, where each stands for something
abbrev pub resolved : (List ℕ → Option Form) → Tree → Option Form
resolved mean ZeroTree = Some ZeroForm
resolved mean OneTree = Some OneForm
resolved mean (NameTree n) = mean n
resolved mean (NotTree f) = resolved mean f >>= λ x. Some (NotForm x)
resolved mean (AndTree f g) = resolved mean f >>= λ x. resolved mean g >>= λ y. Some (AndForm x y)
resolved mean (OrTree f g) = resolved mean f >>= λ x. resolved mean g >>= λ y. Some (OrForm x y)
resolved mean (XorTree f g) = resolved mean f >>= λ x. resolved mean g >>= λ y. Some (XorForm x y)

-- how many places there are: the inputs, and the state where its names are given
abbrev pub reach : List (List ℕ) → Option States → ℕ
reach inputs None = length inputs
reach inputs (Some names) = length inputs + 1
