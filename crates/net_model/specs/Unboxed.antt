-- The tree of a function by its root.
use Rattle.net_model.specs.Form.{Form, ZeroForm, OneForm, PinForm, NotForm, AndForm, OrForm, XorForm}
use Rattle.net_model.specs.declared.functions.Node.{Node}
use Rattle.net_model.specs.declared.functions.Node.TheVariants.{Zero, One, Pin, Not, And, Or, Xor}

-- the operator at the root, over the trees of its operands
abbrev pub form_of : Node → Form
form_of Zero = ZeroForm
form_of One = OneForm
form_of (Pin i) = PinForm i
form_of (Not f) = NotForm f.value
form_of (And f g) = AndForm f.value g.value
form_of (Or f g) = OrForm f.value g.value
form_of (Xor f g) = XorForm f.value g.value
