use Rattle.std.proofs.Common.{◌≡◌, ◌∙◌, ◌&&◌, refl}
use Rattle.glob.specs.declared.indexes.Index.{Index}
use Rattle.glob.proofs.Placing.{more}
use Rattle.glob.proofs.indexes.Index.add.Goals as goal
use Rattle.glob.proofs.indexes.Index.add.Goals.{then-self, else-self}

pub returns : goal.returns
returns c =
    let old : Index = c.args.self.now in
    let joined : c.if-self.self ≡ (old.distinct && c.in_ok-fresh.fresh) =
    elim c.if-self.branch [ then-self w ↦ w.self-is ∙ rw w.if-self.true refl | else-self w ↦ w.self-is ∙ rw w.if-self.false refl ] in
    λ names of. more names c.args.name.now old (record { names = c.add.new.self; distinct = c.if-self.self }) c.in_ok-fresh.fresh of
    c.in_ok-fresh.ensures.fresh c.in_ok-fresh.ensures.ok joined
