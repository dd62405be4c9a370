use Rattle.std.proofs.Common.{◌≡◌, ◌∙◌, ℕ, length, refl}
use Rattle.std.specs.Prelude.{Some, None, slice_get}
use Rattle.std.proofs.lemmas.Option.{slice_get_read}
use Rattle.net_paths.specs.Levels.{level_at}
use Rattle.net_paths.proofs.Levelling.{level_read}
use Rattle.net_paths.proofs.Growing.{growing_more, nothing_told}
use Rattle.net_paths.proofs.cones.Cone.tell.Goals as goal

pub returns-in_ok-tell_all-clause-growing : goal.returns-in_ok-tell_all-clause-growing
returns-in_ok-tell_all-clause-growing c =
    let net : ℕ = c.index-net.result.now in
    let at : slice_get c.args.self.now.nets.items c.args.self.now.told ≡ Some net = slice_get_read c.args.self.now.nets.items
    (length c.args.self.now.nets.items) c.args.self.now.told net refl c.requires.here c.index-net.ensures in
    let here : slice_get c.tell_all.new.self.nets.items c.args.self.now.told ≡ Some net = c.in_ok-tell_all.ensures.grown.same c.args.self.now.told
    c.requires.here ∙ at in
    growing_more c.args.launch.now.design.now c.args.launch.now.start.now c.args.launch.now.sets.now net c.args.self.now.told c.tell_all.new.self here
    c.in_ok-tell_all.ensures.growing c.in_ok-tell_all.ensures.told

pub returns-in_default-clause-growing : goal.returns-in_default-clause-growing
returns-in_default-clause-growing c =
    let net : ℕ = c.index-net.result.now in
    let at : slice_get c.args.self.now.nets.items c.args.self.now.told ≡ Some net = slice_get_read c.args.self.now.nets.items
    (length c.args.self.now.nets.items) c.args.self.now.told net refl c.requires.here c.index-net.ensures in
    let none : level_at c.args.self.now.levels net ≡ None = level_read c.args.self.now.levels net c.at.result c.at.ensures ∙ c.in_default.is in
    growing_more c.args.launch.now.design.now c.args.launch.now.start.now c.args.launch.now.sets.now net c.args.self.now.told c.args.self.now at
    c.requires.growing (nothing_told c.args.launch.now.design.now c.args.launch.now.sets.now net c.args.self.now.told c.args.self.now none)
