use Rattle.std.proofs.Common.{◌≡◌, ◌∙◌, ◌+◌, not, ◌&&◌, ℕ, List, [], ◌∷◌, ◌++◌, map, take, get_or, refl, sym, ap}
use Rattle.std.proofs.lemmas.List.{map_more}
use Rattle.texts.specs.Names.{is_among, are_new, with_name, with_names}
use Rattle.texts.proofs.NameLemmas.{are_new-push, with_names-push}
use Rattle.texts.proofs.tables.NameTable.add_all.Goals as goal
use Rattle.texts.proofs.tables.NameTable.add_all.Goals.{then-fresh, else-fresh}

pub loop-one-init : goal.loop-one-init
unfolding Rattle.texts.specs.Names.are_distinct
loop-one-init g c = record { table = refl; fresh = refl }

pub loop-one-preserved : goal.loop-one-preserved
loop-one-preserved g c =
    let names = c.args.self.now in
    let f = g.T.Named.named in
    let xs = c.args.these.now in
    let i = c.loop-one.one-index in
    let n = c.name.result.now in
    let seen = map f (take i xs) in
    let here : f (get_or xs i c.one-item.result) ≡ n = ap f (sym c.one-item.is) ∙ sym c.name.ensures in
    let turn : map f (take (i + 1) xs) ≡ seen ++ n ∷ [] = map_more f xs i c.one-item.result c.loop-one-test.true ∙ ap (λ (x : List ℕ). seen ++ x ∷ []) here in
    let added : c.in_ok-added.added ≡ not (is_among n (with_names names seen)) = rw (← c.loop-one.invariant.table) c.in_ok-added.ensures.fresh in
    let joined : c.if-fresh.fresh ≡ (c.loop-one.fresh && c.in_ok-added.added) =
    elim c.if-fresh.branch [ then-fresh w ↦ w.fresh-is ∙ rw w.if-fresh.true refl | else-fresh w ↦ w.fresh-is ∙ rw w.if-fresh.false refl ] in
    record {
      table = rw turn (c.in_ok-added.ensures.ok ∙ ap (λ (t : List (List ℕ)). with_name t n) c.loop-one.invariant.table ∙ sym (with_names-push names seen n));
      fresh = rw turn (joined ∙ rw (c.loop-one.invariant.fresh, added) (sym (are_new-push names seen n)));
    }
