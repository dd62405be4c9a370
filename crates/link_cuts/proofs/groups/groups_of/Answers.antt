use Rattle.std.proofs.Common.{◌≡◌, ◌<◌, ◌≤◌, List, ℕ, length, ap, subst, sym, ◌∙◌, arith}
use Rattle.texts.specs.Names.{place_of}
use Rattle.link_items.specs.Tables.{module_names}
use Rattle.link_cuts.specs.Groups.{with_place}
use Rattle.link_cuts.proofs.Grouped.{groups_more, groups_same}
use Rattle.link_cuts.proofs.groups.groups_of.Goals as goal
use Rattle.link_cuts.proofs.groups.groups_of.Goals.{then-body-len+in_ok-push_place, else-body-len}

pub loop-place-preserved : goal.loop-place-preserved
loop-place-preserved c =
    let n = c.args.netlist.now in
    let names : List (List ℕ) = module_names n.source.now in
    let x = c.item.result.now in
    let k = c.loop-place.place in
    let body : c.place-body.result ≡ place_of x.module names = c.place-body.ensures ∙ ap (place_of x.module) n.module_table in
    let len = c.len-in-loop-place.ensures in
    elim c.if-body-len.branch [
      | then-body-len+in_ok-push_place w ↦
          rw w.groups-is (groups_more c.args.items.now names c.loop-place.groups.items _ k x c.item.ensures n.lawful_source.names c.loop-place.invariant
          (subst (λ (j : ℕ). j < length c.loop-place.groups.items) body (omega (arith, w.if-body-len.true, len, c.loop-place.groups.ok.0)))
          (w.in_ok-push_place.ensures ∙ ap (λ (j : ℕ). with_place c.loop-place.groups.items j k) body))
      | else-body-len w ↦
          rw w.groups-is (groups_same c.args.items.now names c.loop-place.groups.items k x c.item.ensures n.lawful_source.names c.loop-place.invariant
          (subst (λ (j : ℕ). length c.loop-place.groups.items ≤ j) body (omega (arith, w.if-body-len.false, len, c.loop-place.groups.ok.0))))
    ]
