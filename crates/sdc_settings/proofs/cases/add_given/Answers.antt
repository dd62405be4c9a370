use Rattle.std.proofs.Common.{arith, ◌≡◌, ◌∙◌, ◌+◌, ◌<◌, get_or, ℕ, List, ◌∷◌, [], ◌++◌, length, map, take, ap, sym, append_assoc}
use Rattle.std.proofs.lemmas.List.{map_more}
use Rattle.std.proofs.lemmas.Option.{get_or_from_slice_get}
use Rattle.sdc_settings.specs.Settings.{given}
use Rattle.sdc_settings.specs.declared.cases.Given.{Given}
use Rattle.sdc_settings.proofs.cases.add_given.Goals as goal

pub loop-k-preserved : goal.loop-k-preserved
loop-k-preserved c =
    let make : ℕ → Given = given c.args.line c.args.value in
    let here : c.loop-k.k < length c.args.places.now = omega (arith, c.loop-k-test.true, c.len-k-end.ensures) in
    let next : make (get_or c.args.places.now c.loop-k.k 0) ≡ make c.at.result =
    ap make (get_or_from_slice_get c.args.places.now c.loop-k.k c.at.result 0 c.at.ensures) in
    let more : map make (take (c.loop-k.k + 1) c.args.places.now) ≡ map make (take c.loop-k.k c.args.places.now) ++ make c.at.result ∷ [] =
    map_more make c.args.places.now c.loop-k.k 0 here ∙ ap (λ (g : Given). map make (take c.loop-k.k c.args.places.now) ++ g ∷ []) next in
    c.in_ok-push.ensures.ok ∙ ap (λ (l : List Given). l ++ make c.at.result ∷ []) c.loop-k.invariant
    ∙ append_assoc c.args.givens.now (map make (take c.loop-k.k c.args.places.now)) (make c.at.result ∷ [])
    ∙ ap (λ (l : List Given). c.args.givens.now ++ l) (sym more)
