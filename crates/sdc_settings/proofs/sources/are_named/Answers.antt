use Rattle.std.proofs.Common.{arith, ◌≡◌, ◌∙◌, ℕ, Bool, true, false, refl, sym, ap}
use Rattle.std.specs.List.{list_all}
use Rattle.std.specs.Str.{bytes_eq}
use Rattle.std.proofs.lemmas.List.{take_all}
use Rattle.std.proofs.lemmas.List.Folds.{list_all_more, list_all_at, list_all-map}
use Rattle.std.proofs.lemmas.Option.{slice_get_within, get_or_from_slice_get}
use Rattle.sdc_settings.specs.Inputs.{name_at}
use Rattle.sdc_settings.proofs.Naming.{name_here, unnot, renot}
use Rattle.sdc_settings.proofs.sources.are_named.Goals as goal

pub returns-then-ne : goal.returns-then-ne
returns-then-ne c =
    let test : ℕ → Bool = λ place. bytes_eq c.args.name.now (name_at c.args.inputs.now place) in
    let low = slice_get_within c.args.places.now c.loop-k.k c.at.result c.at.ensures in
    let here = get_or_from_slice_get c.args.places.now c.loop-k.k c.at.result c.at.result c.at.ensures in
    let differs : bytes_eq c.args.name.now c.item.result.now.name ≡ false =
    renot (bytes_eq c.args.name.now c.item.result.now.name) (sym c.ne.ensures ∙ c.if-ne.true) in
    let fails : test c.at.result ≡ false =
    ap (bytes_eq c.args.name.now) (name_here c.args.inputs.now c.at.result c.item.result.now c.item.ensures) ∙ differs in
    sym (list_all-map (bytes_eq c.args.name.now) (name_at c.args.inputs.now) c.args.places.now
    ∙ list_all_at test c.args.places.now c.loop-k.k c.at.result low (ap test here ∙ fails))

pub loop-k-preserved : goal.loop-k-preserved
loop-k-preserved c =
    let test : ℕ → Bool = λ place. bytes_eq c.args.name.now (name_at c.args.inputs.now place) in
    let low = slice_get_within c.args.places.now c.loop-k.k c.at.result c.at.ensures in
    let here = get_or_from_slice_get c.args.places.now c.loop-k.k c.at.result c.at.result c.at.ensures in
    let same : bytes_eq c.args.name.now c.item.result.now.name ≡ true =
    unnot (bytes_eq c.args.name.now c.item.result.now.name) (sym c.ne.ensures ∙ c.if-ne.false) in
    let passes : test c.at.result ≡ true =
    ap (bytes_eq c.args.name.now) (name_here c.args.inputs.now c.at.result c.item.result.now c.item.ensures) ∙ same in
    list_all_more test c.args.places.now c.loop-k.k c.at.result low ∙ rw (c.loop-k.invariant, ap test here, passes) refl

pub returns : goal.returns
returns c =
    let test : ℕ → Bool = λ place. bytes_eq c.args.name.now (name_at c.args.inputs.now place) in
    sym (list_all-map (bytes_eq c.args.name.now) (name_at c.args.inputs.now) c.args.places.now
    ∙ ap (list_all test) (sym (take_all c.loop-k.k c.args.places.now (omega (arith, c.loop-k-test.false, c.len-k-end.ensures))))
    ∙ c.loop-k.invariant)
