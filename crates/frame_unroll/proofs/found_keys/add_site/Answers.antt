use Rattle.std.proofs.Common.{◌≡◌, ◌∙◌, List, ap, sym, subst, OnOk}
use Rattle.query_model.specs.declared.keys.Key.{Key}
use Rattle.frame_unroll.specs.Found.{marked_rail, marked_low, with_keys}
use Rattle.frame_unroll.proofs.Adding.{with_keys-append}
use Rattle.frame_unroll.proofs.found_keys.add_site.Goals as goal

pub returns : goal.returns
returns c =
    let site = c.args.site.now in
    let places = c.args.places.now in
    let whole = ap (λ (keys : List Key). with_keys keys (marked_low places site.low)) c.in_ok-add_rail.ensures
    ∙ sym (with_keys-append c.args.found.now (marked_rail places site.high) (marked_low places site.low)) in
    subst (λ (keys : List Key). OnOk c.add_low.result (c.add_low.new.found ≡ keys)) whole c.add_low.ensures
