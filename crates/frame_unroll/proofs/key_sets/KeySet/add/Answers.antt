use Rattle.std.proofs.Common.{◌≡◌, ◌<◌, ◌++◌, ◌∷◌, [], length, get_or, rules}
use Rattle.frame_unroll.specs.Found.{IsSmall}
use Rattle.frame_unroll.specs.KeySets.{page_place, slot}
use Rattle.frame_unroll.proofs.KeySets.{numbered_added}
use Rattle.frame_unroll.proofs.key_sets.KeySet.add.Goals as goal

pub invariant_of-self-2 : goal.invariant_of-self-2
invariant_of-self-2 c =
    let s = c.self.inside in
    let pages = c.make_page.new.pages.items in
    let numbers = c.make_page.new.numbers.items in
    let y = c.args.key in
    let small : IsSmall y = search rules in
    let made : 0 < get_or pages (page_place s.width y) 0 = search rules in
    let here : c.slot-at.result ≡ slot s.width pages y = search rules in
    let none : get_or numbers c.slot-at.result 0 ≡ 0 = search rules in
    let is : c.push.new.self.items ≡ s.keys.items ++ y ∷ [] = c.in_ok-push.ensures.items in
    let count : c.len-2.result ≡ length c.push.new.self.items = search rules in
    let few : length s.keys.items < 4294967294 = search rules in
    numbered_added s.width s.pages.items s.numbers.items pages numbers s.keys.items c.push.new.self.items y c.slot-at.result c.len-2.result
    c.self.invariant c.in_ok-make_page.ensures.pages (λ k. c.in_ok-make_page.ensures.same s.width k) small made here none is count few
