use Rattle.std.proofs.Common.{◌∙◌, suc, ap, length, sym, refl, arith}
use Rattle.sdcv_base.specs.Cursors.{rest}
use Rattle.sdc_values.specs.Lists.{list_of}
use Rattle.sdc_values.proofs.ListLemmas.{items_end, items_more, items_bad}
use Rattle.sdc_values.proofs.lists.read_list.Goals as goal

pub items-init : goal.items-init
unfolding list_of
items-init c =
    let len = ap length c.new-c.ensures.rest in
    record { told = (suc (length c.args.text.now), omega arith, rw (c.new-braces.ensures.items, c.new-found.ensures, c.new-c.ensures.rest) refl) }

pub returns-then-not-fits : goal.returns-then-not-fits
returns-then-not-fits c =
    let (m, room, told) = c.items.invariant.told in
    let full = sym (rw (c.rest.ensures, c.pass_white.ensures.rest) at c.if-is_empty.ensures) in
    let bad = rw (c.pass_white.ensures.rest, c.if-not-fits.true) at c.in_ok-fits.ensures.value in
    sym (told ∙ items_bad c.args.class c.args.hier c.items.braces.items c.items.found (rest c.items.c) m (omega arith) full bad)

pub items-preserved : goal.items-preserved
items-preserved c =
    let (m, room, told) = c.items.invariant.told in
    let full = sym (rw (c.rest.ensures, c.pass_white.ensures.rest) at c.if-is_empty.ensures) in
    let good = rw (c.pass_white.ensures.rest, c.if-not-fits.false) at c.in_ok-fits.ensures.value in
    let less = c.in_ok-fits.ensures.shorter in
    let no_more = c.pass_white.ensures.within in
    let (n, one, step) = items_more c.args.class c.args.hier c.items.braces.items c.items.found (rest c.items.c) m _ _ _ (omega arith) full good in
    record { told = (n, omega arith, told ∙ step) }

pub returns-then-is_closed : goal.returns-then-is_closed
returns-then-is_closed c =
    let (m, room, told) = c.items.invariant.told in
    let none = sym (rw (c.rest.ensures, c.pass_white.ensures.rest) at c.if-is_empty.ensures) in
    let end = items_end c.args.class c.args.hier c.items.braces.items c.items.found (rest c.items.c) m (omega arith) none in
    let closed = sym (rw c.deref.ensures.value at c.is_closed.ensures) ∙ c.if-is_closed.true in
    sym (told ∙ end ∙ rw closed refl)

pub returns : goal.returns
returns c =
    let (m, room, told) = c.items.invariant.told in
    let none = sym (rw (c.rest.ensures, c.pass_white.ensures.rest) at c.if-is_empty.ensures) in
    let end = items_end c.args.class c.args.hier c.items.braces.items c.items.found (rest c.items.c) m (omega arith) none in
    let closed = sym (rw c.deref.ensures.value at c.is_closed.ensures) ∙ c.if-is_closed.false in
    sym (told ∙ end ∙ rw closed refl)
