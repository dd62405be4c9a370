use Rattle.std.proofs.Common.{◌∙◌, sym, refl, arith}
use Rattle.sdcv_base.specs.Cursors.{rest}
use Rattle.sdc_values.proofs.ListLemmas.{element_over, element_more}
use Rattle.sdc_values.proofs.lists.more_bytes.Goals as goal

pub bytes-preserved : goal.bytes-preserved
bytes-preserved c =
    let (m, room, told) = c.bytes.invariant.told in
    let on = sym (rw (c.deref.ensures.value, c.rest.ensures) at c.is_over.ensures) ∙ c.bytes-test.true in
    let less = c.in_ok-byte.ensures.shorter in
    let (n, one, step) = element_more c.bytes.braces.items c.bytes.found.items (rest c.bytes.c) m _ _ _ (omega arith) on c.in_ok-byte.ensures.value in
    record {
      within = omega arith;
      told = (n, omega arith, told ∙ step ∙ rw c.in_ok-push.ensures.items refl);
    }

pub returns-clause-value : goal.returns-clause-value
returns-clause-value c =
    let (m, room, told) = c.bytes.invariant.told in
    let over = sym (rw (c.deref.ensures.value, c.rest.ensures) at c.is_over.ensures) ∙ c.bytes-test.false in
    sym (told ∙ element_over c.bytes.braces.items c.bytes.found.items (rest c.bytes.c) m over)
