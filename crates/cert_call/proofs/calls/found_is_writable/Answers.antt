use Rattle.std.proofs.Common.{◌<◌, ◌^◌, length, ap, sym, subst, arith}
use Rattle.cert_values.specs.Certs.{cert_of}
use Rattle.query_model.specs.declared.keys.Coding.{Coding}
use Rattle.cert_defs.specs.Accepted.{Accepts, justified_numbers}
use Rattle.cert_defs.proofs.Justifying.{found_accepted, written_coding}
use Rattle.cert_text.proofs.Spelling.{found_spellable}
use Rattle.cert_call.proofs.calls.found_is_writable.Goals as goal

pub returns-clause-spellable : goal.returns-clause-spellable
returns-clause-spellable c small =
    let few : length c.args.verdicts.now < 2 ^ 63 = omega (arith, ap length c.as_slice-verdicts.ensures) in
    found_spellable c.args.inv.now c.args.verdicts.now few c.requires.set c.requires.in_form small

pub returns-clause-accepted : goal.returns-clause-accepted
returns-clause-accepted c bytes spells = record {
  cert = cert_of c.args.inv.now c.args.verdicts.now;
  spells = spells;
  accepts =
      subst
      (λ (coding : Coding). Accepts coding c.args.design.now c.args.claims.now (cert_of c.args.inv.now c.args.verdicts.now)
      (justified_numbers c.args.verdicts.now)) (sym (written_coding c.args.inv.now.kept))
      (found_accepted c.args.design.now c.args.claims.now c.args.inv.now c.args.limits c.args.verdicts.now c.requires.names c.requires.proved
      c.requires.right);
}
