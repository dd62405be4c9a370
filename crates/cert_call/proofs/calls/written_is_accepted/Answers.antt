use Rattle.std.proofs.Common.{sym, subst}
use Rattle.cert_values.specs.Certs.{cert_of}
use Rattle.query_model.specs.declared.keys.Coding.{Coding}
use Rattle.cert_defs.specs.Accepted.{Accepts, justified_numbers}
use Rattle.cert_defs.proofs.Justifying.{found_accepted, written_coding}
use Rattle.cert_call.proofs.calls.written_is_accepted.Goals as goal

pub returns : goal.returns
returns c =
    record {
      cert = cert_of c.args.inv.now c.args.verdicts.now;
      spells = c.requires.spells;
      accepts =
          subst
          (λ (coding : Coding). Accepts coding c.args.design.now c.args.claims.now (cert_of c.args.inv.now c.args.verdicts.now)
          (justified_numbers c.args.verdicts.now)) (sym (written_coding c.args.inv.now.kept))
          (found_accepted c.args.design.now c.args.claims.now c.args.inv.now c.args.limits c.args.verdicts.now c.requires.names c.requires.proved
          c.requires.right);
    }
