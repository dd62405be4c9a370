use Rattle.cert_lines.proofs.Written.{kept_line, kept_small}
use Rattle.cert_lines.proofs.writing.push_kept.Goals as goal

pub push_states-requires : goal.push_states-requires
push_states-requires c = rw c.as_slice.ensures (kept_small _ c.requires)

pub returns : goal.returns
returns c =
    kept_line c.args.clause.now c.args.out.now.items c.push.new.self.items c.push_states.new.out.items c.push-2.new.self.items
    c.in_ok-push.ensures.items
    (rw c.as_slice.ensures at c.in_ok-push_states.ensures) c.in_ok-push-2.ensures.items
