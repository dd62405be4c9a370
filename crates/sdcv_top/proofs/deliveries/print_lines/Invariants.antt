use Rattle.std.proofs.Common.{◌≡◌, take}
use Rattle.sdcv_base.specs.Hosts.{grown}
use Rattle.judgements.specs.Reports.{joined}
use Rattle.sdcv_top.proofs.deliveries.print_lines.Given as goal

abbrev pub invariant-loop-line : goal.invariant-loop-line
invariant-loop-line g l = record {
  printed : g.H.Host.printed l.host ≡ grown (g.H.Host.printed l.fn.host) (joined (take l.line-index l.lines));
  count : g.H.Host.faults l.host ≡ g.H.Host.faults l.fn.host;
  files : g.H.Host.files l.host ≡ g.H.Host.files l.fn.host;
  asked : g.H.Host.asked l.host ≡ g.H.Host.asked l.fn.host;
  saved : g.H.Host.saved l.host ≡ g.H.Host.saved l.fn.host;
}
