use Rattle.multicycle_text.proofs.ScriptReads.{lines_read}
use Rattle.multicycle_text.proofs.laws.lines_read_back.Goals as goal

pub returns : goal.returns
returns c = lines_read
