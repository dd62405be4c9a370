use Rattle.std.proofs.Common.{◌≡◌, true, ◌++◌, take}
use Rattle.std.specs.List.{AllZip}
use Rattle.texts.specs.Names.{are_distinct}
use Rattle.net_link.specs.Given.{setting_names, IsGiven}
use Rattle.net_link.proofs.given.places.Given as goal

abbrev pub invariant-loop-k : goal.invariant-loop-k
invariant-loop-k l = record {
  list : AllZip (IsGiven l.ins) (take l.k l.settings) l.list;
  given : l.given ≡ l.fn.given ++ setting_names (take l.k l.settings);
  distinct : are_distinct l.fn.given ≡ true → are_distinct l.given ≡ true;
}
