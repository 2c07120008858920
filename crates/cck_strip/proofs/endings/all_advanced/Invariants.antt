use Rattle.std.proofs.Common.{◌+◌}
use Rattle.std.specs.List.{All}
use Rattle.cck_strip.specs.Endings.{HasLinks, IsRead}
use Rattle.cck_strip.proofs.endings.all_advanced.Given as goal

abbrev pub invariant-loop-cursor : goal.invariant-loop-cursor
invariant-loop-cursor l = record {
  links : HasLinks l.nodes l.links;
  read : All (λ cursor. IsRead l.nodes cursor.state (l.depth + 1)) l.all.items;
}
