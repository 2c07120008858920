use Rattle.std.proofs.Common.{◌+◌}
use Rattle.std.specs.List.{All}
use Rattle.cck_strip.specs.Endings.{HasLinks, IsRead}
use Rattle.cck_strip.proofs.endings.all_links.Given as goal

abbrev pub invariant-loop-read : goal.invariant-loop-read
invariant-loop-read l = record {
  links : HasLinks l.nodes l.links.items;
  read : All (λ cursor. IsRead l.nodes cursor.state (l.read + 1)) l.cursors.items;
}
