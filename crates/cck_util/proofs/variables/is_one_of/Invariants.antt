use Rattle.std.proofs.Common.{◌≡◌, drop, map}
use Rattle.std.specs.List.{list_any}
use Rattle.std.specs.Str.{bytes_eq}
use Rattle.cck_util.proofs.variables.is_one_of.Given as goal

-- the result depends on the remaining names alone
abbrev pub invariant-loop-known : goal.invariant-loop-known
invariant-loop-known l =
    list_any (bytes_eq l.name) (map (λ n. n.now) (drop l.known-index l.names)) ≡ list_any (bytes_eq l.name) (map (λ n. n.now) l.names)
