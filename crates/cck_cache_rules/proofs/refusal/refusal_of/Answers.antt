use Rattle.std.proofs.Common.{rules, ℕ, List, Bor, ap}
use Rattle.std.specs.Option.{option_map}
use Rattle.cck_cache_rules.proofs.refusal.refusal_of.Goals as goal

pub returns-then-ne : goal.returns-then-ne
returns-then-ne c = (c.in-Some.found.now, ap (option_map (λ (k : Bor (List ℕ)). k.now)) c.in-Some.is, search rules)
