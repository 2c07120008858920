use Rattle.std.proofs.Common.{ap, ◌∙◌, ℕ}
use Rattle.std.specs.Global.{Vec}
use Rattle.std.specs.Option.{option_map}
use Rattle.cck_util.proofs.MapEntries.{found_in_map}
use Rattle.cck_util.proofs.map_store.MapStore.held.Goals as goal

pub returns-in-Some : goal.returns-in-Some
returns-in-Some c =
    rw (← c.self.view_is, c.as_slice.ensures.value)
    (ap (option_map (λ (v : Vec ℕ). v.items)) c.in-Some.ensures.value ∙ found_in_map c.args.key.now c.self.inside.pairs.entries)

pub returns-in-None : goal.returns-in-None
returns-in-None c =
    rw (← c.self.view_is)
    (ap (option_map (λ (v : Vec ℕ). v.items)) c.in-None.ensures.value ∙ found_in_map c.args.key.now c.self.inside.pairs.entries)
