use Rattle.std.proofs.Common.{◌≡◌, ◌∙◌, None, ap, sym}
use Rattle.std.specs.Option.{option_copied}
use Rattle.cck_cache_files.specs.PathStates.{state_at}
use Rattle.cck_cache_files.proofs.StateLemmas.{state_added}
use Rattle.cck_cache_files.proofs.path_states.PathStates.state_of.Goals as goal

pub returns-clause-state : goal.returns-clause-state
returns-clause-state g c =
    let items : c.in_ok-to_vec.field-0.items ≡ c.args.path.now = c.in_ok-to_vec.ensures.items_if_clones_equal (λ x y e. e) in
    let none : state_at c.args.self.now c.args.path.now ≡ None = sym c.get.ensures.value ∙ ap option_copied c.in_default.is in
    state_added c.args.self.now c.insert.new.self c.in_ok-to_vec.field-0 c.args.path.now c.look_at-state.result items none c.in_ok-insert.ensures.updates c.look_at-state.ensures
