use Rattle.std.proofs.Common.{subst}
use Rattle.std.specs.Option.{option_to_list}
use Rattle.cck_path.specs.Bytes.{lists_of}
use Rattle.jiff.specs.Words.{plain_zone}
use Rattle.cck_hasher.specs.World.{world_of}
use Rattle.cck_include.specs.Config.{activated}
use Rattle.cck_command.specs.Made.{AreMade}
use Rattle.cck_command.specs.MiniCompiler.{mini_compiler}
use Rattle.cck_command.proofs.MadeLemmas.{none_made}
use Rattle.cck_command.proofs.run.follow_line.Goals.{in-Some+in_ok-after-in-Some, in-None}
use Rattle.cck_command.proofs.run.follow_line.Goals as goal

pub returns-clause-made : goal.returns-clause-made
returns-clause-made g c = λ zone earlier of are.
    let hash = g.H.HashState.hash in
    let world = world_of hash mini_compiler (plain_zone c.args.context.now.zone) activated (lists_of c.args.context.now.basedirs.items) in
    elim c.match-call.branch [
      | in-Some+in_ok-after-in-Some w ↦ rw (w.store-is, w.printed-is) (subst (λ o. AreMade hash zone world (option_to_list o) c.args.store.now w.make_call.new.store c.args.printed.now.items w.make_call.new.printed.items)
          (w.in-Some.ensures earlier) (w.in_ok-after-in-Some.ensures.made zone earlier of are))
      | in-None w ↦ rw (w.store-is, w.printed-is) (subst (λ o. AreMade hash zone world (option_to_list o) c.args.store.now c.args.store.now c.args.printed.now.items c.args.printed.now.items)
          (w.in-None.ensures earlier) (none_made hash zone world c.args.store.now c.args.printed.now.items))
    ]
