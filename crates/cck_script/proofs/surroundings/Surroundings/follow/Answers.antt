use Rattle.std.proofs.Common.{refl, sym, Some, None, []}
use Rattle.cck_path.specs.declared.metadata.FileKind.TheVariants as kind
use Rattle.cck_script.specs.Surroundings.{file_node}
use Rattle.cck_script.proofs.SurroundingsLemmas.{after_clear, after_gone, after_rest, put_ok, set_ok}
use Rattle.cck_script.proofs.surroundings.Surroundings.follow.Goals as goal

pub returns-in-File-clause-after : goal.returns-in-File-clause-after
returns-in-File-clause-after c =
    rw c.in-File.is (put_ok c.put_node.result _ c.args.self.now _ c.deref.result.now _
    (λ i. Some (sym c.deref.ensures.value i, Some (file_node c.in-File.contents.items c.in-File.modified c.in-File.changed)))
    refl refl c.put_node.ensures.set refl refl)

pub returns-in-Folder-clause-after : goal.returns-in-Folder-clause-after
returns-in-Folder-clause-after c =
    rw c.in-Folder.is (put_ok c.put_node-in-Folder.result _ c.args.self.now _ c.deref-in-Folder.result.now _
    (λ i. Some (sym c.deref-in-Folder.ensures.value i, Some (record { kind = kind.Folder; contents = []; modified = None; changed = None })))
    refl refl c.put_node-in-Folder.ensures.set refl refl)

pub returns-in-Gone-clause-after : goal.returns-in-Gone-clause-after
returns-in-Gone-clause-after c = rw c.in-Gone.is (λ lines are. after_gone lines _ c.args.self.now _ c.deref-in-Gone.result.now
    (λ i. Some (sym c.deref-in-Gone.ensures.value i, None)) refl refl are c.remove.ensures refl refl)

pub returns-in-Variable-clause-after : goal.returns-in-Variable-clause-after
returns-in-Variable-clause-after c =
    rw c.in-Variable.is (set_ok c.set_variable.result _ _ c.args.self.now _ refl c.set_variable.ensures.set)

pub returns-in-Clear-clause-after : goal.returns-in-Clear-clause-after
returns-in-Clear-clause-after c = rw c.in-Clear.is (λ lines are. after_clear lines c.args.self.now _ are refl c.clear.ensures.items c.new-in-Clear.ensures.empty)

pub returns : goal.returns
returns c = record {
  after = λ lines are. after_rest c.args.command lines c.args.self.now c.in_default.not-File c.in_default.not-Folder c.in_default.not-Gone c.in_default.not-Variable c.in_default.not-Clear are;
  kept = tt;
}
