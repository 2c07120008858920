use Rattle.std.proofs.Common.{◌++◌, map, ap, sym, ◌∙◌}
use Rattle.std.proofs.lemmas.List.{append-nil, at_drop_all}
use Rattle.std.specs.List.{filter_map}
use Rattle.cck_path.specs.Bytes.{lists_of}
use Rattle.cck_command.specs.Script.{basedir_of_command, basedirs_of, fail_of, fail_of_command, forget_of, forget_of_command, last_or, zone_of, zone_of_command}
use Rattle.cck_script.specs.Seen.{line_of}
use Rattle.cck_command.proofs.OptionLemmas.{last_more, later_of_command}
use Rattle.cck_command.proofs.script.Script.options.Goals as goal

pub loop-command-preserved : goal.loop-command-preserved
loop-command-preserved c = record {
  zone = last_more _ _ _ zone_of_command _ _ _ c.loop-command-test.true c.command-item.is c.loop-command.invariant.zone c.in_ok-take_in.ensures.zone;
  basedirs = later_of_command _ _ _ basedir_of_command _ _ _ c.loop-command-test.true c.command-item.is c.loop-command.invariant.basedirs c.in_ok-take_in.ensures.basedirs;
  forget = last_more _ _ _ forget_of_command _ _ _ c.loop-command-test.true c.command-item.is c.loop-command.invariant.forget c.in_ok-take_in.ensures.forget;
  fail = last_more _ _ _ fail_of_command _ _ _ c.loop-command-test.true c.command-item.is c.loop-command.invariant.fail c.in_ok-take_in.ensures.fail;
}

pub loop-command-init : goal.loop-command-init
loop-command-init c = record {
  zone = ap (λ items. zone_of (map line_of items)) (sym c.deref-command-items.ensures.value);
  basedirs = rw c.new.ensures.items (ap (λ items. basedirs_of (map line_of items)) (sym c.deref-command-items.ensures.value));
  forget = ap (λ items. forget_of (map line_of items)) (sym c.deref-command-items.ensures.value);
  fail = ap (λ items. fail_of (map line_of items)) (sym c.deref-command-items.ensures.value);
}

pub returns-clause-zone : goal.returns-clause-zone
returns-clause-zone c = sym (c.loop-command.invariant.zone ∙ at_drop_all (λ items. last_or c.loop-command.options.zone_offset zone_of_command (map line_of items)) _ _ c.loop-command-test.false)

pub returns-clause-basedirs : goal.returns-clause-basedirs
returns-clause-basedirs c =
    let front = lists_of c.loop-command.options.basedirs.items in
    sym (c.loop-command.invariant.basedirs ∙ at_drop_all (λ items. front ++ filter_map basedir_of_command (map line_of items)) _ _ c.loop-command-test.false ∙ append-nil front)

pub returns-clause-forget : goal.returns-clause-forget
returns-clause-forget c = sym (c.loop-command.invariant.forget ∙ at_drop_all (λ items. last_or c.loop-command.options.forget_at forget_of_command (map line_of items)) _ _ c.loop-command-test.false)

pub returns-clause-fail : goal.returns-clause-fail
returns-clause-fail c = sym (c.loop-command.invariant.fail ∙ at_drop_all (λ items. last_or c.loop-command.options.fail_at fail_of_command (map line_of items)) _ _ c.loop-command-test.false)
