use Rattle.std.proofs.Common.{◌∙◌, ◌++◌, ap, map}
use Rattle.cck_cache_options.specs.Call.{keyed_argument}
use Rattle.cck_cache_options.specs.Definition.{macro_option}
use Rattle.cck_cache_options.specs.Quote.{command, preprocessor_command, quoted_and_space}
use Rattle.cck_cache.specs.Call.{call_paths}
use Rattle.cck_cache.proofs.CallLemmas.{line_and_more}
use Rattle.cck_cache.proofs.call.call_lines.Goals as goal

pub returns : goal.returns
returns c =
    let paths = call_paths c.args.paths.now c.args.programs.now in
    line_and_more paths (macro_option (map keyed_argument c.args.asked.now.keyed.items)) _ c.push_paths.new.words.items c.push_word.new.out.items c.push.new.self.items c.push_preprocessor_arguments.new.out.items c.push-2.new.self.items
    (c.in_ok-push_paths.ensures ∙ ap (λ t. t ++ command paths) c.new-lines.ensures.items)
    (c.in_ok-push_word.ensures ∙ ap (λ t. c.push_paths.new.words.items ++ quoted_and_space t) (c.macro_option.ensures ∙ ap (λ keyed. macro_option (map keyed_argument keyed)) c.deref.ensures.value)) c.in_ok-push.ensures.items
    (c.in_ok-push_preprocessor_arguments.ensures ∙ ap (λ keyed. c.push.new.self.items ++ preprocessor_command (map keyed_argument keyed)) c.deref-2.ensures.value) c.in_ok-push-2.ensures.items
