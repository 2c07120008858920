use Rattle.std.proofs.Common.{◌≡◌, List, [], Option, None, Some, refl, sym, ◌∙◌, ap, option_map}
use Rattle.std.proofs.lemmas.List.{append-nil}
use Rattle.cck_path.specs.Bytes.{Bytes, lists_of}
use Rattle.cck_command.specs.ScriptWords.{words}
use Rattle.cck_command.proofs.WordLemmas.{put_before, words_left, words_pushed, words_none, words_fall}
use Rattle.cck_command.proofs.script.word.words_in.Goals as goal

pub returns-in_default-2 : goal.returns-in_default-2
unfolding words
returns-in_default-2 c = sym (words_none _ _ c.in-Some.line.now (rw c.in-Some.is at c.loop-left.invariant) (sym c.in_ok-taken.ensures ∙ ap (option_map _) c.in_default-2.is))

pub loop-left-preserved : goal.loop-left-preserved
loop-left-preserved c = words_pushed c.loop-left.words.items c.push.new.self.items c.in-Some-2.taken.word _ c.in-Some.line.now _ c.in_ok-push.ensures.items (rw c.in-Some.is at c.loop-left.invariant) (sym c.in_ok-taken.ensures ∙ ap (option_map _) c.in-Some-2.is)

pub loop-left-smaller : goal.loop-left-smaller
loop-left-smaller c = rw c.in-Some.is (words_fall c.in-Some.line.now _ _ (sym c.in_ok-taken.ensures ∙ ap (option_map _) c.in-Some-2.is))

none_before : (t : Option (List Bytes)) → put_before [] t ≡ t
none_before None = refl
none_before (Some ws) = refl

pub loop-left-init : goal.loop-left-init
loop-left-init c = rw c.new-words.ensures.items (sym (none_before (words_left (Some c.args.line.now))))

pub returns : goal.returns
unfolding words
returns c = sym (rw c.in_default.is at c.loop-left.invariant ∙ ap Some (append-nil (lists_of c.loop-left.words.items)))
