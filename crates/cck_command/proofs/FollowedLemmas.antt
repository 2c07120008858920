-- The lines of a script, followed one after another.
use Rattle.std.proofs.Common.{◌≡◌, List, [], ◌∷◌, ◌++◌, Option, Some, append_assoc, ap, arith, length, map, sym, ◌∙◌}
use Rattle.std.specs.List.{AllZip}
use Rattle.std.specs.Option.{option_to_list}
use Rattle.std.proofs.lemmas.List.{append-nil}
use Rattle.cck_script.specs.Calls.{ScriptCallValue, calls_after, script_calls, call_of_command}
use Rattle.cck_script.specs.Lines.{Line}
use Rattle.cck_script.specs.Seen.{line_of}
use Rattle.cck_script.specs.Surroundings.{AreAfter}
use Rattle.cck_script.specs.declared.command.Command.{Command}
use Rattle.cck_script.specs.declared.surroundings.Surroundings.{Surroundings}

-- the lines so far were followed, this holds of the calls that they ask for, and the lines that are left ask for the others
pub record AreFollowed (OfAsked : List ScriptCallValue → Type 0) (lines left : List Line) (now : Surroundings) : Type 0 where
  pub earlier : List Line
  pub asked : List ScriptCallValue
  pub after : AreAfter earlier now
  pub split : script_calls lines ≡ asked ++ calls_after earlier left
  pub of_asked : OfAsked asked

-- one line more
pub one_line_more : (OfAsked OfMore : List ScriptCallValue → Type 0) (lines left following : List Line) (line : Line) (now then : Surroundings) → AreFollowed OfAsked lines left now → left ≡ line ∷ following
    → ((earlier : List Line) → AreAfter earlier now → AreAfter (line ∷ earlier) then)
    → ((earlier : List Line) (asked : List ScriptCallValue) → AreAfter earlier now → OfAsked asked → OfMore (asked ++ option_to_list (call_of_command earlier line))) → AreFollowed OfMore lines following then
one_line_more OfAsked OfMore lines left following line now then so is follow more = record {
  earlier = line ∷ so.earlier;
  asked = so.asked ++ option_to_list (call_of_command so.earlier line);
  after = follow so.earlier so.after;
  split = so.split ∙ ap (λ l. so.asked ++ calls_after so.earlier l) is
      ∙ sym (append_assoc so.asked (option_to_list (call_of_command so.earlier line)) (calls_after (line ∷ so.earlier) following));
  of_asked = more so.earlier so.asked so.after so.of_asked;
}

-- no line is left: it holds of all calls
all_followed : (OfAsked : List ScriptCallValue → Type 0) (lines : List Line) (now : Surroundings) → AreFollowed OfAsked lines [] now → OfAsked (script_calls lines)
all_followed OfAsked lines now so = rw (so.split ∙ append-nil so.asked) so.of_asked

-- the same, where no command is left
pub none_left : (OfAsked : List ScriptCallValue → Type 0) (lines : List Line) (items : List Command) (now : Surroundings) → length items ≡ 0 → AreFollowed OfAsked lines (map line_of items) now → OfAsked (script_calls lines)
none_left OfAsked lines [] now none so = all_followed OfAsked lines now so
none_left OfAsked lines (command ∷ items) now none so = absurd (omega arith)

pub zip_joined : {A B : Type 0} (R : A → B → Type 0) (xs more : List A) (ys others : List B) → AllZip R xs ys → AllZip R more others → AllZip R (xs ++ more) (ys ++ others)
zip_joined R [] more [] others p q = q
zip_joined R [] more (y ∷ ys) others p q = absurd p
zip_joined R (x ∷ xs) more [] others p q = absurd p
zip_joined R (x ∷ xs) more (y ∷ ys) others p q = (p.0, zip_joined R xs more ys others p.1 q)

-- the pushed item is after the others
pub zip_pushed : {A B : Type 0} (R : A → B → Type 0) (xs : List A) (ys news : List B) (o : Option A) (x : A) (y : B) → Some x ≡ o → news ≡ ys ++ y ∷ [] → AllZip R xs ys → R x y → AllZip R (xs ++ option_to_list o) news
zip_pushed R xs ys news o x y is new all one = rw (← is, new) (zip_joined R xs (x ∷ []) ys (y ∷ []) all (one, tt))
