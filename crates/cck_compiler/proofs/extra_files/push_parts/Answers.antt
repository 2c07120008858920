use Rattle.std.proofs.Common.{◌≡◌, ◌++◌, ◌∙◌, ap, List, Option, None, map, nat_eq, rules, tests}
use Rattle.std.specs.Iterator.{Yields}
use Rattle.std.proofs.lemmas.Iterator.{YieldsList}
use Rattle.std.proofs.lemmas.Iterator.Consumers.{YieldsList-end}
use Rattle.std.proofs.lemmas.Iterator.Splits.{YieldsList-from_slice_split}
use Rattle.cck_path.specs.Bytes.{lists_of}
use Rattle.cck_compiler.proofs.extra_files.push_parts.Goals as goal

-- at the end all were yielded
all_yielded : {S A B : Type 0} {steps : S → Option A → S → Type 0} {v : A → B} {s : S} {all : List B} (xs : List A) (t : S) → Yields steps s xs t → (r : Option A) (u : S) → r ≡ None → steps t r u → YieldsList steps v s all → map v xs ≡ all
all_yielded xs t y r u none step e = (YieldsList-end e xs t y r u none step).0

pub returns : goal.returns
returns c =
    let same = c.into_iter-part-iterator.ensures.into_iter_gives in
    let split = c.split-part-items.ensures in
    c.loop-part.invariant
    ∙ ap (λ parts. lists_of c.args.all.now.items ++ parts) (all_yielded c.loop-part.yielded _ c.loop-part.yielded_by _ _ c.in-None.is c.next.ensures.steps
    (YieldsList-from_slice_split _ (λ b. nat_eq b 58) c.args.value.now (ap (λ s. s.rest.now) same ∙ split.rest) (ap (λ s. s.done) same ∙ split.done) (ap (λ s. s.pred) same ∙ split.closure)
    (λ x b q k. search (rules, tests))))
