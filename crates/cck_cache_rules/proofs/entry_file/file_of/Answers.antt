use Rattle.std.proofs.Common.{Bor, ◌≡◌, ◌==◌, ℕ, List, [], ◌∷◌, ◌++◌, map, sym, ◌∙◌, ap}
use Rattle.std.specs.Vec.Iter.{into_iter_items}
use Rattle.std.proofs.lemmas.List.{append-nil, length-map, nil_from_length}
use Rattle.cck_cache_rules.specs.PathStatus.{status_bytes, status_of, statuses_of}
use Rattle.cck_cache_rules.specs.PathTest.{test_bytes, test_of, tests_of}
use Rattle.cck_cache_rules.proofs.EntryFileLemmas.{fields_differ, more_are, next_status, no_file, no_order}
use Rattle.cck_cache_rules.proofs.ReadingLemmas.{empty, not_empty}
use Rattle.cck_cache_rules.proofs.entry_file.file_of.Goals as goal

-- the bytes of each part
abbrev lists : List (Bor (List ℕ)) → List (List ℕ)
lists parts = map (λ p. p.now) parts

-- the parts are a key, an entry, and those of an iterator
all_are : (key entry : Bor (List ℕ)) (all after rest : List (Bor (List ℕ))) (written : List (List ℕ)) → all ≡ key ∷ after → after ≡ entry ∷ rest → lists rest ≡ written → lists all ≡ key.now ∷ entry.now ∷ written
all_are key entry all after rest written first second third =
    ap lists first ∙ ap (λ l. key.now ∷ l) (ap lists second ∙ ap (λ l. entry.now ∷ l) third)

-- the same where a part of the iterator was taken after those that are written
all_from : (key entry : Bor (List ℕ)) (all after rest left next : List (Bor (List ℕ))) (part : Bor (List ℕ)) (written : List (List ℕ)) → all ≡ key ∷ after → after ≡ entry ∷ rest → lists rest ≡ written ++ lists left → left ≡ part ∷ next
    → lists all ≡ key.now ∷ entry.now ∷ (written ++ part.now ∷ lists next)
all_from key entry all after rest left next part written first second others taken =
    all_are key entry all after rest (written ++ part.now ∷ lists next) first second (others ∙ ap (λ l. written ++ lists l) taken)

pub returns-then-not-is_empty : goal.returns-then-not-is_empty
returns-then-not-is_empty c x right same =
    let key = c.in-Some-Some.preprocessor_key in
    let entry = c.in-Some-Some.entry in
    let statuses = statuses_of c.loop-part.statuses.items in
    let tests = tests_of c.loop-part.tests.items in
    let part = c.in-Some.part in
    let after = into_iter_items c.next-in-loop-part.new.self in
    let all = all_from key entry c.args.parts.items (into_iter_items c.next.new.self) (into_iter_items c.next-2.new.self) (into_iter_items c.loop-part.part-iterator) after part
    (map status_bytes statuses ++ map test_bytes tests) (sym c.into_iter-parts.ensures.rest ∙ c.in-Some-Some.ensures.cases.0) c.in-Some-Some.ensures'.cases.0
    (ap (λ it. lists (into_iter_items it)) (sym c.into_iter-part-iterator.ensures.into_iter_gives) ∙ c.loop-part.invariant.parts) (rw c.in-Some.is at c.next-in-loop-part.ensures.steps).0
    in
    let some : tests ≡ [] → ⊥ = not_empty tests (ap (λ n. n == 0) (length-map c.loop-part.tests.items test_of ∙ sym (c.loop-part.tests).ok.0) ∙ (sym c.is_empty.ensures ∙ c.if-not-is_empty.true)) in
    let status_is = (rw c.in-Some-2.is at c.in_ok-status.ensures).1 in
    no_order x key.now entry.now statuses tests (status_of c.in-Some-2.status) (lists after) part.now some status_is (same ∙ all)

pub loop-part-preserved-in-Some-2 : goal.loop-part-preserved-in-Some-2
loop-part-preserved-in-Some-2 c =
    let part = c.in-Some.part in
    let after = lists (into_iter_items c.next-in-loop-part.new.self) in
    let left : lists (into_iter_items c.loop-part.part-iterator) ≡ part.now ∷ after = ap lists (rw c.in-Some.is at c.next-in-loop-part.ensures.steps).0 in
    let read = rw c.in-Some-2.is at c.in_ok-status.ensures in
    let none : c.loop-part.tests.items ≡ [] = empty c.loop-part.tests.items (ap (λ n. n == 0) (sym (c.loop-part.tests).ok.0) ∙ (sym c.is_empty.ensures ∙ c.if-not-is_empty.false)) in
    record {
      parts = next_status (lists (into_iter_items c.into_iter-part-iterator.result)) (lists (into_iter_items c.loop-part.part-iterator)) after c.loop-part.statuses.items c.push.new.self.items (tests_of c.loop-part.tests.items) c.in-Some-2.status part.now
          c.loop-part.invariant.parts left c.in_ok-push.ensures.items (ap tests_of none) read.1;
      are = more_are c.loop-part.statuses.items c.push.new.self.items c.in-Some-2.status c.loop-part.invariant.are read.0 c.in_ok-push.ensures.items;
    }

pub returns-in_default-3 : goal.returns-in_default-3
returns-in_default-3 c x right same =
    let key = c.in-Some-Some.preprocessor_key in
    let entry = c.in-Some-Some.entry in
    let written = map status_bytes (statuses_of c.loop-part.statuses.items) ++ map test_bytes (tests_of c.loop-part.tests.items) in
    let part = c.in-Some.part in
    let after = into_iter_items c.next-in-loop-part.new.self in
    let all = all_from key entry c.args.parts.items (into_iter_items c.next.new.self) (into_iter_items c.next-2.new.self) (into_iter_items c.loop-part.part-iterator) after part
    written (sym c.into_iter-parts.ensures.rest ∙ c.in-Some-Some.ensures.cases.0) c.in-Some-Some.ensures'.cases.0
    (ap (λ it. lists (into_iter_items it)) (sym c.into_iter-part-iterator.ensures.into_iter_gives) ∙ c.loop-part.invariant.parts) (rw c.in-Some.is at c.next-in-loop-part.ensures.steps).0
    in
    no_file x key.now entry.now written (lists after) part.now right (rw c.in_default-2.is at c.in_ok-status.ensures)
    (rw c.in_default-3.is at c.in_ok-test.ensures) (same ∙ all)

pub returns : goal.returns
returns c =
    let key = c.in-Some-Some.preprocessor_key in
    let entry = c.in-Some-Some.entry in
    let written = map status_bytes (statuses_of c.loop-part.statuses.items) ++ map test_bytes (tests_of c.loop-part.tests.items) in
    let none : into_iter_items c.loop-part.part-iterator ≡ [] = nil_from_length _ (sym (c.loop-part.part-iterator).rest.ok.0 ∙ c.in-None.ensures.steps.0) in
    let others : lists (into_iter_items c.next-2.new.self) ≡ written =
    ap (λ it. lists (into_iter_items it)) (sym c.into_iter-part-iterator.ensures.into_iter_gives) ∙ (c.loop-part.invariant.parts ∙ (ap (λ l. written ++ lists l) none ∙ append-nil written))
    in
    let all : lists c.args.parts.items ≡ key.now ∷ entry.now ∷ written =
    all_are key entry c.args.parts.items (into_iter_items c.next.new.self) (into_iter_items c.next-2.new.self) written
    (sym c.into_iter-parts.ensures.rest ∙ c.in-Some-Some.ensures.cases.0) c.in-Some-Some.ensures'.cases.0 others
    in
    let key_copied : key.now ≡ c.in_ok-to_vec.field-0.items = sym (c.in_ok-to_vec.ensures.items_if_clones_equal (λ x y e. e)) in
    let entry_copied : entry.now ≡ c.in_ok-to_vec-2.field-0.items = sym (c.in_ok-to_vec-2.ensures.items_if_clones_equal (λ x y e. e)) in
    let read : lists c.args.parts.items ≡ c.in_ok-to_vec.field-0.items ∷ c.in_ok-to_vec-2.field-0.items ∷ written = all ∙ (λ i. key_copied i ∷ entry_copied i ∷ written) in
    (c.loop-part.invariant.are, sym read, λ x right same. fields_differ x _ right c.loop-part.invariant.are (same ∙ read))
