use Rattle.std.proofs.Common.{IfOk, MatchOption, sym, subst}
use Rattle.std.proofs.lemmas.Result.{IfOk-weaker}
use Rattle.cck_files.proofs.CallsLemmas.{rose_earlier}
use Rattle.cck_files.specs.Calls.{Rose}
use Rattle.cck_files.specs.FileMap.{metadata_at}
use Rattle.cck_entry.proofs.KnownLemmas.{known_set, path_there, right_there}
use Rattle.cck_entry.proofs.MatchLemmas.{may_miss_more, unreadable}
use Rattle.cck_include.specs.Include.{include_lent}
use Rattle.cck_entry.specs.Known.{IsKnownAt, IsRight}
use Rattle.cck_entry.specs.Matching.{matches}
use Rattle.cck_path.specs.Path.{components}
use Rattle.cck_include.specs.JudgeContext.{setting_of}
use Rattle.cck_entry.proofs.matching.include_matches.Goals as goal

pub returns-in_err-place-clause-known : goal.returns-in_err-place-clause-known
returns-in_err-place-clause-known g c = λ right. c.in_err-place.ensures.known _ right

pub returns-in_default-clause-known : goal.returns-in_default-clause-known
returns-in_default-clause-known g c = λ right. c.in_ok-place.ensures.known _ right

pub returns-in_default-clause-outcome : goal.returns-in_default-clause-outcome
returns-in_default-clause-outcome g c = λ right.
    let F = g.F.Files in
    let s = setting_of g.H.HashState.hash c.args.context.now in
    let old = F.file_map c.args.files.now in
    let i = include_lent c.args.include.now in
    let Missing = IfOk (metadata_at old (components i.path)) (λ _. Rose (F.faults c.args.files.now) (F.faults c.place_for.new.files)) in
    unreadable s old i (Rose (F.faults c.args.files.now) (F.faults c.place_for.new.files)) (subst (λ o. MatchOption o Missing (IsKnownAt (components i.path) c.place_for.new.known.files.items)) c.in_default.is c.in_ok-place.ensures.place)

pub returns-clause-outcome : goal.returns-clause-outcome
returns-clause-outcome g c = λ right.
    let F = g.F.Files in
    let s = setting_of g.H.HashState.hash c.args.context.now in
    let old = F.file_map c.args.files.now in
    let i = include_lent c.args.include.now in
    let ks = c.place_for.new.known.files.items in
    let Missing = IfOk (metadata_at old (components i.path)) (λ _. Rose (F.faults c.args.files.now) (F.faults c.place_for.new.files)) in
    let at = subst (λ o. MatchOption o Missing (IsKnownAt (components i.path) ks)) c.in-Some.is c.in_ok-place.ensures.place in
    let P = Rose (F.faults c.place_for.new.files) (F.faults c.known_matches.new.files) in
    let Q = Rose (F.faults c.args.files.now) (F.faults c.known_matches.new.files) in
    let same = c.in_ok-place.ensures.keeps.same_map in
    let file = c.index_mut-file.result.now in
    let own : IsRight s (F.file_map c.place_for.new.files) file =
    subst (λ m. IsRight s m file) (sym same) (right_there s old ks (components i.path) c.in-Some.place file c.index_mut-file.ensures.value at (c.in_ok-place.ensures.known s right).0) in
    let path = path_there ks (components i.path) c.in-Some.place file c.index_mut-file.ensures.value at in
    IfOk-weaker c.known_matches.result _ _ (λ is_match h. may_miss_more P Q is_match (matches s old i)
    (rose_earlier (F.faults c.args.files.now) (F.faults c.place_for.new.files) (F.faults c.known_matches.new.files) c.in_ok-place.ensures.keeps.not_lower) h)
    (rw (← same) (c.known_matches.ensures.outcome own path))

pub returns-clause-known : goal.returns-clause-known
returns-clause-known g c = λ right.
    let F = g.F.Files in
    let s = setting_of g.H.HashState.hash c.args.context.now in
    let old = F.file_map c.args.files.now in
    let p = components c.args.include.now.path.now in
    let ks = c.place_for.new.known.files.items in
    let Missing = IfOk (metadata_at old p) (λ _. Rose (F.faults c.args.files.now) (F.faults c.place_for.new.files)) in
    let at = subst (λ o. MatchOption o Missing (IsKnownAt p ks)) c.in-Some.is c.in_ok-place.ensures.place in
    let before = c.in_ok-place.ensures.known s right in
    let same = c.in_ok-place.ensures.keeps.same_map in
    let file = c.index_mut-file.result.now in
    let own : IsRight s (F.file_map c.place_for.new.files) file = subst (λ m. IsRight s m file) (sym same) (right_there s old ks p c.in-Some.place file c.index_mut-file.ensures.value at before.0) in
    known_set s old ks c.place_for.new.known.places c.in-Some.place file c.known_matches.new.file c.index_mut-file.ensures.value c.known_matches.ensures.path
    (subst (λ m. IsRight s m c.known_matches.new.file) same (c.known_matches.ensures.known own)) before
