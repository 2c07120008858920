use Rattle.std.proofs.Common.{◌≡◌, ◌∙◌, ℕ, true, [], Some, None, get_or, length, map, sym, ap, subst, arith}
use Rattle.std.specs.Global.{Vec}
use Rattle.std.specs.Map.Iter.{deref}
use Rattle.std.proofs.lemmas.List.{length_push}
use Rattle.std.proofs.lemmas.Map.Iter.{iter_end}
use Rattle.cck_cache_text.specs.DependencyPragma.{has_dependency}
use Rattle.cck_cache_text.specs.SearchList.{search_fields}
use Rattle.cck_cache_text.specs.Sets.{Adds}
use Rattle.cck_cache_text.specs.Splices.{unspliced}
use Rattle.cck_cache_text.proofs.SetLemmas.{adds_none_below, has_key_at, set_turn}
use Rattle.cck_files.proofs.CallsLemmas.{keeps_all, keeps_itself}
use Rattle.cck_files.specs.FileMap.{FileMap}
use Rattle.cck_path.specs.Bytes.{Bytes}
use Rattle.cck_cache_files.specs.Sources.{AreSourceTests, AsksFor, IsContents, IsPlainSource, SourceAsks}
use Rattle.cck_cache_files.specs.declared.sources.SourceVerdict.TheVariants as verdict
use Rattle.cck_cache_files.proofs.SourceLemmas.{AsksAt, all_asked, asks_here, asks_none, plain_here, plain_none}
use Rattle.cck_cache_files.proofs.sources.asked_of.Goals as goal

pub loop-name-init : goal.loop-name-init
loop-name-init c = record {
  keeps = keeps_itself c.args.files.now;
  plain = λ k contents lt. absurd (omega (arith, lt));
  asked = adds_none_below (AsksAt c.args.files.now.files c.args.directory.now (search_fields c.args.search.now).directories (map (λ k. k.items) c.args.names.now.keys)) c.new-paths.result;
}

pub loop-name-preserved-in_default : goal.loop-name-preserved-in_default
loop-name-preserved-in_default c =
    let files = c.args.files.now.files in
    let directory = c.args.directory.now in
    let directories = (search_fields c.args.search.now).directories in
    let keys = c.args.names.now.keys in
    let names = map (λ (k : Vec ℕ). k.items) keys in
    let i = length c.loop-name.yielded in
    let turn = set_turn keys c.loop-name.yielded c.into_iter-name-iterator.result c.loop-name.name-iterator c.next.new.self c.next.result c.in-Some.name
    c.into_iter-name-iterator.ensures.into_iter_gives.0 c.loop-name.yielded_by c.in-Some.is c.next.ensures.steps in
    let same : c.loop-name.files.files ≡ files = c.loop-name.invariant.keeps.same_map in
    let at : c.deref.result.now ≡ get_or names i [] = c.deref.ensures.value ∙ sym turn.1 in
    let found : IsContents c.loop-name.files.files directory c.deref.result.now None = rw c.in_default.is at c.in_ok-contents.ensures.contents in
    let here : IsContents files directory (get_or names i []) None =
    subst (λ (n : Bytes). IsContents files directory n None) at (subst (λ (m : FileMap). IsContents m directory c.deref.result.now None) same found)
    in
    rw (length_push c.loop-name.yielded c.in-Some.name) (record {
      keeps = keeps_all c.args.files.now c.loop-name.files c.contents_of.new.files c.loop-name.invariant.keeps c.in_ok-contents.ensures.keeps;
      plain = plain_none files directory names i here c.loop-name.invariant.plain;
      asked = asks_none files directory directories names i c.new-paths.result c.loop-name.paths here c.loop-name.invariant.asked;
    })

pub loop-name-preserved : goal.loop-name-preserved
loop-name-preserved c =
    let files = c.args.files.now.files in
    let directory = c.args.directory.now in
    let directories = (search_fields c.args.search.now).directories in
    let keys = c.args.names.now.keys in
    let names = map (λ (k : Vec ℕ). k.items) keys in
    let i = length c.loop-name.yielded in
    let turn = set_turn keys c.loop-name.yielded c.into_iter-name-iterator.result c.loop-name.name-iterator c.next.new.self c.next.result c.in-Some.name
    c.into_iter-name-iterator.ensures.into_iter_gives.0 c.loop-name.yielded_by c.in-Some.is c.next.ensures.steps in
    let same : c.loop-name.files.files ≡ files = c.loop-name.invariant.keeps.same_map in
    let at : c.deref.result.now ≡ get_or names i [] = c.deref.ensures.value ∙ sym turn.1 in
    let contents = c.in-Some-2.contents.items in
    let found : IsContents c.loop-name.files.files directory c.deref.result.now (Some contents) = rw c.in-Some-2.is at c.in_ok-contents.ensures.contents in
    let here : IsContents files directory (get_or names i []) (Some contents) =
    subst (λ (n : Bytes). IsContents files directory n (Some contents)) at (subst (λ (m : FileMap). IsContents m directory c.deref.result.now (Some contents)) same found)
    in
    let name_is : c.deref-in-loop-name.result.now ≡ get_or names i [] = c.deref-in-loop-name.ensures.value ∙ sym turn.1 in
    let contents_is : c.deref-in-loop-name-2.result.now ≡ contents = c.deref-in-loop-name-2.ensures.value in
    let new = c.add_source.new.paths in
    let asks : SourceAsks directories c.deref-in-loop-name.result.now c.deref-in-loop-name-2.result.now c.loop-name.paths new verdict.Paths = rw c.in-Paths.is at c.in_ok-verdict.ensures in
    let asked : Adds (AsksFor directories (get_or names i []) contents) c.loop-name.paths new =
    subst (λ (n : Bytes). Adds (AsksFor directories n contents) c.loop-name.paths new) name_is (subst (λ (b : Bytes). Adds (AsksFor directories c.deref-in-loop-name.result.now b) c.loop-name.paths new) contents_is asks.1)
    in
    rw (length_push c.loop-name.yielded c.in-Some.name) (record {
      keeps = keeps_all c.args.files.now c.loop-name.files c.contents_of.new.files c.loop-name.invariant.keeps c.in_ok-contents.ensures.keeps;
      plain = plain_here files directory names i contents here (subst IsPlainSource contents_is asks.0) c.loop-name.invariant.plain;
      asked = asks_here files directory directories names i contents c.new-paths.result c.loop-name.paths new here asked c.loop-name.invariant.asked;
    })

pub returns-in-Unknown-clause-keeps : goal.returns-in-Unknown-clause-keeps
returns-in-Unknown-clause-keeps c = keeps_all c.args.files.now c.loop-name.files c.contents_of.new.files c.loop-name.invariant.keeps c.in_ok-contents.ensures.keeps

pub returns-in-Time-clause-keeps : goal.returns-in-Time-clause-keeps
returns-in-Time-clause-keeps c = keeps_all c.args.files.now c.loop-name.files c.contents_of.new.files c.loop-name.invariant.keeps c.in_ok-contents.ensures.keeps

pub returns-in-Unknown-clause-asked : goal.returns-in-Unknown-clause-asked
returns-in-Unknown-clause-asked c =
    let files = c.args.files.now.files in
    let directory = c.args.directory.now in
    let directories = (search_fields c.args.search.now).directories in
    let keys = c.args.names.now.keys in
    let names = map (λ (k : Vec ℕ). k.items) keys in
    let i = length c.loop-name.yielded in
    let turn = set_turn keys c.loop-name.yielded c.into_iter-name-iterator.result c.loop-name.name-iterator c.next.new.self c.next.result c.in-Some.name
    c.into_iter-name-iterator.ensures.into_iter_gives.0 c.loop-name.yielded_by c.in-Some.is c.next.ensures.steps in
    let same : c.loop-name.files.files ≡ files = c.loop-name.invariant.keeps.same_map in
    let at : c.deref.result.now ≡ get_or names i [] = c.deref.ensures.value ∙ sym turn.1 in
    let contents = c.in-Some-2.contents.items in
    let found : IsContents c.loop-name.files.files directory c.deref.result.now (Some contents) = rw c.in-Some-2.is at c.in_ok-contents.ensures.contents in
    let here : IsContents files directory (get_or names i []) (Some contents) =
    subst (λ (n : Bytes). IsContents files directory n (Some contents)) at (subst (λ (m : FileMap). IsContents m directory c.deref.result.now (Some contents)) same found)
    in
    let name_is : c.deref-in-loop-name.result.now ≡ get_or names i [] = c.deref-in-loop-name.ensures.value ∙ sym turn.1 in
    let contents_is : c.deref-in-loop-name-2.result.now ≡ contents = c.deref-in-loop-name-2.ensures.value in
    let asks : AreSourceTests c.deref-in-loop-name-2.result.now None = rw c.in-Unknown.is at c.in_ok-verdict.ensures in
    (get_or names i [], contents, (has_key_at keys i turn.0, here), subst (λ (b : Bytes). AreSourceTests b None) contents_is asks)

pub returns-in-Time-clause-asked : goal.returns-in-Time-clause-asked
returns-in-Time-clause-asked c =
    let files = c.args.files.now.files in
    let directory = c.args.directory.now in
    let directories = (search_fields c.args.search.now).directories in
    let keys = c.args.names.now.keys in
    let names = map (λ (k : Vec ℕ). k.items) keys in
    let i = length c.loop-name.yielded in
    let turn = set_turn keys c.loop-name.yielded c.into_iter-name-iterator.result c.loop-name.name-iterator c.next.new.self c.next.result c.in-Some.name
    c.into_iter-name-iterator.ensures.into_iter_gives.0 c.loop-name.yielded_by c.in-Some.is c.next.ensures.steps in
    let same : c.loop-name.files.files ≡ files = c.loop-name.invariant.keeps.same_map in
    let at : c.deref.result.now ≡ get_or names i [] = c.deref.ensures.value ∙ sym turn.1 in
    let contents = c.in-Some-2.contents.items in
    let found : IsContents c.loop-name.files.files directory c.deref.result.now (Some contents) = rw c.in-Some-2.is at c.in_ok-contents.ensures.contents in
    let here : IsContents files directory (get_or names i []) (Some contents) =
    subst (λ (n : Bytes). IsContents files directory n (Some contents)) at (subst (λ (m : FileMap). IsContents m directory c.deref.result.now (Some contents)) same found)
    in
    let name_is : c.deref-in-loop-name.result.now ≡ get_or names i [] = c.deref-in-loop-name.ensures.value ∙ sym turn.1 in
    let contents_is : c.deref-in-loop-name-2.result.now ≡ contents = c.deref-in-loop-name-2.ensures.value in
    let asks : has_dependency (unspliced c.deref-in-loop-name-2.result.now) ≡ true = rw c.in-Time.is at c.in_ok-verdict.ensures in
    (get_or names i [], contents, (has_key_at keys i turn.0, here), ap (λ (b : Bytes). has_dependency (unspliced b)) (sym contents_is) ∙ asks)

pub returns-clause-keeps : goal.returns-clause-keeps
returns-clause-keeps c = c.loop-name.invariant.keeps

pub returns-clause-asked : goal.returns-clause-asked
returns-clause-asked c =
    let keys = c.args.names.now.keys in
    let ends = iter_end deref keys c.loop-name.yielded c.into_iter-name-iterator.result c.loop-name.name-iterator c.next.new.self c.next.result
    c.into_iter-name-iterator.ensures.into_iter_gives.0 c.loop-name.yielded_by c.in-None.is c.next.ensures.steps in
    all_asked c.args.files.now.files c.args.directory.now (search_fields c.args.search.now).directories c.args.names.now (length c.loop-name.yielded) c.new-paths.result c.loop-name.paths ends.1 c.new-paths.ensures.empty c.loop-name.invariant.plain c.loop-name.invariant.asked
