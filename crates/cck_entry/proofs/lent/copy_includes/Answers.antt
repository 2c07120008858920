use Rattle.std.proofs.Common.{◌≡◌, ◌-◌, ◌+◌, ◌++◌, ◌∷◌, [], List, append_assoc, sym, ap, ◌∙◌}
use Rattle.std.proofs.lemmas.List.{append-nil, map_push}
use Rattle.cck_include.specs.Include.{Include, include_in, include_lent, includes_in}
use Rattle.cck_entry.specs.Lent.{includes_begun}
use Rattle.cck_entry.proofs.IncludeLoop.{begun_done, begun_ends, begun_next, begun_one}
use Rattle.cck_entry.proofs.lent.copy_includes.Goals as goal

pub read_include_again-requires : goal.read_include_again-requires
read_include_again-requires c = begun_one c.args.count c.loop.counter c.loop.rest.now c.loop-test.true c.loop.invariant.whole

pub returns-in-Err-clause-err : goal.returns-in-Err-clause-err
returns-in-Err-clause-err c = begun_ends c.in-Err.error c.args.count c.loop.counter c.loop.rest.now c.loop-test.true c.in-Err.ensures.read c.loop.invariant.whole

pub loop-preserved : goal.loop-preserved
loop-preserved c =
    let front = includes_in c.loop.copies.items in
    let n = include_lent c.in-Ok.read.0 in
    let left = includes_begun (c.args.count - (c.loop.counter + 1)) c.in-Ok.read.1.now in
    let next = begun_next c.args.count c.loop.counter c.loop.rest.now n c.in-Ok.read.1.now c.loop-test.true c.in-Ok.ensures.read c.loop.invariant.whole in
    let all : includes_in c.push.new.self.items ≡ front ++ n ∷ [] =
    rw c.in_ok-push.ensures.items (map_push include_in c.loop.copies.items c.in_ok-copy.field-0 ∙ ap (λ (i : Include). front ++ i ∷ []) c.in_ok-copy.ensures.value) in
    record {
      copied = rw all (append_assoc front (n ∷ []) left ∙ ap (λ (l : List Include). front ++ l) (sym next.0) ∙ c.loop.invariant.copied);
      whole = next.1;
    }

pub returns-clause-value : goal.returns-clause-value
returns-clause-value c =
    let front = includes_in c.loop.copies.items in
    sym (append-nil front) ∙ ap (λ (l : List Include). front ++ l) (sym (begun_done c.args.count c.loop.counter c.loop.rest.now c.loop-test.false)) ∙ c.loop.invariant.copied
