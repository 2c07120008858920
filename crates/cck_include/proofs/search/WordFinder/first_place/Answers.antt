use Rattle.std.proofs.Common.{subst, List, ℕ}
use Rattle.cck_include.specs.Searches.{IsKnown}
use Rattle.cck_include.proofs.search.WordFinder.first_place.Goals as goal

pub returns-clause-known : goal.returns-clause-known
returns-clause-known c = λ word before. record {
  word_is = before.word_is;
  known = subst (λ (w : List ℕ). IsKnown c.bytes_left-found.result w c.args.rest.now) before.word_is c.bytes_left-found.ensures.nowhere;
}

pub returns-clause-nowhere : goal.returns-clause-nowhere
returns-clause-nowhere c = λ word before. subst (λ (w : List ℕ). IsKnown c.bytes_left-found.result w c.args.rest.now) before.word_is c.bytes_left-found.ensures.nowhere
