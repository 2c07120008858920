use Rattle.std.proofs.Common.{arith}
use Rattle.cck_include.proofs.SkipLemmas.{are_plain}
use Rattle.cck_include.proofs.search.Searches.plain_size.Goals as goal

pub returns-clause-plain : goal.returns-clause-plain
returns-clause-plain c =
    are_plain c.args.text.now c.first_place-marker.result c.first_place-hidden.result c.first_place-inclusion.result
    c.first_place-marker.ensures.nowhere (c.first_place-hidden.ensures.nowhere _ c.requires.known.hidden) (c.first_place-inclusion.ensures.nowhere _ c.requires.known.inclusion)
    c.min-3.result (omega arith) (omega arith) (omega arith) (omega arith)

pub returns-clause-known : goal.returns-clause-known
returns-clause-known c = record {
  marker = c.first_place-marker.ensures.known;
  hidden = c.first_place-hidden.ensures.known _ c.requires.known.hidden;
  inclusion = c.first_place-inclusion.ensures.known _ c.requires.known.inclusion;
}
