use Rattle.std.proofs.Common.{ap, subst, sym}
use Rattle.std.specs.Option.{option_map}
use Rattle.std.proofs.lemmas.Bool.Decides.{not_from_Decides}
use Rattle.cck_cache_rules.specs.Base.{AllPortable, HidesBase, IsBelow, IsPlain, word_lists}
use Rattle.cck_cache_rules.proofs.BaseLemmas.{base_is}
use Rattle.cck_cache_rules.proofs.base.base_of.Goals as goal

pub returns-then-not-all_portable : goal.returns-then-not-all_portable
returns-then-not-all_portable c other are =
    let lists = word_lists c.args.words.now in
    let this = base_is lists c.in_ok-base.base.now other (ap (option_map (λ b. b.now)) c.in_ok-base.was) are in
    not_from_Decides _ c.all_portable.ensures c.if-not-all_portable.true (subst (AllPortable lists.arguments) (sym c.as_bytes-bytes.ensures.value) this.arguments)

pub returns-then-hides_base : goal.returns-then-hides_base
returns-then-hides_base c =
    let lists = word_lists c.args.words.now in
    let is = c.as_bytes-bytes.ensures.value in
    record {
      given = ap (option_map (λ b. b.now)) c.in_ok-base.was;
      plain = subst IsPlain is (c.is_plain.ensures.0 c.if-not-is_plain.false);
      below = subst (IsBelow lists.directory) is (subst (λ d. IsBelow d c.as_bytes-bytes.result.now) c.as_bytes.ensures.value (c.is_below.ensures.0 c.if-not-is_below.false));
      arguments = subst (AllPortable lists.arguments) is (c.all_portable.ensures.0 c.if-not-all_portable.false);
      hidden = subst (HidesBase lists.arguments) is (c.hides_base.ensures.0 c.if-hides_base.true);
    }

pub returns-else-hides_base : goal.returns-else-hides_base
returns-else-hides_base c other are =
    let lists = word_lists c.args.words.now in
    let this = base_is lists c.in_ok-base.base.now other (ap (option_map (λ b. b.now)) c.in_ok-base.was) are in
    not_from_Decides _ c.hides_base.ensures c.if-hides_base.false (subst (HidesBase lists.arguments) (sym c.as_bytes-bytes.ensures.value) this.hidden)
