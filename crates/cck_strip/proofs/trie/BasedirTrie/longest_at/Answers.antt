use Rattle.std.proofs.Common.{◌∙◌, ◌-◌, ℕ, List, [], true, false, inl, length, nat_eq, take, drop, ap, refl, sym, arith}
use Rattle.std.specs.List.{starts_with}
use Rattle.std.proofs.lemmas.List.{drop_all, take_rest}
use Rattle.cck_strip.specs.Text.{longest_prefix}
use Rattle.cck_strip.proofs.RunLemmas.{only_word}
use Rattle.cck_strip.proofs.WalkLemmas.{longest_is}
use Rattle.cck_strip.proofs.trie.BasedirTrie.longest_at.Goals as goal

-- the text from a place on, as it is read
abbrev rest : List ℕ → ℕ → List ℕ
rest text at = take (length text - at) (drop at text)

pub returns-then-at-text : goal.returns-then-at-text
returns-then-at-text c words t =
    longest_is words [] 0 (omega arith) (λ n le some c. le) (inl refl) ∙ ap (longest_prefix words) (sym (drop_all c.args.at c.args.text.now (omega (arith, c.if-at-text.true))))

pub returns-then-starts_with : goal.returns-then-starts_with
returns-then-starts_with c words t =
    c.len.ensures ∙ c.self.inside.bytes.ok.0
    ∙ only_word _ _ _ (rest c.args.text.now c.args.at) _ words c.self.invariant.0 c.self.invariant.1 refl (c.self.invariant.2 c.if-self.true) (rw c.self.view_is t) true
    (ap (starts_with nat_eq (rest c.args.text.now c.args.at)) (sym c.deref.ensures.value) ∙ sym c.starts_with.ensures.value ∙ c.if-starts_with.true)
    ∙ ap (longest_prefix words) (take_rest c.args.text.now c.args.at)

pub returns-else-starts_with : goal.returns-else-starts_with
returns-else-starts_with c words t =
    only_word _ _ _ (rest c.args.text.now c.args.at) _ words c.self.invariant.0 c.self.invariant.1 refl (c.self.invariant.2 c.if-self.true) (rw c.self.view_is t) false
    (ap (starts_with nat_eq (rest c.args.text.now c.args.at)) (sym c.deref.ensures.value) ∙ sym c.starts_with.ensures.value ∙ c.if-starts_with.false)
    ∙ ap (longest_prefix words) (take_rest c.args.text.now c.args.at)
