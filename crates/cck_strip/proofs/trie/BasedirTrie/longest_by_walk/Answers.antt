use Rattle.std.proofs.Common.{◌∙◌, ℕ, List, ◌-◌, length, nat_eq, take, drop, ap, refl, sym, arith, length-take}
use Rattle.std.specs.List.{starts_with}
use Rattle.std.proofs.lemmas.Bool.{false≢true}
use Rattle.std.proofs.lemmas.List.{take_rest}
use Rattle.cck_strip.specs.Text.{longest_prefix}
use Rattle.cck_strip.proofs.RunLemmas.{IsRun-kept, none_after, run_ends}
use Rattle.cck_strip.proofs.trie.BasedirTrie.longest_by_walk.Goals as goal
use Rattle.cck_strip.proofs.trie.BasedirTrie.longest_by_walk.Goals.{else-longest-gt0-via-then-longest-gt0+else-starts_with, else-longest-gt0-via-else-longest-gt0}

-- the text from a place on, as it is read
abbrev rest : List ℕ → ℕ → List ℕ
rest text at = take (length text - at) (drop at text)

pub slice_bounds-starts_with-end : goal.slice_bounds-starts_with-end
slice_bounds-starts_with-end c =
    let some = c.self.invariant.0.some in
    let ends = run_ends _ _ _ 0 _ c.self.invariant.1 some c.index-shared.ensures in
    omega (arith, ap length c.deref.ensures.value, length-take c.index-shared.result.now c.deref.result.now)

pub returns : goal.returns
returns c words t =
    let run = IsRun-kept _ _ _ 0 _ c.self.invariant.1 c.self.invariant.0.some c.index-shared.ensures in
    none_after _ (rest c.args.text.now c.args.at) _ words c.self.invariant.0 run (rw c.self.view_is t) _ refl (λ h.
    elim c.else-longest-gt0.branch [
      | else-longest-gt0-via-then-longest-gt0+else-starts_with w ↦
          let same = w.deref.ensures.value ∙ c.self.invariant.1.bytes_are in
          absurd (false≢true (sym w.if-starts_with.false ∙ (w.starts_with.ensures.value
          ∙ (ap (λ bytes. starts_with nat_eq (rest c.args.text.now c.args.at) (take c.index-shared.result.now bytes)) same ∙ h))))
      | else-longest-gt0-via-else-longest-gt0 w ↦ let none = w.if-longest-gt0.false in omega (arith, c.longest_after-longest.ensures words t (rw (← c.self.view_is) h))
    ])
    ∙ ap (longest_prefix words) (take_rest c.args.text.now c.args.at)
