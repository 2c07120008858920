use Rattle.std.proofs.Common.{◌≡◌, ◌∙◌, ℕ, Some, None, ap, subst}
use Rattle.std.specs.Global.{Vec}
use Rattle.cck_cache_rules.specs.Base.{BaseOf, WordLists}
use Rattle.cck_path.specs.Bytes.{lists_of}
use Rattle.cck_cache.specs.Request.{keyed_arguments, request_words}
use Rattle.cck_cache.proofs.RequestLemmas.{keyed_base, keyed_two}
use Rattle.cck_cache.proofs.request.keyed_arguments.Goals as goal
use Rattle.cck_cache.proofs.request.keyed_arguments.Goals.{in-Some+in_ok-push_argument-3, in_default}

pub returns : goal.returns
returns c =
    let words = request_words c.args.request.now in
    let variables = c.args.environment.now.compiler_variables.items in
    let copied = c.in_ok-all.ensures ∙ ap lists_of c.deref.ensures.value in
    let two : lists_of c.push_argument-2.new.all.items ≡ keyed_arguments words variables None =
    keyed_two words variables (lists_of c.in_ok-all.all.items) (lists_of c.push_argument.new.all.items) (lists_of c.push_argument-2.new.all.items) c.as_bytes.result.now c.deref-2.result.now
    copied c.as_bytes.ensures.value c.deref-2.ensures.value c.in_ok-push_argument.ensures c.in_ok-push_argument-2.ensures in
    elim c.match-base_of.branch [
      | in-Some+in_ok-push_argument-3 w ↦
          let base = w.in-Some.base.now in (
            Some base,
            subst (λ (ws : WordLists). BaseOf ws (Some base)) c.base_words.ensures w.in-Some.ensures,
            ap (λ (v : Vec (Vec ℕ)). lists_of v.items) w.all-is
                ∙ (keyed_base words variables (lists_of c.push_argument-2.new.all.items) (lists_of w.push_argument-in-Some.new.all.items) w.as_bytes-in-Some.result.now base w.as_bytes-in-Some.ensures.value w.in_ok-push_argument-3.ensures two),
          )
      | in_default w ↦ (
        None,
        subst (λ (ws : WordLists). BaseOf ws None) c.base_words.ensures w.in_default.ensures,
        ap (λ (v : Vec (Vec ℕ)). lists_of v.items) w.all-is ∙ two,
      )
    ]
