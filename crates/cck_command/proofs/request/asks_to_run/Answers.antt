use Rattle.std.proofs.Common.{◌≡◌, ◌≢◌, ◌≤◌, ◌<◌, ℕ, List, [], ◌∷◌, length, get_or, Bool, true, false, codes, nat_eq, MatchBool, arith, ap, sym, ◌∙◌, map, string_bytes}
use Rattle.std.specs.Cmp.Lexicographic.{bytes_decides, pointwise, same_text}
use Rattle.cck_command.specs.Request.{run_words}
use Rattle.cck_command.proofs.request.asks_to_run.Goals as goal

one : {X : Type 0} (xs : List X) (a : X) → 1 ≤ length xs → length xs < 2 → a ≡ get_or xs 0 a → xs ≡ a ∷ []
one [] a least most e = absurd (omega (least, arith))
one (x ∷ []) a least most e = cc
one (x ∷ y ∷ xs) a least most e = absurd (omega (most, arith))

claim : (r : Bool) (words : List (List ℕ)) (word : List ℕ) → r ≡ pointwise nat_eq word (codes "run") → words ≡ word ∷ [] → MatchBool r (words ≡ run_words) (words ≢ run_words)
claim true words word e split = split ∙ ap (λ w. w ∷ []) (same_text word (codes "run") e)
claim false words word e split = λ is.
    let same : word ≡ codes "run" = cc in
    let yes : pointwise nat_eq word (codes "run") ≡ true = (bytes_decides word (codes "run")).1 same in
    absurd cc

pub returns : goal.returns
returns c =
    let split = one c.args.words.now c.command-item.result c.in-len1.len_at_least c.in-len1.len_below c.command-item.is in
    claim c.eq.result _ _ c.eq.ensures (ap (map string_bytes) split ∙ ap (λ w. w ∷ []) (sym c.as_str.ensures.value))
