use Rattle.std.proofs.Common.{◌≡◌, sym, ◌∙◌, ap, subst, arith, ◌≤◌, ◌<◌, length, take, List, ◌++◌, ℕ}
use Rattle.cck_digest.specs.TimeMacros.{last_bytes}
use Rattle.cck_digest.specs.Finder.{seen_by}
use Rattle.cck_digest.proofs.FinderLemmas.{Follows-append, Marks}
use Rattle.cck_digest.proofs.finder.TimeMacroFinder.find_time_macros.Goals as goal
use Rattle.cck_digest.proofs.finder.TimeMacroFinder.find_time_macros.Goals.{then-piece-lt-TAIL_LENGTH, else-piece-lt-TAIL_LENGTH}

pub returns-clause-follows : goal.returns-clause-follows
returns-clause-follows c = λ stream f.
    let across : List ℕ = take c.fill-filled.result c.fill-filled.new.window in
    let long : 12 ≤ length c.args.piece.now → last_bytes c.if-piece-lt-TAIL_LENGTH.last.now ≡ last_bytes c.args.piece.now = λ h.
    elim c.if-piece-lt-TAIL_LENGTH.branch [
      | then-piece-lt-TAIL_LENGTH w ↦ absurd (omega (arith, w.if-piece-lt-TAIL_LENGTH.true))
      | else-piece-lt-TAIL_LENGTH w ↦ ap (λ r. last_bytes r.now) w.last-is
    ] in
    let short : length c.args.piece.now < 12 → last_bytes c.if-piece-lt-TAIL_LENGTH.last.now ≡ last_bytes across = λ h.
    elim c.if-piece-lt-TAIL_LENGTH.branch [
      | then-piece-lt-TAIL_LENGTH w ↦ ap (λ r. last_bytes r.now) w.last-is
      | else-piece-lt-TAIL_LENGTH w ↦ absurd (omega (arith, w.if-piece-lt-TAIL_LENGTH.false))
    ] in
    Follows-append c.args.self.now c.mark.new.self (seen_by c.self-2.inside) stream c.args.piece.now across
    f
    (c.fill-filled.ensures.across ∙ ap (λ v. v.tail ++ take 12 c.args.piece.now) c.self.view_is)
    (record { time = c.mark.ensures.time; date = c.mark.ensures.date; timestamp = c.mark.ensures.timestamp })
    (subst (λ v. Marks c.mark.new.self v c.args.piece.now) (sym c.self-2.view_is)
    (record { time = c.mark-2.ensures.time; date = c.mark-2.ensures.date; timestamp = c.mark-2.ensures.timestamp }))
    (take c.keep-self-inside.result c.keep-self-inside.new.tail)
    (λ h. c.keep-self-inside.ensures.last ∙ long h)
    (λ h. c.keep-self-inside.ensures.last ∙ short h)
