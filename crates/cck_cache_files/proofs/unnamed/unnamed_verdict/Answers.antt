use Rattle.std.proofs.Common.{inl, inr, refl, subst}
use Rattle.std.proofs.lemmas.Result.{IfOk-weaker}
use Rattle.cck_cache_files.proofs.StateLemmas.{KeepsStates-trans}
use Rattle.cck_cache_rules.specs.PathTest.{Absent, Directory, File}
use Rattle.cck_cache_files.specs.Unnamed.{IsPresence, IsThere, IsUnnamedVerdict}
use Rattle.cck_cache_files.specs.declared.unnamed.Presence.{Presence}
use Rattle.cck_cache_files.specs.declared.unnamed.UnnamedVerdict.{UnnamedVerdict}
use Rattle.cck_cache_files.proofs.unnamed.unnamed_verdict.Goals as goal

pub returns-in-There-clause-verdict : goal.returns-in-There-clause-verdict
returns-in-There-clause-verdict g c =
    let path = c.args.path.now in
    let files = c.args.files.now.files in
    let middle = c.presence_at.new.states in
    let states = c.verdict_there.new.states in
    let there : IsThere middle path = subst (λ (p : Presence). IsPresence middle path p) c.in-There.is c.in_ok-presence.ensures.presence in
    IfOk-weaker c.verdict_there.result (λ (verdict : UnnamedVerdict). IsThere middle path → IsUnnamedVerdict states files path verdict) (IsUnnamedVerdict states files path)
    (λ verdict is. is there) c.verdict_there.ensures.verdict

pub returns-in-There-clause-kept : goal.returns-in-There-clause-kept
returns-in-There-clause-kept g c = KeepsStates-trans c.args.states.now c.presence_at.new.states c.verdict_there.new.states c.presence_at.ensures.kept c.verdict_there.ensures.kept

pub returns-in-Absent-clause-verdict : goal.returns-in-Absent-clause-verdict
returns-in-Absent-clause-verdict g c =
    let path = c.args.path.now in
    let states = c.presence_at.new.states in
    inl (elim c.in-Absent.is [
      | inl a ↦ (Absent a.0.now, subst (λ (p : Presence). IsPresence states path p) a.1 c.in_ok-presence.ensures.presence)
      | inr other ↦ (elim other [
        | inl b ↦ (File b.0.now, subst (λ (p : Presence). IsPresence states path p) b.1 c.in_ok-presence.ensures.presence)
        | inr d ↦ (Directory path, (refl, subst (λ (p : Presence). IsPresence states path p) d c.in_ok-presence.ensures.presence))
      ])
    ])
