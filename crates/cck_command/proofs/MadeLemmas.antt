-- Calls of a script, made line by line.
use Rattle.std.proofs.Common.{◌≡◌, ◌+◌, ◌<◌, ◌^◌, ℤ, List, [], ◌∷◌, ◌++◌, append_assoc, refl, ap, subst, sym, ◌∙◌, arith, ℕ, zero, suc, take, drop, length}
use Rattle.std.specs.List.{AllZip, flat_map}
use Rattle.std.proofs.Math.Seq.{take-nil}
use Rattle.std.proofs.lemmas.Grind.{flat_map-append}
use Rattle.std.proofs.lemmas.List.{append-nil, length_push}
use Rattle.cck_path.specs.Bytes.{Bytes}
use Rattle.cck_util.specs.MapLemmas.{map_store_laws}
use Rattle.cck_util.specs.MapStore.{State, map_store}
use Rattle.jiff.specs.Types.{Offset, TimeZone}
use Rattle.jiff.specs.Words.{fixed_zone}
use Rattle.cck_files.specs.FileState.{FileState, IsQuiet, fault_count}
use Rattle.cck_script.specs.Calls.{script_calls}
use Rattle.cck_script.specs.Calls as script
use Rattle.cck_script.specs.Lines.{Line}
use Rattle.cck_command.specs.Script.{basedirs_of, zone_of}
use Rattle.cck_script.specs.Surroundings.{AreAfter, ArePlacesOf}
use Rattle.cck_script.specs.declared.surroundings.Surroundings.{Surroundings}
use Rattle.cck_include.specs.Config.{activated}
use Rattle.cck_include.specs.declared.config.PreprocessorCacheModeConfig.{PreprocessorCacheModeConfig}
use Rattle.c_cache_keys.proofs.Runs.{run_joined, transparent}
use Rattle.c_cache_keys.proofs.Stored.{run_returns_stored}
use Rattle.cck_hasher.specs.Call.{CallResult}
use Rattle.c_cache_keys.specs.Calls.{IsAfter, done_all, done_in}
use Rattle.cck_hasher.specs.Step.{IsEmpty, Run}
use Rattle.cck_hasher.specs.World.{HasSize, World, world_of}
use Rattle.c_cache_keys.specs.declared.c_compiler.CCompiler.{CCompiler}
use Rattle.c_cache_keys.specs.declared.calls.Call.{Call}
use Rattle.cck_command.proofs.FollowedLemmas.{zip_joined}
use Rattle.cck_command.specs.MiniCompiler.{mini_compiler}
use Rattle.cck_command.specs.Made.{AreMade, IsReady, IsRunCompiler}
use Rattle.cck_command.specs.Run.{IsRequested, Ran, result_line, armed_by, run_world}
use Rattle.cck_command.specs.declared.mini_compiler.MiniCompiler.{MiniCompiler}

-- ---- one call

abbrev pub IsCallAfter : Call MiniCompiler FileState → Call MiniCompiler FileState → Type 0
IsCallAfter = IsAfter (λ (s : FileState). s.files) fault_count IsQuiet

calm : (c : CCompiler MiniCompiler) (asked : script.ScriptCallValue) (old new : Call MiniCompiler FileState) → IsReady c asked old → IsCallAfter old new → (fault_count old.files ≡ 0) × (fault_count new.files ≡ 0)
calm c asked old new ready after =
    let before : fault_count old.files ≡ 0 = rw ready.no_fault refl in
    let room : fault_count old.files + 1 < 2 ^ 64 = rw before (omega arith) in
    (before, after.keeps.stays_calm (ready.unarmed, room) ∙ before)

pub one_done : (hash : Bytes → Bytes) (zone : ℤ) (c : CCompiler MiniCompiler) (asked : script.ScriptCallValue) (old new : Call MiniCompiler FileState) → IsRunCompiler hash zone c → IsReady c asked old
    → IsCallAfter old new → IsRequested hash zone asked (done_in (λ (m : MiniCompiler). m.zone_offset) (λ s. s.files) fault_count old new.files)
one_done hash zone c asked old new of ready after = record {
  compiler = ready.zone_is ∙ of.zone_is;
  executable = ready.executable ∙ of.executable;
  executable_digest = ready.executable_digest ∙ of.executable_digest;
  arguments = ready.arguments;
  cwd = ready.cwd;
  env_vars = ready.env_vars;
  files = ready.files;
  moment = ready.moment;
  control = ready.control;
  no_fault = calm c asked old new ready after;
}

-- a call that was ready is the one that was asked for
pub call_made : (hash : Bytes → Bytes) (zone : ℤ) (plain : TimeZone) (config : PreprocessorCacheModeConfig) (basedirs known : List Bytes) (c : CCompiler MiniCompiler) (asked : script.ScriptCallValue)
    (old : Call MiniCompiler FileState) (olds news : List (Call MiniCompiler FileState)) (start end : State) (call_results : List CallResult) (before after : Bytes)
    → config ≡ activated → known ≡ basedirs → IsRunCompiler hash zone c → IsReady c asked old → olds ≡ old ∷ [] → AllZip IsCallAfter olds news
    → Run (world_of hash mini_compiler plain config known) map_store start (done_all (λ (m : MiniCompiler). m.zone_offset) (λ s. s.files) fault_count olds news) call_results end
    → after ≡ before ++ flat_map result_line call_results → AreMade hash zone (world_of hash mini_compiler plain activated basedirs) (asked ∷ []) start end before after
call_made hash zone plain config basedirs known c asked old olds [] start end call_results before after p q of ready one is run e = let none = rw one at is in absurd none
call_made hash zone plain config basedirs known c asked old olds (new ∷ news) start end call_results before after p q of ready one is run e =
    let all = rw one at is in
    record {
      done = done_in (λ (m : MiniCompiler). m.zone_offset) (λ s. s.files) fault_count old new.files ∷ [];
      call_results = call_results;
      calls = (one_done hash zone c asked old new of ready all.0, tt);
      run = rw (p, q, one) at run;
      printed_are = e;
    }

last_taken : {A : Type 0} (n : ℕ) (new made : A) (rest : List A) → take n (new ∷ []) ≡ rest ++ made ∷ [] → new ≡ made
last_taken zero new made [] e = absurd cc
last_taken zero new made (r ∷ rest) e = absurd cc
last_taken (suc n) new made [] e = cc
last_taken (suc n) new made (r ∷ rest) e = let more : take n [] ≡ rest ++ made ∷ [] = cc in let none : 0 ≡ length rest + 1 = ap length (sym (take-nil n) ∙ more) ∙ length_push rest made in absurd (omega (arith, none))

-- the one call of a list, once it is made and taken from its end
pub only_call : (old made : Call MiniCompiler FileState) (olds news items rest : List (Call MiniCompiler FileState)) (n : ℕ) → olds ≡ old ∷ [] → items ≡ old ∷ [] → AllZip IsCallAfter olds news
    → take n (news ++ drop (length news) items) ≡ rest ++ made ∷ [] → IsCallAfter old made
only_call old made olds [] items rest n one held is e = let none = rw one at is in absurd none
only_call old made olds (new ∷ m ∷ ns) items rest n one held is e = let none = rw one at is in absurd (none.1)
only_call old made olds (new ∷ []) items rest n one held is e =
    let taken = rw held at e in
    let all = rw one at is in
    subst (IsCallAfter old) (last_taken n new made rest taken) all.0

pub compiler_in : (hash : Bytes → Bytes) (zone known : ℤ) (c : CCompiler MiniCompiler) → known ≡ zone → IsRunCompiler hash known c → IsRunCompiler hash zone c
compiler_in hash zone known c e of = subst (λ z. IsRunCompiler hash z c) e of

-- a call changes neither the files nor the variables
pub after_call : (c : CCompiler MiniCompiler) (asked : script.ScriptCallValue) (old new : Call MiniCompiler FileState) (s : Surroundings) → IsReady c asked old
    → ArePlacesOf old.vars.items s.places → IsCallAfter old new → AreAfter asked.earlier (record s { files = new.files; variables = new.vars })
after_call c asked old new s ready named after =
    let none = calm c asked old new ready after in
    let before : fault_count old.files ≡ 0 = none.0 in
    let room : fault_count old.files + 1 < 2 ^ 64 = rw before (omega arith) in
    let faults : fault_count new.files ≡ 0 = none.1 in
    let vars = ap (λ (made : Call MiniCompiler FileState). made.vars) after.same in
    record {
      files = rw after.keeps.same_map ready.files;
      no_faults = omega (arith, faults);
      unarmed = (after.keeps.stays_quiet (ready.unarmed, room)).0;
      variables_are = rw vars ready.env_vars;
      places_are = rw vars named;
    }

-- ---- calls one after another

module _ (hash : Bytes → Bytes) (zone : ℤ) (w : World ℤ) where
  pub none_made : (s : State) (printed : Bytes) → AreMade hash zone w [] s s printed printed
  none_made s printed = record { done = []; call_results = []; calls = tt; run = refl; printed_are = sym (append-nil printed) }

  pub made_joined : (xs ys : List script.ScriptCallValue) (s m t : State) (a b c : Bytes) → AreMade hash zone w xs s m a b → AreMade hash zone w ys m t b c → AreMade hash zone w (xs ++ ys) s t a c
  made_joined xs ys s m t a b c front back = record {
    done = front.done ++ back.done;
    call_results = front.call_results ++ back.call_results;
    calls = zip_joined (IsRequested hash zone) xs ys front.done back.done front.calls back.calls;
    run = run_joined w map_store s m t front.done back.done front.call_results back.call_results front.run back.run;
    printed_are = back.printed_are ∙ ap (λ l. l ++ flat_map result_line back.call_results) front.printed_are
        ∙ append_assoc a (flat_map result_line front.call_results) (flat_map result_line back.call_results)
        ∙ ap (λ l. a ++ l) (sym (flat_map-append result_line front.call_results back.call_results));
  }

-- the store of a script is empty at first
none_held : (hash : Bytes → Bytes) (zone : Offset) (lines : List Line) → IsEmpty (run_world hash zone lines) map_store (armed_by lines)
none_held hash zone lines k bytes held = cc

-- what is printed of a run, where no line is left
pub ran : (hash : Bytes → Bytes) (lines : List Line) (printed : Bytes) (zone : Offset) (plain : TimeZone) (basedirs : List Bytes) (end : State)
    → HasSize hash → zone.seconds ≡ zone_of lines → plain ≡ fixed_zone zone → basedirs ≡ basedirs_of lines
    → AreMade hash (zone_of lines) (world_of hash mini_compiler plain activated basedirs) (script_calls lines) (armed_by lines) end [] printed → Ran hash lines printed
ran hash lines printed zone plain basedirs end size is p q made =
    let world = run_world hash zone lines in
    let run : Run world map_store (armed_by lines) made.done made.call_results end = rw (p, q) at made.run in
    record {
      zone = zone;
      zone_is = is;
      done = made.done;
      call_results = made.call_results;
      end = end;
      calls = made.calls;
      run = run;
      headline = transparent world map_store size map_store_laws (armed_by lines) end made.done made.call_results (none_held hash zone lines) run;
      returned = run_returns_stored world map_store (armed_by lines) end made.done made.call_results run;
      printed_are = made.printed_are;
    }
