-- calls of a script, noted one after the other
use Rattle.std.proofs.Common.{◌≡◌, ℕ, ◌+◌, ◌<◌, ◌^◌, ℤ, List, [], ◌∷◌, ◌++◌, append_assoc, append-nil, refl, ap, sym, subst, ◌∙◌, arith, length, length-append}
use Rattle.std.specs.List.{AllZip, enumerate_from, flat_map}
use Rattle.std.proofs.lemmas.Slice.Zip.{AllZip-long}
use Rattle.cck_path.specs.Bytes.{Bytes}
use Rattle.cck_files.specs.FileState.{FileState, IsQuiet, fault_count}
use Rattle.cck_include.specs.Setting.{setting_in}
use Rattle.cck_util.specs.MapStore.{State, map_store}
use Rattle.cck_util.specs.Store.{counted}
use Rattle.cck_script.specs.Calls.{ScriptCallValue}
use Rattle.cck_include.specs.Config.{activated}
use Rattle.cck_include.specs.declared.config.PreprocessorCacheModeConfig.{PreprocessorCacheModeConfig}
use Rattle.jiff.specs.Types.{TimeZone}
use Rattle.c_cache_keys.proofs.Runs.{run_joined}
use Rattle.cck_hasher.specs.Call.{CallResult, Done}
use Rattle.c_cache_keys.specs.Calls.{done_all, done_in}
use Rattle.cck_hasher.specs.Step.{Run}
use Rattle.cck_hasher.specs.World.{World, world_of}
use Rattle.c_cache_keys.specs.declared.c_compiler.CCompiler.{CCompiler}
use Rattle.c_cache_keys.specs.declared.calls.Call.{Call}
use Rattle.cck_command.proofs.FollowedLemmas.{zip_joined}
use Rattle.cck_command.proofs.MadeLemmas.{IsCallAfter, one_done}
use Rattle.cck_command.specs.Made.{IsReady, IsRunCompiler}
use Rattle.cck_command.specs.MiniCompiler.{mini_compiler}
use Rattle.cck_command.specs.Run.{IsRequested, result_line}
use Rattle.cck_command.specs.declared.mini_compiler.MiniCompiler.{MiniCompiler}
use Rattle.cck_explain.specs.Judged.{IsCalm}
use Rattle.cck_explain.specs.ScriptListing.{AreNoted, IsNoteOf, noted}
use Rattle.cck_explain.specs.Note.{IsNote}

-- one more note, and the line of its result
noted-push : (notes : List Bytes) (call_results : List CallResult) (note : Bytes) (call_result : CallResult) → length notes ≡ length call_results
    → noted (notes ++ note ∷ []) (call_results ++ call_result ∷ []) ≡ noted notes call_results ++ (note ++ result_line call_result)
noted-push [] [] note call_result e = append-nil (note ++ result_line call_result)
noted-push [] (a ∷ call_results) note call_result e = absurd (omega arith)
noted-push (n ∷ notes) [] note call_result e = absurd (omega arith)
noted-push (n ∷ notes) (a ∷ call_results) note call_result e =
    ap (λ l. n ++ result_line a ++ l) (noted-push notes call_results note call_result (omega arith))
    ∙ sym (append_assoc (n ++ result_line a) (noted notes call_results) (note ++ result_line call_result))

-- one more of what is numbered
enumerate_from-push : {X : Type 0} (n : ℕ) (xs : List X) (x : X) → enumerate_from n (xs ++ x ∷ []) ≡ enumerate_from n xs ++ (n + length xs, x) ∷ []
enumerate_from-push n [] x = ap (λ (k : ℕ). (k, x) ∷ []) (omega arith)
enumerate_from-push n (y ∷ xs) x =
    let here : n + 1 + length xs ≡ n + length (y ∷ xs) = omega arith in
    ap (λ l. (n, y) ∷ l) (enumerate_from-push (n + 1) xs x ∙ ap (λ (k : ℕ). enumerate_from (n + 1) xs ++ (k, x) ∷ []) here)

module _ (hash : Bytes → Bytes) (zone : ℤ) (w : World ℤ) where
  -- one call has one result
  one_result : (s t : State) (d : Done ℤ) (call_results : List CallResult) → Run w map_store s (d ∷ []) call_results t → (call_result : CallResult) × (call_results ≡ call_result ∷ [])
  one_result s t d [] run = absurd run
  one_result s t d (a ∷ []) run = (a, refl)
  one_result s t d (a ∷ b ∷ call_results) run = absurd run.2

  pub none_noted : (s : State) → AreNoted hash zone w [] s s []
  none_noted s = record { done = []; call_results = []; calls = tt; run = refl; notes = []; count = refl; each = tt; listed = refl }

  -- one more call, whose note and result line were appended
  pub one_noted : (front : List ScriptCallValue) (asked : ScriptCallValue) (s m t : State) (d : Done ℤ) (call_results : List CallResult) (listing note after : Bytes)
      → AreNoted hash zone w front s m listing → IsRequested hash zone asked d → Run w map_store m (d ∷ []) call_results t → IsNoteOf w (length front + 1, d) note
      → after ≡ (listing ++ note) ++ flat_map result_line call_results → AreNoted hash zone w (front ++ asked ∷ []) s t after
  one_noted front asked s m t d call_results listing note after before requested run is_note is =
      let one = one_result m t d call_results run in
      let line : flat_map result_line call_results ≡ result_line (one.0) = ap (flat_map result_line) one.1 ∙ append-nil (result_line (one.0)) in
      let number : length front + 1 ≡ 1 + length before.done = omega (arith, AllZip-long (IsRequested hash zone) front before.done before.calls) in
      record {
        done = before.done ++ d ∷ [];
        call_results = before.call_results ++ call_results;
        calls = zip_joined (IsRequested hash zone) front (asked ∷ []) before.done (d ∷ []) before.calls (requested, tt);
        run = run_joined w map_store s m t before.done (d ∷ []) before.call_results call_results before.run run;
        notes = before.notes ++ note ∷ [];
        count = length-append before.notes (note ∷ []) ∙ ap (λ n. n + 1) before.count ∙ sym (ap (λ l. length (before.call_results ++ l)) one.1 ∙ length-append before.call_results (one.0 ∷ []));
        each = rw (enumerate_from-push 1 before.done d) (zip_joined (IsNoteOf w) (enumerate_from 1 before.done) ((1 + length before.done, d) ∷ []) before.notes (note ∷ []) before.each
            (subst (λ (n : ℕ). IsNoteOf w (n, d) note) number is_note, tt));
        listed = is ∙ ap (λ l. (listing ++ note) ++ l) line ∙ append_assoc listing note (result_line (one.0)) ∙ ap (λ l. l ++ (note ++ result_line (one.0))) before.listed
            ∙ sym (ap (λ l. noted (before.notes ++ note ∷ []) (before.call_results ++ l)) one.1 ∙ noted-push before.notes before.call_results note (one.0) before.count);
      }

-- a call that was ready, once it is made: it is the one that was asked for
pub made_call : (hash : Bytes → Bytes) (zone : ℤ) (plain : TimeZone) (config : PreprocessorCacheModeConfig) (basedirs known : List Bytes) (c : CCompiler MiniCompiler) (asked : ScriptCallValue)
    (old : Call MiniCompiler FileState) (olds news : List (Call MiniCompiler FileState)) (start end : State) (call_results : List CallResult)
    → config ≡ activated → known ≡ basedirs → IsRunCompiler hash zone c → IsReady c asked old → olds ≡ old ∷ [] → AllZip IsCallAfter olds news
    → Run (world_of hash mini_compiler plain config known) map_store start (done_all (λ (m : MiniCompiler). m.zone_offset) (λ s. s.files) fault_count olds news) call_results end
    → (new : FileState) × IsRequested hash zone asked (done_in (λ (m : MiniCompiler). m.zone_offset) (λ s. s.files) fault_count old new)
    × Run (world_of hash mini_compiler plain activated basedirs) map_store start (done_in (λ (m : MiniCompiler). m.zone_offset) (λ s. s.files) fault_count old new ∷ []) call_results end
made_call hash zone plain config basedirs known c asked old olds [] start end call_results p q of ready one is run = let none = rw one at is in absurd none
made_call hash zone plain config basedirs known c asked old olds (new ∷ news) start end call_results p q of ready one is run =
    let all = rw one at is in
    (new.files, one_done hash zone c asked old new of ready all.0, rw (p, q, one) at run)

-- a call that was ready, once it is made: no call on its files fails
pub calm_call : (c : CCompiler MiniCompiler) (asked : ScriptCallValue) (old made : Call MiniCompiler FileState) → IsReady c asked old → IsCallAfter old made → IsCalm fault_count IsQuiet made.files
calm_call c asked old made ready after =
    let before : fault_count old.files ≡ 0 = rw ready.no_fault refl in
    let room : fault_count old.files + 1 < 2 ^ 64 = rw before (omega arith) in
    let quiet = after.keeps.stays_quiet (ready.unarmed, room) in
    record { quiet = quiet; room = quiet.1 }

-- its note is judged by what the call is
pub note_made : (hash : Bytes → Bytes) (plain : TimeZone) (basedirs : List Bytes) (old made : Call MiniCompiler FileState) (new : FileState) (number : ℕ) (note : Bytes) → IsCallAfter old made
    → IsNote (setting_in hash activated made.moment plain made.vars.items) made.files.files (counted number) made.hasher.parsed_args.input.items note
    → IsNoteOf (world_of hash mini_compiler plain activated basedirs) (number, done_in (λ (m : MiniCompiler). m.zone_offset) (λ s. s.files) fault_count old new) note
note_made hash plain basedirs old made new number note after is =
    let moment = ap (λ (c : Call MiniCompiler FileState). c.moment) after.same in
    let vars = ap (λ (c : Call MiniCompiler FileState). c.vars) after.same in
    let hasher = ap (λ (c : Call MiniCompiler FileState). c.hasher) after.same in
    rw (moment, vars, hasher, after.keeps.same_map) at is

-- the same notes, of a world by the lines of a script
pub noted_in : (hash : Bytes → Bytes) (plain zone : TimeZone) (basedirs known : List Bytes) (done : List (Done ℤ)) (notes : List Bytes) → plain ≡ zone → basedirs ≡ known
    → AllZip (IsNoteOf (world_of hash mini_compiler plain activated basedirs)) (enumerate_from 1 done) notes → AllZip (IsNoteOf (world_of hash mini_compiler zone activated known)) (enumerate_from 1 done) notes
noted_in hash plain zone basedirs known done notes p q all =
    subst (λ (z : TimeZone). AllZip (IsNoteOf (world_of hash mini_compiler z activated known)) (enumerate_from 1 done) notes) p
    (subst (λ (b : List Bytes). AllZip (IsNoteOf (world_of hash mini_compiler plain activated b)) (enumerate_from 1 done) notes) q all)

-- the calls so far are noted, and those that are left are ready
pub record SoFar (hash : Bytes → Bytes) (zone : ℤ) (w : World ℤ) (c : CCompiler MiniCompiler) (all : List ScriptCallValue) (start now : State) (number : ℕ) (listing : Bytes) (left : List (Call MiniCompiler FileState)) : Type 0 where
  pub front : List ScriptCallValue
  pub number_is : number ≡ counted (length front)
  pub back : List ScriptCallValue
  pub split : all ≡ front ++ back
  pub ready : AllZip (IsReady c) back left
  pub noted : AreNoted hash zone w front start now listing

module _ (hash : Bytes → Bytes) (zone : ℤ) (w : World ℤ) (c : CCompiler MiniCompiler) (all : List ScriptCallValue) (start : State) where
  pub one_more : (now then : State) (number next : ℕ) (listing after : Bytes) (left rest : List (Call MiniCompiler FileState)) (call : Call MiniCompiler FileState)
      → SoFar hash zone w c all start now number listing left → left ≡ call ∷ rest → next ≡ counted (number + 1)
      → ((front : List ScriptCallValue) (asked : ScriptCallValue) → IsReady c asked call → next ≡ counted (length front + 1) → AreNoted hash zone w front start now listing
      → AreNoted hash zone w (front ++ asked ∷ []) start then after)
      → SoFar hash zone w c all start then next after rest
  one_more now then number next listing after left rest call so is follows step = go so.back so.split (subst (AllZip (IsReady c) so.back) is so.ready)
    where
      counts : next ≡ counted (length so.front + 1)
      counts = omega (arith, follows, so.number_is)

      go : (back : List ScriptCallValue) → all ≡ so.front ++ back → AllZip (IsReady c) back (call ∷ rest) → SoFar hash zone w c all start then next after rest
      go [] split ready = absurd ready
      go (asked ∷ back) split ready = record {
        front = so.front ++ asked ∷ [];
        number_is = counts ∙ ap counted (sym (length-append so.front (asked ∷ [])));
        back = back;
        split = split ∙ sym (append_assoc so.front (asked ∷ []) back);
        ready = ready.1;
        noted = step so.front asked ready.0 counts so.noted;
      }

  pub all_noted : (now : State) (number : ℕ) (listing : Bytes) (left : List (Call MiniCompiler FileState)) → length left ≡ 0 → SoFar hash zone w c all start now number listing left
      → AreNoted hash zone w all start now listing
  all_noted now number listing [] none so = go so.back so.split so.ready
    where
      go : (back : List ScriptCallValue) → all ≡ so.front ++ back → AllZip (IsReady c) back [] → AreNoted hash zone w all start now listing
      go [] split ready = rw (split ∙ append-nil so.front) so.noted
      go (asked ∷ back) split ready = absurd ready
  all_noted now number listing (call ∷ left) none so = absurd (omega arith)
