-- What holds over a snapshot of files holds over all of them.
use Rattle.std.proofs.Common.{◌≡◌, ◌≢◌, ◌||◌, inl, inr, ◌∷◌, [], List, Bool, false, true, cond, None, Option, Some, Ok, Err, Result, refl, sym, ap, ◌∙◌, subst}
use Rattle.std.specs.FinMap.{empty, entries, get, insert}
use Rattle.std.specs.List.{list_all}
use Rattle.std.specs.Option.{option_and_then, option_map}
use Rattle.std.specs.Result.{result_ok}
use Rattle.std.specs.Prelude.{Contains}
use Rattle.std.proofs.lemmas.Option.{none-some}
use Rattle.cck_digest.specs.Digest.{digest_text}
use Rattle.cck_digest.specs.declared.error.FileError.{FileError}
use Rattle.cck_entry.proofs.LawLemmas.{one_text_one_entry}
use Rattle.cck_entry.specs.Entry.{Entry, EntryText}
use Rattle.cck_entry.specs.Find.{found_in}
use Rattle.cck_entry.specs.Results.{KeyResult}
use Rattle.cck_entry.specs.Statuses.{Statuses, known_accepts, matches_with}
use Rattle.cck_files.specs.FileMap.{FileMap, FileNode, file_at, file_in, folder_at, folder_in}
use Rattle.cck_include.specs.Include.{Include}
use Rattle.cck_entry.specs.Matching.{file_matches, matches}
use Rattle.cck_include.specs.Recorded.{recorded}
use Rattle.cck_include.specs.Setting.{Setting}
use Rattle.cck_path.specs.Bytes.{Bytes}
use Rattle.cck_path.specs.Path.{Path, components}
use Rattle.cck_util.specs.MapStore.{IsGot, State, map_store, empty_state}
use Rattle.cck_compiler.specs.PreprocessorKey.{preprocessor_material}
use Rattle.cck_util.specs.Store.{Returned}
use Rattle.cck_util.specs.Key.{material}
use Rattle.cck_hasher.proofs.Elements.{all_pass, each_passes}
use Rattle.c_cache_keys.proofs.HitPlain.{only_result}
use Rattle.cck_hasher.proofs.Includes.{entries-alone, same_ok}
use Rattle.cck_hasher.proofs.Judgements.{folder_or_file}
use Rattle.c_cache_keys.proofs.KeySame.{input_known, key_known, material_known, of_both, used_prints}
use Rattle.c_cache_keys.proofs.Stored.{not_both, not_failed}
use Rattle.cck_hasher.specs.Call.{Call, CallResult, Fault, Keyed}
use Rattle.cck_util.specs.Language.{is_preprocessed_first}
use Rattle.cck_hasher.specs.Keys.{extra_texts, input_file, input_recorded, key_material, plain_key, plain_parts, preprocessor_key_of, printed, request_parts, text_of, uses_cache}
use Rattle.cck_hasher.specs.Step.{Ends, Gives, Opened, OwnPair, Step, asked, faulted, gives, made, matched, no_key, none_recorded, puts, refused, stopped, stops}
use Rattle.cck_hasher.specs.Walk.{Accepted, IsGood, IsNamed, Walk, input_path}
use Rattle.cck_hasher.specs.World.{World, setting}
use Rattle.cck_hasher.specs.declared.call.CacheControl.TheVariants.{ForceRecache}
use Rattle.c_cache_keys.proofs.SnapshotHits.{made_fresh}
use Rattle.c_cache_keys.proofs.Names.{SameNames, all_recorded, is_good, walk_accepts}
use Rattle.c_cache_keys.proofs.Outcomes.{given_hit}
use Rattle.c_cache_keys.proofs.Pairs.{find_one, not_one_pair}
use Rattle.c_cache_keys.specs.SnapshotLaws.{HasOneResult, HitOverAll, RecordingOverAll}
use Rattle.c_cache_keys.specs.Snapshot.{IsPart, IsSnapshot, one_pair, over}
use Rattle.c_cache_keys.specs.Statuses.{AsksWith, matching_with}

-- ---- nodes

file_here : (part whole : FileMap) → IsPart part whole → (p : Path) (n : FileNode) → file_at part p ≡ Ok n → file_at whole p ≡ Ok n
unfolding file_at
file_here part whole is p n file = by (get part.nodes p) refl file
  where
    by : (o : Option FileNode) → get part.nodes p ≡ o → file_in o ≡ Ok n → file_in (get whole.nodes p) ≡ Ok n
    by None at file = absurd cc
    by (Some m) at file = ap file_in (is p m at) ∙ file

folder_here : (part whole : FileMap) → IsPart part whole → (p : Path) → folder_at part p ≡ Ok tt → folder_at whole p ≡ Ok tt
unfolding folder_at
folder_here part whole is p folder = by (get part.nodes p) refl folder
  where
    by : (o : Option FileNode) → get part.nodes p ≡ o → folder_in o ≡ Ok tt → folder_in (get whole.nodes p) ≡ Ok tt
    by None at folder = absurd cc
    by (Some m) at folder = ap folder_in (is p m at) ∙ folder

-- an include that matches still does
match_here : (s : Setting) (part whole : FileMap) → IsPart part whole → (i : Include) → matches s part i ≡ true → matches s whole i ≡ true
unfolding matches
match_here s part whole is i m = by (file_at part (components i.path)) refl m
  where
    by : (r : Result FileNode FileError) → file_at part (components i.path) ≡ r → file_matches s i r ≡ true → file_matches s i (file_at whole (components i.path)) ≡ true
    by (Err e) at m = absurd cc
    by (Ok n) at m = ap (file_matches s i) (file_here part whole is (components i.path) n at) ∙ m

or_more : (a b more : Bool) → (b ≡ true → more ≡ true) → (a || b) ≡ true → (a || more) ≡ true
or_more true b more h e = refl
or_more false b more h e = h e

-- so does one that is accepted or matches
with_here : (statuses : Statuses) (s : Setting) (part whole : FileMap) → IsPart part whole → (i : Include) → matches_with statuses s part i ≡ true → matches_with statuses s whole i ≡ true
unfolding matches_with
with_here statuses s part whole is i m =
    or_more (known_accepts i (get statuses (components i.path))) (matches s part i) (matches s whole i) (match_here s part whole is i) m

-- the one result of an entry is found if it matches
pub found_one : (m : Include → Bool) (r : KeyResult) → list_all m (r.1) ≡ true → found_in m (r ∷ []) ≡ Some r
found_one m r all = ap (λ b. cond b (Some r) None) all

-- an entry of one result has no other
pub one_entry : (e : Entry) (bytes key : Bytes) (list : List Include) → HasOneResult bytes → EntryText e bytes → Contains (entries e) (key, list) → entries e ≡ (key, list) ∷ []
one_entry e bytes key list (own, includes, own_text) text at =
    let is = only_result e own key includes list bytes text own_text at in
    let same : e ≡ insert empty own includes = (one_text_one_entry e (insert empty own includes) bytes bytes text own_text).0 refl in
    ap entries same ∙ entries-alone own includes ∙ ap (λ (r : KeyResult). r ∷ []) (λ i. (sym is.0 i, sym is.1 i))

-- ---- calls

module _ {V : Type 0} (w : World V) (c : Call V) (whole : FileMap) (snapshot : IsSnapshot w c whole) where
  abbrev d : Call V
  d = over whole c

  files : (p : Path) (n : FileNode) → file_at c.files p ≡ Ok n → file_at whole p ≡ Ok n
  files = file_here c.files whole snapshot.part

  ok_here : (n : FileNode) → result_ok (file_at c.files (components (input_path c))) ≡ Some n → result_ok (file_at whole (components (input_path c))) ≡ Some n
  ok_here n is = by (file_at c.files (components (input_path c))) refl is
    where
      by : (r : Result FileNode FileError) → file_at c.files (components (input_path c)) ≡ r → result_ok r ≡ Some n → result_ok (file_at whole (components (input_path c))) ≡ Some n
      by (Err e) at is = absurd (none-some _ is)
      by (Ok m) at is = ap result_ok (files (components (input_path c)) m at) ∙ is

  input_here : input_file w c ≢ None → input_file w d ≢ None
  unfolding input_file
  input_here some none = by (result_ok (file_at c.files (components (input_path c)))) refl
    where
      by : (o : Option FileNode) → result_ok (file_at c.files (components (input_path c))) ≡ o → ⊥
      by None at = some at
      by (Some n) at = none-some _ (sym none ∙ ok_here n at)

  used_same : uses_cache w d.request ≡ uses_cache w c.request
  used_same = refl

  pub opened_here : Opened w c → Opened w d
  opened_here o = record { extra = λ none. o.extra (sym snapshot.extra ∙ none); input = λ used. input_here (o.input used) }

  recorded_here : (r : Bytes) → input_recorded w c ≡ Some r → input_recorded w d ≡ Some r
  unfolding input_recorded input_file
  recorded_here r is =
      let (n, file, digest) = input_known w c r is in
      ap (λ o. option_and_then (recorded (setting w c)) (result_ok o)) (files (components (input_path c)) n file) ∙ digest

  pub key_here : (k : Bytes) → preprocessor_key_of w c ≡ Some k → preprocessor_key_of w d ≡ Some k
  unfolding preprocessor_key_of key_material
  key_here k is =
      let (m, is-m, same) = key_known w c k is in
      let (used, xs, r, is-xs, is-r, made-of) = material_known w c m is-m in
      ap (option_map (digest_text w.hash)) (material used xs r is-xs is-r ∙ ap Some (sym made-of)) ∙ ap Some (sym same)
    where
      material : uses_cache w c.request ≡ true → (xs : List Bytes) (r : Bytes) → extra_texts w c ≡ Some xs → input_recorded w c ≡ Some r
          → key_material w d ≡ Some (preprocessor_material (request_parts w c.request (input_path c)) xs r)
      material used xs r is-xs is-r =
          ap (λ b. cond b (of_both (preprocessor_material (request_parts w c.request (input_path c))) (extra_texts w d) (input_recorded w d)) None) used
          ∙ ap (λ o. of_both (preprocessor_material (request_parts w c.request (input_path c))) o (input_recorded w d)) (snapshot.extra ∙ is-xs)
          ∙ ap (option_map (preprocessor_material (request_parts w c.request (input_path c)) xs)) (recorded_here r is-r)

  -- ---- hits

  module _ (statuses : Statuses) where
    pub list_here : (list : List Include) → list_all (matching_with w statuses c) list ≡ true → list_all (matching_with w statuses d) list ≡ true
    list_here list all =
        all_pass (matching_with w statuses d) list (λ i at. with_here statuses (setting w c) c.files whole snapshot.part i (each_passes (matching_with w statuses c) list i all at))

    gives_here : (F : Type 0) (k other bytes key : Bytes) (from_store : Returned) (mid : State) (o : Option CallResult) → o ≡ Some (Keyed key false) → HasOneResult bytes → IsGot (one_pair k bytes) other from_store mid
        → Gives (matching_with w statuses c) F from_store o → Gives (matching_with w statuses d) F from_store o
    gives_here F k other bytes key from_store mid o same one got given =
        let hit = given_hit (matching_with w statuses c) F from_store key o same given in
        let held = find_one k other bytes hit.bytes (sym (subst (λ v. IsGot (one_pair k bytes) other v mid) hit.is got).1) in
        let all = list_here hit.list hit.all in
        let found = ap (found_in (matching_with w statuses d)) (one_entry hit.e hit.bytes key hit.list (subst HasOneResult (sym held) one) hit.text hit.has)
        ∙ found_one (matching_with w statuses d) (key, hit.list) all in
        subst (λ v. Gives (matching_with w statuses d) F from_store v) (sym same) (matched hit.bytes key hit.e hit.list hit.is hit.text hit.has all (inl found))

    pub hit_here : (F : Type 0) (k bytes key : Bytes) (t : State) → HasOneResult bytes → AsksWith w map_store statuses c F (one_pair k bytes) (Keyed key false) t
        → AsksWith w map_store statuses d F (one_pair k bytes) (Keyed key false) t
    hit_here F k bytes key t one asks = go asks.outcome asks.gives asks.ends
      where
        go : (a : Option CallResult) → Gives (matching_with w statuses c) F asks.returned a → Ends w map_store c F a asks.mid (Keyed key false) t
            → AsksWith w map_store statuses d F (one_pair k bytes) (Keyed key false) t
        go (Some x) given ends = record {
          opened = opened_here asks.opened;
          key = asks.key;
          is_key = key_here asks.key asks.is_key;
          control = asks.control;
          returned = asks.returned;
          mid = asks.mid;
          got = asks.got;
          outcome = Some x;
          gives = gives_here F k asks.key bytes key asks.returned asks.mid (Some x) (ap (λ v. Some v) (sym ends.0)) one asks.got given;
          ends = ends;
        }
        go None given ends = absurd (made_fresh w map_store c F asks.mid t key ends)

  -- ---- recordings

  names : SameNames w c w d
  names = record { config = refl; path = λ name. refl; input = refl }

  good_here : (p : Path) → IsGood w c p → IsGood w d p
  good_here p (inl folder) = inl (folder_here c.files whole snapshot.part p folder)
  good_here p (inr (n, file, old, digest)) = inr (n, files p n file, old, digest)

  -- a file that an accepted text names is in the snapshot
  named_here : (text : Bytes) → Walk w c text Accepted → (p : Path) (n : FileNode) → IsNamed w c text p → file_at whole p ≡ Ok n → file_at c.files p ≡ Ok n
  named_here text (marks, are, m) p n is file =
      by (is_good w c text (marks, are, m) p is)
    where
      by : IsGood w c p → file_at c.files p ≡ Ok n
      by (inl folder) = absurd (folder_or_file w d p n (folder_here c.files whole snapshot.part p folder) file)
      by (inr (o, own, old, digest)) = own ∙ ap Ok (same_ok o n (sym (files p o own) ∙ file))

  module _ (text_same : printed w d ≡ printed w c) where
    plain_here : (key : Bytes) → is_preprocessed_first c.request.arguments.language ≡ true → plain_key w c ≡ Some key → plain_key w d ≡ Some key
    unfolding plain_key text_of
    plain_here key needs is =
        ap (λ o. of_both (λ extra_hashes text. digest_text w.hash (material (plain_parts w c.request extra_hashes text))) o (text_of w d)) snapshot.extra
        ∙ ap (of_both (λ extra_hashes text. digest_text w.hash (material (plain_parts w c.request extra_hashes text))) (extra_texts w c))
        (ap (λ b. cond b (printed w d) (option_map (λ n. n.contents) (input_file w d))) needs ∙ text_same
        ∙ sym (ap (λ b. cond b (printed w c) (option_map (λ n. n.contents) (input_file w c))) needs))
        ∙ is

    own_here : (key k bytes : Bytes) → OwnPair w c key k bytes → OwnPair w d key k bytes
    own_here key k bytes own =
        let (m, is-m, same) = key_known w c k own.is_key in
        let (used, xs, r, is-xs, is-r, made-of) = material_known w c m is-m in
        record {
          is_key = key_here k own.is_key;
          is_plain = plain_here key (used_prints w c.request used) own.is_plain;
          text = own.text;
          is_text = text_same ∙ own.is_text;
          accepted = walk_accepts w c w d names good_here own.text own.accepted;
          includes = own.includes;
          recorded = all_recorded w c w d names own.text files (λ n. refl) (named_here own.text own.accepted) own.includes own.recorded;
          some = own.some;
          is_entry = own.is_entry;
        }

    pub recording_here : (F : Type 0) (k bytes key : Bytes) → c.control ≡ ForceRecache → Step w map_store c F empty_state (Keyed key true) (one_pair k bytes)
        → Step w map_store d F empty_state (Keyed key true) (one_pair k bytes)
    recording_here F k bytes key control (stopped why cause is same) = absurd (not_failed is)
    recording_here F k bytes key control (made o not (stops why cause is same)) = absurd (not_failed is)
    recording_here F k bytes key control (made o not (gives other plain is (puts p q pair stored put))) =
        let own = own_here other p q pair in
        made (opened_here o) (inr control) (gives other own.is_plain is (puts p q own stored put))
    recording_here F k bytes key control (made o not (gives other plain is (no_key none same))) = absurd (not_one_pair k bytes same)
    recording_here F k bytes key control (made o not (gives other plain is (refused text prints walk same))) = absurd (not_one_pair k bytes same)
    recording_here F k bytes key control (made o not (gives other plain is (none_recorded text prints walk none same))) = absurd (not_one_pair k bytes same)
    recording_here F k bytes key control (made o not (gives other plain is (faulted fault same))) = absurd (not_one_pair k bytes same)
    recording_here F k bytes key control (asked o other is default a mid got b given ends) = absurd (not_both (sym default ∙ control))

module _ {V : Type 0} (w : World V) where
  pub hit_over_all : HitOverAll w
  hit_over_all d statuses whole k bytes key t snapshot one asks = hit_here w d.call whole snapshot statuses (Fault d) k bytes key t one asks

  pub recording_over_all : RecordingOverAll w
  recording_over_all d whole k bytes key snapshot control text step = recording_here w d.call whole snapshot text (Fault d) k bytes key control step
