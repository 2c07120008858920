-- the files of a text
use Rattle.std.proofs.Common.{◌≡◌, ◌∙◌, ◌++◌, ℕ, ℤ, inl, inr, int_eq, List, Bool, true, false, Option, Some, None, sym, ap, subst}
use Rattle.std.proofs.lemmas.Bool.{false≢true}
use Rattle.std.proofs.lemmas.Bool.Decides.{Decides-int_eq}
use Rattle.std.proofs.lemmas.List.{map-append}
use Rattle.std.specs.Global.{Vec}
use Rattle.cck_cache_rules.specs.Base.{WordLists, word_lists}
use Rattle.cck_cache_rules.specs.Text.{AreBases}
use Rattle.cck_cache_rules.specs.declared.base.Words.{Words}
use Rattle.cck_cache.proofs.InputLemmas.{calm_kept, calm_stays, without_fault}
use Rattle.cck_cache_files.specs.RealPaths.{AreLinksOf}
use Rattle.cck_cache_files.specs.TextCopies.{IsCopiesVerdict}
use Rattle.cck_cache.specs.Input.{IsCalm, IsInput, NoFault}
use Rattle.cck_cache.specs.Record.{AreFilesOf, AreGathered, AreTested, HasPathTests, HasAskedTests, HasUnnamedTests, IsAdded, IsAsked, IsEntryOf, IsEntryVerdict, IsJudgedByReading, IsKept, IsLocalTime, IsOneDay, IsOutcome, IsOutcomeOver, IsRefusedOver, IsSeen, IsSeenWith, ObjectShowsBase, renames_headers}
use Rattle.cck_cache.specs.Request.{IsRequest, request_words}
use Rattle.cck_cache.specs.declared.environment.Environment.{Environment}
use Rattle.cck_cache.specs.declared.record.Added.{Added}
use Rattle.cck_cache.specs.declared.record.EntryVerdict.{EntryVerdict}
use Rattle.cck_cache.specs.declared.record.EntryVerdict.TheVariants.{Added as HasEntry, Refused as EntryRefused}
use Rattle.cck_cache.specs.declared.record.Gathered.{Gathered}
use Rattle.cck_cache.specs.declared.record.Outcome.{Outcome}
use Rattle.cck_cache.specs.declared.record.Outcome.TheVariants.{Recorded, Refused}
use Rattle.cck_cache.specs.declared.record.Seen.{Seen}
use Rattle.cck_cache.specs.declared.record.Seen.TheVariants.{Files, Refused as NotSeen}
use Rattle.cck_cache_rules.specs.PathTest.{Test, test_of, tests_of}
use Rattle.cck_cache_rules.specs.declared.path_test.PathTest.{PathTest}
use Rattle.cck_cache_rules.specs.declared.object_file.ObjectFile.{ObjectFile}
use Rattle.cck_cache_rules.specs.declared.refusal.Refusal.{Refusal}
use Rattle.cck_cache_files.specs.Snapshot.{ArePut, SnapshotGrows, IsNamedFile}
use Rattle.cck_cache_files.specs.declared.request.Request.{Request}
use Rattle.cck_cache_options.specs.declared.task.Compilation.{Compilation}
use Rattle.cck_files.specs.Calls.{Keeps, Rose}
use Rattle.cck_files.specs.FileMap.{FileMap}
use Rattle.cck_files.specs.FileState.{FileState, IsQuiet, fault_count}
use Rattle.cck_include.proofs.EachText.{has_one_list}
use Rattle.cck_include.specs.Marks.{Mark, Marks}
use Rattle.cck_path.specs.Bytes.{Bytes, lists_of}
use Rattle.cck_path.specs.Timestamp.{Moment}
use Rattle.c_cache_keys.specs.Recordings.{IsRecording}
use Rattle.c_cache_keys.specs.declared.recordings.RecordedEntry.{RecordedEntry}
use Rattle.c_cache_keys.specs.declared.recordings.Recording.{Recording}
use Rattle.c_cache_keys.specs.declared.requests.SnapshotRequest.{SnapshotRequest}
use Rattle.jiff.specs.Types.{Date, DateTime, TimeZone}
use Rattle.jiff.specs.Words.{epoch_day}
use Rattle.sha2.specs.Sha256.{sha256}

-- a snapshot grew by the files of a text
abbrev pub GrewBy : Bytes → Bytes → FileState → FileState → Type 0
GrewBy text cwd before after = (marks : List Mark) → Marks true text marks → SnapshotGrows (IsNamedFile marks cwd) before after

pub files_of : (request : Request) (text cwd : Bytes) (before after : FileState) → IsCalm before → IsInput request before.files → GrewBy text cwd before after → cwd ≡ request.directory.now → AreFilesOf request text after.files
files_of request text cwd before after calm is grew same =
    let list = has_one_list true text in
    let grown = grew list.0 list.1 in
    record {
      input = before.files;
      is_input = is;
      marks = list.0;
      are_marks = list.1;
      put = subst (λ (d : Bytes). ArePut (IsNamedFile list.0 d) before.files after.files) same grown.put;
      kept = grown.kept calm.quiet;
    }

pub calm_grown : (text cwd : Bytes) (before after : FileState) → GrewBy text cwd before after → IsCalm before → IsCalm after
calm_grown text cwd before after grew =
    let list = has_one_list true text in
    calm_stays before after (grew list.0 list.1).calm

-- what was tested over files that a call kept
pub tested_over : (request : Request) (since : Moment) (printed text : Bytes) (files new : FileMap) (made asked others tests : List Test) → new ≡ files → AreFilesOf request text files → IsCopiesVerdict files request text false → HasPathTests request since printed text made
    → HasAskedTests request since printed text files asked → HasUnnamedTests request since printed text files others → tests ≡ (made ++ asked) ++ others → AreTested request since printed text new tests
tested_over request since printed text files new made asked others tests same are no_copies path_tests tested unnamed is =
    subst (λ (m : FileMap). AreTested request since printed text m tests) (sym same) (record {
      are_files = are;
      no_copies = no_copies;
      made = made;
      path_tests = path_tests;
      asked = asked;
      tested = tested;
      others = others;
      unnamed = unnamed;
      tests_are = is;
    })

-- tests of three lists
pub three_lists : (made asked others both all : List PathTest) → both ≡ made ++ asked → all ≡ both ++ others → tests_of all ≡ (tests_of made ++ tests_of asked) ++ tests_of others
three_lists made asked others both all first second =
    ap tests_of second ∙ (map-append test_of both others ∙ ap (λ (ts : List Test). ts ++ tests_of others) (ap tests_of first ∙ map-append test_of made asked))

-- what was seen over the files that were tested
pub seen_over : (request : Request) (since : Moment) (printed text : Bytes) (renames : Bool) (files : FileState) (tests : List Test) (seen : Seen) → renames ≡ renames_headers request → IsCalm files → AreTested request since printed text files.files tests
    → IsSeenWith renames files tests seen → IsSeen request since printed text seen
seen_over request since printed text renames files tests (Files gathered) renamed calm are is = (
  record {
    first = tests;
    are_tested = subst (λ (s : FileState). AreTested request since printed text s.files tests) (sym is.0) are;
    links = is.1.0;
    are_links = subst (λ (r : Bool). AreLinksOf r tests is.1.0) renamed is.1.1;
    tests_are = is.1.2;
  },
  subst IsCalm (sym is.0) calm,
)
seen_over request since printed text renames files tests (NotSeen refusal) renamed calm are is =
    inr (inr (inr (inr (record { files = files.files; tests = tests; are_tested = are; renames = sym renamed ∙ is.1.0; absent = is.1.1; is_named = is.0 }))))

-- a base directory is shown by an object file, so there is one
pub some_shows : (bases : List Bytes) (o : Option ObjectFile) → ObjectShowsBase bases o → (object : ObjectFile) × ObjectShowsBase bases (Some object)
some_shows bases None h = absurd h
some_shows bases (Some object) h = (object, h)

-- two dates are one exactly if their days have one number
pub one_day : (zone : TimeZone) (a b : ℤ) (x y : DateTime) → IsLocalTime zone a x → IsLocalTime zone b y → (d e : Date) → d ≡ x.date → e ≡ y.date → (r : Bool) → r ≡ int_eq (epoch_day d) (epoch_day e) → IsOneDay zone a b r
one_day zone a b x y first second d e is_d is_e true is =
    (x, y, first, second, sym (ap epoch_day is_d) ∙ ((Decides-int_eq (epoch_day d) (epoch_day e)).0 (sym is) ∙ ap epoch_day is_e))
one_day zone a b x y first second d e is_d is_e false is =
    inr (inr (x, y, first, second, λ same. false≢true (is ∙ (Decides-int_eq (epoch_day d) (epoch_day e)).1 (ap epoch_day is_d ∙ (same ∙ sym (ap epoch_day is_e))))))

-- the request over a snapshot, with the base directories of the words and the text
pub asked_of : (environment : Environment) (request : Request) (compilation : Compilation) (text : Bytes) (words : Words) (bases : Vec (Vec ℕ)) (lent : List (Vec ℕ)) (asked : SnapshotRequest) → word_lists words ≡ request_words request
    → AreBases (word_lists words) text (lists_of bases.items) → lent ≡ bases.items → IsRequest environment request compilation.since (lists_of lent) asked → IsAsked environment request compilation text asked
asked_of environment request compilation text words bases lent asked same are is request_is = record {
  bases = lists_of bases.items;
  are_bases = subst (λ (ws : WordLists). AreBases ws text (lists_of bases.items)) same are;
  is_request = subst (λ (vs : List (Vec ℕ)). IsRequest environment request compilation.since (lists_of vs) asked) is request_is;
}

-- the base directories of the words and the text, as they are lent
pub bases_lent : (request : Request) (text : Bytes) (words : Words) (bases : Vec (Vec ℕ)) (lent : List (Vec ℕ)) → word_lists words ≡ request_words request → AreBases (word_lists words) text (lists_of bases.items) → lent ≡ bases.items → AreBases (request_words request) text (lists_of lent)
bases_lent request text words bases lent same are is =
    subst (λ (vs : List (Vec ℕ)). AreBases (request_words request) text (lists_of vs)) (sym is) (subst (λ (ws : WordLists). AreBases ws text (lists_of bases.items)) same are)

-- what keeps a recording over files from having an entry keeps the compilation from being recorded
pub refused_over : (environment : Environment) (request : Request) (compilation : Compilation) (text : Bytes) (doubtful : Bool) (files : FileMap) (refusal : Refusal) (asked : SnapshotRequest) → IsAsked environment request compilation text asked
    → IsEntryVerdict environment asked compilation text files (EntryRefused refusal) → IsRefusedOver environment request compilation text doubtful files refusal
refused_over environment request compilation text doubtful files refusal asked is_asked (inl judged) = inl (record { asked = asked; is_asked = is_asked; judged = judged })
refused_over environment request compilation text doubtful files refusal asked is_asked (inr (named, (key, recorded))) =
    inr (inl (named, inr (record { asked = asked; is_asked = is_asked; key = key; recorded = recorded })))

-- the outcome of what a recording over files adds
pub outcome_over : (environment : Environment) (request : Request) (compilation : Compilation) (text : Bytes) (gathered : Gathered) (asked : SnapshotRequest) (bases : List Bytes) (added : Added) (outcome : Outcome) → IsAsked environment request compilation text asked
    → AreBases (request_words request) text bases → IsAdded environment asked compilation text gathered.files.files added → IsKept request bases added (tests_of gathered.tests.items) outcome → gathered.is_doubtful ≡ false → IsOutcomeOver environment request compilation text gathered outcome
outcome_over environment request compilation text gathered asked bases added (Recorded name) is_asked are is is_name settled = (
  settled,
  record {
    asked = asked;
    is_asked = is_asked;
    judged = is.judged;
    own = added.own;
    is_own = is.is_own;
    key = added.key;
    entry = added.entry;
    recorded = is.recorded;
    is_name = is_name;
  },
)
outcome_over environment request compilation text gathered asked bases added (Refused refusal) is_asked are is shown settled = inr (inr (bases, are, shown))

-- why a compilation is not recorded, by what is found by a recording over the files that were gathered
pub refused_entry : (environment : Environment) (request : Request) (compilation : Compilation) (text : Bytes) (gathered : Gathered) (words : Words) (bases : Vec (Vec ℕ)) (lent : List (Vec ℕ)) (verdict : EntryVerdict) (refusal : Refusal) → word_lists words ≡ request_words request
    → AreBases (word_lists words) text (lists_of bases.items) → lent ≡ bases.items → verdict ≡ EntryRefused refusal → (IsCalm gathered.files → IsEntryOf environment request compilation (lists_of lent) text gathered.files.files verdict) → IsCalm gathered.files
    → IsRefusedOver environment request compilation text gathered.is_doubtful gathered.files.files refusal
refused_entry environment request compilation text gathered words bases lent verdict refusal same are is found entry calm =
    let refused = subst (λ (v : EntryVerdict). IsEntryOf environment request compilation (lists_of lent) text gathered.files.files v) found (entry calm) in
    refused_over environment request compilation text gathered.is_doubtful gathered.files.files refusal refused.asked (asked_of environment request compilation text words bases lent refused.asked same are is refused.is_request) refused.found

-- the outcome of what is added by a recording over the files that were gathered
pub added_outcome : (environment : Environment) (request : Request) (compilation : Compilation) (text : Bytes) (gathered : Gathered) (words : Words) (bases : Vec (Vec ℕ)) (lent again : List (Vec ℕ)) (verdict : EntryVerdict) (added : Added) (outcome : Outcome)
    → word_lists words ≡ request_words request → AreBases (word_lists words) text (lists_of bases.items) → lent ≡ bases.items → again ≡ bases.items → verdict ≡ HasEntry added
    → (IsCalm gathered.files → IsEntryOf environment request compilation (lists_of lent) text gathered.files.files verdict) → gathered.is_doubtful ≡ false → IsKept request (lists_of again) added (tests_of gathered.tests.items) outcome → IsCalm gathered.files → IsOutcomeOver environment request compilation text gathered outcome
added_outcome environment request compilation text gathered words bases lent again verdict added outcome same are is once_more found entry settled kept calm =
    let of_added = subst (λ (v : EntryVerdict). IsEntryOf environment request compilation (lists_of lent) text gathered.files.files v) found (entry calm) in
    outcome_over environment request compilation text gathered of_added.asked (lists_of again) added outcome (asked_of environment request compilation text words bases lent of_added.asked same are is of_added.is_request) (bases_lent request text words bases again same are once_more)
    of_added.found kept settled

-- a recording over files after calls that kept them
pub recorded_over : (asked : SnapshotRequest) (text : Bytes) (before mid after : FileState) (recording : Recording) (put : Option RecordedEntry) → IsCalm before → Keeps (λ (s : FileState). s.files) fault_count IsQuiet before mid
    → Keeps (λ (s : FileState). s.files) fault_count IsQuiet mid after → recording.put ≡ put → IsRecording sha256 mid.files asked (Rose (fault_count mid) (fault_count after)) text recording
    → IsRecording sha256 before.files asked NoFault text (record { key = recording.key; put = put })
recorded_over asked text before mid after recording put calm first second is recorded =
    subst (λ (p : Option RecordedEntry). IsRecording sha256 before.files asked NoFault text (record { key = recording.key; put = p })) is
    (subst (λ (m : FileMap). IsRecording sha256 m asked NoFault text recording) first.same_map
    (without_fault (λ (a b : ℕ). IsRecording sha256 mid.files asked (Rose a b) text recording) mid after second (calm_kept before mid first calm) recorded))

-- an outcome over the files that were gathered is the outcome
pub outcome_all : (environment : Environment) (request : Request) (compilation : Compilation) (printed text : Bytes) (gathered : Gathered) (outcome : Outcome) → IsJudgedByReading request text compilation.made None
    → AreGathered request compilation.since printed text gathered.files.files (tests_of gathered.tests.items) → IsOutcomeOver environment request compilation text gathered outcome → IsOutcome environment request compilation text outcome
outcome_all environment request compilation printed text gathered (Recorded name) alone are is = (alone, (printed, gathered.files.files, tests_of gathered.tests.items, are, is.1))
outcome_all environment request compilation printed text gathered (Refused refusal) alone are is =
    inr (inr (printed, gathered.is_doubtful, gathered.files.files, tests_of gathered.tests.items, are, is))
