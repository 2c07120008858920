-- The result of a walk, as the verdict on the text of a call and what is recorded.
use Rattle.std.proofs.Common.{◌≡◌, inl, inr, ℕ, List, [], ◌∷◌, length, map, true, Option, None, Some, Ok, Err, Result, String, option_map, refl, sym, ap, subst, ◌∙◌}
use Rattle.std.specs.FinMap.{empty, entries, entries_sorted, get, get-empty}
use Rattle.std.specs.Global.{Vec}
use Rattle.std.specs.Option.{option_and}
use Rattle.std.specs.Prelude.{Contains, string_bytes}
use Rattle.std.specs.declared.alloc.Global.{Global}
use Rattle.std.proofs.lemmas.Option.{none-some}
use Rattle.cck_compiler.specs.Compiler.{Compiler}
use Rattle.cck_digest.specs.declared.error.FileError.{FileError}
use Rattle.cck_files.specs.FileMap.{FileMap, FileNode, file_at}
use Rattle.cck_include.specs.Gathered.{Digested, all_of, gathered, gathered_include}
use Rattle.cck_include.specs.Include.{Include}
use Rattle.cck_digest.specs.declared.key_error.KeyError.{KeyError}
use Rattle.cck_digest.specs.declared.key_error.KeyError.TheVariants as error
use Rattle.cck_include.proofs.OneList.{one_list}
use Rattle.cck_include.specs.Marks.{Mark, Marks, Name}
use Rattle.cck_path.specs.Bytes.{Bytes, variables_of}
use Rattle.cck_path.specs.Path.{Path, components, path_cmp}
use Rattle.cck_path.specs.Text.{path_text}
use Rattle.cck_path.specs.Timestamp.{Moment}
use Rattle.cck_hasher.specs.Decided.{Accepts, Context, Digests, Errs, IsRefused, context_in, decided}
use Rattle.cck_hasher.specs.Decided as decision
use Rattle.cck_hasher.specs.Digests.{digest_pair, written}
use Rattle.cck_hasher.specs.WalkResult.{IsWalk}
use Rattle.cck_hasher.specs.declared.walk.Walk as walk
use Rattle.cck_hasher.specs.declared.walk.Walk.TheVariants as verdicts
use Rattle.cck_hasher.proofs.Decisions.{AreGathered, IsMeant, gathers, none_regular, one_decision, claim}
use Rattle.cck_hasher.proofs.Elements.{first_in, later_in}
use Rattle.cck_hasher.proofs.Includes.{components-meant, include_here, kept_changed, kept_modified}
use Rattle.cck_hasher.proofs.PathEntries.{entry_of, made_from, made_in_order, made_of, of_entry}
use Rattle.cck_hasher.proofs.Judgements.{IsRegular}
use Rattle.jiff.specs.Words.{plain_zone}
use Rattle.cck_hasher.specs.Call.{Call}
use Rattle.cck_hasher.specs.Conditions.{call_under, given_of, world_under}
use Rattle.cck_hasher.specs.Included.{digested_of}
use Rattle.cck_hasher.specs.Making.{IsPreprocessed}
use Rattle.cck_hasher.specs.Walk.{AreRecorded, MarksDecide, IsNamed, Verdict, Walk, input_path}
use Rattle.cck_hasher.specs.Walked.{IsWalked, VerdictIsDecided, digested_as, digested_by, verdict_of, walk_context}
use Rattle.cck_hasher.specs.World.{World}
use Rattle.cck_hasher.specs.declared.conditions.Conditions.{Conditions}
use Rattle.cck_hasher.specs.declared.hasher.CCompilerHasher.{CCompilerHasher}
use Rattle.cck_hasher.specs.declared.hasher.making.PreprocessedInput.{PreprocessedInput}

-- a walk takes the parts of a call
pub same_context : {V : Type 0} (w : World V) (c : Call V) (files : FileMap) (moment : Moment) (variables : List (Vec ℕ × Vec ℕ)) (input cwd : Bytes)
    → c.files ≡ files → c.moment ≡ moment → c.request.env_vars ≡ variables_of variables → input_path c ≡ input → c.request.cwd ≡ cwd
    → context_in w.hash w.config moment w.zone variables files input cwd ≡ walk_context w c
same_context w c files moment variables input cwd same-files same-moment same-variables same-input same-cwd =
    λ i. record {
      setting = record { hash = w.hash; config = w.config; moment = sym same-moment i; zone = w.zone; variables = sym same-variables i };
      files = sym same-files i;
      input = components (sym same-input i);
      cwd = components (sym same-cwd i);
    }

-- an entry as the walk returns it
abbrev returned : Path × Bytes → Digested
returned e = (e.1, path_text (e.0))

-- what is recorded of a file that was found
abbrev size_in : Result FileNode FileError → ℕ
size_in (Ok n) = length n.contents
size_in (Err e) = 0

abbrev modified_in : Result FileNode FileError → Option Moment
modified_in (Ok n) = option_and n.changed n.modified
modified_in (Err e) = None

abbrev changed_in : Result FileNode FileError → Option Moment
changed_in (Ok n) = option_and n.modified n.changed
changed_in (Err e) = None

-- what is recorded of the file at a path, with a digest
abbrev included : FileMap → Path × Bytes → Include
included files e = record {
  path = path_text (e.0);
  digest = e.1;
  size = size_in (file_at files e.0);
  modified = modified_in (file_at files e.0);
  changed = changed_in (file_at files e.0);
}

digested_back : (files : FileMap) (es : List (Path × Bytes)) → digested_as (map (included files) es) ≡ map returned es
digested_back files [] = refl
digested_back files (e ∷ es) = ap (λ ds. returned e ∷ ds) (digested_back files es)

module _ {V : Type 0} (w : World V) (c : Call V) (text : Bytes) where
  verdict_is_walked : (d : decision.Decided) → decision.TextDecides (walk_context w c) text d → Walk w c text (verdict_of d)
  verdict_is_walked d (marks, are, is) = (marks, are, subst (λ e. MarksDecide w c marks (verdict_of e)) is (claim w c marks empty (none_regular w c)))

  verdict_decided : (verdict : Verdict) → Walk w c text verdict → (d : decision.Decided) × decision.TextDecides (walk_context w c) text d × (verdict_of d ≡ verdict)
  verdict_decided verdict (marks, are, decides) =
      let d = decided (walk_context w c) (Some empty) marks in
      (d, (marks, are, refl), one_decision w c marks (verdict_of d) verdict (claim w c marks empty (none_regular w c)) decides)

  module _ (digests : Digests) (marks : List Mark) (are : Marks true text marks) (gathered_once : AreGathered w c marks empty digests) where
    -- a path with a digest is meant
    meant : (p : Path) (digest : Bytes) → get digests p ≡ Some digest → IsMeant w c marks p × IsRegular w c p digest
    meant p digest h = elim (gathered_once.from p digest h) [ inl old ↦ absurd (none-some _ (sym (get-empty path_cmp p) ∙ old)) | inr found ↦ found ]

    named : (p : Path) → IsMeant w c marks p → IsNamed w c text p
    named p (name, system, at, looked, is) = record { name = name; system = system; marks = marks; are = are; present = at; looked = looked; is = is }

    meant_again : (p : Path) → IsNamed w c text p → IsMeant w c marks p
    meant_again p n = (n.name, n.system, subst (λ l. Contains l (Name n.name n.system)) (one_list true text n.marks marks n.are are) n.present, n.looked, n.is)

    -- the components of its written path are that path
    read_back : (p : Path) → IsMeant w c marks p → components (path_text p) ≡ p
    read_back p (name, system, at, looked, is) = ap (λ q. components (path_text q)) is ∙ components-meant c.request.cwd name ∙ sym is

    of_digest : (e : Path × Bytes) → Contains (entries digests) e → IsMeant w c marks e.0 × IsRegular w c e.0 e.1
    of_digest e at = meant e.0 e.1 (of_entry digests e at)

    abbrev made : Path × Bytes → Include
    made = included c.files

    are_recorded : AreRecorded w c text (map made (entries digests))
    are_recorded = record {
      ordered = made_in_order made (λ (i : Include). components i.path) (entries digests) (λ e at. read_back e.0 (of_digest e at).0) (entries_sorted digests);
      each = λ i at.
          let (e, from, is) = made_from made (entries digests) i at in
          let (here, (n, file, old, own)) = of_digest e from in
          record {
            path = e.0;
            named = named e.0 here;
            node = n;
            file = file;
            written = ap (λ (x : Include). x.path) (sym is);
            digest = own ∙ ap (λ (x : Include). Some x.digest) is;
            size = ap (λ (x : Include). x.size) (sym is) ∙ ap size_in file;
            modified = ap (λ (x : Include). x.modified) (sym is) ∙ ap modified_in file;
            changed = ap (λ (x : Include). x.changed) (sym is) ∙ ap changed_in file;
          };
      all = λ p n is file.
          let (digest, at) = gathered_once.all p n (meant_again p is) file in
          (made (p, digest), made_of made (entries digests) (p, digest) (entry_of digests p digest at), refl);
    }

    one_gathered : (e : Path × Bytes) → IsMeant w c marks e.0 × IsRegular w c e.0 e.1 → gathered_include c.files c.moment (returned e) ≡ Some (made e)
    one_gathered e (here, (n, file, old, own)) =
        let (is, size) = include_here c.files c.moment (returned e) e.0 n (read_back e.0 here) file in
        is ∙ (λ i. Some (record {
          path = path_text (e.0);
          digest = e.1;
          size = (size ∙ sym (ap size_in file)) i;
          modified = (kept_modified c.moment n.modified n.changed old.0 old.1 ∙ sym (ap modified_in file)) i;
          changed = (kept_changed c.moment n.modified n.changed old.0 old.1 ∙ sym (ap changed_in file)) i;
        }))

    all_gathered : (es : List (Path × Bytes)) → ((e : Path × Bytes) → Contains es e → IsMeant w c marks e.0 × IsRegular w c e.0 e.1)
        → all_of (map (gathered_include c.files c.moment) (map returned es)) ≡ Some (map made es)
    all_gathered [] each = refl
    all_gathered (e ∷ es) each =
        ap (λ o. all_of (o ∷ map (gathered_include c.files c.moment) (map returned es))) (one_gathered e (each e (first_in e es)))
        ∙ ap (option_map (λ is. made e ∷ is)) (all_gathered es (λ f at. each f (later_in e f es at)))

    are_gathered : gathered c.files c.moment (digested_by digests) ≡ Some (map made (entries digests))
    unfolding gathered
    are_gathered = all_gathered (entries digests) of_digest

  abbrev Recorded : Digests → Type 0
  Recorded digests = (includes : List Include) × AreRecorded w c text includes × (digested_as includes ≡ digested_by digests) × (gathered c.files c.moment (digested_by digests) ≡ Some includes)

  all_recorded : (digests : Digests) → decision.TextDecides (walk_context w c) text (Accepts digests) → Recorded digests
  all_recorded digests (marks, are, is) =
      let once = gathers w c marks empty digests is in
      (map (included c.files) (entries digests), are_recorded digests marks are once, digested_back c.files (entries digests), are_gathered digests marks are once)

  returned_on : (files : List (Vec ℕ × String Global)) (es : List (Path × Bytes)) → map digest_pair files ≡ map written es → digested_of files ≡ map returned es
  returned_on files es h = turned_listed files ∙ ap (map turned) h ∙ turned_written es
    where
      turned : Bytes × Bytes → Digested
      turned e = (e.1, e.0)

      turned_listed : (files : List (Vec ℕ × String Global)) → digested_of files ≡ map turned (map digest_pair files)
      turned_listed [] = refl
      turned_listed (f ∷ files) = ap (λ l. (string_bytes (f.1), f.0.items) ∷ l) (turned_listed files)

      turned_written : (es : List (Path × Bytes)) → map turned (map written es) ≡ map returned es
      turned_written [] = refl
      turned_written (e ∷ es) = ap (λ l. returned e ∷ l) (turned_written es)

  -- the result of a walk
  pub walked : (F : Type 0) (r : Result walk.Walk KeyError) → IsWalk (walk_context w c) F text r → IsWalked w c text F r
  walked F (Ok (verdicts.Accepted files)) (digests, decides, is) =
      let (includes, are, same, gathers) = all_recorded digests decides in
      let back = sym (returned_on files.items (entries digests) is) in
      (verdict_is_walked (Accepts digests) decides, includes, are, same ∙ back, subst (λ ds. gathered c.files c.moment ds ≡ Some includes) back gathers)
  walked F (Ok verdicts.Refused) (inl decides) = inl (verdict_is_walked IsRefused decides)
  walked F (Ok verdicts.Refused) (inr fault) = inr fault.0
  walked F (Err error.Marker) decides = verdict_is_walked Errs decides
  walked F (Err error.Memory) h = tt
  walked F (Err (error.Extra e)) h = absurd h
  walked F (Err (error.Input e)) h = absurd h
  walked F (Err error.Store) h = absurd h
  walked F (Err (error.Entry e)) h = absurd h
  walked F (Err (error.Preprocess e)) h = absurd h

-- the same for a walk over the parts of a call
pub walked_over : {V : Type 0} (w : World V) (c : Call V) (text : Bytes) (files : FileMap) (moment : Moment) (variables : List (Vec ℕ × Vec ℕ)) (input cwd : Bytes)
    → c.files ≡ files → c.moment ≡ moment → c.request.env_vars ≡ variables_of variables → input_path c ≡ input → c.request.cwd ≡ cwd
    → (F : Type 0) (r : Result walk.Walk KeyError) → IsWalk (context_in w.hash w.config moment w.zone variables files input cwd) F text r → IsWalked w c text F r
walked_over w c text files moment variables input cwd same-files same-moment same-variables same-input same-cwd F r is =
    walked w c text F r (subst (λ (x : Context). IsWalk x F text r) (same_context w c files moment variables input cwd same-files same-moment same-variables same-input same-cwd) is)

pub verdict_is_decided : {V : Type 0} (w : World V) → VerdictIsDecided w
verdict_is_decided w c text = (
  λ verdict. (verdict_decided w c text verdict, λ (d, decides, is). subst (Walk w c text) is (verdict_is_walked w c text d decides)),
  λ digests decides.
      let (includes, are, same, gathers) = all_recorded w c text digests decides in
      (includes, are, same),
)

-- the same for a walk over an input that was preprocessed, under these conditions
pub walked_for : {I V : Type 0} (hash : Bytes → Bytes) (compiler : Compiler V) (value : I → V) (files : FileMap) (hasher : CCompilerHasher I) (conditions : Conditions) (input : PreprocessedInput)
    → IsPreprocessed (world_under hash compiler (given_of conditions)) (call_under value files hasher (given_of conditions)) input → (F : Type 0) (r : Result walk.Walk KeyError)
    → IsWalk (context_in hash conditions.config conditions.moment (plain_zone conditions.zone.now) conditions.vars.now files input.path.now conditions.cwd.now) F input.text.now r
    → IsWalked (world_under hash compiler (given_of conditions)) (call_under value files hasher (given_of conditions)) input.text.now F r
walked_for hash compiler value files hasher conditions input is F r =
    walked_over (world_under hash compiler (given_of conditions)) (call_under value files hasher (given_of conditions)) input.text.now files conditions.moment conditions.vars.now input.path.now conditions.cwd.now
    refl refl refl (sym is.path) refl F r
