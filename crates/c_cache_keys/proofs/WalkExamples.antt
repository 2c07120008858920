-- The paths that written texts name in a directory `/w`, and the verdicts on them.
use Rattle.std.proofs.Common.{◌≡◌, ◌≢◌, inl, inr, Bool, true, false, List, [], ◌∷◌, ◌++◌, Option, Some, None, Ok, Err, codes, refl, sym, ap, ap₂, ◌∙◌, subst, ℕ, arith, pos}
use Rattle.std.specs.FinMap.{get}
use Rattle.std.specs.Prelude.{Contains, IfSome}
use Rattle.std.specs.Ordering.{eq_by_cmp}
use Rattle.cck_digest.specs.declared.error.FileError.TheVariants.{NotFound, OtherKind}
use Rattle.cck_files.specs.FileMap.{FileMap, FileNode, file_at, file_if, file_in, folder_at, folder_if, folder_in}
use Rattle.cck_path.specs.Bytes.{Bytes}
use Rattle.cck_path.specs.declared.metadata.FileKind.TheVariants.{File}
use Rattle.cck_include.specs.Recorded.{recorded}
use Rattle.cck_include.proofs.OneList.{some_nothing}
use Rattle.cck_include.proofs.OneList.{one_list}
use Rattle.cck_include.specs.Marks.{Mark, Name, Refusal, Malformed}
use Rattle.cck_path.specs.Path.{Path, components, joined, normal, path_cmp}
use Rattle.cck_path.specs.Text.{join_path}
use Rattle.cck_path.specs.Timestamp.{Moment}
use Rattle.cck_include.specs.Gathered.{is_before}
use Rattle.cck_hasher.proofs.Elements.{first_in, later_in, one_of, only_one}
use Rattle.c_cache_keys.proofs.MarkExamples.{header_mark, header_marks, header_text, header_text_marks, hidden_line_marks, inclusion_marks, input_mark, last_quote_marks, missing_header_marks, no_quote_marks, one_name_marks, short_text_marks, timed_text, timed_text_marks}
use Rattle.c_cache_keys.proofs.TimeExamples.{time_of_day_not_recorded}
use Rattle.cck_hasher.specs.Call.{Call}
use Rattle.cck_hasher.specs.Walk.{Accepted, Errs, IsGood, IsLooked, IsNamed, IsOld, NotAccepted, Walk, input_path, meant_path}
use Rattle.c_cache_keys.specs.Witness.{path_in_w as in_w}
use Rattle.cck_hasher.specs.World.{World, setting}

-- ---- paths

true_false : true ≡ false → ⊥
true_false e = cc

-- a name that begins with something else than `<`
not_angled : (x : ℕ) (name : Bytes) → x ≢ 60 → (inner : Bytes) → x ∷ name ≢ 60 ∷ inner ++ 62 ∷ []
not_angled x name apart inner is = apart (first_same is)
  where
    first_same : {a b : ℕ} {s t : Bytes} → a ∷ s ≡ b ∷ t → a ≡ b
    first_same e = cc

differ : (p q : Path) → eq_by_cmp path_cmp p p ≡ true → eq_by_cmp path_cmp p q ≡ false → p ≢ q
differ p q same apart e = true_false (sym same ∙ ap (λ r. eq_by_cmp path_cmp p r) e ∙ apart)

one_name : (a b : Bytes) (s t : Bool) → Name a s ≡ Name b t → a ≡ b
one_name a b s t e = cc

-- ---- paths without a node, and files as new as the call time

no_folder : (files : FileMap) (p : Path) → get files.nodes p ≡ None → folder_at files p ≡ Ok tt → ⊥
unfolding folder_at
no_folder files p e h =
    let apart : Err NotFound ≡ Ok tt = sym (ap folder_in e) ∙ h in
    cc

no_file : (files : FileMap) (p : Path) (n : FileNode) → get files.nodes p ≡ None → file_at files p ≡ Ok n → ⊥
unfolding file_at
no_file files p n e h =
    let apart : Err NotFound ≡ Ok n = sym (ap file_in e) ∙ h in
    cc

file_no_folder : (files : FileMap) (p : Path) (n : FileNode) → get files.nodes p ≡ Some n → n.kind ≡ File → folder_at files p ≡ Ok tt → ⊥
unfolding folder_at
file_no_folder files p n e is h =
    let apart : Err OtherKind ≡ Ok tt = sym (ap folder_in e ∙ ap folder_if is) ∙ h in
    cc

this_file : (files : FileMap) (p : Path) (n m : FileNode) → get files.nodes p ≡ Some n → n.kind ≡ File → file_at files p ≡ Ok m → n ≡ m
unfolding file_at
this_file files p n m e is h =
    let both : Ok n ≡ Ok m = sym (ap file_in e ∙ ap (file_if n) is) ∙ h in
    cc

abbrev fifth_second : Moment
fifth_second = record { seconds = pos 5; nanoseconds = 0 }

too_new : (modified : Option Moment) (moment : Moment) → modified ≡ Some fifth_second → moment ≡ fifth_second → IfSome modified (λ t. is_before t moment ≡ true) → ⊥
too_new modified moment is at old = true_false (sym (subst (λ (v : Option Moment). IfSome v (λ t. is_before t fifth_second ≡ true)) is (subst (λ v. IfSome modified (λ t. is_before t v ≡ true)) at old)))

module _ {V : Type 0} (w : World V) (c : Call V) (cwd_is : c.request.cwd ≡ codes "/w") (input_is : c.request.arguments.input ≡ codes "a.c") where
  meant : (name : Bytes) → meant_path c name ≡ normal (joined (components (codes "/w")) (components name))
  meant name = ap (λ d. normal (joined (components d) (components name))) cwd_is

  pub input_meant : components (input_path c) ≡ in_w (codes "a.c")
  unfolding components join_path
  input_meant = ap₂ (λ d f. components (join_path d f)) cwd_is input_is

  named_itself : (name : Bytes) → meant_path c name ≡ in_w (codes "a.c") → (system : Bool) → IsLooked w c name system → ⊥
  named_itself name same system looked = looked.other (same ∙ sym input_meant)

  looked_at : (x : ℕ) (name other : Bytes) → x ≢ 60 → meant_path c (x ∷ name) ≡ in_w other → eq_by_cmp path_cmp (in_w other) (in_w other) ≡ true → eq_by_cmp path_cmp (in_w other) (in_w (codes "a.c")) ≡ false → IsLooked w c (x ∷ name) false
  looked_at x name other apart is same differs =
      record {
        some = some_nothing;
        not_angled = not_angled x name apart;
        wanted = λ _. refl;
        other = λ e. differ (in_w other) (in_w (codes "a.c")) same differs (sym is ∙ e ∙ input_meant);
      }

  input_itself : meant_path c (codes "/w/a.c") ≡ in_w (codes "a.c")
  unfolding components
  input_itself = meant (codes "/w/a.c")

  header_path : meant_path c (codes "/w/h.h") ≡ in_w (codes "h.h")
  unfolding components
  header_path = meant (codes "/w/h.h")

  beside_path : meant_path c (codes "x") ≡ in_w (codes "x")
  unfolding components
  beside_path = meant (codes "x")

  missing_path : meant_path c (codes "missing.h") ≡ in_w (codes "missing.h")
  unfolding components
  missing_path = meant (codes "missing.h")

  header_looked : IsLooked w c (codes "/w/h.h") false
  header_looked = looked_at 47 (codes "w/h.h") (codes "h.h") (λ e. omega (arith, e)) header_path refl refl

  -- the header is named, and nothing else is
  pub header_named : IsNamed w c header_text (in_w (codes "h.h"))
  header_named =
      record {
        name = codes "/w/h.h";
        system = false;
        marks = header_marks;
        are = header_text_marks;
        present = later_in input_mark header_mark (header_mark ∷ input_mark ∷ []) (first_in header_mark (input_mark ∷ []));
        looked = header_looked;
        is = sym header_path;
      }

  pub header_alone : (p : Path) → IsNamed w c header_text p → p ≡ in_w (codes "h.h")
  header_alone p n =
      let same : n.marks ≡ header_marks = one_list true header_text n.marks header_marks n.are header_text_marks in
      let mark = Name n.name n.system in
      let at = subst (λ (marks : List Mark). Contains marks mark) same n.present in
      let input : input_mark ≡ mark → p ≡ in_w (codes "h.h") =
      λ e. absurd (named_itself n.name (ap (meant_path c) (sym (one_name (codes "/w/a.c") n.name false n.system e)) ∙ input_itself) n.system n.looked) in
      elim (one_of input_mark mark (header_mark ∷ input_mark ∷ []) at) [
        | inl is ↦ input is
        | inr later ↦ (elim (one_of header_mark mark (input_mark ∷ []) later) [
          | inl is ↦ n.is ∙ ap (meant_path c) (sym (one_name (codes "/w/h.h") n.name false n.system is)) ∙ header_path
          | inr last ↦ input (only_one input_mark mark last)
        ])
      ]

  -- ---- verdicts

  input_passes : IsLooked w c (codes "/w/a.c") false → IsGood w c (meant_path c (codes "/w/a.c"))
  input_passes looked = absurd (named_itself (codes "/w/a.c") input_itself false looked)

  pub header_accepted : (n : FileNode) → file_at c.files (in_w (codes "h.h")) ≡ Ok n → IsOld w c n → recorded (setting w c) n ≢ None → Walk w c header_text Accepted
  header_accepted n at old claim =
      (header_marks, header_text_marks, inl (input_passes, inl (λ _. subst (IsGood w c) (sym header_path) (inr (n, at, old, claim)), inl (input_passes, refl))))

  -- the header was modified at the call time
  new_header_not_recorded : (n : FileNode) → get c.files.nodes (in_w (codes "h.h")) ≡ Some n → n.kind ≡ File → n.modified ≡ Some fifth_second → c.moment ≡ fifth_second → Walk w c header_text NotAccepted
  new_header_not_recorded n at is modified moment =
      let not_good : IsGood w c (in_w (codes "h.h")) → ⊥ = λ good. elim good [
        | inl folder ↦ file_no_folder c.files _ n at is folder
        | inr (m, file, old, claim) ↦ too_new m.modified c.moment (ap (λ (v : FileNode). v.modified) (sym (this_file c.files _ n m at is file)) ∙ modified) moment old.0
      ] in
      (header_marks, header_text_marks, inl (input_passes, inr (header_looked, λ good. not_good (subst (IsGood w c) header_path good), refl)))

  -- the header shows the time of day
  timed_header_not_recorded : w.config.ignore_time_macros ≡ false → (n : FileNode) → get c.files.nodes (in_w (codes "h.h")) ≡ Some n → n.kind ≡ File → n.contents ≡ codes "__TIME__" → Walk w c timed_text NotAccepted
  timed_header_not_recorded counts n at is shows =
      let not_good : IsGood w c (in_w (codes "h.h")) → ⊥ = λ good. elim good [
        | inl folder ↦ file_no_folder c.files _ n at is folder
        | inr (m, file, old, claim) ↦ claim (time_of_day_not_recorded (setting w c) counts m (ap (λ (v : FileNode). v.contents) (sym (this_file c.files _ n m at is file)) ∙ shows))
      ] in
      (header_marks, timed_text_marks, inl (input_passes, inr (header_looked, λ good. not_good (subst (IsGood w c) header_path good), refl)))

  beside_accepted : (n : FileNode) → file_at c.files (in_w (codes "x")) ≡ Ok n → IsOld w c n → recorded (setting w c) n ≢ None → Walk w c (codes "# 1 \"x\"") Accepted
  beside_accepted n at old claim =
      (Name (codes "x") false ∷ [], one_name_marks, inl (λ _. subst (IsGood w c) (sym beside_path) (inr (n, at, old, claim)), refl))

  missing_looked : IsLooked w c (codes "missing.h") false
  missing_looked = looked_at 109 (codes "issing.h") (codes "missing.h") (λ e. omega (arith, e)) missing_path refl refl

  missing_not_recorded : get c.files.nodes (in_w (codes "missing.h")) ≡ None → Walk w c (codes "# 1 \"missing.h\"") NotAccepted
  missing_not_recorded nothing =
      let not_good : IsGood w c (in_w (codes "missing.h")) → ⊥ = λ good. elim good [
        | inl folder ↦ no_folder c.files _ nothing folder
        | inr (m, file, old, claim) ↦ no_file c.files _ m nothing file
      ] in
      (Name (codes "missing.h") false ∷ [], missing_header_marks, inr (missing_looked, λ good. not_good (subst (IsGood w c) missing_path good), refl))

  short_accepted : Walk w c (codes "# 1 \"") Accepted
  short_accepted = ([], short_text_marks, refl)

  hidden_accepted : Walk w c (codes "__________Using distcc") Accepted
  hidden_accepted = ([], hidden_line_marks, refl)

  last_quote_errs : Walk w c (codes "# 123 \"") Errs
  last_quote_errs = (Malformed ∷ [], last_quote_marks, refl)

  no_quote_errs : Walk w c (codes "#line 1") Errs
  no_quote_errs = (Malformed ∷ [], no_quote_marks, refl)

  inclusion_not_recorded : Walk w c (codes "x .incbin \"f\"") NotAccepted
  inclusion_not_recorded = (Refusal ∷ [], inclusion_marks, refl)
