-- What follows from the preprocessor key of one call, and from two calls that have the same.
use Rattle.std.proofs.Common.{◌≡◌, ◌≢◌, Bool, true, false, ◌||◌, cond, List, [], ◌∷◌, ◌++◌, map, filter, refl, sym, ap, ap₂, ◌∙◌, Option, Some, None, Result, Ok, Err}
use Rattle.std.specs.List.{list_any}
use Rattle.std.specs.Option.{option_and_then, option_map}
use Rattle.std.specs.Result.{result_ok}
use Rattle.std.specs.Str.{bytes_eq}
use Rattle.std.proofs.lemmas.Option.{same_Some, none-some}
use Rattle.std.proofs.lemmas.Bool.{and_parts, false≢true}
use Rattle.cck_digest.specs.Digest.{digest_text}
use Rattle.cck_files.specs.FileMap.{FileNode, file_at}
use Rattle.cck_include.specs.Recorded.{recorded}
use Rattle.cck_path.specs.Bytes.{Bytes}
use Rattle.cck_path.specs.Path.{components}
use Rattle.cck_path.specs.Variables.{Variable}
use Rattle.cck_path.proofs.TestLemmas.{from_and_then, then_some}
use Rattle.cck_compiler.proofs.MaterialLemmas.{preprocessor_material_tells_parts}
use Rattle.cck_compiler.specs.PreprocessorKey.{RequestParts, preprocessor_material}
use Rattle.cck_strip.specs.Argument.{stripped_argument}
use Rattle.cck_strip.specs.Text.{stripped_text}
use Rattle.cck_util.specs.Key.{KeyParts, material}
use Rattle.cck_util.specs.Language.{is_preprocessed_first}
use Rattle.cck_util.specs.Variables.{include_path_names, object_variable_names, object_variables, request_variables}
use Rattle.cck_hasher.specs.Call.{Call, Request}
use Rattle.cck_hasher.specs.Keys.{extra_texts, input_file, input_recorded, key_material, plain_key, plain_parts, preprocessor_key_of, printed, request_parts, text_of, uses_cache}
use Rattle.c_cache_keys.specs.Premises.{Agree}
use Rattle.cck_hasher.specs.Walk.{input_path}
use Rattle.cck_hasher.specs.World.{World, setting}

mapped_some : {A B : Type 0} (f : A → B) (o : Option A) (b : B) → option_map f o ≡ Some b → (a : A) × (o ≡ Some a) × (b ≡ f a)
mapped_some f None b e = absurd (none-some _ e)
mapped_some f (Some a) b e = (a, refl, sym (same_Some (f a) b e))

-- a function of two values, if both are there
abbrev pub of_both : {A B C : Type 0} → (A → B → C) → Option A → Option B → Option C
of_both f o p = option_and_then (λ a. option_map (f a) p) o

both_some : {A B C : Type 0} (f : A → B → C) (o : Option A) (p : Option B) (c : C) → of_both f o p ≡ Some c → (a : A) × (b : B) × (o ≡ Some a) × (p ≡ Some b) × (c ≡ f a b)
both_some f None p c e = absurd (none-some _ e)
both_some f (Some a) p c e = let (b, is, same) = mapped_some (f a) p c e in (a, b, refl, is, same)

ok_of_some : {X E : Type 0} (r : Result X E) (x : X) → result_ok r ≡ Some x → r ≡ Ok x
ok_of_some (Ok y) x e = ap (λ v. Ok v) (same_Some y x e)
ok_of_some (Err v) x e = absurd (none-some _ e)

of_both_same : {A B C : Type 0} (f g : A → B → C) → ((a : A) (b : B) → f a b ≡ g a b) → (o : Option A) (p : Option B) → of_both f o p ≡ of_both g o p
of_both_same f g same None p = refl
of_both_same f g same (Some a) None = refl
of_both_same f g same (Some a) (Some b) = ap Some (same a b)

-- ---- variables

-- what passes one test also passes another
filter_both : {X : Type 0} (p q : X → Bool) → ((x : X) → p x ≡ true → q x ≡ true) → (xs : List X) → filter p (filter q xs) ≡ filter p xs
filter_both p q both [] = refl
filter_both p q both (x ∷ xs) = by (p x) (q x) refl refl (filter_both p q both xs)
  where
    by : (a b : Bool) → p x ≡ a → q x ≡ b → filter p (filter q xs) ≡ filter p xs → filter p (filter q (x ∷ xs)) ≡ filter p (x ∷ xs)
    by true true e f rest = rw (f, e) (ap (λ ys. x ∷ ys) rest)
    by false true e f rest = rw (f, e) rest
    by false false e f rest = rw (f, e) rest
    by true false e f rest = absurd (false≢true (sym f ∙ both x e))

any_in_front : {X : Type 0} (test : X → Bool) (xs ys : List X) → list_any test xs ≡ true → list_any test (xs ++ ys) ≡ true
any_in_front test [] ys e = absurd (false≢true e)
any_in_front test (x ∷ xs) ys e = by (test x) refl e (any_in_front test xs ys)
  where
    by : (b : Bool) → test x ≡ b → (b || list_any test xs) ≡ true → (list_any test xs ≡ true → list_any test (xs ++ ys) ≡ true) → (test x || list_any test (xs ++ ys)) ≡ true
    by true at here rest = ap (λ b. b || list_any test (xs ++ ys)) at
    by false at here rest = ap (λ b. b || list_any test (xs ++ ys)) at ∙ rest here

-- the variables of an object key are among those of a preprocessor key
object_among_request : (variables : List Variable) → object_variables (request_variables variables) ≡ object_variables variables
object_among_request variables =
    filter_both (λ v. list_any (bytes_eq (v.0)) object_variable_names) (λ v. list_any (bytes_eq (v.0)) (object_variable_names ++ include_path_names))
    (λ v. any_in_front (bytes_eq (v.0)) object_variable_names include_path_names) variables

-- ---- calls

module _ {V : Type 0} (w : World V) where
  pub key_known : (c : Call V) (k : Bytes) → preprocessor_key_of w c ≡ Some k → (m : Bytes) × (key_material w c ≡ Some m) × (k ≡ digest_text w.hash m)
  unfolding preprocessor_key_of
  key_known c k e = mapped_some (digest_text w.hash) (key_material w c) k e

  -- the parts of the key material of a call
  pub material_known : (c : Call V) (m : Bytes) → key_material w c ≡ Some m
      → (uses_cache w c.request ≡ true) × (xs : List Bytes) × (r : Bytes) × (extra_texts w c ≡ Some xs) × (input_recorded w c ≡ Some r)
      × (m ≡ preprocessor_material (request_parts w c.request (input_path c)) xs r)
  unfolding key_material
  material_known c m e =
      let (used, is) = then_some (uses_cache w c.request) _ m e in
      let (xs, r, is-xs, is-r, same) = both_some (preprocessor_material (request_parts w c.request (input_path c))) (extra_texts w c) (input_recorded w c) m is in
      (used, xs, r, is-xs, is-r, same)

  pub input_known : (c : Call V) (r : Bytes) → input_recorded w c ≡ Some r → (n : FileNode) × (file_at c.files (components (input_path c)) ≡ Ok n) × (recorded (setting w c) n ≡ Some r)
  unfolding input_recorded input_file
  input_known c r e =
      let (n, is, digest) = from_and_then (recorded (setting w c)) (input_file w c) r e in
      (n, ok_of_some (file_at c.files (components (input_path c))) n is, digest)

  -- where a cache is used, a preprocessor is needed
  pub used_prints : (q : Request V) → uses_cache w q ≡ true → is_preprocessed_first q.arguments.language ≡ true
  unfolding uses_cache
  used_prints q e = (and_parts (is_preprocessed_first q.arguments.language) _ e).0

  -- equal key material is of equal parts, equal hex digests of the extra files, and one recorded digest of the input
  pub material_same : (c d : Call V) (m : Bytes) → key_material w c ≡ Some m → key_material w d ≡ Some m
      → (uses_cache w c.request ≡ true) × (request_parts w c.request (input_path c) ≡ request_parts w d.request (input_path d))
      × (extra_texts w c ≡ extra_texts w d) × (extra_texts w c ≢ None) × (r : Bytes) × (input_recorded w c ≡ Some r) × (input_recorded w d ≡ Some r)
  material_same c d m e f =
      let (used, xs, r, is-xs, is-r, is) = material_known c m e in
      let (used', ys, s, is-ys, is-s, is') = material_known d m f in
      let (parts, extra, recorded) =
      (preprocessor_material_tells_parts (request_parts w c.request (input_path c)) (request_parts w d.request (input_path d)) xs ys r s).0 (sym is ∙ is') in
      (used, parts, is-xs ∙ ap Some extra ∙ sym is-ys, λ none. (none-some _ (sym none ∙ is-xs)), r, is-r, is-s ∙ ap Some (sym recorded))

  -- equal parts are of one input path,
  pub path_is_determined : (p q : Request V) (i j : Bytes) → request_parts w p i ≡ request_parts w q j → i ≡ j
  unfolding request_parts
  path_is_determined p q i j same = ap (λ parts. parts.input_file) same

  -- and of one working directory, where it is part of the key
  pub cwd_is_determined : (p q : Request V) (i j : Bytes) → request_parts w p i ≡ request_parts w q j → w.config.hash_working_directory ≡ true → p.cwd ≡ q.cwd
  unfolding request_parts
  cwd_is_determined p q i j same on =
      same_Some p.cwd q.cwd
      (ap (λ b. cond b (Some p.cwd) None) (sym on) ∙ ap (λ parts. parts.directory) same ∙ ap (λ b. cond b (Some q.cwd) None) on)

  needs_is_determined : (p q : Request V) (i j : Bytes) → request_parts w p i ≡ request_parts w q j → is_preprocessed_first p.arguments.language ≡ is_preprocessed_first q.arguments.language
  unfolding request_parts
  needs_is_determined p q i j same = ap (λ parts. is_preprocessed_first parts.language) same

  -- the parts that are hashed for the plain key
  abbrev parts_of_key : List Bytes → Bytes → RequestParts → KeyParts
  parts_of_key extra_hashes text p = record {
    compiler_digest = p.compiler_digest;
    plusplus = p.plusplus;
    language = p.language;
    arguments = map (stripped_argument w.basedirs) (p.common_args ++ p.arch_args);
    extra_hashes = extra_hashes;
    assembler_digest = p.assembler_digest;
    variables = object_variables p.variables;
    output = stripped_text w.basedirs text;
  }

  key_from_parts : (q : Request V) (input : Bytes) (extra_hashes : List Bytes) (text : Bytes)
      → digest_text w.hash (material (plain_parts w q extra_hashes text)) ≡ digest_text w.hash (material (parts_of_key extra_hashes text (request_parts w q input)))
  unfolding plain_parts request_parts
  key_from_parts q input extra_hashes text =
      ap (λ variables. digest_text w.hash (material (record (parts_of_key extra_hashes text (request_parts w q input)) { variables = variables })))
      (sym (object_among_request q.env_vars))

  text_printed : (c : Call V) (text : Bytes) → is_preprocessed_first c.request.arguments.language ≡ true → printed w c ≡ Some text → text_of w c ≡ Some text
  unfolding text_of
  text_printed c text needs is = ap (λ b. cond b (printed w c) (option_map (λ n. n.contents) (input_file w c))) needs ∙ is

  same_key : (c d : Call V) (extra_hashes : List Bytes) (text : Bytes) → request_parts w c.request (input_path c) ≡ request_parts w d.request (input_path d)
      → digest_text w.hash (material (plain_parts w c.request extra_hashes text)) ≡ digest_text w.hash (material (plain_parts w d.request extra_hashes text))
  same_key c d extra_hashes text same =
      key_from_parts c.request (input_path c) extra_hashes text
      ∙ ap (λ p. digest_text w.hash (material (parts_of_key extra_hashes text p))) same
      ∙ sym (key_from_parts d.request (input_path d) extra_hashes text)

  -- calls that agree, for which the same is printed, have one plain key
  pub plain_same : (c d : Call V) (text : Bytes) → is_preprocessed_first c.request.arguments.language ≡ true → Agree w c d text
      → printed w c ≡ Some text → printed w d ≡ Some text → plain_key w c ≡ plain_key w d
  unfolding plain_key
  plain_same c d text needs agree is is' =
      let here : text_of w c ≡ Some text = text_printed c text needs is in
      let there : text_of w d ≡ Some text = text_printed d text (sym (needs_is_determined c.request d.request (input_path c) (input_path d) agree.parts) ∙ needs) is' in
      ap₂ (of_both (λ es t. digest_text w.hash (material (plain_parts w c.request es t)))) agree.extra (here ∙ sym there)
      ∙ of_both_same (λ es t. digest_text w.hash (material (plain_parts w c.request es t))) (λ es t. digest_text w.hash (material (plain_parts w d.request es t)))
      (λ es t. same_key c d es t agree.parts) (extra_texts w d) (text_of w d)
