-- a call that is cached has known parts alone
use Rattle.std.proofs.Common.{◌≡◌, ◌⊎◌, ℕ, Bool, true, false, cond, List, [], ◌∷◌, ◌++◌, Option, Some, None, refl, ap, sym, ◌∙◌, inl, inr, subst, nat_eq, codes}
use Rattle.std.specs.Prelude.{flat_map, fold}
use Rattle.std.specs.List.{starts_with}
use Rattle.std.specs.Str.{bytes_eq}
use Rattle.std.proofs.lemmas.Bool.{false≢true}
use Rattle.std.proofs.lemmas.Bool.Decides.{Decides-eqb}
use Rattle.std.proofs.lemmas.List.{append-nil}
use Rattle.cck_cache_options.specs.declared.reason.Reason.TheVariants.{OtherInput, PassedOption, TwoInputs}
use Rattle.cck_cache_options.specs.declared.table.Cause.TheVariants.{Mode, PreprocessorOption}
use Rattle.cck_cache_options.specs.declared.table.Form.{Form}
use Rattle.cck_cache_options.specs.declared.table.Form.TheVariants.{Alone, Joined, Separate, Either, Equals}
use Rattle.cck_cache_options.specs.declared.table.Class.{Class}
use Rattle.cck_cache_options.specs.declared.table.Class.TheVariants.{Text, Definition, Code, Message, CompilerMessage, Directory, Language, Nothing, Compile, Output, Dependencies, Rule, Target, DependencyFile, PreprocessorDependencyFile, PreprocessorTarget, Passed}
use Rattle.cck_cache_options.specs.Table.{Entry, after_name, form_fits, longest, rest_fits}
use Rattle.cck_cache_options.specs.Call.{Asked, KeyedArgument, State, advance, flag, go, has_comma, is_input, keep, nothing_asked, on_dash, on_equals, on_found, on_input, on_known, on_rest, start, step, stop, take, take_language, take_preprocessor_file, take_preprocessor_target, with_dependency_file, with_input, with_language, with_output, with_preprocessor_file}
use Rattle.cck_cache_options.specs.Laws.{IsLongest}
use Rattle.cck_cache_options.specs.Parts.{AreParts, AskedIsRead, IsPart, IsRead, Part, TakesFlag, TakesValue, with_flag, with_part, with_value, written}
use Rattle.cck_cache_options.specs.Parts.Part.{input, alone, joined, equal, apart}
use Rattle.cck_cache_options.proofs.LongestLemmas.{longest_is_found}
use Rattle.cck_cache_options.proofs.StateLemmas.{finished, never, step_goes, stops_never}

abbrev call_or : Asked → State → Asked
call_or other (stop reason) = other
call_or other (go call waiting) = call

abbrev waiting_in : State → Option Class
waiting_in (stop reason) = None
waiting_in (go call waiting) = waiting

record Same (a c : Asked) (x w : Option Class) : Type 0 where
  call : c ≡ a
  waiting : w ≡ x

same : (a c : Asked) (x w : Option Class) → go a x ≡ go c w → Same a c x w
same a c x w e = record { call = sym (ap (call_or a) e); waiting = sym (ap waiting_in e) }

record Took (call : Asked) (class : Class) (value : List ℕ) (c : Asked) (w : Option Class) : Type 0 where
  idle : w ≡ None
  is : c ≡ with_value call class value
  free : TakesValue call class value

took_output : (call : Asked) (old : Option (List ℕ)) → call.output ≡ old → (value : List ℕ) (c : Asked) (w : Option Class) → with_output call old value ≡ go c w → Took call Output value c w
took_output call None f value c w e = let s = same (record call { output = Some value }) c None w e in record { idle = s.waiting; is = s.call; free = f }
took_output call (Some other) f value c w e = never _ c w e

took_dependency_file : (call : Asked) (old : Option (List ℕ)) → call.dependency_file ≡ old → (value : List ℕ) (c : Asked) (w : Option Class)
    → with_dependency_file call old value ≡ go c w → Took call DependencyFile value c w
took_dependency_file call None f value c w e =
    let s = same (record call { dependency_file = Some value; describes = true }) c None w e in
    record { idle = s.waiting; is = s.call; free = f }
took_dependency_file call (Some other) f value c w e = never _ c w e

took_preprocessor_file : (call : Asked) (value : List ℕ) (c : Asked) (w : Option Class) → take_preprocessor_file call value ≡ go c w → Took call PreprocessorDependencyFile value c w
took_preprocessor_file call value c w e = by_comma (has_comma value) refl e
  where
    by_old : has_comma value ≡ false → (old : Option (List ℕ)) → call.dependency_file ≡ old → with_preprocessor_file call old value ≡ go c w → Took call PreprocessorDependencyFile value c w
    by_old comma None f q =
        let s = same (record call { dependency_file = Some value; preprocessor_depends = true }) c None w q in
        record { idle = s.waiting; is = s.call; free = (f, comma) }
    by_old comma (Some other) f q = never _ c w q

    by_comma : (t : Bool) → has_comma value ≡ t → cond t (stop (PassedOption PreprocessorOption)) (with_preprocessor_file call call.dependency_file value) ≡ go c w
        → Took call PreprocessorDependencyFile value c w
    by_comma true comma q = never _ c w q
    by_comma false comma q = by_old comma call.dependency_file refl q

took_preprocessor_target : (call : Asked) (value : List ℕ) (c : Asked) (w : Option Class) → take_preprocessor_target call value ≡ go c w → Took call PreprocessorTarget value c w
took_preprocessor_target call value c w e = by_comma (has_comma value) refl e
  where
    by_comma : (t : Bool) → has_comma value ≡ t → cond t (stop (PassedOption PreprocessorOption)) (go (record call { preprocessor_targets = true }) None) ≡ go c w
        → Took call PreprocessorTarget value c w
    by_comma true comma q = never _ c w q
    by_comma false comma q = let s = same (record call { preprocessor_targets = true }) c None w q in record { idle = s.waiting; is = s.call; free = comma }

took_language : (call : Asked) (value : List ℕ) (c : Asked) (w : Option Class) → take_language call value ≡ go c w → Took call Language value c w
took_language call value c w e = by_name (bytes_eq value (codes "c")) refl e
  where
    by_input : bytes_eq value (codes "c") ≡ true → (old : Option (List ℕ)) → call.input ≡ old → with_language call old ≡ go c w → Took call Language value c w
    by_input name None f q = let s = same (record call { as_c = true }) c None w q in record { idle = s.waiting; is = s.call; free = (name, f) }
    by_input name (Some other) f q = never _ c w q

    by_name : (t : Bool) → bytes_eq value (codes "c") ≡ t → cond t (with_language call call.input) (stop (PassedOption Mode)) ≡ go c w → Took call Language value c w
    by_name true name q = by_input name call.input refl q
    by_name false name q = never _ c w q

took : (call : Asked) (class : Class) (value : List ℕ) (c : Asked) (w : Option Class) → take call class value ≡ go c w → Took call class value c w
took call Text value c w e = let s = same call c None w e in record { idle = s.waiting; is = s.call; free = tt }
took call Definition value c w e = let s = same call c None w e in record { idle = s.waiting; is = s.call; free = tt }
took call Code value c w e = let s = same call c None w e in record { idle = s.waiting; is = s.call; free = tt }
took call Message value c w e = let s = same call c None w e in record { idle = s.waiting; is = s.call; free = tt }
took call CompilerMessage value c w e = let s = same call c None w e in record { idle = s.waiting; is = s.call; free = tt }
took call Directory value c w e = let s = same call c None w e in record { idle = s.waiting; is = s.call; free = tt }
took call Language value c w e = took_language call value c w e
took call Nothing value c w e = let s = same call c None w e in record { idle = s.waiting; is = s.call; free = tt }
took call Compile value c w e = let s = same call c None w e in record { idle = s.waiting; is = s.call; free = tt }
took call Output value c w e = took_output call call.output refl value c w e
took call Dependencies value c w e = let s = same call c None w e in record { idle = s.waiting; is = s.call; free = tt }
took call Rule value c w e = let s = same call c None w e in record { idle = s.waiting; is = s.call; free = tt }
took call Target value c w e = let s = same (record call { describes = true; targets = true }) c None w e in record { idle = s.waiting; is = s.call; free = tt }
took call DependencyFile value c w e = took_dependency_file call call.dependency_file refl value c w e
took call PreprocessorDependencyFile value c w e = took_preprocessor_file call value c w e
took call PreprocessorTarget value c w e = took_preprocessor_target call value c w e
took call (Passed cause) value c w e = never _ c w e

record Flagged (call : Asked) (class : Class) (c : Asked) (w : Option Class) : Type 0 where
  idle : w ≡ None
  is : c ≡ with_flag call class
  free : TakesFlag class

flagged : (call : Asked) (class : Class) (c : Asked) (w : Option Class) → flag call class ≡ go c w → Flagged call class c w
flagged call Text c w e = let s = same call c None w e in record { idle = s.waiting; is = s.call; free = tt }
flagged call Definition c w e = let s = same call c None w e in record { idle = s.waiting; is = s.call; free = tt }
flagged call Code c w e = let s = same call c None w e in record { idle = s.waiting; is = s.call; free = tt }
flagged call Message c w e = let s = same call c None w e in record { idle = s.waiting; is = s.call; free = tt }
flagged call CompilerMessage c w e = let s = same call c None w e in record { idle = s.waiting; is = s.call; free = tt }
flagged call Directory c w e = let s = same call c None w e in record { idle = s.waiting; is = s.call; free = tt }
flagged call Language c w e = let s = same call c None w e in record { idle = s.waiting; is = s.call; free = tt }
flagged call Nothing c w e = let s = same call c None w e in record { idle = s.waiting; is = s.call; free = tt }
flagged call Compile c w e = let s = same (record call { compiles = true }) c None w e in record { idle = s.waiting; is = s.call; free = tt }
flagged call Output c w e = let s = same call c None w e in record { idle = s.waiting; is = s.call; free = tt }
flagged call Dependencies c w e = let s = same (record call { depends = true }) c None w e in record { idle = s.waiting; is = s.call; free = tt }
flagged call Rule c w e = let s = same (record call { describes = true }) c None w e in record { idle = s.waiting; is = s.call; free = tt }
flagged call Target c w e = let s = same call c None w e in record { idle = s.waiting; is = s.call; free = tt }
flagged call DependencyFile c w e = let s = same call c None w e in record { idle = s.waiting; is = s.call; free = tt }
flagged call PreprocessorDependencyFile c w e = let s = same call c None w e in record { idle = s.waiting; is = s.call; free = tt }
flagged call PreprocessorTarget c w e = let s = same call c None w e in record { idle = s.waiting; is = s.call; free = tt }
flagged call (Passed cause) c w e = never _ c w e

-- what counts in a key decides nothing of this
free_kept : (call : Asked) (keyed : List KeyedArgument) (class : Class) (value : List ℕ) → TakesValue (record call { keyed = keyed }) class value → TakesValue call class value
free_kept call keyed Text value f = tt
free_kept call keyed Definition value f = tt
free_kept call keyed Code value f = tt
free_kept call keyed Message value f = tt
free_kept call keyed CompilerMessage value f = tt
free_kept call keyed Directory value f = tt
free_kept call keyed Language value f = f
free_kept call keyed Nothing value f = tt
free_kept call keyed Compile value f = tt
free_kept call keyed Output value f = f
free_kept call keyed Dependencies value f = tt
free_kept call keyed Rule value f = tt
free_kept call keyed Target value f = tt
free_kept call keyed DependencyFile value f = f
free_kept call keyed PreprocessorDependencyFile value f = f
free_kept call keyed PreprocessorTarget value f = f
free_kept call keyed (Passed cause) value f = f

abbrev bytes_or : List ℕ → Option (List ℕ) → List ℕ
bytes_or other None = other
bytes_or other (Some bytes) = bytes

abbrev is_there : Option (List ℕ) → Bool
is_there None = false
is_there (Some bytes) = true

after_is : (name argument rest : List ℕ) → after_name name argument ≡ Some rest → argument ≡ name ++ rest
after_is [] argument rest e = ap (bytes_or argument) e
after_is (n ∷ name) [] rest e = absurd (false≢true (ap is_there e))
after_is (n ∷ name) (b ∷ argument) rest e = by_first (nat_eq n b) refl e (after_is name argument rest)
  where
    by_first : (t : Bool) → nat_eq n b ≡ t → cond t (after_name name argument) None ≡ Some rest → (after_name name argument ≡ Some rest → argument ≡ name ++ rest) → b ∷ argument ≡ n ∷ (name ++ rest)
    by_first false t q again = absurd (false≢true (ap is_there q))
    by_first true t q again =
        let first : n ≡ b = (Decides-eqb n b).0 t in
        ap (λ m. m ∷ argument) (sym first) ∙ ap (λ l. n ∷ l) (again q)

record Closes (table : List Entry) (call : Asked) (argument : List ℕ) (c : Asked) : Type 0 where
  part : Part
  one : written part ≡ argument ∷ []
  allowed : IsPart table call part
  is : c ≡ with_part call part

record Opens (table : List Entry) (call : Asked) (argument : List ℕ) (c : Asked) (class : Class) : Type 0 where
  option : Entry
  in_table : IsLongest table option.name (Some option)
  form : (option.form ≡ Separate) ⊎ (option.form ≡ Either)
  name : option.name ≡ argument
  class_is : class ≡ option.class
  is : c ≡ keep call option.class option.name

abbrev Leads : List Entry → Asked → List ℕ → Asked → Option Class → Type 0
Leads table call argument c None = Closes table call argument c
Leads table call argument c (Some class) = Opens table call argument c class

module _ (table : List Entry) (call : Asked) (argument : List ℕ) (c : Asked) (w : Option Class) where
  closes : w ≡ None → Closes table call argument c → Leads table call argument c w
  closes e h = subst (λ v. Leads table call argument c v) (sym e) h

  opens : (class : Class) → w ≡ Some class → Opens table call argument c class → Leads table call argument c w
  opens class e h = subst (λ v. Leads table call argument c v) (sym e) h

  moved : (o : Entry) → IsLongest table argument (Some o) → (other : List ℕ) → argument ≡ other → IsLongest table other (Some o)
  moved o h other e = subst (λ l. IsLongest table l (Some o)) e h

  joined_leads : (o : Entry) → IsLongest table argument (Some o) → (o.form ≡ Joined) ⊎ (o.form ≡ Either) → (rest : List ℕ) → argument ≡ o.name ++ rest
      → take (keep call o.class argument) o.class rest ≡ go c w → Leads table call argument c w
  joined_leads o at form rest is e =
      let t = took (keep call o.class argument) o.class rest c w e in
      closes t.idle (record {
        part = joined o rest;
        one = ap (λ l. l ∷ []) (sym is);
        allowed = (moved o at (o.name ++ rest) is, form, free_kept call (keep call o.class argument).keyed o.class rest t.free);
        is = t.is ∙ ap (λ l. with_value (keep call o.class l) o.class rest) is;
      })

  apart_leads : (o : Entry) → IsLongest table argument (Some o) → (o.form ≡ Separate) ⊎ (o.form ≡ Either) → argument ≡ o.name
      → go (keep call o.class argument) (Some o.class) ≡ go c w → Leads table call argument c w
  apart_leads o at form is e =
      let s = same (keep call o.class argument) c (Some o.class) w e in
      opens o.class s.waiting (record { option = o; in_table = moved o at o.name is; form = form; name = sym is; class_is = refl; is = s.call ∙ ap (keep call o.class) is })

  alone_leads : (o : Entry) → IsLongest table argument (Some o) → o.form ≡ Alone → argument ≡ o.name → flag (keep call o.class argument) o.class ≡ go c w → Leads table call argument c w
  alone_leads o at form is e =
      let t = flagged (keep call o.class argument) o.class c w e in
      closes t.idle (record {
        part = alone o;
        one = ap (λ l. l ∷ []) (sym is);
        allowed = (moved o at o.name is, form, t.free);
        is = t.is ∙ ap (λ l. with_flag (keep call o.class l) o.class) is;
      })

  equal_leads : (o : Entry) → IsLongest table argument (Some o) → o.form ≡ Equals → (rest : List ℕ) → argument ≡ o.name ++ rest → (v : Option (List ℕ)) → after_name (codes "=") rest ≡ v
      → on_equals (keep call o.class argument) o.class v ≡ go c w → Leads table call argument c w
  equal_leads o at form rest is None v e = never _ c w e
  equal_leads o at form rest is (Some value) v e =
      let t = took (keep call o.class argument) o.class value c w e in
      let all : argument ≡ o.name ++ 61 ∷ value = is ∙ ap (λ l. o.name ++ l) (after_is (codes "=") rest value v) in
      closes t.idle (record {
        part = equal o value;
        one = ap (λ l. l ∷ []) (sym all);
        allowed = (moved o at (o.name ++ 61 ∷ value) all, form, free_kept call (keep call o.class argument).keyed o.class value t.free);
        is = t.is ∙ ap (λ l. with_value (keep call o.class l) o.class value) all;
      })

  form_leads : (o : Entry) → IsLongest table argument (Some o) → (form : Form) → o.form ≡ form → (rest : List ℕ) → argument ≡ o.name ++ rest → form_fits form rest ≡ true
      → on_rest (keep call o.class argument) form o.class rest ≡ go c w → Leads table call argument c w
  form_leads o at Alone f [] is fit e = alone_leads o at f (is ∙ append-nil o.name) e
  form_leads o at Alone f (b ∷ rest) is fit e = absurd (false≢true fit)
  form_leads o at Joined f rest is fit e = joined_leads o at (inl f) rest is e
  form_leads o at Separate f [] is fit e = apart_leads o at (inl f) (is ∙ append-nil o.name) e
  form_leads o at Separate f (b ∷ rest) is fit e = absurd (false≢true fit)
  form_leads o at Either f [] is fit e = apart_leads o at (inr f) (is ∙ append-nil o.name) e
  form_leads o at Either f (b ∷ rest) is fit e = joined_leads o at (inr f) (b ∷ rest) is e
  form_leads o at Equals f rest is fit e = equal_leads o at f rest is (after_name (codes "=") rest) refl e

  known_leads : (o : Entry) → IsLongest table argument (Some o) → (rest : Option (List ℕ)) → after_name o.name argument ≡ rest → rest_fits o.form rest ≡ true
      → on_known call o argument rest ≡ go c w → Leads table call argument c w
  known_leads o at None is fit e = never _ c w e
  known_leads o at (Some rest) is fit e = form_leads o at o.form refl rest (after_is o.name argument rest is) fit e

  found_leads : (r : Option Entry) → IsLongest table argument r → on_found call r argument ≡ go c w → Leads table call argument c w
  found_leads None h e = never _ c w e
  found_leads (Some o) h e = known_leads o h (after_name o.name argument) refl h.0 e

first_or_second : (t : Bool) (a b s : State) → cond t a b ≡ s → ((t ≡ true) × (a ≡ s)) ⊎ ((t ≡ false) × (b ≡ s))
first_or_second true a b s e = inl (refl, e)
first_or_second false a b s e = inr (refl, e)

input_leads : (table : List Entry) (call : Asked) (argument : List ℕ) (c : Asked) (w : Option Class) → starts_with nat_eq argument (codes "-") ≡ false
    → on_input call argument ≡ go c w → Leads table call argument c w
input_leads table call argument c w no_dash e = by_source (first_or_second (is_input call.as_c argument) (with_input call call.input argument) (stop OtherInput) (go c w) e)
  where
    by_input : is_input call.as_c argument ≡ true → (old : Option (List ℕ)) → call.input ≡ old → with_input call old argument ≡ go c w → Leads table call argument c w
    by_input source None f q =
        let s = same (record (keep call Text argument) { input = Some argument }) c None w q in
        closes table call argument c w s.waiting (record { part = input argument; one = refl; allowed = (f, no_dash, source); is = s.call })
    by_input source (Some other) f q = never TwoInputs c w q

    by_source : ((is_input call.as_c argument ≡ true) × (with_input call call.input argument ≡ go c w)) ⊎ ((is_input call.as_c argument ≡ false) × (stop OtherInput ≡ go c w))
        → Leads table call argument c w
    by_source (inl q) = by_input q.0 call.input refl q.1
    by_source (inr q) = never OtherInput c w q.1

step_leads : (table : List Entry) (call : Asked) (argument : List ℕ) (c : Asked) (w : Option Class) → step table call None argument ≡ go c w → Leads table call argument c w
step_leads table call argument c w e =
    by_dash (first_or_second (starts_with nat_eq argument (codes "-")) (on_dash table call argument) (on_input call argument) (go c w) (step_goes table call None argument c w e).is)
  where
    by_dash : ((starts_with nat_eq argument (codes "-") ≡ true) × (on_dash table call argument ≡ go c w)) ⊎ ((starts_with nat_eq argument (codes "-") ≡ false) × (on_input call argument ≡ go c w))
        → Leads table call argument c w
    by_dash (inl q) = found_leads table call argument c w (longest table argument) (longest_is_found table argument) q.1
    by_dash (inr q) = input_leads table call argument c w q.0 q.1

value_leads : (table : List Entry) (call : Asked) (class : Class) (argument : List ℕ) (c : Asked) (w : Option Class) → step table call (Some class) argument ≡ go c w
    → Took (keep call class argument) class argument c w
value_leads table call class argument c w e = took (keep call class argument) class argument c w (step_goes table call (Some class) argument c w e).is

-- arguments of which the first one is the value of an option of this class
record ReadValue (table : List Entry) (arguments : List (List ℕ)) (call : Asked) (class : Class) (last : Asked) : Type 0 where
  value : List ℕ
  others : List (List ℕ)
  are : value ∷ others ≡ arguments
  free : TakesValue (keep call class value) class value
  rest : IsRead table others (with_value (keep call class value) class value) last

abbrev Reads : List Entry → List (List ℕ) → Asked → Option Class → Asked → Type 0
Reads table arguments call None last = IsRead table arguments call last
Reads table arguments call (Some class) last = ReadValue table arguments call class last

one_more : (table : List Entry) (argument : List ℕ) (arguments : List (List ℕ)) (call c last : Asked) → Closes table call argument c → IsRead table arguments c last → IsRead table (argument ∷ arguments) call last
one_more table argument arguments call c last h r = record {
  parts = h.part ∷ r.parts;
  are = ap (λ l. l ++ flat_map written r.parts) h.one ∙ ap (λ l. argument ∷ l) r.are;
  lead = (h.allowed, subst (λ a. AreParts table a r.parts last) h.is r.lead);
}

two_more : (table : List Entry) (argument : List ℕ) (arguments : List (List ℕ)) (call c last : Asked) (o : Entry) → IsLongest table o.name (Some o) → (o.form ≡ Separate) ⊎ (o.form ≡ Either) → o.name ≡ argument
    → c ≡ keep call o.class o.name → ReadValue table arguments c o.class last → IsRead table (argument ∷ arguments) call last
two_more table argument arguments call c last o at form name is r =
    let P : Asked → Type 0 = λ a. TakesValue (keep a o.class r.value) o.class r.value in
    let kept : TakesValue (keep (keep call o.class o.name) o.class r.value) o.class r.value = subst P is r.free in
    record {
      parts = apart o r.value ∷ r.rest.parts;
      are = ap (λ n. n ∷ r.value ∷ flat_map written r.rest.parts) name ∙ ap (λ l. argument ∷ r.value ∷ l) r.rest.are ∙ ap (λ l. argument ∷ l) r.are;
      lead = (
        (at, form, free_kept call (keep (keep call o.class o.name) o.class r.value).keyed o.class r.value kept),
        subst (λ a. AreParts table (with_value (keep a o.class r.value) o.class r.value) r.rest.parts last) is r.rest.lead,
      );
    }

abbrev waits : State → Bool
waits (stop reason) = false
waits (go call None) = false
waits (go call (Some class)) = true

reads : (table : List Entry) (arguments : List (List ℕ)) (call : Asked) (waiting : Option Class) (last : Asked) → fold (advance table) (go call waiting) arguments ≡ go last None
    → Reads table arguments call waiting last
reads table [] call None last e = record { parts = []; are = refl; lead = sym (same call last None None e).call }
reads table [] call (Some class) last e = absurd (false≢true (sym (ap waits e)))
reads table (argument ∷ arguments) call None last e = next (step table call None argument) refl e (λ c w q. reads table arguments c w last q)
  where
    next : (s : State) → step table call None argument ≡ s → fold (advance table) s arguments ≡ go last None
        → ((c : Asked) (w : Option Class) → fold (advance table) (go c w) arguments ≡ go last None → Reads table arguments c w last) → IsRead table (argument ∷ arguments) call last
    next (stop reason) is q again = stops_never table reason arguments last None q
    next (go c None) is q again = one_more table argument arguments call c last (step_leads table call argument c None is) (again c None q)
    next (go c (Some class)) is q again =
        let h = step_leads table call argument c (Some class) is in
        let r : ReadValue table arguments c h.option.class last = subst (λ k. ReadValue table arguments c k last) h.class_is (again c (Some class) q) in
        two_more table argument arguments call c last h.option h.in_table h.form h.name h.is r
reads table (argument ∷ arguments) call (Some class) last e = next (step table call (Some class) argument) refl e (λ c q. reads table arguments c None last q)
  where
    next : (s : State) → step table call (Some class) argument ≡ s → fold (advance table) s arguments ≡ go last None
        → ((c : Asked) → fold (advance table) (go c None) arguments ≡ go last None → IsRead table arguments c last) → ReadValue table (argument ∷ arguments) call class last
    next (stop reason) is q again = stops_never table reason arguments last None q
    next (go c w) is q again =
        let t = value_leads table call class argument c w is in
        let on : fold (advance table) (go c None) arguments ≡ go last None = subst (λ v. fold (advance table) (go c v) arguments ≡ go last None) t.idle q in
        record { value = argument; others = arguments; are = refl; free = t.free; rest = subst (λ a. IsRead table arguments a last) t.is (again c on) }

pub asked_is_read : AskedIsRead
asked_is_read table arguments call e =
    let done = finished (fold (advance table) nothing_asked arguments) call e in
    (reads table arguments start None call done.is, done.whole)
