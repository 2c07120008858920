-- the arguments that count in a key are arguments of the call
use Rattle.std.proofs.Common.{◌≡◌, ◌⊎◌, ℕ, Bool, true, false, cond, List, [], ◌∷◌, ◌++◌, Option, Some, None, refl, ap, sym, ◌∙◌, inl, inr, append_assoc, nat_eq, codes, map, subst}
use Rattle.std.specs.Prelude.{fold}
use Rattle.std.specs.List.{starts_with}
use Rattle.std.specs.Str.{bytes_eq}
use Rattle.std.proofs.lemmas.List.{append-nil}
use Rattle.cck_cache_options.specs.declared.reason.Reason.{Reason}
use Rattle.cck_cache_options.specs.declared.reason.Reason.TheVariants.{OtherInput, PassedOption}
use Rattle.cck_cache_options.specs.declared.table.Cause.TheVariants.{Mode, PreprocessorOption}
use Rattle.cck_cache_options.specs.declared.table.Form.{Form}
use Rattle.cck_cache_options.specs.declared.table.Form.TheVariants.{Alone, Joined, Separate, Either, Equals}
use Rattle.cck_cache_options.specs.declared.table.Class.{Class}
use Rattle.cck_cache_options.specs.declared.table.Class.TheVariants.{Text, Definition, Code, Message, CompilerMessage, Directory, Language, Nothing, Compile, Output, Dependencies, Rule, Target, DependencyFile, PreprocessorDependencyFile, PreprocessorTarget, Passed}
use Rattle.cck_cache_options.specs.Table.{Entry, after_name, has_bytes, longest}
use Rattle.cck_cache_options.specs.Call.{Asked, KeyedArgument, State, advance, flag, go, has_comma, is_input, is_keyed, keep, nothing_asked, on_argument, on_dash, on_equals, on_found, on_input, on_known, on_option, on_rest, on_value, refused, start, step, step_unless, stop, take, with_dependency_file, with_input, with_language, with_output, with_preprocessor_file}
use Rattle.cck_cache_options.specs.Laws.{AreInOrder, KeyedInOrder}
use Rattle.cck_cache_options.proofs.StateLemmas.{finished, stops_never}

-- no argument is added
abbrev Same : Asked → State → Type 0
Same call (stop reason) = Unit {0}
Same call (go next waiting) = next.keyed ≡ call.keyed

record Added (call next : Asked) (argument : List ℕ) : Type 0 where
  keyed : KeyedArgument
  is : keyed.argument ≡ argument
  more : next.keyed ≡ call.keyed ++ keyed ∷ []

-- at most this argument is added
abbrev Adds : Asked → State → List ℕ → Type 0
Adds call (stop reason) argument = Unit {0}
Adds call (go next waiting) argument = (next.keyed ≡ call.keyed) ⊎ Added call next argument

same_cond : (call : Asked) (t : Bool) (a b : State) → Same call a → Same call b → Same call (cond t a b)
same_cond call true a b p q = p
same_cond call false a b p q = q

adds_cond : (call : Asked) (argument : List ℕ) (t : Bool) (a b : State) → Adds call a argument → Adds call b argument → Adds call (cond t a b) argument
adds_cond call argument true a b p q = p
adds_cond call argument false a b p q = q

output_same : (call : Asked) (old : Option (List ℕ)) (value : List ℕ) → Same call (with_output call old value)
output_same call None value = refl
output_same call (Some other) value = tt

dependency_file_same : (call : Asked) (old : Option (List ℕ)) (value : List ℕ) → Same call (with_dependency_file call old value)
dependency_file_same call None value = refl
dependency_file_same call (Some other) value = tt

preprocessor_file_same : (call : Asked) (old : Option (List ℕ)) (value : List ℕ) → Same call (with_preprocessor_file call old value)
preprocessor_file_same call None value = refl
preprocessor_file_same call (Some other) value = tt

language_same : (call : Asked) (old : Option (List ℕ)) → Same call (with_language call old)
language_same call None = refl
language_same call (Some other) = tt

take_same : (call : Asked) (class : Class) (value : List ℕ) → Same call (take call class value)
take_same call Text value = refl
take_same call Definition value = refl
take_same call Code value = refl
take_same call Message value = refl
take_same call CompilerMessage value = refl
take_same call Directory value = refl
take_same call Language value = same_cond call (bytes_eq value (codes "c")) (with_language call call.input) (stop (PassedOption Mode)) (language_same call call.input) tt
take_same call Nothing value = refl
take_same call Compile value = refl
take_same call Output value = output_same call call.output value
take_same call Dependencies value = refl
take_same call Rule value = refl
take_same call Target value = refl
take_same call DependencyFile value = dependency_file_same call call.dependency_file value
take_same call PreprocessorDependencyFile value =
    same_cond call (has_comma value) (stop (PassedOption PreprocessorOption)) (with_preprocessor_file call call.dependency_file value) tt (preprocessor_file_same call call.dependency_file value)
take_same call PreprocessorTarget value =
    same_cond call (has_comma value) (stop (PassedOption PreprocessorOption)) (go (record call { preprocessor_targets = true }) None) tt refl
take_same call (Passed cause) value = tt

flag_same : (call : Asked) (class : Class) → Same call (flag call class)
flag_same call Text = refl
flag_same call Definition = refl
flag_same call Code = refl
flag_same call Message = refl
flag_same call CompilerMessage = refl
flag_same call Directory = refl
flag_same call Language = refl
flag_same call Nothing = refl
flag_same call Compile = refl
flag_same call Output = refl
flag_same call Dependencies = refl
flag_same call Rule = refl
flag_same call Target = refl
flag_same call DependencyFile = refl
flag_same call PreprocessorDependencyFile = refl
flag_same call PreprocessorTarget = refl
flag_same call (Passed cause) = tt

equals_same : (call : Asked) (class : Class) (value : Option (List ℕ)) → Same call (on_equals call class value)
equals_same call class (Some value) = take_same call class value
equals_same call class None = tt

rest_same : (call : Asked) (form : Form) (class : Class) (rest : List ℕ) → Same call (on_rest call form class rest)
rest_same call Alone class rest = flag_same call class
rest_same call Joined class rest = take_same call class rest
rest_same call Separate class rest = refl
rest_same call Either class rest = same_cond call (has_bytes rest) (take call class rest) (go call (Some class)) (take_same call class rest) refl
rest_same call Equals class rest = equals_same call class (after_name (codes "=") rest)

-- a state that has what was kept, and no more
kept_adds : (call : Asked) (class : Class) (argument : List ℕ) (s : State) → Same (keep call class argument) s → Adds call s argument
kept_adds call class argument (stop reason) same = tt
kept_adds call class argument (go next waiting) same = by_class (is_keyed class) same
  where
    by_class : (t : Bool) → next.keyed ≡ call.keyed ++ cond t (record { class = class; argument = argument } ∷ []) [] → (next.keyed ≡ call.keyed) ⊎ Added call next argument
    by_class true e = inr (record { keyed = record { class = class; argument = argument }; is = refl; more = e })
    by_class false e = inl (e ∙ append-nil call.keyed)

input_same : (call : Asked) (old : Option (List ℕ)) (argument : List ℕ) → Same (keep call Text argument) (with_input call old argument)
input_same call None argument = refl
input_same call (Some other) argument = tt

input_adds : (call : Asked) (argument : List ℕ) → Adds call (on_input call argument) argument
input_adds call argument =
    adds_cond call argument (is_input call.as_c argument) (with_input call call.input argument) (stop OtherInput)
    (kept_adds call Text argument (with_input call call.input argument) (input_same call call.input argument)) tt

known_adds : (call : Asked) (option : Entry) (argument : List ℕ) (rest : Option (List ℕ)) → Adds call (on_known call option argument rest) argument
known_adds call option argument (Some rest) =
    kept_adds call option.class argument (on_option call option.form option.class argument rest) (rest_same (keep call option.class argument) option.form option.class rest)
known_adds call option argument None = tt

found_adds : (call : Asked) (found : Option Entry) (argument : List ℕ) → Adds call (on_found call found argument) argument
found_adds call (Some option) argument = known_adds call option argument (after_name option.name argument)
found_adds call None argument = tt

argument_adds : (table : List Entry) (call : Asked) (waiting : Option Class) (argument : List ℕ) → Adds call (on_argument table call waiting argument) argument
argument_adds table call (Some class) argument = kept_adds call class argument (on_value call class argument) (take_same (keep call class argument) class argument)
argument_adds table call None argument =
    adds_cond call argument (starts_with nat_eq argument (codes "-")) (on_dash table call argument) (on_input call argument)
    (found_adds call (longest table argument) argument) (input_adds call argument)

step_adds : (table : List Entry) (call : Asked) (waiting : Option Class) (argument : List ℕ) → Adds call (step table call waiting argument) argument
step_adds table call waiting argument = by_refused (refused argument)
  where
    by_refused : (r : Option Reason) → Adds call (step_unless r table call waiting argument) argument
    by_refused (Some reason) = tt
    by_refused None = argument_adds table call waiting argument

abbrev arguments_of : List KeyedArgument → List (List ℕ)
arguments_of keyed = map (λ k. k.argument) keyed

record Later (before : List KeyedArgument) (arguments : List (List ℕ)) (last : List KeyedArgument) : Type 0 where
  added : List KeyedArgument
  is : last ≡ before ++ added
  in_order : AreInOrder (arguments_of added) arguments

skipped : (keyed : List KeyedArgument) (argument : List ℕ) (arguments : List (List ℕ)) → AreInOrder (arguments_of keyed) arguments
    → AreInOrder (arguments_of keyed) (argument ∷ arguments)
skipped [] argument arguments h = tt
skipped (k ∷ keyed) argument arguments h = inr h

abbrev keyed_in : State → List KeyedArgument
keyed_in (stop reason) = []
keyed_in (go call waiting) = call.keyed

later : (table : List Entry) (arguments : List (List ℕ)) (call : Asked) (waiting : Option Class) (last : Asked)
    → fold (advance table) (go call waiting) arguments ≡ go last None → Later call.keyed arguments last.keyed
later table [] call waiting last e = record { added = []; is = sym (ap keyed_in e) ∙ sym (append-nil call.keyed); in_order = tt }
later table (argument ∷ arguments) call waiting last e =
    next (step table call waiting argument) (step_adds table call waiting argument) e (λ c w q. later table arguments c w last q)
  where
    next : (s : State) → Adds call s argument → fold (advance table) s arguments ≡ go last None
        → ((c : Asked) (w : Option Class) → fold (advance table) (go c w) arguments ≡ go last None → Later c.keyed arguments last.keyed) → Later call.keyed (argument ∷ arguments) last.keyed
    next (stop reason) adds q again = stops_never table reason arguments last None q
    next (go c w) (inl same) q again =
        let rest = again c w q in
        record { added = rest.added; is = rest.is ∙ ap (λ l. l ++ rest.added) same; in_order = skipped rest.added argument arguments rest.in_order }
    next (go c w) (inr more) q again =
        let rest = again c w q in
        record {
          added = more.keyed ∷ rest.added;
          is = rest.is ∙ ap (λ l. l ++ rest.added) more.more ∙ append_assoc call.keyed (more.keyed ∷ []) rest.added;
          in_order = inl (more.is, rest.in_order);
        }

pub keyed_in_order : KeyedInOrder
keyed_in_order table arguments call e =
    let all = later table arguments start None call (finished (fold (advance table) nothing_asked arguments) call e).is in
    let P : List KeyedArgument → Type 0 = λ keyed. AreInOrder (arguments_of keyed) arguments in
    subst P (sym all.is) all.in_order
