-- the arguments of a call that is cached are plain
use Rattle.std.proofs.Common.{◌≡◌, ◌≢◌, ℕ, Bool, true, false, cond, ◌||◌, List, [], ◌∷◌, Option, Some, None, refl, ap, sym, ◌∙◌, inl, inr, nat_eq, codes, map, subst}
use Rattle.std.specs.Prelude.{fold}
use Rattle.std.specs.List.{AllByRecursion, list_any, starts_with}
use Rattle.std.proofs.lemmas.Bool.{false≢true}
use Rattle.std.proofs.lemmas.Bool.Decides.{Decides-eqb}
use Rattle.cck_cache_options.specs.declared.reason.Reason.{Reason}
use Rattle.cck_cache_options.specs.declared.reason.Reason.TheVariants.{ControlCharacter, EmptyArgument, ResponseFile}
use Rattle.cck_cache_options.specs.declared.table.Class.{Class}
use Rattle.cck_cache_options.specs.Table.{Entry, is_empty}
use Rattle.cck_cache_options.specs.Call.{Asked, State, advance, go, has_control, nothing_asked, refused, start, step, stop}
use Rattle.cck_cache_options.specs.Laws.{AreInOrder, IsPlain, NoneIsResponseFile, PreprocessorIsRead}
use Rattle.cck_cache_options.specs.Quote.{HasNoNul}
use Rattle.cck_cache_options.proofs.KeyedLemmas.{keyed_in_order}
use Rattle.cck_cache_options.proofs.QuoteLemmas.{preprocessor_reads}
use Rattle.cck_cache_options.proofs.StateLemmas.{finished, step_goes, stops_never}

abbrev is_none : Option Reason → Bool
is_none None = true
is_none (Some reason) = false

-- what holds where a test that gives a reason does not
record Passes (t : Bool) (rest : Option Reason) : Type 0 where
  not_met : t ≡ false
  then : rest ≡ None

passes : (t : Bool) (reason : Reason) (rest : Option Reason) → cond t (Some reason) rest ≡ None → Passes t rest
passes true reason rest e = absurd (false≢true (ap is_none e))
passes false reason rest e = record { not_met = refl; then = e }

record NoneOf (s t : Bool) : Type 0 where
  first : s ≡ false
  second : t ≡ false

none_of : (s t : Bool) → (s || t) ≡ false → NoneOf s t
none_of true t e = absurd (false≢true (sym e))
none_of false t e = record { first = refl; second = e }

differs : (a b : ℕ) → nat_eq a b ≡ false → a ≢ b
differs a b e is = false≢true (sym e ∙ (Decides-eqb a b).1 is)

none_equal : (byte : ℕ) (bytes : List ℕ) → list_any (λ b. nat_eq b byte) bytes ≡ false → AllByRecursion (λ b. b ≢ byte) bytes
none_equal byte [] e = tt
none_equal byte (b ∷ bytes) e =
    let none = none_of (nat_eq b byte) (list_any (λ x. nat_eq x byte) bytes) e in
    (differs b byte none.first, none_equal byte bytes none.second)

both : (bytes : List ℕ) → AllByRecursion (λ b. b ≢ 10) bytes → AllByRecursion (λ b. b ≢ 0) bytes → AllByRecursion (λ b. (b ≢ 10) × (b ≢ 0)) bytes
both [] p q = tt
both (b ∷ bytes) p q = ((p.0, q.0), both bytes p.1 q.1)

not_empty : (argument : List ℕ) → is_empty argument ≡ false → argument ≢ []
not_empty argument e is = false≢true (sym e ∙ ap is_empty is)

plain : (argument : List ℕ) → refused argument ≡ None → IsPlain argument
plain argument e =
    let empty = passes (is_empty argument) EmptyArgument _ e in
    let file = passes (starts_with nat_eq argument (codes "@")) ResponseFile _ empty.then in
    let control = passes (has_control argument) ControlCharacter None file.then in
    let none = none_of (list_any (λ b. nat_eq b 10) argument) (list_any (λ b. nat_eq b 0) argument) control.not_met in
    record {
      not_empty = not_empty argument empty.not_met;
      no_file = file.not_met;
      bytes = both argument (none_equal 10 argument none.first) (none_equal 0 argument none.second);
    }

all_plain : (table : List Entry) (arguments : List (List ℕ)) (call : Asked) (waiting : Option Class) (last : Asked)
    → fold (advance table) (go call waiting) arguments ≡ go last None → AllByRecursion IsPlain arguments
all_plain table [] call waiting last e = tt
all_plain table (argument ∷ arguments) call waiting last e = next (step table call waiting argument) refl e (λ c w q. all_plain table arguments c w last q)
  where
    next : (s : State) → step table call waiting argument ≡ s → fold (advance table) s arguments ≡ go last None
        → ((c : Asked) (w : Option Class) → fold (advance table) (go c w) arguments ≡ go last None → AllByRecursion IsPlain arguments) → AllByRecursion IsPlain (argument ∷ arguments)
    next (stop reason) is q again = stops_never table reason arguments last None q
    next (go c w) is q again = (plain argument (step_goes table call waiting argument c w is).plain, again c w q)

pub none_is_response_file : NoneIsResponseFile
none_is_response_file table arguments call e = all_plain table arguments start None call (finished (fold (advance table) nothing_asked arguments) call e).is

no_nul : (bytes : List ℕ) → AllByRecursion (λ b. (b ≢ 10) × (b ≢ 0)) bytes → HasNoNul bytes
no_nul [] all = tt
no_nul (b ∷ bytes) all = (all.0.1, no_nul bytes all.1)

-- what holds of all arguments holds of some of them
some_no_nul : (some arguments : List (List ℕ)) → AllByRecursion IsPlain arguments → AreInOrder some arguments → AllByRecursion HasNoNul some
some_no_nul [] arguments all order = tt
some_no_nul (first ∷ others) [] all order = absurd order
some_no_nul (first ∷ others) (argument ∷ arguments) all (inl here) =
    (subst HasNoNul (sym here.0) (no_nul argument all.0.bytes), some_no_nul others arguments all.1 here.1)
some_no_nul (first ∷ others) (argument ∷ arguments) all (inr later) = some_no_nul (first ∷ others) arguments all.1 later

pub preprocessor_is_read : PreprocessorIsRead
preprocessor_is_read table arguments call e =
    preprocessor_reads call.keyed
    (some_no_nul (map (λ k. k.argument) call.keyed) arguments (none_is_response_file table arguments call e) (keyed_in_order table arguments call e))
