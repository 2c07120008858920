-- the states of a reading
use Rattle.std.proofs.Common.{◌≡◌, ℕ, Bool, true, false, cond, List, [], ◌∷◌, Option, Some, None, refl, ap, sym, ◌∙◌, subst}
use Rattle.std.specs.Prelude.{fold, not}
use Rattle.std.proofs.lemmas.Bool.{false≢true}
use Rattle.cck_cache_options.specs.declared.reason.Reason.{Reason}
use Rattle.cck_cache_options.specs.declared.reason.Reason.TheVariants.{DependencyOptions, NotCompiling}
use Rattle.cck_cache_options.specs.declared.table.Class.{Class}
use Rattle.cck_cache_options.specs.Table.{Entry}
use Rattle.cck_cache_options.specs.Call.{Asked, Outcome, State, advance, asks, conclude_with, finish, go, is_contrary, passed, refused, on_argument, step, step_unless, stop}
use Rattle.cck_cache_options.specs.Parts.{IsWhole}

abbrev pub goes : State → Bool
goes (stop reason) = false
goes (go call waiting) = true

pub never : {T : Type 0} (reason : Reason) (call : Asked) (waiting : Option Class) → stop reason ≡ go call waiting → T
never reason call waiting e = absurd (false≢true (ap goes e))

pub stops : (table : List Entry) (reason : Reason) (arguments : List (List ℕ)) → fold (advance table) (stop reason) arguments ≡ stop reason
stops table reason [] = refl
stops table reason (argument ∷ arguments) = stops table reason arguments

pub stops_never : {T : Type 0} (table : List Entry) (reason : Reason) (arguments : List (List ℕ)) (call : Asked) (waiting : Option Class)
    → fold (advance table) (stop reason) arguments ≡ go call waiting → T
stops_never table reason arguments call waiting e = never reason call waiting (sym (stops table reason arguments) ∙ e)

-- an argument after which the reading goes on is not refused
pub record Goes (table : List Entry) (call : Asked) (waiting : Option Class) (argument : List ℕ) (next : State) : Type 0 where
  pub plain : refused argument ≡ None
  pub is : on_argument table call waiting argument ≡ next

pub step_goes : (table : List Entry) (call : Asked) (waiting : Option Class) (argument : List ℕ) (c : Asked) (w : Option Class)
    → step table call waiting argument ≡ go c w → Goes table call waiting argument (go c w)
step_goes table call waiting argument c w e = by_refused (refused argument) refl e
  where
    by_refused : (r : Option Reason) → refused argument ≡ r → step_unless r table call waiting argument ≡ go c w → Goes table call waiting argument (go c w)
    by_refused (Some reason) is q = never reason c w q
    by_refused None is q = record { plain = is; is = q }

abbrev asks_some : Outcome → Bool
asks_some (asks call) = true
asks_some (passed reason) = false

abbrev asked_or : Asked → Outcome → Asked
asked_or other (asks call) = call
asked_or other (passed reason) = other

abbrev is_given : Option (List ℕ) → Bool
is_given None = false
is_given (Some bytes) = true

pub record Finished (state : State) (call : Asked) : Type 0 where
  pub is : state ≡ go call None
  pub whole : IsWhole call

whole : (call other : Asked) (input : Option (List ℕ)) → call.input ≡ input → conclude_with call input ≡ asks other → IsWhole call × (call ≡ other)
whole call other None input e = absurd (false≢true (ap asks_some e))
whole call other (Some path) input e = by_compiles call.compiles refl e
  where
    given : call.input ≡ None → ⊥
    given none = false≢true (sym (ap is_given none) ∙ ap is_given input)

    by_contrary : call.compiles ≡ true → (t : Bool) → is_contrary call ≡ t → cond t (passed DependencyOptions) (asks call) ≡ asks other → IsWhole call × (call ≡ other)
    by_contrary compiles true contrary q = absurd (false≢true (ap asks_some q))
    by_contrary compiles false contrary q = (record { compiles = compiles; input = given; dependencies = contrary }, ap (asked_or call) q)

    by_compiles : (t : Bool) → call.compiles ≡ t → cond (not t) (passed NotCompiling) (cond (is_contrary call) (passed DependencyOptions) (asks call)) ≡ asks other → IsWhole call × (call ≡ other)
    by_compiles false compiles q = absurd (false≢true (ap asks_some q))
    by_compiles true compiles q = by_contrary compiles (is_contrary call) refl q

pub finished : (state : State) (call : Asked) → finish state ≡ asks call → Finished state call
finished (stop reason) call e = absurd (false≢true (ap asks_some e))
finished (go c (Some class)) call e = absurd (false≢true (ap asks_some e))
finished (go c None) call e =
    let w = whole c call c.input refl e in
    record { is = ap (λ a. go a None) w.1; whole = subst IsWhole w.1 w.0 }
