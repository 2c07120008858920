use Rattle.std.proofs.Common.{◌≡◌, ◌≤◌, ◌∙◌, ◌+◌, ◌<◌, ◌==◌, ℕ, List, [], ◌∷◌, Some, None, true, false, ap, arith, get_or, length, map, refl, slice_get, sym, subst}
use Rattle.std.specs.Option.{option_map}
use Rattle.std.proofs.lemmas.Bool.Decides.{Decides-eqb}
use Rattle.std.proofs.lemmas.List.{length-map}
use Rattle.std.proofs.lemmas.Option.{slice_get-get_or, slice_get-map, slice_get_past}
use Rattle.std.proofs.lemmas.Slice.Eq.{strip_prefix_is}
use Rattle.std.specs.Global.{Vec}
use Rattle.cck_cache_text.specs.Sets.{Adds}
use Rattle.cck_cache_text.proofs.IncludedLemmas.{given_in_next, given_in_one, given_last, given_otherwise}
use Rattle.cck_cache_text.proofs.included.add_given_to.Goals as goal

some_bytes : (r : List ℕ) → false ≡ (length r == 0) → 0 < length r
some_bytes [] e = absurd (let h : false ≡ true = e in cc)
some_bytes (x ∷ r) e = omega arith

no_bytes : (r : List ℕ) → true ≡ (length r == 0) → length r ≡ 0
no_bytes r e = (Decides-eqb (length r) 0).0 (sym e)

-- the bytes of an argument
argument_at : (all : List (Vec ℕ)) (place : ℕ) (argument : Vec ℕ) (bytes : List ℕ) → place < length all → argument ≡ get_or all place argument → bytes ≡ argument.items → slice_get (map (λ a. a.items) all) place ≡ Some bytes
argument_at all place argument bytes within is same =
    slice_get-map (λ a. a.items) all place ∙ (ap (option_map (λ a. a.items)) (slice_get-get_or all place argument within ∙ ap Some (sym is)) ∙ ap Some (sym same))

pub returns-in_default : goal.returns-in_default
returns-in_default c =
    let at = argument_at c.args.arguments.now c.args.place c.index-arguments-place.result c.deref.result.now c.requires c.index-arguments-place.is c.deref.ensures.value in
    let none = strip_prefix_is Decides-eqb c.deref.result.now c.args.option.now None c.in_default.ensures.cases in
    given_otherwise c.args.option.now (map (λ a. a.items) c.args.arguments.now) c.args.place c.deref.result.now at c.args.names.now none

pub returns-in_ok-add : goal.returns-in_ok-add
returns-in_ok-add c =
    let at = argument_at c.args.arguments.now c.args.place c.index-arguments-place.result c.deref.result.now c.requires c.index-arguments-place.is c.deref.ensures.value in
    let begins = strip_prefix_is Decides-eqb c.deref.result.now c.args.option.now (Some c.in-Some.rest) c.in-Some.ensures.cases in
    let rest = c.in-Some.rest.now in
    given_in_one c.args.option.now (map (λ a. a.items) c.args.arguments.now) c.args.place c.deref.result.now at rest begins c.args.names.now c.add.new.paths (some_bytes rest c.if-not-is_empty.ensures)
    (subst (λ (p : List ℕ). Adds (λ q. q ≡ p) c.args.names.now c.add.new.paths) (c.in_ok-to_vec.ensures.items_if_clones_equal (λ x y e. e)) c.in_ok-add.ensures)

pub returns-in_ok-add-2 : goal.returns-in_ok-add-2
returns-in_ok-add-2 c =
    let at = argument_at c.args.arguments.now c.args.place c.index-arguments-place.result c.deref.result.now c.requires c.index-arguments-place.is c.deref.ensures.value in
    let begins = strip_prefix_is Decides-eqb c.deref.result.now c.args.option.now (Some c.in-Some.rest) c.in-Some.ensures.cases in
    let rest = c.in-Some.rest.now in
    let following = c.index-arguments-next.result.items in
    let next : slice_get (map (λ a. a.items) c.args.arguments.now) (c.args.place + 1) ≡ Some following =
    argument_at c.args.arguments.now (c.args.place + 1) c.index-arguments-next.result following (omega arith) c.index-arguments-next.is refl
    in
    let copy : c.in_ok-to_vec-2.field-0.items ≡ following = c.in_ok-to_vec-2.ensures.items_if_clones_equal (λ x y e. e) ∙ c.deref-then-next-arguments.ensures.value in
    given_in_next c.args.option.now (map (λ a. a.items) c.args.arguments.now) c.args.place c.deref.result.now at rest begins c.args.names.now c.add-then-next-arguments.new.paths following
    (no_bytes rest c.if-not-is_empty.ensures) next
    (subst (λ (p : List ℕ). Adds (λ q. q ≡ p) c.args.names.now c.add-then-next-arguments.new.paths) copy c.in_ok-add-2.ensures)

pub returns-else-next-arguments : goal.returns-else-next-arguments
returns-else-next-arguments c =
    let at = argument_at c.args.arguments.now c.args.place c.index-arguments-place.result c.deref.result.now c.requires c.index-arguments-place.is c.deref.ensures.value in
    let begins = strip_prefix_is Decides-eqb c.deref.result.now c.args.option.now (Some c.in-Some.rest) c.in-Some.ensures.cases in
    let arguments = map (λ (a : Vec ℕ). a.items) c.args.arguments.now in
    let past : length arguments ≤ c.args.place + 1 = omega (arith, length-map c.args.arguments.now (λ (a : Vec ℕ). a.items)) in
    given_last c.args.option.now arguments c.args.place c.deref.result.now at c.in-Some.rest.now begins c.args.names.now (no_bytes c.in-Some.rest.now c.if-not-is_empty.ensures) (slice_get_past arguments (c.args.place + 1) past)
