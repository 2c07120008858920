-- The two laws of a whole entry: what is read is spelled so, and what is spelled so is read.
use Rattle.std.proofs.Common.{◌≡◌, ℕ, zero, suc, ◌*◌, ◌/◌, ◌^◌, ◌<◌, ◌≤◌, true, false, cond, eqb, ltb, List, [], ◌∷◌, ◌++◌, length, Option, Some, None, refl, sym, ap, subst, ◌∙◌, append_assoc, arith}
use Rattle.std.specs.List.{flat_map, AllByRecursion}
use Rattle.std.specs.Int.{w64, to_le_bytes}
use Rattle.std.proofs.lemmas.Bool.{eqb-true, le-ltb}
use Rattle.std.proofs.lemmas.List.{append-nil, nil_from_length, length-append}
use Rattle.std.proofs.lemmas.List.Concat.{flat_map-cons}
use Rattle.std.proofs.lemmas.Option.{same_Some}
use Rattle.cck_path.specs.Timestamp.{Moment}
use Rattle.cck_include.specs.Include.{Include}
use Rattle.cck_path.proofs.TestLemmas.{else_some, then_some}
use Rattle.cck_entry.specs.Results.{KeyResult, Fits, FitsResult}
use Rattle.cck_entry.specs.Writing.{length_prefixed, time_bytes, include_bytes, result_bytes}
use Rattle.cck_entry.specs.Reading.{◌>>=◌, number_at, text_at, include_at, includes_at, counted_at, result_at, results_from, entry_at, comes_after}
use Rattle.cck_entry.proofs.FieldLemmas.{IsBytes, bind_some, Takes, Takes-then, wide64, number_takes, number_again, text_takes, text_again, include_takes, include_again}

-- ---- includes

includes_take : (n : ℕ) (bytes : List ℕ) (x : List Include × List ℕ) → IsBytes bytes → includes_at n bytes ≡ Some x → Takes bytes (flat_map include_bytes x.0) x.1 × (length x.0 ≡ n) × AllByRecursion Fits x.0
unfolding includes_at
includes_take zero bytes x fits e =
    subst (λ (y : List Include × List ℕ). Takes bytes (flat_map include_bytes y.0) y.1 × (length y.0 ≡ 0) × AllByRecursion Fits y.0) (same_Some ([], bytes) x e) (record { parts = refl; rest_fits = fits }, refl, tt)
includes_take (suc n) bytes x fits e =
    let a = bind_some (include_at bytes) (λ first. includes_at n first.1 >>= λ others. Some (first.0 ∷ others.0, others.1)) x e in
    let b = bind_some (includes_at n a.0.1) (λ others. Some (a.0.0 ∷ others.0, others.1)) x a.2 in
    let first = include_takes bytes a.0 fits a.1 in
    let second = includes_take n a.0.1 b.0 first.0.rest_fits b.1 in
    let both = Takes-then bytes (include_bytes a.0.0) a.0.1 (flat_map include_bytes b.0.0) b.0.1 first.0 second.0 in
    let made : List Include × List ℕ = (a.0.0 ∷ b.0.0, b.0.1) in
    subst (λ (y : List Include × List ℕ). Takes bytes (flat_map include_bytes y.0) y.1 × (length y.0 ≡ suc n) × AllByRecursion Fits y.0) (same_Some made x b.2) (rw flat_map-cons both, ap suc second.1, (first.1, second.2))

includes_again : (is : List Include) (rest : List ℕ) → AllByRecursion Fits is → includes_at (length is) (flat_map include_bytes is ++ rest) ≡ Some (is, rest)
unfolding includes_at
includes_again [] rest fits = refl
includes_again (i ∷ is) rest fits =
    let regrouped : flat_map include_bytes (i ∷ is) ++ rest ≡ include_bytes i ++ (flat_map include_bytes is ++ rest) = ap (λ (x : List ℕ). x ++ rest) (flat_map-cons include_bytes i is) ∙ append_assoc (include_bytes i) (flat_map include_bytes is) rest in
    ap (includes_at (suc (length is))) regrouped ∙ rw (include_again i (flat_map include_bytes is ++ rest) fits.0, includes_again is rest fits.1) refl

-- a time takes at least a byte, and an include 26
time_long : (o : Option Moment) → 1 ≤ length (time_bytes o)
time_long None = omega arith
time_long (Some m) = omega arith

pub length_prefixed_long : (bytes : List ℕ) → 8 ≤ length (length_prefixed bytes)
length_prefixed_long bytes = omega (arith, length-append (to_le_bytes w64 (length bytes)) bytes)

include_long : (i : Include) → 26 ≤ length (include_bytes i)
include_long i =
    omega (
      arith,
      length_prefixed_long i.path,
      length_prefixed_long i.digest,
      time_long i.modified,
      time_long i.changed,
      length-append (length_prefixed i.path) (length_prefixed i.digest ++ (to_le_bytes w64 i.size ++ (time_bytes i.modified ++ time_bytes i.changed))),
      length-append (length_prefixed i.digest) (to_le_bytes w64 i.size ++ (time_bytes i.modified ++ time_bytes i.changed)),
      length-append (to_le_bytes w64 i.size) (time_bytes i.modified ++ time_bytes i.changed),
      length-append (time_bytes i.modified) (time_bytes i.changed),
    )

pub includes_long : (is : List Include) → 26 * length is ≤ length (flat_map include_bytes is)
includes_long [] = omega arith
includes_long (i ∷ is) = omega (arith, include_long i, includes_long is, length-append (include_bytes i) (flat_map include_bytes is), ap length (flat_map-cons include_bytes i is))

counted_takes : (bytes : List ℕ) (x : List Include × List ℕ) → IsBytes bytes → counted_at bytes ≡ Some x → Takes bytes (to_le_bytes w64 (length x.0) ++ flat_map include_bytes x.0) x.1 × (length x.0 < 2 ^ 64) × AllByRecursion Fits x.0
unfolding counted_at
counted_takes bytes x fits e =
    let a = bind_some (number_at w64 bytes) (λ n. cond (ltb (length n.1 / 26) n.0) None (includes_at n.0 n.1)) x e in
    let g = else_some (ltb (length a.0.1 / 26) a.0.0) (includes_at a.0.0 a.0.1) x a.2 in
    let first = number_takes w64 (2 ^ 64) wide64 bytes a.0.0 a.0.1 fits a.1 in
    let second = includes_take a.0.0 a.0.1 x first.0.rest_fits g.1 in
    let both = Takes-then bytes (to_le_bytes w64 a.0.0) a.0.1 (flat_map include_bytes x.0) x.1 first.0 second.0 in
    (subst (λ (k : ℕ). Takes bytes (to_le_bytes w64 k ++ flat_map include_bytes x.0) x.1) (sym second.1) both, omega (arith, second.1, first.1), second.2)

counted_again : (is : List Include) (rest : List ℕ) → length is < 2 ^ 64 → AllByRecursion Fits is → counted_at ((to_le_bytes w64 (length is) ++ flat_map include_bytes is) ++ rest) ≡ Some (is, rest)
unfolding counted_at
counted_again is rest lt fits =
    let regrouped = append_assoc (to_le_bytes w64 (length is)) (flat_map include_bytes is) rest in
    let room : ltb (length (flat_map include_bytes is ++ rest) / 26) (length is) ≡ false = le-ltb _ _ (omega (arith, includes_long is, length-append (flat_map include_bytes is) rest)) in
    ap counted_at regrouped ∙ rw (number_again w64 (2 ^ 64) wide64 (length is) (flat_map include_bytes is ++ rest) lt, room, includes_again is rest fits) refl

-- ---- results

result_takes : (bytes : List ℕ) (x : KeyResult × List ℕ) → IsBytes bytes → result_at bytes ≡ Some x → Takes bytes (result_bytes x.0) x.1 × FitsResult x.0
unfolding result_at
result_takes bytes x fits e =
    let a = bind_some (text_at bytes) (λ key. counted_at key.1 >>= λ includes. Some ((key.0, includes.0), includes.1)) x e in
    let b = bind_some (counted_at a.0.1) (λ includes. Some ((a.0.0, includes.0), includes.1)) x a.2 in
    let t0 = text_takes bytes a.0.0 a.0.1 fits a.1 in
    let t1 = counted_takes a.0.1 b.0 t0.0.rest_fits b.1 in
    let both = Takes-then bytes (length_prefixed a.0.0) a.0.1 (to_le_bytes w64 (length b.0.0) ++ flat_map include_bytes b.0.0) b.0.1 t0.0 t1.0 in
    let made : KeyResult × List ℕ = ((a.0.0, b.0.0), b.0.1) in
    subst (λ (y : KeyResult × List ℕ). Takes bytes (result_bytes y.0) y.1 × FitsResult y.0) (same_Some made x b.2)
    (both, record { key = t0.1; key_text = t0.2; count = t1.1; includes = t1.2 })

result_again : (r : KeyResult) (rest : List ℕ) → FitsResult r → result_at (result_bytes r ++ rest) ≡ Some (r, rest)
unfolding result_at
result_again r rest fits =
    let regrouped : result_bytes r ++ rest ≡ length_prefixed r.0 ++ ((to_le_bytes w64 (length r.1) ++ flat_map include_bytes r.1) ++ rest) = append_assoc (length_prefixed r.0) (to_le_bytes w64 (length r.1) ++ flat_map include_bytes r.1) rest in
    ap result_at regrouped ∙ rw (text_again r.0 ((to_le_bytes w64 (length r.1) ++ flat_map include_bytes r.1) ++ rest) fits.key fits.key_text, counted_again r.1 rest fits.count fits.includes) refl

-- each result has a key above those before it, and above those in front
abbrev pub Ascends : List KeyResult → List KeyResult → Type 0
Ascends front [] = Unit {0}
Ascends front (r ∷ rs) = (comes_after front r.0 ≡ true) × Ascends (front ++ r ∷ []) rs

-- what was read after those in front
record Read (front : List KeyResult) (n : ℕ) (bytes : List ℕ) (x : List KeyResult × List ℕ) : Type 0 where
  new : List KeyResult
  all : x.0 ≡ front ++ new
  text : Takes bytes (flat_map result_bytes new) x.1
  count : length new ≡ n
  each : AllByRecursion FitsResult new
  ascends : Ascends front new

results_take : (n : ℕ) (front : List KeyResult) (bytes : List ℕ) (x : List KeyResult × List ℕ) → IsBytes bytes → results_from front n bytes ≡ Some x → Read front n bytes x
unfolding results_from
results_take zero front bytes x fits e =
    subst (λ (y : List KeyResult × List ℕ). Read front 0 bytes y) (same_Some (front, bytes) x e)
    (record { new = []; all = sym (append-nil front); text = record { parts = refl; rest_fits = fits }; count = refl; each = tt; ascends = tt })
results_take (suc n) front bytes x fits e =
    let a = bind_some (result_at bytes) (λ first. cond (comes_after front first.0.0) (results_from (front ++ first.0 ∷ []) n first.1) None) x e in
    let r = a.0.0 in
    let g = then_some (comes_after front r.0) (results_from (front ++ r ∷ []) n a.0.1) x a.2 in
    let first = result_takes bytes a.0 fits a.1 in
    let others = results_take n (front ++ r ∷ []) a.0.1 x first.0.rest_fits g.1 in
    let both = Takes-then bytes (result_bytes r) a.0.1 (flat_map result_bytes others.new) x.1 first.0 others.text in
    record {
      new = r ∷ others.new;
      all = others.all ∙ append_assoc front (r ∷ []) others.new;
      text = rw flat_map-cons both;
      count = ap suc others.count;
      each = (first.1, others.each);
      ascends = (g.0, others.ascends);
    }

results_again : (rs front : List KeyResult) (rest : List ℕ) → AllByRecursion FitsResult rs → Ascends front rs → results_from front (length rs) (flat_map result_bytes rs ++ rest) ≡ Some (front ++ rs, rest)
unfolding results_from
results_again [] front rest fits up = ap (λ (all : List KeyResult). Some (all, rest)) (sym (append-nil front))
results_again (r ∷ rs) front rest fits up =
    let regrouped : flat_map result_bytes (r ∷ rs) ++ rest ≡ result_bytes r ++ (flat_map result_bytes rs ++ rest) = ap (λ (x : List ℕ). x ++ rest) (flat_map-cons result_bytes r rs) ∙ append_assoc (result_bytes r) (flat_map result_bytes rs) rest in
    ap (results_from front (suc (length rs))) regrouped
    ∙ rw (result_again r (flat_map result_bytes rs ++ rest) fits.0, up.0, results_again rs (front ++ r ∷ []) rest fits.1 up.1) (ap (λ (all : List KeyResult). Some (all, rest)) (append_assoc front (r ∷ []) rs))

result_long : (r : KeyResult) → 16 ≤ length (result_bytes r)
result_long r =
    omega (arith, length_prefixed_long r.0, length-append (length_prefixed r.0) (to_le_bytes w64 (length r.1) ++ flat_map include_bytes r.1), length-append (to_le_bytes w64 (length r.1)) (flat_map include_bytes r.1))

results_long : (rs : List KeyResult) → 16 * length rs ≤ length (flat_map result_bytes rs)
results_long [] = omega arith
results_long (r ∷ rs) = omega (arith, result_long r, results_long rs, length-append (result_bytes r) (flat_map result_bytes rs), ap length (flat_map-cons result_bytes r rs))

-- ---- all of it

-- what has a entry_bytes
pub record IsEntry (rs : List KeyResult) : Type 0 where
  pub count : length rs < 2 ^ 64
  pub each : AllByRecursion FitsResult rs
  pub ascends : Ascends [] rs

abbrev body : List KeyResult → List ℕ
body rs = to_le_bytes w64 (length rs) ++ flat_map result_bytes rs

pub entry_takes : (bytes : List ℕ) (rs : List KeyResult) → IsBytes bytes → entry_at bytes ≡ Some rs → IsEntry rs × (bytes ≡ body rs)
unfolding entry_at
entry_takes bytes rs fits e =
    let a = bind_some (number_at w64 bytes) (λ n. cond (ltb (length n.1 / 16) n.0) None (results_from [] n.0 n.1 >>= λ x. cond (eqb (length x.1) 0) (Some x.0) None)) rs e in
    let g = else_some (ltb (length a.0.1 / 16) a.0.0) (results_from [] a.0.0 a.0.1 >>= λ x. cond (eqb (length x.1) 0) (Some x.0) None) rs a.2 in
    let b = bind_some (results_from [] a.0.0 a.0.1) (λ x. cond (eqb (length x.1) 0) (Some x.0) None) rs g.1 in
    let h = then_some (eqb (length b.0.1) 0) (Some b.0.0) rs b.2 in
    let first = number_takes w64 (2 ^ 64) wide64 bytes a.0.0 a.0.1 fits a.1 in
    let second = results_take a.0.0 [] a.0.1 b.0 first.0.rest_fits b.1 in
    let nothing : b.0.1 ≡ [] = nil_from_length b.0.1 (eqb-true _ _ h.0) in
    let both = (Takes-then bytes (to_le_bytes w64 a.0.0) a.0.1 (flat_map result_bytes second.new) b.0.1 first.0 second.text).parts in
    let whole : bytes ≡ body second.new = both ∙ ap (λ (r : List ℕ). (to_le_bytes w64 a.0.0 ++ flat_map result_bytes second.new) ++ r) nothing ∙ append-nil (to_le_bytes w64 a.0.0 ++ flat_map result_bytes second.new) ∙ ap (λ (k : ℕ). to_le_bytes w64 k ++ flat_map result_bytes second.new) (sym second.count) in
    let same : second.new ≡ rs = sym second.all ∙ same_Some b.0.0 rs h.1 in
    subst (λ (v : List KeyResult). IsEntry v × (bytes ≡ body v)) same (record { count = omega (arith, second.count, first.1); each = second.each; ascends = second.ascends }, whole)

pub entry_again : (rs : List KeyResult) → IsEntry rs → entry_at (body rs) ≡ Some rs
unfolding entry_at
entry_again rs fits =
    let room : ltb (length (flat_map result_bytes rs) / 16) (length rs) ≡ false = le-ltb _ _ (omega (arith, results_long rs)) in
    let rest : results_from [] (length rs) (flat_map result_bytes rs) ≡ Some (rs, []) = ap (results_from [] (length rs)) (sym (append-nil (flat_map result_bytes rs))) ∙ results_again rs [] [] fits.each fits.ascends in
    rw (number_again w64 (2 ^ 64) wide64 (length rs) (flat_map result_bytes rs) fits.count, room, rest) refl
