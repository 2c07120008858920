-- the row of an argument has the longest name
use Rattle.std.proofs.Common.{◌≡◌, ◌≤◌, ◌⊎◌, ℕ, Bool, true, false, cond, ◌&&◌, List, [], ◌∷◌, Option, Some, None, refl, ap, sym, ◌∙◌, inl, inr, arith, length}
use Rattle.std.specs.Prelude.{fold, nat_lt}
use Rattle.std.specs.List.{AllByRecursion}
use Rattle.std.proofs.lemmas.Bool.{false≢true}
use Rattle.std.proofs.lemmas.Bool.Decides.{nat_tests}
use Rattle.cck_cache_options.specs.Table.{Entry, better, fits, is_longer, longest}
use Rattle.cck_cache_options.specs.Laws.{IsIn, IsLongest, LongestIsFound}

abbrev NotLess : Option Entry → Option Entry → Type 0
NotLess None r = Unit {0}
NotLess (Some b) None = ⊥
NotLess (Some b) (Some r) = length b.name ≤ length r.name

abbrev Bound : List ℕ → Option Entry → Entry → Type 0
Bound argument None o = fits o argument ≡ false
Bound argument (Some r) o = fits o argument ≡ true → length o.name ≤ length r.name

abbrev From : List ℕ → Option Entry → List Entry → Option Entry → Type 0
From argument best table None = Unit {0}
From argument best table (Some e) = (fits e argument ≡ true) × (IsIn e table ⊎ (best ≡ Some e))

abbrev Fits : List ℕ → Option Entry → Type 0
Fits argument None = Unit {0}
Fits argument (Some b) = fits b argument ≡ true

record Better (argument : List ℕ) (best : Option Entry) (o : Entry) (next : Option Entry) : Type 0 where
  not_less : NotLess best next
  bound : Bound argument next o
  fit : Fits argument next
  one : (next ≡ best) ⊎ (next ≡ Some o)

not_less_self : (best : Option Entry) → NotLess best best
not_less_self None = tt
not_less_self (Some b) = omega arith

le_of_not_lt : (a b : ℕ) → nat_lt a b ≡ false → b ≤ a
le_of_not_lt a b h = grind (arith, nat_tests)

le_of_lt_test : (a b : ℕ) → nat_lt a b ≡ true → a ≤ b
le_of_lt_test a b h = grind (arith, nat_tests)

one_better : (argument : List ℕ) (best : Option Entry) (o : Entry) → Fits argument best → Better argument best o (better argument best o)
one_better argument best o fit = by_fit (fits o argument) refl best fit
  where
    by_fit : (t : Bool) → fits o argument ≡ t → (old : Option Entry) → Fits argument old → Better argument old o (cond (t && is_longer o old) (Some o) old)
    by_fit false e None f = record { not_less = tt; bound = e; fit = tt; one = inl refl }
    by_fit false e (Some b) f = record { not_less = not_less_self (Some b); bound = λ q. absurd (false≢true (sym e ∙ q)); fit = f; one = inl refl }
    by_fit true e None f = record { not_less = tt; bound = λ q. not_less_self (Some o); fit = e; one = inr refl }
    by_fit true e (Some b) f = by_length (nat_lt (length b.name) (length o.name)) refl
      where
        by_length : (t : Bool) → nat_lt (length b.name) (length o.name) ≡ t → Better argument (Some b) o (cond t (Some o) (Some b))
        by_length true l = record { not_less = le_of_lt_test (length b.name) (length o.name) l; bound = λ q. not_less_self (Some o); fit = e; one = inr refl }
        by_length false l = record { not_less = not_less_self (Some b); bound = λ q. le_of_not_lt (length b.name) (length o.name) l; fit = f; one = inl refl }

not_less_both : (a b c : Option Entry) → NotLess a b → NotLess b c → NotLess a c
not_less_both None b c p q = tt
not_less_both (Some a) None c p q = absurd p
not_less_both (Some a) (Some b) None p q = absurd q
not_less_both (Some a) (Some b) (Some c) p q = omega arith

bound_more : (argument : List ℕ) (o : Entry) (a b : Option Entry) → Bound argument a o → NotLess a b → Bound argument b o
bound_more argument o None None p q = p
bound_more argument o None (Some b) p q = λ t. absurd (false≢true (sym p ∙ t))
bound_more argument o (Some a) None p q = absurd q
bound_more argument o (Some a) (Some b) p q = λ t. let le : length o.name ≤ length a.name = p t in omega arith

record Found (argument : List ℕ) (best : Option Entry) (table : List Entry) (r : Option Entry) : Type 0 where
  not_less : NotLess best r
  bounds : AllByRecursion (Bound argument r) table
  from : From argument best table r

from_self : (argument : List ℕ) (best : Option Entry) → Fits argument best → From argument best [] best
from_self argument None fit = tt
from_self argument (Some b) fit = (fit, inr refl)

abbrev entry_or : Entry → Option Entry → Entry
entry_or d None = d
entry_or d (Some x) = x

some_same : (a b : Entry) → Some a ≡ Some b → a ≡ b
some_same a b q = ap (entry_or a) q

from_more : (argument : List ℕ) (best next : Option Entry) (o : Entry) (table : List Entry) (r : Option Entry) → (next ≡ best) ⊎ (next ≡ Some o) → From argument next table r → From argument best (o ∷ table) r
from_more argument best next o table None one from = tt
from_more argument best next o table (Some e) one from = (from.0, by from.1 one)
  where
    by : IsIn e table ⊎ (next ≡ Some e) → (next ≡ best) ⊎ (next ≡ Some o) → IsIn e (o ∷ table) ⊎ (best ≡ Some e)
    by (inl in_rest) one = inl (inr in_rest)
    by (inr is) (inl kept) = inr (sym kept ∙ is)
    by (inr is) (inr new) = inl (inl (some_same e o (sym is ∙ new)))

found : (argument : List ℕ) (table : List Entry) (best : Option Entry) → Fits argument best → Found argument best table (fold (better argument) best table)
found argument [] best fit = record { not_less = not_less_self best; bounds = tt; from = from_self argument best fit }
found argument (o ∷ table) best fit =
    let one = one_better argument best o fit in
    let next = better argument best o in
    let rest = found argument table next one.fit in
    record {
      not_less = not_less_both best next (fold (better argument) next table) one.not_less rest.not_less;
      bounds = (bound_more argument o next (fold (better argument) next table) one.bound rest.not_less, rest.bounds);
      from = from_more argument best next o table (fold (better argument) next table) one.one rest.from;
    }

abbrev is_there : Option Entry → Bool
is_there None = false
is_there (Some x) = true

is_longest : (table : List Entry) (argument : List ℕ) (r : Option Entry) → AllByRecursion (Bound argument r) table → From argument None table r → IsLongest table argument r
is_longest table argument None bounds from = bounds
is_longest table argument (Some e) bounds from = (from.0, by from.1, bounds)
  where
    by : IsIn e table ⊎ (None ≡ Some e) → IsIn e table
    by (inl h) = h
    by (inr q) = absurd (false≢true (ap is_there q))

pub longest_is_found : LongestIsFound
longest_is_found table argument =
    let all = found argument table None tt in
    is_longest table argument (longest table argument) all.bounds all.from
