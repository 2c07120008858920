-- the cuts before a place, one place after the other
use Rattle.std.proofs.Common.{◌≡◌, ℕ, zero, suc, ◌+◌, ◌-◌, ◌<◌, ◌≤◌, ◌||◌, ◌&&◌, not, List, [], ◌∷◌, ◌++◌, Bool, true, false, cond, nat_lt, refl, sym, ap, ◌∙◌, arith, map}
use Rattle.std.specs.List.{list_any}
use Rattle.std.proofs.lemmas.Bool.{le-ltb, lt-ltb}
use Rattle.std.proofs.lemmas.List.{map-append}
use Rattle.cck_strip.specs.Cuts.{cuts_below}
use Rattle.cck_strip.specs.CutList.{cut_at}
use Rattle.cck_strip.specs.declared.cut_list.Cut.{Cut}

-- whether one of these cuts reaches past a place
abbrev pub reaches : (ℕ → ℕ) → List ℕ → ℕ → Bool
reaches site cuts k = list_any (λ i. nat_lt k (i + site i)) cuts

-- these are the cuts before a place, and none reaches past it
pub record Walked (site : ℕ → ℕ) (at : ℕ) (cuts : List Cut) : Type 0 where
  pub are : cuts ≡ map (cut_at site) (cuts_below site at)
  pub ended : (k : ℕ) → at ≤ k → reaches site (cuts_below site at) k ≡ false

reaches-push : (site : ℕ → ℕ) (cuts : List ℕ) (i k : ℕ) → reaches site (cuts ++ i ∷ []) k ≡ (reaches site cuts k || nat_lt k (i + site i))
reaches-push site [] i k = either (nat_lt k (i + site i))
  where
    either : (b : Bool) → (b || false) ≡ (false || b)
    either true = refl
    either false = refl
reaches-push site (c ∷ cuts) i k = ap (λ b. nat_lt k (c + site c) || b) (reaches-push site cuts i k) ∙ grouped (nat_lt k (c + site c)) (reaches site cuts k) (nat_lt k (i + site i))
  where
    grouped : (a b c : Bool) → (a || (b || c)) ≡ ((a || b) || c)
    grouped true b c = refl
    grouped false b c = refl

is_lt : (m n : ℕ) → m < n → nat_lt m n ≡ true
is_lt m n h = lt-ltb m n h

not_lt : (m n : ℕ) → n ≤ m → nat_lt m n ≡ false
not_lt m n h = le-ltb m n h

-- a place with a site that no cut before it reaches is a cut
pub next_cut : (site : ℕ → ℕ) (at : ℕ) → reaches site (cuts_below site at) at ≡ false → 0 < site at → cuts_below site (suc at) ≡ cuts_below site at ++ at ∷ []
next_cut site at none some =
    ap (λ b. cond (b && not (reaches site (cuts_below site at) at)) (cuts_below site at ++ at ∷ []) (cuts_below site at)) (is_lt 0 (site at) some)
    ∙ ap (λ b. cond (not b) (cuts_below site at ++ at ∷ []) (cuts_below site at)) none

-- a place without a site is no cut
pub no_cut : (site : ℕ → ℕ) (at : ℕ) → site at ≡ 0 → cuts_below site (suc at) ≡ cuts_below site at
no_cut site at none = ap (λ n. cond (nat_lt 0 n && not (reaches site (cuts_below site at) at)) (cuts_below site at ++ at ∷ []) (cuts_below site at)) none

-- a place inside a cut is no cut
inside : (site : ℕ → ℕ) (at : ℕ) → reaches site (cuts_below site at) at ≡ true → cuts_below site (suc at) ≡ cuts_below site at
inside site at past =
    ap (λ b. cond (nat_lt 0 (site at) && not b) (cuts_below site at ++ at ∷ []) (cuts_below site at)) past
    ∙ neither (nat_lt 0 (site at)) (cuts_below site at ++ at ∷ []) (cuts_below site at)
  where
    neither : (b : Bool) (xs ys : List ℕ) → cond (b && false) xs ys ≡ ys
    neither true xs ys = refl
    neither false xs ys = refl

right : (a b : Bool) → b ≡ true → (a || b) ≡ true
right true b e = refl
right false b e = e

-- within a cut there are no others
skipped : (site : ℕ → ℕ) (at n : ℕ) → reaches site (cuts_below site at) at ≡ false → n < site at → cuts_below site (suc at + n) ≡ cuts_below site at ++ at ∷ []
skipped site at zero none more = let e : suc at + 0 ≡ suc at = omega arith in rw e (next_cut site at none (omega arith))
skipped site at (suc n) none more =
    let before : cuts_below site (suc at + n) ≡ cuts_below site at ++ at ∷ [] = skipped site at n none (omega arith) in
    let past : reaches site (cuts_below site (suc at + n)) (suc at + n) ≡ true =
    ap (λ cuts. reaches site cuts (suc at + n)) before ∙ reaches-push site (cuts_below site at) at (suc at + n)
    ∙ right (reaches site (cuts_below site at) (suc at + n)) (nat_lt (suc at + n) (at + site at)) (is_lt (suc at + n) (at + site at) (omega arith)) in
    let e : suc at + suc n ≡ suc (suc at + n) = omega arith in
    rw e (inside site (suc at + n) past ∙ before)

-- after a cut
cuts_after : (site : ℕ → ℕ) (at : ℕ) → reaches site (cuts_below site at) at ≡ false → 0 < site at → cuts_below site (at + site at) ≡ cuts_below site at ++ at ∷ []
cuts_after site at none some =
    let e : at + site at ≡ suc at + (site at - 1) = omega arith in
    ap (cuts_below site) e ∙ skipped site at (site at - 1) none (omega arith)

-- nothing is walked
pub walked_none : (site : ℕ → ℕ) → Walked site 0 []
walked_none site = record { are = refl; ended = λ k h. refl }

-- past a place without a site
pub walked_past : (site : ℕ → ℕ) (at : ℕ) (cuts : List Cut) → Walked site at cuts → site at ≡ 0 → Walked site (at + 1) cuts
walked_past site at cuts w none =
    let e : at + 1 ≡ suc at = omega arith in
    let same = no_cut site at none in
    rw e (record {
      are = w.are ∙ ap (map (cut_at site)) (sym same);
      ended = λ k h. ap (λ l. reaches site l k) same ∙ w.ended k (omega arith);
    })

-- past a cut
pub walked_cut : (site : ℕ → ℕ) (at length : ℕ) (cuts : List Cut) → Walked site at cuts → length ≡ site at → 0 < length
    → Walked site (at + length) (cuts ++ record { offset = at; length = length } ∷ [])
walked_cut site at length cuts w is some =
    let all = cuts_after site at (w.ended at (omega arith)) (omega arith) in
    rw is (record {
      are = ap (λ l. l ++ cut_at site at ∷ []) w.are ∙ sym (ap (map (cut_at site)) all ∙ map-append (cut_at site) (cuts_below site at) (at ∷ []));
      ended = λ k h.
          ap (λ l. reaches site l k) all ∙ reaches-push site (cuts_below site at) at k
          ∙ ap (λ b. b || nat_lt k (at + site at)) (w.ended k (omega arith)) ∙ not_lt k (at + site at) h;
    })
