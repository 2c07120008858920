-- The state of a finder after another piece.
use Rattle.std.proofs.Common.{◌≡◌, ℕ, ◌+◌, ◌<◌, ◌≤◌, ◌↔◌, List, [], ◌++◌, ◌⊎◌, inl, inr, Bool, true, false, IsTrue, Option, Some, None, is_some, length, take, drop, refl, sym, ap, ◌∙◌, arith, subst, length-append}
use Rattle.std.proofs.Math.Seq.{drop-append_seam, take-append_seam}
use Rattle.std.proofs.lemmas.List.{take-append-drop}
use Rattle.std.proofs.lemmas.Bool.{cases_lt}
use Rattle.memchr.specs.Find.{FindsNeedle, OccursAt}
use Rattle.memchr.proofs.lemmas.MatchLemmas.{OccursAt-split, OccursAt-from_part}
use Rattle.cck_digest.specs.TimeMacros.{Has, last_bytes, Follows, Seen, time_macro, date_macro, timestamp_macro}
use Rattle.cck_digest.proofs.FindLemmas.{Has-append, last_bytes-long, last_bytes-short}

-- an empty text contains no word of at least one byte
Has-nothing : (w : List ℕ) → 0 < length w → Has [] w → ⊥
Has-nothing w h (a, b, e) =
    let whole = ap length e in
    omega (arith, length-append a (w ++ b), length-append w b)

occurs : (text w a b : List ℕ) → text ≡ a ++ (w ++ b) → OccursAt text w (length a)
occurs text w a b e =
    let whole = ap length e in
    OccursAt-from_part text w (length a) (omega (arith, length-append a (w ++ b), length-append w b))
    (rw (e, drop-append_seam a (w ++ b)) (take-append_seam w b))

-- a search finds a word exactly if the text contains it
pub Has-found : (text w : List ℕ) (r : Option ℕ) → FindsNeedle text w 0 r → IsTrue (is_some r) ↔ Has text w
Has-found text w (Some k) f = (
  λ q. (take k text, drop (k + length w) text, sym (take-append-drop k text) ∙ ap (λ x. take k text ++ x) (OccursAt-split text w k f.1)),
  λ q. refl,
)
Has-found text w None f = (
  λ q. cc,
  λ (a, b, e). let at = occurs text w a b e in let fits = at.fits in absurd (f (length a) (omega arith) (omega arith) at),
)

-- a finder of an empty stream
pub Follows-nothing : (seen : Seen) → seen.time ≡ false → seen.date ≡ false → seen.timestamp ≡ false → seen.tail ≡ [] → Follows seen []
Follows-nothing seen t d s e = record {
  time = none seen.time time_macro t (omega arith);
  date = none seen.date date_macro d (omega arith);
  timestamp = none seen.timestamp timestamp_macro s (omega arith);
  tail = e;
}
  where
    none : (b : Bool) (w : List ℕ) → b ≡ false → 0 < length w → IsTrue b ↔ Has [] w
    none true w e h = cc
    none false w e h = (λ q. cc, λ q. absurd (Has-nothing w h q))

step : (was now : Bool) (stream piece across w : List ℕ) → length w ≤ 13 → across ≡ last_bytes stream ++ take 12 piece
    → IsTrue was ↔ Has stream w → IsTrue now ↔ (IsTrue was ⊎ (Has across w ⊎ Has piece w)) → IsTrue now ↔ Has (stream ++ piece) w
step was now stream piece across w h e before after =
    let whole = Has-append stream piece w h in (
      λ q. elim (after.0 q) [
        | inl x ↦ whole.1 (inl (before.0 x))
        | inr y ↦ elim y [ inl x ↦ whole.1 (inr (inl (subst (λ z. Has z w) e x))) | inr x ↦ whole.1 (inr (inr x)) ]
      ],
      λ q. elim (whole.0 q) [
        | inl x ↦ after.1 (inl (before.1 x))
        | inr y ↦ elim y [ inl x ↦ after.1 (inr (inl (subst (λ z. Has z w) (sym e) x))) | inr x ↦ after.1 (inr (inr x)) ]
      ],
    )

-- a flag after two searches
both : (was between now : Bool) (A B : Type 0) → IsTrue between ↔ (IsTrue was ⊎ A) → IsTrue now ↔ (IsTrue between ⊎ B) → IsTrue now ↔ (IsTrue was ⊎ (A ⊎ B))
both was between now A B first second = (
  λ q. elim (second.0 q) [
    | inl x ↦ elim (first.0 x) [ inl y ↦ inl y | inr y ↦ inr (inl y) ]
    | inr x ↦ inr (inr x)
  ],
  λ q. elim q [
    | inl x ↦ second.1 (inl (first.1 (inl x)))
    | inr r ↦ elim r [ inl x ↦ second.1 (inl (first.1 (inr x))) | inr x ↦ second.1 (inr x) ]
  ],
)

-- the flags after a search of this text
pub record Marks (old new : Seen) (text : List ℕ) : Type 0 where
  pub time : IsTrue new.time ↔ (IsTrue old.time ⊎ Has text time_macro)
  pub date : IsTrue new.date ↔ (IsTrue old.date ⊎ Has text date_macro)
  pub timestamp : IsTrue new.timestamp ↔ (IsTrue old.timestamp ⊎ Has text timestamp_macro)

-- a finder after another piece
pub Follows-append : (seen between after : Seen) (stream piece across : List ℕ)
    → Follows seen stream
    → across ≡ seen.tail ++ take 12 piece
    → Marks seen between across
    → Marks between after piece
    → (tail : List ℕ)
    → (12 ≤ length piece → tail ≡ last_bytes piece)
    → (length piece < 12 → tail ≡ last_bytes across)
    → Follows (record after { tail = tail }) (stream ++ piece)
Follows-append seen between after stream piece across f e first second tail long short =
    let joins : across ≡ last_bytes stream ++ take 12 piece = e ∙ ap (λ x. x ++ take 12 piece) f.tail in
    record {
      time = step _ _ stream piece across time_macro (omega arith) joins f.time (both _ _ _ _ _ first.time second.time);
      date = step _ _ stream piece across date_macro (omega arith) joins f.date (both _ _ _ _ _ first.date second.date);
      timestamp = step _ _ stream piece across timestamp_macro (omega arith) joins f.timestamp (both _ _ _ _ _ first.timestamp second.timestamp);
      tail = elim (cases_lt (length piece) 12) [
        | inl lt ↦ short lt ∙ (ap last_bytes joins ∙ last_bytes-short stream piece (omega arith))
        | inr ge ↦ long ge ∙ sym (last_bytes-long stream piece ge)
      ];
    }
