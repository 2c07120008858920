-- A field that is read is the field that was written, and what was written is read again.
use Rattle.std.proofs.Common.{◌≡◌, ℕ, zero, suc, ◌+◌, ◌^◌, ◌<◌, ◌≤◌, true, false, cond, ltb, List, [], ◌∷◌, ◌++◌, length, get_or, take, drop, Option, Some, None, refl, sym, ap, subst, ◌∙◌, append_assoc, arith, inl, inr}
use Rattle.std.specs.Prelude.{IfSome, FitsSigned}
use Rattle.std.specs.Str.{is_utf8}
use Rattle.std.specs.Int.{Width, w32, w64, byte_len, from_le_bytes, to_le_bytes, cast_signed, cast_unsigned}
use Rattle.std.proofs.lemmas.Bool.{cases_lt, ltb-false, ltb-true, le-ltb, lt-ltb}
use Rattle.std.proofs.lemmas.Int.{to_z-of_z, of_z-to_z}
use Rattle.std.proofs.Math.Facts.{sfits_to_z}
use Rattle.std.proofs.lemmas.List.{take_at, drop_at, take-append-drop, length-append, length-take, get_or-drop, get_or-take, get_or_past}
use Rattle.std.proofs.lemmas.Nat.{le_bytes_4, le_bytes_8, from_le_bytes-to_le_bytes_4, from_le_bytes-to_le_bytes_8}
use Rattle.std.proofs.lemmas.Option.{same_Some}
use Rattle.cck_path.specs.Timestamp.{Moment}
use Rattle.cck_include.specs.Include.{Include}
use Rattle.cck_include.proofs.NumberLemmas.{long_bits_small}
use Rattle.cck_path.proofs.TestLemmas.{then_some, else_some}
use Rattle.cck_entry.specs.Results.{FitsMoment, Fits}
use Rattle.cck_entry.specs.Writing.{length_prefixed, moment_bytes, time_bytes, include_bytes}
use Rattle.cck_entry.specs.Reading.{◌>>=◌, number_at, length_prefixed_at, text_at, moment_at, time_at, include_at}

abbrev pub IsBytes : List ℕ → Type 0
IsBytes bytes = (i : ℕ) → get_or bytes i 0 < 256

IsBytes-drop : (n : ℕ) (bytes : List ℕ) → IsBytes bytes → IsBytes (drop n bytes)
IsBytes-drop n bytes h i = rw get_or-drop (h (n + i))

IsBytes-take : (n : ℕ) (bytes : List ℕ) → IsBytes bytes → IsBytes (take n bytes)
IsBytes-take n bytes h i =
    elim (cases_lt i n) [
      | inl lt ↦ rw (get_or-take n bytes i 0 lt) (h i)
      | inr le ↦ rw (get_or_past (take n bytes) i 0 (omega (arith, length-take n bytes))) (omega arith)
    ]

-- the value of a step that gave one
pub bind_some : {A B : Type 0} (r : Option A) (f : A → Option B) (y : B) → (r >>= f) ≡ Some y → (x : A) × (r ≡ Some x) × (f x ≡ Some y)
bind_some (Some x) f y e = (x, refl, e)
bind_some None f y e = absurd cc

-- what a reader took from the front
pub record Takes (bytes text rest : List ℕ) : Type 0 where
  pub parts : bytes ≡ text ++ rest
  pub rest_fits : IsBytes rest

pub Takes-then : (a x b y c : List ℕ) → Takes a x b → Takes b y c → Takes a (x ++ y) c
Takes-then a x b y c p q = record { parts = p.parts ∙ ap (λ (t : List ℕ). x ++ t) q.parts ∙ sym (append_assoc x y c); rest_fits = q.rest_fits }

-- ---- numbers

pub record IsWide (w : Width) (limit : ℕ) : Type 0 where
  pub len : (n : ℕ) → length (to_le_bytes w n) ≡ byte_len w
  pub back : (bytes : List ℕ) → length bytes ≡ byte_len w → IsBytes bytes → to_le_bytes w (from_le_bytes w bytes) ≡ bytes
  pub again : (n : ℕ) → n < limit → from_le_bytes w (to_le_bytes w n) ≡ n
  pub below : (bytes : List ℕ) → IsBytes bytes → from_le_bytes w bytes < limit

pub wide32 : IsWide w32 (2 ^ 32)
wide32 = record {
  len = λ n. refl;
  back = λ bytes len fits. le_bytes_4 bytes _ len fits refl;
  again = λ n lt. from_le_bytes-to_le_bytes_4 n lt;
  below = λ bytes fits. omega (arith, fits 0, fits 1, fits 2, fits 3);
}

pub wide64 : IsWide w64 (2 ^ 64)
wide64 = record {
  len = λ n. refl;
  back = λ bytes len fits. le_bytes_8 bytes _ len fits refl;
  again = λ n lt. from_le_bytes-to_le_bytes_8 n lt;
  below = λ bytes fits. omega (arith, fits 0, fits 1, fits 2, fits 3, fits 4, fits 5, fits 6, fits 7);
}

pub number_takes : (w : Width) (limit : ℕ) (wide : IsWide w limit) (bytes : List ℕ) (n : ℕ) (rest : List ℕ) → IsBytes bytes → number_at w bytes ≡ Some (n, rest) → Takes bytes (to_le_bytes w n) rest × (n < limit)
number_takes w limit wide bytes n rest fits e =
    let g = else_some (ltb (length bytes) (byte_len w)) (Some (from_le_bytes w (take (byte_len w) bytes), drop (byte_len w) bytes)) (n, rest) e in
    let same = same_Some (from_le_bytes w (take (byte_len w) bytes), drop (byte_len w) bytes) (n, rest) g.1 in
    let long : byte_len w ≤ length bytes = ltb-false _ _ g.0 in
    let n-is : from_le_bytes w (take (byte_len w) bytes) ≡ n = ap (λ (p : ℕ × List ℕ). p.0) same in
    let rest-is : drop (byte_len w) bytes ≡ rest = ap (λ (p : ℕ × List ℕ). p.1) same in
    let front : to_le_bytes w n ≡ take (byte_len w) bytes = rw (← n-is) (wide.back (take (byte_len w) bytes) (omega (arith, length-take (byte_len w) bytes)) (IsBytes-take (byte_len w) bytes fits)) in
    (record { parts = rw (front, ← rest-is) (sym (take-append-drop (byte_len w) bytes)); rest_fits = rw (← rest-is) (IsBytes-drop (byte_len w) bytes fits) }, rw (← n-is) (wide.below (take (byte_len w) bytes) (IsBytes-take (byte_len w) bytes fits)))

pub number_again : (w : Width) (limit : ℕ) (wide : IsWide w limit) (n : ℕ) (rest : List ℕ) → n < limit → number_at w (to_le_bytes w n ++ rest) ≡ Some (n, rest)
number_again w limit wide n rest lt =
    let len = wide.len n in
    let long : ltb (length (to_le_bytes w n ++ rest)) (byte_len w) ≡ false = le-ltb _ _ (omega (arith, length-append (to_le_bytes w n) rest)) in
    rw (long, take_at (to_le_bytes w n) rest (byte_len w) len, drop_at (to_le_bytes w n) rest (byte_len w) len, wide.again n lt) refl

-- ---- length_prefixed bytes, and text

pub length_prefixed_takes : (bytes text rest : List ℕ) → IsBytes bytes → length_prefixed_at bytes ≡ Some (text, rest) → Takes bytes (length_prefixed text) rest × (length text < 2 ^ 64)
unfolding length_prefixed_at
length_prefixed_takes bytes text rest fits e =
    let b = bind_some (number_at w64 bytes) (λ n. cond (ltb (length n.1) n.0) None (Some (take n.0 n.1, drop n.0 n.1))) (text, rest) e in
    let n = b.0 in
    let t = number_takes w64 (2 ^ 64) wide64 bytes n.0 n.1 fits b.1 in
    let g = else_some (ltb (length n.1) n.0) (Some (take n.0 n.1, drop n.0 n.1)) (text, rest) b.2 in
    let long : n.0 ≤ length n.1 = ltb-false _ _ g.0 in
    let len : length (take n.0 n.1) ≡ n.0 = omega (arith, length-take n.0 n.1) in
    let second : Takes n.1 (take n.0 n.1) (drop n.0 n.1) = record { parts = sym (take-append-drop n.0 n.1); rest_fits = IsBytes-drop n.0 n.1 t.0.rest_fits } in
    let both = Takes-then bytes (to_le_bytes w64 n.0) n.1 (take n.0 n.1) (drop n.0 n.1) t.0 second in
    let whole : Takes bytes (length_prefixed (take n.0 n.1)) (drop n.0 n.1) = subst (λ (k : ℕ). Takes bytes (to_le_bytes w64 k ++ take n.0 n.1) (drop n.0 n.1)) (sym len) both in
    subst (λ (p : List ℕ × List ℕ). Takes bytes (length_prefixed p.0) p.1 × (length p.0 < 2 ^ 64)) (same_Some (take n.0 n.1, drop n.0 n.1) (text, rest) g.1) (whole, omega (arith, t.1))

pub length_prefixed_again : (text rest : List ℕ) → length text < 2 ^ 64 → length_prefixed_at (length_prefixed text ++ rest) ≡ Some (text, rest)
unfolding length_prefixed_at
length_prefixed_again text rest lt =
    let long : ltb (length (text ++ rest)) (length text) ≡ false = le-ltb _ _ (omega (arith, length-append text rest)) in
    rw (number_again w64 (2 ^ 64) wide64 (length text) (text ++ rest) lt, long, take_at text rest (length text) refl, drop_at text rest (length text) refl) refl

pub text_takes : (bytes text rest : List ℕ) → IsBytes bytes → text_at bytes ≡ Some (text, rest) → Takes bytes (length_prefixed text) rest × (length text < 2 ^ 64) × (is_utf8 text ≡ true)
unfolding text_at
text_takes bytes text rest fits e =
    let b = bind_some (length_prefixed_at bytes) (λ t. cond (is_utf8 t.0) (Some t) None) (text, rest) e in
    let g = then_some (is_utf8 b.0.0) (Some b.0) (text, rest) b.2 in
    let t = length_prefixed_takes bytes b.0.0 b.0.1 fits b.1 in
    subst (λ (p : List ℕ × List ℕ). Takes bytes (length_prefixed p.0) p.1 × (length p.0 < 2 ^ 64) × (is_utf8 p.0 ≡ true)) (same_Some b.0 (text, rest) g.1) (t.0, t.1, g.0)

pub text_again : (text rest : List ℕ) → length text < 2 ^ 64 → is_utf8 text ≡ true → text_at (length_prefixed text ++ rest) ≡ Some (text, rest)
unfolding text_at
text_again text rest lt utf8 = rw (length_prefixed_again text rest lt, utf8) refl

-- ---- times

pub moment_takes : (bytes : List ℕ) (m : Moment) (rest : List ℕ) → IsBytes bytes → moment_at bytes ≡ Some (m, rest) → Takes bytes (moment_bytes m) rest × FitsMoment m
unfolding moment_at
moment_takes bytes m rest fits e =
    let a = bind_some (number_at w64 bytes) (λ s. number_at w32 s.1 >>= λ n. cond (ltb n.0 1_000_000_000) (Some (record { seconds = cast_signed w64 s.0; nanoseconds = n.0 }, n.1)) None) (m, rest) e in
    let b = bind_some (number_at w32 a.0.1) (λ n. cond (ltb n.0 1_000_000_000) (Some (record { seconds = cast_signed w64 a.0.0; nanoseconds = n.0 }, n.1)) None) (m, rest) a.2 in
    let made : Moment × List ℕ = (record { seconds = cast_signed w64 a.0.0; nanoseconds = b.0.0 }, b.0.1) in
    let g = then_some (ltb b.0.0 1_000_000_000) (Some made) (m, rest) b.2 in
    let t0 = number_takes w64 (2 ^ 64) wide64 bytes a.0.0 a.0.1 fits a.1 in
    let t1 = number_takes w32 (2 ^ 32) wide32 a.0.1 b.0.0 b.0.1 t0.0.rest_fits b.1 in
    let both = Takes-then bytes (to_le_bytes w64 a.0.0) a.0.1 (to_le_bytes w32 b.0.0) b.0.1 t0.0 t1.0 in
    let back : cast_unsigned w64 (cast_signed w64 a.0.0) ≡ a.0.0 = of_z-to_z w64 a.0.0 t0.1 in
    let signed : Takes bytes (moment_bytes made.0) made.1 = subst (λ (k : ℕ). Takes bytes (to_le_bytes w64 k ++ to_le_bytes w32 b.0.0) b.0.1) (sym back) both in
    let in_range : FitsSigned w64 (cast_signed w64 a.0.0) = sfits_to_z {w = w64} {n = a.0.0} (record { fits = t0.1 }) in
    subst (λ (p : Moment × List ℕ). Takes bytes (moment_bytes p.0) p.1 × FitsMoment p.0) (same_Some made (m, rest) g.1) (signed, (in_range, ltb-true _ _ g.0))

pub moment_again : (m : Moment) (rest : List ℕ) → FitsMoment m → moment_at (moment_bytes m ++ rest) ≡ Some (m, rest)
unfolding moment_at
moment_again m rest h =
    let small : cast_unsigned w64 m.seconds < 2 ^ 64 = long_bits_small m.seconds h.0 in
    let regrouped : moment_bytes m ++ rest ≡ to_le_bytes w64 (cast_unsigned w64 m.seconds) ++ (to_le_bytes w32 m.nanoseconds ++ rest) = append_assoc (to_le_bytes w64 (cast_unsigned w64 m.seconds)) (to_le_bytes w32 m.nanoseconds) rest in
    let below : ltb m.nanoseconds 1_000_000_000 ≡ true = lt-ltb _ _ h.1 in
    ap moment_at regrouped ∙ rw (number_again w64 (2 ^ 64) wide64 (cast_unsigned w64 m.seconds) (to_le_bytes w32 m.nanoseconds ++ rest) small, number_again w32 (2 ^ 32) wide32 m.nanoseconds rest (omega (arith, h.1)), below, to_z-of_z w64 m.seconds h.0) refl

IsBytes-rest : (b : ℕ) (bytes : List ℕ) → IsBytes (b ∷ bytes) → IsBytes bytes
IsBytes-rest b bytes h i = h (suc i)

pub time_takes : (bytes : List ℕ) (o : Option Moment) (rest : List ℕ) → IsBytes bytes → time_at bytes ≡ Some (o, rest) → Takes bytes (time_bytes o) rest × IfSome o FitsMoment
unfolding time_at
time_takes [] o rest fits e = absurd cc
time_takes (zero ∷ bytes) o rest fits e =
    subst (λ (x : Option Moment × List ℕ). Takes (0 ∷ bytes) (time_bytes x.0) x.1 × IfSome x.0 FitsMoment) (same_Some (None, bytes) (o, rest) e) (record { parts = refl; rest_fits = IsBytes-rest 0 bytes fits }, tt)
time_takes (suc zero ∷ bytes) o rest fits e =
    let b = bind_some (moment_at bytes) (λ m. Some (Some m.0, m.1)) (o, rest) e in
    let t = moment_takes bytes b.0.0 b.0.1 (IsBytes-rest 1 bytes fits) b.1 in
    subst (λ (x : Option Moment × List ℕ). Takes (1 ∷ bytes) (time_bytes x.0) x.1 × IfSome x.0 FitsMoment) (same_Some (Some b.0.0, b.0.1) (o, rest) b.2) (record { parts = ap (λ (w : List ℕ). 1 ∷ w) t.0.parts; rest_fits = t.0.rest_fits }, t.1)
time_takes (suc (suc b) ∷ bytes) o rest fits e = absurd cc

pub time_again : (o : Option Moment) (rest : List ℕ) → IfSome o FitsMoment → time_at (time_bytes o ++ rest) ≡ Some (o, rest)
unfolding time_at
time_again None rest h = refl
time_again (Some m) rest h = rw (moment_again m rest h) refl

-- ---- includes

pub include_takes : (bytes : List ℕ) (x : Include × List ℕ) → IsBytes bytes → include_at bytes ≡ Some x → Takes bytes (include_bytes x.0) x.1 × Fits x.0
unfolding include_at
include_takes bytes x fits e =
    let a = bind_some (length_prefixed_at bytes) (λ path. text_at path.1 >>= λ digest. number_at w64 digest.1 >>= λ size. time_at size.1 >>= λ modified. time_at modified.1 >>= λ changed. Some (record { path = path.0; digest = digest.0; size = size.0; modified = modified.0; changed = changed.0 }, changed.1)) x e in
    let b = bind_some (text_at a.0.1) (λ digest. number_at w64 digest.1 >>= λ size. time_at size.1 >>= λ modified. time_at modified.1 >>= λ changed. Some (record { path = a.0.0; digest = digest.0; size = size.0; modified = modified.0; changed = changed.0 }, changed.1)) x a.2 in
    let c = bind_some (number_at w64 b.0.1) (λ size. time_at size.1 >>= λ modified. time_at modified.1 >>= λ changed. Some (record { path = a.0.0; digest = b.0.0; size = size.0; modified = modified.0; changed = changed.0 }, changed.1)) x b.2 in
    let d = bind_some (time_at c.0.1) (λ modified. time_at modified.1 >>= λ changed. Some (record { path = a.0.0; digest = b.0.0; size = c.0.0; modified = modified.0; changed = changed.0 }, changed.1)) x c.2 in
    let f = bind_some (time_at d.0.1) (λ changed. Some (record { path = a.0.0; digest = b.0.0; size = c.0.0; modified = d.0.0; changed = changed.0 }, changed.1)) x d.2 in
    let t0 = length_prefixed_takes bytes a.0.0 a.0.1 fits a.1 in
    let t1 = text_takes a.0.1 b.0.0 b.0.1 t0.0.rest_fits b.1 in
    let t2 = number_takes w64 (2 ^ 64) wide64 b.0.1 c.0.0 c.0.1 t1.0.rest_fits c.1 in
    let t3 = time_takes c.0.1 d.0.0 d.0.1 t2.0.rest_fits d.1 in
    let t4 = time_takes d.0.1 f.0.0 f.0.1 t3.0.rest_fits f.1 in
    let e34 = Takes-then c.0.1 (time_bytes d.0.0) d.0.1 (time_bytes f.0.0) f.0.1 t3.0 t4.0 in
    let e24 = Takes-then b.0.1 (to_le_bytes w64 c.0.0) c.0.1 (time_bytes d.0.0 ++ time_bytes f.0.0) f.0.1 t2.0 e34 in
    let e14 = Takes-then a.0.1 (length_prefixed b.0.0) b.0.1 (to_le_bytes w64 c.0.0 ++ (time_bytes d.0.0 ++ time_bytes f.0.0)) f.0.1 t1.0 e24 in
    let e04 = Takes-then bytes (length_prefixed a.0.0) a.0.1 (length_prefixed b.0.0 ++ (to_le_bytes w64 c.0.0 ++ (time_bytes d.0.0 ++ time_bytes f.0.0))) f.0.1 t0.0 e14 in
    let made : Include × List ℕ = (record { path = a.0.0; digest = b.0.0; size = c.0.0; modified = d.0.0; changed = f.0.0 }, f.0.1) in
    subst (λ (y : Include × List ℕ). Takes bytes (include_bytes y.0) y.1 × Fits y.0) {x = made} (same_Some made x f.2)
    (e04, record { path = t0.1; digest = t1.1; digest_text = t1.2; size = t2.1; modified = t3.1; changed = t4.1 })

pub include_again : (i : Include) (rest : List ℕ) → Fits i → include_at (include_bytes i ++ rest) ≡ Some (i, rest)
unfolding include_at
include_again i rest fits =
    let tail = time_bytes i.modified ++ time_bytes i.changed in
    let e3 : tail ++ rest ≡ time_bytes i.modified ++ (time_bytes i.changed ++ rest) = append_assoc (time_bytes i.modified) (time_bytes i.changed) rest in
    let e2 : (to_le_bytes w64 i.size ++ tail) ++ rest ≡ to_le_bytes w64 i.size ++ (time_bytes i.modified ++ (time_bytes i.changed ++ rest)) = append_assoc (to_le_bytes w64 i.size) tail rest ∙ ap (λ (x : List ℕ). to_le_bytes w64 i.size ++ x) e3 in
    let e1 : (length_prefixed i.digest ++ (to_le_bytes w64 i.size ++ tail)) ++ rest ≡ length_prefixed i.digest ++ (to_le_bytes w64 i.size ++ (time_bytes i.modified ++ (time_bytes i.changed ++ rest))) = append_assoc (length_prefixed i.digest) (to_le_bytes w64 i.size ++ tail) rest ∙ ap (λ (x : List ℕ). length_prefixed i.digest ++ x) e2 in
    let e0 : include_bytes i ++ rest ≡ length_prefixed i.path ++ (length_prefixed i.digest ++ (to_le_bytes w64 i.size ++ (time_bytes i.modified ++ (time_bytes i.changed ++ rest)))) = append_assoc (length_prefixed i.path) (length_prefixed i.digest ++ (to_le_bytes w64 i.size ++ tail)) rest ∙ ap (λ (x : List ℕ). length_prefixed i.path ++ x) e1 in
    ap include_at e0 ∙ rw (
      length_prefixed_again i.path (length_prefixed i.digest ++ (to_le_bytes w64 i.size ++ (time_bytes i.modified ++ (time_bytes i.changed ++ rest)))) fits.path,
      text_again i.digest (to_le_bytes w64 i.size ++ (time_bytes i.modified ++ (time_bytes i.changed ++ rest))) fits.digest fits.digest_text,
      number_again w64 (2 ^ 64) wide64 i.size (time_bytes i.modified ++ (time_bytes i.changed ++ rest)) fits.size,
      time_again i.modified (time_bytes i.changed ++ rest) fits.modified,
      time_again i.changed rest fits.changed,
    ) refl
