-- what is left after fields is the end of the bytes
use Rattle.std.proofs.Common.{◌≡◌, ℕ, zero, suc, ◌-◌, ◌/◌, ◌==◌, [], ◌∷◌, ◌++◌, Bool, true, false, cond, Option, Some, None, Result, Ok, Err, MatchResult, length, take, drop, nat_lt, refl, sym, ap, subst, ◌∙◌, append_assoc, arith, length-append, take-append-drop}
use Rattle.std.proofs.Math.Seq.{take-append_seam}
use Rattle.std.specs.Int.{Width, byte_len, from_le_bytes, w32, w64}
use Rattle.std.specs.Prelude.{ok_or}
use Rattle.std.specs.Str.{is_utf8}
use Rattle.cck_entry.specs.Reading.{◌>>=◌, length_prefixed_at}
use Rattle.cck_path.specs.Bytes.{Bytes}
use Rattle.cck_include.specs.Include.{format_version}
use Rattle.cck_explain_listing.specs.Fault.{Field, Wrong, WrongIsPlaced, after_counted, after_include, after_includes, after_moment, after_results, after_time, and_then, bytes_in, comes_next, count_in, number_in, text_in, wrong_after, wrong_in}
use Rattle.cck_explain_listing.specs.declared.fault.Cause.TheVariants.{KeyOrder, NotUtf8, TooMany, TooManyNanoseconds, TooShort, Trailing, UnknownFormat}

-- these bytes end with those
IsEnd : Bytes → Bytes → Type 0
IsEnd bytes rest = (front : Bytes) × (bytes ≡ front ++ rest)

itself : (bytes : Bytes) → IsEnd bytes bytes
unfolding IsEnd
itself bytes = ([], refl)

longer : (a b c : Bytes) → IsEnd a b → IsEnd b c → IsEnd a c
unfolding IsEnd
longer a b c p q = (p.0 ++ q.0, p.1 ∙ ap (λ l. p.0 ++ l) q.1 ∙ sym (append_assoc (p.0) (q.0) c))

one_more : (byte : ℕ) (rest end : Bytes) → IsEnd rest end → IsEnd (byte ∷ rest) end
unfolding IsEnd
one_more byte rest end p = (byte ∷ p.0, ap (λ l. byte ∷ l) p.1)

dropped : (n : ℕ) (bytes : Bytes) → IsEnd bytes (drop n bytes)
unfolding IsEnd
dropped n bytes = (take n bytes, sym (take-append-drop n bytes))

-- what is left, or the bytes from a wrong field on, are the end of the bytes
abbrev Rests : Bytes → Result Bytes Wrong → Type 0
Rests bytes r = MatchResult r (IsEnd bytes) (λ w. IsEnd bytes w.0)

abbrev RestsAfter : {A : Type 0} → Bytes → Field A → Type 0
RestsAfter bytes r = MatchResult r (λ x. IsEnd bytes x.1) (λ w. IsEnd bytes w.0)

from : (a b : Bytes) (r : Result Bytes Wrong) → IsEnd a b → Rests b r → Rests a r
from a b (Ok rest) p q = longer a b rest p q
from a b (Err w) p q = longer a b w.0 p q

chained : {A : Type 0} (bytes : Bytes) (r : Field A) (f : A × Bytes → Result Bytes Wrong) → RestsAfter bytes r → ((x : A × Bytes) → Rests x.1 (f x)) → Rests bytes (and_then r f)
chained bytes (Ok x) f p q = from bytes x.1 (f x) p (q x)
chained bytes (Err w) f p q = p

chained_rest : (bytes : Bytes) (r : Result Bytes Wrong) (f : Bytes → Result Bytes Wrong) → Rests bytes r → ((rest : Bytes) → Rests rest (f rest)) → Rests bytes (and_then r f)
chained_rest bytes (Ok rest) f p q = from bytes rest (f rest) p (q rest)
chained_rest bytes (Err w) f p q = p

number_rests : (w : Width) (bytes : Bytes) → RestsAfter bytes (number_in w bytes)
number_rests w bytes = go (nat_lt (length bytes) (byte_len w))
  where
    go : (b : Bool) → RestsAfter bytes (ok_or (cond b None (Some (from_le_bytes w (take (byte_len w) bytes), drop (byte_len w) bytes))) (bytes, TooShort))
    go true = itself bytes
    go false = dropped (byte_len w) bytes

count_rests : (least : ℕ) (bytes : Bytes) → RestsAfter bytes (count_in least bytes)
count_rests least bytes = go (number_in w64 bytes) (number_rests w64 bytes)
  where
    go : (r : Field ℕ) → RestsAfter bytes r → RestsAfter bytes (and_then r (λ n. cond (nat_lt (length n.1 / least) n.0) (Err (bytes, TooMany)) (Ok n)))
    go (Err w) p = p
    go (Ok n) p = by (nat_lt (length n.1 / least) n.0)
      where
        by : (b : Bool) → RestsAfter bytes (cond b (Err (bytes, TooMany)) (Ok n))
        by true = itself bytes
        by false = p

bytes_rests : (bytes : Bytes) → RestsAfter bytes (bytes_in bytes)
unfolding length_prefixed_at
bytes_rests bytes = go (nat_lt (length bytes) (byte_len w64))
  where
    by : (b : Bool) (n : ℕ) → RestsAfter bytes (ok_or (cond b None (Some (take n (drop (byte_len w64) bytes), drop n (drop (byte_len w64) bytes)))) (bytes, TooShort))
    by true n = itself bytes
    by false n = longer bytes (drop (byte_len w64) bytes) (drop n (drop (byte_len w64) bytes)) (dropped (byte_len w64) bytes) (dropped n (drop (byte_len w64) bytes))

    go : (b : Bool) → let number : ℕ × Bytes = (from_le_bytes w64 (take (byte_len w64) bytes), drop (byte_len w64) bytes) in
        let cut : ℕ × Bytes → Option (Bytes × Bytes) = λ n. cond (nat_lt (length n.1) n.0) None (Some (take n.0 n.1, drop n.0 n.1)) in
        RestsAfter bytes (ok_or (cond b None (Some number) >>= cut) (bytes, TooShort))
    go true = itself bytes
    go false = by (nat_lt (length (drop (byte_len w64) bytes)) (from_le_bytes w64 (take (byte_len w64) bytes))) (from_le_bytes w64 (take (byte_len w64) bytes))

text_rests : (bytes : Bytes) → RestsAfter bytes (text_in bytes)
text_rests bytes = go (bytes_in bytes) (bytes_rests bytes)
  where
    go : (r : Field Bytes) → RestsAfter bytes r → RestsAfter bytes (and_then r (λ text. cond (is_utf8 text.0) (Ok text) (Err (bytes, NotUtf8))))
    go (Err w) p = p
    go (Ok text) p = by (is_utf8 text.0)
      where
        by : (b : Bool) → RestsAfter bytes (cond b (Ok text) (Err (bytes, NotUtf8)))
        by true = p
        by false = itself bytes

moment_rests : (bytes : Bytes) → Rests bytes (after_moment bytes)
unfolding after_moment
moment_rests bytes = chained bytes (number_in w64 bytes) _ (number_rests w64 bytes) (λ seconds. go seconds.1 (number_in w32 seconds.1) (number_rests w32 seconds.1))
  where
    go : (rest : Bytes) (r : Field ℕ) → RestsAfter rest r
        → Rests rest (and_then r (λ nanoseconds. cond (nat_lt nanoseconds.0 1_000_000_000) (Ok nanoseconds.1) (Err (rest, TooManyNanoseconds))))
    go rest (Err w) p = p
    go rest (Ok n) p = by (nat_lt n.0 1_000_000_000)
      where
        by : (b : Bool) → Rests rest (cond b (Ok n.1) (Err (rest, TooManyNanoseconds)))
        by true = p
        by false = itself rest

time_rests : (bytes : Bytes) → Rests bytes (after_time bytes)
unfolding after_time
time_rests [] = itself []
time_rests (zero ∷ rest) = one_more zero rest rest (itself rest)
time_rests (suc zero ∷ rest) = go (after_moment rest) (moment_rests rest)
  where
    go : (r : Result Bytes Wrong) → Rests rest r → Rests (1 ∷ rest) r
    go (Ok after) p = one_more 1 rest after p
    go (Err w) p = one_more 1 rest w.0 p
time_rests (suc (suc b) ∷ rest) = itself (suc (suc b) ∷ rest)

include_rests : (bytes : Bytes) → Rests bytes (after_include bytes)
unfolding after_include
include_rests bytes =
    chained bytes (bytes_in bytes) _ (bytes_rests bytes) (λ path.
    chained path.1 (text_in path.1) _ (text_rests path.1) (λ digest.
    chained digest.1 (number_in w64 digest.1) _ (number_rests w64 digest.1) (λ size.
    chained_rest size.1 (after_time size.1) after_time (time_rests size.1) time_rests)))

includes_rests : (n : ℕ) (bytes : Bytes) → Rests bytes (after_includes n bytes)
unfolding after_includes
includes_rests zero bytes = itself bytes
includes_rests (suc n) bytes = chained_rest bytes (after_include bytes) (after_includes n) (include_rests bytes) (includes_rests n)

counted_rests : (bytes : Bytes) → Rests bytes (after_counted bytes)
unfolding after_counted
counted_rests bytes = chained bytes (count_in 26 bytes) _ (count_rests 26 bytes) (λ count. includes_rests count.0 count.1)

results_rests : (n : ℕ) (previous : Option Bytes) (bytes : Bytes) → Rests bytes (after_results previous n bytes)
unfolding after_results
results_rests zero previous bytes = itself bytes
results_rests (suc n) previous bytes = go (text_in bytes) (text_rests bytes) (results_rests n)
  where
    go : (r : Field Bytes) → RestsAfter bytes r → ((p : Option Bytes) (rest : Bytes) → Rests rest (after_results p n rest))
        → Rests bytes (and_then r (λ key. cond (comes_next previous key.0) (and_then (after_counted key.1) (after_results (Some key.0) n)) (Err (bytes, KeyOrder))))
    go (Err w) p others = p
    go (Ok key) p others = by (comes_next previous key.0)
      where
        by : (b : Bool) → Rests bytes (cond b (and_then (after_counted key.1) (after_results (Some key.0) n)) (Err (bytes, KeyOrder)))
        by true = from bytes key.1 (and_then (after_counted key.1) (after_results (Some key.0) n)) p
            (chained_rest key.1 (after_counted key.1) (after_results (Some key.0) n) (counted_rests key.1) (others (Some key.0)))
        by false = itself bytes

-- an end of bytes begins where the bytes before it end
placed : (bytes rest : Bytes) → IsEnd bytes rest → bytes ≡ take (length bytes - length rest) bytes ++ rest
unfolding IsEnd
placed bytes rest p =
    let size : length bytes - length rest ≡ length (p.0) = let e = ap length p.1 in let n = length-append (p.0) rest in omega (arith, e, n) in
    p.1 ∙ ap (λ l. l ++ rest) (sym (ap (take (length bytes - length rest)) p.1 ∙ ap (λ n. take n (p.0 ++ rest)) size ∙ take-append_seam (p.0) rest))

some_same : (v w : Wrong) → Some v ≡ Some w → v ≡ w
some_same v w e = cc

wrong_rests : (bytes : Bytes) (w : Wrong) → wrong_in bytes ≡ Some w → IsEnd bytes w.0
unfolding wrong_in
wrong_rests [] w e = absurd cc
wrong_rests (format ∷ rest) w e =
    go (format == format_version) (and_then (count_in 16 rest) (λ count. after_results None count.0 count.1))
    (chained rest (count_in 16 rest) _ (count_rests 16 rest) (λ count. results_rests count.0 None count.1)) e
  where
    all : Bytes
    all = format ∷ rest

    is : (v : Wrong) → IsEnd all v.0 → Some v ≡ Some w → IsEnd all w.0
    is v p q = subst (λ x. IsEnd all x.0) (some_same v w q) p

    go : (b : Bool) (r : Result Bytes Wrong) → Rests rest r → cond b (wrong_after r) (Some (all, UnknownFormat)) ≡ Some w → IsEnd all w.0
    go false r p q = is (all, UnknownFormat) (itself all) q
    go true (Err v) p q = is v (one_more format rest v.0 p) q
    go true (Ok []) p q = absurd cc
    go true (Ok (byte ∷ more)) p q = is (byte ∷ more, Trailing) (one_more format rest (byte ∷ more) p) q

pub wrong_is_placed : WrongIsPlaced
wrong_is_placed bytes w e = placed bytes w.0 (wrong_rests bytes w e)
