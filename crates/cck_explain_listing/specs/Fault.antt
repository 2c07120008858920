-- where bytes stop being an entry, and why: fields are read from the left, up to the first that is wrong
use Rattle.std.specs.Prelude.{◌≡◌, ℕ, zero, suc, ◌-◌, ◌/◌, ◌==◌, [], ◌∷◌, ◌++◌, Bool, true, Option, Some, None, Result, Ok, Err, length, nat_lt, ok_or, take, if◌then◌else◌}
use Rattle.std.specs.Int.{Width, w32, w64}
use Rattle.std.specs.Ordering.{is_lt}
use Rattle.std.specs.Str.{is_utf8}
use Rattle.cck_entry.specs.Reading.{length_prefixed_at, number_at}
use Rattle.cck_path.specs.Bytes.{Bytes}
use Rattle.cck_path.specs.TextOrder.{text_cmp}
use Rattle.cck_include.specs.Include.{format_version}
use Rattle.cck_explain_listing.specs.declared.fault.Cause.{Cause}
use Rattle.cck_explain_listing.specs.declared.fault.Cause.TheVariants.{UnknownFormat, TooShort, TooMany, NotUtf8, UnknownTime, TooManyNanoseconds, KeyOrder, Trailing}
use Rattle.cck_explain_listing.specs.declared.fault.Fault.{Fault}
use Rattle.cck_explain_listing.specs.declared.fault.Stop.{Stop}

-- the bytes from the first wrong field on, and what is wrong with it
abbrev pub Wrong : Type 0
Wrong = Bytes × Cause

-- what was returned, seen by view, is what is defined
abbrev pub Is : {X A : Type 0} → (X → A) → Result X Stop → Result A Wrong → Type 0
Is view (Ok x) read = read ≡ Ok (view x)
Is view (Err stop) read = read ≡ Err (stop.left.now, stop.cause)

-- what is read and the bytes after it; or the first wrong field
abbrev pub Field : Type 0 → Type 0
Field A = Result (A × Bytes) Wrong

-- a field, and then what follows it
abbrev pub and_then : {A B : Type 0} → Result A Wrong → (A → Result B Wrong) → Result B Wrong
and_then (Ok x) f = f x
and_then (Err w) f = Err w

abbrev pub number_in : Width → Bytes → Field ℕ
number_in w bytes = ok_or (number_at w bytes) (bytes, TooShort)

-- a count of things that each take at least this many bytes
abbrev pub count_in : ℕ → Bytes → Field ℕ
count_in least bytes = and_then (number_in w64 bytes) (λ n. if nat_lt (length n.1 / least) n.0 then Err (bytes, TooMany) else Ok n)

abbrev pub bytes_in : Bytes → Field Bytes
bytes_in bytes = ok_or (length_prefixed_at bytes) (bytes, TooShort)

abbrev pub text_in : Bytes → Field Bytes
text_in bytes = and_then (bytes_in bytes) (λ text. if is_utf8 text.0 then Ok text else Err (bytes, NotUtf8))

-- the bytes after seconds and nanoseconds
unfoldable pub after_moment : Bytes → Result Bytes Wrong
after_moment bytes = and_then (number_in w64 bytes) (λ seconds. and_then (number_in w32 seconds.1)
    (λ nanoseconds. if nat_lt nanoseconds.0 1_000_000_000 then Ok nanoseconds.1 else Err (seconds.1, TooManyNanoseconds)))

-- the bytes after a time or none
unfoldable pub after_time : Bytes → Result Bytes Wrong
after_time [] = Err ([], TooShort)
after_time (zero ∷ rest) = Ok rest
after_time (suc zero ∷ rest) = after_moment rest
after_time (suc (suc b) ∷ rest) = Err (suc (suc b) ∷ rest, UnknownTime)

-- the bytes after an include: its path, digest, size and two times
unfoldable pub after_include : Bytes → Result Bytes Wrong
after_include bytes = and_then (bytes_in bytes) (λ path. and_then (text_in path.1) (λ digest. and_then (number_in w64 digest.1)
    (λ size. and_then (after_time size.1) after_time)))

-- the bytes after n includes
unfoldable pub after_includes : ℕ → Bytes → Result Bytes Wrong
after_includes zero bytes = Ok bytes
after_includes (suc n) bytes = and_then (after_include bytes) (after_includes n)

-- the bytes after a count of includes, and these
unfoldable pub after_counted : Bytes → Result Bytes Wrong
after_counted bytes = and_then (count_in 26 bytes) (λ count. after_includes count.0 count.1)

-- whether a key is greater than the one before it, if there is one
abbrev pub comes_next : Option Bytes → Bytes → Bool
comes_next None key = true
comes_next (Some previous) key = is_lt (text_cmp previous key)

-- the bytes after n results, the first of which comes after this key
unfoldable pub after_results : Option Bytes → ℕ → Bytes → Result Bytes Wrong
after_results previous zero bytes = Ok bytes
after_results previous (suc n) bytes = and_then (text_in bytes)
    (λ key. if comes_next previous key.0 then and_then (after_counted key.1) (after_results (Some key.0) n) else Err (bytes, KeyOrder))

-- nothing is left
abbrev pub at_end : Bytes → Option Wrong
at_end [] = None
at_end (byte ∷ rest) = Some (byte ∷ rest, Trailing)

-- the first wrong field of n results, or what is after them
abbrev pub wrong_after : Result Bytes Wrong → Option Wrong
wrong_after (Ok rest) = at_end rest
wrong_after (Err w) = Some w

-- the first wrong field of bytes, if there is one
unfoldable pub wrong_in : Bytes → Option Wrong
wrong_in [] = None
wrong_in (format ∷ rest) =
    if format == format_version then wrong_after (and_then (count_in 16 rest) (λ count. after_results None count.0 count.1))
    else Some (format ∷ rest, UnknownFormat)

-- the offset of the first wrong field and what is wrong with it; for bytes without one their end, as too short
abbrev pub fault_at : Bytes → Option Wrong → Fault
fault_at bytes None = record { offset = length bytes; cause = TooShort }
fault_at bytes (Some w) = record { offset = length bytes - length w.0; cause = w.1 }

-- the first wrong field is where the bytes before its offset end
abbrev pub WrongIsPlaced : Type 0
WrongIsPlaced = (bytes : Bytes) (w : Wrong) → wrong_in bytes ≡ Some w → bytes ≡ take (length bytes - length w.0) bytes ++ w.0
