-- what bytes are read as, from the left: none where they begin with nothing of the kind
use Rattle.std.specs.Prelude.{◌≡◌, ℕ, zero, suc, ◌*◌, ◌/◌, List, [], ◌∷◌, ◌++◌, length, take, drop, Option, Some, None, Result, Ok, Err, Bool, nat_lt, ◌==◌, ◌<◌, if◌then◌else◌}
use Rattle.std.specs.Int.{Width, w32, w64, byte_len, from_le_bytes, cast_signed}
use Rattle.std.specs.Str.{is_utf8}
use Rattle.std.specs.Ordering.{is_lt}
use Rattle.std.specs.List.{list_all}
use Rattle.cck_path.specs.TextOrder.{text_cmp}
use Rattle.cck_path.specs.Timestamp.{Moment}
use Rattle.cck_digest.specs.declared.entry_error.Error.{Error}
use Rattle.cck_digest.specs.declared.entry_error.Error.TheVariants.{Io, Deserialization, UnknownFormat, Memory}
use Rattle.cck_entry.specs.Results.{KeyResult}
use Rattle.cck_include.specs.Include.{Include}

infixl 10 ◌>>=◌
abbrev pub ◌>>=◌ : {A B : Type 0} → Option A → (A → Option B) → Option B
(Some x) >>= f = f x
None >>= f = None

-- What a function returned, seen by view, is what reading gives, unless memory ran out.
abbrev pub Fails : {Y : Type 0} → Error → Option Y → Type 0
Fails Memory read = Unit {0}
Fails Deserialization read = read ≡ None
Fails (Io e) read = ⊥
Fails (UnknownFormat b) read = ⊥

abbrev pub IsReadResult : {X Y : Type 0} → (X → Y) → Result X Error → Option Y → Type 0
IsReadResult view (Ok x) read = read ≡ Some (view x)
IsReadResult view (Err e) read = Fails e read

-- A field is a value and the bytes after it.
abbrev pub number_at : Width → List ℕ → Option (ℕ × List ℕ)
number_at w bytes = if nat_lt (length bytes) (byte_len w) then None else Some (from_le_bytes w (take (byte_len w) bytes), drop (byte_len w) bytes)

unfoldable pub length_prefixed_at : List ℕ → Option (List ℕ × List ℕ)
length_prefixed_at bytes = do
  n ← number_at w64 bytes
  if nat_lt (length n.1) n.0 then None else Some (take n.0 n.1, drop n.0 n.1)

unfoldable pub text_at : List ℕ → Option (List ℕ × List ℕ)
text_at bytes = do
  text ← length_prefixed_at bytes
  if is_utf8 text.0 then Some text else None

unfoldable pub moment_at : List ℕ → Option (Moment × List ℕ)
moment_at bytes = do
  seconds ← number_at w64 bytes
  nanoseconds ← number_at w32 seconds.1
  if nat_lt nanoseconds.0 1_000_000_000 then Some (record { seconds = cast_signed w64 seconds.0; nanoseconds = nanoseconds.0 }, nanoseconds.1) else None

unfoldable pub time_at : List ℕ → Option (Option Moment × List ℕ)
time_at [] = None
time_at (zero ∷ rest) = Some (None, rest)
time_at (suc zero ∷ rest) = do
  moment ← moment_at rest
  Some (Some moment.0, moment.1)
time_at (suc (suc b) ∷ rest) = None

-- the include of a path and a digest, and of what bytes after them say
abbrev pub fields_at : List ℕ → List ℕ → List ℕ → Option (Include × List ℕ)
fields_at path digest bytes = do
  size ← number_at w64 bytes
  modified ← time_at size.1
  changed ← time_at modified.1
  Some (record { path = path; digest = digest; size = size.0; modified = modified.0; changed = changed.0 }, changed.1)

unfoldable pub include_at : List ℕ → Option (Include × List ℕ)
include_at bytes = do
  path ← length_prefixed_at bytes
  digest ← text_at path.1
  fields_at path.0 digest.0 digest.1

unfoldable pub includes_at : ℕ → List ℕ → Option (List Include × List ℕ)
includes_at zero bytes = Some ([], bytes)
includes_at (suc n) bytes = do
  first ← include_at bytes
  others ← includes_at n first.1
  Some (first.0 ∷ others.0, others.1)

-- a count that the bytes left can hold, and that many includes: each has at least 26 bytes
unfoldable pub counted_at : List ℕ → Option (List Include × List ℕ)
counted_at bytes = do
  n ← number_at w64 bytes
  if nat_lt (length n.1 / 26) n.0 then None else includes_at n.0 n.1

unfoldable pub result_at : List ℕ → Option (KeyResult × List ℕ)
result_at bytes = do
  key ← text_at bytes
  includes ← counted_at key.1
  Some ((key.0, includes.0), includes.1)

-- each key so far is below this one
abbrev pub comes_after : List KeyResult → List ℕ → Bool
comes_after front key = list_all (λ r. is_lt (text_cmp r.0 key)) front

-- n results after those in front
unfoldable pub results_from : List KeyResult → ℕ → List ℕ → Option (List KeyResult × List ℕ)
results_from front zero bytes = Some (front, bytes)
results_from front (suc n) bytes = do
  first ← result_at bytes
  if comes_after front first.0.0 then results_from (front ++ first.0 ∷ []) n first.1 else None

-- all of the bytes after the version: each result has at least 16
unfoldable pub entry_at : List ℕ → Option (List KeyResult)
entry_at bytes = do
  n ← number_at w64 bytes
  if nat_lt (length n.1 / 16) n.0 then None else (results_from [] n.0 n.1 >>= λ rs. if length rs.1 == 0 then Some rs.0 else None)

-- These bytes begin with a count of results that the bytes after it can't hold.
pub record IsOvercounted (bytes : List ℕ) : Type 0 where
  pub count : ℕ
  pub left : List ℕ
  pub counted : number_at w64 bytes ≡ Some (count, left)
  pub more : length left < 16 * count
