-- Reading includes one after the other, as a loop does.
use Rattle.std.proofs.Common.{◌≡◌, ℕ, zero, suc, ◌-◌, ◌+◌, ◌≤◌, ◌<◌, List, [], ◌∷◌, length, Option, Some, None, IsSome, refl, sym, ap, subst, ◌∙◌, arith}
use Rattle.std.specs.Option.{option_map}
use Rattle.cck_digest.specs.declared.entry_error.Error.{Error}
use Rattle.cck_digest.specs.declared.entry_error.Error.TheVariants.{Io, Deserialization, UnknownFormat, Memory}
use Rattle.cck_include.specs.Include.{Include}
use Rattle.cck_entry.proofs.Utf8Lemmas.{begins}
use Rattle.cck_entry.specs.Lent.{includes_read, includes_begun}
use Rattle.cck_entry.specs.Reading.{◌>>=◌, Fails, include_at, includes_at}

abbrev Read : Type 0
Read = Option (List Include × List ℕ)

-- the includes after one
abbrev with_one : Include → Read → Read
with_one n read = read >>= λ x. Some (n ∷ x.0, x.1)

-- the bytes after them
abbrev following : Read → Option (List ℕ)
following read = option_map (λ x. x.1) read

next_at : (count i : ℕ) (bytes : List ℕ) (n : Include) (after : List ℕ) → i < count → include_at bytes ≡ Some (n, after)
    → includes_at (count - i) bytes ≡ with_one n (includes_at (count - (i + 1)) after)
unfolding includes_at
next_at count i bytes n after lt h =
    let k : count - i ≡ suc (count - (i + 1)) = omega arith in
    rw (k, h) refl

none_at : (count i : ℕ) (bytes : List ℕ) → i < count → include_at bytes ≡ None → includes_at (count - i) bytes ≡ None
unfolding includes_at
none_at count i bytes lt h =
    let k : count - i ≡ suc (count - (i + 1)) = omega arith in
    rw (k, h) refl

done_at : (count i : ℕ) (bytes : List ℕ) → count ≤ i → includes_at (count - i) bytes ≡ Some ([], bytes)
unfolding includes_at
done_at count i bytes le =
    let k : count - i ≡ 0 = omega arith in
    rw k refl

-- ---- the bytes after them

same_after : (n : Include) (read : Read) → following (with_one n read) ≡ following read
same_after n (Some x) = refl
same_after n None = refl

pub skips_on : (count i : ℕ) (bytes : List ℕ) (n : Include) (after : List ℕ) (total : Option (List ℕ)) → i < count → include_at bytes ≡ Some (n, after)
    → following (includes_at (count - i) bytes) ≡ total → following (includes_at (count - (i + 1)) after) ≡ total
skips_on count i bytes n after total lt h so_far =
    sym (ap following (next_at count i bytes n after lt h) ∙ same_after n (includes_at (count - (i + 1)) after)) ∙ so_far

pub ends : (e : Error) (count i : ℕ) (bytes : List ℕ) (total : Option (List ℕ)) → i < count → Fails e (include_at bytes) → following (includes_at (count - i) bytes) ≡ total → Fails e total
ends Memory count i bytes total lt h so_far = tt
ends Deserialization count i bytes total lt h so_far = sym so_far ∙ ap following (none_at count i bytes lt h)
ends (Io e) count i bytes total lt h so_far = h
ends (UnknownFormat b) count i bytes total lt h so_far = h

pub is_after : (count i : ℕ) (bytes : List ℕ) (total : Option (List ℕ)) → count ≤ i → following (includes_at (count - i) bytes) ≡ total → total ≡ Some bytes
is_after count i bytes total le so_far = sym so_far ∙ ap following (done_at count i bytes le)

-- ---- includes that are known to be readable

-- if there is one, it is readable
pub begun_one : (count i : ℕ) (bytes : List ℕ) → i < count → IsSome (includes_at (count - i) bytes) → IsSome (include_at bytes)
unfolding includes_at
begun_one count i bytes lt h =
    let k : count - i ≡ suc (count - (i + 1)) = omega arith in
    begins (include_at bytes) (λ first. includes_at (count - (i + 1)) first.1 >>= λ others. Some (first.0 ∷ others.0, others.1))
    (subst (λ (n : ℕ). IsSome (includes_at n bytes)) k h)

pub first_is_readable : (count : ℕ) (bytes : List ℕ) → 0 < count → IsSome (includes_at count bytes) → IsSome (include_at bytes)
first_is_readable count bytes some h =
    let all : count - 0 ≡ count = omega arith in
    begun_one count 0 bytes some (subst (λ (n : ℕ). IsSome (includes_at n bytes)) (sym all) h)

from_one : (n : Include) (read : Read) → IsSome (with_one n read) → (includes_read (with_one n read) ≡ n ∷ includes_read read) × IsSome read
from_one n (Some x) h = (refl, refl)
from_one n None h = absurd cc

pub begun_next : (count i : ℕ) (bytes : List ℕ) (n : Include) (after : List ℕ) → i < count → include_at bytes ≡ Some (n, after) → IsSome (includes_at (count - i) bytes)
    → (includes_begun (count - i) bytes ≡ n ∷ includes_begun (count - (i + 1)) after) × IsSome (includes_at (count - (i + 1)) after)
begun_next count i bytes n after lt h whole =
    let is = next_at count i bytes n after lt h in
    let one = from_one n (includes_at (count - (i + 1)) after) (subst IsSome is whole) in
    (ap includes_read is ∙ one.0, one.1)

-- only memory can be missing
pub begun_ends : (e : Error) (count i : ℕ) (bytes : List ℕ) → i < count → Fails e (include_at bytes) → IsSome (includes_at (count - i) bytes) → e ≡ Memory
begun_ends Memory count i bytes lt h whole = refl
begun_ends Deserialization count i bytes lt h whole =
    let none : IsSome {T = List Include × List ℕ} None = subst IsSome (none_at count i bytes lt h) whole in
    absurd cc
begun_ends (Io e) count i bytes lt h whole = absurd h
begun_ends (UnknownFormat b) count i bytes lt h whole = absurd h

-- the first of these includes, if there is one
pub begun_first : (count : ℕ) (bytes : List ℕ) (n : Include) (after : List ℕ) → 0 < count → include_at bytes ≡ Some (n, after) → IsSome (includes_at count bytes)
    → (includes_begun count bytes ≡ n ∷ includes_begun (count - 1) after) × IsSome (includes_at (count - 1) after)
begun_first count bytes n after some h whole =
    let all : count - 0 ≡ count = omega arith in
    let less : count - (0 + 1) ≡ count - 1 = omega arith in
    subst (λ (k : ℕ). (includes_begun count bytes ≡ n ∷ includes_begun k after) × IsSome (includes_at k after)) less
    (subst (λ (k : ℕ). (includes_begun k bytes ≡ n ∷ includes_begun (count - (0 + 1)) after) × IsSome (includes_at (count - (0 + 1)) after)) all
    (begun_next count 0 bytes n after some h (subst (λ (k : ℕ). IsSome (includes_at k bytes)) (sym all) whole)))

-- it can be read
pub begun_reads : (e : Error) (count : ℕ) (bytes : List ℕ) → 0 < count → e ≡ Deserialization → Fails e (include_at bytes) → IsSome (includes_at count bytes) → ⊥
begun_reads e count bytes some is h whole =
    let all : count - 0 ≡ count = omega arith in
    let memory : e ≡ Memory = begun_ends e count 0 bytes some h (subst (λ (k : ℕ). IsSome (includes_at k bytes)) (sym all) whole) in
    cc

pub begun_done : (count i : ℕ) (bytes : List ℕ) → count ≤ i → includes_begun (count - i) bytes ≡ []
begun_done count i bytes le = ap includes_read (done_at count i bytes le)

pub begun_none : (count : ℕ) (bytes : List ℕ) → count ≡ 0 → includes_begun count bytes ≡ []
begun_none count bytes none = ap (λ (k : ℕ). includes_begun k bytes) none ∙ begun_done 0 0 bytes (omega arith)

-- all of what was skipped
pub begun_all : (read : Read) (rest : List ℕ) → following read ≡ Some rest → read ≡ Some (includes_read read, rest)
begun_all (Some x) rest h = let same : x.1 ≡ rest = cc in ap (λ (r : List ℕ). Some (x.0, r)) same
begun_all None rest h = absurd cc

begun_by : (n : ℕ) (bytes : List ℕ) (o : Option (Include × List ℕ)) → include_at bytes ≡ o → ((after : List ℕ) → IsSome (includes_at n after) → length (includes_begun n after) ≡ n) → IsSome (includes_at (suc n) bytes)
    → length (includes_begun (suc n) bytes) ≡ suc n
unfolding includes_at
begun_by n bytes None is others h = let none : IsSome {T = List Include × List ℕ} None = rw is at h in absurd cc
begun_by n bytes (Some x) is others h =
    let one = from_one x.0 (includes_at n x.1) (rw is at h) in
    rw is (ap length one.0 ∙ ap suc (others x.1 one.1))

pub begun_length : (n : ℕ) (bytes : List ℕ) → IsSome (includes_at n bytes) → length (includes_begun n bytes) ≡ n
unfolding includes_at
begun_length zero bytes h = refl
begun_length (suc n) bytes h = begun_by n bytes (include_at bytes) refl (begun_length n) h
