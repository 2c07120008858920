-- The definitions at literal values.
use Rattle.std.proofs.Common.{arith, ◌≡◌, ◌<◌, ◌^◌, ℕ, zero, suc, true, false, pos, negsuc, Some, None, [], ◌∷◌, ◌++◌, codes, drop, replicate, refl}
use Rattle.std.specs.List.{sum}
use Rattle.cck_digest.specs.Frames.{length_bytes}
use Rattle.cck_include.specs.TimePart.{i64_bytes, u32_bytes}
use Rattle.cck_cache_rules.specs.Age.{IsAbandoned}
use Rattle.cck_cache_rules.specs.Checksum.{sums_of, words}
use Rattle.cck_cache_rules.specs.FrontCoding.{front_bytes, front_coded, short_length}
use Rattle.cck_cache_rules.specs.ObjectName.{is_inside, object_parts, tests_inside, without_base}
use Rattle.cck_cache_rules.specs.PathStatus.{status_bytes}
use Rattle.cck_cache_rules.specs.PathTest.{Absent, File, Plain, Real, test_bytes}
use Rattle.cck_cache_rules.specs.Refusal.{IsRefusal}
use Rattle.cck_cache_rules.specs.Removal.{IsRemovedCount}
use Rattle.cck_cache_rules.specs.Size.{IsSize}
use Rattle.cck_cache_rules.specs.Size.IsUnit.{kibibyte}
use Rattle.cck_cache_rules.specs.Signature.{hmac, pad, signed_text}
use Rattle.cck_cache_rules.specs.Value.{compressed_value, signed_value}
use Rattle.cck_cache_rules.specs.declared.refusal.Refusal.TheVariants.{DayChanged, NoKey}

-- an hour and a second
abandoned : IsAbandoned true (pos 1) (pos 3602)
abandoned = record { new = refl; old = omega arith }

-- an hour
not_abandoned : IsAbandoned true (pos 1) (pos 3601) → ⊥
not_abandoned h = let old = h.old in omega (arith, old)

renamed : IsAbandoned false (pos 1) (pos 3602) → ⊥
renamed h = let same : false ≡ true = h.new in absurd cc

day : IsRefusal (Some (codes "k")) (codes "k") false (Some DayChanged)
day = (refl, refl)

no_key : IsRefusal None (codes "k") true (Some NoKey)
no_key = refl

recorded : IsRefusal (Some (codes "k")) (codes "k") true None
recorded = (refl, refl)

-- a word, and one that is filled
two_words : words (codes "abcde") ≡ 1684234849 ∷ 101 ∷ []
two_words = refl

-- the sums of three words: after each of them these are 1, 1, 1 and 1; 3, 4, 5 and 6; 6, 10, 15 and 21
three_sums : sums_of (1 ∷ 2 ∷ 3 ∷ []) ≡ record { first = 6; second = 10; third = 15; fourth = 21 }
unfolding sums_of
three_sums = refl

-- a directory that was modified at second 5 and 7 nanoseconds, and changed a nanosecond before 1970
a_status : status_bytes (record { path = codes "/a"; device = 1; inode = 258; modified = record { seconds = pos 5; nanoseconds = 7 }; changed = record { seconds = negsuc 0; nanoseconds = 999999999 } })
    ≡ codes "status " ++ (1 ∷ 0 ∷ 0 ∷ 0 ∷ 0 ∷ 0 ∷ 0 ∷ 0 ∷ 2 ∷ 1 ∷ 0 ∷ 0 ∷ 0 ∷ 0 ∷ 0 ∷ 0
    ∷ 5 ∷ 0 ∷ 0 ∷ 0 ∷ 0 ∷ 0 ∷ 0 ∷ 0 ∷ 7 ∷ 0 ∷ 0 ∷ 0
    ∷ 255 ∷ 255 ∷ 255 ∷ 255 ∷ 255 ∷ 255 ∷ 255 ∷ 255 ∷ 255 ∷ 201 ∷ 154 ∷ 59 ∷ codes "/a")
unfolding length_bytes i64_bytes u32_bytes
a_status = refl

-- a base directory and what is below it, but not a longer name
itself : is_inside (Some (codes "/b")) (codes "/b") ≡ true
itself = refl

longer : is_inside (Some (codes "/b")) (codes "/bc") ≡ false
longer = refl

-- a test of a path elsewhere, and one below the base directory
two_tests : object_parts (codes "k") (codes "i") (Some (codes "/b")) [] (Absent (codes "/u/x") ∷ File (codes "/b/y") ∷ [])
    ≡ record {
      key = codes "k";
      input = codes "i";
      outside = [];
      inside = [];
      tests_outside = codes "absent /u/x" ∷ [];
      tests_inside = codes "file /y" ∷ [];
    }
two_tests = refl

-- two checkouts with the same tests
two_checkouts : tests_inside (Some (codes "/b")) (File (codes "/b/y") ∷ []) ≡ tests_inside (Some (codes "/c")) (File (codes "/c/y") ∷ [])
two_checkouts = refl

-- where a path leads: the length of the real path in 8 bytes, the real path, and the path
real_bytes_of : test_bytes (Real (codes "/i/x") (codes "/x")) ≡ codes "real " ++ (2 ∷ 0 ∷ 0 ∷ 0 ∷ 0 ∷ 0 ∷ 0 ∷ 0 ∷ []) ++ codes "/x/i/x"
unfolding length_bytes
real_bytes_of = refl

-- a path of the base directory that leads there, and one that leads elsewhere
real_inside : without_base (Some (codes "/b")) (Real (codes "/b/i/x") (codes "/b/x")) ≡ Real (codes "/i/x") (codes "./x")
real_inside = refl

real_outside : without_base (Some (codes "/b")) (Real (codes "/b/i/x") (codes "/x")) ≡ Real (codes "/i/x") (codes "/x")
real_outside = refl

plain_bytes : test_bytes (Plain (codes "/u/x")) ≡ codes "plain /u/x"
plain_bytes = refl

-- the first of three sizes goes, and no more
one_goes : IsRemovedCount (3 ∷ 4 ∷ 5 ∷ []) 9 1
one_goes = record { within = omega arith; fits = omega arith; fewest = fewest }
  where
    fewest : (fewer : ℕ) → fewer < 1 → 9 < sum (drop fewer (3 ∷ 4 ∷ 5 ∷ []))
    fewest zero lt = omega arith
    fewest (suc n) lt = absurd (omega (arith, lt))

-- ten kibibytes
ten_kibibytes : IsSize (codes "10Ki") 10240
ten_kibibytes = record { unit = 2 ^ 10; number = (omega arith, (omega arith, (omega arith, tt))); suffix = kibibyte; value = refl; below = omega arith }

-- the bytes of a key combined with a byte, and that byte to the end of the 64
two_and_pad : pad 54 (97 ∷ 54 ∷ []) ≡ 87 ∷ 0 ∷ replicate 62 54
two_and_pad = refl

-- by a function that leaves the first 64 bytes out, and the key of 65 bytes for what is left of it
inner_text : hmac (drop 64) (codes "ab") (codes "text") ≡ codes "text"
inner_text = refl

short_key_is_its_digest : hmac (drop 64) (replicate 65 97) (codes "text") ≡ hmac (drop 64) (codes "a") (codes "text")
short_key_is_its_digest = refl

a_signed_text : signed_text (codes "entry") (codes "ab") (codes "c") ≡ codes "entry\nab\nc"
a_signed_text = refl

a_signed_value : signed_value (drop 64) (codes "k") (codes "entry") (codes "ab") (codes "c") ≡ codes "cck signed 1\nentry\nab\ncc"
a_signed_value = refl

a_compressed_value : compressed_value 258 (codes "z") ≡ codes "cck zstd 1\n" ++ (2 ∷ 1 ∷ 0 ∷ 0 ∷ 0 ∷ 0 ∷ 0 ∷ 0 ∷ codes "z")
unfolding length_bytes
a_compressed_value = refl

-- nothing, a part and all of the text before is shared
shared : front_coded [] (codes "absent /a" ∷ codes "absent /b" ∷ codes "file" ∷ codes "file" ∷ []) ≡ (0, codes "absent /a") ∷ (8, codes "b") ∷ (0, codes "file") ∷ (4, []) ∷ []
shared = refl

-- a number below 255 is one byte
short : front_bytes (8, codes "b") ≡ 8 ∷ 1 ∷ codes "b"
short = refl

long : short_length 255 ≡ 255 ∷ 255 ∷ 0 ∷ 0 ∷ 0 ∷ 0 ∷ 0 ∷ 0 ∷ 0 ∷ []
unfolding length_bytes
long = refl
