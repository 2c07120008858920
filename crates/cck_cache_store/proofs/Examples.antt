-- The definitions at literal values.
use Rattle.std.proofs.Common.{arith, inl, inr, ◌≡◌, Some, [], ◌∷◌, codes, refl}
use Rattle.std.specs.Fmt.{digits}
use Rattle.cck_cache_files.specs.declared.store_directory.Kind.TheVariants.{Entry, Object}
use Rattle.cck_cache_store.specs.Http.{IsShare, authorization, http_directory, http_path, named_port, request_with}
use Rattle.cck_cache_store.specs.Keys.{IsKeyIn, IsSigningKey}
use Rattle.cck_cache_store.specs.Redis.{SaysLength, bulk_string, login, redis_command, redis_name, selection}

-- the example of the protocol's documentation
a_word : bulk_string (codes "mylist") ≡ codes "$6\r\nmylist\r\n"
unfolding digits
a_word = refl

a_command : redis_command (codes "LLEN" ∷ codes "mylist" ∷ []) ≡ codes "*2\r\n$4\r\nLLEN\r\n$6\r\nmylist\r\n"
unfolding digits
a_command = refl

a_name : redis_name (codes "3") Object (codes "ab") ≡ codes "cck:3:object:ab"
a_name = refl

-- no login without a secret, and the default user without a name
no_login : login (codes "u") [] ≡ []
no_login = refl

a_login : login [] (codes "s") ≡ (codes "AUTH" ∷ codes "s" ∷ []) ∷ []
a_login = refl

a_user : login (codes "u") (codes "s") ≡ (codes "AUTH" ∷ codes "u" ∷ codes "s" ∷ []) ∷ []
a_user = refl

-- the database 0 is the one that a connection begins with
first_database : selection (codes "0") ≡ []
first_database = refl

a_database : selection (codes "7") ≡ (codes "SELECT" ∷ codes "7" ∷ []) ∷ []
a_database = refl

a_path : http_path (http_directory (codes "/cache") (codes "3") Entry) (codes "ab") (codes "abcd") ≡ codes "/cache/3/entry/ab/abcd"
a_path = refl

a_share : IsShare (codes "abcd") (codes "ab")
a_share = inl refl

-- a whole name in ASCII is no share
whole_name : IsShare (codes "abcd") (codes "abcd") → ⊥
whole_name (inl same) = absurd cc
whole_name (inr other) = other.1 (omega arith, λ _ high. absurd (omega (arith, high)))

usual_port : named_port 80 ≡ []
usual_port = refl

a_port : named_port 8080 ≡ codes ":8080"
unfolding digits
a_port = refl

no_token : authorization [] ≡ []
no_token = refl

a_request : request_with (codes "/a") (codes "h") (named_port 81) (authorization (codes "t"))
    ≡ codes "GET /a HTTP/1.1\r\nHost: h:81\r\nAccept: */*\r\nAuthorization: Bearer t\r\n\r\n"
unfolding digits
a_request = refl

-- the line feed at the end of a file is no part of its key
a_key : IsKeyIn (codes "secret\n") (codes "secret")
a_key = inl refl

-- a key has 16 bytes at least
a_signing_key : IsSigningKey (codes "0123456789abcdef\n") (Some (codes "0123456789abcdef"))
a_signing_key = (inl refl, omega arith)
