-- requests to an HTTP server (RFC 9112)
use Rattle.std.specs.Prelude.{◌≡◌, ◌⊎◌, ◌==◌, ℕ, cond, List, [], ◌∷◌, ◌++◌, codes, length, take}
use Rattle.std.specs.Fmt.{decimal}
use Rattle.std.specs.List.{flat_map}
use Rattle.std.specs.Str.{IsCharBoundary}
use Rattle.cck_cache_files.specs.declared.store_directory.Kind.{Kind}
use Rattle.cck_cache_store.specs.Peer.{kind_word}
use Rattle.cck_cache_store.specs.declared.address.Address.{Address}

-- what the path of a name has before the name: its first two bytes, or all of it where they are no text of their own
abbrev pub IsShare : List ℕ → List ℕ → Type 0
IsShare name share = (share ≡ take 2 name) ⊎ ((share ≡ name) × (IsCharBoundary name 2 → ⊥))

-- the directory of a kind at a server, below a place
abbrev pub http_directory : List ℕ → List ℕ → Kind → List ℕ
http_directory place formats kind = place ++ codes "/" ++ formats ++ codes "/" ++ kind_word kind

-- the path of a name in a directory, with that of a share
abbrev pub http_path : List ℕ → List ℕ → List ℕ → List ℕ
http_path directory share name = directory ++ codes "/" ++ share ++ codes "/" ++ name

-- the port after the name of a host, unless it is the usual one
abbrev pub named_port : ℕ → List ℕ
named_port port = cond (port == 80) [] (codes ":" ++ decimal port)

-- the header field that has a token (RFC 6750, section 2.1), if there is one
abbrev pub authorization : List ℕ → List ℕ
authorization token = cond (length token == 0) [] (codes "Authorization: Bearer " ++ token ++ codes "\r\n")

abbrev pub request_with : List ℕ → List ℕ → List ℕ → List ℕ → List ℕ
request_with path host port field =
    flat_map (λ part. part) (codes "GET " ∷ path ∷ codes " HTTP/1.1\r\nHost: " ∷ host ∷ port ∷ codes "\r\nAccept: */*\r\n" ∷ field ∷ codes "\r\n" ∷ [])

-- a request for what is at a path of a server
abbrev pub http_request : Address → List ℕ → List ℕ
http_request address path = request_with path address.host.now (named_port address.port) (authorization address.secret.now)
