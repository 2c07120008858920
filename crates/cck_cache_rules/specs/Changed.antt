-- bytes that may be of an entry by which a file has its present contents
use Rattle.std.specs.Prelude.{ℕ, List}
use Rattle.cck_digest.specs.Frames.{frame}
use Rattle.cck_digest.specs.TimeMacros.{Has}

-- where the bytes have this path, after its length, they have this digest
abbrev pub MayHaveDigest : List ℕ → List ℕ → List ℕ → Type 0
MayHaveDigest bytes path digest = Has bytes (frame path) → Has bytes digest
