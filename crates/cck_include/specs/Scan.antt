-- the result of one reading of a file
use Rattle.std.specs.Prelude.{◌≡◌, ℕ, List, string_bytes}
use Rattle.cck_digest.specs.Digest.{digest_text}
use Rattle.cck_include.specs.Recorded.{has_date, has_time, has_timestamp}
use Rattle.cck_include.specs.declared.recorded.Scan.{Scan}

-- it has the hex digest of these contents, and the time macros that they have
pub record IsScanOf (hash : List ℕ → List ℕ) (scan : Scan) (contents : List ℕ) : Type 0 where
  pub text : string_bytes scan.text ≡ digest_text hash contents
  pub time : scan.has_time ≡ has_time contents
  pub date : scan.has_date ≡ has_date contents
  pub timestamp : scan.has_timestamp ≡ has_timestamp contents
