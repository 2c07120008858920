use Rattle.std.proofs.Common.{ℕ, List, subst, sym}
use Rattle.cck_cache_rules.specs.Size.{IsUnit}
use Rattle.cck_cache_rules.specs.Size.IsUnit.{byte, kilobyte, megabyte, gigabyte, terabyte, kibibyte, mebibyte, gibibyte, tebibyte}
use Rattle.cck_cache_rules.proofs.size.unit_of.Goals as goal

pub returns-in-empty : goal.returns-in-empty
returns-in-empty c = let P : List ℕ → Type 0 = λ suffix. IsUnit suffix 1 in subst P (sym c.in-empty.is) byte

pub returns-in-k : goal.returns-in-k
returns-in-k c = let P : List ℕ → Type 0 = λ suffix. IsUnit suffix 1000 in subst P (sym c.in-k.is) kilobyte

pub returns-in-M : goal.returns-in-M
returns-in-M c = let P : List ℕ → Type 0 = λ suffix. IsUnit suffix 1000000 in subst P (sym c.in-M.is) megabyte

pub returns-in-G : goal.returns-in-G
returns-in-G c = let P : List ℕ → Type 0 = λ suffix. IsUnit suffix 1000000000 in subst P (sym c.in-G.is) gigabyte

pub returns-in-T : goal.returns-in-T
returns-in-T c = let P : List ℕ → Type 0 = λ suffix. IsUnit suffix 1000000000000 in subst P (sym c.in-T.is) terabyte

pub returns-in-Ki : goal.returns-in-Ki
returns-in-Ki c = let P : List ℕ → Type 0 = λ suffix. IsUnit suffix 1024 in subst P (sym c.in-Ki.is) kibibyte

pub returns-in-Mi : goal.returns-in-Mi
returns-in-Mi c = let P : List ℕ → Type 0 = λ suffix. IsUnit suffix 1048576 in subst P (sym c.in-Mi.is) mebibyte

pub returns-in-Gi : goal.returns-in-Gi
returns-in-Gi c = let P : List ℕ → Type 0 = λ suffix. IsUnit suffix 1073741824 in subst P (sym c.in-Gi.is) gibibyte

pub returns-in-Ti : goal.returns-in-Ti
returns-in-Ti c = let P : List ℕ → Type 0 = λ suffix. IsUnit suffix 1099511627776 in subst P (sym c.in-Ti.is) tebibyte
