-- The time in the words of `record`, from the time of a stamp.
use Rattle.std.proofs.Common.{◌≡◌, ℕ, ℤ, List, Option, Some, None, codes, sym, subst, ◌∙◌}
use Rattle.std.specs.Prelude.{MatchOption}
use Rattle.std.proofs.lemmas.Option.{same_Some}
use Rattle.clap.specs.Matches.{first_value}
use Rattle.clap.specs.declared.parser.matches.Found.{Found}
use Rattle.cck_cache_options.specs.Stamp.{IsStamp}
use Rattle.cck_cache_options.specs.Task.{IsSince}

pub since_by : {T : Type 0} (found : Found) (text : List ℕ) (seconds : T → ℤ) (nanoseconds : T → ℕ) (time : Option T) → first_value found (codes "since") ≡ Some text
    → MatchOption time ((s : ℤ) (n : ℕ) → IsStamp text s n → ⊥) (λ t. IsStamp text (seconds t) (nanoseconds t))
    → MatchOption time ((s : ℤ) (n : ℕ) → IsSince found s n → ⊥) (λ t. IsSince found (seconds t) (nanoseconds t))
since_by found text seconds nanoseconds None given none = λ s n is. none s n (subst (λ t. IsStamp t s n) (same_Some _ _ (sym is.given ∙ given)) is.time)
since_by found text seconds nanoseconds (Some t) given time = record { stamp = text; given = given; time = time }
