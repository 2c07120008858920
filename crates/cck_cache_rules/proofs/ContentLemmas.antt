-- What bytes hold for a key, from what they are read as.
use Rattle.std.proofs.Common.{◌≡◌, ℕ, List, None, Some, sym, ap, ◌∙◌}
use Rattle.cck_cache_rules.specs.Reading.{ReadsBackOf}
use Rattle.cck_cache_rules.specs.Contents.{ReadsFor}

module _ {X : Type 0} (Is : X → Type 0) (key_of write : X → List ℕ) (key written : List ℕ) where
  -- bytes that are written for no value are written for none of the key
  pub none_read : ReadsBackOf Is write written None → ReadsFor Is key_of write key written None
  none_read none x right of-key is = none x right is

  -- nor are those that are written for a value of another key
  pub other_read : (found : X) → ReadsBackOf Is write written (Some found) → (key_of found ≡ key → ⊥) → ReadsFor Is key_of write key written None
  other_read found (_, is, one) other x right of-key same = other (ap key_of (sym (one x right same)) ∙ of-key)
