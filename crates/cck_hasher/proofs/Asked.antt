-- The result for bytes that a store returns.
use Rattle.std.proofs.Common.{◌≡◌, ◌≢◌, ℕ, inl, inr, Bool, false, [], ◌∷◌, Option, Some, None, Ok, Err, refl, sym, ap, ◌∙◌, subst}
use Rattle.std.specs.Prelude.{Contains}
use Rattle.std.specs.FinMap.{empty, entries}
use Rattle.cck_path.specs.Bytes.{Bytes}
use Rattle.cck_entry.proofs.EntryLemmas.{entries_of_empty}
use Rattle.cck_entry.specs.Entry as entry
use Rattle.cck_entry.specs.Entry.{Entry}
use Rattle.cck_entry.specs.Find.{IsLookup}
use Rattle.cck_entry.specs.Results.{KeyResult}
use Rattle.cck_include.specs.Include.{Include}
use Rattle.cck_hasher.proofs.Elements.{none_in}
use Rattle.cck_digest.specs.declared.entry_error.Error.{Error}
use Rattle.cck_digest.specs.declared.entry_error.Error.TheVariants as error
use Rattle.cck_hasher.specs.Call.{CallResult, Keyed, ReturnsError}
use Rattle.cck_hasher.specs.Errors.{entry_error}
use Rattle.cck_hasher.specs.Seen.{why_of}
use Rattle.cck_hasher.specs.Step.{Gives, damaged, lacked, matched, no_bytes, unmatched}

some_bytes : {x : ℕ} {bytes rest : Bytes} → bytes ≡ x ∷ rest → bytes ≢ []
some_bytes is none = let both : [] ≡ _ ∷ _ = sym none ∙ is in cc

first_byte : {x y : ℕ} {xs ys : Bytes} → x ∷ xs ≡ y ∷ ys → x ≡ y
first_byte e = cc

-- the result of a look-up
abbrev pub looked_up : Option Bytes → Option CallResult
looked_up None = None
looked_up (Some key) = Some (Keyed key false)

nothing_held : (e : Entry) → e ≡ empty → (r : KeyResult) → Contains (entries e) r → ⊥
nothing_held e is r at = none_in r (subst (λ es. Contains es r) entries_of_empty (subst (λ e. Contains (entries e) r) is at))

module _ (test : Include → Bool) (F : Type 0) (bytes : Bytes) (e : Entry) where
  gives_for : (found : Option Bytes) → entry.Reads (Ok e) bytes → IsLookup test (entries e) F found → Gives test F (Ok (Some bytes)) (looked_up found)
  gives_for None (inl text) h = unmatched bytes e refl text h
  gives_for None (inr none) h = no_bytes (ap (λ b. Ok (Some b)) none.0)
  gives_for (Some key) (inl text) (list, at, all, which) = matched bytes key e list refl text at all which
  gives_for (Some key) (inr none) h = absurd (nothing_held e none.1 (key, h.0) h.1)

  pub given : (o found : Option Bytes) → o ≡ found → entry.Reads (Ok e) bytes → IsLookup test (entries e) F o → Gives test F (Ok (Some bytes)) (looked_up found)
  given o found same text h = subst (λ f. Gives test F (Ok (Some bytes)) (looked_up f)) same (gives_for o text h)

-- the result for bytes that can't be read as an entry
pub given_error : (test : Include → Bool) (F : Type 0) (bytes : Bytes) (e : Error) → entry.Reads (Err e) bytes → Gives test F (Ok (Some bytes)) (Some (ReturnsError (why_of (entry_error e))))
given_error test F bytes error.Memory h = lacked bytes refl
given_error test F bytes error.Deserialization (rest, is, none) = damaged bytes refl (some_bytes is) none
given_error test F bytes (error.UnknownFormat x) (rest, is, other) =
    damaged bytes refl (some_bytes is) (λ e text. other (first_byte (sym is ∙ text.text)))
given_error test F bytes (error.Io u) h = absurd h
