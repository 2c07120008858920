-- bytes that are read with an error are no entry
use Rattle.std.proofs.Common.{◌≡◌, List, ℕ, [], ◌∷◌, get_or, sym, ap, ◌∙◌, inl, inr, Err}
use Rattle.cck_entry.specs.Entry.{Entry, Reads}
use Rattle.cck_explain_listing.specs.Bytes.{IsEntryOf}
use Rattle.cck_digest.specs.declared.entry_error.Error.TheVariants.{Deserialization, UnknownFormat}

some_bytes : (bytes rest : List ℕ) (byte : ℕ) → bytes ≡ [] → bytes ≡ byte ∷ rest → ⊥
some_bytes bytes rest byte none some = let h : [] ≡ byte ∷ rest = sym none ∙ some in absurd cc

pub no_format : (bytes : List ℕ) (byte : ℕ) → Reads (Err (UnknownFormat byte)) bytes → (e : Entry) → IsEntryOf e bytes → ⊥
no_format bytes byte read e (inl text) = read.2 (ap (λ l. get_or l 0 0) (sym read.1 ∙ text.text))
no_format bytes byte read e (inr none) = some_bytes bytes read.0 byte none.0 read.1

pub no_text : (bytes : List ℕ) → Reads (Err Deserialization) bytes → (e : Entry) → IsEntryOf e bytes → ⊥
no_text bytes read e (inl text) = read.2 e text
no_text bytes read e (inr none) = some_bytes bytes read.0 _ none.0 read.1
