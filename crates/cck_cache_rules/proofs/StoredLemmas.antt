-- Bytes after 32 bytes that depend on them, as files of the store, are read in one way.
use Rattle.std.proofs.Common.{◌≡◌, ◌≢◌, ℕ, List, ◌++◌, length, Option, Some, None, refl, sym, ap, ◌∙◌, append_assoc}
use Rattle.std.specs.List.{flat_map}
use Rattle.cck_digest.specs.Frames.{frame}
use Rattle.cck_digest.proofs.ReadsBack.{bytes_read_back}
use Rattle.std.proofs.lemmas.List.{append_cancel_left}
use Rattle.cck_cache_rules.specs.Checksum.{checksum}
use Rattle.cck_cache_rules.specs.Reading.{ReadsBack}
use Rattle.cck_cache_rules.specs.Stored.{IsCut, stored_file}

pub length-checksum : (bytes : List ℕ) → length (checksum bytes) ≡ 32
unfolding checksum
length-checksum bytes = refl

-- a kind, a code of what comes last, and that
module _ (kind written : List ℕ) (code : List ℕ → List ℕ) (sized_code : (x : List ℕ) → length (code x) ≡ 32) where
  -- bytes that are no code and rest after a kind
  pub no_code : IsCut kind written None → (x : List ℕ) → kind ++ code x ++ x ≡ written → ⊥
  no_code none x same = none (code x) x (sized_code x) (sym same)

  -- the code and the rest of what is written
  pub code_and_rest : (known rest : List ℕ) → length known ≡ 32 → written ≡ kind ++ known ++ rest → (x : List ℕ) → kind ++ code x ++ x ≡ written → (code x ≡ known) × (x ≡ rest)
  code_and_rest known rest sized is x same =
      let both : kind ++ (code x ++ x) ≡ kind ++ (known ++ rest) = sym (append_assoc kind (code x) x) ∙ (same ∙ (is ∙ append_assoc kind known rest)) in
      bytes_read_back (code x) known x rest (sized_code x ∙ sym sized) (append_cancel_left kind _ _ both)

  -- a code that is not that of the rest
  pub other_code : (known rest : List ℕ) → length known ≡ 32 → written ≡ kind ++ known ++ rest → code rest ≢ known → (x : List ℕ) → kind ++ code x ++ x ≡ written → ⊥
  other_code known rest sized is other x same =
      let are = code_and_rest known rest sized is x same in
      other (ap code (sym are.1) ∙ are.0)

  -- the right code
  pub right_code : (known rest : List ℕ) → length known ≡ 32 → written ≡ kind ++ known ++ rest → code rest ≡ known → ReadsBack (λ x. kind ++ code x ++ x) written (Some rest)
  right_code known rest sized is right =
      (ap (λ s. kind ++ s ++ rest) right ∙ sym is, λ x same. (code_and_rest known rest sized is x same).1)

module _ (kind bytes : List ℕ) where
  -- bytes that are no checksum and frames after a kind
  pub not_cut : IsCut kind bytes None → ReadsBack (stored_file kind) bytes None
  not_cut none parts same = no_code kind bytes checksum length-checksum none (flat_map frame parts) same

  -- a checksum that is not that of the frames
  pub other_checksum : (sums frames : List ℕ) → length sums ≡ 32 → bytes ≡ kind ++ sums ++ frames → checksum frames ≢ sums → ReadsBack (stored_file kind) bytes None
  other_checksum sums frames sized is other parts same = other_code kind bytes checksum length-checksum sums frames sized is other (flat_map frame parts) same

  -- frames that were read after the right checksum
  pub whole_file : (sums frames : List ℕ) (found : Option (List (List ℕ))) → length sums ≡ 32 → bytes ≡ kind ++ sums ++ frames → checksum frames ≡ sums → ReadsBack (flat_map frame) frames found → ReadsBack (stored_file kind) bytes found
  whole_file sums frames None sized is right none = λ parts same. none parts (code_and_rest kind bytes checksum length-checksum sums frames sized is (flat_map frame parts) same).1
  whole_file sums frames (Some found) sized is right read =
      let whole = right_code kind bytes checksum length-checksum sums frames sized is right in
      (ap (λ f. kind ++ checksum f ++ f) read.0 ∙ whole.0, λ parts same. read.1 parts (whole.1 (flat_map frame parts) same))
