-- What a walk recorded, one file at a time.
use Rattle.std.proofs.Common.{◌≡◌, ℕ, List, [], ◌∷◌, ◌++◌, length, arith, sym, ap, ◌∙◌, String}
use Rattle.std.proofs.lemmas.List.{append_assoc, append-nil, map_push}
use Rattle.std.specs.Global.{Vec}
use Rattle.std.specs.Prelude.{string_bytes}
use Rattle.std.specs.declared.alloc.Global.{Global}
use Rattle.cck_include.specs.Gathered.{Digested, digested_in}
use Rattle.cck_hasher.specs.Included.{digested_of}

module _ (taken : List (String Global × Vec ℕ)) (all : List Digested) where
  pub taken_more : (path : Vec ℕ) (digest : String Global) (left rest : List (Vec ℕ × String Global)) → left ≡ (path, digest) ∷ rest
      → digested_in taken ++ digested_of left ≡ all → digested_in (taken ++ (digest, path) ∷ []) ++ digested_of rest ≡ all
  taken_more path digest left rest is h =
      ap (λ l. l ++ digested_of rest) (map_push (λ (p : String Global × Vec ℕ). (string_bytes (p.0), p.1.items)) taken (digest, path))
      ∙ append_assoc (digested_in taken) ((string_bytes digest, path.items) ∷ []) (digested_of rest)
      ∙ ap (λ l. digested_in taken ++ digested_of l) (sym is)
      ∙ h

  pub taken_all : (left : List (Vec ℕ × String Global)) → length left ≡ 0 → digested_in taken ++ digested_of left ≡ all → digested_in taken ≡ all
  taken_all [] none h = sym (append-nil (digested_in taken)) ∙ h
  taken_all (f ∷ left) none h = absurd (omega (arith, none))
