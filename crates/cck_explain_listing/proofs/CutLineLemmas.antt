-- cuts of a text without base directories
use Rattle.std.proofs.Common.{◌≡◌, ℕ, zero, suc, List, [], ◌∷◌, Bool, true, false, cond, length, map, refl, ap, ◌∙◌, ◌==◌, arith}
use Rattle.std.proofs.lemmas.Bool.{eqb-true}
use Rattle.cck_path.specs.Bytes.{Bytes}
use Rattle.cck_strip.specs.Cuts.{cuts_below}
use Rattle.cck_strip.specs.Text.{is_boundary, longest_prefix, text_site}
use Rattle.cck_strip.specs.CutList.{cut_at}
use Rattle.cck_strip.proofs.CutListLemmas.{no_cut}
use Rattle.cck_explain_listing.specs.CutListing.{cut_lines, text_cut_lines}

no_site : (text : Bytes) (k : ℕ) → text_site [] text k ≡ 0
unfolding text_site longest_prefix
no_site text k = neither (is_boundary text k)
  where
    neither : (b : Bool) → ◌≡◌ {A = ℕ} (cond b 0 0) 0
    neither true = refl
    neither false = refl

no_cuts : (text : Bytes) (n : ℕ) → cuts_below (text_site [] text) n ≡ []
no_cuts text zero = refl
no_cuts text (suc n) = no_cut (text_site [] text) n (no_site text n) ∙ no_cuts text n

-- nothing is listed
pub no_lines : (name text : Bytes) → text_cut_lines [] name text ≡ []
unfolding text_cut_lines
no_lines name text = ap (λ l. cut_lines name text (map (cut_at (text_site [] text)) l)) (no_cuts text (length text))

-- a list without elements
pub is_none : {X : Type 0} (f : X → Bytes) (xs : List X) → (length xs == 0) ≡ true → map f xs ≡ []
is_none f [] e = refl
is_none f (x ∷ xs) e = let none = eqb-true (length (x ∷ xs)) 0 e in absurd (omega arith)
