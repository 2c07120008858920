-- calls on files, in order
use Rattle.std.proofs.Common.{ℕ, ◌≡◌, ◌≤◌, arith, refl, sym, subst, ◌∙◌, inl, inr, Result}
use Rattle.cck_digest.specs.declared.error.FileError.{FileError}
use Rattle.cck_digest.specs.declared.error.FileError.TheVariants.{NotFound, OtherKind, Fault, Memory}
use Rattle.cck_files.specs.FileMap.{FileMap}
use Rattle.cck_path.specs.Path.{Path}
use Rattle.cck_files.specs.Calls.{AreCalls, Keeps, Rose, IsError, none, one_more}

module _ {F : Type 0} {file_map : F → FileMap} {faults : F → ℕ} {is_quiet : F → Type 0} where
  pub keeps_itself : (a : F) → Keeps file_map faults is_quiet a a
  keeps_itself a = record { same_map = refl; not_lower = omega arith; stays_quiet = λ q. q; stays_calm = λ q. refl }

  pub keeps_all : (a b c : F) → Keeps file_map faults is_quiet a b → Keeps file_map faults is_quiet b c → Keeps file_map faults is_quiet a c
  keeps_all a b c h k = record {
    same_map = k.same_map ∙ h.same_map;
    not_lower = omega (arith, h.not_lower, k.not_lower);
    stays_quiet = λ q. k.stays_quiet (h.stays_quiet q);
    stays_calm = λ q. k.stays_calm (h.stays_quiet q) ∙ h.stays_calm q;
  }

module _ {F : Type 0} {is_call : F → Path → F → Type 0} where
  pub one_call : (At : Path → Type 0) (a b : F) (p : Path) → At p → is_call a p b → AreCalls is_call At a b
  one_call At a b p at call = one_more a p (none refl) at call

  pub calls_all : (At : Path → Type 0) (a b c : F) → AreCalls is_call At a b → AreCalls is_call At b c → AreCalls is_call At a c
  calls_all At a b c calls (none same) = subst (AreCalls is_call At a) (sym same) calls
  calls_all At a b c calls (one_more d p more at call) = one_more d p (calls_all At a b d calls more) at call

  -- calls at paths of one kind are at paths of another that has them all
  pub calls_among : (At Among : Path → Type 0) (a b : F) → ((p : Path) → At p → Among p) → AreCalls is_call At a b → AreCalls is_call Among a b
  calls_among At Among a b all (none same) = none same
  calls_among At Among a b all (one_more d p more at call) = one_more d p (calls_among At Among a d all more) (all p at) call

  -- if there is no path of their kind, there is no call
  pub no_calls : (At : Path → Type 0) (a b : F) → ((p : Path) → At p → ⊥) → AreCalls is_call At a b → b ≡ a
  no_calls At a b nowhere (none same) = same
  no_calls At a b nowhere (one_more d p more at call) = absurd (nowhere p at)

-- a count that rose in a later part rose in the whole
pub rose_earlier : (a b c : ℕ) → a ≤ b → Rose b c → Rose a c
rose_earlier a b c h (inl r) = inl (omega (arith, h, r))
rose_earlier a b c h (inr r) = inr r

-- a count that rose in an earlier part rose in the whole
pub rose_later : (a b c : ℕ) → b ≤ c → Rose a b → Rose a c
rose_later a b c h (inl r) = inl (omega (arith, h, r))
rose_later a b c h (inr r) = inr (omega (arith, h, r))

pub error_by : {X : Type 0} (x : Result X FileError) (P Q : Type 0) (e : FileError) → (P → Q) → IsError x P e → IsError x Q e
error_by x P Q NotFound f r = r
error_by x P Q OtherKind f r = r
error_by x P Q Fault f r = f r
error_by x P Q Memory f r = r
