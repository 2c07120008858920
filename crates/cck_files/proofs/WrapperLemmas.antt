-- Names of wrappers, paths of compilers, and two calls on files, one after the other.
use Rattle.std.proofs.Common.{◌≡◌, ◌≢◌, ◌↔◌, ℕ, suc, ◌+◌, ◌<◌, ◌≤◌, ◌⊎◌, inl, inr, List, [], ◌∷◌, length, drop, get_or, Bool, true, false, not, ◌&&◌, cond, Option, None, Some, Result, Ok, Err, IfOk, codes, map, Bor, refl, sym, ap, ◌∙◌, arith, nat_eq, IsTrue, Contains}
use Rattle.std.specs.Bool.{Decides}
use Rattle.std.specs.Char.{to_ascii_lowercase}
use Rattle.std.specs.List.{find}
use Rattle.std.proofs.lemmas.List.{get_or_default}
use Rattle.std.proofs.lemmas.Simd.{map-map}
use Rattle.std.proofs.Math.Bool.{and-false}
use Rattle.cck_digest.specs.declared.error.FileError.{FileError}
use Rattle.cck_digest.specs.declared.error.FileError.TheVariants.{NotFound, OtherKind, Fault, Memory}
use Rattle.cck_files.specs.Calls.{IsErrorOrMemory, Rose}
use Rattle.cck_files.specs.FileMap.{FileMap, exists_at}
use Rattle.cck_files.proofs.CallsLemmas.{rose_earlier, rose_later}
use Rattle.cck_path.specs.Names.{file_name_of}
use Rattle.cck_path.specs.Path.{Path, components, has_root}
use Rattle.cck_path.specs.Text.{join_path}
use Rattle.cck_path.specs.Variables.{Variable, first_value}
use Rattle.cck_files.proofs.FindLemmas.{found_here, found_later}
use Rattle.cck_files.specs.Wrapper.{begins_with, candidates, found_compiler, is_compiler, is_settled, kept_parts, leads_if, leads_to_wrapper, places}

-- a name that is too short
pub too_short : (name beginning : List ℕ) → length name < length beginning → begins_with name beginning ≡ false
too_short name [] h = absurd (omega (arith, h))
too_short [] (b ∷ beginning) h = refl
too_short (c ∷ name) (b ∷ beginning) h =
    let e = nat_eq (to_ascii_lowercase c) (to_ascii_lowercase b) in
    ap (λ t. e && t) (too_short name beginning (omega (arith, h))) ∙ and-false e

-- two tests of one fact
pub same_test : (b t : Bool) (P : Type 0) → (IsTrue b ↔ P) → Decides t P → b ≡ t
same_test true true P h d = refl
same_test true false P h d = sym (d.1 (h.0 refl))
same_test false true P h d = h.1 (d.0 refl)
same_test false false P h d = refl

-- two calls, one after the other: what follows from both, or a fault in one of them
pub in_turn : {P Q S : Type 0} (a b c : ℕ) → a ≤ b → b ≤ c → P ⊎ Rose a b → Q ⊎ Rose b c → (P → Q → S) → S ⊎ Rose a c
in_turn a b c h k (inl p) (inl q) f = inl (f p q)
in_turn a b c h k (inl p) (inr r) f = inr (rose_earlier a b c h r)
in_turn a b c h k (inr r) q f = inr (rose_later a b c k r)

-- without a canonical path
pub not_canonical : (x : Result Path FileError) (HasFault : Type 0) (e : FileError) → e ≢ Memory → IsErrorOrMemory x HasFault e → (false ≡ leads_if x) ⊎ HasFault
not_canonical x HasFault NotFound other r = inl (sym (ap leads_if r))
not_canonical x HasFault OtherKind other r = inl (sym (ap leads_if r))
not_canonical x HasFault Fault other r = inr r
not_canonical x HasFault Memory other r = absurd (other refl)

-- a path that does not exist
pub nothing_exists : (m : FileMap) (p : Path) → exists_at m p ≡ false → false ≡ is_compiler m p
unfolding is_compiler
nothing_exists m p e = sym (ap (λ b. b && not (leads_to_wrapper m p)) e)

-- a path that exists
pub present : (m n : FileMap) (p : Path) (leads : Bool) → n ≡ m → exists_at m p ≡ true → leads ≡ leads_to_wrapper n p → not leads ≡ is_compiler m p
unfolding is_compiler
present m n p leads same e h = ap not (h ∙ ap (λ k. leads_to_wrapper k p) same) ∙ sym (ap (λ b. b && not (leads_to_wrapper m p)) e)

-- a path without root
pub no_root : (m : FileMap) (p : Path) → has_root p ≡ false → false ≡ is_settled m p
unfolding is_settled
no_root m p e = sym (ap (λ b. b && not (leads_to_wrapper m p)) e)

-- an absolute path
pub at_root : (m : FileMap) (p : Path) (leads : Bool) → has_root p ≡ true → leads ≡ leads_to_wrapper m p → not leads ≡ is_settled m p
unfolding is_settled
at_root m p leads e h = ap not h ∙ sym (ap (λ b. b && not (leads_to_wrapper m p)) e)

-- what follows from a result
pub if_ok : {X E : Type 0} {P Q : X → Type 0} (r : Result X E) → IfOk r P → ((x : X) → P x → Q x) → IfOk r Q
if_ok (Ok x) h f = f x h
if_ok (Err e) h f = h

-- the executable is settled
pub nothing_found : (m : FileMap) (executable : List ℕ) (variables : List Variable) → true ≡ is_settled m (components executable) → None ≡ found_compiler m executable variables
unfolding found_compiler
nothing_found m executable variables e =
    ap (λ b. cond b None (find (λ path. is_compiler m (components path)) (candidates executable variables))) e

none_either_way : {X : Type 0} (b : Bool) (x : Option X) → x ≡ None → None ≡ cond b None x
none_either_way true x e = refl
none_either_way false x e = sym e

-- there is no file name
pub no_name : (m : FileMap) (executable : List ℕ) (variables : List Variable) → None ≡ file_name_of (components executable) → None ≡ found_compiler m executable variables
unfolding found_compiler
no_name m executable variables e =
    none_either_way (is_settled m (components executable)) (find (λ path. is_compiler m (components path)) (candidates executable variables))
    (ap (λ name. find (λ path. is_compiler m (components path)) (places name (first_value variables (codes "PATH")))) (sym e))

-- there is no variable `PATH`
pub no_path : (m : FileMap) (executable name : List ℕ) (variables : List Variable) → Some name ≡ file_name_of (components executable) → None ≡ first_value variables (codes "PATH") → None ≡ found_compiler m executable variables
unfolding found_compiler
no_path m executable name variables e h =
    none_either_way (is_settled m (components executable)) (find (λ path. is_compiler m (components path)) (candidates executable variables))
    (ap (λ n. find (λ path. is_compiler m (components path)) (places n (first_value variables (codes "PATH")))) (sym e)
    ∙ ap (λ p. find (λ path. is_compiler m (components path)) (places (Some name) p)) (sym h))

-- the candidates, by a name and a search path
pub candidates_by : (executable name path : List ℕ) (variables : List Variable) (parts : List (Bor (List ℕ)))
    → Some name ≡ file_name_of (components executable) → Some path ≡ first_value variables (codes "PATH") → map (λ part. part.now) parts ≡ kept_parts path
    → map (λ part. join_path part.now name) parts ≡ candidates executable variables
candidates_by executable name path variables parts e h kept =
    sym (map-map (λ part. join_path part name) (λ (part : Bor (List ℕ)). part.now) parts)
    ∙ ap (map (λ part. join_path part name)) kept
    ∙ ap (λ n. places n (Some path)) e
    ∙ ap (places (file_name_of (components executable))) h

-- the first of the candidates
pub first_found : (m n : FileMap) (executable : List ℕ) (variables : List Variable) (paths : List (List ℕ)) → n ≡ m → paths ≡ candidates executable variables → false ≡ is_settled m (components executable)
    → find (λ path. is_compiler n (components path)) paths ≡ found_compiler m executable variables
unfolding found_compiler
first_found m n executable variables paths same are other =
    ap (λ k. find (λ path. is_compiler k (components path)) paths) same
    ∙ ap (find (λ path. is_compiler m (components path))) are
    ∙ ap (λ b. cond b None (find (λ path. is_compiler m (components path)) (candidates executable variables))) other

-- at one of the parts
module _ (m : FileMap) (name : List ℕ) (parts : List (Bor (List ℕ))) (i : ℕ) (d : Bor (List ℕ)) (path : List ℕ) where
  -- this path is a compiler's
  pub exists_here : i < length parts → path ≡ join_path (get_or parts i d).now name → true ≡ is_compiler m (components path)
      → find (λ q. is_compiler m (components q)) (map (λ part. join_path part.now name) (drop i parts)) ≡ Some path
  exists_here within is e =
      found_here (λ q. is_compiler m (components q)) (λ part. join_path part.now name) parts i (get_or parts i d) within
      (get_or_default parts i d (get_or parts i d) within) (ap (λ q. is_compiler m (components q)) (sym is) ∙ sym e)
      ∙ ap Some (sym is)

  -- this path is not a compiler's
  pub exists_later : i < length parts → path ≡ join_path (get_or parts i d).now name → false ≡ is_compiler m (components path)
      → find (λ q. is_compiler m (components q)) (map (λ part. join_path part.now name) (drop i parts)) ≡ find (λ q. is_compiler m (components q)) (map (λ part. join_path part.now name) (drop (i + 1) parts))
  exists_later within is e =
      found_later (λ q. is_compiler m (components q)) (λ part. join_path part.now name) parts i (get_or parts i d) within
      (get_or_default parts i d (get_or parts i d) within) (ap (λ q. is_compiler m (components q)) (sym is) ∙ sym e)

-- one of the remaining parts
pub contains_later : {X : Type 0} (x : X) (xs : List X) (y : X) → Contains xs y → Contains (x ∷ xs) y
contains_later x xs y (k, within, is) = (suc k, omega (arith, within), is)
