-- a snapshot in which nothing fails
use Rattle.std.proofs.Common.{◌≡◌, ◌∙◌, ℕ, refl, sym, ap, subst, lit<}
use Rattle.cck_cache.specs.Input.{IsCalm, IsInput, request_input_path}
use Rattle.cck_cache_files.specs.Snapshot.{ArePut, IsAdded, IsNodePut, StaysCalm, none_put, one_more}
use Rattle.cck_cache_files.specs.declared.request.Request.{Request}
use Rattle.cck_files.specs.Calls.{Keeps}
use Rattle.cck_files.specs.FileMap.{FileMap}
use Rattle.cck_files.specs.FileState.{FileState, IsQuiet, fault_count, new_state, no_files}
use Rattle.cck_path.specs.Bytes.{Bytes}

-- a snapshot that was just made
pub calm_new : (s : FileState) → s ≡ new_state → IsCalm s
calm_new s fresh = subst IsCalm (sym fresh) (record { quiet = ((refl, refl), lit< tt); none = refl })

-- one file more, and a call on the files
pub calm_added : (before after : FileState) (path : Bytes) → IsAdded before path after → IsCalm before → IsCalm after
calm_added before after path added calm = subst IsCalm (sym added.others) (record { quiet = calm.quiet; none = calm.none })

pub calm_stays : (before after : FileState) → StaysCalm before after → IsCalm before → IsCalm after
calm_stays before after stays calm = record { quiet = stays.stays_quiet calm.quiet; none = stays.stays_calm calm.quiet ∙ calm.none }

pub calm_kept : (before after : FileState) → Keeps (λ (s : FileState). s.files) fault_count IsQuiet before after → IsCalm before → IsCalm after
calm_kept before after keeps calm = record { quiet = keeps.stays_quiet calm.quiet; none = keeps.stays_calm calm.quiet ∙ calm.none }

-- what holds by the counts of faults before and after such a call holds without a fault
pub without_fault : (P : ℕ → ℕ → Type 0) (before after : FileState) → Keeps (λ (s : FileState). s.files) fault_count IsQuiet before after → IsCalm before → P (fault_count before) (fault_count after) → P 0 0
without_fault P before after keeps calm holds =
    subst (λ (n : ℕ). P 0 n) (keeps.stays_calm calm.quiet ∙ calm.none) (subst (λ (n : ℕ). P n (fault_count after)) calm.none holds)

-- the input alone
pub input_is : (request : Request) (path : Bytes) (before after : FileState) → before ≡ new_state → path ≡ request_input_path request → IsAdded before path after → IsInput request after.files
input_is request path before after fresh is added =
    subst (λ (p : Bytes). IsNodePut no_files p after.files) is
    (subst (λ (m : FileMap). IsNodePut m path after.files) (ap (λ (s : FileState). s.files) fresh) added.put)

-- files that were put in two parts
pub put_all : (At : Bytes → Type 0) (a b c : FileMap) → ArePut At a b → ArePut At b c → ArePut At a c
put_all At a b c before (none_put same) = subst (λ (m : FileMap). ArePut At a m) (sym same) before
put_all At a b c before (one_more m path after at is) = one_more m path (put_all At a b m before after) at is

pub put_one : (At : Bytes → Type 0) (a b : FileMap) (path : Bytes) → At path → IsNodePut a path b → ArePut At a b
put_one At a b path at is = one_more a path (none_put refl) at is
