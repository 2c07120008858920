-- calls: what is asked for, and on which files
use Rattle.std.specs.Prelude.{ℕ, List, Bool, map}
use Rattle.cck_compiler.specs.Arguments.{Arguments}
use Rattle.cck_files.specs.Calls.{Rose}
use Rattle.cck_files.specs.FileMap.{FileMap}
use Rattle.cck_path.specs.Bytes.{Bytes}
use Rattle.cck_path.specs.Timestamp.{Moment}
use Rattle.cck_path.specs.Variables.{Variable}
use Rattle.cck_hasher.specs.declared.call.CacheControl.{CacheControl}

-- a request; V is the type of compilers in definitions
pub record Request (V : Type 0) : Type 0 where
  pub compiler : V
  pub executable : Bytes
  pub executable_digest : Bytes
  pub arguments : Arguments
  pub cwd : Bytes
  pub env_vars : List Variable

-- a call, with its files, its call time, and whether a stored key may be returned
pub record Call (V : Type 0) : Type 0 where
  pub request : Request V
  pub files : FileMap
  pub moment : Moment
  pub control : CacheControl

-- a call that was made, with the count of faults of its files before it and after it
pub record Done (V : Type 0) : Type 0 where
  pub call : Call V
  pub faults_before : ℕ
  pub faults_after : ℕ

-- there was a fault during the call
abbrev pub Fault : {V : Type 0} → Done V → Type 0
Fault d = Rose d.faults_before d.faults_after

-- the calls alone
abbrev pub calls_of : {V : Type 0} → List (Done V) → List (Call V)
calls_of ds = map (λ d. d.call) ds

-- Why a call returns an error. Memory is lacking, or the store failed, or what it returned is no entry. Or an extra file has no digest, the
-- input is no regular file, or there is no preprocessed text; for each of these three the cause may be a fault. Or a line marker of the
-- text is malformed.
pub data Why : Type 0 where
  Memory : Why
  Extra : Why
  ExtraFault : Why
  Input : Why
  InputFault : Why
  Store : Why
  Damaged : Why
  NoText : Why
  TextFault : Why
  Marker : Why

-- the result of a call: a key and whether it was computed, or an error
pub data CallResult : Type 0 where
  Keyed : Bytes → Bool → CallResult
  ReturnsError : Why → CallResult
