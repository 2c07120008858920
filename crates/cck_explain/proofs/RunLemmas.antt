-- what is written of an error, and the statuses
use Rattle.std.proofs.Common.{◌≡◌, ◌≢◌, ◌+◌, ◌++◌, Option, Result, Ok, Err, OnOk, OnErr, IfSome, length, refl, sym, subst, take, inr}
use Rattle.std.proofs.KnownBytes.{Appends-trans}
use Rattle.std.proofs.Math.Seq.{take-append-add}
use Rattle.std.specs.Io.KnownBytes.{Appends}
use Rattle.clap.specs.declared.error.kind.ErrorKind.{ErrorKind}
use Rattle.clap.specs.declared.error.kind.ErrorKind.TheVariants.{DisplayHelp, DisplayVersion, OutOfMemory}
use Rattle.cck_command.specs.Printing.{AppendsBeginning}
use Rattle.cck_command.specs.declared.status.Status.{Status}
use Rattle.cck_command.specs.declared.status.Status.TheVariants.{Failed, Usage}
use Rattle.cck_path.specs.Bytes.{Bytes}
use Rattle.cck_explain.proofs.BufferLemmas.{begun_sooner, if_known}
use Rattle.cck_explain.specs.Run.{StatusOf}
use Rattle.cck_explain.specs.Written.{BeginsOf, WritesOf}

-- some bytes, and then a prefix of others
pub then_begun : (a b c : Option Bytes) (xs ys : Bytes) → Appends a b xs → AppendsBeginning b c ys → AppendsBeginning a c (xs ++ ys)
then_begun a b c xs ys p q = (length xs + q.0, subst (Appends a c) (sym (take-append-add xs ys q.0)) (Appends-trans a b c xs (take q.0 ys) p q.1))

-- a prefix of the first of three, of the second, and of the third
pub first_of_three : (a b : Option Bytes) (xs ys zs : Bytes) → AppendsBeginning a b xs → AppendsBeginning a b (xs ++ ys ++ zs)
first_of_three a b xs ys zs p = begun_sooner a b (xs ++ ys) zs (begun_sooner a b xs ys p)

pub second_of_three : (a b c : Option Bytes) (xs ys zs : Bytes) → Appends a b xs → AppendsBeginning b c ys → AppendsBeginning a c (xs ++ ys ++ zs)
second_of_three a b c xs ys zs p q = begun_sooner a c (xs ++ ys) zs (then_begun a b c xs ys p q)

pub third_of_three : (a b c d : Option Bytes) (xs ys zs : Bytes) → Appends a b xs → Appends b c ys → AppendsBeginning c d zs → AppendsBeginning a d (xs ++ ys ++ zs)
third_of_three a b c d xs ys zs p q r = then_begun a c d (xs ++ ys) zs (Appends-trans a b c xs ys p q) r

-- ---- statuses

pub failed_status : (kind : ErrorKind) → StatusOf kind Failed
failed_status DisplayHelp = λ e. cc
failed_status DisplayVersion = λ e. cc
failed_status OutOfMemory = refl
failed_status _ = λ e. cc

pub help_status : (kind : ErrorKind) (status : Status) → kind ≡ DisplayHelp → status ≢ Usage → StatusOf kind status
help_status kind status is h = subst (λ k. StatusOf k status) (sym is) h

pub version_status : (kind : ErrorKind) (status : Status) → kind ≡ DisplayVersion → status ≢ Usage → StatusOf kind status
version_status kind status is h = subst (λ k. StatusOf k status) (sym is) h

pub usage_status : (kind : ErrorKind) → (kind ≡ OutOfMemory → ⊥) → (kind ≡ DisplayHelp → ⊥) → (kind ≡ DisplayVersion → ⊥) → StatusOf kind Usage
usage_status DisplayHelp memory help version = absurd (help refl)
usage_status DisplayVersion memory help version = absurd (version refl)
usage_status OutOfMemory memory help version = absurd (memory refl)
usage_status _ memory help version = λ e. cc

-- ---- what is written for a request

-- what is known of what was read, for a result without an error and with one
pub on_ok_known : {T E : Type 0} (r : Result T E) (o : Option Bytes) (P Q : Bytes → Type 0) → ((bytes : Bytes) → P bytes → Q bytes) → OnOk r (IfSome o P) → OnOk r (IfSome o Q)
on_ok_known (Ok x) o P Q f h = if_known o P Q h f
on_ok_known (Err e) o P Q f h = tt

pub on_err_known : {T E : Type 0} (r : Result T E) (o : Option Bytes) (P Q : Bytes → Type 0) → ((bytes : Bytes) → P bytes → Q bytes) → OnErr r (IfSome o P) → OnErr r (IfSome o Q)
on_err_known (Ok x) o P Q f h = tt
on_err_known (Err e) o P Q f h = if_known o P Q h f

-- the one listing that there is was written, or begun
pub writes_one : (listing : Bytes) (old new : Option Bytes) → Appends old new listing → WritesOf (λ l. l ≡ listing) old new
writes_one listing old new p = (listing, refl, p)

pub begins_one : (listing : Bytes) (old new : Option Bytes) → AppendsBeginning old new listing → BeginsOf (λ l. l ≡ listing) old new
begins_one listing old new p = inr (listing, refl, p)
