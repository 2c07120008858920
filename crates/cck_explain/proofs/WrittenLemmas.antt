-- the errors of a listing
use Rattle.std.proofs.Common.{◌≡◌, ◌⊎◌, Result, Ok, Err, OnOk, OnErr, Option, Some, None, IfErr, IfSome, refl, sym, subst, inl, inr}
use Rattle.cck_path.specs.Bytes.{Bytes}
use Rattle.cck_command.specs.Script.{IsScriptError}
use Rattle.cck_command.specs.declared.script.error.ScriptError.{ScriptError}
use Rattle.cck_command.specs.declared.script.error.ScriptError.TheVariants as script
use Rattle.cck_explain_listing.specs.Bytes as entry
use Rattle.cck_explain_listing.specs.declared.entry_text.EntryError.{EntryError}
use Rattle.cck_explain_listing.specs.declared.entry_text.EntryError.TheVariants as variants
use Rattle.cck_explain.proofs.BufferLemmas.{if_any}
use Rattle.cck_explain.specs.Written.{IsExplainErrorFor, explained_by, explained_by_script}
use Rattle.cck_explain.specs.declared.error.ExplainError.{ExplainError}
use Rattle.cck_explain.specs.declared.error.ExplainError.TheVariants.{Memory, Read, Write}

-- what holds of the error holds of the result
pub err_with : {T E : Type 0} (r : Result T E) (P : E → Type 0) (error : E) → r ≡ Err error → P error → IfErr r P
err_with r P error is p = subst (λ x. IfErr x P) (sym is) p

-- the error for bytes that have no listing, after which nothing was written
pub entry_error : (bytes : Bytes) (error : EntryError) (explained : ExplainError) (old : Option Bytes) → entry.IsErrorFor bytes error → explained ≡ explained_by error
    → IsExplainErrorFor bytes explained old old
entry_error bytes variants.Memory explained old h is = subst (λ x. IsExplainErrorFor bytes x old old) (sym is) tt
entry_error bytes (variants.NotEntry fault) explained old h is = subst (λ x. IsExplainErrorFor bytes x old old) (sym is) (refl, h)

-- the error for a script that has no listing
pub script_error : (bytes : Bytes) (error : ScriptError) (explained : ExplainError) (old : Option Bytes) → IsScriptError bytes error → explained ≡ explained_by_script error
    → IsExplainErrorFor bytes explained old old
script_error bytes script.Memory explained old h is = subst (λ x. IsExplainErrorFor bytes x old old) (sym is) tt
script_error bytes (script.Line number) explained old h is = subst (λ x. IsExplainErrorFor bytes x old old) (sym is) (refl, h)

pub write_error : (bytes : Bytes) (explained : ExplainError) (old new : Option Bytes) → explained ≡ Write → IsExplainErrorFor bytes explained old new
write_error bytes explained old new is = subst (λ x. IsExplainErrorFor bytes x old new) (sym is) tt

pub read_error : (o : Option Bytes) (explained : ExplainError) (old new : Option Bytes) → (explained ≡ Read) ⊎ (explained ≡ Memory)
    → IfSome o (λ bytes. IsExplainErrorFor bytes explained old new)
read_error o explained old new (inl is) = subst (λ x. IfSome o (λ bytes. IsExplainErrorFor bytes x old new)) (sym is) (if_any o _ (λ bytes. tt))
read_error o explained old new (inr is) = subst (λ x. IfSome o (λ bytes. IsExplainErrorFor bytes x old new)) (sym is) (if_any o _ (λ bytes. tt))

-- what holds of the bytes that were read holds of what there was to read
of_stream : (o : Option Bytes) (bytes text : Bytes) (P : Bytes → Type 0) → IfSome o (λ stream. bytes ≡ stream) → text ≡ bytes → P text → IfSome o P
of_stream None bytes text P e is p = tt
of_stream (Some stream) bytes text P e is p = subst P e (subst P is p)

pub ok_of_stream : {T E : Type 0} (r : Result T E) (o : Option Bytes) (bytes text : Bytes) (P : Bytes → Type 0) → IfSome o (λ stream. bytes ≡ stream)
    → text ≡ bytes → OnOk r (P text) → OnOk r (IfSome o P)
ok_of_stream (Ok x) o bytes text P e is p = of_stream o bytes text P e is p
ok_of_stream (Err x) o bytes text P e is p = tt

pub err_of_stream : {T E : Type 0} (r : Result T E) (o : Option Bytes) (bytes text : Bytes) (P : Bytes → Type 0) → IfSome o (λ stream. bytes ≡ stream)
    → text ≡ bytes → OnErr r (P text) → OnErr r (IfSome o P)
err_of_stream (Ok x) o bytes text P e is p = tt
err_of_stream (Err x) o bytes text P e is p = of_stream o bytes text P e is p
