-- The reasons of errors, where files are missing, and where a store returns bytes that are written out.
use Rattle.std.proofs.Common.{◌≡◌, List, [], ◌∷◌, Some, None, Ok, Err, codes, map, refl, sym, ap, ◌∙◌, subst, arith}
use Rattle.std.specs.Prelude.{is_some}
use Rattle.std.specs.FinMap.{get}
use Rattle.cck_digest.specs.declared.error.FileError.TheVariants.{NotFound, OtherKind, Fault}
use Rattle.cck_digest.specs.declared.error.UtilError.TheVariants as util
use Rattle.cck_files.specs.FileDigest.{IsFirstError}
use Rattle.cck_files.specs.FileMap.{file_at, file_in, exists_at}
use Rattle.cck_digest.specs.declared.key_error.KeyError.TheVariants as error
use Rattle.cck_path.specs.Bytes.{Bytes}
use Rattle.cck_path.specs.Path.{components}
use Rattle.cck_util.specs.Store.{Store}
use Rattle.cck_digest.specs.declared.entry_error.Error.TheVariants as entry
use Rattle.cck_hasher.specs.Call.{Call}
use Rattle.cck_hasher.specs.Reasons.{IsFileReason, IsStoreReason}
use Rattle.cck_hasher.specs.Walk.{input_path}
use Rattle.cck_hasher.specs.World.{World}

module _ {V : Type 0} (w : World V) (c : Call V) (F : Type 0) where
  module _ (nothing : get c.files.nodes (components (input_path c)) ≡ None) where
    input_missing : IsFileReason w c F (error.Input (util.File NotFound))
    unfolding file_at
    input_missing = ap file_in nothing

    -- and the reason is not that a node of another kind is there
    input_is_not_read_as_directory : IsFileReason w c F (error.Input (util.File OtherKind)) → ⊥
    unfolding file_at
    input_is_not_read_as_directory claim =
        let apart : Err NotFound ≡ Err OtherKind = sym (ap file_in nothing) ∙ claim in
        cc

  -- of two extra files the first is missing
  further_file_missing : c.request.arguments.extra_hash_files ≡ codes "/x" ∷ codes "/y" ∷ [] → get c.files.nodes (components (codes "/x")) ≡ None → IsFileReason w c F (error.Extra (util.File NotFound))
  unfolding exists_at
  further_file_missing are nothing =
      let first : IsFirstError w.hash c.files (map components (codes "/x" ∷ codes "/y" ∷ [])) F (util.File NotFound) =
      record {
        at = 0;
        within = omega (arith);
        earlier = refl;
        cause = ap is_some nothing;
      } in
      (λ e. cc, subst (λ (files : List Bytes). IsFirstError w.hash c.files (map components files) F (util.File NotFound)) (sym are) first)

  -- the reason is a fault only where there was one
  input_fault : IsFileReason w c F (error.Input (util.File Fault)) → F
  input_fault came = came

module _ {S : Type 0} (st : Store S) (k : Bytes) (s t : S) where
  -- the first byte of an entry is 1, so bytes that begin with another one are of an unknown format
  other_format : st.got s k (Ok (Some (codes "x"))) t → IsStoreReason st k s t (error.Entry (entry.UnknownFormat 120))
  other_format got =
      record {
        other = λ e. cc;
        bytes = codes "x";
        got = got;
        reads = ([], refl, λ e. omega (arith, e));
      }
