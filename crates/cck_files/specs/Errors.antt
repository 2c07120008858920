-- the errors of a digest
use Rattle.std.specs.Prelude.{◌≡◌, ℕ, true, false}
use Rattle.std.specs.List.{list_any}
use Rattle.cck_digest.specs.declared.error.FileError.{FileError}
use Rattle.cck_digest.specs.declared.error.FileError.TheVariants.{NotFound, OtherKind, Fault, Memory}
use Rattle.cck_digest.specs.declared.error.UtilError.{UtilError}
use Rattle.cck_digest.specs.declared.error.UtilError.TheVariants as util
use Rattle.cck_path.specs.Path.{Path}
use Rattle.cck_files.specs.FileMap.{FileMap, exists_at}
use Rattle.cck_files.specs.FolderText.{is_other, is_too_deep, node_and_reached}

abbrev pub IsFileErrorAt : FileMap → Path → Type 0 → FileError → Type 0
IsFileErrorAt fm p HasFault NotFound = exists_at fm p ≡ false
IsFileErrorAt fm p HasFault OtherKind = list_any is_other (node_and_reached fm.nodes p) ≡ true
IsFileErrorAt fm p HasFault Fault = HasFault
IsFileErrorAt fm p HasFault Memory = ⊥

-- the errors for the node at a path, which has this level: there is no node; a node of another kind or a directory of a level above 100 is reached;
-- there was a fault; memory is lacking
abbrev pub IsErrorAt : ℕ → FileMap → Path → Type 0 → UtilError → Type 0
IsErrorAt level fm p HasFault util.Memory = Unit {0}
IsErrorAt level fm p HasFault util.Read = ⊥
IsErrorAt level fm p HasFault (util.File e) = IsFileErrorAt fm p HasFault e
IsErrorAt level fm p HasFault util.TooDeep = list_any (is_too_deep level) (node_and_reached fm.nodes p) ≡ true
IsErrorAt level fm p HasFault util.TooLong = ⊥
IsErrorAt level fm p HasFault util.Write = ⊥
IsErrorAt level fm p HasFault util.IncompleteEscape = ⊥
IsErrorAt level fm p HasFault util.InvalidEscape = ⊥
IsErrorAt level fm p HasFault util.IncompleteHex = ⊥
IsErrorAt level fm p HasFault util.InvalidHex = ⊥

-- the errors of the digest of the node at a path
abbrev pub IsDigestError : FileMap → Path → Type 0 → UtilError → Type 0
IsDigestError = IsErrorAt 1
