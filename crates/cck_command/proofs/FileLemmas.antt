-- A regular file, from what is known of it and its contents.
use Rattle.std.proofs.Common.{◌≡◌, [], refl, ap, Option, Some, None, Result, Ok, Err}
use Rattle.std.specs.FinMap.{get}
use Rattle.cck_digest.specs.declared.error.FileError.{FileError}
use Rattle.cck_digest.specs.declared.error.FileError.TheVariants as file
use Rattle.cck_files.specs.Calls.{IsError, IsErrorOrMemory}
use Rattle.cck_files.specs.FileMap.{FileMap, FileNode, contents_at, contents_if, contents_in, file_at, file_if, file_in, metadata_at, metadata_in}
use Rattle.cck_path.specs.Bytes.{Bytes}
use Rattle.cck_path.specs.Path.{components}
use Rattle.cck_path.specs.Timestamp.{Moment}
use Rattle.cck_path.specs.declared.metadata.FileKind.{FileKind}
use Rattle.cck_path.specs.declared.metadata.FileKind.TheVariants.{File, Folder, Other}
use Rattle.cck_path.specs.declared.metadata.Metadata.{Metadata}
use Rattle.cck_command.specs.MiniPrinted.{file_text_at, text_if}
use Rattle.cck_command.specs.MiniErrors.{IsPrintError, print_error}

abbrev modified_in : Result Metadata FileError → Option Moment
modified_in (Ok m) = m.modified
modified_in (Err e) = None

abbrev bytes_in : Result Bytes FileError → Bytes
bytes_in (Ok s) = s
bytes_in (Err e) = []

of_kind : (k : FileKind) (n : FileNode) (s : Bytes) (modified : Option Moment) → contents_if k n.contents ≡ Ok s → n.modified ≡ modified → text_if (file_if n k) ≡ Some (s, modified)
of_kind File n s modified c m = λ i. Some (ap bytes_in c i, m i)
of_kind Folder n s modified c m = cc
of_kind Other n s modified c m = cc

of_node : (o : Option FileNode) (metadata : Metadata) (s : Bytes) → metadata_in o ≡ Ok metadata → contents_in o ≡ Ok s → text_if (file_in o) ≡ Some (s, metadata.modified)
of_node None metadata s m c = cc
of_node (Some n) metadata s m c = of_kind n.kind n s metadata.modified c (ap modified_in m)

-- what is known of a regular file, and its contents
pub file_read : (map : FileMap) (path : Bytes) (metadata : Metadata) (s : Bytes) → metadata_at map (components path) ≡ Ok metadata → contents_at map (components path) ≡ Ok s
    → file_text_at map path ≡ Some (s, metadata.modified)
unfolding file_text_at metadata_at contents_at file_at
file_read map path metadata s m c = of_node (get map.nodes (components path)) metadata s m c

no_node : (o : Option FileNode) (e : FileError) → metadata_in o ≡ Err e → text_if (file_in o) ≡ None
no_node None e m = refl
no_node (Some n) e m = cc

no_kind : (k : FileKind) (n : FileNode) (e : FileError) → contents_if k n.contents ≡ Err e → text_if (file_if n k) ≡ None
no_kind File n e c = cc
no_kind Folder n e c = refl
no_kind Other n e c = refl

no_file : (o : Option FileNode) (e : FileError) → contents_in o ≡ Err e → text_if (file_in o) ≡ None
no_file None e c = refl
no_file (Some n) e c = no_kind n.kind n e c

-- nothing is known, so there is no regular file
pub unknown : (map : FileMap) (path : Bytes) (F : Type 0) (e : FileError) → IsError (metadata_at map (components path)) F e → IsPrintError (file_text_at map path) F (print_error e)
unfolding file_text_at metadata_at file_at
unknown map path F file.NotFound r = no_node (get map.nodes (components path)) file.NotFound r
unknown map path F file.OtherKind r = no_node (get map.nodes (components path)) file.OtherKind r
unknown map path F file.Fault r = r
unknown map path F file.Memory r = tt

-- no contents can be read, so there is no regular file
pub unread : (map : FileMap) (path : Bytes) (F G : Type 0) (e : FileError) → (F → G) → IsErrorOrMemory (contents_at map (components path)) F e → IsPrintError (file_text_at map path) G (print_error e)
unfolding file_text_at contents_at file_at
unread map path F G file.NotFound f r = no_file (get map.nodes (components path)) file.NotFound r
unread map path F G file.OtherKind f r = no_file (get map.nodes (components path)) file.OtherKind r
unread map path F G file.Fault f r = f r
unread map path F G file.Memory f r = tt
