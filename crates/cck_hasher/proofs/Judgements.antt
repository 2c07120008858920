-- How the node at a path decides what a name of it does.
use Rattle.std.proofs.Common.{◌≡◌, inl, inr, ◌||◌, Bool, true, false, if◌then◌else◌, not, Option, Some, None, Ok, refl, sym, ap, subst, ◌∙◌}
use Rattle.std.proofs.lemmas.Bool.{false≢true, not-false, or_from, or_parts}
use Rattle.std.specs.FinMap.{get}
use Rattle.std.specs.Prelude.{IfSome}
use Rattle.cck_files.specs.FileMap.{FileNode, file_at, file_if, file_in, folder_at, folder_if, folder_in}
use Rattle.cck_include.specs.Gathered.{is_before}
use Rattle.cck_include.specs.Recorded.{recorded}
use Rattle.cck_path.specs.Bytes.{Bytes}
use Rattle.cck_path.specs.Path.{Path}
use Rattle.cck_path.specs.Timestamp.{Moment}
use Rattle.cck_path.specs.declared.metadata.FileKind.{FileKind}
use Rattle.cck_path.specs.declared.metadata.FileKind.TheVariants as kind
use Rattle.cck_hasher.specs.Judgement.{Folder, Regular, Bad, digest_judgement, is_late, kind_judgement, node_judgement, judgement_at}
use Rattle.cck_hasher.proofs.Includes.{same_ok}
use Rattle.cck_hasher.specs.Call.{Call}
use Rattle.cck_hasher.specs.Walk.{IsGood, IsOld}
use Rattle.cck_hasher.specs.World.{World, setting}

early : (moment : Moment) (time : Option Moment) → is_late moment time ≡ false → IfSome time (λ t. is_before t moment ≡ true)
early moment None h = tt
early moment (Some time) h = not-false (is_before time moment) h

not_late : (moment : Moment) (time : Option Moment) → IfSome time (λ t. is_before t moment ≡ true) → is_late moment time ≡ false
not_late moment None h = refl
not_late moment (Some time) h = ap not h

module _ {V : Type 0} (w : World V) (c : Call V) where
  -- an old regular file is there, with this recorded digest
  abbrev pub IsRegular : Path → Bytes → Type 0
  IsRegular p digest = (n : FileNode) × (file_at c.files p ≡ Ok n) × IsOld w c n × (recorded (setting w c) n ≡ Some digest)

  folder_by : (n : FileNode) (late : Bool) (digest : Option Bytes) → (if late then Bad else digest_judgement digest) ≡ Folder → ⊥
  folder_by n true digest h = cc
  folder_by n false None h = cc
  folder_by n false (Some digest) h = cc

  folder_kind : (n : FileNode) (k : FileKind) → kind_judgement (setting w c) n k ≡ Folder → folder_if k ≡ Ok tt
  folder_kind n kind.File h = absurd (folder_by n (is_late c.moment n.modified || is_late c.moment n.changed) (recorded (setting w c) n) h)
  folder_kind n kind.Folder h = refl
  folder_kind n kind.Other h = cc

  folder_node : (o : Option FileNode) → node_judgement (setting w c) o ≡ Folder → folder_in o ≡ Ok tt
  folder_node None h = cc
  folder_node (Some n) h = folder_kind n n.kind h

  pub judgement_folder : (p : Path) → judgement_at (setting w c) c.files p ≡ Folder → folder_at c.files p ≡ Ok tt
  unfolding judgement_at folder_at
  judgement_folder p h = folder_node (get c.files.nodes p) h

  regular_by : (n : FileNode) (late : Bool) (own : Option Bytes) (digest : Bytes) → (if late then Bad else digest_judgement own) ≡ Regular digest → (late ≡ false) × (own ≡ Some digest)
  regular_by n true own digest h = cc
  regular_by n false None digest h = cc
  regular_by n false (Some own) digest h = (refl, cc)

  regular_kind : (n : FileNode) (k : FileKind) (digest : Bytes) → kind_judgement (setting w c) n k ≡ Regular digest → (file_if n k ≡ Ok n) × IsOld w c n × (recorded (setting w c) n ≡ Some digest)
  regular_kind n kind.File digest h =
      let (old, own) = regular_by n (is_late c.moment n.modified || is_late c.moment n.changed) (recorded (setting w c) n) digest h in
      let parts = or_parts (is_late c.moment n.modified) (is_late c.moment n.changed) old in
      (refl, (early c.moment n.modified parts.0, early c.moment n.changed parts.1), own)
  regular_kind n kind.Folder digest h = cc
  regular_kind n kind.Other digest h = cc

  regular_node : (o : Option FileNode) (digest : Bytes) → node_judgement (setting w c) o ≡ Regular digest → (n : FileNode) × (file_in o ≡ Ok n) × IsOld w c n × (recorded (setting w c) n ≡ Some digest)
  regular_node None digest h = cc
  regular_node (Some n) digest h = let (file, old, own) = regular_kind n n.kind digest h in (n, file, old, own)

  pub judgement_regular : (p : Path) (digest : Bytes) → judgement_at (setting w c) c.files p ≡ Regular digest → IsRegular p digest
  unfolding judgement_at file_at
  judgement_regular p digest h = regular_node (get c.files.nodes p) digest h

  bad_by : (n : FileNode) (late : Bool) (own : Option Bytes) → (if late then Bad else digest_judgement own) ≡ Bad → late ≡ false → own ≡ None
  bad_by n true own h is = absurd (false≢true (sym is))
  bad_by n false None h is = refl
  bad_by n false (Some own) h is = cc

  old_kind : (n m : FileNode) (k : FileKind) → kind_judgement (setting w c) n k ≡ Bad → file_if n k ≡ Ok m → IsOld w c m → recorded (setting w c) m ≡ None
  old_kind n m kind.File h is old =
      let same : n ≡ m = same_ok n m is in
      let own : IsOld w c n = subst (λ v. IsOld w c v) (sym same) old in
      let late = or_from (is_late c.moment n.modified) (is_late c.moment n.changed) (not_late c.moment n.modified own.0) (not_late c.moment n.changed own.1) in
      ap (recorded (setting w c)) (sym same) ∙ bad_by n (is_late c.moment n.modified || is_late c.moment n.changed) (recorded (setting w c) n) h late
  old_kind n m kind.Folder h is old = cc
  old_kind n m kind.Other h is old = cc

  no_folder : (n : FileNode) (k : FileKind) → kind_judgement (setting w c) n k ≡ Bad → folder_if k ≡ Ok tt → ⊥
  no_folder n kind.File h is = cc
  no_folder n kind.Folder h is = cc
  no_folder n kind.Other h is = cc

  bad_folder : (o : Option FileNode) → node_judgement (setting w c) o ≡ Bad → folder_in o ≡ Ok tt → ⊥
  bad_folder None h is = cc
  bad_folder (Some n) h is = no_folder n n.kind h is

  bad_file : (o : Option FileNode) (m : FileNode) → node_judgement (setting w c) o ≡ Bad → file_in o ≡ Ok m → IsOld w c m → recorded (setting w c) m ≡ None
  bad_file None m h is old = cc
  bad_file (Some n) m h is old = old_kind n m n.kind h is old

  pub judgement_bad : (p : Path) → judgement_at (setting w c) c.files p ≡ Bad → IsGood w c p → ⊥
  unfolding judgement_at file_at folder_at
  judgement_bad p h (inl folder) = bad_folder (get c.files.nodes p) h folder
  judgement_bad p h (inr (n, file, old, known)) = known (bad_file (get c.files.nodes p) n h file old)

  two_kinds : (n m : FileNode) (k : FileKind) → folder_if k ≡ Ok tt → file_if m k ≡ Ok n → ⊥
  two_kinds n m kind.File folder file = cc
  two_kinds n m kind.Folder folder file = cc
  two_kinds n m kind.Other folder file = cc

  two_nodes : (n : FileNode) (o : Option FileNode) → folder_in o ≡ Ok tt → file_in o ≡ Ok n → ⊥
  two_nodes n None folder file = cc
  two_nodes n (Some m) folder file = two_kinds n m m.kind folder file

  -- a directory is no regular file
  pub folder_or_file : (p : Path) (n : FileNode) → folder_at c.files p ≡ Ok tt → file_at c.files p ≡ Ok n → ⊥
  unfolding file_at folder_at
  folder_or_file p n folder file = two_nodes n (get c.files.nodes p) folder file
