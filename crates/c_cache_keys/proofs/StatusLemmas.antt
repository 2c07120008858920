-- A file that is accepted by its status has the recorded digest, if times tell.
use Rattle.std.proofs.Common.{◌≡◌, Bool, true, false, ◌&&◌, ◌++◌, length, refl, sym, ap, ◌∙◌, arith, not, Option, Some, None, Ok, inl, inr, subst}
use Rattle.std.proofs.lemmas.Bool.{and_parts, eqb-true, and_from, and_right, eq-eqb}
use Rattle.std.proofs.lemmas.List.{length-append}
use Rattle.std.proofs.lemmas.Option.{none-some, same_Some}
use Rattle.std.specs.Option.{is_some, option_and}
use Rattle.std.specs.Prelude.{Contains, IfSome, IsSome, nat_eq}
use Rattle.cck_digest.specs.Digest.{digest_text}
use Rattle.cck_entry.specs.Statuses.{is_regular, status_accepts}
use Rattle.cck_files.proofs.FileLemmas.{file_of_kind, kind_of_file}
use Rattle.cck_files.specs.FileMap.{FileMap, FileNode, contents_of_kind, file_at, file_in, metadata_at, metadata_of}
use Rattle.std.specs.FinMap.{get}
use Rattle.cck_include.specs.Gathered.{are_before, is_before}
use Rattle.cck_include.specs.Include.{Include}
use Rattle.cck_entry.specs.Matching.{is_moment, times_agree}
use Rattle.cck_include.specs.Recorded.{file_time_part, has_time, is_timed, recorded, recorded_by}
use Rattle.cck_path.proofs.EqualityLemmas.{moment_decides}
use Rattle.cck_path.proofs.MomentLemmas.{equal_fields}
use Rattle.cck_path.specs.Bytes.{Bytes}
use Rattle.cck_path.specs.Path.{Path, components}
use Rattle.cck_path.specs.Timestamp.{Moment, same_moment}
use Rattle.cck_path.specs.declared.metadata.FileKind.{FileKind}
use Rattle.cck_path.specs.declared.metadata.FileKind.TheVariants.{File, Folder, Other}
use Rattle.cck_path.specs.declared.metadata.Metadata.{Metadata}
use Rattle.c_cache_keys.proofs.HitPlain.{components-named}
use Rattle.cck_hasher.proofs.Includes.{match_by_digest, same_ok}
use Rattle.cck_hasher.proofs.Judgements.{folder_or_file}
use Rattle.c_cache_keys.proofs.RecordedSame.{length-digest_text}
use Rattle.cck_hasher.specs.Call.{Call}
use Rattle.cck_hasher.specs.Step.{OwnPair, matching}
use Rattle.cck_hasher.specs.Walk.{IsGood, IsOld}
use Rattle.cck_hasher.specs.World.{HasSize, World, setting}
use Rattle.c_cache_keys.proofs.Names.{is_good}
use Rattle.c_cache_keys.specs.SnapshotLaws.{OldIsAccepted}
use Rattle.c_cache_keys.specs.Statuses.{TimesTell}

-- ---- times

moment_is : (a : Moment) (t : Option Moment) → is_moment t a ≡ true → t ≡ Some a
moment_is a None e = absurd cc
moment_is a (Some b) e = ap Some (equal_fields b a e)

-- both times that were recorded are those of the status
record BothTold (modified changed m c : Option Moment) : Type 0 where
  a : Moment
  b : Moment
  modified_is : modified ≡ Some a
  changed_is : changed ≡ Some b
  m_is : m ≡ Some a
  c_is : c ≡ Some b

both_told : (modified changed m c : Option Moment) → is_some changed ≡ true → times_agree true modified changed m c ≡ true → BothTold modified changed m c
both_told modified None m c some e = absurd cc
both_told None (Some b) m c some e = absurd cc
both_told (Some a) (Some b) m c some e =
    let parts = and_parts (is_moment m a) (is_moment c b) e in
    record { a = a; b = b; modified_is = refl; changed_is = refl; m_is = moment_is a m parts.0; c_is = moment_is b c parts.1 }

-- a time that was recorded beside another one is the time of the file
kept_is : (other time : Option Moment) (t : Moment) → option_and other time ≡ Some t → time ≡ Some t
kept_is None time t e = absurd (none-some _ e)
kept_is (Some o) time t e = e

old_times : (m c : Option Moment) (a b moment : Moment) → m ≡ Some a → c ≡ Some b → IfSome m (λ t. is_before t moment ≡ true) → IfSome c (λ t. is_before t moment ≡ true) → are_before m c moment ≡ true
old_times None c a b moment is-m is-c old older = absurd (none-some _ is-m)
old_times (Some x) None a b moment is-m is-c old older = absurd (none-some _ is-c)
old_times (Some x) (Some y) a b moment is-m is-c old older = and_from _ _ old older

-- ---- statuses

kind_is : (k : FileKind) → is_regular k ≡ true → k ≡ File
kind_is File e = refl
kind_is Folder e = absurd cc
kind_is Other e = absurd cc

-- what an accepted status says
accepted_parts : (i : Include) (m : Metadata) → status_accepts i m ≡ true → (m.kind ≡ File) × (m.len ≡ i.size) × BothTold i.modified i.changed m.modified m.changed × (length i.digest ≡ 64)
accepted_parts i m e =
    let times = times_agree true i.modified i.changed m.modified m.changed in
    let one = and_parts (is_regular m.kind) (nat_eq m.len i.size && (is_some i.changed && (times && nat_eq (length i.digest) 64))) e in
    let two = and_parts (nat_eq m.len i.size) (is_some i.changed && (times && nat_eq (length i.digest) 64)) one.1 in
    let three = and_parts (is_some i.changed) (times && nat_eq (length i.digest) 64) two.1 in
    let four = and_parts times (nat_eq (length i.digest) 64) three.1 in (
      kind_is m.kind one.0,
      eqb-true m.len i.size two.0,
      both_told i.modified i.changed m.modified m.changed three.0 four.0,
      eqb-true (length i.digest) 64 four.1,
    )

-- ---- digests

-- a recorded digest of 64 characters has no time part
plain_digest : (hash : Bytes → Bytes) → HasSize hash → (time timed : Bool) (text : Bytes) (part : Option Bytes) (r : Bytes) → length text ≡ 64 → length r ≡ 64
    → recorded_by hash time timed text part ≡ Some r → (time ≡ false) × (timed ≡ false) × (text ≡ r)
plain_digest hash size true timed text part r long-text long e = absurd cc
plain_digest hash size false false text part r long-text long e = (refl, refl, same_Some text r e)
plain_digest hash size false true text None r long-text long e = absurd cc
plain_digest hash size false true text (Some p) r long-text long e =
    let same : length (text ++ digest_text hash p) ≡ length r = ap length (same_Some (text ++ digest_text hash p) r e) in
    absurd (omega (arith, same, length-append text (digest_text hash p), length-digest_text hash size p, long-text, long))

recorded_plain : (hash : Bytes → Bytes) (time timed : Bool) (text : Bytes) (part : Option Bytes) → time ≡ false → timed ≡ false → recorded_by hash time timed text part ≡ Some text
recorded_plain hash true timed text part e f = absurd cc
recorded_plain hash false true text part e f = absurd cc
recorded_plain hash false false text part e f = refl

untimed_digest : (hash : Bytes → Bytes) (time timed : Bool) (text : Bytes) (part : Option Bytes) (r : Bytes) → timed ≡ false → recorded_by hash time timed text part ≡ Some r → text ≡ r
untimed_digest hash true timed text part r off e = absurd cc
untimed_digest hash false true text part r off e = absurd cc
untimed_digest hash false false text part r off e = same_Some text r e

itself : (a : Moment) → same_moment a a ≡ true
itself a = (moment_decides a a).1 refl

agrees_itself : (m c : Option Moment) → IsSome m → IsSome c → times_agree true (option_and c m) (option_and m c) m c ≡ true
agrees_itself None c some also = absurd cc
agrees_itself (Some a) None some also = absurd cc
agrees_itself (Some a) (Some b) some also = and_from _ _ (itself a) (itself b)

some_kept : (m c : Option Moment) → IsSome m → IsSome c → is_some (option_and m c) ≡ true
some_kept None c some also = absurd cc
some_kept (Some a) None some also = absurd cc
some_kept (Some a) (Some b) some also = refl

regular_in : (o : Option FileNode) (n : FileNode) → file_in o ≡ Ok n → n.kind ≡ File
regular_in None n e = absurd cc
regular_in (Some m) n e = (kind_of_file m n m.kind refl e).1

-- a node that is a regular file
regular_at : (files : FileMap) (p : Path) (n : FileNode) → file_at files p ≡ Ok n → n.kind ≡ File
unfolding file_at
regular_at files p n e = regular_in (get files.nodes p) n e

module _ {V : Type 0} (w : World V) (size : HasSize w.hash) where
  -- equal contents have equal recorded digests, if one has no time part
  same_record : (c d : Call V) (n o : FileNode) (r : Bytes) → length r ≡ 64 → n.contents ≡ o.contents → recorded (setting w c) n ≡ Some r → recorded (setting w d) o ≡ Some r
  unfolding recorded
  same_record c d n o r long same e =
      let off : Bool = not w.config.ignore_time_macros in
      let (time, timed, text) = plain_digest w.hash size (off && has_time n.contents) (off && is_timed n.contents) (digest_text w.hash n.contents) (file_time_part (setting w c) n) r
      (length-digest_text w.hash size n.contents) long e in
      ap (λ x. recorded_by w.hash (off && has_time x) (off && is_timed x) (digest_text w.hash x) (file_time_part (setting w d) o)) (sym same)
      ∙ recorded_plain w.hash (off && has_time n.contents) (off && is_timed n.contents) (digest_text w.hash n.contents) (file_time_part (setting w d) o) time timed
      ∙ ap Some text

  untimed_long : (c : Call V) (n : FileNode) (r : Bytes) → is_timed n.contents ≡ false → recorded (setting w c) n ≡ Some r → length r ≡ 64
  unfolding recorded
  untimed_long c n r untimed e =
      let off : Bool = not w.config.ignore_time_macros in
      let text = untimed_digest w.hash (off && has_time n.contents) (off && is_timed n.contents) (digest_text w.hash n.contents) (file_time_part (setting w c) n) r (and_right off (is_timed n.contents) untimed) e in
      ap length (sym text) ∙ length-digest_text w.hash size n.contents

  -- a file that an accepted text names last changed before the call
  old_file : (c : Call V) (p : Path) (n : FileNode) → file_at c.files p ≡ Ok n → IsGood w c p → IsOld w c n
  old_file c p n file (inl folder) = absurd (folder_or_file w c p n folder file)
  old_file c p n file (inr (o, own, old, digest)) = subst (IsOld w c) (same_ok o n (sym own ∙ file)) old

  -- what an earlier call recorded, and is accepted for the later one by its status, matches
  pub accepted_matches : (c d : Call V) (key k bytes : Bytes) (own : OwnPair w c key k bytes) (i : Include) → Contains own.includes i → TimesTell c d
      → (m : Metadata) → metadata_at d.files (components i.path) ≡ Ok m → status_accepts i m ≡ true → matching w d i ≡ true
  accepted_matches c d key k bytes own i at tell m status ok =
      let r = own.recorded.each i at in
      let read : components i.path ≡ r.path = ap components r.written ∙ components-named w c own.text r.path r.named in
      let (regular, len, told, plain) = accepted_parts i m ok in
      let (o, file-o, long, modified, changed) = file_of_kind d.files (components i.path) m status regular in
      let n-modified : r.node.modified ≡ Some told.a = kept_is r.node.changed r.node.modified told.a (sym r.modified ∙ told.modified_is) in
      let n-changed : r.node.changed ≡ Some told.b = kept_is r.node.modified r.node.changed told.b (sym r.changed ∙ told.changed_is) in
      let old = old_file c r.path r.node r.file (is_good w c own.text own.accepted r.path r.named) in
      let same : r.node.contents ≡ o.contents =
      tell r.path r.node o r.file (ap (file_at d.files) (sym read) ∙ file-o) (sym r.size ∙ sym len ∙ sym long) (n-modified ∙ sym told.m_is ∙ sym modified) (n-changed ∙ sym told.c_is ∙ sym changed)
      (old_times r.node.modified r.node.changed told.a told.b c.moment n-modified n-changed old.0 old.1) in
      match_by_digest (setting w d) d.files i (components i.path) o refl file-o (long ∙ len) (same_record c d r.node o i.digest plain same r.digest)

  pub old_is_accepted : OldIsAccepted w
  old_is_accepted c key k bytes own i n at file some also untimed =
      let r = own.recorded.each i at in
      let read : components i.path ≡ r.path = ap components r.written ∙ components-named w c own.text r.path r.named in
      let same : r.node ≡ n = same_ok r.node n (sym r.file ∙ ap (file_at c.files) (sym read) ∙ file) in
      let regular = regular_at c.files (components i.path) n file in
      let long : (metadata_of n).len ≡ i.size = ap (λ kind. length (contents_of_kind kind n.contents)) regular ∙ ap (λ (v : FileNode). length v.contents) (sym same) ∙ sym r.size in
      let modified : i.modified ≡ option_and n.changed n.modified = r.modified ∙ ap (λ (v : FileNode). option_and v.changed v.modified) same in
      let changed : i.changed ≡ option_and n.modified n.changed = r.changed ∙ ap (λ (v : FileNode). option_and v.modified v.changed) same in
      let digest : recorded (setting w c) n ≡ Some i.digest = ap (recorded (setting w c)) (sym same) ∙ r.digest in
      and_from _ _ (ap is_regular regular)
      (and_from _ _ (eq-eqb (metadata_of n).len i.size long)
      (and_from _ _ (ap is_some changed ∙ some_kept n.modified n.changed some also)
      (and_from _ _ (ap (λ v. times_agree true v i.changed n.modified n.changed) modified ∙ ap (λ v. times_agree true (option_and n.changed n.modified) v n.modified n.changed) changed ∙ agrees_itself n.modified n.changed some also)
      (eq-eqb (length i.digest) 64 (untimed_long c n i.digest untimed digest)))))
