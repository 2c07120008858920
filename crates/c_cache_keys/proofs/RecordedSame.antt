-- Files with equal recorded digests are equal as far as a text can show.
use Rattle.std.proofs.Common.{◌≡◌, Bool, true, false, ◌||◌, [], ◌++◌, length, refl, sym, ap, ◌∙◌, Ok, Option, Some, None, not, ◌&&◌}
use Rattle.std.proofs.lemmas.List.{append-nil}
use Rattle.std.proofs.lemmas.Bool.{or_right}
use Rattle.cck_digest.proofs.HexLemmas.{text_length}
use Rattle.cck_digest.proofs.ReadsBack.{bytes_read_back}
use Rattle.cck_digest.specs.Digest.{digest_text}
use Rattle.cck_files.specs.FileMap.{FileNode, file_at}
use Rattle.cck_include.specs.Recorded.{file_time_part, has_date, has_time, has_timestamp, is_timed, recorded, recorded_by}
use Rattle.cck_path.specs.Bytes.{Bytes}
use Rattle.cck_path.specs.Path.{Path}
use Rattle.cck_path.specs.Timestamp.{nanos_of}
use Rattle.cck_include.specs.TimePart.{AreOfOneSecond, local_day, source_date_epoch, time_part}
use Rattle.cck_include.proofs.PartLemmas.{day_is_determined, second_is_determined}
use Rattle.cck_hasher.specs.Call.{Call}
use Rattle.c_cache_keys.specs.Premises.{IsSameFile}
use Rattle.cck_hasher.specs.World.{HasSize, World, setting}

-- a hex digest has 64 characters
pub length-digest_text : (hash : Bytes → Bytes) → HasSize hash → (bytes : Bytes) → length (digest_text hash bytes) ≡ 64
length-digest_text hash size bytes = text_length hash bytes (size bytes)

-- the parts of a recorded digest
recorded_some : (hash : Bytes → Bytes) (time timed : Bool) (text : Bytes) (part : Option Bytes) (r : Bytes) → recorded_by hash time timed text part ≡ Some r
    → (time ≡ false) × (rest : Bytes) × (r ≡ text ++ rest) × (timed ≡ true → (p : Bytes) × (part ≡ Some p) × (rest ≡ digest_text hash p))
recorded_some hash true timed text part r e = absurd cc
recorded_some hash false false text part r e = (refl, [], sym (append-nil text ∙ cc), λ h. absurd cc)
recorded_some hash false true text None r e = absurd cc
recorded_some hash false true text (Some p) r e = (refl, digest_text hash p, cc, λ h. (p, refl, refl))

-- the local day and the `SOURCE_DATE_EPOCH` of two calls, and the local second at which two files were modified, are the same
abbrev SameDay : {V : Type 0} → World V → Call V → Call V → Type 0
SameDay w c d =
    (local_day w.zone (nanos_of c.moment) ≡ local_day w.zone (nanos_of d.moment)) × (source_date_epoch c.request.env_vars ≡ source_date_epoch d.request.env_vars)

abbrev SameSecond : {V : Type 0} → World V → FileNode → FileNode → Type 0
SameSecond w n o = AreOfOneSecond w.zone n.modified o.modified

abbrev IsDetermined : {V : Type 0} → World V → Call V → Call V → FileNode → FileNode → Bool → Bool → Type 0
IsDetermined w c d n o date timestamp = (date ≡ true → SameDay w c d) × (timestamp ≡ true → SameSecond w n o)

module _ {V : Type 0} (w : World V) (size : HasSize w.hash) where
  -- the same of a call's file, where time macros are not ignored
  made_of : w.config.ignore_time_macros ≡ false → (c : Call V) (n : FileNode) (r : Bytes) → recorded (setting w c) n ≡ Some r
      → (has_time n.contents ≡ false) × (rest : Bytes) × (r ≡ digest_text w.hash n.contents ++ rest)
      × (is_timed n.contents ≡ true → (p : Bytes) × (file_time_part (setting w c) n ≡ Some p) × (rest ≡ digest_text w.hash p))
  unfolding recorded
  made_of off c n r e =
      recorded_some w.hash (has_time n.contents) (is_timed n.contents) (digest_text w.hash n.contents) (file_time_part (setting w c) n) r
      (ap (λ b. recorded_by w.hash (not b && has_time n.contents) (not b && is_timed n.contents) (digest_text w.hash n.contents) (file_time_part (setting w c) n)) (sym off) ∙ e)

  -- equal time parts are of one day, one value of the variable and one second
  time_is_determined : (date timestamp : Bool) (c d : Call V) (n o : FileNode) (p : Bytes)
      → time_part date timestamp n.modified c.moment w.zone c.request.env_vars ≡ Some p → time_part date timestamp o.modified d.moment w.zone d.request.env_vars ≡ Some p
      → IsDetermined w c d n o date timestamp
  time_is_determined date timestamp c d n o p e f = (day date e f, second timestamp e f)
    where
      day : (b : Bool) → time_part b timestamp n.modified c.moment w.zone c.request.env_vars ≡ Some p → time_part b timestamp o.modified d.moment w.zone d.request.env_vars ≡ Some p
          → b ≡ true → SameDay w c d
      day true e f h = day_is_determined w.zone timestamp n.modified o.modified c.moment d.moment c.request.env_vars d.request.env_vars p e f
      day false e f h = absurd cc

      second : (b : Bool) → time_part date b n.modified c.moment w.zone c.request.env_vars ≡ Some p → time_part date b o.modified d.moment w.zone d.request.env_vars ≡ Some p
          → b ≡ true → SameSecond w n o
      second true e f h = second_is_determined w.zone date n.modified o.modified c.moment d.moment c.request.env_vars d.request.env_vars p e f
      second false e f h = absurd cc

  -- two files with equal recorded digests, where no two of the strings that are hashed share a digest
  pub recorded_same : w.config.ignore_time_macros ≡ false → (c d : Call V) (path : Path) (n o : FileNode) (r : Bytes)
      → file_at c.files path ≡ Ok n → file_at d.files path ≡ Ok o → recorded (setting w c) n ≡ Some r → recorded (setting w d) o ≡ Some r
      → (digest_text w.hash n.contents ≡ digest_text w.hash o.contents → n.contents ≡ o.contents)
      → ((p q : Bytes) → is_timed n.contents ≡ true → is_timed o.contents ≡ true → file_time_part (setting w c) n ≡ Some p → file_time_part (setting w d) o ≡ Some q
      → digest_text w.hash p ≡ digest_text w.hash q → p ≡ q)
      → (same : IsSameFile w c d path) × (has_time same.earlier.contents ≡ false)
  recorded_same off c d path n o r file file' e f one_file one_time =
      let (clear, rest, is, part) = made_of off c n r e in
      let (clear', rest', is', part') = made_of off d o r f in
      let cut = bytes_read_back (digest_text w.hash n.contents) (digest_text w.hash o.contents) rest rest'
      (length-digest_text w.hash size n.contents ∙ sym (length-digest_text w.hash size o.contents)) (sym is ∙ is') in
      let contents : n.contents ≡ o.contents = one_file cut.0 in
      let facts : is_timed n.contents ≡ true → IsDetermined w c d n o (has_date n.contents) (has_timestamp n.contents) =
      λ timed.
      let timed' : is_timed o.contents ≡ true = ap is_timed (sym contents) ∙ timed in
      let (p, is-p, text-p) = part timed in
      let (q, is-q, text-q) = part' timed' in
      let same : p ≡ q = one_time p q timed timed' is-p is-q (sym text-p ∙ cut.1 ∙ text-q) in
      time_is_determined (has_date n.contents) (has_timestamp n.contents) c d n o p is-p
      (ap (λ s. time_part (has_date s) (has_timestamp s) o.modified d.moment w.zone d.request.env_vars) contents ∙ is-q ∙ ap Some (sym same))
      in (
        record {
          earlier = n;
          later = o;
          is_earlier = file;
          is_later = file';
          contents = contents;
          day = λ h. ((facts (ap (λ b. b || has_timestamp n.contents) h)).0 h).0;
          epoch = λ h. ((facts (ap (λ b. b || has_timestamp n.contents) h)).0 h).1;
          second = λ h. (facts (or_right (has_date n.contents) (has_timestamp n.contents) h)).1 h;
        },
        clear,
      )
