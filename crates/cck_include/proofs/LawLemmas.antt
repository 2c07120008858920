-- What recorded digests imply.
use Rattle.std.proofs.Common.{◌≡◌, ℕ, Bool, true, false, not, ◌&&◌, ◌||◌, List, [], ◌++◌, length, if◌then◌else◌, Option, Some, None, refl, sym, ap, ◌∙◌, arith}
use Rattle.std.specs.Option.{unwrap_or}
use Rattle.std.proofs.lemmas.List.{append-nil, length-append}
use Rattle.std.proofs.lemmas.Bool.{or_right}
use Rattle.cck_digest.proofs.HexLemmas.{text_length}
use Rattle.cck_digest.proofs.ReadsBack.{bytes_read_back}
use Rattle.cck_digest.specs.Digest.{digest_text}
use Rattle.cck_files.specs.FileMap.{FileNode}
use Rattle.cck_path.specs.Timestamp.{Moment, nanos_of}
use Rattle.cck_path.specs.Variables.{Variable}
use Rattle.cck_include.proofs.PartLemmas.{day_is_determined, second_is_determined}
use Rattle.cck_include.specs.TimePart.{local_day, source_date_epoch, time_part}
use Rattle.cck_include.specs.Laws.{AreTold, ShowTheSame, at_moment}
use Rattle.cck_include.specs.Recorded.{counts_part, file_time_part, has_date, has_time, has_timestamp, is_timed, recorded, recorded_by}
use Rattle.cck_include.specs.Setting.{Setting}

-- the parts of a recorded digest
made_of : (hash : List ℕ → List ℕ) (time timed : Bool) (text : List ℕ) (part : Option (List ℕ)) (digest : List ℕ) → recorded_by hash time timed text part ≡ Some digest
    → (time ≡ false) × (rest : List ℕ) × (digest ≡ text ++ rest) × (timed ≡ false → rest ≡ []) × (timed ≡ true → (p : List ℕ) × (part ≡ Some p) × (rest ≡ digest_text hash p))
made_of hash true timed text part digest e = absurd cc
made_of hash false false text part digest e =
    let is : text ≡ digest = ap (λ (o : Option (List ℕ)). unwrap_or o text) e in
    (refl, [], sym (append-nil text ∙ is), λ h. refl, λ h. absurd cc)
made_of hash false true text None digest e = absurd cc
made_of hash false true text (Some p) digest e =
    let is : text ++ digest_text hash p ≡ digest = ap (λ (o : Option (List ℕ)). unwrap_or o text) e in
    (refl, digest_text hash p, sym is, λ h. absurd cc, λ h. (p, refl, refl))

has_length : (hash : List ℕ → List ℕ) (timed : Bool) (text rest digest : List ℕ) (part : Option (List ℕ)) → ((fed : List ℕ) → length (hash fed) ≡ 32) → length text ≡ 64 → digest ≡ text ++ rest
    → (timed ≡ false → rest ≡ []) → (timed ≡ true → (p : List ℕ) × (part ≡ Some p) × (rest ≡ digest_text hash p)) → length digest ≡ (if timed then 128 else 64)
has_length hash true text rest digest part long first is bare more =
    let p = more refl in
    omega (arith, ap length is, length-append text rest, ap length p.2, text_length hash p.0 (long p.0))
has_length hash false text rest digest part long first is bare more = omega (arith, ap length is, length-append text rest, ap length (bare refl))

pub recorded_has_length : (s : Setting) (n : FileNode) (digest : List ℕ) → ((fed : List ℕ) → length (s.hash fed) ≡ 32) → recorded s n ≡ Some digest → length digest ≡ (if counts_part s n then 128 else 64)
unfolding recorded
recorded_has_length s n digest long e =
    let (clear, rest, is, bare, more) = made_of s.hash (not s.config.ignore_time_macros && has_time n.contents) (counts_part s n) (digest_text s.hash n.contents) (file_time_part s n) digest e in
    has_length s.hash (counts_part s n) (digest_text s.hash n.contents) rest digest (file_time_part s n) long (text_length s.hash n.contents (long n.contents)) is bare more

-- what counts where time macros are not ignored
counted : (ignores has : Bool) → ignores ≡ false → (not ignores && has) ≡ has
counted false has e = refl
counted true has e = absurd cc

pub equal_digests_tell : (s : Setting) (moment : Moment) (variables : List Variable) (n o : FileNode) (digest : List ℕ) → ((fed : List ℕ) → length (s.hash fed) ≡ 32) → AreTold s (at_moment moment variables s) n o
    → recorded s n ≡ Some digest → recorded (at_moment moment variables s) o ≡ Some digest → ShowTheSame s (at_moment moment variables s) n o
unfolding recorded
equal_digests_tell s moment variables n o digest long claim e f =
    let t = at_moment moment variables s in
    let (clear, rest, is, bare, more) = made_of s.hash (not s.config.ignore_time_macros && has_time n.contents) (counts_part s n) (digest_text s.hash n.contents) (file_time_part s n) digest e in
    let (clear', rest', is', bare', more') = made_of s.hash (not s.config.ignore_time_macros && has_time o.contents) (counts_part t o) (digest_text s.hash o.contents) (file_time_part t o) digest f in
    let cut = bytes_read_back (digest_text s.hash n.contents) (digest_text s.hash o.contents) rest rest' (text_length s.hash n.contents (long n.contents) ∙ sym (text_length s.hash o.contents (long o.contents))) (sym is ∙ is') in
    let contents : n.contents ≡ o.contents = claim.contents cut.0 in
    let parts : counts_part s n ≡ true
    → (p : List ℕ) × (file_time_part s n ≡ Some p) × (time_part (has_date n.contents) (has_timestamp n.contents) o.modified moment s.zone variables ≡ Some p) =
    λ counts.
    let counts' : counts_part t o ≡ true = ap (λ (c : List ℕ). not s.config.ignore_time_macros && is_timed c) (sym contents) ∙ counts in
    let (p, is-p, text-p) = more counts in
    let (q, is-q, text-q) = more' counts' in
    let same : p ≡ q = claim.parts p q counts counts' is-p is-q (sym text-p ∙ cut.1 ∙ text-q) in
    (p, is-p, ap (λ (c : List ℕ). time_part (has_date c) (has_timestamp c) o.modified moment s.zone variables) contents ∙ is-q ∙ ap (λ (x : List ℕ). Some x) (sym same))
    in
    let dated : s.config.ignore_time_macros ≡ false → has_date n.contents ≡ true
    → (local_day s.zone (nanos_of s.moment) ≡ local_day s.zone (nanos_of moment)) × (source_date_epoch s.variables ≡ source_date_epoch variables) =
    λ counts date.
    let (p, first, second) = parts (counted s.config.ignore_time_macros (is_timed n.contents) counts ∙ ap (λ b. b || has_timestamp n.contents) date) in
    day_is_determined s.zone (has_timestamp n.contents) n.modified o.modified s.moment moment s.variables variables p
    (ap (λ b. time_part b (has_timestamp n.contents) n.modified s.moment s.zone s.variables) (sym date) ∙ first)
    (ap (λ b. time_part b (has_timestamp n.contents) o.modified moment s.zone variables) (sym date) ∙ second)
    in
    record {
      contents = contents;
      time = λ counts. sym (counted s.config.ignore_time_macros (has_time n.contents) counts) ∙ clear;
      day = λ counts date. (dated counts date).0;
      epoch = λ counts date. (dated counts date).1;
      second = λ counts stamp.
          let (p, first, second) = parts (counted s.config.ignore_time_macros (is_timed n.contents) counts ∙ or_right (has_date n.contents) (has_timestamp n.contents) stamp) in
          second_is_determined s.zone (has_date n.contents) n.modified o.modified s.moment moment s.variables variables p
          (ap (λ b. time_part (has_date n.contents) b n.modified s.moment s.zone s.variables) (sym stamp) ∙ first)
          (ap (λ b. time_part (has_date n.contents) b o.modified moment s.zone variables) (sym stamp) ∙ second);
    }
