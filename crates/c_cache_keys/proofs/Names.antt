-- Two calls that name the same paths: what the walk over a text says of both.
use Rattle.std.proofs.Common.{◌≡◌, inl, inr, Bool, true, List, [], ◌∷◌, Ok, sym, ap, ◌∙◌, subst}
use Rattle.std.specs.Prelude.{Contains}
use Rattle.cck_files.specs.FileMap.{FileNode, file_at}
use Rattle.cck_include.specs.Include.{Include}
use Rattle.cck_include.specs.Recorded.{recorded}
use Rattle.cck_include.proofs.OneList.{one_list}
use Rattle.cck_include.specs.Marks.{Malformed, Mark, Name, Refusal}
use Rattle.cck_path.specs.Bytes.{Bytes}
use Rattle.cck_path.specs.Path.{Path, components}
use Rattle.cck_hasher.proofs.Elements.{none_in, one_of}
use Rattle.cck_hasher.specs.Call.{Call}
use Rattle.cck_hasher.specs.Walk.{AreRecorded, IsGood, IsLooked, IsNamed, Accepted, Errs, IsRecorded, MarksDecide, NotAccepted, Verdict, Walk, input_path, meant_path}
use Rattle.cck_hasher.specs.World.{World, setting}

not_accepted : Accepted ≡ NotAccepted → ⊥
not_accepted e = cc

not_erring : Errs ≡ Accepted → ⊥
not_erring e = cc

first_name : {a b : Bytes} {s t : Bool} → Name a s ≡ Name b t → a ≡ b
first_name e = cc

second_name : {a b : Bytes} {s t : Bool} → Name a s ≡ Name b t → s ≡ t
second_name e = cc

module _ {V : Type 0} (w : World V) (c : Call V) where
  -- a name among marks that accept is good
  named_good : (marks : List Mark) (name : Bytes) (system : Bool) → MarksDecide w c marks Accepted → Contains marks (Name name system) → IsLooked w c name system → IsGood w c (meant_path c name)
  named_good [] name system m at looked = absurd (none_in _ at)
  named_good (Refusal ∷ marks) name system m at looked = absurd (not_accepted m)
  named_good (Malformed ∷ marks) name system m at looked = absurd (not_erring (sym m))
  named_good (Name first other ∷ marks) name system (inr m) at looked = absurd (not_accepted m.2)
  named_good (Name first other ∷ marks) name system (inl m) at looked =
      elim (one_of (Name first other) (Name name system) marks at) [
        | inl is ↦ subst (λ v. IsGood w c (meant_path c v)) (first_name is) (m.0 (subst (λ v. IsLooked w c v other) (sym (first_name is)) (subst (IsLooked w c name) (sym (second_name is)) looked)))
        | inr more ↦ named_good marks name system m.1 more looked
      ]

  -- a path that an accepted text names is good
  pub is_good : (text : Bytes) → Walk w c text Accepted → (p : Path) → IsNamed w c text p → IsGood w c p
  is_good text (marks, are, m) p is =
      subst (IsGood w c) (sym is.is) (named_good marks is.name is.system m (subst (λ l. Contains l (Name is.name is.system)) (one_list true text is.marks marks is.are are) is.present) is.looked)

-- two calls that resolve names alike, under options that look at the same names
pub record SameNames {V U : Type 0} (w : World V) (c : Call V) (x : World U) (d : Call U) : Type 0 where
  pub config : w.config ≡ x.config
  pub path : (name : Bytes) → meant_path c name ≡ meant_path d name
  pub input : input_path c ≡ input_path d

pub turned : {V U : Type 0} (w : World V) (c : Call V) (x : World U) (d : Call U) → SameNames w c x d → SameNames x d w c
turned w c x d same = record { config = sym same.config; path = λ name. sym (same.path name); input = sym same.input }

module _ {V U : Type 0} (w : World V) (c : Call V) (x : World U) (d : Call U) (same : SameNames w c x d) where
  pub looked : (name : Bytes) (system : Bool) → IsLooked w c name system → IsLooked x d name system
  looked name system l = record {
    some = l.some;
    not_angled = l.not_angled;
    wanted = λ on. l.wanted (ap (λ config. config.skip_system_headers) same.config ∙ on);
    other = λ e. l.other (same.path name ∙ e ∙ sym (ap components same.input));
  }

  pub named : (text : Bytes) (p : Path) → IsNamed w c text p → IsNamed x d text p
  named text p n = record {
    name = n.name;
    system = n.system;
    marks = n.marks;
    are = n.are;
    present = n.present;
    looked = looked n.name n.system n.looked;
    is = n.is ∙ same.path n.name;
  }

  -- a path is good for the second call where it is for the first
  abbrev pub KeepsGood : Type 0
  KeepsGood = (p : Path) → IsGood w c p → IsGood x d p

  abbrev pub ReturnsGood : Type 0
  ReturnsGood = (p : Path) → IsGood x d p → IsGood w c p

  good_again : KeepsGood → (name : Bytes) → IsGood w c (meant_path c name) → IsGood x d (meant_path d name)
  good_again good name g = subst (IsGood x d) (same.path name) (good (meant_path c name) g)

  good_before : ReturnsGood → (name : Bytes) → IsGood x d (meant_path d name) → IsGood w c (meant_path c name)
  good_before back name g = back (meant_path c name) (subst (IsGood x d) (sym (same.path name)) g)

-- the names that are looked at, from the second call to the first
pub looked_before : {V U : Type 0} (w : World V) (c : Call V) (x : World U) (d : Call U) → SameNames w c x d → (name : Bytes) (system : Bool) → IsLooked x d name system → IsLooked w c name system
looked_before w c x d same name system l = looked x d w c (turned w c x d same) name system l

module _ {V U : Type 0} (w : World V) (c : Call V) (x : World U) (d : Call U) (same : SameNames w c x d) where
  -- marks decide the same verdict
  pub decides : KeepsGood w c x d same → ReturnsGood w c x d same → (marks : List Mark) (v : Verdict) → MarksDecide w c marks v → MarksDecide x d marks v
  decides good back [] v m = m
  decides good back (Refusal ∷ marks) v m = m
  decides good back (Malformed ∷ marks) v m = m
  decides good back (Name name system ∷ marks) v (inl m) =
      inl (λ l. good_again w c x d same good name (m.0 (looked_before w c x d same name system l)), decides good back marks v m.1)
  decides good back (Name name system ∷ marks) v (inr m) =
      inr (looked w c x d same name system m.0, λ g. m.1 (good_before w c x d same back name g), m.2)

  pub walks : KeepsGood w c x d same → ReturnsGood w c x d same → (text : Bytes) (v : Verdict) → Walk w c text v → Walk x d text v
  walks good back text v (marks, are, m) = (marks, are, decides good back marks v m)

  -- an accepted text is accepted
  accepts : KeepsGood w c x d same → (marks : List Mark) → MarksDecide w c marks Accepted → MarksDecide x d marks Accepted
  accepts good [] m = m
  accepts good (Refusal ∷ marks) m = m
  accepts good (Malformed ∷ marks) m = m
  accepts good (Name name system ∷ marks) (inl m) =
      inl (λ l. good_again w c x d same good name (m.0 (looked_before w c x d same name system l)), accepts good marks m.1)
  accepts good (Name name system ∷ marks) (inr m) = absurd (not_accepted m.2)

  pub walk_accepts : KeepsGood w c x d same → (text : Bytes) → Walk w c text Accepted → Walk x d text Accepted
  walk_accepts good text (marks, are, m) = (marks, are, accepts good marks m)

  -- what is recorded of a named file
  module _ (text : Bytes) (files : (p : Path) (n : FileNode) → file_at c.files p ≡ Ok n → file_at d.files p ≡ Ok n) (digests : (n : FileNode) → recorded (setting w c) n ≡ recorded (setting x d) n) where
    recorded_again : (i : Include) → IsRecorded w c text i → IsRecorded x d text i
    recorded_again i r = record {
      path = r.path;
      named = named w c x d same text r.path r.named;
      node = r.node;
      file = files r.path r.node r.file;
      written = r.written;
      digest = sym (digests r.node) ∙ r.digest;
      size = r.size;
      modified = r.modified;
      changed = r.changed;
    }

    pub all_recorded : ((p : Path) (n : FileNode) → IsNamed w c text p → file_at d.files p ≡ Ok n → file_at c.files p ≡ Ok n) → (includes : List Include) → AreRecorded w c text includes → AreRecorded x d text includes
    all_recorded back includes r = record {
      ordered = r.ordered;
      each = λ i at. recorded_again i (r.each i at);
      all = λ p n is file.
          let is' : IsNamed w c text p = named x d w c (turned w c x d same) text p is in
          r.all p n is' (back p n is' file);
    }
