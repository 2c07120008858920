-- how digests by paths are held and listed
use Rattle.std.specs.Prelude.{◌≡◌, ℕ, List, true, String, string_bytes}
use Rattle.std.specs.Coded.{Coded, coded_list, coded_ℕ}
use Rattle.std.specs.FinMap.{FinMap, contains_key}
use Rattle.std.specs.Global.{Vec}
use Rattle.std.specs.declared.alloc.Global.{Global}
use Rattle.cck_path.specs.Path.{Path, normal, path_cmp}
use Rattle.cck_path.specs.Text.{path_text}
use Rattle.cck_path.specs.PathMap.{coded_path_map}
use Rattle.cck_hasher.specs.Decided.{Digests}

abbrev pub coded_digests : Coded Digests
coded_digests = coded_path_map (coded_list coded_ℕ)

-- each path is without `.` and `..`
abbrev pub AreNormal : {V : Type 0} → FinMap path_cmp V → Type 0
AreNormal m = (p : Path) → contains_key m p ≡ true → normal p ≡ p

-- the text of a path, and its digest
abbrev pub written : Path × List ℕ → List ℕ × List ℕ
written e = (path_text (e.0), e.1)

-- the bytes of a path and of a digest
abbrev pub digest_pair : Vec ℕ × String Global → List ℕ × List ℕ
digest_pair e = (e.0.items, string_bytes (e.1))
