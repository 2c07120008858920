-- The equality test of the program's components decides whether their values are equal.
use Rattle.std.proofs.Common.{◌≡◌, ℕ, refl, ap}
use Rattle.std.proofs.lemmas.Bool.Decides.{Decides-like}
use Rattle.std.specs.Cmp.Lexicographic.{bytes_decides}
use Rattle.std.specs.Prelude.{Decides}
use Rattle.cck_digest.proofs.EqualityLemmas.{apart}
use Rattle.cck_path.specs.Components.{component_of}
use Rattle.cck_path.specs.Path as path
use Rattle.cck_path.specs.Path.{Name}
use Rattle.cck_path.specs.contracts.path.ComponentPartialEq.TheImpl as same
use Rattle.cck_path.specs.declared.path.Component.{Component}
use Rattle.cck_path.specs.declared.path.Component.TheVariants.{RootDir, CurDir, ParentDir, Normal}

abbrev number : path.Component → ℕ
number path.Root = 0
number path.Current = 1
number path.Parent = 2
number (path.Name name) = 3

pub component_decides : (a b : Component) → Decides (same.ghosts.eq a b) (component_of a ≡ component_of b)
component_decides RootDir RootDir = (λ _. refl, λ _. refl)
component_decides CurDir CurDir = (λ _. refl, λ _. refl)
component_decides ParentDir ParentDir = (λ _. refl, λ _. refl)
component_decides (Normal m) (Normal n) = Decides-like _ (λ e. ap Name e) (λ e. cc) (bytes_decides m.now n.now)
component_decides a b = apart number (component_of a) (component_of b) refl refl
