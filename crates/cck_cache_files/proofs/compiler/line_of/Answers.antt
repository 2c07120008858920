use Rattle.std.proofs.Common.{◌∷◌, ◌++◌, ◌∙◌, [], List, ℕ, ap, string_bytes, of_z, to_z, w64}
use Rattle.cck_cache_files.specs.Compiler.{place_text, instant_text}
use Rattle.cck_cache_files.proofs.compiler.line_of.Goals as goal

pub returns : goal.returns
returns c =
    let path = c.args.path.now in
    let place = place_text c.dev.result c.ino.result c.size.result in
    let modified = instant_text (to_z w64 (of_z w64 c.mtime.result)) (to_z w64 (of_z w64 c.mtime_nsec.result)) in (
      record {
        device = c.dev.result;
        inode = c.ino.result;
        size = c.size.result;
        seconds = to_z w64 (of_z w64 c.mtime.result);
        nanoseconds = to_z w64 (of_z w64 c.mtime_nsec.result);
        changed = to_z w64 (of_z w64 c.ctime.result);
        changed_nanoseconds = to_z w64 (of_z w64 c.ctime_nsec.result);
      },
      c.in_ok-format.ensures.ok
          ∙ ap (λ (text : List ℕ). path ++ (32 ∷ (text ++ (32 ∷ (string_bytes c.in_ok-modified.modified ++ (32 ∷ (string_bytes c.in_ok-changed.changed ++ 10 ∷ []))))))) c.in_ok-place.ensures
          ∙ ap (λ (text : List ℕ). path ++ (32 ∷ (place ++ (32 ∷ (text ++ (32 ∷ (string_bytes c.in_ok-changed.changed ++ 10 ∷ []))))))) c.in_ok-modified.ensures
          ∙ ap (λ (text : List ℕ). path ++ (32 ∷ (place ++ (32 ∷ (modified ++ (32 ∷ (text ++ 10 ∷ []))))))) c.in_ok-changed.ensures,
    )
