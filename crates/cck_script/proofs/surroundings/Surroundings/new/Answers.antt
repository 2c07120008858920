use Rattle.std.proofs.Common.{ap, refl}
use Rattle.cck_path.specs.Bytes.{variables_of}
use Rattle.cck_script.specs.Surroundings.{variables}
use Rattle.cck_script.proofs.surroundings.Surroundings.new.Goals as goal

pub returns : goal.returns
unfolding variables
returns c = record {
  files = c.in_ok-first_files.ensures.files;
  no_faults = c.in_ok-first_files.ensures.quiet.0;
  unarmed = c.in_ok-first_files.ensures.quiet.1;
  variables_are = ap variables_of c.new.ensures.items;
  places_are = λ name. rw (c.new.ensures.items, c.new-2.ensures.empty) refl;
}
