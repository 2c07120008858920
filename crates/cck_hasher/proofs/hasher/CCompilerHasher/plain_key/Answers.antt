use Rattle.cck_hasher.specs.Keys.{plain_parts}
use Rattle.cck_hasher.proofs.hasher.CCompilerHasher.plain_key.Goals as goal

pub returns-in-Ok : goal.returns-in-Ok
unfolding plain_parts
returns-in-Ok g c =
    rw (
      c.with_assembler_digest-params.ensures,
      c.with_basedirs.ensures,
      c.with_plusplus.ensures,
      c.with_env_vars.ensures,
      c.with_extra_hashes.ensures,
      c.new.ensures,
      c.as_str.ensures.value,
      c.deref-3.ensures.value,
      c.in_ok-push_copies-2.ensures,
      c.in_ok-push_copies.ensures,
      c.new-arguments.ensures.items,
      c.deref.ensures.value,
      c.deref-2.ensures.value,
      c.plusplus.ensures,
      c.assembler_digest.ensures,
    ) at c.in-Ok.ensures.key
