use Rattle.cck_hasher.specs.Keys.{request_parts}
use Rattle.cck_hasher.proofs.hasher.CCompilerHasher.key_text.Goals as goal

pub returns-in-Ok : goal.returns-in-Ok
unfolding request_parts
returns-in-Ok g c =
    rw (
      c.as_str.ensures.value,
      c.plusplus.ensures,
      c.is_multiarch.ensures,
      c.deref.ensures.value,
      c.deref-2.ensures.value,
      c.deref-3.ensures.value,
      c.assembler_digest.ensures,
      c.hashed_directory.ensures,
    ) at c.in-Ok.ensures.key
