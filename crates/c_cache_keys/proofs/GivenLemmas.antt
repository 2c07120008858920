-- errors of a call to which a text was given
use Rattle.std.proofs.Common.{◌≡◌, refl}
use Rattle.cck_digest.specs.declared.key_error.KeyError.TheVariants as key
use Rattle.cck_digest.specs.declared.preprocess_error.PreprocessError.{PreprocessError}
use Rattle.cck_digest.specs.declared.preprocess_error.PreprocessError.TheVariants as text
use Rattle.cck_hasher.specs.Call.{Damaged, Extra, ExtraFault, Input, InputFault, Marker, Memory, NoText, ReturnsError, Store, TextFault, Why}
use Rattle.cck_hasher.specs.Seen.{why_of}
use Rattle.c_cache_keys.specs.Recordings.{HasText, given_text}

pub text_missing : (e : PreprocessError) → given_text (ReturnsError (why_of (key.Preprocess e))) ≡ ReturnsError Memory
text_missing text.Fault = refl
text_missing text.Failed = refl
text_missing text.Memory = refl

pub text_given : (why : Why) → HasText why → given_text (ReturnsError why) ≡ ReturnsError why
text_given NoText has = absurd (has.0 refl)
text_given TextFault has = absurd (has.1 refl)
text_given Memory has = refl
text_given Extra has = refl
text_given ExtraFault has = refl
text_given Input has = refl
text_given InputFault has = refl
text_given Store has = refl
text_given Damaged has = refl
text_given Marker has = refl
