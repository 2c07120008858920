-- A hit doesn't depend on what is printed.
use Rattle.std.proofs.Common.{◌≡◌, List, true, false, refl, ◌∙◌}
use Rattle.cck_path.specs.Bytes.{Bytes}
use Rattle.cck_util.specs.Store.{Store}
use Rattle.cck_include.specs.declared.config.PreprocessorCacheModeConfig.{PreprocessorCacheModeConfig}
use Rattle.jiff.specs.Types.{TimeZone}
use Rattle.c_cache_keys.proofs.Stored.{not_failed}
use Rattle.cck_hasher.specs.Call.{Call, Keyed}
use Rattle.cck_hasher.specs.Keys.{extra_texts, input_file, input_recorded, key_material, preprocessor_key_of, request_parts, uses_cache}
use Rattle.cck_hasher.specs.Step.{Makes, Opened, gives, stops}
use Rattle.cck_hasher.specs.World.{World, world_of}
use Rattle.c_cache_keys.specs.External.{External, Prints, external_compiler}

not_stored : {key other : Bytes} → Keyed key false ≡ Keyed other true → ⊥
not_stored e = cc

-- a computed key is no stored one
pub made_fresh : {V S : Type 0} (w : World V) (st : Store S) (c : Call V) (F : Type 0) (s t : S) (key : Bytes) → Makes w st c F s (Keyed key false) t → ⊥
made_fresh w st c F s t key (stops why cause is same) = not_failed is
made_fresh w st c F s t key (gives other plain is stores) = not_stored is

module _ (hash : Bytes → Bytes) (zone : TimeZone) (config : PreprocessorCacheModeConfig) (basedirs : List Bytes) where
  abbrev pub in_world : Prints → World External
  in_world p = world_of hash (external_compiler p) zone config basedirs

  module _ (p q : Prints) (c : Call External) where
    extra_same : extra_texts (in_world p) c ≡ extra_texts (in_world q) c
    unfolding extra_texts
    extra_same = refl

    input_same : input_file (in_world p) c ≡ input_file (in_world q) c
    unfolding input_file
    input_same = refl

    used_same : uses_cache (in_world p) c.request ≡ uses_cache (in_world q) c.request
    unfolding uses_cache
    used_same = refl

    pub key_same : preprocessor_key_of (in_world p) c ≡ preprocessor_key_of (in_world q) c
    unfolding preprocessor_key_of key_material request_parts uses_cache extra_texts input_recorded input_file
    key_same = refl

    pub opened : Opened (in_world p) c → Opened (in_world q) c
    opened o = record { extra = λ e. o.extra (extra_same ∙ e); input = λ used none. o.input (used_same ∙ used) (input_same ∙ none) }
