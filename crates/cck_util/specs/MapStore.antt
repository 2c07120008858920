-- a store in memory that can be armed to lose entries and to fail
use Rattle.std.specs.Prelude.{◌≡◌, ℕ, ◌-◌, ◌==◌, List, [], String, Option, Ok, Err, true, false, refl, if◌then◌else◌}
use Rattle.std.specs.Coded.{Coded, code_by, coded×, coded_list, coded_ℕ}
use Rattle.std.specs.FinMap.Entries.{find, put}
use Rattle.std.specs.Global.{Vec}
use Rattle.std.specs.String.{string_bytes}
use Rattle.std.specs.declared.alloc.Global.{Global}
use Rattle.cck_files.specs.ArmedCalls.{Armed, after_call, coded_armed, fails, new_armed}
use Rattle.cck_path.specs.Bytes.{Bytes}
use Rattle.cck_path.specs.TextOrder.{text_cmp}
use Rattle.cck_util.specs.Store.{Returned, Store, Stored, counted, more}
use Rattle.cck_util.specs.declared.store.StoreError.TheVariants as store

-- Keys and bytes, ascending by the keys, and the number of store failures. Also which of the next calls loses all that is held, counted
-- from 1, or 0 for none; and which of them fail.
pub record State : Type 0 where
  pub pairs : List (Bytes × Bytes)
  pub failures : ℕ
  pub forget : ℕ
  pub armed : Armed

abbrev pub coded_map_state : Coded State
coded_map_state = code_by (List (Bytes × Bytes) × (ℕ × (ℕ × Armed))) (coded× (coded_list (coded× (coded_list coded_ℕ) (coded_list coded_ℕ))) (coded× coded_ℕ (coded× coded_ℕ coded_armed)))
    (λ s. (s.pairs, (s.failures, (s.forget, s.armed)))) (λ p. record { pairs = p.0; failures = p.1.0; forget = p.1.1.0; armed = p.1.1.1 }) (λ _. refl)

-- nothing is held, there was no store failure, and no call is armed
abbrev pub empty_state : State
empty_state = record { pairs = []; failures = 0; forget = 0; armed = new_armed }

abbrev pub stored_pair : String Global × Vec ℕ → Bytes × Bytes
stored_pair p = (string_bytes (p.0), p.1.items)

-- after one more store failure
abbrev pub count_failure : State → State
count_failure s = record s { failures = more s.failures }

-- a call begins: if it is armed to lose all that is held, nothing is held from here on, which is a store failure
abbrev pub call_begun : State → State
call_begun s = record {
  pairs = if s.forget == 1 then [] else s.pairs;
  failures = if s.forget == 1 then more s.failures else s.failures;
  forget = s.forget - 1;
  armed = after_call s.armed;
}

-- A get fails exactly if it is armed to. Otherwise it returns what the key has, or memory is lacking. Either error is a store failure.
abbrev pub IsGot : State → Bytes → Returned → State → Type 0
IsGot s key (Err store.Fault) t = (fails s.armed ≡ true) × (t ≡ count_failure (call_begun s))
IsGot s key (Err store.Memory) t = (fails s.armed ≡ false) × (t ≡ count_failure (call_begun s))
IsGot s key (Ok found) t = (fails s.armed ≡ false) × (found ≡ find text_cmp key (call_begun s).pairs) × (t ≡ call_begun s)

-- the same for a put, after which the key has the bytes
abbrev pub IsMapPut : State → Bytes → Bytes → Stored → State → Type 0
IsMapPut s key bytes (Err store.Fault) t = (fails s.armed ≡ true) × (t ≡ count_failure (call_begun s))
IsMapPut s key bytes (Err store.Memory) t = (fails s.armed ≡ false) × (t ≡ count_failure (call_begun s))
IsMapPut s key bytes (Ok done) t = (fails s.armed ≡ false) × (t ≡ record (call_begun s) { pairs = put text_cmp key bytes (call_begun s).pairs })

abbrev pub map_store : Store State
map_store = record { held = λ s key bytes. find text_cmp key s.pairs ≡ Option.Some bytes; failures = λ s. counted s.failures; got = IsGot; put = IsMapPut }
