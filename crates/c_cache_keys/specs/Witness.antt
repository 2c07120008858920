-- two calls that meet the premises of a run; the second is of another request and returns its key from the store
use Rattle.std.specs.Prelude.{◌≢◌, ◌%◌, ℕ, List, [], ◌∷◌, length, pos, true, false, Some, None, codes}
use Rattle.std.specs.FinMap.{empty, from_sorted}
use Rattle.cck_compiler.specs.Arguments.{Arguments, only_input}
use Rattle.cck_compiler.specs.Compiler.{Compilation, Compiler}
use Rattle.cck_compiler.specs.declared.compiler.CCompilerKind.TheVariants.{Gcc}
use Rattle.cck_files.specs.FileMap.{FileMap, FileNode}
use Rattle.cck_path.specs.Bytes.{Bytes}
use Rattle.cck_path.specs.Path.{Name, Path, Root, path_cmp}
use Rattle.cck_path.specs.Timestamp.{Moment}
use Rattle.cck_path.specs.declared.metadata.FileKind.TheVariants.{File}
use Rattle.cck_util.specs.MapStore.{State, map_store, empty_state}
use Rattle.cck_util.specs.Store.{StoreFailure}
use Rattle.cck_include.specs.Config.{activated}
use Rattle.cck_util.specs.declared.language.Language.TheVariants.{C}
use Rattle.jiff.specs.Types.{UTC}
use Rattle.cck_hasher.specs.Call.{Call, Done, Fault, Keyed, calls_of}
use Rattle.c_cache_keys.specs.Premises.{Premises}
use Rattle.cck_hasher.specs.Step.{IsEmpty, Run}
use Rattle.cck_hasher.specs.World.{HasSize, World, world_of}
use Rattle.cck_hasher.specs.declared.call.CacheControl.TheVariants.{Default}

abbrev pub ten_zeros : Bytes → Bytes
ten_zeros rest = 0 ∷ 0 ∷ 0 ∷ 0 ∷ 0 ∷ 0 ∷ 0 ∷ 0 ∷ 0 ∷ 0 ∷ rest

-- 32 bytes, of which the first counts, modulo 256, the bytes that are hashed
abbrev pub sized : ℕ → Bytes
sized size = size % 256 ∷ 0 ∷ ten_zeros (ten_zeros (ten_zeros []))

abbrev pub witness_hash : Bytes → Bytes
witness_hash fed = sized (length fed)

-- an input that includes a header, and what is printed of it
abbrev pub witness_input_text : Bytes
witness_input_text = codes "#include \"h.h\"\nint x;\n"

abbrev pub header_text : Bytes
header_text = codes "int y1;\n"

abbrev pub printed_text : Bytes
printed_text = codes "# 1 \"/w/a.c\"\n# 1 \"/w/h.h\" 1\nint y1;\n# 2 \"/w/a.c\" 2\nint x;\n"

-- the time n seconds after 1970; both files are of second 1, and the calls of second 5
abbrev pub second : ℕ → Moment
second n = record { seconds = pos n; nanoseconds = 0 }

abbrev pub file_of : Bytes → FileNode
file_of contents = record { kind = File; contents = contents; modified = Some (second 1); changed = Some (second 1) }

abbrev pub path_in_w : Bytes → Path
path_in_w name = Root ∷ Name (codes "w") ∷ Name name ∷ []

abbrev pub witness_nodes : List (Path × FileNode)
witness_nodes = (path_in_w (codes "a.c"), file_of witness_input_text) ∷ (path_in_w (codes "h.h"), file_of header_text) ∷ []

abbrev pub witness_files : FileMap
witness_files = record { nodes = from_sorted {R = path_cmp} witness_nodes; canonicals = empty }

-- the arguments of a compilation that writes its object at this path
abbrev pub witness_arguments : Bytes → Arguments
witness_arguments object = record (only_input (codes "a.c") C) {
  compilation_flag = codes "-c";
  outputs = record { name = codes "obj"; path = object; optional = false } ∷ [];
}

-- a compiler that prints this one text
abbrev pub witness_compiler : Compiler (Unit {0})
witness_compiler = record {
  kind = λ v. Gcc;
  plusplus = λ v. false;
  version = λ v. None;
  assembler_digest = λ v. None;
  parsed = λ v words cwd env_vars. Compilation (witness_arguments (codes "a.o"));
  prints = λ v executable arguments cwd env_vars files moment. Some printed_text;
}

abbrev pub witness_world : World (Unit {0})
witness_world = world_of witness_hash witness_compiler UTC activated []

abbrev pub witness_call : Bytes → Call (Unit {0})
witness_call object = record {
  request = record {
    compiler = tt;
    executable = codes "/bin/cc";
    executable_digest = codes "cc";
    arguments = witness_arguments object;
    cwd = codes "/w";
    env_vars = [];
  };
  files = witness_files;
  moment = second 5;
  control = Default;
}

-- two calls, which write their objects to two places
abbrev pub first_call : Call (Unit {0})
first_call = witness_call (codes "a.o")

abbrev pub second_call : Call (Unit {0})
second_call = witness_call (codes "b.o")

-- a call, made without a fault
abbrev pub witness_done : Call (Unit {0}) → Done (Unit {0})
witness_done c = record { call = c; faults_before = 0; faults_after = 0 }

abbrev pub witness_run : List (Done (Unit {0}))
witness_run = witness_done first_call ∷ witness_done second_call ∷ []

-- All that the headline takes holds of this run at once, with no fault and no store failure, on a new store in memory. Of its two calls,
-- which are of two requests, the first computes a key, and the second returns it from the store.
pub record PremisesCanHold : Type 0 where
  pub two_requests : first_call.request ≢ second_call.request
  pub size : HasSize witness_hash
  pub is_empty : IsEmpty witness_world map_store empty_state
  pub premises : Premises witness_world (calls_of witness_run)
  pub no_fault : (c : Call (Unit {0})) → Fault (witness_done c) → ⊥
  pub key : Bytes
  pub end : State
  pub run : Run witness_world map_store empty_state witness_run (Keyed key true ∷ Keyed key false ∷ []) end
  pub no_store_failure : StoreFailure map_store empty_state end → ⊥
