-- what the words of a command say
use Rattle.std.specs.Prelude.{◌≡◌, ◌<◌, ◌^◌, ◌↔◌, ℕ, ℤ, Bool, IsTrue, List, Option, Some, None, codes}
use Rattle.std.specs.Option.{option_map}
use Rattle.std.specs.Str.Parse.{IsNumeral, digits_value, without_leading_plus}
use Rattle.clap.specs.Matches.{first_value}
use Rattle.clap.specs.declared.parser.matches.Found.{Found}
use Rattle.cck_cache_options.specs.Stamp.{IsStamp}
use Rattle.cck_cache_options.specs.declared.task.Made.{Made}
use Rattle.cck_cache_options.specs.declared.task.Outputs.{Outputs}
use Rattle.cck_cache_options.specs.declared.task.Packed.{Packed}
use Rattle.cck_cache_options.specs.declared.task.Server.{Server}
use Rattle.cck_cache_options.specs.declared.task.Source.{Source}
use Rattle.cck_cache_options.specs.declared.task.Source.TheVariants.{Path, Server as ServerSource}

-- where the parts of an object file are written: a path for the object, and one for the dependency file, if one is given
pub record OutputWords : Type 0 where
  pub object : List ℕ
  pub dependencies : Option (List ℕ)

abbrev pub output_words : Outputs → OutputWords
output_words outputs = record { object = outputs.object.now; dependencies = option_map (λ d. d.now) outputs.dependencies }

pub record IsOutputs (found : Found) (words : OutputWords) : Type 0 where
  pub object : first_value found (codes "out") ≡ Some words.object
  pub dependencies : first_value found (codes "dependencies") ≡ words.dependencies

-- a server: whether what it has is kept in a store, and the paths of its address and of the key of signatures, if they are given
pub record ServerWords : Type 0 where
  pub keeps : Bool
  pub address : Option (List ℕ)
  pub verify_key : Option (List ℕ)

abbrev pub server_words : Server → ServerWords
server_words server = record {
  keeps = server.keeps;
  address = option_map (λ a. a.now) server.address;
  verify_key = option_map (λ k. k.now) server.verify_key;
}

pub record IsServer (found : Found) (words : ServerWords) : Type 0 where
  pub mode : List ℕ
  pub given : first_value found (codes "server") ≡ Some mode
  pub keeps : IsTrue words.keeps ↔ (mode ≡ codes "keep")
  pub address : first_value found (codes "address") ≡ words.address
  pub verify_key : first_value found (codes "verify-key") ≡ words.verify_key

-- where an object file is: at a path, or at a server
pub data SourceWords : Type 0 where
  at_path : List ℕ → SourceWords
  at_server : ServerWords → SourceWords

abbrev pub source_words : Source → SourceWords
source_words (Path path) = at_path path.now
source_words (ServerSource server) = at_server (server_words server)

abbrev pub IsSource : Found → SourceWords → Type 0
IsSource found (at_path path) = first_value found (codes "packed") ≡ Some path
IsSource found (at_server server) = (first_value found (codes "packed") ≡ None) × IsServer found server

-- the words of `unpack` beside its store
pub record PackedWords : Type 0 where
  pub name : List ℕ
  pub source : SourceWords
  pub outputs : OutputWords

abbrev pub packed_words : Packed → PackedWords
packed_words packed = record { name = packed.name.now; source = source_words packed.source; outputs = output_words packed.outputs }

pub record IsPacked (found : Found) (words : PackedWords) : Type 0 where
  pub name : first_value found (codes "name") ≡ Some words.name
  pub source : IsSource found words.source
  pub outputs : IsOutputs found words.outputs

-- what a compiler made: the paths of the object and of the messages; and those of its dependency file, of that of the assembler, and of that which it
-- wrote beside its outputs, if they are given
pub record MadeWords : Type 0 where
  pub object : List ℕ
  pub messages : List ℕ
  pub dependencies : Option (List ℕ)
  pub assembled : Option (List ℕ)
  pub opened : Option (List ℕ)

abbrev pub made_words : Made → MadeWords
made_words made = record {
  object = made.object.now;
  messages = made.messages.now;
  dependencies = option_map (λ d. d.now) made.dependencies;
  assembled = option_map (λ a. a.now) made.assembled;
  opened = option_map (λ o. o.now) made.opened;
}

-- a path that may be given, of which there is none where the compiler made nothing
abbrev pub made_path : (MadeWords → Option (List ℕ)) → Option MadeWords → Option (List ℕ)
made_path path None = None
made_path path (Some made) = path made

pub record IsMade (found : Found) (made : Option MadeWords) : Type 0 where
  pub object : first_value found (codes "compiled") ≡ option_map (λ m. m.object) made
  pub messages : first_value found (codes "messages") ≡ option_map (λ m. m.messages) made
  pub dependencies : first_value found (codes "dependencies") ≡ made_path (λ m. m.dependencies) made
  pub assembled : first_value found (codes "assembled") ≡ made_path (λ m. m.assembled) made
  pub opened : first_value found (codes "opened") ≡ made_path (λ m. m.opened) made

-- the time in the words of `record`
pub record IsSince (found : Found) (seconds : ℤ) (nanoseconds : ℕ) : Type 0 where
  pub stamp : List ℕ
  pub given : first_value found (codes "since") ≡ Some stamp
  pub time : IsStamp stamp seconds nanoseconds

-- the number of bytes of the option of this name, in decimal digits and below 2^64
pub record IsNumber (found : Found) (name : List ℕ) (size : ℕ) : Type 0 where
  pub text : List ℕ
  pub given : first_value found name ≡ Some text
  pub digits : IsNumeral 10 (without_leading_plus text)
  pub value : size ≡ digits_value 10 (without_leading_plus text)
  pub below : size < 2 ^ 64

abbrev pub IsSize : Found → ℕ → Type 0
IsSize found size = IsNumber found (codes "max-size") size

-- a number of bytes that may be given
abbrev pub IsExpanded : Found → Option ℕ → Type 0
IsExpanded found None = first_value found (codes "expanded") ≡ None
IsExpanded found (Some size) = IsNumber found (codes "expanded") size
