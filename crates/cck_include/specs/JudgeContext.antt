-- what files are judged by, as a setting of recorded digests and matches
use Rattle.std.specs.Prelude.{ℕ, List}
use Rattle.cck_include.specs.Setting.{Setting, setting_in}
use Rattle.cck_include.specs.declared.judge_context.JudgeContext.{JudgeContext}
use Rattle.jiff.specs.Words.{plain_zone}

-- the setting of a hash function in a context
abbrev pub setting_of : (List ℕ → List ℕ) → JudgeContext → Setting
setting_of hash context = setting_in hash context.config context.moment (plain_zone context.zone.now) context.vars.now
