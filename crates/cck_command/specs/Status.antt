-- the exit statuses of the program
use Rattle.std.specs.Prelude.{ℕ}
use Rattle.cck_command.specs.declared.status.Status.{Status}
use Rattle.cck_command.specs.declared.status.Status.TheVariants.{Done, Failed, Usage}

-- the exit status of each end
abbrev pub status_code : Status → ℕ
status_code Done = 0
status_code Failed = 1
status_code Usage = 2
