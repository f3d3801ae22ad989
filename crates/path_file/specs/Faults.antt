-- What is known of a call of the system that failed.
use Rattle.std.specs.Prelude.{Bool, true, false, Option, Some, None}
use Rattle.std.specs.IoError.{error_kind}
use Rattle.std.specs.declared.io.Error.{Error}
use Rattle.std.specs.declared.io.ErrorKind.{ErrorKind}
use Rattle.std.specs.declared.io.ErrorKind.TheVariants.{WouldBlock}
use Rattle.path_file.specs.declared.fault.Call.{Call}
use Rattle.path_file.specs.declared.fault.Call.TheVariants.{Lock}
use Rattle.path_file.specs.declared.fault.Fault.{Fault}

abbrev pub is_blocked : ErrorKind → Bool
is_blocked WouldBlock = true
is_blocked _ = false

abbrev pub is_refused_lock : Call → ErrorKind → Bool
is_refused_lock Lock kind = is_blocked kind
is_refused_lock _ kind = false

-- another open of the file has its lock
abbrev pub is_held : Fault → Bool
is_held fault = is_refused_lock fault.call (error_kind fault.error)

-- the fault of a call with this error: that of the opening, where the file was not opened for it
abbrev pub fault_of : Option Fault → Call → Error → Fault
fault_of (Some refused) call error = refused
fault_of None call error = record { call = call; error = error }
