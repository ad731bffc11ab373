-- Why a run ended early: what is said of it, and what an error makes of it. Assumes nothing.
use Rattle.std.specs.Prelude.{ℕ, List, ◌++◌, Some, None, string_bytes, codes, decimal, Option}
use Rattle.runner.specs.declared.failure.Failure.{Failure}
use Rattle.runner.specs.declared.failure.Failure.TheVariants.{BadFile, BadInput, BadLine, Io}

-- what the system says of an error is not known
abbrev pub failure_said : Failure → Option (List ℕ)
failure_said (BadFile path error) = None
failure_said (BadInput error) = None
failure_said (BadLine number reason) = Some (codes "line " ++ (decimal number ++ (codes ": " ++ string_bytes reason)))
failure_said (Io error) = None

-- an error that has no case of its own, or memory that ran out
abbrev pub IsIo : Failure → Type 0
IsIo (BadFile path error) = ⊥
IsIo (BadInput error) = ⊥
IsIo (BadLine number reason) = ⊥
IsIo (Io error) = Unit {0}
