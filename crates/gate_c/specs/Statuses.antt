-- The numbers of statuses.
use Rattle.std.specs.Prelude.{ℕ}
use Rattle.gate_c.specs.declared.status.Status.{Status}
use Rattle.gate_c.specs.declared.status.Status.TheVariants as statuses

abbrev pub code_of : Status → ℕ
code_of statuses.Done = 0
code_of statuses.Denied = 1
code_of statuses.BufferTooSmall = 2
code_of statuses.OutOfMemory = 3
code_of statuses.NotOpen = 4
code_of statuses.AlreadyOpen = 5
code_of statuses.OpeningRefused = 6
code_of statuses.LineTooLong = 7
code_of statuses.ReplyKept = 8

abbrev pub done : ℕ
done = code_of statuses.Done
