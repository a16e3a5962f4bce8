-- The exit status of the program for the end of a request and for each failure.
-- The table is this project's own; 2 for invalid arguments is common use.
use Rattle.std.specs.Prelude.{ℕ, Bool, true, false}
use Rattle.run_texts.specs.declared.fault.ToolFault.{ToolFault}
use Rattle.run_texts.specs.declared.fault.ToolFault.TheVariants.{Font, Run, OutOfMemory, Write}
use Rattle.batch.specs.declared.run_fault.RunFault.TheVariants.{TooManySources, OutOfMemory as RunOutOfMemory, Thread}
use Rattle.tfm_requests.specs.declared.failures.done.Done.{Done}
use Rattle.tfm_requests.specs.declared.failures.done.Done.TheVariants.{AllSet, SomeRefused, FontNotRead, FileNotEnded, LaneAbandoned}
use Rattle.tfm_requests.specs.declared.failures.errors.RequestError.TheVariants.{OutOfMemory as RequestMemory}
use Rattle.tfm_requests.specs.declared.failures.errors.FontError.TheVariants.{NotRead, Refused, OutOfMemory as FontMemory}
use Rattle.tfm_requests.specs.declared.failures.errors.EncodingError.TheVariants.{NotRead as EncodingUnread, Refused as EncodingRefused, OutOfMemory as EncodingMemory}
use Rattle.tfm_requests.specs.declared.failures.errors.FileError.TheVariants.{NotOpened, OutOfMemory as FileMemory}
use Rattle.tfm_requests.specs.declared.failures.errors.JobError.TheVariants.{NotRead as JobUnread, Refused as JobRefused, OutOfMemory as JobMemory}
use Rattle.tfm_requests.specs.declared.failures.failure.Failure.{Failure}
use Rattle.tfm_requests.specs.declared.failures.failure.Failure.TheVariants.{Usage, Request, Font as OfFont, JobFont, Encoding, File, Tool}

-- the exit status for the end of a request whose whole output was written
abbrev pub done_status : Done → ℕ
done_status AllSet = 0
done_status SomeRefused = 1
done_status FontNotRead = 4
done_status FileNotEnded = 4
done_status LaneAbandoned = 5

-- the exit status for an error of a batch or of the output
abbrev pub tool_status : ToolFault → ℕ
tool_status (Font _) = 3
tool_status (Run TooManySources) = 2
tool_status (Run RunOutOfMemory) = 5
tool_status (Run Thread) = 5
tool_status OutOfMemory = 5
tool_status Write = 5

-- the exit status for a failure
abbrev pub status_of : Failure → ℕ
status_of (Usage _) = 2
status_of (Request RequestMemory) = 5
status_of (Request _) = 2
status_of (OfFont (Refused _)) = 3
status_of (OfFont NotRead) = 4
status_of (OfFont FontMemory) = 5
status_of (JobFont (JobRefused _ _)) = 3
status_of (JobFont (JobUnread _)) = 4
status_of (JobFont JobMemory) = 5
status_of (Encoding (EncodingRefused _)) = 3
status_of (Encoding EncodingUnread) = 4
status_of (Encoding EncodingMemory) = 5
status_of (File (NotOpened _)) = 4
status_of (File FileMemory) = 5
status_of (Tool fault) = tool_status fault

-- whether a failure can come while the output is written: an allocation or the writer failed
abbrev pub is_stop : Failure → Bool
is_stop (Tool OutOfMemory) = true
is_stop (Tool Write) = true
is_stop _ = false
