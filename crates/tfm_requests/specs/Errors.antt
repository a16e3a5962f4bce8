-- The error of a phase of a request for an error of a lower crate or of a read.
-- This project's own.
use Rattle.std.specs.Prelude.{ℕ}
use Rattle.tfm_tables.specs.declared.fault.FontFault.{FontFault}
use Rattle.tfm_tables.specs.declared.fault.FontFault.TheVariants.{OutOfMemory as NoRoom}
use Rattle.tfm_requests.specs.declared.failures.errors.EncodingError.{EncodingError}
use Rattle.tfm_requests.specs.declared.failures.errors.EncodingError.TheVariants.{NotRead as EncodingUnread, OutOfMemory as EncodingMemory}
use Rattle.tfm_requests.specs.declared.failures.errors.FontError.{FontError}
use Rattle.tfm_requests.specs.declared.failures.errors.FontError.TheVariants.{NotRead, Refused, OutOfMemory}
use Rattle.tfm_requests.specs.declared.failures.errors.JobError.{JobError}
use Rattle.tfm_requests.specs.declared.failures.errors.JobError.TheVariants.{NotRead as JobUnread, Refused as JobRefused, OutOfMemory as JobMemory}
use Rattle.tfm_requests.specs.declared.failures.errors.ReadFault.{ReadFault}
use Rattle.tfm_requests.specs.declared.failures.errors.ReadFault.TheVariants.{NotRead as Unread, OutOfMemory as ReadMemory}

-- the error of a font that wasn't read
abbrev pub font_error_of_read : ReadFault → FontError
font_error_of_read Unread = NotRead
font_error_of_read ReadMemory = OutOfMemory

-- the error of a font that isn't accepted
abbrev pub font_error_of : FontFault → FontError
font_error_of NoRoom = OutOfMemory
font_error_of fault = Refused fault

-- the error of the font of the job with this number
abbrev pub job_error_of : ℕ → FontError → JobError
job_error_of number NotRead = JobUnread number
job_error_of number (Refused fault) = JobRefused number fault
job_error_of number OutOfMemory = JobMemory

-- the error of an encoding vector that wasn't read
abbrev pub encoding_error_of : ReadFault → EncodingError
encoding_error_of Unread = EncodingUnread
encoding_error_of ReadMemory = EncodingMemory
