-- The end of the output of a batch: its errors, and the exit status for its summary.
-- This project's own.
use Rattle.std.specs.Prelude.{ℕ, ◌==◌, Bool, true, false, if◌then◌else◌}
use Rattle.run_texts.specs.declared.fault.ToolFault.{ToolFault}
use Rattle.run_texts.specs.declared.fault.ToolFault.TheVariants.{Font, Run, OutOfMemory, Write}
use Rattle.run_texts.specs.declared.summary.Summary.{Summary}

-- whether an error is one of writing the output: an allocation or the writer failed
abbrev pub is_text_fault : ToolFault → Bool
is_text_fault (Font _) = false
is_text_fault (Run _) = false
is_text_fault OutOfMemory = true
is_text_fault Write = true

-- the exit status after the output was written: a failed allocation comes before a failed read, and a failed
-- read before a refused line
abbrev pub summary_status : Summary → ℕ
summary_status summary =
    if summary.memory then 5 else (if summary.read_failed then 4 else (if summary.refused == 0 then 0 else 1))
