-- The error of a batch and its output for an error of a lower crate: the reason why a collector takes no more
-- results, or a font error.
-- This project's own.
use Rattle.tfm_tables.specs.declared.fault.FontFault.{FontFault}
use Rattle.tfm_tables.specs.declared.fault.FontFault.TheVariants.{OutOfMemory as NoRoom}
use Rattle.batch.specs.declared.collector.Refusal.{Refusal}
use Rattle.batch.specs.declared.collector.Refusal.TheVariants.{OutOfMemory as NoMemory, Output}
use Rattle.run_texts.specs.declared.fault.ToolFault.{ToolFault}
use Rattle.run_texts.specs.declared.fault.ToolFault.TheVariants.{Font, OutOfMemory, Write}

-- the error for the reason why a collector takes no more results
abbrev pub fault_of : Refusal → ToolFault
fault_of NoMemory = OutOfMemory
fault_of Output = Write

-- the error for a `FontFault`: `OutOfMemory` if an allocation failed, otherwise the font error
abbrev pub fault_of_font : FontFault → ToolFault
fault_of_font NoRoom = OutOfMemory
fault_of_font fault = Font fault
