-- The text that the program prints after its name if the output wasn't written completely.
-- This project's own; the text of a font error is defined in FaultWords of `font_texts`.
use Rattle.std.specs.Prelude.{ℕ, List, ◌++◌, codes}
use Rattle.font_texts.specs.FaultWords.{fault_words}
use Rattle.batch.specs.declared.run_fault.RunFault.{RunFault}
use Rattle.batch.specs.declared.run_fault.RunFault.TheVariants.{TooManySources, OutOfMemory as NoMemory, Thread}
use Rattle.run_texts.specs.declared.fault.ToolFault.{ToolFault}
use Rattle.run_texts.specs.declared.fault.ToolFault.TheVariants.{Font, Run, OutOfMemory, Write}

-- the text of the reason why a batch failed
unfoldable pub run_fault_text : RunFault → List ℕ
run_fault_text TooManySources = codes "more than 64 files"
run_fault_text NoMemory = codes "out of memory"
run_fault_text Thread = codes "no thread"

-- the text of the reason why the output wasn't written completely; the text of a font error begins with its
-- number
unfoldable pub tool_fault_text : ToolFault → List ℕ
tool_fault_text (Font fault) = codes "font refused: " ++ fault_words fault
tool_fault_text (Run fault) = run_fault_text fault
tool_fault_text OutOfMemory = codes "out of memory"
tool_fault_text Write = codes "output failed"
