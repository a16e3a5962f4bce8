-- this many empty lists were made
use Rattle.std.proofs.Common.{◌≡◌, [], replicate}
use Rattle.set_run.proofs.answer_lists.AnswerLists.new.Given as goal

abbrev pub invariant-loop-made : goal.invariant-loop-made
invariant-loop-made l = l.lists.items ≡ replicate l.made []
