use Rattle.std.proofs.Common.{◌≡◌, length, arith, ◌∙◌}
use Rattle.prepared_font.proofs.WordLemmas.{word_here, word_before}
use Rattle.prepared_font.proofs.putting.put_word.Goals as goal

pub returns-clause-here : goal.returns-clause-here
returns-clause-here c =
    let written : c.copy_from_slice.new.self ≡ c.args.word = c.copy_from_slice.ensures.after in
    let long : length c.copy_from_slice.new.self ≡ 4 = grind (arith, written) in
    word_here c.args.room.now c.copy_from_slice.new.self _ c.args.i (omega arith) long ∙ written

pub returns-clause-before : goal.returns-clause-before
returns-clause-before c = λ k lt. word_before c.args.room.now _ c.args.i k (omega arith) lt
