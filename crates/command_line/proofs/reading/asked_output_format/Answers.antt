use Rattle.std.proofs.Common.{◌≡◌, Some, Bor, List, ℕ, codes, rules}
use Rattle.clap.specs.Words.{first_of, found_of, rows_of}
use Rattle.command_line.specs.Asked.{output_format_word}
use Rattle.command_line.proofs.ValueLemmas.{no_part}
use Rattle.command_line.proofs.reading.asked_output_format.Goals as goal

pub returns-in_err-text : goal.returns-in_err-text
returns-in_err-text c =
    let given = first_of (codes "format") (rows_of (found_of c.args.matches.now)) in
    no_part (λ (text : Bor (List ℕ)). given ≡ Some text.now) (λ word. given ≡ Some (output_format_word word)) (λ word. record { ref_ptr = (0, 0); now = output_format_word word })
    c.text.result c.from_residual.result c.text.ensures (search rules) (search rules) (λ word is. is)
