use Rattle.std.proofs.Common.{Bool, false, min, sym, ap, ◌∙◌, ℕ}
use Rattle.std.specs.Option.{option_map_or}
use Rattle.run_texts.specs.ReportText.{is_unread, is_wanting}
use Rattle.run_texts.specs.declared.summary.Summary.{Summary}
use Rattle.run_texts.proofs.LawLemmas.{any_mapped}
use Rattle.run_texts.proofs.run_summary.summary_of.Goals as goal

abbrev summary_from : ℕ → Bool → Bool → Summary
summary_from refused read_failed memory = record { refused = refused; read_failed = read_failed; memory = memory }

pub returns : goal.returns
returns g c = λ lines same.
    ap (λ n. summary_from n c.any_unread.result c.any_out_of_memory.result) same
    ∙ ap (λ b. summary_from (min 18446744073709551615 lines) b c.any_out_of_memory.result)
    (c.any_unread.ensures ∙ sym (any_mapped (λ end. option_map_or is_unread end false) g.L.EndedLane.ended c.args.lanes.now))
    ∙ ap (summary_from (min 18446744073709551615 lines) _)
    (c.any_out_of_memory.ensures ∙ sym (any_mapped (λ end. option_map_or is_wanting end false) g.L.EndedLane.ended c.args.lanes.now))
