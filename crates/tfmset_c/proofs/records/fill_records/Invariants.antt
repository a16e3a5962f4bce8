use Rattle.std.proofs.Common.{◌≡◌, ◌+◌, ◌^◌, ◌<◌, true, length}
use Rattle.formats.specs.declared.record_format.RecordFormat.TheVariants.{Items}
use Rattle.line_records.specs.Cells.{style_of}
use Rattle.set_line.specs.Returns.{lines_in}
use Rattle.tfmset_c.specs.Arrays.{IsPartly}
use Rattle.tfmset_c.specs.Records.{records_told}
use Rattle.tfmset_c.proofs.records.fill_records.Given as goal

abbrev pub invariant-loop-bytes : goal.invariant-loop-bytes
invariant-loop-bytes l = record {
  style : l.writer ≡ style_of l.text.terms.now (Items l.form.version);
  partly : IsPartly (records_told l.text.terms.now l.form l.form.first true l.text.call_limit (lines_in l.text.crlf l.text.bytes.now))
      (records_told l.text.terms.now l.form l.number l.is_first l.left (lines_in l.text.crlf l.rest)) l.at l.initial.records l.records;
  countable : l.number + length l.rest < 2 ^ 64;
}

abbrev pub decreases-loop-bytes : goal.decreases-loop-bytes
decreases-loop-bytes l = length l.rest
