use Rattle.std.proofs.Common.{rules, arith, ◌≤◌, length}
use Rattle.std.specs.Arc.{arc_value}
use Rattle.tfm_requests.specs.Jobs.{told_with_terms}
use Rattle.tfm_requests.proofs.CauseLemmas.{few_sources}
use Rattle.tfm_requests.specs.Told.{told_reader}
use Rattle.tfm_requests.proofs.batches.setting.set_files.Goals as goal

pub set_readers-requires-after_bounds : goal.set_readers-requires-after_bounds
set_readers-requires-after_bounds g c κs within =
    let few : length c.args.batch.now.setting.now.files.items ≤ 64 = search rules in
    omega (
      arith,
      c.in_ok-readers.readers.ok.0,
      few_sources (told_with_terms (told_reader g.F.File.Read.remaining c.args.batch.now.setting.now.layout.crlf)) (g.F.Opens.known c.args.files.now)
          c.args.batch.now.setting.now.layout (arc_value c.in_ok-terms.terms) c.args.batch.now.setting.now.files.items c.in_ok-readers.readers.items c.in_ok-readers.ensures few,
    )
