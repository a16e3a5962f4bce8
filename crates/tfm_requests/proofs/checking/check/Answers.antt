use Rattle.std.proofs.Common.{[], ap, map, subst}
use Rattle.check_texts.specs.Tallies.{tally_of}
use Rattle.tfm_requests.specs.Checking.{AddsFonts, separator_of}
use Rattle.tfm_requests.specs.Known.{font_bytes_of}
use Rattle.tfm_requests.specs.Status.{done_status}
use Rattle.tfm_requests.proofs.CheckingLemmas.{all_checked}
use Rattle.tfm_requests.proofs.checking.check.Goals as goal

pub returns-clause-text : goal.returns-clause-text
returns-clause-text g c =
    let contents = λ (out : g.row.O.Denot). g.O.Write.contents out in
    let known = g.F.Opens.known c.args.files.now in
    let asked = c.args.asked.now in
    let start = g.I.Read.remaining c.args.input.now in
    let before = contents c.args.out.now in
    let now = contents c.check_fonts.new.out in
    let fonts = subst (λ names. AddsFonts asked.layout (font_bytes_of known start) (map (λ name. name.now) names) before (tally_of []) now c.in_ok-first.first.0)
    c.as_slice.ensures.value c.in_ok-first.ensures.text in
    let listed = c.in_ok-tally.ensures.text start (λ is. ap g.I.Read.remaining (c.in_ok-first.ensures.unread is)) in
    let named = c.in_ok-list.ensures start (separator_of asked.null) c.in_ok-tally.ended listed.0 listed.1 in
    all_checked known start asked before now (contents c.check_list.new.out) (contents c.write_summary.new.out) (contents c.flush.new.out)
    c.in_ok-first.first.0 c.in_ok-tally.tally listed.0 c.in_ok-tally.ended (done_status c.done_of.result) fonts named listed.2 c.in_ok-write_summary.ensures.text c.flush.ensures.kept c.done_of.ensures
