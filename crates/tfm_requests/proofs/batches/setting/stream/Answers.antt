use Rattle.std.proofs.Common.{arith, rules, List, [], ◌∷◌, ◌≡◌, codes, refl, subst, sym, ◌∙◌}
use Rattle.std.specs.Arc.{arc_value}
use Rattle.std.specs.List.{AllZip}
use Rattle.std.proofs.lemmas.Bool.{eqb-true}
use Rattle.std.proofs.lemmas.List.{nil_from_length}
use Rattle.std.proofs.lemmas.Slice.Eq.{bytes_eq-Decides}
use Rattle.set_line.specs.Terms.{TermsValue}
use Rattle.line_chunks.specs.Reading.{Told, told_unread}
use Rattle.tfm_requests.specs.Jobs.{IsSourceWith}
use Rattle.tfm_requests.specs.Known.{stream_bytes_of}
use Rattle.tfm_requests.specs.Requests.{IsPrinted}
use Rattle.tfm_requests.specs.Status.{done_status}
use Rattle.tfm_requests.proofs.SourceLemmas.{source_of_itself}
use Rattle.tfm_requests.proofs.batches.setting.stream.Goals as goal

pub returns-then-eq-clause-cause : goal.returns-then-eq-clause-cause
returns-then-eq-clause-cause g c =
    let setting = c.args.batch.now.setting.now in
    let none = eqb-true setting.files.len 0 (sym c.is_empty.ensures ∙ c.if-not-is_empty.false) in
    (nil_from_length setting.files.items (omega (arith, none, setting.files.ok.0)), (bytes_eq-Decides setting.font.now (codes "-")).0 (sym c.eq.ensures ∙ c.if-eq.true))

pub returns-clause-text : goal.returns-clause-text
returns-clause-text g c =
    let setting = c.args.batch.now.setting.now in
    let known = g.F.Opens.known c.args.files.now in
    let bytes = g.I.Read.remaining c.args.input.now in
    let terms = arc_value c.in_ok-terms.terms in
    let told : List (Told × TermsValue) = (told_unread setting.layout.crlf bytes, terms) ∷ [] in
    let none : setting.files.items ≡ [] = nil_from_length setting.files.items (omega (arith, eqb-true setting.files.len 0 (sym c.is_empty.ensures ∙ c.if-not-is_empty.false), setting.files.ok.0)) in
    let same : g.I.Read.remaining c.setting_terms.new.input ≡ bytes = search rules in
    let text = rw c.in_ok-readers.ensures at c.in_ok-set_readers.ensures.text in
    let printed : IsPrinted c.args.batch.now.delivery told (record { encoding = c.in_ok-encoding.encoding; format = setting.layout.format })
    (g.O.Write.contents c.args.out.now) (g.O.Write.contents c.set_readers.new.out) (done_status c.in_ok-set_readers.field-0) =
    subst (λ left. IsPrinted c.args.batch.now.delivery ((told_unread setting.layout.crlf left, terms) ∷ [])
    (record { encoding = c.in_ok-encoding.encoding; format = setting.layout.format })
    (g.O.Write.contents c.args.out.now) (g.O.Write.contents c.set_readers.new.out) (done_status c.in_ok-set_readers.field-0)) same text in
    let are : AllZip (IsSourceWith setting.layout terms) (stream_bytes_of known bytes setting.files.items) told =
    subst (λ files. AllZip (IsSourceWith setting.layout terms) (stream_bytes_of known bytes files) told) (sym none) ((source_of_itself setting.layout.crlf bytes, refl), tt) in
    (c.in_ok-encoding.encoding, search rules, (told, (terms, search rules, are), printed))
