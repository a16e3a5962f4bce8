use Rattle.std.proofs.Common.{[]}
use Rattle.tfm_requests.specs.Checking.{separator_of}
use Rattle.tfm_requests.proofs.CheckingLemmas.{none_added}
use Rattle.tfm_requests.proofs.NameLemmas.{none_in, unread_in}
use Rattle.tfm_requests.proofs.font_list.check_list.Goals as goal

pub returns-in-None-clause-text : goal.returns-in-None-clause-text
returns-in-None-clause-text g c = λ start unread. (
  [],
  none_in (separator_of c.args.list.1) g.F.File.Read.remaining start c.args.list.0 c.in-None.is,
  none_added c.args.fonts.now.layout (g.F.Opens.known c.args.fonts.now.files.now) (g.O.Write.contents c.args.out.now) c.args.first.0,
)

pub returns-in-Input-clause-text : goal.returns-in-Input-clause-text
returns-in-Input-clause-text g c = λ start unread. (
  [],
  unread_in (separator_of c.args.list.1) g.F.File.Read.remaining start c.args.list.0 c.in-Input.is,
  none_added c.args.fonts.now.layout (g.F.Opens.known c.args.fonts.now.files.now) (g.O.Write.contents c.args.out.now) c.args.first.0,
)
